use Rattle.std.proofs.Common.{◌≡◌, ◌≢◌, ◌↔◌, Bool, true, false, ◌∷◌, refl, sym, ap, ◌∙◌, subst, arith}
use Rattle.std.proofs.lemmas.Bool.{false_from_ne_true}
use Rattle.std.proofs.lemmas.Result.{IfOk-weaker, on_ok_weaker}
use Rattle.lapi_base.specs.declared.packet.Packet.TheVariants.{Data}
use Rattle.lapi_window.specs.declared.took.Took.{Took}
use Rattle.lapi_window.specs.declared.took.Took.TheVariants.{Repeat, Fresh}
use Rattle.lapi_window.specs.RecvWindow.{Receiving}
use Rattle.lapi_base.specs.declared.packet.DataPacket.{DataPacket}
use Rattle.lapi_reassembly.specs.Partials.{Gathering}
use Rattle.lapi_link.specs.Receiver.{ReceivingEnd, ReceivesFor, MayTake, answer_of}
use Rattle.lapi_link.proofs.ArrivalLaws.{repeat-kept, repeat-arrival, fresh-arrival, fresh-kept, answers-kept}
use Rattle.lapi_link.proofs.receiver.Receiver.arrive.Goals as goal

not_taken : (b : Bool) → (Fresh ≡ Repeat) ↔ (b ≡ true) → b ≡ false
not_taken b told = false_from_ne_true b (λ e. let same = told.1 e in absurd (cc))

-- what was taken before isn't taken now
not_fresh : (took : Took) → took ≡ Repeat → took ≢ Fresh
not_fresh took e = λ f. absurd (cc)

-- what the end may take, as its fields tell
may-take : (w : Receiving) (g : Gathering) (s : ReceivingEnd) (p : DataPacket) → record { window = w; partials = g } ≡ s → MayTake s p → MayTake (record { window = w; partials = g }) p
may-take w g s p is may = subst (λ x. MayTake x p) (sym is) may

pub put-requires : goal.put-requires
put-requires c = (may-take c.self.inside.window c.self.inside.partials c.args.self.now c.args.packet.now c.self.view_is c.requires).fresh (not_taken _ c.in-Fresh.ensures.repeat)

pub returns-in-Fresh-clause-kept : goal.returns-in-Fresh-clause-kept
returns-in-Fresh-clause-kept c =
    on_ok_weaker c.put.result (λ own script ps receives fits.
    fresh-kept script ps c.args.packet.now c.self.inside.window c.self.inside.partials c.args.self.now c.self.view_is receives fits (not_taken _ c.in-Fresh.ensures.repeat) c.take.new.self c.put.new.partials c.in-Fresh.ensures.window (c.in-Fresh.ensures.fresh refl) c.put.ensures.sizes own c.put.ensures.others) c.put.ensures.name

pub returns-in-Fresh-clause-arrival : goal.returns-in-Fresh-clause-arrival
returns-in-Fresh-clause-arrival c =
    IfOk-weaker c.put.result _ _ (λ arrival answer script ps receives fits.
    answer ∙ fresh-arrival script ps c.args.packet.now c.self.inside.window c.self.inside.partials c.args.self.now c.self.view_is receives fits (not_taken _ c.in-Fresh.ensures.repeat)) c.put.ensures.answer

pub returns-in-Fresh-clause-answers : goal.returns-in-Fresh-clause-answers
returns-in-Fresh-clause-answers c =
    on_ok_weaker c.put.result (λ own m there.
    answers-kept c.self.inside.partials c.put.new.partials c.args.packet.now own c.put.ensures.others m there
    ∙ ap (λ (s : ReceivingEnd). answer_of s m) c.self.view_is) c.put.ensures.name

-- so the packet's number was taken before
pub returns-in-Repeat-clause-kept : goal.returns-in-Repeat-clause-kept
returns-in-Repeat-clause-kept c = λ script ps receives fits.
    subst (λ (w : Receiving). ReceivesFor script (record { window = w; partials = c.self.inside.partials }) (Data c.args.packet.now ∷ ps)) (sym (c.take.ensures.unchanged (not_fresh c.take.result c.in-Repeat.is)))
    (repeat-kept script ps c.args.packet.now c.self.inside.window c.self.inside.partials c.args.self.now c.self.view_is receives fits (c.take.ensures.repeat.0 c.in-Repeat.is))

pub returns-in-Repeat-clause-arrival : goal.returns-in-Repeat-clause-arrival
returns-in-Repeat-clause-arrival c = λ script ps receives fits.
    repeat-arrival script ps c.args.packet.now c.self.inside.window c.self.inside.partials c.args.self.now c.self.view_is receives fits (c.take.ensures.repeat.0 c.in-Repeat.is) (answer_of c.args.self.now c.args.packet.now.name)

pub returns-in-Repeat-clause-answers : goal.returns-in-Repeat-clause-answers
returns-in-Repeat-clause-answers c = λ m there. ap (λ (s : ReceivingEnd). answer_of s m) c.self.view_is

-- and no packet's number lies beyond the window
pub unreachable-requires : goal.unreachable-requires
unreachable-requires c =
    let reach = (may-take c.self.inside.window c.self.inside.partials c.args.self.now c.args.packet.now c.self.view_is c.requires).reach in
    let far = c.take.ensures.beyond.0 c.in-Beyond.is in
    omega (arith, reach, far)
