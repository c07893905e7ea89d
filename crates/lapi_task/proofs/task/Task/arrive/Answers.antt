use Rattle.std.proofs.Common.{◌≡◌, ◌∷◌, length, refl, sym, ap, ◌∙◌, subst}
use Rattle.std.specs.Vec.{with_items}
use Rattle.lapi_base.specs.declared.packet.Packet.TheVariants.{Data}
use Rattle.lapi_base.proofs.ListLaws.{get-some}
use Rattle.lapi_base.proofs.Results.{on-ok}
use Rattle.lapi_handlers.specs.Handlers.{rules_of}
use Rattle.lapi_task.specs.declared.task.Task.{Task}
use Rattle.lapi_task.specs.Answered.{answer_to}
use Rattle.lapi_task.specs.Landed.{MayCome}
use Rattle.lapi_task.proofs.Receiving.ReceiveLaws.{KeepsRest, Takes, takes-over, has-taken, has-taken-still, arrived-does}
use Rattle.lapi_task.proofs.Receiving.MayCome.{may-call, may-answer-now, follows-spelled, may-land-now, of-statement, as-wide, may-answer, receiver-there, owed-there}
use Rattle.lapi_task.proofs.Receiving.TakenAlone.{taken-alone}
use Rattle.lapi_task.proofs.task.Task.arrive.Goals as goal

pub take-requires-clause-come : goal.take-requires-clause-come
take-requires-clause-come g c =
    let task = c.args.self.now in
    let a = c.args.from in
    let fits = c.requires.may.fits in
    subst (λ ends. MayCome ends a c.args.packet.now) (sym c.deref_mut.ensures.value)
    (record { there = receiver-there task c.requires.stands a c.requires.may.known; takes = λ end here. (fits end here).take })

pub take-requires-clause-call : goal.take-requires-clause-call
take-requires-clause-call g c = may-call c.args.packet.now c.requires.spelled

pub take_effect-requires-clause-allowed : goal.take_effect-requires-clause-allowed
take_effect-requires-clause-allowed g c =
    let task = c.args.self.now in
    let a = c.args.from in
    let p = c.args.packet.now in
    let now = answer_to (rules_of c.args.handlers.now) p.name p.head p.length in
    let end = get-some task.receivers.items a (receiver-there task c.requires.stands a c.requires.may.known) in
    let mid : Task = record task { receivers = with_items task.receivers c.take.new.receivers } in
    let takes : Takes a p now c.in_ok-message.message c.args.out.now.events c.take.new.events task.receivers.items mid.receivers.items = takes-over task.receivers a p now c.in_ok-message.message c.args.out.now.events c.take.new.events c.deref_mut.result.now c.take.new.receivers c.deref_mut.ensures.value c.in_ok-message.ensures in
    may-land-now task a p end.0 (c.requires.may.fits end.0 end.1) now c.in_ok-message.message task.receivers.items mid.receivers.items c.args.out.now.events c.take.new.events (takes end.0 end.1) (length (rules_of c.args.handlers.now).completions)

pub take_effect-requires-clause-follows : goal.take_effect-requires-clause-follows
take_effect-requires-clause-follows g c =
    let task = c.args.self.now in
    let a = c.args.from in
    let p = c.args.packet.now in
    let now = answer_to (rules_of c.args.handlers.now) p.name p.head p.length in
    let end = get-some task.receivers.items a (receiver-there task c.requires.stands a c.requires.may.known) in
    let mid : Task = record task { receivers = with_items task.receivers c.take.new.receivers } in
    let takes : Takes a p now c.in_ok-message.message c.args.out.now.events c.take.new.events task.receivers.items mid.receivers.items = takes-over task.receivers a p now c.in_ok-message.message c.args.out.now.events c.take.new.events c.deref_mut.result.now c.take.new.receivers c.deref_mut.ensures.value c.in_ok-message.ensures in
    let spelled = follows-spelled task c.requires.stands a c.requires.may.known p c.requires.spelled c.requires.may.goes.0 c.requires.may.layout in
    may-answer-now task a p end.0 (c.requires.may.fits end.0 end.1) now c.in_ok-message.message task.receivers.items mid.receivers.items c.args.out.now.events c.take.new.events (takes end.0 end.1) spelled (length (rules_of c.args.handlers.now).completions)

pub arrived-requires : goal.arrived-requires
arrived-requires g c =
    let task = c.args.self.now in
    let a = c.args.from in
    let p = c.args.packet.now in
    let now = answer_to (rules_of c.args.handlers.now) p.name p.head p.length in
    let end = get-some task.receivers.items a (receiver-there task c.requires.stands a c.requires.may.known) in
    let mid : Task = record task { receivers = with_items task.receivers c.take.new.receivers } in
    let takes : Takes a p now c.in_ok-message.message c.args.out.now.events c.take.new.events task.receivers.items mid.receivers.items = takes-over task.receivers a p now c.in_ok-message.message c.args.out.now.events c.take.new.events c.deref_mut.result.now c.take.new.receivers c.deref_mut.ensures.value c.in_ok-message.ensures in
    let undone = c.take_effect.new.self.unfinished.undone in
    let same : length undone ≡ length task.unfinished.undone = ap (λ (x : Task). length x.unfinished.undone) c.in_ok-take_effect.ensures.rest in
    let size : length task.unfinished.undone ≡ length task.statements = c.requires.stands.4.stands.unfinished.size.0 ∙ sym (ap length c.requires.stands.4.stands.calls.statements) in
    of-statement task a p end.0 (c.requires.may.fits end.0 end.1) now c.in_ok-message.message task.receivers.items mid.receivers.items c.args.out.now.events c.take.new.events (takes end.0 end.1) (length undone) (same ∙ size)

pub tell-requires-clause-may : goal.tell-requires-clause-may
tell-requires-clause-may g c =
    let task = c.args.self.now in
    let a = c.args.from in
    let p = c.args.packet.now in
    let now = answer_to (rules_of c.args.handlers.now) p.name p.head p.length in
    let end = get-some task.receivers.items a (receiver-there task c.requires.stands a c.requires.may.known) in
    let mid : Task = record task { receivers = with_items task.receivers c.take.new.receivers } in
    let takes : Takes a p now c.in_ok-message.message c.args.out.now.events c.take.new.events task.receivers.items mid.receivers.items = takes-over task.receivers a p now c.in_ok-message.message c.args.out.now.events c.take.new.events c.deref_mut.result.now c.take.new.receivers c.deref_mut.ensures.value c.in_ok-message.ensures in
    let own = takes end.0 end.1 in
    let rest = c.in_ok-take_effect.ensures.rest in
    let after = c.take_effect.new.self in
    let ends : after.receivers.items ≡ mid.receivers.items = ap (λ (x : Task). x.receivers.items) rest in
    let number : after.state.number ≡ task.state.number = ap (λ (x : Task). x.state.number) rest in
    may-answer task c.requires.stands a c.requires.may.known (record after { unfinished = c.arrived.new.self }) end.0 own.end end.1 (as-wide task a p end.0 (c.requires.may.fits end.0 end.1) now c.in_ok-message.message task.receivers.items mid.receivers.items c.args.out.now.events c.take.new.events (takes end.0 end.1))
    (ends ∙ own.ends) number (ap (λ (x : Task). x.sizes.layout) rest)

pub returns-clause-effect : goal.returns-clause-effect
returns-clause-effect g c =
    let task = c.args.self.now in
    let a = c.args.from in
    let p = c.args.packet.now in
    let rules = rules_of c.args.handlers.now in
    let now = answer_to rules p.name p.head p.length in
    let mid : Task = record task { receivers = with_items task.receivers c.take.new.receivers } in
    let keeps : KeepsRest task mid = record { sizes = refl; statements = refl; limits = refl; rounds = refl; state = refl; unfinished = refl; senders = refl; owed = refl } in
    let takes : Takes a p now c.in_ok-message.message c.args.out.now.events c.take.new.events task.receivers.items mid.receivers.items = takes-over task.receivers a p now c.in_ok-message.message c.args.out.now.events c.take.new.events c.deref_mut.result.now c.take.new.receivers c.deref_mut.ensures.value c.in_ok-message.ensures in
    on-ok _ _ c.tell.result
    (λ answers script t k r at known entry.
    let taken = has-taken-still script rules t r task at a k known p entry c.take_effect.new.self c.arrived.new.self (has-taken script rules t r task at a k known p entry mid keeps now c.in_ok-message.message c.args.out.now.events c.take.new.events takes (length rules.completions) c.take_effect.new.self c.take_effect.new.events c.in_ok-take_effect.ensures) in
    arrived-does script rules t r task at a k known p entry mid keeps now c.in_ok-message.message c.args.out.now.events c.take.new.events takes refl c.take_effect.new.self c.arrived.new.self c.tell.new.self c.args.out.now (record { events = c.take_effect.new.events; entries = c.tell.new.entries }) c.arrived.ensures refl c.in_ok-take_effect.ensures c.tell.ensures.rest c.tell.ensures.owed (answers script t (Data p ∷ r.handed a t) taken))
    c.tell.ensures.packets

pub returns-clause-alone : goal.returns-clause-alone
returns-clause-alone g c =
    let task = c.args.self.now in
    let a = c.args.from in
    let p = c.args.packet.now in
    let now = answer_to (rules_of c.args.handlers.now) p.name p.head p.length in
    let end = get-some task.receivers.items a (receiver-there task c.requires.stands a c.requires.may.known) in
    let mid : Task = record task { receivers = with_items task.receivers c.take.new.receivers } in
    let takes : Takes a p now c.in_ok-message.message c.args.out.now.events c.take.new.events task.receivers.items mid.receivers.items = takes-over task.receivers a p now c.in_ok-message.message c.args.out.now.events c.take.new.events c.deref_mut.result.now c.take.new.receivers c.deref_mut.ensures.value c.in_ok-message.ensures in
    on-ok _ _ c.tell.result
    (λ added. taken-alone task mid a p end.0 end.1 (c.requires.may.fits end.0 end.1) now c.in_ok-message.message c.args.out.now.events c.take.new.events (takes end.0 end.1) refl (length (rules_of c.args.handlers.now).completions) c.take_effect.new.self c.take_effect.new.events c.in_ok-take_effect.ensures c.arrived.new.self c.arrived.ensures c.tell.new.self c.tell.ensures.rest c.tell.ensures.owed (owed-there task c.requires.stands a c.requires.may.known) c.args.out.now (record { events = c.take_effect.new.events; entries = c.tell.new.entries }) refl refl added)
    c.tell.ensures.alone
