use Rattle.std.proofs.Common.{get_or, refl, subst}
use Rattle.std.proofs.lemmas.Option.{get_or_from_slice_get}
use Rattle.std.specs.Prelude.{Result, Ok, Err, OnOk, IfOk}
use Rattle.lapi_handlers.specs.Handlers.{rules_of}
use Rattle.lapi_task.specs.Answered.{answer_to}
use Rattle.lapi_task.specs.Landed.{HasCome}
use Rattle.lapi_task.proofs.Receiving.MayCome.{read-there}
use Rattle.lapi_task.proofs.task.receiving.take.Goals as goal

-- what follows from a fact of what an Ok holds and from two facts of the answer Ok
if-ons : {A B : Type 0} (P : A → Type 0) (Q R : Type 0) (S : A → Type 0) (result : Result A B) → ((x : A) → P x → Q → R → S x) → IfOk result P → OnOk result Q → OnOk result R → IfOk result S
if-ons P Q R S (Ok x) f p q r = f x p q r
if-ons P Q R S (Err e) f p q r = p

pub arrive-requires : goal.arrive-requires
arrive-requires g c = c.requires.come.takes (get_or c.args.receivers.now c.args.from c.index-receivers-from.result) (read-there c.args.receivers.now c.args.from c.index-receivers-from.result c.requires.come.there)

pub returns : goal.returns
returns g c =
    if-ons _ _ _ _ c.answer.result
    (λ message whole calls keeps end there.
    let same = get_or_from_slice_get c.args.receivers.now c.args.from end c.index-receivers-from.result there in
    let p = c.args.packet.now in
    subst (HasCome c.args.receivers.now _ c.args.from p (answer_to (rules_of c.args.handlers.now) p.name p.head p.length) message c.args.events.now _) same
    (record {
      arrival = c.in_ok-arrival.arrival;
      mid = c.arrive.new.self;
      end = c.answer.new.receiver;
      ends = refl;
      stands = c.in_ok-arrival.ensures.kept;
      once = c.in_ok-arrival.ensures.once;
      message = c.in_ok-arrival.ensures.whole;
      told = c.in_ok-arrival.ensures.arrival;
      answers = c.in_ok-arrival.ensures.answers;
      keeps = keeps;
      whole = whole;
      calls = calls;
    }))
    c.answer.ensures.message c.answer.ensures.events c.answer.ensures.kept
