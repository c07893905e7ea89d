-- What is owed is held back by the layout, and between tasks that there are.
use Rattle.std.proofs.Common.{◌≡◌, ℕ, ◌<◌, ◌==◌, Bool, true, false, ◌&&◌, List, [], ◌∷◌, ◌++◌, length, Some, None, sym, ap, ◌∙◌, subst, ⊎_elim}
use Rattle.std.specs.Prelude.{slice_get, nat_lt}
use Rattle.std.proofs.lemmas.Bool.{both_ways, false≢true, and_parts, cond_both, cond-false, false_from_ne_true, eqb-true, or_cases}
use Rattle.std.proofs.lemmas.List.{append-nil}
use Rattle.lapi_base.specs.declared.script.Script.{Script}
use Rattle.lapi_base.specs.declared.rule.Rules.{Rules}
use Rattle.lapi_base.specs.declared.schedule.Act.{Act}
use Rattle.lapi_base.specs.declared.schedule.Act.TheVariants.{Step, Poll, Tick, Deliver, Cut, Inject}
use Rattle.lapi_base.specs.declared.reply.Reply.TheVariants.{Idle}
use Rattle.lapi_base.specs.declared.reply.Bad.{Bad}
use Rattle.lapi_base.specs.declared.packet.Packet.{Packet}
use Rattle.lapi_base.specs.declared.packet.Packet.TheVariants.{Data, Ack}
use Rattle.lapi_base.specs.Packet.Layout.{holds_back}
use Rattle.lapi_base.specs.Record.Operations.{statements}
use Rattle.lapi_base.specs.Record.Refusals.{next, refusal_of}
use Rattle.lapi_base.specs.Record.Jobs.{queue, runs}
use Rattle.lapi_base.specs.Record.Valid.{ValidAct}
use Rattle.lapi_base.specs.Record.Wires.{Run, start, packets, to_send, ack, owed_ack}
use Rattle.lapi_base.specs.Record.Acts.{at_once, poll, tick, hand_over, deliver, deliver_entry, unless_refused, add_event, reply_with, step, begin_first, begin_at, begin, end_at, end, cut_entry, perform, run_of}
use Rattle.lapi_base.specs.Laws.Headline.{HoldsOfRuns}
use Rattle.lapi_base.specs.Laws.Links.{OwedAreHeldBack, TellsAtOnce}
use Rattle.lapi_base.proofs.EveryRun.{after-keeps}

module _ (script : Script) (rules : Rules) where
  -- a packet that is handed over between tasks that there are
  hand_over-owed : (r : Run) (a b : ℕ) (p : Packet) → a < script.tasks → b < script.tasks → OwedAreHeldBack script rules r → OwedAreHeldBack script rules (hand_over script rules r a b p)
  unfolding hand_over
  hand_over-owed r a b (Ack layout from to least bits) la lb h x y e = h x y e
  hand_over-owed r a b (Data p) la lb h x y e =
      ⊎_elim
      (λ (new : (holds_back script && (x == a && y == b)) ≡ true).
      let both = and_parts _ _ new in
      let ends = and_parts _ _ both.1 in
      (both.0, subst (λ z. z < script.tasks) (sym (eqb-true x a ends.0)) la, subst (λ z. z < script.tasks) (sym (eqb-true y b ends.1)) lb))
      (λ (old : r.owed x y ≡ true). h x y old)
      (or_cases _ _ e)

  module _ (spells : List ℕ → Bool) (size : Packet → ℕ) (refusal : List ℕ → Bad) where
    pub perform-owed : (r : Run) (act : Act) → ValidAct script spells act → OwedAreHeldBack script rules r → OwedAreHeldBack script rules (perform script rules size refusal r act)
    unfolding perform step poll tick deliver begin end
    perform-owed r (Step a) v h =
        cond_both (nat_lt (next r.journal a) (length (statements script a))) (add_event script rules r (unless_refused script rules r a (next r.journal a) (refusal_of script rules r.journal a (next r.journal a)))) (reply_with script rules r Idle) (OwedAreHeldBack script rules)
        (λ _. elim (unless_refused script rules r a (next r.journal a) (refusal_of script rules r.journal a (next r.journal a))) as (λ o. OwedAreHeldBack script rules (add_event script rules r o)) [ None ↦ h | Some e ↦ h ])
        (λ _. h)
    perform-owed r (Poll t) v h = λ a b e. h a b (and_parts _ _ e).1
    perform-owed r (Tick t) v h = h
    perform-owed r (Deliver a b k) v h = elim (slice_get (r.wire a b) k) as (λ o. OwedAreHeldBack script rules (deliver_entry script rules r a b o)) [ None ↦ h | Some p ↦ hand_over-owed r a b p v.0 v.1 h ]
    perform-owed r (Cut a b k n) v h = elim (slice_get (r.wire a b) k) as (λ o. OwedAreHeldBack script rules (cut_entry script rules size r n o)) [ Some p ↦ h | None ↦ h ]
    perform-owed r (Inject a b bytes) v h = h
    perform-owed r (Act.Begin t w) v h =
        elim (runs r.journal t w) as (λ o. OwedAreHeldBack script rules (begin_at script rules r t w o)) [
          | Some m ↦ h
          | None ↦ elim (queue script rules r.journal t) as (λ ms. OwedAreHeldBack script rules (begin_first script rules r t w ms)) [ [] ↦ h | m ∷ ms ↦ h ]
        ]
    perform-owed r (Act.End t w) v h = elim (runs r.journal t w) as (λ o. OwedAreHeldBack script rules (end_at script rules r t w o)) [ None ↦ h | Some m ↦ h ]

-- the law, of every run
pub run-owed : HoldsOfRuns OwedAreHeldBack
unfolding run_of
run-owed script rules spells size refusal acts v = after-keeps script rules size refusal (ValidAct script spells) (OwedAreHeldBack script rules) (perform-owed script rules spells size refusal) acts start v (λ a b e. absurd (false≢true e))

-- so where the layout holds nothing back, all is told at once
pub owed-told : (script : Script) (rules : Rules) (r : Run) → OwedAreHeldBack script rules r → TellsAtOnce script rules r
unfolding owed_ack at_once
owed-told script rules r held now = (
  none,
  λ told. cond-false (holds_back script) [] (told ∷ []) now,
  λ J a b. ap (λ ps. packets script rules J a b (to_send script rules r J a b) ++ ps) (cond-false (r.owed b a) (ack script rules r b a ∷ []) [] (none b a)) ∙ append-nil (packets script rules J a b (to_send script rules r J a b)),
)
  where
    none : (a b : ℕ) → r.owed a b ≡ false
    none a b = false_from_ne_true (r.owed a b) (λ owed. both_ways _ now (held a b owed).0)

pub run-told : HoldsOfRuns TellsAtOnce
run-told script rules spells size refusal acts v = owed-told script rules (run_of script rules size refusal acts) (run-owed script rules spells size refusal acts v)
