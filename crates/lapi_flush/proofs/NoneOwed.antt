-- Where acknowledgements go out at once, none is owed.
use Rattle.std.proofs.Common.{◌≡◌, ℕ, ◌==◌, false, ◌&&◌, ◌||◌, not, List, [], ◌∷◌, length, Some, None, refl, sym, ap, ◌∙◌, subst}
use Rattle.std.specs.Prelude.{slice_get, nat_lt}
use Rattle.std.proofs.lemmas.Bool.{and_right, cond-false, cond_both}
use Rattle.lapi_base.specs.declared.script.Script.{Script}
use Rattle.lapi_base.specs.declared.rule.Rules.{Rules}
use Rattle.lapi_base.specs.declared.schedule.Act.{Act}
use Rattle.lapi_base.specs.declared.schedule.Act.TheVariants.{Step, Poll, Tick, Deliver, Cut, Inject}
use Rattle.lapi_base.specs.declared.reply.Reply.TheVariants.{Idle}
use Rattle.lapi_base.specs.declared.packet.Packet.{Packet}
use Rattle.lapi_base.specs.declared.packet.Packet.TheVariants.{Data, Ack}
use Rattle.lapi_base.specs.Packet.Layout.{holds_back}
use Rattle.lapi_base.specs.Record.Operations.{statements}
use Rattle.lapi_base.specs.Record.Refusals.{next, refusal_of}
use Rattle.lapi_base.specs.Record.Jobs.{queue, runs}
use Rattle.lapi_base.specs.Packet.Spelling.{refusal}
use Rattle.lapi_base.specs.Packet.PacketBytes.{packet_size}
use Rattle.lapi_base.specs.Record.Wires.{Run, start, owed_ack}
use Rattle.lapi_base.specs.Record.Acts.{poll, tick, hand_over, deliver, deliver_entry, unless_refused, add_event, reply_with, step, begin_first, begin_at, begin, end_at, end, cut_entry, perform, after, run_of}
use Rattle.lapi_base.specs.Record.WorldView.{record_of, IsRecord}

module _ (script : Script) (rules : Rules) where
  -- acknowledgements go out at once, and none is owed
  abbrev pub IsPaid : Run → Type 0
  IsPaid r = (holds_back script ≡ false) × ((a b : ℕ) → r.owed a b ≡ false)

  hand_over-paid : (r : Run) (a b : ℕ) (p : Packet) → IsPaid r → IsPaid (hand_over script rules r a b p)
  unfolding hand_over
  hand_over-paid r a b (Ack layout from to least bits) h = h
  hand_over-paid r a b (Data p) h = (h.0, λ x y. ap (λ u. (u && (x == a && y == b)) || r.owed x y) h.0 ∙ h.1 x y)

  perform-paid : (r : Run) (act : Act) → IsPaid r → IsPaid (perform script rules packet_size refusal r act)
  unfolding perform step poll tick deliver begin end
  perform-paid r (Step a) h =
      cond_both (nat_lt (next r.journal a) (length (statements script a))) (add_event script rules r (unless_refused script rules r a (next r.journal a) (refusal_of script rules r.journal a (next r.journal a)))) (reply_with script rules r Idle) IsPaid
      (λ _. elim (unless_refused script rules r a (next r.journal a) (refusal_of script rules r.journal a (next r.journal a))) as (λ o. IsPaid (add_event script rules r o)) [ None ↦ h | Some e ↦ h ])
      (λ _. h)
  perform-paid r (Poll t) h = (h.0, λ a b. and_right (not (b == t)) (r.owed a b) (h.1 a b))
  perform-paid r (Tick t) h = h
  perform-paid r (Deliver a b k) h = elim (slice_get (r.wire a b) k) as (λ o. IsPaid (deliver_entry script rules r a b o)) [ None ↦ h | Some p ↦ hand_over-paid r a b p h ]
  perform-paid r (Cut a b k n) h = elim (slice_get (r.wire a b) k) as (λ o. IsPaid (cut_entry script rules packet_size r n o)) [ Some p ↦ h | None ↦ h ]
  perform-paid r (Inject a b bytes) h = h
  perform-paid r (Act.Begin t w) h =
      elim (runs r.journal t w) as (λ o. IsPaid (begin_at script rules r t w o)) [
        | Some m ↦ h
        | None ↦ elim (queue script rules r.journal t) as (λ ms. IsPaid (begin_first script rules r t w ms)) [ [] ↦ h | m ∷ ms ↦ h ]
      ]
  perform-paid r (Act.End t w) h = elim (runs r.journal t w) as (λ o. IsPaid (end_at script rules r t w o)) [ None ↦ h | Some m ↦ h ]

  pub after-paid : (acts : List Act) (r : Run) → IsPaid r → IsPaid (after script rules packet_size refusal r acts)
  unfolding after
  after-paid [] r h = h
  after-paid (act ∷ acts) r h = after-paid acts (perform script rules packet_size refusal r act) (perform-paid r act h)

  pub record-paid : (r : Run) → IsRecord script rules r → holds_back script ≡ false → IsPaid r
  unfolding record_of run_of
  record-paid r is now = subst IsPaid (sym is.2) (after-paid is.0 start (now, λ a b. refl))

  -- so a Poll adds no acknowledgement
  pub none-owed : (r : Run) (a b : ℕ) → IsPaid r → owed_ack script rules r a b ≡ []
  unfolding owed_ack
  none-owed r a b h = cond-false (r.owed a b) _ [] (h.1 a b)
