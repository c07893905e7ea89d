-- What a task tells another one that it took is the acknowledgement of the record.
use Rattle.std.proofs.Common.{◌≡◌, ℕ, ◌+◌, List, [], ◌∷◌, ◌++◌, get_or, Some, None, refl, sym, ap, ◌∙◌, subst}
use Rattle.std.specs.Prelude.{slice_get}
use Rattle.lapi_base.specs.declared.script.Script.{Script}
use Rattle.lapi_base.specs.declared.packet.Packet.{Packet}
use Rattle.lapi_base.specs.declared.packet.Packet.TheVariants.{Ack}
use Rattle.lapi_base.specs.declared.wire.WireEntry.{WireEntry}
use Rattle.lapi_base.specs.Packet.Layout.{window_of}
use Rattle.lapi_base.specs.Packet.PacketBytes as written
use Rattle.lapi_base.specs.Record.Arrived.{least_number, ack_of}
use Rattle.lapi_base.specs.Record.Below.{bits_of}
use Rattle.lapi_base.specs.Record.Wires.{has_number}
use Rattle.lapi_base.proofs.ListLaws.{at-place}
use Rattle.lapi_link.specs.Receiver.{ReceivingEnd, ReceivesFor}
use Rattle.lapi_window.specs.RecvWindow.{base_of, is_taken}
use Rattle.lapi_task.specs.declared.task.Task.{Task}
use Rattle.lapi_task.specs.Acknowledging.{ReceivesAt, HasTaken, answer}
use Rattle.lapi_task.specs.Alone.{answer_by, answer_now}

-- what is told by the end of the link alone
pub told-alone : (task : Task) (from : ℕ) (end : ReceivingEnd) → slice_get task.receivers.items from ≡ Some end → (base bits : ℕ) → base ≡ base_of end.window → bits ≡ bits_of end.window.window (λ i. is_taken end.window (base_of end.window + i)) → (old new : List WireEntry) (bytes : List ℕ) → bytes ≡ written.packet (Ack task.sizes.layout task.state.number from base bits) → new ≡ old ++ record { to = from; bytes = bytes } ∷ [] → new ≡ old ++ answer_now task from
told-alone task from end here base bits is set old new bytes spells put =
    put
    ∙ ap (λ (bs : List ℕ). old ++ record { to = from; bytes = bs } ∷ []) (spells ∙ (λ i. written.packet (Ack task.sizes.layout task.state.number from (is i) (set i))))
    ∙ ap (λ o. old ++ answer_by task.sizes.layout task.state.number from o) (sym here)

module _ (script : Script) where
  receives-at : (ps : List Packet) (ends : List ReceivingEnd) (n : ℕ) (end : ReceivingEnd) → ReceivesAt script ps (slice_get ends n) → end ≡ get_or ends n end → ReceivesFor script end ps
  receives-at ps ends n end there read =
      elim (slice_get ends n) as (λ o. slice_get ends n ≡ o → ReceivesAt script ps o → ReceivesFor script end ps) [
        | None ↦ λ _ h. absurd h
        | Some x ↦ λ e h. subst (λ y. ReceivesFor script y ps) (sym (at-place ends n x end e read)) h
      ] refl there

  -- what is told of these packets, in a layout and from task number
  told-is : (ps : List Packet) (layout from t number base bits : ℕ) → layout ≡ script.layout → number ≡ t → (base ≡ least_number ps) × (bits ≡ bits_of (window_of script) (λ i. has_number ps (least_number ps + i))) → Ack layout number from base bits ≡ ack_of script ps from t
  unfolding ack_of
  told-is ps layout from t number base bits own same told = λ i. Ack (own i) (same i) from (told.0 i) (told.1 i)

  module _ (t : ℕ) (task : Task) (from : ℕ) (ps : List Packet) (taken : HasTaken script t task from ps) (end : ReceivingEnd) (read : end ≡ get_or task.receivers.items from end) where
    -- so much is told
    module _ (base bits : ℕ) (told : ReceivesFor script end ps → (base ≡ least_number ps) × (bits ≡ bits_of (window_of script) (λ i. has_number ps (least_number ps + i)))) where
      is : Ack task.sizes.layout task.state.number from base bits ≡ ack_of script ps from t
      is = told-is ps task.sizes.layout from t task.state.number base bits taken.layout taken.number (told (receives-at ps task.receivers.items from end taken.receiver read))

      pub answer-put : (old new : List WireEntry) (bytes : List ℕ) → bytes ≡ written.packet (Ack task.sizes.layout task.state.number from base bits) → new ≡ old ++ record { to = from; bytes = bytes } ∷ [] → new ≡ old ++ answer script ps from t ∷ []
      answer-put old new bytes spells put = put ∙ ap (λ (bs : List ℕ). old ++ record { to = from; bytes = bs } ∷ []) (spells ∙ ap written.packet is)
