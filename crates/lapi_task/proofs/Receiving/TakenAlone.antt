-- What a packet that was received did at its task, with no record named.
use Rattle.std.proofs.Common.{◌≡◌, ℕ, ◌<◌, ◌==◌, ◌||◌, ◌&&◌, Bool, true, List, ◌++◌, length, Option, Some, None, sym, ap, ◌∙◌}
use Rattle.std.specs.Prelude.{slice_get, slice_set}
use Rattle.std.proofs.lemmas.List.{append-nil, set-get_or}
use Rattle.std.proofs.lemmas.Option.{get_or_from_slice_get}
use Rattle.lapi_base.specs.declared.event.Event.{Event}
use Rattle.lapi_base.specs.declared.handler.HeaderOut.{HeaderOut}
use Rattle.lapi_base.specs.declared.packet.DataPacket.{DataPacket}
use Rattle.lapi_base.specs.Packet.Layout.{layout_of, waits_for_poll}
use Rattle.lapi_base.proofs.ListLaws.{get-set}
use Rattle.lapi_window.specs.RecvWindow.{is_taken}
use Rattle.lapi_reassembly.specs.declared.message.Message.{Message}
use Rattle.lapi_link.specs.Receiver.{ReceivingEnd}
use Rattle.lapi_task.specs.declared.outcome.Outcome.{Outcome}
use Rattle.lapi_task.specs.declared.task.Task.{Task}
use Rattle.lapi_task.specs.declared.unfinished.Unfinished.{Unfinished}
use Rattle.lapi_task.specs.Alone.{has_come, has_taken, answer_at_once, is_owed, owes, IsAsBefore, DataIsReceived}
use Rattle.lapi_task.specs.Landed.{HasCome, HasArrived, events_of}
use Rattle.lapi_task.specs.MayReceive.{DataFits}
use Rattle.lapi_task.specs.Unfinished.{flags_landed}
use Rattle.lapi_task.proofs.Acknowledging.OwedFlags.{flags_then, owes-more}
use Rattle.lapi_task.proofs.Receiving.MayCome.{numbers-then, end-same, came-none, called-none}

-- an end in place of itself
same-set : {X : Type 0} (xs : List X) (n : ℕ) (x : X) → slice_get xs n ≡ Some x → slice_set xs n x ≡ xs
same-set xs n x e = ap (slice_set xs n) (sym (get_or_from_slice_get xs n x x e)) ∙ set-get_or xs n x

module _ (task mid : Task) (a : ℕ) (p : DataPacket) (end : ReceivingEnd) (there : slice_get task.receivers.items a ≡ Some end) (fits : DataFits task a p end) (now : Option HeaderOut) (came : Option Message) (events during : List Event) (own : HasCome task.receivers.items mid.receivers.items a p now came events during end) (keeps : mid ≡ record task { receivers = mid.receivers }) (count : ℕ) (after : Task) (new : List Event) (arrived : HasArrived a count came mid after during new) (u : Unfinished) (closed : u ≡ record after.unfinished { undone = flags_landed came after.unfinished.undone }) where
  abbrev then : Task
  then = record after { unfinished = u }

  ends-then : then.receivers.items ≡ slice_set task.receivers.items a own.end
  ends-then = ap (λ (x : Task). x.receivers.items) arrived.rest ∙ own.ends

  pub end-then : slice_get then.receivers.items a ≡ Some own.end
  end-then = ap (λ xs. slice_get xs a) ends-then ∙ get-set task.receivers.items a end own.end there

  numbers : (n : ℕ) → has_taken then a n ≡ (n == p.seq || has_taken task a n)
  numbers n =
      ap (λ o. has_come o n) end-then
      ∙ numbers-then task a p end fits now came task.receivers.items mid.receivers.items events during own n
      ∙ ap (λ o. n == p.seq || has_come o n) (sym there)

  module _ (known : has_taken task a p.seq ≡ true) where
    taken : is_taken end.window p.seq ≡ true
    taken = sym (ap (λ o. has_come o p.seq) there) ∙ known

    none : came ≡ None
    none = came-none task a p end fits now came task.receivers.items mid.receivers.items events during own taken

    after-is : after ≡ mid
    after-is = arrived.none none

    unfinished-is : u ≡ after.unfinished
    unfinished-is = closed ∙ ap (λ o. record after.unfinished { undone = flags_landed o after.unfinished.undone }) none

    then-is : then ≡ mid
    then-is = ap (λ x. record after { unfinished = x }) unfinished-is ∙ after-is

    as-then : then ≡ record task { receivers = then.receivers }
    as-then = then-is ∙ keeps ∙ ap (λ (x : Task). record task { receivers = x.receivers }) (sym then-is)

    receivers-are : then.receivers.items ≡ task.receivers.items
    receivers-are =
        ends-then
        ∙ ap (slice_set task.receivers.items a) (end-same task a p end fits now came task.receivers.items mid.receivers.items events during own taken)
        ∙ same-set task.receivers.items a end there

    no-events : new ≡ events
    no-events =
        arrived.events
        ∙ ap (λ o. during ++ events_of count o) none
        ∙ append-nil during
        ∙ called-none task a p end fits now came task.receivers.items mid.receivers.items events during own taken

  -- and the task told of it, or owes it
  module _ (done : Task) (rest : done ≡ record then { owed = done.owed }) (owing : done.owed.items ≡ flags_then after.owed.items a (waits_for_poll (layout_of after.sizes.layout))) (there-owed : a < length task.owed.items) where
    as-before : has_taken task a p.seq ≡ true → IsAsBefore task done
    as-before known = record {
      receivers = ap (λ (x : Task). x.receivers.items) rest ∙ receivers-are known;
      rest = rest ∙ ap (λ (x : Task). record x { owed = done.owed }) (as-then known) ∙ ap (λ (x : Task). record task { receivers = x.receivers; owed = done.owed }) (sym rest);
    }

    abbrev waits : Task → Bool
    waits x = waits_for_poll (layout_of x.sizes.layout)

    owed-are : done.owed.items ≡ flags_then task.owed.items a (waits task)
    owed-are = owing ∙ ap (λ (x : Task). flags_then x.owed.items a (waits x)) (arrived.rest ∙ ap (λ (x : Task). record x { senders = after.senders; state = record x.state { memory = after.state.memory; counters = after.state.counters; jobs = after.state.jobs; collective = after.state.collective } }) keeps)

    owed : (b : ℕ) → owes done b ≡ ((waits task && b == a) || owes task b)
    owed b = ap (λ (flags : List Bool). is_owed (slice_get flags b)) owed-are ∙ owes-more task.owed.items a there-owed (waits task) b

    pub taken-alone : (old out : Outcome) → old.events ≡ events → out.events ≡ new → out.entries ≡ old.entries ++ answer_at_once then a → DataIsReceived task done a p old out
    taken-alone old out from to added = record {
      numbers = λ n. ap (λ (x : Task). has_taken x a n) rest ∙ numbers n;
      answered = added ∙ ap (λ (x : Task). old.entries ++ answer_at_once x a) (sym rest);
      owed = owed;
      repeat = λ known. (as-before known, to ∙ no-events known ∙ sym from);
    }
