-- What the delivery of a data packet makes of its task.
use Rattle.std.proofs.Common.{◌≡◌, ℕ, ◌<◌, ◌==◌, Bool, true, false, cond, ◌&&◌, ◌||◌, not, List, [], ◌∷◌, ◌++◌, map, length, set, slice_set, Option, Some, None, refl, sym, ap, ◌∙◌, subst, ⊎_elim, append_assoc, arith}
use Rattle.std.specs.Prelude.{slice_get}
use Rattle.std.specs.List.{list_any}
use Rattle.std.specs.Option.{option_or}
use Rattle.std.proofs.lemmas.Bool.{cond-true, cond-false, cond_both, cases_eq, and_from, and_left, and_right, and_parts, not-true, ne_eqb}
use Rattle.std.specs.Vec.{with_items}
use Rattle.std.specs.declared.vec.Vec.{Vec}
use Rattle.std.proofs.lemmas.List.{append-nil, length-set, map-append, with_items_is}
use Rattle.std.proofs.lemmas.List.Folds.{list_any-append}
use Rattle.lapi_base.specs.declared.script.Script.{Script}
use Rattle.lapi_base.specs.declared.rule.Rules.{Rules}
use Rattle.lapi_base.specs.declared.event.Event.{Event}
use Rattle.lapi_base.specs.declared.event.Event.TheVariants.{Land}
use Rattle.lapi_base.specs.declared.handler.HeaderOut.{HeaderOut}
use Rattle.lapi_base.specs.declared.packet.Packet.{Packet}
use Rattle.lapi_base.specs.declared.packet.Packet.TheVariants.{Data}
use Rattle.lapi_base.specs.declared.packet.DataPacket.{DataPacket}
use Rattle.lapi_base.specs.declared.wire.WireEntry.{WireEntry}
use Rattle.lapi_base.specs.declared.reply.Reply.TheVariants.{Did}
use Rattle.lapi_base.specs.Record.Arrived.{ack_of, has_some}
use Rattle.lapi_base.specs.Record.Atomic.{Atomic}
use Rattle.lapi_base.specs.Laws.Landing.{completes}
use Rattle.lapi_base.specs.Record.Values.{memory_bytes}
use Rattle.lapi_base.specs.declared.statement.Statement.{Statement}
use Rattle.lapi_base.specs.Record.Operations.{numbers_below}
use Rattle.lapi_base.specs.Record.Refusals.{round_of}
use Rattle.lapi_base.specs.Record.Wires.{Run, is_number, has_number, has_ack, is_delivered}
use Rattle.lapi_base.specs.Record.Acts.{followed, at_once, hand_over, deliver_entry, deliver}
use Rattle.lapi_base.specs.Packet.PacketBytes as written
use Rattle.lapi_base.proofs.ListLaws.{get-set, get-set-other, some-same}
use Rattle.lapi_base.proofs.TestLaws.{eqb-refl}
use Rattle.lapi_laws.proofs.Lines.{deliver-sound}
use Rattle.lapi_reassembly.specs.declared.message.Message.{Message}
use Rattle.lapi_link.specs.Receiver.{ReceivingEnd, ReceivesFor, MayArrive, WhatArrivesMayBeTaken, WholeIsComplete, gathered_with, answer_of, arrival_of}
use Rattle.lapi_reassembly.specs.Partial.{is_whole}
use Rattle.lapi_window.specs.RecvWindow.{is_taken}
use Rattle.lapi_link.specs.Sender.{entries_to}
use Rattle.lapi_parts.proofs.ArrivingPackets.{arrivals-told, next-acks-told}
use Rattle.lapi_parts.proofs.Records.{record-sound}
use Rattle.lapi_task.specs.declared.outcome.Outcome.{Outcome}
use Rattle.lapi_task.specs.declared.task.Task.{Task}
use Rattle.lapi_task.specs.Acknowledging.{ReceivesAt, HasTaken, answer}
use Rattle.lapi_task.specs.HasEffect.{IsAt, HasEffect, bytes_to}
use Rattle.lapi_task.specs.Landed.{Follower, follower, HeadMayLand, called, is_first, kept_now, ends_after, events_of, HasArrived, HasCome, landed}
use Rattle.lapi_task.specs.MayReceive.{DataFits}
use Rattle.lapi_task.specs.Answered.{KeepsAnswers, completes_in}
use Rattle.lapi_task.specs.declared.state.State.{State}
use Rattle.lapi_task.specs.HasRounds.{MayJoin}
use Rattle.lapi_task.proofs.Receiving.ReceiveHolds.{Lands}
use Rattle.lapi_base.specs.Packet.Layout.{layout_of, waits_for_poll, holds_back}
use Rattle.lapi_task.specs.StandsFor.{SenderAt, ReceiverAt}
use Rattle.lapi_task.proofs.Receiving.ArrivingFits.{arriving-fits}
use Rattle.lapi_task.proofs.Following.HeaderAnswers.{is-told}
use Rattle.lapi_task.proofs.Receiving.ReceiveEvents.{come, come-is, come-told, come-events, first-is, is_opening, came_bytes}
use Rattle.lapi_task.proofs.Receiving.ReceiveHolds.{holds-arrived, answer_now, handlers_now, lands_now, events_now}
use Rattle.lapi_task.proofs.Receiving.ReceiveKinds.{Comes, comes as what-comes, there-is}
use Rattle.lapi_task.proofs.Following.Followers.{follower-is}
use Rattle.lapi_task.proofs.Following.Leaving.{Follows}
use Rattle.lapi_task.proofs.Receiving.ReceiveSuits.{suits-head}
use Rattle.lapi_task.proofs.Receiving.ReceiveLinks.{told, Settled, ends-come, ends-length}
use Rattle.lapi_task.proofs.Acknowledging.OwedFlags.{flags_then, flags-length, owed-more}
use Rattle.lapi_task.proofs.Sending.SenderLaws.{bytes-here, bytes-there, entries-known}
use Rattle.lapi_task.proofs.Following.JoinsLand.{head-joins, joins-may}
use Rattle.lapi_task.proofs.Standing.KeptAnswers.{kept-by, kept-before, still-kept}
use Rattle.lapi_task.proofs.Stepping.StepMemories.{memory-length}
use Rattle.lapi_task.specs.declared.unfinished.Unfinished.{Unfinished}
use Rattle.lapi_task.specs.Unfinished.{flags_landed, Tracks}
use Rattle.lapi_task.proofs.Receiving.ArrivingData.{IsOwnAnswer, own-answer, tracks-come}

-- What has changed only in its receiving ends.
pub record KeepsRest (before after : Task) : Type 0 where
  pub sizes : after.sizes ≡ before.sizes
  pub statements : after.statements ≡ before.statements
  pub limits : after.limits ≡ before.limits
  pub rounds : after.rounds.items ≡ before.rounds.items
  pub state : after.state ≡ before.state
  pub unfinished : after.unfinished ≡ before.unfinished
  pub senders : after.senders.items ≡ before.senders.items
  pub owed : after.owed.items ≡ before.owed.items

-- what the end of the link from task a did with the packet, and what came of it
abbrev pub Takes : (a : ℕ) → DataPacket → (now : Option HeaderOut) → (came : Option Message) → (events events_then : List Event) → (before after : List ReceivingEnd) → Type 0
Takes a p now came events events_then before after = (end : ReceivingEnd) → slice_get before a ≡ Some end → HasCome before after a p now came events events_then end

pub takes-over : {Z : Type 0} (v : Vec ReceivingEnd Z) (a : ℕ) (p : DataPacket) (now : Option HeaderOut) (came : Option Message) (events events_then : List Event) (before after : List ReceivingEnd) → before ≡ v.items → Takes a p now came events events_then before after → Takes a p now came events events_then v.items (with_items v after).items
takes-over v a p now came events events_then before after e h = λ end here.
    let x = h end (ap (λ ends. slice_get ends a) e ∙ here) in
    let count = ap length x.ends ∙ length-set before a x.end ∙ ap length e ∙ sym v.ok.0 in
    subst (λ ends. HasCome v.items ends a p now came events events_then end) (sym (with_items_is v after count)) (subst (λ ends. HasCome ends after a p now came events events_then end) e x)

or-none : (x : Bool) → (x || (false || false)) ≡ x
or-none true = refl
or-none false = refl

receiver-there : (script : Script) (rules : Rules) (ps : List Packet) (o : Option ReceivingEnd) → ReceiverAt script rules ps o → (end : ReceivingEnd) × (o ≡ Some end) × (ReceivesFor script end ps × KeepsAnswers rules end)
receiver-there script rules ps None h = absurd h
receiver-there script rules ps (Some end) h = (end, refl, h)

module _ (script : Script) (rules : Rules) where
  -- The record after a packet was handed over, but for its journal.
  abbrev pub handed_on : Run → (a t : ℕ) → DataPacket → Packet → Run
  handed_on r a t p q = record {
    replies = r.replies ++ Did ∷ [];
    wire = λ x y. cond (x == t && y == a) (r.wire x y ++ at_once script rules q) (r.wire x y);
    handed = λ x y. cond (x == a && y == t) (Data p ∷ r.handed x y) (r.handed x y);
    owed = λ x y. (holds_back script && (x == a && y == t)) || r.owed x y;
    journal = r.journal;
  }

  silent : (ps : List Packet) (a t n : ℕ) → is_number n (ack_of script ps a t) ≡ false
  unfolding ack_of
  silent ps a t n = refl

  number-more : (xs : List Packet) (q : Packet) (n : ℕ) → is_number n q ≡ false → has_number (xs ++ q ∷ []) n ≡ has_number xs n
  unfolding has_number
  number-more xs q n e = list_any-append (is_number n) xs (q ∷ []) ∙ ap (λ b. list_any (is_number n) xs || (b || false)) e ∙ or-none (list_any (is_number n) xs)

  number-kept : (xs : List Packet) (q : Packet) (n : ℕ) → is_number n q ≡ false → has_number (xs ++ at_once script rules q) n ≡ has_number xs n
  unfolding at_once
  number-kept xs q n e = cond_both (holds_back script) [] (q ∷ []) (λ told. has_number (xs ++ told) n ≡ has_number xs n) (λ _. ap (λ ys. has_number ys n) (append-nil xs)) (λ _. number-more xs q n e)

  ack-more : (p : DataPacket) (xs : List Packet) (n : ℕ) → has_ack (Data p ∷ xs) n ≡ has_ack xs n
  unfolding has_ack
  ack-more p xs n = refl

  settled : (r : Run) (a t : ℕ) (p : DataPacket) (ps : List Packet) (b : ℕ) → Settled script rules r (handed_on r a t p (ack_of script ps a t)) t b
  settled r a t p ps b =
      let q = ack_of script ps a t in
      record {
        sent = λ n. cond_both (t == t && b == a) (r.wire t b ++ at_once script rules q) (r.wire t b) (λ xs. has_number xs n ≡ has_number (r.wire t b) n) (λ _. number-kept (r.wire t b) q n (silent ps a t n)) (λ _. refl);
        acked = λ n. cond_both (b == a && t == t) (Data p ∷ r.handed b t) (r.handed b t) (λ xs. has_ack xs n ≡ has_ack (r.handed b t) n) (λ _. ack-more p (r.handed b t) n) (λ _. refl);
      }

  -- what is told at once, as entries of the wire to task a
  abbrev told_entries : (a : ℕ) → Packet → List WireEntry
  told_entries a q = entries_to a (map written.packet (at_once script rules q))

  told-is : (a : ℕ) (q : Packet) → told_entries a q ≡ cond (waits_for_poll (layout_of script.layout)) [] (record { to = a; bytes = written.packet q } ∷ [])
  unfolding at_once holds_back
  told-is a q = cond_both (waits_for_poll (layout_of script.layout)) [] (q ∷ []) (λ told. entries_to a (map written.packet told) ≡ cond (waits_for_poll (layout_of script.layout)) [] (record { to = a; bytes = written.packet q } ∷ [])) (λ e. sym (cond-true _ _ _ e)) (λ e. sym (cond-false _ _ _ e))

  wires : (r : Run) (a t : ℕ) (p : DataPacket) (q : Packet) (b : ℕ) → map written.packet ((handed_on r a t p q).wire t b) ≡ map written.packet (r.wire t b) ++ bytes_to b (told_entries a q)
  wires r a t p q b =
      let old = r.wire t b in
      let told = at_once script rules q in
      let bytes = map written.packet told in
      ⊎_elim
      (λ (same : b ≡ a).
      ap (map written.packet) (cond-true (t == t && b == a) (old ++ told) old (and_from (t == t) (b == a) (eqb-refl t) (subst (λ x. (b == x) ≡ true) same (eqb-refl b))))
      ∙ map-append written.packet old told
      ∙ ap (λ xs. map written.packet old ++ xs) (sym (ap (λ x. bytes_to b (entries_to x bytes)) (sym same) ∙ bytes-here b bytes)))
      (λ (apart : b ≡ a → ⊥).
      ap (map written.packet) (cond-false (t == t && b == a) (old ++ told) old (and_right (t == t) (b == a) (ne_eqb b a apart)))
      ∙ sym (append-nil (map written.packet old))
      ∙ ap (λ xs. map written.packet old ++ xs) (sym (bytes-there a b bytes (ne_eqb a b (λ e. apart (sym e))))))
      (cases_eq b a)

  handed-ends : (r : Run) (a t : ℕ) (p : DataPacket) (q : Packet) (ends after : List ReceivingEnd) (old new : ReceivingEnd) → slice_get ends a ≡ Some old → after ≡ slice_set ends a new → ReceivesFor script new (Data p ∷ r.handed a t) × KeepsAnswers rules new → ((x : ℕ) → x < script.tasks → ReceiverAt script rules (r.handed x t) (slice_get ends x)) → (x : ℕ) → x < script.tasks → ReceiverAt script rules ((handed_on r a t p q).handed x t) (slice_get after x)
  handed-ends r a t p q ends after old new here set stands all x l =
      subst (λ xs. ReceiverAt script rules ((handed_on r a t p q).handed x t) (slice_get xs x)) (sym set)
      (⊎_elim
      (λ (same : x ≡ a).
      subst (λ y. ReceiverAt script rules ((handed_on r a t p q).handed y t) (slice_get (slice_set ends a new) y)) (sym same)
      (subst (λ ps. ReceiverAt script rules ps (slice_get (slice_set ends a new) a)) (sym (cond-true (a == a && t == t) (Data p ∷ r.handed a t) (r.handed a t) (and_from (a == a) (t == t) (eqb-refl a) (eqb-refl t))))
      (subst (ReceiverAt script rules (Data p ∷ r.handed a t)) (sym (get-set ends a old new here)) stands)))
      (λ (apart : x ≡ a → ⊥).
      subst (λ ps. ReceiverAt script rules ps (slice_get (slice_set ends a new) x)) (sym (cond-false (x == a && t == t) (Data p ∷ r.handed x t) (r.handed x t) (and_left (x == a) (t == t) (ne_eqb x a apart))))
      (subst (ReceiverAt script rules (r.handed x t)) (sym (get-set-other ends a x new apart)) (all x l)))
      (cases_eq x a))

  -- ---- a delivery

  module _ (t : ℕ) (r : Run) (task : Task) (at : IsAt script rules t task r) (a k : ℕ) (known_task : a < script.tasks) (p : DataPacket) (entry : slice_get (r.wire a t) k ≡ Some (Data p)) where
    abbrev arrives : Option Message
    arrives = lands_now script rules t r a p

    abbrev happens : List Event
    happens = events_now script rules t r a p

    abbrev then : List Event
    then = followed r.journal happens

    packet-comes : Comes script rules r a t p
    packet-comes = what-comes script rules at.stands.calls.valid at.stands.calls.rules_valid r a t k p at.recorded entry

    fits : MayArrive script (r.handed a t) p
    fits = arriving-fits script rules at.stands.calls.valid at.stands.calls.rules_valid r a t k p at.recorded entry

    end-there : (end : ReceivingEnd) × (slice_get task.receivers.items a ≡ Some end) × (ReceivesFor script end (r.handed a t) × KeepsAnswers rules end)
    end-there = receiver-there script rules (r.handed a t) (slice_get task.receivers.items a) (at.stands.receivers a known_task)

    abbrev next_run : Run
    next_run = told script rules (handed_on r a t p (ack_of script (Data p ∷ r.handed a t) a t)) then

    delivered : deliver script rules r a t k ≡ next_run
    unfolding deliver hand_over
    delivered =
        let q = next-acks-told script rules r at.recorded a t k p entry in
        let answers = is-told script rules r at.recorded a t k p entry in
        let es = ap (λ es. cond (is_delivered r a t p.seq) [] es) (arrivals-told script rules r at.recorded a t k p entry) ∙ come-events script rules (r.handed a t) p (answer_now script rules t p) (handlers_now script rules t) answers.completes (is_delivered r a t p.seq) in
        ap (deliver_entry script rules r a t) entry ∙ (λ i. told script rules (handed_on r a t p (q i)) (followed r.journal (es i)))

    atomic : Atomic script rules then
    atomic = subst (λ (x : Run). Atomic script rules x.journal) delivered (deliver-sound script rules r a t k (record-sound script rules r at.recorded)).atomic

    layout-then : (mid : Task) → KeepsRest task mid → mid.sizes.layout ≡ script.layout
    layout-then mid g = ap (λ (z : _). z.layout) (g.sizes ∙ at.stands.calls.sizes)

    -- what follows is the record's
    memory-there : task.state.memory ≡ memory_bytes script rules r.journal t
    memory-there = at.stands.holds.memory

    follows-then : completes script rules r a t p ≡ true → (x : Follower) → follower script.layout t a p.name p.head (completes_in (handlers_now script rules t) (answer_now script rules t p)) task.state.memory ≡ Some x → Follows script rules (Land p.name ∷ followed r.journal (called (is_opening (r.handed a t) p) p.name p.head)) t a x
    follows-then whole x e = follower-is script rules r a t k p at.recorded entry packet-comes whole x (ap (follower script.layout t a p.name p.head (completes_in (handlers_now script rules t) (answer_now script rules t p))) (sym memory-there) ∙ e)

    -- its origin may join the round that it names
    joins : completes script rules r a t p ≡ true → MayJoin a p.head task.state.collective
    joins whole =
        let count = handlers_now script rules t in
        let first = is_opening (r.handed a t) p in
        let bytes = came_bytes script (r.handed a t) p in
        let out = answer_now script rules t p in
        joins-may script rules t first p.name p.head bytes out count a p.length task.state.collective r.journal
        (subst (λ b. Atomic script rules (followed r.journal (called first p.name p.head ++ events_of count (come b p.name p.head bytes out)))) whole atomic)
        known_task packet-comes.fits.head (head-joins script rules t r at.recorded a k p entry) at.stands.holds.rounds

    -- an answer is of the task's own statement
    own-answers : IsOwnAnswer script rules t p.name
    own-answers = let f = packet-comes.facts in own-answer script rules t p.name r.journal f.atomic f.copied f.leg f.place

    -- where all of its message has come, that may land
    may-land : completes script rules r a t p ≡ true → (later : Bool) → HeadMayLand a p.head later p.length task.state.memory task.state.counters task.state.collective
    may-land whole later =
        let h = at.stands.holds in
        suits-head script rules a p.head later p.length task.state.memory task.state.counters task.state.collective (there-is script rules p.head p.length packet-comes.kind packet-comes.fits.head) (ap length h.memory ∙ memory-length script rules r.journal t) h.counter_count (joins whole)

    -- the packet fits what the task has
    module _ (may-take : WhatArrivesMayBeTaken) (whole-is : WholeIsComplete) where
      pub data-fits : (end : ReceivingEnd) → slice_get task.receivers.items a ≡ Some end → DataFits task a p end
      data-fits end here =
          let same : end-there.0 ≡ end = some-same end-there.0 end (sym end-there.1 ∙ here) in
          let receives = subst (λ x. ReceivesFor script x (r.handed a t)) same end-there.2.0 in
          record {
            take = may-take script end (r.handed a t) p receives fits;
            own = λ back. subst (λ n. p.name.statement < n) (sym (ap length at.stands.calls.statements)) (own-answers back).1;
            lands = λ last.
                let both = and_parts (not (is_taken end.window p.seq)) (is_whole (gathered_with end.partials p)) last in
                let absent = not-true (is_taken end.window p.seq) both.0 in
                may-land (and_from (not (is_delivered r a t p.seq)) _ (ap not (sym (receives.taken p.seq) ∙ absent)) (sym (whole-is script end (r.handed a t) p receives fits absent) ∙ both.1));
          }

    -- the task with what is not done then
    abbrev pub with_unfinished : Task → Unfinished → Task
    with_unfinished after u = record after { unfinished = u }

    pub has-taken-still : (after : Task) (u : Unfinished) → HasTaken script t after a (Data p ∷ r.handed a t) → HasTaken script t (with_unfinished after u) a (Data p ∷ r.handed a t)
    has-taken-still after u h = record { valid = h.valid; layout = h.layout; number = h.number; known = h.known; from_known = h.from_known; receiver = h.receiver }

    -- what the end of its link did with it
    module _ (mid : Task) (g : KeepsRest task mid) (now : Option HeaderOut) (came : Option Message) (before during : List Event) (took : Takes a p now came before during task.receivers.items mid.receivers.items) where
      own : HasCome task.receivers.items mid.receivers.items a p now came before during end-there.0
      own = took end-there.0 end-there.1

      stands-mid : ReceivesFor script own.mid (Data p ∷ r.handed a t)
      stands-mid = own.stands script (r.handed a t) end-there.2.0 fits

      arrival-told : own.arrival ≡ arrival_of script (r.handed a t) p (answer_of end-there.0 p.name)
      arrival-told = own.told script (r.handed a t) end-there.2.0 fits

      abbrev given : Option HeaderOut
      given = cond (has_some (r.handed a t) p.name) (answer_of end-there.0 p.name) now

      came-some : came ≡ come (completes script rules r a t p) p.name p.head (came_bytes script (r.handed a t) p) given
      came-some = own.whole ∙ ap (landed now) arrival-told ∙ come-is script (r.handed a t) p (answer_of end-there.0 p.name) now

      unfinished-same : (count : ℕ) (after : Task) (new : List Event) → HasArrived a count came mid after during new → after.unfinished ≡ task.unfinished
      unfinished-same count after new h = ap (λ (x : Task). x.unfinished) h.rest ∙ g.unfinished

      stands-end : ReceivesFor script own.end (Data p ∷ r.handed a t)
      stands-end = own.keeps.stands script (Data p ∷ r.handed a t) stands-mid

      pub has-taken : (count : ℕ) (after : Task) (new : List Event) → HasArrived a count came mid after during new → HasTaken script t after a (Data p ∷ r.handed a t)
      has-taken count after new h =
          let same = ap (λ (x : Task). x.receivers.items) h.rest ∙ own.ends in
          record {
            valid = at.stands.calls.valid;
            layout = ap (λ (x : Task). x.sizes.layout) h.rest ∙ layout-then mid g;
            number = ap (λ (x : Task). x.state.number) h.rest ∙ ap (λ (x : State). x.number) g.state ∙ at.stands.holds.number;
            known = at.known;
            from_known = known_task;
            receiver = subst (ReceivesAt script (Data p ∷ r.handed a t)) (sym (ap (λ xs. slice_get xs a) same ∙ get-set task.receivers.items a end-there.0 own.end end-there.1)) stands-end;
          }

      -- where this is answered by the handlers of the record
      module _ (answered : now ≡ answer_now script rules t p) where
        given-is : has_number (r.handed a t) p.seq ≡ false → given ≡ answer_now script rules t p
        given-is fresh =
            elim (has_some (r.handed a t) p.name) as (λ b. has_some (r.handed a t) p.name ≡ b → cond b (answer_of end-there.0 p.name) now ≡ answer_now script rules t p) [
              | true ↦ λ e. kept-by script rules (r.handed a t) end-there.0 end-there.2.0 end-there.2.1 p.name ∙ kept-before script rules (r.handed a t) p fits fresh e
              | false ↦ λ e. answered
            ] refl

        came-now : came ≡ arrives
        came-now = came-some ∙ come-told script (r.handed a t) p given (answer_now script rules t p) given-is

        keeps-end : KeepsAnswers rules own.end
        keeps-end =
            still-kept script rules (r.handed a t) p fits end-there.0 own.mid own.end end-there.2.0 end-there.2.1 stands-mid own.answers own.arrival arrival-told stands-end
            (own.keeps.own ∙ ap (λ x. option_or (kept_now own.arrival x) (answer_of own.mid p.name)) answered)
            own.keeps.others

        -- the task with what it owes then
        abbrev pub with_owed : Task → Task → Task
        with_owed after done = record after { owed = done.owed }

        pub arrived-does : (after : Task) (u : Unfinished) (done : Task) (old new : Outcome) → u ≡ record after.unfinished { undone = flags_landed came after.unfinished.undone } → before ≡ old.events → HasArrived a (handlers_now script rules t) came mid after during new.events → done ≡ with_owed (with_unfinished after u) done → done.owed.items ≡ cond (waits_for_poll (layout_of after.sizes.layout)) (set after.owed.items a true) after.owed.items → new.entries ≡ old.entries ++ cond (waits_for_poll (layout_of script.layout)) [] (answer script (Data p ∷ r.handed a t) a t ∷ []) → HasEffect script rules t r (deliver script rules r a t k) done old new
        unfolding holds_back
        arrived-does after u done old new closed began h rest owing added =
            let ps = Data p ∷ r.handed a t in
            let q = ack_of script ps a t in
            let count = handlers_now script rules t in
            let out = answer_now script rules t p in
            let whole = completes script rules r a t p in
            let first = is_opening (r.handed a t) p in
            let bytes = came_bytes script (r.handed a t) p in
            let c = packet-comes in
            let s = at.stands in
            let mine : HasArrived a count arrives mid after during new.events = subst (λ x. HasArrived a count x mid after during new.events) came-now h in
            let ends : after.senders.items ≡ ends_after script.layout t a count arrives task.state.memory task.senders.items = mine.senders ∙ (λ i. ends_after (layout-then mid g i) ((ap (λ (x : State). x.number) g.state ∙ s.holds.number) i) a count arrives (g.state i).memory (g.senders i)) in
            let lands : Lands a count arrives task.state after.state = subst (λ (x : State). Lands a count arrives x after.state) g.state (record { memory = mine.memory; counters = mine.counters; jobs = mine.jobs; few = mine.few; joins = mine.joins; rest = ap (λ (x : Task). x.state) mine.rest }) in
            let receivers = ap (λ (x : Task). x.receivers.items) mine.rest ∙ own.ends in
            let undone = unfinished-same count after new.events h in
            let layout : after.sizes.layout ≡ script.layout = ap (λ (y : Task). y.sizes.layout) mine.rest ∙ layout-then mid g in
            let flags : after.owed.items ≡ task.owed.items = ap (λ (y : Task). y.owed.items) mine.rest ∙ g.owed in
            let owed : done.owed.items ≡ flags_then task.owed.items a (waits_for_poll (layout_of script.layout)) = owing ∙ (λ i. cond (waits_for_poll (layout_of (layout i))) (set (flags i) a true) (flags i)) in
            subst (λ (z : Task). HasEffect script rules t r (deliver script rules r a t k) z old new) (sym rest)
            (subst (λ y. HasEffect script rules t r y (with_owed (with_unfinished after u) done) old new) (sym delivered)
            (record {
              events = happens;
              entries = told_entries a q;
              stands = record {
                calls = record {
                  valid = s.calls.valid;
                  rules_valid = s.calls.rules_valid;
                  sizes = ap (λ (y : Task). y.sizes) mine.rest ∙ g.sizes ∙ s.calls.sizes;
                  statements = ap (λ (y : Task). y.statements) mine.rest ∙ g.statements ∙ s.calls.statements;
                  limits = ap (λ (y : Task). y.limits) mine.rest ∙ g.limits ∙ s.calls.limits;
                  rounds =
                      ap (λ (y : Task). y.rounds.items) mine.rest ∙ g.rounds ∙ s.calls.rounds
                      ∙ ap (λ (xs : List Statement). map (round_of script t) (numbers_below (length xs))) (sym (ap (λ (y : Task). y.statements) mine.rest ∙ g.statements));
                };
                holds = holds-arrived script rules t r a k p at.recorded entry c (ap (λ (y : Run). y.journal) delivered) atomic task.state after.state s.holds lands;
                unfinished = subst (λ (x : Unfinished). Tracks script rules t x next_run) (sym (closed ∙ (λ i. record { undone = flags_landed (came-now i) (undone i).undone; left = (undone i).left })))
                    (tracks-come script rules t r task.unfinished s.unfinished count first whole p.name p.head bytes out task.state.memory a next_run refl (λ b n. (settled r a t p ps b).acked n) atomic own-answers);
                sender_count = ap length ends ∙ ends-length script rules script.layout t a count whole p.name p.head bytes out task.state.memory task.senders.items ∙ s.sender_count;
                receiver_count = ap length receivers ∙ length-set task.receivers.items a own.end ∙ s.receiver_count;
                senders = λ b l. subst (λ xs. SenderAt script rules next_run t b (slice_get xs b)) (sym ends) (ends-come script rules r (handed_on r a t p q) a t task.senders.items (λ y. settled r a t p ps y) known_task s.senders count first whole p.name p.head bytes out task.state.memory follows-then atomic b l);
                receivers = handed-ends r a t p q task.receivers.items after.receivers.items end-there.0 own.end end-there.1 receivers (stands-end, keeps-end) s.receivers;
                owed_count = ap length owed ∙ flags-length task.owed.items a (waits_for_poll (layout_of script.layout)) ∙ s.owed_count;
                owed = λ x l. ap (λ xs. slice_get xs x) owed ∙ owed-more task.owed.items a (let l = known_task in let size = s.owed_count in omega (arith, l, size)) (waits_for_poll (layout_of script.layout)) t (λ y. r.owed y t) x (s.owed x l);
              };
              journal = refl;
              events_added =
                  mine.events
                  ∙ ap (λ es. es ++ events_of count arrives) (own.calls ∙ ap (λ es. es ++ called (is_first own.arrival) p.name p.head) began)
                  ∙ ap (λ b. (old.events ++ called b p.name p.head) ++ events_of count arrives) (ap is_first arrival-told ∙ first-is script (r.handed a t) p (answer_of end-there.0 p.name))
                  ∙ append_assoc old.events (called first p.name p.head) (events_of count arrives);
              put = λ b l. wires r a t p q b;
              entries_added = added ∙ ap (λ es. old.entries ++ es) (sym (told-is a q));
              ends = entries-known script.tasks a (map written.packet (at_once script rules q)) known_task;
            }))
