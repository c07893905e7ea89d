-- What a tick puts on the wires of its task.
use Rattle.std.proofs.Common.{◌≡◌, ℕ, ◌<◌, ◌≤◌, ◌==◌, true, ◌&&◌, not, List, [], ◌∷◌, ◌++◌, length, map, Option, Some, None, refl, sym, ap, ◌∙◌, subst, ⊎_elim, arith, append_assoc, add-one, ◌+◌}
use Rattle.std.specs.Prelude.{slice_get, option_map}
use Rattle.std.specs.List.{AllByRecursion, flat_map, filter_map, cons_option}
use Rattle.std.proofs.lemmas.Bool.{cond-true, and_parts, or_left, ltb-true, not-true}
use Rattle.std.proofs.lemmas.List.{append-nil, map-append}
use Rattle.std.proofs.lemmas.List.Concat.{flat_map-cons}
use Rattle.std.proofs.lemmas.List.Folds.{list_any-append}
use Rattle.lapi_base.specs.declared.script.Script.{Script}
use Rattle.lapi_base.specs.declared.rule.Rules.{Rules}
use Rattle.lapi_base.specs.declared.message.MsgName.{MsgName}
use Rattle.lapi_base.specs.declared.event.Event.{Event}
use Rattle.lapi_base.specs.declared.wire.WireEntry.{WireEntry}
use Rattle.lapi_base.specs.Record.Below.{below}
use Rattle.lapi_base.specs.Laws.Locality.{ticked}
use Rattle.lapi_base.specs.Record.Wires.{Run, numbered, has_number, is_number, is_sent, is_acked, packets, to_resend}
use Rattle.lapi_base.specs.Record.Acts.{tick, followed}
use Rattle.lapi_base.specs.Record.Wires as on_wires
use Rattle.lapi_base.specs.Packet.PacketBytes as written
use Rattle.lapi_base.proofs.BelowLaws.{below-all}
use Rattle.lapi_base.proofs.TestLaws.{eqb-refl, same_tests}
use Rattle.lapi_laws.proofs.SentWindow.{packets-number, number-append}
use Rattle.lapi_link.specs.Sender.{SendingEnd, kept, entries_to}
use Rattle.lapi_window.specs.SendWindow.{Sending, sent_count, bytes_of, unacked}
use Rattle.lapi_window.specs.SendWindow as window
use Rattle.lapi_task.specs.declared.outcome.Outcome.{Outcome}
use Rattle.lapi_task.specs.declared.task.Task.{Task}
use Rattle.lapi_task.specs.HasEffect.{HasEffect}
use Rattle.lapi_task.specs.Sends.{SendsFor, packet_at, spelled, of_end, entries_of}
use Rattle.lapi_task.specs.StandsFor.{SenderAt, StandsFor}
use Rattle.lapi_task.proofs.Sending.SenderLaws.{bytes-of-end, entries-within, entries-none, entries-more}
use Rattle.lapi_task.proofs.Acknowledging.UnfinishedLaws.{tracks-told}

module _ (script : Script) (rules : Rules) where
  -- The packets of numbers whose bytes are kept are spelled by these.
  module _ (J : List Event) (a b : ℕ) (w : Sending) where
    one : (n : ℕ) (o : Option (MsgName × ℕ)) (rest : List (List ℕ)) → map written.packet (on_wires.packet_of script rules J n o) ++ rest ≡ cons_option (option_map (spelled script rules J n) o) rest
    one n None rest = refl
    one n (Some pair) rest = refl

    pub packets-spelled : (ns : List ℕ) → AllByRecursion (λ n. bytes_of w n ≡ packet_at script rules J a b n) ns → map written.packet (packets script rules J a b ns) ≡ filter_map (bytes_of w) ns
    unfolding packets packet_at
    packets-spelled [] h = refl
    packets-spelled (n ∷ ns) h =
        let f = λ (k : ℕ). on_wires.packet_of script rules J k (slice_get (numbered script J a b) k) in
        ap (map written.packet) (flat_map-cons f n ns)
        ∙ map-append written.packet (f n) (flat_map f ns)
        ∙ ap (λ rest. map written.packet (f n) ++ rest) (packets-spelled ns h.1)
        ∙ one n (slice_get (numbered script J a b) n) (filter_map (bytes_of w) ns)
        ∙ ap (λ o. cons_option o (filter_map (bytes_of w) ns)) (sym h.0)

  -- Of a link, a tick sends again what its end keeps,
  module _ (r : Run) (a b : ℕ) where
    module _ (s : SendingEnd) (h : SendsFor script rules s r a b) where
      open-numbers : to_resend script rules r a b ≡ unacked s.window
      unfolding to_resend
      open-numbers = λ i. below (sym h.numbers.numbers i) (λ n. h.numbers.sent n i && not (h.numbers.acked n i))

      kept-each : (ns : List ℕ) → AllByRecursion (λ n. (n < s.window.numbers) × ((window.is_sent s.window n && not (window.is_acked s.window n)) ≡ true)) ns → AllByRecursion (λ n. bytes_of s.window n ≡ packet_at script rules r.journal a b n) ns
      kept-each [] all = tt
      kept-each (n ∷ ns) all =
          let both = and_parts (window.is_sent s.window n) (not (window.is_acked s.window n)) all.0.1 in
          (h.kept n (ltb-true n (sent_count s.window) both.0) (not-true (window.is_acked s.window n) both.1), kept-each ns all.1)

      pub ticked-spelled : map written.packet (ticked script rules r a b) ≡ kept s
      ticked-spelled =
          ap (λ ns. map written.packet (packets script rules r.journal a b ns)) open-numbers
          ∙ packets-spelled r.journal a b s.window (unacked s.window) (kept-each (unacked s.window) (below-all s.window.numbers (λ n. window.is_sent s.window n && not (window.is_acked s.window n))))

    pub ticked-at : (o : Option SendingEnd) → SenderAt script rules r a b o → map written.packet (ticked script rules r a b) ≡ of_end kept o
    ticked-at None h = absurd h
    ticked-at (Some s) h = ticked-spelled s h

    -- and no other numbers are sent than before.
    pub sent-again : (n : ℕ) → has_number (r.wire a b ++ ticked script rules r a b) n ≡ has_number (r.wire a b) n
    unfolding to_resend has_number
    sent-again n =
        let test = λ (k : ℕ). is_sent r a b k && not (is_acked r a b k) in
        let count = length (numbered script r.journal a b) in
        same_tests (has_number (r.wire a b ++ ticked script rules r a b) n) (has_number (r.wire a b) n)
        (λ there.
        ⊎_elim
        (λ (old : has_number (r.wire a b) n ≡ true). old)
        (λ (new : has_number (ticked script rules r a b) n ≡ true).
        let passes = packets-number script rules r.journal a b (λ k. (k < count) × (test k ≡ true)) (below count test) (below-all count test) n new in
        (and_parts (is_sent r a b n) (not (is_acked r a b n)) passes.1).0)
        (number-append script rules (r.wire a b) (ticked script rules r a b) n there))
        (λ there. list_any-append (is_number n) (r.wire a b) (ticked script rules r a b) ∙ or_left (has_number (r.wire a b) n) (has_number (ticked script rules r a b) n) there)

  module _ (t : ℕ) (r : Run) where
    wire-after : (b : ℕ) → (tick script rules r t).wire t b ≡ r.wire t b ++ ticked script rules r t b
    unfolding tick
    wire-after b = cond-true (t == t) (r.wire t b ++ ticked script rules r t b) (r.wire t b) (eqb-refl t)

    journal-after : (tick script rules r t).journal ≡ followed r.journal []
    unfolding tick followed
    journal-after = refl

    sends-after : (s : SendingEnd) (b : ℕ) → SendsFor script rules s r t b → SendsFor script rules s (tick script rules r t) t b
    unfolding tick
    sends-after s b h = record {
      numbers = record {
        size = h.numbers.size;
        numbers = h.numbers.numbers;
        sent = λ n. ap (λ ps. has_number ps n) (wire-after b) ∙ sent-again r t b n ∙ h.numbers.sent n;
        acked = h.numbers.acked;
      };
      whole = h.whole;
      kept = h.kept;
      waiting = h.waiting;
      tags = h.tags;
    }

    sender-after : (b : ℕ) (o : Option SendingEnd) → SenderAt script rules r t b o → SenderAt script rules (tick script rules r t) t b o
    sender-after b None h = absurd h
    sender-after b (Some s) h = sends-after s b h

    stands-after : (task : Task) → StandsFor script rules t task r → StandsFor script rules t task (tick script rules r t)
    unfolding tick
    stands-after task h = record {
      calls = h.calls;
      holds = h.holds;
      unfinished = tracks-told script rules t task.unfinished r (tick script rules r t) refl (λ b n. refl) h.unfinished;
      sender_count = h.sender_count;
      receiver_count = h.receiver_count;
      senders = λ b lt. sender-after b (slice_get task.senders.items b) (h.senders b lt);
      receivers = h.receivers;
      owed_count = h.owed_count;
      owed = h.owed;
    }

    pub tick-does : (task : Task) (old new : Outcome) → StandsFor script rules t task r → new.events ≡ old.events → new.entries ≡ old.entries ++ entries_of kept task.senders.items (length task.senders.items) → HasEffect script rules t r (tick script rules r t) task old new
    tick-does task old new h same grown =
        let ends = task.senders.items in
        let entries = entries_of kept ends (length ends) in record {
          events = [];
          entries = entries;
          stands = stands-after task h;
          journal = journal-after;
          events_added = same ∙ sym (append-nil old.events);
          put = λ b lt.
              let reached : b < length ends = subst (λ n. b < n) (sym h.sender_count) lt in
              ap (map written.packet) (wire-after b)
              ∙ map-append written.packet (r.wire t b) (ticked script rules r t b)
              ∙ ap (λ xs. map written.packet (r.wire t b) ++ xs) (ticked-at r t b (slice_get ends b) (h.senders b lt) ∙ sym (bytes-of-end kept ends b (length ends) reached));
          entries_added = grown;
          ends = entries-within kept ends script.tasks (length ends) (subst (λ n. n ≤ script.tasks) (sym h.sender_count) (omega arith));
        }

-- One end more has sent again what it keeps.
pub resent-none : (ends : List SendingEnd) (entries : List WireEntry) → entries ≡ entries ++ entries_of kept ends 0
resent-none ends entries = sym (ap (λ xs. entries ++ xs) (entries-none kept ends) ∙ append-nil entries)

pub resent-more : (ends : List SendingEnd) (start entries new : List WireEntry) (b to : ℕ) (s : SendingEnd) → entries ≡ start ++ entries_of kept ends b → slice_get ends b ≡ Some s → to ≡ b → new ≡ entries ++ entries_to to (kept s) → new ≡ start ++ entries_of kept ends (b + 1)
resent-more ends start entries new b to s old here same more =
    more
    ∙ ap (λ xs. xs ++ entries_to to (kept s)) old
    ∙ append_assoc start (entries_of kept ends b) (entries_to to (kept s))
    ∙ ap (λ xs. start ++ xs) (ap (λ n. entries_of kept ends b ++ entries_to n (kept s)) same ∙ sym (entries-more kept ends b s here) ∙ ap (entries_of kept ends) (sym (add-one b)))
