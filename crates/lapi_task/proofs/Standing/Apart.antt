-- A line at another task leaves a task's part of the record, and by its part it stands for the record.
use Rattle.std.proofs.Common.{◌≡◌, ℕ, ◌==◌, not, cond, List, length, map, Option, Some, None, refl, sym, ap, ◌∙◌, subst}
use Rattle.std.specs.Prelude.{slice_get, option_map}
use Rattle.lapi_base.specs.declared.script.Script.{Script}
use Rattle.lapi_base.specs.declared.rule.Rules.{Rules}
use Rattle.lapi_base.specs.declared.message.Leg.TheVariants.{Go}
use Rattle.lapi_base.specs.declared.message.MsgName.{MsgName}
use Rattle.lapi_base.specs.declared.packet.Packet.{Packet}
use Rattle.lapi_base.specs.Record.Below.{below}
use Rattle.lapi_base.specs.Laws.Locality.{SameStatements, SameLinks}
use Rattle.lapi_base.specs.Record.Names.{Issued, Entered, Copied, happened, message}
use Rattle.lapi_base.specs.Record.Operations.{numbers_below, statements, table_rounds, entry}
use Rattle.lapi_base.specs.Record.Packets.{data_packet}
use Rattle.lapi_base.specs.Record.Wires.{Run, numbered, is_acked, has_number, has_ack}
use Rattle.lapi_base.specs.Record.WorldView.{performed, IsRecord}
use Rattle.lapi_base.specs.Record.TaskPart.{part_at}
use Rattle.lapi_base.specs.Record.Values.{values, memory_bytes}
use Rattle.lapi_base.specs.Packet.PacketBytes as written
use Rattle.lapi_laws.proofs.Out.{numbered-copied}
use Rattle.lapi_link.specs.Sender.{SendingEnd}
use Rattle.lapi_parts.proofs.ExactBytes.{record-exact}
use Rattle.lapi_parts.proofs.LinesTaken.{more-record}
use Rattle.lapi_parts.proofs.LocalQuestions.{by_points}
use Rattle.lapi_parts.proofs.OtherTasks.{others-stay}
use Rattle.lapi_parts.proofs.Records.{record-sound}
use Rattle.lapi_parts.proofs.SameParts.{SamePart, same-part, bytes-same, told-statements, told-links, told-jobs, told-memory}
use Rattle.lapi_task.proofs.Working.JobsStay.{jobs-same}
use Rattle.lapi_task.specs.declared.state.State.{State}
use Rattle.lapi_task.specs.declared.task.Task.{Task}
use Rattle.lapi_task.specs.Apart.{TasksStayApart, StandsByPart}
use Rattle.lapi_task.specs.Sends.{SendsFor, packet_at, spelled}
use Rattle.lapi_task.specs.StandsFor.{is_uncopied, SenderAt, ReceiverAt, HoldsFor, StandsFor}
use Rattle.lapi_task.proofs.Standing.Tags.{tags-same}
use Rattle.lapi_parts.proofs.CopiedCounts.{count_in, count-is, counted-same}
use Rattle.lapi_task.proofs.Acknowledging.UnfinishedLaws.{StaysAt, tracks-stay}
use Rattle.lapi_base.specs.Record.Operations.{receiver}
use Rattle.lapi_base.specs.Record.Names.{Landed}
use Rattle.lapi_base.specs.declared.message.Leg.TheVariants.{Back, Join}
use Rattle.lapi_base.specs.Record.Refusals.{gfence_rounds, join_landed, next}
use Rattle.lapi_collect.specs.Rounds.{Joins}
use Rattle.lapi_task.specs.declared.collective.Collective.{Collective}
use Rattle.lapi_task.specs.HasRounds.{has_entered, AreJoined, HasRounds}
use Rattle.lapi_task.proofs.Copying.UncopiedLaws.{uncopied-same}

module _ (script : Script) (rules : Rules) (t : ℕ) where
  -- Two records with the same part at the task.
  module _ (r s : Run) (ir : IsRecord script rules r) (is : IsRecord script rules s) (e : part_at script t r ≡ part_at script t s) where
    same : SamePart script rules t r s
    same = same-part script rules t r s e

    acts : SameStatements script rules t r s
    acts = told-statements script rules t r s ir is e

    links : SameLinks script rules t r s
    links = told-links script rules t r s ir is e

    -- what the task may copy, and what it knows of rounds
    uncopied-told : is_uncopied script r.journal t ≡ is_uncopied script s.journal t
    uncopied-told =
        by_points _ _ (λ i. uncopied-same script t r.journal s.journal i (record {
          issued = sym (acts.same_events (Issued t i) refl);
          entered = sym (acts.same_events (Entered t i) refl);
          data_copied = sym (acts.same_events (Copied (message t i Go)) refl);
          joins_copied = λ d. sym (acts.same_events (Copied (message t i (Join d))) refl);
        }))

    entered-told : (o : Option ℕ) → has_entered r.journal t o ≡ has_entered s.journal t o
    entered-told None = refl
    entered-told (Some i) = acts.same_events (Entered t i) refl

    landed-told : (d : ℕ) (o : Option ℕ) → join_landed r.journal t d o ≡ join_landed s.journal t d o
    landed-told d None = refl
    landed-told d (Some j) = acts.same_events (Landed (message d j (Join t))) refl

    joined-told : (rounds : (task : ℕ) → List ℕ) (value : (round task : ℕ) → ℕ) (joins : Joins) → AreJoined script t rounds value joins r.journal → AreJoined script t rounds value joins s.journal
    joined-told rounds value joins h = record {
      tasks = h.tasks;
      size = h.size;
      joined = λ d round. h.joined d round ∙ (λ k. cond (cond (d == t) (entered-told (slice_get (rounds d) round) k) (landed-told d (slice_get (rounds d) round) k)) (Some (value round d)) None);
    }

    rounds-told : (c : Collective) → HasRounds script t c r.journal → HasRounds script t c s.journal
    rounds-told c h = record {
      entered = h.entered ∙ acts.same_events (Entered t (next r.journal t)) refl ∙ ap (λ i. happened (Entered t i) s.journal) acts.next;
      fences = joined-told (gfence_rounds script) (λ _ _. 0) c.fences h.fences;
      tables = joined-told (table_rounds script) (entry script) c.tables h.tables;
    }

    memory-same : memory_bytes script rules r.journal t ≡ memory_bytes script rules s.journal t
    unfolding memory_bytes
    memory-same = ap (λ (f : ℕ → ℕ). map f (numbers_below script.memory)) (by_points ((values script rules r.journal).memory t) ((values script rules s.journal).memory t) (told-memory script rules t r s ir is e))

    pub holds-same : (state : State) → HoldsFor script rules t state r.journal → HoldsFor script rules t state s.journal
    holds-same state h = record {
      number = h.number;
      next = h.next ∙ acts.next;
      ahead = λ i le. sym (acts.same_events (Issued t i) refl) ∙ h.ahead i le;
      reads = h.reads ∙ acts.reads;
      refusals = h.refusals ∙ acts.refusals;
      memory = h.memory ∙ memory-same;
      counter_count = h.counter_count;
      counters = λ c lt. h.counters c lt ∙ acts.counters c;
      uncopied = h.uncopied ∙ ap (below (length (statements script t))) uncopied-told;
      jobs = let jobs = told-jobs script rules t r s ir is e in jobs-same script rules t r.journal s.journal state.jobs state.jobs refl (sym jobs.waiting) (λ w. sym (jobs.running w)) h.jobs;
      rounds = rounds-told state.collective h.rounds;
    }

    -- the packet of a number
    packet-same : (b n : ℕ) → packet_at script rules r.journal t b n ≡ packet_at script rules s.journal t b n
    unfolding packet_at
    packet-same b n = ap (λ (pairs : List (MsgName × ℕ)). option_map (spelled script rules r.journal n) (slice_get pairs n)) (links.numbers b) ∙ one (slice_get (numbered script s.journal t b) n) refl
      where
        one : (o : Option (MsgName × ℕ)) → slice_get (numbered script s.journal t b) n ≡ o → option_map (spelled script rules r.journal n) o ≡ option_map (spelled script rules s.journal n) o
        one None at = refl
        one (Some pair) at =
            let bytes = bytes-same script rules t r s same (record-sound script rules r ir) (record-exact script rules r ir) (record-sound script rules s is) (record-exact script rules s is) pair.0 (numbered-copied script s.journal t b n pair at).1 in
            ap (λ (bs : List ℕ). Some (written.packet (data_packet script pair.0 n pair.1 bs))) bytes

    sends-same : (end : SendingEnd) (b : ℕ) → SendsFor script rules end r t b → SendsFor script rules end s t b
    sends-same end b h = record {
      numbers = record {
        size = h.numbers.size;
        numbers = h.numbers.numbers ∙ ap (λ (pairs : List (MsgName × ℕ)). length pairs) (links.numbers b);
        sent = λ n. sym (ap (λ (ps : List Packet). has_number ps n) (same.put b)) ∙ h.numbers.sent n;
        acked = λ n. sym (ap (λ (ps : List Packet). has_ack ps n) (same.handed b)) ∙ h.numbers.acked n;
      };
      whole = h.whole;
      kept = λ n lt left. h.kept n lt left ∙ packet-same b n;
      waiting = λ i. h.waiting i ∙ packet-same b _;
      tags = tags-same script end r.journal s.journal t b (sym (links.numbers b)) h.tags;
    }

    data-same : (i : ℕ) → StaysAt script rules t r s i
    data-same i =
        let b = receiver script (message t i Go) in
        let told = λ (n : ℕ). ap (λ (ps : List Packet). has_ack ps n) (sym (same.handed b)) in
        record {
          issued = sym (acts.same_events (Issued t i) refl);
          copied = sym (acts.same_events (Copied (message t i Go)) refl);
          landed = sym (acts.same_events (Landed (message t i Back)) refl);
          count = λ d.
              counted-same script rules s t i (is_acked r t b) told
              ∙ ap (λ (ps : List (MsgName × ℕ)). count_in script (message t i Go) ps (λ n. not (is_acked r t b n))) (sym (links.numbers b))
              ∙ sym (count-is script rules r t i);
        }

    sender-same : (b : ℕ) (o : Option SendingEnd) → SenderAt script rules r t b o → SenderAt script rules s t b o
    sender-same b None h = absurd h
    sender-same b (Some end) h = sends-same end b h

    pub stands-same : (task : Task) → StandsFor script rules t task r → StandsFor script rules t task s
    stands-same task h = record {
      calls = h.calls;
      holds = holds-same task.state h.holds;
      unfinished = tracks-stay script rules t task.unfinished r s data-same h.unfinished;
      sender_count = h.sender_count;
      receiver_count = h.receiver_count;
      senders = λ b lt. sender-same b (slice_get task.senders.items b) (h.senders b lt);
      receivers = λ a lt. subst (λ (ps : List Packet). ReceiverAt script rules ps (slice_get task.receivers.items a)) (same.handed a) (h.receivers a lt);
      owed_count = h.owed_count;
      owed = λ a lt. h.owed a lt ∙ ap Some (same.owed a);
    }

pub stays-apart : TasksStayApart
stays-apart script rules t task r act h valid apart =
    let s = performed script rules r act in
    stands-same script rules t r s h.recorded (more-record script rules r act h.recorded valid) (sym (others-stay script rules r h.recorded act t apart)) task h.stands

pub stands-by-part : StandsByPart
stands-by-part script rules t task r s h is e = record { recorded = is; known = h.known; stands = stands-same script rules t r s h.recorded is e task h.stands }
