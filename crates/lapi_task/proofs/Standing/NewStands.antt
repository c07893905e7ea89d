-- A task before its first statement.
use Rattle.std.proofs.Common.{◌≡◌, ℕ, zero, suc, ◌<◌, ◌^◌, ◌==◌, Bool, false, cond, List, replicate, [], length, Option, Some, None, refl, sym, ap, ◌∙◌, subst, arith}
use Rattle.std.specs.Prelude.{slice_get, slice_index, nat_lt}
use Rattle.std.specs.List.{AllByRecursion}
use Rattle.std.proofs.lemmas.Bool.{and_right, cond_both, le-ltb, false≢true}
use Rattle.std.proofs.lemmas.List.{length-replicate, get_or-replicate}
use Rattle.lapi_base.specs.declared.script.Script.{Script}
use Rattle.lapi_base.specs.declared.rule.Rules.{Rules}
use Rattle.lapi_base.specs.Record.Counters.{count, reads}
use Rattle.lapi_base.specs.Record.Jobs.{landed_jobs, queue, runs}
use Rattle.lapi_base.specs.Packet.Layout.{sizes_of, window_of, unit_of}
use Rattle.lapi_base.specs.Record.Names.{happened}
use Rattle.lapi_base.specs.Record.Operations.{statements, statement, is_data, table_rounds, entry}
use Rattle.lapi_base.specs.Record.Wires.{start, numbered, has_number, has_ack}
use Rattle.lapi_base.specs.Record.Refusals.{next, refusals, gfence_rounds}
use Rattle.lapi_jobs.specs.Jobs.{Works, run_by}
use Rattle.lapi_link.specs.Sender.{SendingEnd, IsNewSender}
use Rattle.lapi_task.specs.declared.state.State.{State}
use Rattle.lapi_task.specs.declared.task.Task.{Task}
use Rattle.lapi_task.specs.Sends.{packet_at, SendsFor}
use Rattle.lapi_task.specs.StandsFor.{HasCalls, IsNewState, SenderAt, ReceiverAt, is_uncopied, HoldsFor, StandsFor}
use Rattle.lapi_link.specs.Receiver.{IsNewReceiver}
use Rattle.lapi_collect.specs.Rounds.{Joins}
use Rattle.lapi_task.specs.declared.collective.Collective.{Collective}
use Rattle.lapi_task.specs.HasRounds.{knows_join, AreJoined, HasRounds, AreNewRounds, IsNewCollective}
use Rattle.lapi_task.proofs.Copying.UncopiedLaws.{nothing-yet}
use Rattle.lapi_task.proofs.Stepping.StepMemories.{memory-blank}
use Rattle.lapi_base.proofs.BelowLaws.{below-none}
use Rattle.lapi_base.proofs.ListLaws.{all-get, get-some}
use Rattle.lapi_task.proofs.Standing.KeptAnswers.{new-kept}
use Rattle.lapi_task.proofs.Standing.Tags.{tags-new}
use Rattle.lapi_collect.specs.Outstanding.{is_open}
use Rattle.lapi_task.specs.declared.unfinished.Unfinished.{Unfinished}
use Rattle.lapi_task.specs.Unfinished.{Tracks}

-- the task has happened nothing
pub record IsNew (script : Script) (rules : Rules) (t : ℕ) (task : Task) : Type 0 where
  pub calls : HasCalls script rules t task
  pub state : IsNewState (sizes_of script) t task.state
  pub unfinished : (task.unfinished.undone ≡ replicate (length (statements script t)) false) × (task.unfinished.left ≡ replicate (length (statements script t)) 0)
  pub senders : (length task.senders.items ≡ script.tasks) × AllByRecursion (IsNewSender (window_of script)) task.senders.items
  pub receivers : (length task.receivers.items ≡ script.tasks) × AllByRecursion (IsNewReceiver (window_of script) (unit_of script)) task.receivers.items
  pub owed : task.owed.items ≡ replicate script.tasks false

module _ (script : Script) (rules : Rules) where
  nothing-uncopied : (t k : ℕ) → is_uncopied script [] t k ≡ false
  unfolding happened
  nothing-uncopied t k = nothing-yet script t [] k refl refl

  -- nobody is known to have joined a round
  none-known : (t d : ℕ) (o : Option ℕ) → knows_join [] t d o ≡ false
  unfolding happened
  none-known t d None = cond_both (d == t) false false (λ b. b ≡ false) (λ _. refl) (λ _. refl)
  none-known t d (Some i) = cond_both (d == t) false false (λ b. b ≡ false) (λ _. refl) (λ _. refl)

  none-joined : (t : ℕ) (rounds : (task : ℕ) → List ℕ) (value : (round task : ℕ) → ℕ) (joins : Joins) → AreNewRounds script.tasks joins → AreJoined script t rounds value joins []
  none-joined t rounds value joins h = record {
    tasks = h.tasks;
    size = h.size;
    joined = λ d round. h.none d round ∙ sym (ap (λ b. cond b (Some (value round d)) None) (none-known t d (slice_get (rounds d) round)));
  }

  new-rounds : (t : ℕ) (c : Collective) → IsNewCollective script.tasks c → HasRounds script t c []
  unfolding happened
  new-rounds t c h = record {
    entered = h.entered;
    fences = none-joined t (gfence_rounds script) (λ _ _. 0) c.fences h.fences;
    tables = none-joined t (table_rounds script) (entry script) c.tables h.tables;
  }

  new-holds : (t : ℕ) (state : State) → IsNewState (sizes_of script) t state → HoldsFor script rules t state []
  unfolding next happened reads refusals count runs queue landed_jobs
  new-holds t state h = record {
    number = h.number;
    next = h.next;
    ahead = λ i l. refl;
    reads = h.reads;
    refusals = h.refusals;
    memory = h.memory ∙ memory-blank script rules t;
    counter_count = ap length h.counters ∙ length-replicate script.counters 0;
    counters = λ c l. ap (λ xs. slice_index xs c) h.counters ∙ get_or-replicate script.counters c 0 0 l;
    uncopied = h.uncopied ∙ sym (below-none (length (statements script t)) (is_uncopied script [] t) (λ k _. nothing-uncopied t k));
    jobs = record {
      waiting = ap (λ (x : Works). x.waiting) h.jobs;
      few = subst (λ (x : Works). length x.waiting < 2 ^ 32) (sym h.jobs) (omega arith);
      workers = ap (λ (x : Works). length x.workers) h.jobs ∙ length-replicate script.workers None;
      running = λ w l. ap (λ (x : Works). run_by x w) h.jobs ∙ get_or-replicate script.workers w None None l;
    };
    rounds = new-rounds t state.collective h.rounds;
  }

  fresh-sends : (a b : ℕ) (s : SendingEnd) → IsNewSender (window_of script) s → SendsFor script rules s start a b
  unfolding numbered has_number has_ack packet_at
  fresh-sends a b s h = record {
    numbers = record {
      size = h.size;
      numbers = h.numbers;
      sent = λ n. sym (ap (nat_lt n) h.sent ∙ le-ltb n 0 (omega arith));
      acked = λ n. sym (h.acked n);
    };
    whole = let sent = h.sent in let none = ap length h.waiting in let numbers = h.numbers in omega (arith, sent, none, numbers);
    kept = λ n l u. let sent = h.sent in absurd (omega (arith, l, sent));
    waiting = λ i. ap (λ xs. slice_get xs i) h.waiting;
    tags = tags-new script (window_of script) s a b h;
  }

  none-owed : (n a : ℕ) → a < n → slice_get (replicate n false) a ≡ Some false
  none-owed zero a l = absurd (omega arith)
  none-owed (suc n) zero l = refl
  none-owed (suc n) (suc a) l = none-owed n a (let q : a < n = omega arith in q)

  none-open : (n i : ℕ) → is_open (replicate n false) i ≡ false
  none-open zero i = refl
  none-open (suc n) zero = refl
  none-open (suc n) (suc i) = none-open n i

  new-tracks : (t : ℕ) (u : Unfinished) → u.undone ≡ replicate (length (statements script t)) false → u.left ≡ replicate (length (statements script t)) 0 → Tracks script rules t u start
  unfolding happened
  new-tracks t u undone left = record {
    size = (ap length undone ∙ length-replicate (length (statements script t)) false, ap length left ∙ length-replicate (length (statements script t)) 0);
    undone = λ i. ap (λ xs. is_open xs i) undone ∙ none-open (length (statements script t)) i ∙ sym (and_right (is_data (statement script t i)) false refl);
    left = λ i b d. absurd (false≢true d);
  }

  pub new-stands : (t : ℕ) (task : Task) → IsNew script rules t task → StandsFor script rules t task start
  new-stands t task h = record {
    calls = h.calls;
    holds = new-holds t task.state h.state;
    unfinished = new-tracks t task.unfinished h.unfinished.0 h.unfinished.1;
    sender_count = h.senders.0;
    receiver_count = h.receivers.0;
    senders = λ b l.
        let x = get-some task.senders.items b (let n = h.senders.0 in omega (arith, l, n)) in
        subst (SenderAt script rules start t b) (sym x.1) (fresh-sends t b x.0 (all-get (IsNewSender (window_of script)) task.senders.items b x.0 h.senders.1 x.1));
    receivers = λ a l.
        let x = get-some task.receivers.items a (let n = h.receivers.0 in omega (arith, l, n)) in
        let fresh = all-get (IsNewReceiver (window_of script) (unit_of script)) task.receivers.items a x.0 h.receivers.1 x.1 script refl refl in
        subst (ReceiverAt script rules []) (sym x.1) (fresh, new-kept script rules x.0 fresh);
    owed_count = ap length h.owed ∙ length-replicate script.tasks false;
    owed = λ a l. ap (λ (flags : List Bool). slice_get flags a) h.owed ∙ none-owed script.tasks a l;
  }
