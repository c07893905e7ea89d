-- What a task holds after each event of a step.
use Rattle.std.proofs.Common.{◌≡◌, ℕ, suc, ◌-◌, ◌<◌, ◌≤◌, ◌==◌, Bool, true, false, cond, ◌&&◌, List, [], ◌∷◌, ◌++◌, length, slice_set, refl, sym, ap, ◌∙◌, subst, ⊎_elim, arith, add-zero}
use Rattle.std.specs.Prelude.{slice_index}
use Rattle.std.proofs.lemmas.Bool.{cond-true, cond-false, cond_both, and_right, and_from, cases_eq, cases_lt, ne_eqb}
use Rattle.std.proofs.lemmas.List.{append-nil, length-set, get_or-set_same, get_or-set_other}
use Rattle.lapi_base.specs.declared.script.Script.{Script}
use Rattle.lapi_base.specs.declared.rule.Rules.{Rules}
use Rattle.lapi_base.specs.declared.statement.Statement.{Statement}
use Rattle.lapi_base.specs.declared.statement.Statement.TheVariants as statements
use Rattle.lapi_base.specs.declared.event.Event.{Event}
use Rattle.lapi_base.specs.declared.event.Event.TheVariants.{Issue, Refuse, Pass}
use Rattle.lapi_base.specs.declared.message.Leg.TheVariants.{Go}
use Rattle.lapi_base.specs.declared.refusal.Refusal.{Refusal}
use Rattle.lapi_base.specs.Record.Atomic.{Atomic}
use Rattle.lapi_base.specs.Record.Below.{below}
use Rattle.lapi_base.specs.Record.Counters.{count, reads, read_by, tells, issued_count, passed_count}
use Rattle.lapi_base.specs.Record.Names.{message, happened, Issued, Entered, Copied}
use Rattle.lapi_base.specs.Record.Operations.{statement, is_data}
use Rattle.lapi_base.specs.Record.Operations as operations
use Rattle.lapi_base.specs.Record.Refusals.{next, refusals}
use Rattle.lapi_base.specs.Record.Values.{memory_bytes, store_writes}
use Rattle.lapi_base.proofs.BelowLaws.{below-cut, below-same}
use Rattle.lapi_base.proofs.NameLaws.{happened-other}
use Rattle.lapi_base.proofs.TestLaws.{eqb-refl}
use Rattle.lapi_task.specs.declared.state.State.{State}
use Rattle.lapi_task.specs.StandsFor.{HoldsFor, is_uncopied}
use Rattle.lapi_task.specs.Steps.{MayStep, stored, counters_set, with_read, with_uncopied, IsRefused, IsIssued, PassesWait, IsPassed}
use Rattle.lapi_task.specs.declared.collective.Collective.{Collective}
use Rattle.lapi_task.specs.HasRounds.{HasRounds}
use Rattle.lapi_task.proofs.Joining.EnteredCalls.{later-unentered}
use Rattle.lapi_task.proofs.Working.JobsStay.{jobs-stay}
use Rattle.lapi_task.proofs.Joining.RoundsStay.{JoinsNone, rounds-told}
use Rattle.lapi_task.proofs.Copying.UncopiedLaws.{LeavesMessages, uncopied-stays, nothing-yet, issue-other, issue-brings, issue-plain}
use Rattle.lapi_task.proofs.Stepping.StepMemories.{memory-none, memory-written, memory-length}

-- one number more is listed, behind all others
pub below-more : (n i : ℕ) (p q : ℕ → Bool) → i < n → ((k : ℕ) → k < i → p k ≡ q k) → ((k : ℕ) → i ≤ k → p k ≡ false) → q i ≡ true → ((k : ℕ) → suc i ≤ k → q k ≡ false) → below n p ++ i ∷ [] ≡ below n q
unfolding below
below-more n i p q l same none here past =
    ap (λ xs. xs ++ i ∷ []) (below-cut i n p (omega arith) none ∙ below-same i p q same)
    ∙ sym (below-cut (suc i) n q (omega arith) past ∙ cond-true (q i) (below i q ++ i ∷ []) (below i q) here)

module _ (script : Script) (rules : Rules) where
  module _ (t : ℕ) (J : List Event) where
    -- A statement is behind the task: the one after it was not entered.
    pub advanced-rounds : (before after : Collective) (e : Event) → JoinsNone t e → next (e ∷ J) t ≡ suc (next J t) → after.fences ≡ before.fences → after.tables ≡ before.tables → after.entered ≡ false → Atomic script rules J → HasRounds script t before J → HasRounds script t after (e ∷ J)
    advanced-rounds before after e none turn fences tables unentered atomic h =
        rounds-told script t e J none before after fences tables (unentered ∙ sym (later-unentered script rules J atomic t (next (e ∷ J) t) (let l : next J t < next (e ∷ J) t = omega (arith, turn) in l))) h

    -- What stays of the rounds through an event of a statement that was not entered,
    same-rounds : (before after : State) (e : Event) → JoinsNone t e → next (e ∷ J) t ≡ suc (next J t) → after.collective ≡ before.collective → Atomic script rules J → happened (Entered t before.next) J ≡ false → HoldsFor script rules t before J → HasRounds script t after.collective (e ∷ J)
    same-rounds before after e none turn same atomic unentered h =
        advanced-rounds before.collective after.collective e none turn (ap (λ (c : Collective). c.fences) same) (ap (λ (c : Collective). c.tables) same)
        (ap (λ (c : Collective). c.entered) same ∙ h.rounds.entered ∙ ap (λ i. happened (Entered t i) J) (sym h.next) ∙ unentered) atomic h.rounds

    -- and what waits to be copied, where the event copies nothing.
    pub uncopied-none : (e : Event) (items : List ℕ) → ((k : ℕ) → LeavesMessages script t e k) → items ≡ below (length (operations.statements script t)) (is_uncopied script J t) → items ≡ below (length (operations.statements script t)) (is_uncopied script (e ∷ J) t)
    uncopied-none e items none h = h ∙ below-same _ (is_uncopied script J t) (is_uncopied script (e ∷ J) t) (λ k _. uncopied-stays script t e J k (none k))

    -- The record after a refusal.
    after-refuse : (i : ℕ) (why : Refusal) → (next (Refuse t i why ∷ J) t ≡ suc (next J t)) × (refusals (Refuse t i why ∷ J) t ≡ refusals J t ++ (i, why) ∷ [])
    unfolding next refusals
    after-refuse i why = (cond-true (t == t) _ _ (eqb-refl t), ap (λ xs. refusals J t ++ xs) (cond-true (t == t) _ _ (eqb-refl t)))

    reads-refuse : (i : ℕ) (why : Refusal) → reads script rules (Refuse t i why ∷ J) t ≡ reads script rules J t
    unfolding reads
    reads-refuse i why = refl

    count-refuse : (i c : ℕ) (why : Refusal) → count script rules (Refuse t i why ∷ J) t c ≡ count script rules J t c
    unfolding count tells
    count-refuse i c why = add-zero (count script rules J t c)

    pub refused-holds : (before after : State) (old new : List Event) (why : Refusal) → HoldsFor script rules t before J → IsRefused why before after old new → Atomic script rules J → happened (Entered t before.next) J ≡ false → HoldsFor script rules t after (Refuse t before.next why ∷ J)
    refused-holds before after old new why h g atomic unentered =
        let i = before.next in
        let e = Refuse t i why in
        let step = g.past.next in
        let was = h.next in
        let r = after-refuse i why in
        record {
          number = g.past.number ∙ h.number;
          next = (let x : after.next ≡ suc (next J t) = omega (arith, step, was) in x) ∙ sym r.0;
          ahead = λ k l. happened-other (Issued t k) e J refl ∙ h.ahead k (omega (arith, l, step));
          reads = g.reads ∙ h.reads ∙ sym (reads-refuse i why);
          refusals = g.refusals ∙ ap (λ xs. xs ++ (i, why) ∷ []) h.refusals ∙ sym r.1;
          memory = g.memory ∙ h.memory ∙ sym (memory-none script rules e J t refl);
          counter_count = ap length g.counters ∙ h.counter_count;
          counters = λ c l. ap (λ xs. slice_index xs c) g.counters ∙ h.counters c l ∙ sym (count-refuse i c why);
          uncopied = g.uncopied ∙ uncopied-none e before.uncopied.items (λ k. record { issued = refl; entered = refl; data_copied = refl; joins_copied = λ d. refl }) h.uncopied;
          jobs = jobs-stay script rules t e J before.jobs after.jobs tt g.jobs h.jobs;
          rounds = same-rounds before after e (record { entered = λ k. refl; landed = λ d k. refl }) r.0 g.collective atomic unentered h;
        }

    -- A counter that was set.
    set-at : (cs : List ℕ) (d value c n : ℕ) → d < length cs → slice_index cs c ≡ n → slice_index (slice_set cs d value) c ≡ cond (t == t && d == c) value n
    set-at cs d value c n l e =
        ⊎_elim
        (λ (same : c ≡ d).
        ap (slice_index (slice_set cs d value)) same
        ∙ get_or-set_same cs d value 0 l
        ∙ sym (cond-true (t == t && d == c) value n (and_from (t == t) (d == c) (eqb-refl t) (subst (λ x. (d == x) ≡ true) (sym same) (eqb-refl d)))))
        (λ (apart : c ≡ d → ⊥).
        get_or-set_other cs d c value 0 apart
        ∙ e
        ∙ sym (cond-false (t == t && d == c) value n (and_right (t == t) (d == c) (ne_eqb d c (λ x. apart (sym x))))))
        (cases_eq c d)

    -- The record after a wait.
    pub after-pass : (i : ℕ) → (next (Pass t i ∷ J) t ≡ suc (next J t)) × (refusals (Pass t i ∷ J) t ≡ refusals J t)
    unfolding next refusals
    after-pass i = (cond-true (t == t) _ _ (eqb-refl t), refl)

    pub reads-pass : (i : ℕ) → reads script rules (Pass t i ∷ J) t ≡ reads script rules J t
    unfolding reads
    reads-pass i = refl

    count-pass : (i d value c : ℕ) → statement script t i ≡ statements.Wait d value → count script rules (Pass t i ∷ J) t c ≡ cond (t == t && d == c) (count script rules J t c - value) (count script rules J t c)
    unfolding count
    count-pass i d value c e = ap (λ (s : Statement). passed_count script rules s t t c (count script rules J t c)) e

    -- the counter that is waited for is at its own place
    taken-at : (n : ℕ → ℕ) (d value c : ℕ) → cond (t == t && d == c) (n d - value) (n c) ≡ cond (t == t && d == c) (n c - value) (n c)
    taken-at n d value c =
        ⊎_elim
        (λ (same : c ≡ d). ap (λ x. cond (t == t && d == c) (n x - value) (n c)) (sym same))
        (λ (apart : c ≡ d → ⊥). let no = and_right (t == t) (d == c) (ne_eqb d c (λ x. apart (sym x))) in cond-false (t == t && d == c) _ (n c) no ∙ sym (cond-false (t == t && d == c) _ (n c) no))
        (cases_eq c d)

    pub passed-holds : (before after : State) (old new : List Event) (d value : ℕ) → statement script t before.next ≡ statements.Wait d value → d < length before.counters → HoldsFor script rules t before J → PassesWait d value before after old new → Atomic script rules J → happened (Entered t before.next) J ≡ false → HoldsFor script rules t after (Pass t before.next ∷ J)
    passed-holds before after old new d value is there h g atomic unentered =
        let i = before.next in
        let e = Pass t i in
        let step = g.past.next in
        let was = h.next in
        let r = after-pass i in
        let known : d < script.counters = (let n = h.counter_count in omega (arith, there, n)) in
        record {
          number = g.past.number ∙ h.number;
          next = (let x : after.next ≡ suc (next J t) = omega (arith, step, was) in x) ∙ sym r.0;
          ahead = λ k l. happened-other (Issued t k) e J refl ∙ h.ahead k (omega (arith, l, step));
          reads = g.reads ∙ h.reads ∙ sym (reads-pass i);
          refusals = g.refusals ∙ h.refusals ∙ sym r.1;
          memory = g.memory ∙ h.memory ∙ sym (memory-none script rules e J t refl);
          counter_count = ap length g.counters ∙ length-set before.counters d (slice_index before.counters d - value) ∙ h.counter_count;
          counters = λ c l.
              ap (λ xs. slice_index xs c) g.counters
              ∙ set-at before.counters d (slice_index before.counters d - value) c (count script rules J t c) there (h.counters c l)
              ∙ ap (λ x. cond (t == t && d == c) (x - value) (count script rules J t c)) (h.counters d known)
              ∙ taken-at (count script rules J t) d value c
              ∙ sym (count-pass i d value c is);
          uncopied = g.uncopied ∙ uncopied-none e before.uncopied.items (λ k. record { issued = refl; entered = refl; data_copied = refl; joins_copied = λ d. refl }) h.uncopied;
          jobs = jobs-stay script rules t e J before.jobs after.jobs tt g.jobs h.jobs;
          rounds = same-rounds before after e (record { entered = λ k. refl; landed = λ d k. refl }) r.0 g.collective atomic unentered h;
        }

    -- what isn't a wait takes nothing from a counter,
    none-taken : (s : Statement) → ((d value : ℕ) → s ≡ statements.Wait d value → ⊥) → (c n : ℕ) → passed_count script rules s t t c n ≡ n
    none-taken (statements.Wait d value) no-wait c n = absurd (no-wait d value refl)
    none-taken _ no-wait c n = refl

    count-stood : (i c : ℕ) → ((d value : ℕ) → statement script t i ≡ statements.Wait d value → ⊥) → count script rules (Pass t i ∷ J) t c ≡ count script rules J t c
    unfolding count
    count-stood i c no-wait = none-taken (statement script t i) no-wait c (count script rules J t c)

    -- and leaves all but its place.
    pub stood-holds : (before after : State) (old new : List Event) → ((d value : ℕ) → statement script t before.next ≡ statements.Wait d value → ⊥) → HoldsFor script rules t before J → IsPassed before after old new → Atomic script rules J → HoldsFor script rules t after (Pass t before.next ∷ J)
    stood-holds before after old new no-wait h g atomic =
        let i = before.next in
        let e = Pass t i in
        let step = g.past.next in
        let was = h.next in
        let r = after-pass i in
        record {
          number = g.past.number ∙ h.number;
          next = (let x : after.next ≡ suc (next J t) = omega (arith, step, was) in x) ∙ sym r.0;
          ahead = λ k l. happened-other (Issued t k) e J refl ∙ h.ahead k (omega (arith, l, step));
          reads = ap (λ (x : State). x.reads.items) g.rest ∙ h.reads ∙ sym (reads-pass i);
          refusals = ap (λ (x : State). x.refusals.items) g.rest ∙ h.refusals ∙ sym r.1;
          memory = ap (λ (x : State). x.memory) g.rest ∙ h.memory ∙ sym (memory-none script rules e J t refl);
          counter_count = ap (λ (x : State). length x.counters) g.rest ∙ h.counter_count;
          counters = λ c l. ap (λ (x : State). slice_index x.counters c) g.rest ∙ h.counters c l ∙ sym (count-stood i c no-wait);
          uncopied = ap (λ (x : State). x.uncopied.items) g.rest ∙ uncopied-none e before.uncopied.items (λ k. record { issued = refl; entered = refl; data_copied = refl; joins_copied = λ d. refl }) h.uncopied;
          jobs = jobs-stay script rules t e J before.jobs after.jobs tt (ap (λ (x : State). x.jobs) g.rest) h.jobs;
          rounds = advanced-rounds before.collective after.collective e (record { entered = λ k. refl; landed = λ d k. refl }) r.0 (ap (λ (x : State). x.collective.fences) g.rest) (ap (λ (x : State). x.collective.tables) g.rest) (ap (λ (x : State). x.collective.entered) g.rest) atomic h.rounds;
        }

    -- The record after an issue.
    after-issue : (i : ℕ) → (next (Issue t i ∷ J) t ≡ suc (next J t)) × (refusals (Issue t i ∷ J) t ≡ refusals J t)
    unfolding next refusals
    after-issue i = (cond-true (t == t) _ _ (eqb-refl t), refl)

    reads-issue : (i : ℕ) (s : Statement) → statement script t i ≡ s → reads script rules (Issue t i ∷ J) t ≡ reads script rules J t ++ read_by script rules J t i s
    unfolding reads
    reads-issue i s e = ap (λ xs. reads script rules J t ++ xs) (cond-true (t == t) _ _ (eqb-refl t)) ∙ ap (λ (x : Statement). reads script rules J t ++ read_by script rules J t i x) e

    count-issue : (i c : ℕ) (s : Statement) → statement script t i ≡ s → count script rules (Issue t i ∷ J) t c ≡ issued_count script rules s t t c (count script rules J t c)
    unfolding count
    count-issue i c s e = ap (λ (x : Statement). issued_count script rules x t t c (count script rules J t c)) e

    issued-later : (i k : ℕ) → suc i ≤ k → happened (Issued t k) J ≡ false → happened (Issued t k) (Issue t i ∷ J) ≡ false
    issued-later i k l h = happened-other (Issued t k) (Issue t i) J (and_right (t == t) (k == i) (ne_eqb k i (λ e. let x = e in omega (arith, l, x)))) ∙ h

    module _ (before : State) (h : HoldsFor script rules t before J) where
      reads-issued : (s : Statement) → MayStep s before.memory before.counters → with_read s before.counters before.next before.reads.items ≡ reads script rules J t ++ read_by script rules J t before.next s
      reads-issued (statements.Read counter) u =
          ap (λ xs. xs ++ (before.next, slice_index before.counters counter) ∷ []) h.reads
          ∙ ap (λ n. reads script rules J t ++ (before.next, n) ∷ []) (h.counters counter (let n = h.counter_count in omega (arith, u, n)))
      reads-issued _ u = h.reads ∙ sym (append-nil (reads script rules J t))

      memory-issued : (s : Statement) → statement script t before.next ≡ s → MayStep s before.memory before.counters → stored s before.memory ≡ memory_bytes script rules (Issue t before.next ∷ J) t
      memory-issued (statements.Store at bytes) e u =
          ap (stored (statements.Store at bytes)) h.memory
          ∙ memory-written script rules (Issue t before.next) J at bytes (ap (λ (x : Statement). store_writes script rules x) e)
          (let n = ap length h.memory ∙ memory-length script rules J t in omega (arith, u, n))
      memory-issued _ e u = h.memory ∙ sym (memory-none script rules (Issue t before.next) J t (ap (λ (x : Statement). store_writes script rules x) e))

      count-issued : (s : Statement) → length (counters_set s before.counters) ≡ length before.counters
      count-issued (statements.Set counter value) = length-set before.counters counter value
      count-issued _ = refl

      counters-issued : (s : Statement) → MayStep s before.memory before.counters → (c : ℕ) → c < script.counters → slice_index (counters_set s before.counters) c ≡ issued_count script rules s t t c (count script rules J t c)
      counters-issued (statements.Set counter value) u c l = set-at before.counters counter value c (count script rules J t c) u (h.counters c l)
      counters-issued _ u c l = h.counters c l

      -- a statement without data
      no-data : (s : Statement) → statement script t before.next ≡ s → is_data s ≡ false → before.uncopied.items ≡ below (length (operations.statements script t)) (is_uncopied script (Issue t before.next ∷ J) t)
      no-data s e d =
          h.uncopied
          ∙ below-same _ (is_uncopied script J t) (is_uncopied script (Issue t before.next ∷ J) t)
          (λ k _.
          ⊎_elim
          (λ (same : k ≡ before.next). subst (λ i. is_uncopied script J t i ≡ is_uncopied script (Issue t before.next ∷ J) t i) (sym same) (issue-plain script t J before.next (ap is_data e ∙ d)))
          (λ (apart : k ≡ before.next → ⊥). issue-other script t J before.next k apart)
          (cases_eq k before.next))

      module _ (atomic : Atomic script rules J) (unentered : happened (Entered t before.next) J ≡ false) where
        -- what stands from the next statement on has not begun
        pub unentered-on : (k : ℕ) → before.next ≤ k → happened (Entered t k) J ≡ false
        unentered-on k l =
            ⊎_elim
            (λ (same : k ≡ before.next). subst (λ i. happened (Entered t i) J ≡ false) (sym same) unentered)
            (λ (apart : k ≡ before.next → ⊥). later-unentered script rules J atomic t k (let past : next J t < k = later k l apart in past))
            (cases_eq k before.next)
          where
            later : (k : ℕ) → before.next ≤ k → (k ≡ before.next → ⊥) → next J t < k
            later k l apart =
                ⊎_elim
                (λ (lt : before.next < k). let n = h.next in omega (arith, lt, n))
                (λ (ge : k ≤ before.next). absurd (apart (let e : k ≡ before.next = omega (arith, l, ge) in e)))
                (cases_lt before.next k)

        -- a statement with data
        some-data : (s : Statement) → statement script t before.next ≡ s → is_data s ≡ true → before.next < length (operations.statements script t) → happened (Copied (message t before.next Go)) J ≡ false → before.uncopied.items ++ before.next ∷ [] ≡ below (length (operations.statements script t)) (is_uncopied script (Issue t before.next ∷ J) t)
        some-data s e d within fresh =
            ap (λ xs. xs ++ before.next ∷ []) h.uncopied
            ∙ below-more _ before.next (is_uncopied script J t) (is_uncopied script (Issue t before.next ∷ J) t) within
            (λ k l. issue-other script t J before.next k (λ x. let y = x in omega (arith, l, y)))
            (λ k l. nothing-yet script t J k (h.ahead k l) (unentered-on k l))
            (issue-brings script t J before.next (ap is_data e ∙ d) fresh)
            (λ k l. nothing-yet script t (Issue t before.next ∷ J) k (issued-later before.next k l (h.ahead k (omega arith))) (happened-other (Entered t k) (Issue t before.next) J refl ∙ unentered-on k (omega arith)))

        uncopied-issued : (s : Statement) → statement script t before.next ≡ s → before.next < length (operations.statements script t) → happened (Copied (message t before.next Go)) J ≡ false → with_uncopied s before.next before.uncopied.items ≡ below (length (operations.statements script t)) (is_uncopied script (Issue t before.next ∷ J) t)
        uncopied-issued s e l fresh =
            cond_both (is_data s) (before.uncopied.items ++ before.next ∷ []) before.uncopied.items (λ xs. xs ≡ below (length (operations.statements script t)) (is_uncopied script (Issue t before.next ∷ J) t))
            (λ d. some-data s e d l fresh)
            (λ d. no-data s e d)

        pub issued-holds : (after : State) (old new : List Event) (s : Statement) → statement script t before.next ≡ s → MayStep s before.memory before.counters → before.next < length (operations.statements script t) → happened (Copied (message t before.next Go)) J ≡ false → IsIssued s before after old new → HoldsFor script rules t after (Issue t before.next ∷ J)
        issued-holds after old new s e u within fresh g =
            let i = before.next in
            let step = g.past.next in
            let was = h.next in
            let r = after-issue i in
            record {
              number = g.past.number ∙ h.number;
              next = (let x : after.next ≡ suc (next J t) = omega (arith, step, was) in x) ∙ sym r.0;
              ahead = λ k l. issued-later i k (omega (arith, l, step)) (h.ahead k (omega (arith, l, step)));
              reads = g.reads ∙ reads-issued s u ∙ sym (reads-issue i s e);
              refusals = g.refusals ∙ h.refusals ∙ sym r.1;
              memory = g.memory ∙ memory-issued s e u;
              counter_count = ap length g.counters ∙ count-issued s ∙ h.counter_count;
              counters = λ c l. ap (λ xs. slice_index xs c) g.counters ∙ counters-issued s u c l ∙ sym (count-issue i c s e);
              uncopied = g.uncopied ∙ uncopied-issued s e within fresh;
              jobs = jobs-stay script rules t (Issue t i) J before.jobs after.jobs tt g.jobs h.jobs;
              rounds = same-rounds before after (Issue t i) (record { entered = λ k. refl; landed = λ d k. refl }) r.0 g.collective atomic unentered h;
            }
