-- Each schedule line keeps what holds of every record: statements and jobs.
use Rattle.std.proofs.Common.{◌≡◌, ℕ, zero, suc, ◌<◌, ◌≤◌, ◌==◌, Bool, true, false, cond, ◌&&◌, ◌||◌, not, List, [], ◌∷◌, ◌++◌, length, filter, Some, None, refl, sym, ap, ◌∙◌, subst, ⊎_elim, arith}
use Rattle.std.specs.Prelude.{slice_get, is_some, nat_lt, nat_le}
use Rattle.std.specs.List.{list_all, AllByRecursion}
use Rattle.std.proofs.lemmas.Bool.{false≢true, and_parts, and_from, both_ways, cond_both, cond-true, eqb-true, or_cases, or_right, not-true, false_from_ne_true, cases_lt, ltb-true, lt-ltb}
use Rattle.lapi_base.specs.declared.script.Script.{Script}
use Rattle.lapi_base.specs.declared.statement.Statement.{Statement}
use Rattle.lapi_base.specs.declared.statement.Statement.TheVariants.{Store, Put, Get, Putv, Getv, Rmw, Am, Wait, Set, Read, Fence, Gfence}
use Rattle.lapi_base.specs.declared.rule.Rules.{Rules}
use Rattle.lapi_base.specs.declared.message.Leg.{Leg}
use Rattle.lapi_base.specs.declared.message.Leg.TheVariants.{Go, Back, Note, Echo, Join}
use Rattle.lapi_base.specs.declared.refusal.Refusal.{Refusal}
use Rattle.lapi_base.specs.declared.event.Event.{Event}
use Rattle.lapi_base.specs.declared.event.Event.TheVariants.{Issue, Refuse, Enter, Pass, Copy, Begin, End}
use Rattle.lapi_base.specs.Record.Below.{below}
use Rattle.lapi_base.specs.Record.Names.{leg_eq, Issued, Refused, Entered, Passed, Copied, Landed, Begun, Ended, key_of, happened, message}
use Rattle.lapi_base.specs.Record.Operations.{statements, statement, receiver, is_data, is_am, is_gfence, has_back, table_rounds, has_join}
use Rattle.lapi_base.specs.Record.Handlers.{has_completion, answers}
use Rattle.lapi_base.specs.Record.Counters.{count}
use Rattle.lapi_base.specs.Record.Refusals.{next, gfence_rounds, round_of, partner, join_landed, joined, refusal_of}
use Rattle.lapi_base.specs.declared.reply.Reply.TheVariants.{Idle}
use Rattle.lapi_base.specs.Record.Jobs.{is_job, queue, runs}
use Rattle.lapi_base.specs.Record.Wires.{Run, numbered, is_acked, all_numbers, data_done, data_clear}
use Rattle.lapi_base.specs.Record.Acts.{followed, reply_with, event_if, proposed, unless_refused, add_event, step, begin_first, begin_at, begin, end_at, end, note_of}
use Rattle.lapi_base.specs.Record.Atomic.{Keeps, needs, land_needs, only_if, to_land, to_follow, has_message, has_statement, is_issued, is_passed, is_first, is_run, landed_before, data_landed, partner_cleared, all_cleared, pass_allowed}
use Rattle.lapi_base.proofs.BelowLaws.{below-all, every_below-at, every_below-from}
use Rattle.lapi_base.proofs.ListLaws.{all-get, all-weaker, filter-all, filter-push, get-back, get-front, list_all-at}
use Rattle.lapi_base.proofs.NameLaws.{happened-all-later, happened-cases, happened-head, happened-later, leg_eq-true, name_eq-refl}
use Rattle.lapi_laws.proofs.Backward.{closed, there, behind}
use Rattle.lapi_laws.proofs.Workers.{Waiting, queue-waiting, begun, unended}
use Rattle.lapi_laws.proofs.Sound.{Lists, Sound, before, add_copy, add_silent, acked-delivered, landed_before-from, landed_before-later, implied-at}
use Rattle.lapi_laws.proofs.Arrival.{all_numbers-at}
use Rattle.lapi_laws.proofs.Lines.{SoundRun, keeps-copy, note-sound}

pub below-place : (n : ℕ) (p : ℕ → Bool) (i : ℕ) → i < n → p i ≡ true → slice_get (below n p) (length (filter (λ j. nat_lt j i) (below n p))) ≡ Some i
unfolding below
below-place zero p i l h = absurd (omega arith)
below-place (suc n) p i l h =
    ⊎_elim
    (λ (lt : i < n).
    let old = below-place n p i lt h in
    cond_both (p n) (below n p ++ n ∷ []) (below n p) (λ xs. slice_get xs (length (filter (λ j. nat_lt j i) xs)) ≡ Some i)
    (λ _. subst (λ ys. slice_get (below n p ++ n ∷ []) (length ys) ≡ Some i) (sym (filter-push i n (below n p) (let q : i ≤ n = omega arith in q))) (get-front (below n p) (n ∷ []) (length (filter (λ j. nat_lt j i) (below n p))) i old))
    (λ _. old))
    (λ (ge : n ≤ i).
    let same : n ≡ i = omega arith in
    subst (λ k. p k ≡ true → slice_get (cond (p n) (below n p ++ n ∷ []) (below n p)) (length (filter (λ j. nat_lt j k) (cond (p n) (below n p ++ n ∷ []) (below n p)))) ≡ Some k) same
    (λ pass.
    subst (λ xs. slice_get xs (length (filter (λ j. nat_lt j n) xs)) ≡ Some n) (sym (cond-true (p n) (below n p ++ n ∷ []) (below n p) pass))
    (subst (λ ys. slice_get (below n p ++ n ∷ []) (length ys) ≡ Some n) (sym (filter-push n n (below n p) (let q : n ≤ n = omega arith in q) ∙ filter-all (λ j. nat_lt j n) (below n p) (all-weaker (λ k. (k < n) × (p k ≡ true)) (λ k. nat_lt k n ≡ true) (λ k h. lt-ltb k n h.0) (below n p) (below-all n p))))
    (get-back (below n p) [] n)))
    h)
    (cases_lt i n)

module _ (script : Script) (rules : Rules) where
  -- a task's own statement is its partner
  partner-self : (a i : ℕ) → i < length (statements script a) → is_gfence (statement script a i) ≡ true → partner script a i a ≡ Some i
  unfolding partner round_of gfence_rounds
  partner-self a i l g =
      subst (λ b. slice_get (cond b (gfence_rounds script a) (table_rounds script a)) (length (filter (λ j. nat_lt j i) (cond b (gfence_rounds script a) (table_rounds script a)))) ≡ Some i) (sym g)
      (below-place (length (statements script a)) (λ k. is_gfence (statement script a k)) i l g)

  -- a partner of a fence over all tasks is one
  partner-gfence : (a i d j : ℕ) → is_gfence (statement script a i) ≡ true → partner script a i d ≡ Some j → is_gfence (statement script d j) ≡ true
  unfolding partner gfence_rounds
  partner-gfence a i d j g e =
      (all-get (λ k. (k < length (statements script d)) × (is_gfence (statement script d k) ≡ true)) (gfence_rounds script d) (round_of script a i) j
      (below-all (length (statements script d)) (λ k. is_gfence (statement script d k)))
      (subst (λ b. slice_get (cond b (gfence_rounds script d) (table_rounds script d)) (round_of script a i) ≡ Some j) g e)).1

  -- Data that are happened have landed.
  pub happened-landed : (r : Run) (a j : ℕ) → SoundRun script rules r → data_done script r a j ≡ true → data_landed script rules r.journal a j ≡ true
  unfolding data_done
  happened-landed r a j s =
      elim (has_back (statement script a j)) as (λ b. cond b (happened (Landed (message a j Back)) r.journal) (happened (Copied (message a j Go)) r.journal && all_numbers script (numbered script r.journal a (receiver script (message a j Go))) (message a j Go) (is_acked r a (receiver script (message a j Go)))) ≡ true → happened (Landed (message a j (cond b Back Go))) r.journal ≡ true) [
        | true ↦ λ h. h
        | false ↦ λ h.
            let m = message a j Go in
            let both = and_parts (happened (Copied m) r.journal) (all_numbers script (numbered script r.journal a (receiver script m)) m (is_acked r a (receiver script m))) h in
            s.arrived m both.0 (λ n x. acked-delivered script rules r.journal r.wire r.handed s a (receiver script m) n (all_numbers-at script (numbered script r.journal a (receiver script m)) m (is_acked r a (receiver script m)) both.1 n x.0 x.1))
      ]

  pub clear-landed : (r : Run) (a i : ℕ) → SoundRun script rules r → data_clear script r a i ≡ true → landed_before script rules r.journal a i ≡ true
  unfolding data_clear
  clear-landed r a i s h =
      landed_before-from script rules r.journal a i
      (λ j l d is. happened-landed r a j s (implied-at (is_data (statement script a j)) (happened (Issued a j) r.journal) (data_done script r a j) (every_below-at i (λ k. not (is_data (statement script a k) && happened (Issued a k) r.journal) || data_done script r a k) j h l) d is))

  -- A fence over all tasks that is joined has every task's earlier data landed.
  joined-cleared : (r : Run) (a i : ℕ) → SoundRun script rules r → i < length (statements script a) → is_gfence (statement script a i) ≡ true → happened (Entered a i) r.journal ≡ true → joined script r.journal a i ≡ true → all_cleared script rules r.journal a i ≡ true
  unfolding joined all_cleared needs
  joined-cleared r a i s l g entered h =
      every_below-from script.tasks (λ d. partner_cleared script rules r.journal d (partner script a i d))
      (λ d room.
      ⊎_elim
      (λ (x : (d == a) ≡ true).
      subst (λ e. partner_cleared script rules r.journal e (partner script a i e) ≡ true) (sym (eqb-true d a x))
      (subst (λ o. partner_cleared script rules r.journal a o ≡ true) (sym (partner-self a i l g)) (and_from _ _ entered (s.fences a i g entered))))
      (λ (x : join_landed r.journal a d (partner script a i d) ≡ true).
      elim (partner script a i d) as (λ o. partner script a i d ≡ o → join_landed r.journal a d o ≡ true → partner_cleared script rules r.journal d o ≡ true) [
        | None ↦ λ e y. absurd (false≢true y)
        | Some j ↦ λ e y.
            let in' = (closed script rules (Landed (message d j (Join a))) r.journal s.atomic y).1.0 in
            and_from _ _ in' (s.fences d j (partner-gfence a i d j g e) in')
      ] refl x)
      (or_cases (d == a) (join_landed r.journal a d (partner script a i d)) (every_below-at script.tasks (λ k. k == a || join_landed r.journal a k (partner script a i k)) d h room)))

  -- Statements.
  quiet-fences : (e : Event) (J : List Event) (wire handed : Lists) → ((a j : ℕ) → Issued a j ≡ key_of e → ⊥) → ((a i : ℕ) → Entered a i ≡ key_of e → ⊥) → Sound script rules J wire handed → (a i : ℕ) → is_gfence (statement script a i) ≡ true → happened (Entered a i) (e ∷ J) ≡ true → landed_before script rules (e ∷ J) a i ≡ true
  quiet-fences e J wire handed issue enter s a i g h = landed_before-later script rules e J a i (λ j l x. issue a j x) (s.fences a i g (before script rules (Entered a i) e J (enter a i) h))

  -- the task's next statement
  module _ (r : Run) (a : ℕ) (s : SoundRun script rules r) (task : a < script.tasks) (room : next r.journal a < length (statements script a)) where
    abbrev i : ℕ
    i = next r.journal a

    is : has_statement script rules a (next r.journal a) ≡ true
    is = and_from _ _ (lt-ltb a script.tasks task) (lt-ltb (next r.journal a) (length (statements script a)) room)

    new-issue : happened (Issued a (next r.journal a)) r.journal ≡ false
    new-issue = false_from_ne_true _ (λ yes. let b : next r.journal a < next r.journal a = behind script rules (Issued a (next r.journal a)) r.journal s.atomic yes in absurd (omega arith))

    new-refuse : happened (Refused a (next r.journal a)) r.journal ≡ false
    new-refuse = false_from_ne_true _ (λ yes. let b : next r.journal a < next r.journal a = behind script rules (Refused a (next r.journal a)) r.journal s.atomic yes in absurd (omega arith))

    new-pass : happened (Passed a (next r.journal a)) r.journal ≡ false
    new-pass = false_from_ne_true _ (λ yes. let b : next r.journal a < next r.journal a = behind script rules (Passed a (next r.journal a)) r.journal s.atomic yes in absurd (omega arith))

    refuse-sound : (reason : Refusal) → refusal_of script rules r.journal a i ≡ Some reason → Sound script rules (Refuse a i reason ∷ r.journal) r.wire r.handed
    unfolding needs
    refuse-sound reason e =
        add_silent script rules (Refuse a i reason) r.journal r.wire r.handed tt
        (record { there = is; once = new-refuse; after = refl; jobs = refl; waits = refl; order = (refl, e) })
        (quiet-fences (Refuse a i reason) r.journal r.wire r.handed (λ b j x. cc) (λ b j x. cc) s) s

    issue-sound : is_issued (statement script a i) ≡ true → refusal_of script rules r.journal a i ≡ None → Sound script rules (Issue a i ∷ r.journal) r.wire r.handed
    unfolding needs
    issue-sound kind e =
        add_silent script rules (Issue a i) r.journal r.wire r.handed tt
        (record { there = and_from _ _ is kind; once = new-issue; after = refl; jobs = refl; waits = refl; order = (refl, e) })
        (λ b k g h.
        let old = before script rules (Entered b k) (Issue a i) r.journal (λ y. cc) h in
        landed_before-later script rules (Issue a i) r.journal b k
        (λ j l x.
        let tasks : b ≡ a = cc in
        let numbers : j ≡ next r.journal a = cc in
        let not_after : k ≤ next r.journal b = behind script rules (Entered b k) r.journal s.atomic old in
        let same = ap (next r.journal) tasks in
        omega arith)
        (s.fences b k g old))
        s

    pass-sound : is_passed (statement script a i) ≡ true → pass_allowed script rules r.journal a i (statement script a i) ≡ true → cond (has_join (statement script a i)) (happened (Entered a i) r.journal ≡ true) (refusal_of script rules r.journal a i ≡ None) → Sound script rules (Pass a i ∷ r.journal) r.wire r.handed
    unfolding needs
    pass-sound kind allowed order =
        add_silent script rules (Pass a i) r.journal r.wire r.handed tt
        (record { there = and_from _ _ is kind; once = new-pass; after = refl; jobs = refl; waits = allowed; order = (refl, order) })
        (quiet-fences (Pass a i) r.journal r.wire r.handed (λ b j x. cc) (λ b j x. cc) s) s

    enter-sound : has_join (statement script a i) ≡ true → happened (Entered a i) r.journal ≡ false → refusal_of script rules r.journal a i ≡ None → (is_gfence (statement script a i) ≡ true → landed_before script rules r.journal a i ≡ true) → Sound script rules (Enter a i ∷ r.journal) r.wire r.handed
    unfolding needs
    enter-sound kind new e clear =
        add_silent script rules (Enter a i) r.journal r.wire r.handed tt
        (record { there = and_from _ _ is kind; once = new; after = refl; jobs = refl; waits = refl; order = (refl, e) })
        (λ b k g h.
        landed_before-later script rules (Enter a i) r.journal b k (λ j l x. cc)
        (⊎_elim
        (λ (x : Entered b k ≡ Entered a i).
        let tasks : a ≡ b = cc in
        let numbers : next r.journal a ≡ k = cc in
        subst (λ (y : ℕ × ℕ). is_gfence (statement script y.0 y.1) ≡ true → landed_before script rules r.journal y.0 y.1 ≡ true) (λ t. (tasks t, numbers t)) clear g)
        (λ (x : happened (Entered b k) r.journal ≡ true). s.fences b k g x)
        (happened-cases (Entered b k) (Enter a i) r.journal h)))
        s

    abbrev Goal : Statement → Type 0
    Goal st = SoundRun script rules (add_event script rules r (proposed script rules r a i st))

    module _ (none : refusal_of script rules r.journal (a) (next r.journal a) ≡ None) where
      plain : (st : Statement) → statement script a i ≡ st → is_issued st ≡ true → Sound script rules (Issue a i ∷ r.journal) r.wire r.handed
      plain st e kind = issue-sound (subst (λ x. is_issued x ≡ true) (sym e) kind) none

      proposed-sound : (st : Statement) → statement script a i ≡ st → Goal st
      unfolding followed
      proposed-sound (Store at bytes) e = plain (Store at bytes) e refl
      proposed-sound (Put target to from len tgt org cmpl) e = plain (Put target to from len tgt org cmpl) e refl
      proposed-sound (Get target from to len tgt org) e = plain (Get target from to len tgt org) e refl
      proposed-sound (Putv target to from tgt org cmpl) e = plain (Putv target to from tgt org cmpl) e refl
      proposed-sound (Getv target from to tgt org) e = plain (Getv target from to tgt org) e refl
      proposed-sound (Rmw target op at in1 in2 prev org) e = plain (Rmw target op at in1 in2 prev org) e refl
      proposed-sound (Am target handler header from len tgt org cmpl) e = plain (Am target handler header from len tgt org cmpl) e refl
      proposed-sound (Set counter value) e = plain (Set counter value) e refl
      proposed-sound (Read counter) e = plain (Read counter) e refl
      proposed-sound (Wait counter value) e =
          elim (nat_le value (count script rules r.journal a counter)) as (λ b. nat_le value (count script rules r.journal a counter) ≡ b → SoundRun script rules (add_event script rules r (event_if script rules b (Pass a i)))) [
            | true ↦ λ t.
                pass-sound
                (subst (λ x. is_passed x ≡ true) (sym e) refl)
                (subst (λ x. pass_allowed script rules r.journal a i x ≡ true) (sym e) t)
                (subst (λ x. cond (has_join x) (happened (Entered a i) r.journal ≡ true) (refusal_of script rules r.journal a i ≡ None)) (sym e) none)
            | false ↦ λ t. s
          ] refl
      proposed-sound Fence e =
          elim (data_clear script r a i) as (λ b. data_clear script r a i ≡ b → SoundRun script rules (add_event script rules r (event_if script rules b (Pass a i)))) [
            | true ↦ λ t.
                pass-sound
                (subst (λ x. is_passed x ≡ true) (sym e) refl)
                (subst (λ x. pass_allowed script rules r.journal a i x ≡ true) (sym e) (clear-landed r a i s t))
                (subst (λ x. cond (has_join x) (happened (Entered a i) r.journal ≡ true) (refusal_of script rules r.journal a i ≡ None)) (sym e) none)
            | false ↦ λ t. s
          ] refl
      proposed-sound Gfence e =
          let g = subst (λ x. is_gfence x ≡ true) (sym e) refl in
          elim (happened (Entered a i) r.journal) as (λ b. happened (Entered a i) r.journal ≡ b → SoundRun script rules (add_event script rules r (cond b (event_if script rules (joined script r.journal a i) (Pass a i)) (event_if script rules (data_clear script r a i) (Enter a i))))) [
            | true ↦ λ entered.
                elim (joined script r.journal a i) as (λ b. joined script r.journal a i ≡ b → SoundRun script rules (add_event script rules r (event_if script rules b (Pass a i)))) [
                  | true ↦ λ t.
                      pass-sound
                      (subst (λ x. is_passed x ≡ true) (sym e) refl)
                      (subst (λ x. pass_allowed script rules r.journal a i x ≡ true) (sym e) (joined-cleared r a i s room g entered t))
                      (subst (λ x. cond (has_join x) (happened (Entered a i) r.journal ≡ true) (refusal_of script rules r.journal a i ≡ None)) (sym e) entered)
                  | false ↦ λ t. s
                ] refl
            | false ↦ λ entered.
                elim (data_clear script r a i) as (λ b. data_clear script r a i ≡ b → SoundRun script rules (add_event script rules r (event_if script rules b (Enter a i)))) [
                  | true ↦ λ t. enter-sound (subst (λ x. has_join x ≡ true) (sym e) refl) entered none (λ _. clear-landed r a i s t)
                  | false ↦ λ t. s
                ] refl
          ] refl
      proposed-sound (Statement.Addr at) e =
          elim (happened (Entered a i) r.journal) as (λ b. happened (Entered a i) r.journal ≡ b → SoundRun script rules (add_event script rules r (cond b (event_if script rules (joined script r.journal a i) (Pass a i)) (Some (Enter a i))))) [
            | true ↦ λ entered.
                elim (joined script r.journal a i) as (λ b. joined script r.journal a i ≡ b → SoundRun script rules (add_event script rules r (event_if script rules b (Pass a i)))) [
                  | true ↦ λ t.
                      pass-sound
                      (subst (λ x. is_passed x ≡ true) (sym e) refl)
                      (subst (λ x. pass_allowed script rules r.journal a i x ≡ true) (sym e) (or_right (not (nat_le at script.memory)) _ t))
                      (subst (λ x. cond (has_join x) (happened (Entered a i) r.journal ≡ true) (refusal_of script rules r.journal a i ≡ None)) (sym e) entered)
                  | false ↦ λ t. s
                ] refl
            | false ↦ λ entered. enter-sound (subst (λ x. has_join x ≡ true) (sym e) refl) entered none (λ g. absurd (false≢true (subst (λ x. is_gfence x ≡ true) e g)))
          ] refl

    stepped : SoundRun script rules (add_event script rules r (unless_refused script rules r a i (refusal_of script rules r.journal a i)))
    unfolding followed
    stepped =
        elim (refusal_of script rules r.journal a i) as (λ o. refusal_of script rules r.journal a i ≡ o → SoundRun script rules (add_event script rules r (unless_refused script rules r a i o))) [
          | Some reason ↦ λ e. refuse-sound reason e
          | None ↦ λ e. proposed-sound e (statement script a i) refl
        ] refl

  pub step-sound : (r : Run) (a : ℕ) → a < script.tasks → SoundRun script rules r → SoundRun script rules (step script rules r a)
  unfolding step
  step-sound r a task s =
      elim (nat_lt (next r.journal a) (length (statements script a))) as (λ b. nat_lt (next r.journal a) (length (statements script a)) ≡ b → SoundRun script rules (cond b (add_event script rules r (unless_refused script rules r a (next r.journal a) (refusal_of script rules r.journal a (next r.journal a)))) (reply_with script rules r Idle))) [
        | true ↦ λ e. stepped r a s task (ltb-true _ _ e)
        | false ↦ λ e. s
      ] refl

  -- Jobs.
  to-land-by : (J : List Event) (a i : ℕ) (leg : Leg) → leg ≡ Go → AllByRecursion (λ d. happened d J ≡ true) (land_needs script rules a i leg) → AllByRecursion (λ d. happened d J ≡ true) (to_land script rules a i)
  to-land-by J a i Go e h = h
  to-land-by J a i Back e h = absurd (cc)
  to-land-by J a i Note e h = absurd (cc)
  to-land-by J a i Echo e h = absurd (cc)
  to-land-by J a i (Join d) e h = absurd (cc)

  pub begin-sound : (r : Run) (t w : ℕ) → t < script.tasks → w < script.workers → SoundRun script rules r → SoundRun script rules (begin script rules r t w)
  unfolding begin followed needs is_job has_completion
  begin-sound r t w task room s =
      elim (runs r.journal t w) as (λ o. runs r.journal t w ≡ o → SoundRun script rules (begin_at script rules r t w o)) [
        | Some m ↦ λ e. s
        | None ↦ λ free.
            elim (queue script rules r.journal t) as (λ ms. queue script rules r.journal t ≡ ms → SoundRun script rules (begin_first script rules r t w ms)) [
              | [] ↦ λ e. s
              | m ∷ ms ↦ λ e.
                  let first = (subst (λ ns. AllByRecursion (λ n. Waiting script rules r.journal t n × (not (happened (Begun n) r.journal) ≡ true)) ns) e (queue-waiting script rules r.journal t)).0 in
                  let job = and_parts (leg_eq m.leg Go) (has_completion script rules m.origin m.statement && receiver script m == t) first.0.0 in
                  let ends = and_parts (has_completion script rules m.origin m.statement) (receiver script m == t) job.1 in
                  let landed = first.0.1 in
                  add_silent script rules (Begin m t w) r.journal r.wire r.handed tt
                  (record {
                    there = and_from _ _ (and_from _ _ (there script rules (Landed m) r.journal s.atomic landed) (and_from _ _ job.0 (and_parts _ _ ends.0).0)) (and_from _ _ ends.1 (and_from _ _ (lt-ltb t script.tasks task) (lt-ltb w script.workers room)));
                    once = not-true _ first.1;
                    after = list_all-at (λ d. happened d r.journal) (Landed m ∷ to_land script rules m.origin m.statement) (landed, to-land-by r.journal m.origin m.statement m.leg (leg_eq-true m.leg Go job.0) (closed script rules (Landed m) r.journal s.atomic landed));
                    jobs =
                        and_from _ _
                        (subst (λ ns. is_first script rules m ns ≡ true) (sym e) (name_eq-refl m))
                        (subst (λ o. not (is_some o) ≡ true) (sym free) refl);
                    waits = refl;
                    order = tt;
                  })
                  (quiet-fences (Begin m t w) r.journal r.wire r.handed (λ b j x. cc) (λ b j x. cc) s)
                  s
            ] refl
      ] refl

  -- the message of a job is the Go of its operation
  end-go : (r : Run) (t w a i : ℕ) → SoundRun script rules r → runs r.journal t w ≡ Some (message a i Go) → SoundRun script rules (end_at script rules r t w (Some (message a i Go)))
  unfolding followed needs
  end-go r t w a i s e =
      let m = message a i Go in
      let K = End m t w ∷ r.journal in
      let b = begun script rules r.journal t w m s.atomic e in
      let job = and_parts (has_message script rules m && (leg_eq m.leg Go && is_am (statement script m.origin m.statement))) (receiver script m == t && (nat_lt t script.tasks && nat_lt w script.workers)) b.1 in
      let there : has_message script rules m ≡ true = (and_parts (has_message script rules m) (leg_eq m.leg Go && is_am (statement script m.origin m.statement)) job.0).0 in
      let here : has_statement script rules a i ≡ true = (and_parts (has_statement script rules a i) (is_data (statement script a i)) there).0 in
      let stood = closed script rules (Begun m) r.journal s.atomic b.0 in
      let unended' = unended script rules r.journal t w m s.atomic e in
      let keeps : Keeps script rules r.journal (End m t w) = record {
        there = b.1;
        once = unended';
        after = subst (λ c. list_all (λ d. happened d r.journal) (only_if c (Begun m ∷ []) ++ Landed m ∷ to_land script rules a i) ≡ true) (sym b.2) (list_all-at (λ d. happened d r.journal) (Begun m ∷ Landed m ∷ to_land script rules a i) (b.0, stood));
        jobs = subst (λ o. is_run script rules m o ≡ true) (sym e) (name_eq-refl m);
        waits = refl;
        order = tt;
      } in
      let s' = add_silent script rules (End m t w) r.journal r.wire r.handed tt keeps (quiet-fences (End m t w) r.journal r.wire r.handed (λ c j x. cc) (λ c j x. cc) s) s in
      let follow = subst (λ c. AllByRecursion (λ d. happened d K ≡ true) (only_if c (Begun m ∷ Ended m ∷ []) ++ Landed m ∷ to_land script rules a i)) (sym b.2)
      (happened-later (Begun m) (End m t w) r.journal b.0, (happened-head (End m t w) r.journal, happened-all-later (Landed m ∷ to_land script rules a i) (End m t w) r.journal stood)) in
      let unsent : AllByRecursion (λ d. happened d r.journal ≡ true) (to_follow script rules a i) → ⊥ =
      λ old. let known = subst (λ c. AllByRecursion (λ d. happened d r.journal ≡ true) (only_if c (Begun m ∷ Ended m ∷ []) ++ Landed m ∷ to_land script rules a i)) b.2 old in both_ways _ unended' known.1.0
      in
      cond_both (answers script rules a i) (Copy (message a i Echo) ∷ []) (note_of script rules m) (λ es. Sound script rules (followed K es) r.wire r.handed)
      (λ answered.
      add_copy script rules (message a i Echo) K r.wire r.handed
      (keeps-copy script rules K (message a i Echo) (and_from _ _ here answered, follow)
      (false_from_ne_true _ (λ sent. unsent (closed script rules (Copied (message a i Echo)) r.journal s.atomic (before script rules (Copied (message a i Echo)) (End m t w) r.journal (λ y. cc) sent)))))
      s')
      (λ silent.
      note-sound script rules K r.wire r.handed a i silent here
      (false_from_ne_true _ (λ sent. unsent (closed script rules (Copied (message a i Note)) r.journal s.atomic (before script rules (Copied (message a i Note)) (End m t w) r.journal (λ y. cc) sent))))
      follow s')

  pub end-sound : (r : Run) (t w : ℕ) → SoundRun script rules r → SoundRun script rules (end script rules r t w)
  unfolding end
  end-sound r t w s =
      elim (runs r.journal t w) as (λ o. runs r.journal t w ≡ o → SoundRun script rules (end_at script rules r t w o)) [
        | None ↦ λ e. s
        | Some m ↦ λ e.
            let b = begun script rules r.journal t w m s.atomic e in
            let job = and_parts _ _ b.1 in
            let go = leg_eq-true m.leg Go (and_parts _ _ (and_parts _ _ job.0).1).0 in
            subst (λ l. runs r.journal t w ≡ Some (message m.origin m.statement l) → SoundRun script rules (end_at script rules r t w (Some (message m.origin m.statement l)))) (sym go)
            (end-go r t w m.origin m.statement s) e
      ] refl
