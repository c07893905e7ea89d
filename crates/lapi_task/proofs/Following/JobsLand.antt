-- The jobs of a task after a landing.
use Rattle.std.proofs.Common.{◌≡◌, ℕ, Bool, true, false, cond, not, List, [], ◌∷◌, ◌++◌, filter, map, length, Option, Some, None, is_some, refl, sym, ap, ◌∙◌, subst}
use Rattle.std.specs.Prelude.{option_map}
use Rattle.std.specs.List.{AllByRecursion}
use Rattle.std.proofs.lemmas.Bool.{both_ways, false_from_ne_true}
use Rattle.std.proofs.lemmas.List.{append-nil, map-append}
use Rattle.std.proofs.lemmas.List.Elements.{filter-append}
use Rattle.lapi_base.specs.declared.script.Script.{Script}
use Rattle.lapi_base.specs.declared.rule.Rules.{Rules}
use Rattle.lapi_base.specs.declared.handler.HeaderOut.{HeaderOut}
use Rattle.lapi_base.specs.declared.head.Head.{Head}
use Rattle.lapi_base.specs.declared.event.Event.{Event}
use Rattle.lapi_base.specs.declared.event.Event.TheVariants.{Land}
use Rattle.lapi_base.specs.declared.event.Event.TheVariants as events
use Rattle.lapi_base.specs.declared.message.MsgName.{MsgName}
use Rattle.lapi_base.specs.Record.Acts.{followed}
use Rattle.lapi_base.specs.Record.Atomic.{Atomic, needs}
use Rattle.lapi_base.specs.Record.HeadSays.{is_active, follows}
use Rattle.lapi_base.specs.Record.Jobs.{is_job, landed_jobs, queue, runs}
use Rattle.lapi_base.specs.Record.Names.{Landed, Begun, happened}
use Rattle.lapi_jobs.specs.declared.pending.Pending.{Pending}
use Rattle.lapi_jobs.specs.Jobs.{Works, run_by}
use Rattle.lapi_laws.proofs.Backward.{Atomic-head, Atomic-tail, closed}
use Rattle.lapi_task.specs.Answered.{completion_in, completes_in, job_with, job_in}
use Rattle.lapi_task.specs.HasJobs.{pending, HasJobs}
use Rattle.lapi_task.specs.Landed.{Follower, FewWait, called, with_job, jobs_after, events_of}
use Rattle.lapi_task.proofs.Following.FollowerParts.{copies, follows-is}
use Rattle.lapi_task.proofs.Working.JobsStay.{LeavesJobs, jobs-stay}
use Rattle.lapi_task.proofs.Receiving.ReceiveEvents.{come, followed-append}

module _ (script : Script) (rules : Rules) (t : ℕ) where
  landed-queue : (m : MsgName) (J : List Event) → happened (Begun m) J ≡ false → queue script rules (Land m ∷ J) t ≡ queue script rules J t ++ cond (is_job script rules t m) (m ∷ []) []
  unfolding queue landed_jobs happened
  landed-queue m J new =
      let old = landed_jobs script rules J t in
      let waits = λ (n : MsgName). not (happened (Begun n) J) in
      elim (is_job script rules t m) as (λ b. filter waits (cond b (old ++ m ∷ []) old) ≡ filter waits old ++ cond b (m ∷ []) []) [
        | true ↦ filter-append waits old (m ∷ []) ∙ ap (λ b. filter waits old ++ cond (not b) (m ∷ []) []) new
        | false ↦ sym (append-nil (filter waits old))
      ]

  landed-runs : (m : MsgName) (J : List Event) (w : ℕ) → runs (Land m ∷ J) t w ≡ runs J t w
  unfolding runs
  landed-runs m J w = refl

  not-begun : (m : MsgName) (J : List Event) → Atomic script rules (Land m ∷ J) → happened (Begun m) J ≡ false
  unfolding needs
  not-begun m J atomic =
      false_from_ne_true (happened (Begun m) J) (λ begun.
      both_ways (happened (Landed m) J) (Atomic-head script rules (Land m) J atomic).once (closed script rules (Begun m) J (Atomic-tail script rules (Land m) J atomic) begun).0)

  -- the jobs with one more are those of the queue with it
  waiting-with : (m : MsgName) (jobs : Works) (o : Option Pending) (ms : List MsgName) (b : Bool) → b ≡ is_some o → ((job : Pending) → o ≡ Some job → job ≡ pending script rules m) → jobs.waiting ≡ map (pending script rules) ms → (with_job jobs o).waiting ≡ map (pending script rules) (ms ++ cond b (m ∷ []) [])
  waiting-with m jobs None ms b e is h =
      h ∙ ap (map (pending script rules)) (sym (append-nil ms)) ∙ ap (λ c. map (pending script rules) (ms ++ cond c (m ∷ []) [])) (sym e)
  waiting-with m jobs (Some job) ms b e is h =
      ap (λ (xs : List Pending). xs ++ job ∷ []) h
      ∙ ap (λ (x : Pending). map (pending script rules) ms ++ x ∷ []) (is job refl)
      ∙ sym (map-append (pending script rules) ms (m ∷ []))
      ∙ ap (λ c. map (pending script rules) (ms ++ cond c (m ∷ []) [])) (sym e)

  same-workers : (jobs : Works) (o : Option Pending) → (with_job jobs o).workers ≡ jobs.workers
  same-workers jobs None = refl
  same-workers jobs (Some job) = refl

  jobs-landed : (m : MsgName) (J : List Event) (jobs : Works) (o : Option Pending) → Atomic script rules (Land m ∷ J) → is_job script rules t m ≡ is_some o → ((job : Pending) → o ≡ Some job → job ≡ pending script rules m) → FewWait (with_job jobs o) → HasJobs script rules t jobs J → HasJobs script rules t (with_job jobs o) (Land m ∷ J)
  jobs-landed m J jobs o atomic told is few h =
      record {
        waiting =
            waiting-with m jobs o (queue script rules J t) (is_job script rules t m) told is h.waiting
            ∙ ap (map (pending script rules)) (sym (landed-queue m J (not-begun m J atomic)));
        few = few;
        workers = ap length (same-workers jobs o) ∙ h.workers;
        running = λ w l.
            ap (λ ws. run_by (record jobs { workers = ws }) w) (same-workers jobs o)
            ∙ h.running w l ∙ ap (λ (x : Option MsgName). option_map (pending script rules) x) (sym (landed-runs m J w));
      }

  jobs-followed : (es J : List Event) (jobs : Works) → AllByRecursion (LeavesJobs script rules t) es → HasJobs script rules t jobs J → HasJobs script rules t jobs (followed J es)
  unfolding followed
  jobs-followed [] J jobs l h = h
  jobs-followed (e ∷ es) J jobs l h = jobs-followed es (e ∷ J) jobs l.1 (jobs-stay script rules t e J jobs jobs l.0 refl h)

  copies-leave : (o : Option Follower) → AllByRecursion (LeavesJobs script rules t) (copies o)
  copies-leave None = tt
  copies-leave (Some x) = (tt, tt)

  called-leaves : (first : Bool) (m : MsgName) (h : Head) → AllByRecursion (LeavesJobs script rules t) (called first m h)
  called-leaves true m h = elim (is_active h) as (λ b. AllByRecursion (LeavesJobs script rules t) (cond b (events.Head m ∷ []) [])) [ true ↦ (tt, tt) | false ↦ tt ]
  called-leaves false m h = tt

  -- a journal that was followed was itself atomic
  pub before-followed : (es J : List Event) → Atomic script rules (followed J es) → Atomic script rules J
  unfolding followed
  before-followed [] J h = h
  before-followed (e ∷ es) J h = Atomic-tail script rules e J (before-followed es (e ∷ J) h)

  -- What came took effect.
  pub jobs-come : (first whole : Bool) (m : MsgName) (h : Head) (bytes : List ℕ) (out : Option HeaderOut) (size count : ℕ) (jobs : Works) (J : List Event) →
      let arrival = come whole m h bytes out in
      let K = followed J (called first m h ++ events_of count arrival) in
      Atomic script rules K → is_job script rules t m ≡ completes_in count out →
      ((c : ℕ) → whole ≡ true → completion_in count out ≡ Some c → job_with size m h (length bytes) out c ≡ pending script rules m) →
      FewWait (jobs_after size count arrival jobs) → HasJobs script rules t jobs J → HasJobs script rules t (jobs_after size count arrival jobs) K
  unfolding followed
  jobs-come first false m h bytes out size count jobs J atomic told is few g =
      subst (HasJobs script rules t jobs) (ap (followed J) (sym (append-nil (called first m h)))) (jobs-followed (called first m h) J jobs (called-leaves first m h) g)
  jobs-come first true m h bytes out size count jobs J atomic told is few g =
      let J0 = followed J (called first m h) in
      let after = follows h (completes_in count out) m in
      let o = job_in size count m h (length bytes) out in
      let whole : followed J (called first m h ++ Land m ∷ after) ≡ followed (Land m ∷ J0) after = followed-append (called first m h) (Land m ∷ after) J in
      let then : Atomic script rules (Land m ∷ J0) = before-followed after (Land m ∷ J0) (subst (Atomic script rules) whole atomic) in
      let own = jobs-landed m J0 jobs o then (told ∙ sym (mapped (completion_in count out))) (job-is (completion_in count out) refl) few (jobs-followed (called first m h) J jobs (called-leaves first m h) g) in
      subst (HasJobs script rules t (with_job jobs o)) (sym whole)
      (jobs-followed after (Land m ∷ J0) (with_job jobs o)
      (subst (AllByRecursion (LeavesJobs script rules t)) (sym (follows-is 0 0 0 m (completes_in count out) [] h)) (copies-leave _)) own)
    where
      mapped : (c : Option ℕ) → is_some (option_map (job_with size m h (length bytes) out) c) ≡ is_some c
      mapped None = refl
      mapped (Some c) = refl

      job-is : (c : Option ℕ) → completion_in count out ≡ c → (job : Pending) → option_map (job_with size m h (length bytes) out) c ≡ Some job → job ≡ pending script rules m
      job-is None e job x = absurd (cc)
      job-is (Some c) e job x = let same : job_with size m h (length bytes) out c ≡ job = cc in sym same ∙ is c refl e
