-- The queue of a task and what its workers run, after a Begin and after an End.
use Rattle.std.proofs.Common.{◌≡◌, ℕ, ◌<◌, ◌^◌, ◌==◌, Bool, true, false, cond, ◌&&◌, ◌||◌, not, List, [], ◌∷◌, ◌++◌, length, map, filter, Option, Some, None, refl, sym, ap, ◌∙◌, subst, ⊎_elim, arith}
use Rattle.std.specs.Prelude.{option_map}
use Rattle.std.specs.List.{AllByRecursion}
use Rattle.std.proofs.lemmas.Bool.{cond_both, cond-true, cond-false, both_ways, false_from_ne_true, cases_eq, ne_eqb}
use Rattle.std.proofs.lemmas.List.{length-set, get_or-set_same, get_or-set_other}
use Rattle.lapi_base.specs.declared.script.Script.{Script}
use Rattle.lapi_base.specs.declared.rule.Rules.{Rules}
use Rattle.lapi_base.specs.declared.event.Event.{Event}
use Rattle.lapi_base.specs.declared.event.Event.TheVariants.{Issue, Refuse, Enter, Pass, Copy, Head, Land, Begin, End}
use Rattle.lapi_base.specs.declared.message.MsgName.{MsgName}
use Rattle.lapi_base.specs.Record.Atomic.{Atomic}
use Rattle.lapi_base.specs.Record.Jobs.{is_job, landed_jobs, queue, runs}
use Rattle.lapi_base.specs.Record.Names.{name_eq, Landed, Begun, happened}
use Rattle.lapi_base.proofs.ListLaws.{all-weaker, all-append}
use Rattle.lapi_base.proofs.NameLaws.{name_eq-true, name_eq-refl}
use Rattle.lapi_base.proofs.TestLaws.{eqb-refl}
use Rattle.lapi_jobs.specs.declared.pending.Pending.{Pending}
use Rattle.lapi_jobs.specs.Jobs.{Works, run_by, with_run}
use Rattle.lapi_laws.proofs.Backward.{Atomic-head, Atomic-tail}
use Rattle.lapi_laws.proofs.Workers.{Waiting, landed-waiting}
use Rattle.lapi_task.specs.HasJobs.{pending, HasJobs}

-- none of these has the name
abbrev Apart : MsgName → List MsgName → Type 0
Apart m ms = AllByRecursion (λ x. name_eq x m ≡ false) ms

-- no name stands twice
abbrev AllApart : List MsgName → Type 0
AllApart [] = Unit {0}
AllApart (m ∷ ms) = Apart m ms × AllApart ms

apart-more : (m : MsgName) (ms : List MsgName) → AllApart ms → AllByRecursion (λ x. name_eq m x ≡ false) ms → AllApart (ms ++ m ∷ [])
apart-more m [] h a = (tt, tt)
apart-more m (x ∷ ms) h a = (all-append (λ y. name_eq y x ≡ false) ms (m ∷ []) h.0 (a.0, tt), apart-more m ms h.1 a.1)

-- a name that isn't there takes nothing from a filter
skips : (m : MsgName) (f : MsgName → Bool) (ms : List MsgName) → Apart m ms → filter (λ x. not (name_eq x m || f x)) ms ≡ filter (λ x. not (f x)) ms
skips m f [] h = refl
skips m f (x ∷ ms) h = λ k. cond (not (h.0 k || f x)) (x ∷ skips m f ms h.1 k) (skips m f ms h.1 k)

-- and the first of those that pass takes itself
takes : (m : MsgName) (f : MsgName → Bool) (ms rest : List MsgName) → AllApart ms → filter (λ x. not (f x)) ms ≡ m ∷ rest → filter (λ x. not (name_eq x m || f x)) ms ≡ rest
takes m f [] rest h e = absurd (cc)
takes m f (x ∷ ms) rest h e =
    elim (f x) as (λ b. cond (not b) (x ∷ filter (λ x. not (f x)) ms) (filter (λ x. not (f x)) ms) ≡ m ∷ rest → cond (not (name_eq x m || b)) (x ∷ filter (λ x. not (name_eq x m || f x)) ms) (filter (λ x. not (name_eq x m || f x)) ms) ≡ rest) [
      | true ↦ λ e'. cond-false (not (name_eq x m || true)) (x ∷ filter (λ x. not (name_eq x m || f x)) ms) (filter (λ x. not (name_eq x m || f x)) ms) (never (name_eq x m)) ∙ takes m f ms rest h.1 e'
      | false ↦ λ e'.
          let same : x ≡ m = cc in
          let tail : filter (λ x. not (f x)) ms ≡ rest = cc in
          let yes : name_eq x m ≡ true = subst (λ y. name_eq y m ≡ true) (sym same) (name_eq-refl m) in
          cond-false (not (name_eq x m || false)) (x ∷ filter (λ x. not (name_eq x m || f x)) ms) (filter (λ x. not (name_eq x m || f x)) ms) (λ k. not (yes k || false))
          ∙ skips m f ms (subst (λ y. Apart y ms) same h.0)
          ∙ tail
    ] e
  where
    never : (b : Bool) → not (b || true) ≡ false
    never true = refl
    never false = refl

-- what a worker runs after another job, or none, was given to one
run-set : (jobs : Works) (w v : ℕ) (o : Option Pending) → w < length jobs.workers → run_by (with_run jobs w o) v ≡ cond (w == v) o (run_by jobs v)
run-set jobs w v o l =
    ⊎_elim
    (λ (same : v ≡ w).
    ap (λ k. run_by (with_run jobs w o) k) same
    ∙ get_or-set_same jobs.workers w o None l
    ∙ sym (cond-true (w == v) o (run_by jobs v) (subst (λ k. (w == k) ≡ true) (sym same) (eqb-refl w))))
    (λ (apart : v ≡ w → ⊥).
    get_or-set_other jobs.workers w v o None apart
    ∙ sym (cond-false (w == v) o (run_by jobs v) (ne_eqb w v (λ e. apart (sym e)))))
    (cases_eq v w)

module _ (script : Script) (rules : Rules) where
  -- what lands is new among the jobs
  new-job : (m : MsgName) (J : List Event) (t : ℕ) (ms : List MsgName) → happened (Landed m) J ≡ false → AllByRecursion (Waiting script rules J t) ms → AllByRecursion (λ x. name_eq m x ≡ false) ms
  new-job m J t ms new w = all-weaker (Waiting script rules J t) (λ x. name_eq m x ≡ false) (λ x h. false_from_ne_true (name_eq m x) (λ y. both_ways (happened (Landed m) J) new (subst (λ z. happened (Landed z) J ≡ true) (sym (name_eq-true m x y)) h.1))) ms w

  jobs-apart : (J : List Event) (t : ℕ) → Atomic script rules J → AllApart (landed_jobs script rules J t)
  unfolding landed_jobs
  jobs-apart [] t h = tt
  jobs-apart (Land m ∷ J) t h =
      let old = jobs-apart J t (Atomic-tail script rules (Land m) J h) in
      cond_both (is_job script rules t m) (landed_jobs script rules J t ++ m ∷ []) (landed_jobs script rules J t) AllApart
      (λ _. apart-more m (landed_jobs script rules J t) old (new-job m J t (landed_jobs script rules J t) (Atomic-head script rules (Land m) J h).once (landed-waiting script rules J t)))
      (λ _. old)
  jobs-apart (Issue a i ∷ J) t h = jobs-apart J t (Atomic-tail script rules (Issue a i) J h)
  jobs-apart (Refuse a i y ∷ J) t h = jobs-apart J t (Atomic-tail script rules (Refuse a i y) J h)
  jobs-apart (Enter a i ∷ J) t h = jobs-apart J t (Atomic-tail script rules (Enter a i) J h)
  jobs-apart (Pass a i ∷ J) t h = jobs-apart J t (Atomic-tail script rules (Pass a i) J h)
  jobs-apart (Copy m ∷ J) t h = jobs-apart J t (Atomic-tail script rules (Copy m) J h)
  jobs-apart (Head m ∷ J) t h = jobs-apart J t (Atomic-tail script rules (Head m) J h)
  jobs-apart (Begin m b w ∷ J) t h = jobs-apart J t (Atomic-tail script rules (Begin m b w) J h)
  jobs-apart (End m b w ∷ J) t h = jobs-apart J t (Atomic-tail script rules (End m b w) J h)

  module _ (t : ℕ) (J : List Event) (m : MsgName) (w : ℕ) where
    -- a Begin takes the first of the queue,
    begun-queue : (ms : List MsgName) → Atomic script rules J → queue script rules J t ≡ m ∷ ms → queue script rules (Begin m t w ∷ J) t ≡ ms
    unfolding queue landed_jobs happened
    begun-queue ms h e = takes m (λ x. happened (Begun x) J) (landed_jobs script rules J t) ms (jobs-apart J t h) e

    begun-runs : (v : ℕ) → runs (Begin m t w ∷ J) t v ≡ cond (w == v) (Some m) (runs J t v)
    unfolding runs
    begun-runs v = ap (λ b. cond (b && w == v) (Some m) (runs J t v)) (eqb-refl t)

    -- and an End takes none.
    ended-queue : queue script rules (End m t w ∷ J) t ≡ queue script rules J t
    unfolding queue landed_jobs happened
    ended-queue = refl

    ended-runs : (v : ℕ) → runs (End m t w ∷ J) t v ≡ cond (w == v) None (runs J t v)
    unfolding runs
    ended-runs v = ap (λ b. cond (b && w == v) None (runs J t v)) (eqb-refl t)

    module _ (jobs new : Works) (h : HasJobs script rules t jobs J) (room : w < script.workers) where
      there : w < length jobs.workers
      there = let n = h.workers in omega (arith, room, n)

      pub jobs-begun : (ms : List MsgName) (job : Pending) → Atomic script rules J → queue script rules J t ≡ m ∷ ms → job ≡ pending script rules m → jobs.waiting ≡ job ∷ new.waiting → new ≡ with_run (record jobs { waiting = new.waiting }) w (Some job) → HasJobs script rules t new (Begin m t w ∷ J)
      jobs-begun ms job atomic first is waits run = record {
        waiting =
            (let e : job ∷ new.waiting ≡ pending script rules m ∷ map (pending script rules) ms = sym waits ∙ h.waiting ∙ ap (λ (ns : List MsgName). map (pending script rules) ns) first in
            let q : new.waiting ≡ map (pending script rules) ms = cc in q)
            ∙ ap (λ (ns : List MsgName). map (pending script rules) ns) (sym (begun-queue ms atomic first));
        few = let f = h.few in let n = ap length waits in omega (arith, f, n);
        workers = ap (λ (x : Works). length x.workers) run ∙ length-set jobs.workers w (Some job) ∙ h.workers;
        running = λ v l.
            ap (λ (x : Works). run_by x v) run
            ∙ run-set (record jobs { waiting = new.waiting }) w v (Some job) there
            ∙ elim (w == v) as (λ b. cond b (Some job) (run_by jobs v) ≡ option_map (pending script rules) (cond b (Some m) (runs J t v))) [
              | true ↦ ap Some is
              | false ↦ h.running v l
            ]
            ∙ ap (λ (o : Option MsgName). option_map (pending script rules) o) (sym (begun-runs v));
      }

      pub jobs-ended : new ≡ with_run jobs w None → HasJobs script rules t new (End m t w ∷ J)
      jobs-ended run = record {
        waiting = ap (λ (x : Works). x.waiting) run ∙ h.waiting ∙ ap (λ (ns : List MsgName). map (pending script rules) ns) (sym ended-queue);
        few = subst (λ (x : Works). length x.waiting < 2 ^ 32) (sym run) h.few;
        workers = ap (λ (x : Works). length x.workers) run ∙ length-set jobs.workers w None ∙ h.workers;
        running = λ v l.
            ap (λ (x : Works). run_by x v) run
            ∙ run-set jobs w v None there
            ∙ elim (w == v) as (λ b. cond b None (run_by jobs v) ≡ option_map (pending script rules) (cond b None (runs J t v))) [
              | true ↦ refl
              | false ↦ h.running v l
            ]
            ∙ ap (λ (o : Option MsgName). option_map (pending script rules) o) (sym (ended-runs v));
      }
