-- Events that leave the jobs of a task as they are.
use Rattle.std.proofs.Common.{◌≡◌, ℕ, ◌<◌, ◌^◌, false, not, List, [], ◌∷◌, filter, map, length, Option, refl, sym, ap, ◌∙◌, subst}
use Rattle.std.specs.Prelude.{option_map}
use Rattle.std.specs.List.{AllByRecursion}
use Rattle.std.proofs.lemmas.Bool.{cond-false}
use Rattle.lapi_base.specs.declared.script.Script.{Script}
use Rattle.lapi_base.specs.declared.rule.Rules.{Rules}
use Rattle.lapi_base.specs.declared.event.Event.{Event}
use Rattle.lapi_base.specs.declared.event.Event.TheVariants.{Issue, Refuse, Enter, Pass, Copy, Head, Land, Begin, End}
use Rattle.lapi_base.specs.declared.message.MsgName.{MsgName}
use Rattle.lapi_base.specs.Record.Acts.{followed}
use Rattle.lapi_base.specs.Record.Jobs.{is_job, landed_jobs, queue, runs}
use Rattle.lapi_base.specs.Record.Names.{Begun, happened}
use Rattle.lapi_jobs.specs.Jobs.{Works, run_by}
use Rattle.lapi_task.specs.HasJobs.{pending, HasJobs}

module _ (script : Script) (rules : Rules) (t : ℕ) where
  -- the event brings no job to the task, and begins and ends none
  abbrev pub LeavesJobs : Event → Type 0
  LeavesJobs (Land m) = is_job script rules t m ≡ false
  LeavesJobs (Begin m a w) = ⊥
  LeavesJobs (End m a w) = ⊥
  LeavesJobs (Issue a i) = Unit {0}
  LeavesJobs (Refuse a i why) = Unit {0}
  LeavesJobs (Enter a i) = Unit {0}
  LeavesJobs (Pass a i) = Unit {0}
  LeavesJobs (Copy m) = Unit {0}
  LeavesJobs (Head m) = Unit {0}

  pub queue-stays : (e : Event) (J : List Event) → LeavesJobs e → queue script rules (e ∷ J) t ≡ queue script rules J t
  unfolding queue landed_jobs happened
  queue-stays (Land m) J h = ap (filter (λ n. not (happened (Begun n) J))) (cond-false (is_job script rules t m) _ (landed_jobs script rules J t) h)
  queue-stays (Begin m a w) J h = absurd h
  queue-stays (End m a w) J h = absurd h
  queue-stays (Issue a i) J h = refl
  queue-stays (Refuse a i why) J h = refl
  queue-stays (Enter a i) J h = refl
  queue-stays (Pass a i) J h = refl
  queue-stays (Copy m) J h = refl
  queue-stays (Head m) J h = refl

  runs-stays : (e : Event) (J : List Event) (w : ℕ) → LeavesJobs e → runs (e ∷ J) t w ≡ runs J t w
  unfolding runs
  runs-stays (Land m) J w h = refl
  runs-stays (Begin m a v) J w h = absurd h
  runs-stays (End m a v) J w h = absurd h
  runs-stays (Issue a i) J w h = refl
  runs-stays (Refuse a i why) J w h = refl
  runs-stays (Enter a i) J w h = refl
  runs-stays (Pass a i) J w h = refl
  runs-stays (Copy m) J w h = refl
  runs-stays (Head m) J w h = refl

  pub queue-followed : (es J : List Event) → AllByRecursion LeavesJobs es → queue script rules (followed J es) t ≡ queue script rules J t
  unfolding followed
  queue-followed [] J h = refl
  queue-followed (e ∷ es) J h = queue-followed es (e ∷ J) h.1 ∙ queue-stays e J h.0

  -- where the same waits and runs, the task has its jobs
  pub jobs-same : (J K : List Event) (old new : Works) → new ≡ old → queue script rules K t ≡ queue script rules J t → ((w : ℕ) → runs K t w ≡ runs J t w) → HasJobs script rules t old J → HasJobs script rules t new K
  jobs-same J K old new e waiting running h = record {
    waiting = ap (λ (x : Works). x.waiting) e ∙ h.waiting ∙ ap (λ (ms : List MsgName). map (pending script rules) ms) (sym waiting);
    few = subst (λ (x : Works). length x.waiting < 2 ^ 32) (sym e) h.few;
    workers = ap (λ (x : Works). length x.workers) e ∙ h.workers;
    running = λ w l. ap (λ (x : Works). run_by x w) e ∙ h.running w l ∙ ap (λ (o : Option MsgName). option_map (pending script rules) o) (sym (running w));
  }

  pub jobs-stay : (e : Event) (J : List Event) (old new : Works) → LeavesJobs e → new ≡ old → HasJobs script rules t old J → HasJobs script rules t new (e ∷ J)
  jobs-stay e J old new leaves same h = jobs-same J (e ∷ J) old new same (queue-stays e J leaves) (λ w. runs-stays e J w leaves) h
