-- The finished jobs that a lane keeps.
use Rattle.std.proofs.Common.{◌≡◌, ℕ, ◌+◌, ◌*◌, ◌<◌, ◌==◌, ◌&&◌, false, List, length, set, replicate, Option, Some, None, refl, sym, ap, ◌∙◌, subst, arith}
use Rattle.std.specs.Prelude.{slice_index_or, unwrap_or, option_map}
use Rattle.std.proofs.lemmas.Bool.{and_parts, eqb-true, false_from_ne_true}
use Rattle.std.proofs.lemmas.Grind.{get_or-set_at}
use Rattle.std.proofs.lemmas.List.{get_or-set_other, get_or-replicate, length-set}
use mathlib.Core.Logic.{dite}
use native.Mathlib.Decide.{ℕ_discrete}
use Rattle.lapi_base.specs.declared.message.MsgName.{MsgName}
use Rattle.lapi_base.specs.declared.rule.CompletionRule.{CompletionRule}
use Rattle.lapi_base.specs.declared.schedule.Act.{Act}
use Rattle.lapi_base.specs.declared.schedule.Line.{Line}
use Rattle.lapi_base.specs.Laws.Working.{works_at}
use Rattle.lapi_base.specs.Record.Handlers.{completion, completion_answer, completion_rule, rule_named, user}
use Rattle.lapi_base.specs.Record.Lanes.{is_work_of}
use Rattle.lapi_base.specs.Record.WorldView.{WorldView}
use Rattle.lapi_handlers.specs.declared.finished.Finished.{Finished}
use Rattle.lapi_handlers.specs.declared.job.Job.{Job}
use Rattle.lapi_parts.proofs.WorkerLines.{begin_place, end_place}
use Rattle.lapi_world.specs.Jobs.{BeginsAt, EndsAt, RunsJob}
use Rattle.lapi_live.specs.Histories.{IsOwn, HasWorker, IsShareable, SameJobs, SameOtherJobs, NoJobs, record_after, buffer_after, job_after, IsOfWorkerAfter}
use Rattle.lapi_live.specs.Running.{AreHeld}
use Rattle.lapi_live.proofs.Taking.{still_held, has_worker, end_line}

-- nothing is kept at first, where nothing runs
pub none_held : (plan : WorldView) (lanes : ℕ) (lines : List ℕ) (jobs : List (Option Finished)) → jobs ≡ replicate 32 None → NoJobs plan lanes lines → AreHeld plan lanes lines jobs
none_held plan lanes lines jobs is idle =
    let none : Option Finished = None in
    record {
      count = ap length is;
      each = λ t w lt lw has. subst (IsOfWorkerAfter plan lines t w) (sym (ap (λ (list : List (Option Finished)). slice_index_or list (t * 4 + w) None) is ∙ get_or-replicate 32 (t * 4 + w) none none (omega arith))) (idle t w has);
    }

pub held_same : (plan : WorldView) (lanes : ℕ) (old new : List ℕ) (jobs : List (Option Finished)) → SameJobs plan lanes old new → AreHeld plan lanes old jobs → AreHeld plan lanes new jobs
held_same plan lanes old new jobs same h = record {
  count = h.count;
  each = λ t w lt lw has. still_held plan old new t w (slice_index_or jobs (t * 4 + w) None) (same t w has) (h.each t w lt lw has);
}

-- one place is set to what is of its worker
module _ (plan : WorldView) (lanes n : ℕ) (old new : List ℕ) (jobs : List (Option Finished)) (t0 w0 : ℕ) (kept : Option Finished) (place : (t0 < 8) × (w0 < 4)) (own : (t w : ℕ) → is_work_of plan.schedule t w n ≡ (t0 == t && w0 == w)) (same : SameOtherJobs plan lanes n old new) (ours : IsOfWorkerAfter plan new t0 w0 kept) (h : AreHeld plan lanes old jobs) where
  here : (t w : ℕ) → t < 8 → w < 4 → t * 4 + w ≡ t0 * 4 + w0 → IsOfWorkerAfter plan new t w (slice_index_or (set jobs (t0 * 4 + w0) kept) (t * 4 + w) None)
  here t w lt lw e =
      let lt0 : t0 < 8 = place.0 in
      let lw0 : w0 < 4 = place.1 in
      let count : length jobs ≡ 32 = h.count in
      let et : t0 ≡ t = omega arith in
      let ew : w0 ≡ w = omega arith in
      let got : slice_index_or (set jobs (t0 * 4 + w0) kept) (t * 4 + w) None ≡ kept = get_or-set_at jobs (t0 * 4 + w0) (t * 4 + w) kept None e (omega arith) in
      subst (IsOfWorkerAfter plan new t w) (sym got) (subst (λ v. IsOfWorkerAfter plan new t v kept) ew (subst (λ a. IsOfWorkerAfter plan new a w0 kept) et ours))

  there : (t w : ℕ) → t < 8 → w < 4 → (t * 4 + w ≡ t0 * 4 + w0 → ⊥) → HasWorker plan.schedule lanes t w → IsOfWorkerAfter plan new t w (slice_index_or (set jobs (t0 * 4 + w0) kept) (t * 4 + w) None)
  there t w lt lw differs has =
      let got : slice_index_or (set jobs (t0 * 4 + w0) kept) (t * 4 + w) None ≡ slice_index_or jobs (t * 4 + w) None = get_or-set_other jobs (t0 * 4 + w0) (t * 4 + w) kept None differs in
      let other : is_work_of plan.schedule t w n ≡ false =
      false_from_ne_true (is_work_of plan.schedule t w n) (λ yes.
      let p = and_parts (t0 == t) (w0 == w) (sym (own t w) ∙ yes) in
      let et = eqb-true t0 t p.0 in
      let ew = eqb-true w0 w p.1 in
      differs (omega arith)) in
      subst (IsOfWorkerAfter plan new t w) (sym got) (still_held plan old new t w (slice_index_or jobs (t * 4 + w) None) (same t w has other) (h.each t w lt lw has))

  held-set : AreHeld plan lanes new (set jobs (t0 * 4 + w0) kept)
  held-set = record {
    count = length-set jobs (t0 * 4 + w0) kept ∙ h.count;
    each = λ t w lt lw has. dite (ℕ_discrete (t * 4 + w) (t0 * 4 + w0)) (λ e. here t w lt lw e) (λ differs. there t w lt lw differs has);
  }

at-end : (schedule : List Line) (n t0 w0 t w : ℕ) → EndsAt schedule n t0 w0 → is_work_of schedule t w n ≡ (t0 == t && w0 == w)
at-end schedule n t0 w0 t w e = ap (λ (o : Option Act). unwrap_or (option_map (works_at t w) o) false) e

at-begin : (schedule : List Line) (n t0 w0 t w : ℕ) → BeginsAt schedule n t0 w0 → is_work_of schedule t w n ≡ (t0 == t && w0 == w)
at-begin schedule n t0 w0 t w e = ap (λ (o : Option Act). unwrap_or (option_map (works_at t w) o) false) e

-- what the handler made of a job is of the worker that runs it
named : (plan : WorldView) (m : MsgName) (k : ℕ) → completion plan.script plan.rules m ≡ Some k → completion_rule plan.rules k ≡ rule_named plan.script plan.rules m
unfolding rule_named
named plan m k e = sym (ap (λ (o : Option ℕ). completion_rule plan.rules (unwrap_or o 0)) e)

of-job : (plan : WorldView) (lines : List ℕ) (job : Job) (f : Finished) → RunsJob plan.script plan.rules (record_after plan lines) job → f.name ≡ job.name → (f.task ≡ job.task) × (f.worker ≡ job.worker) → f.buffer ≡ job.buffer
    → f.effect ≡ completion_answer (completion_rule plan.rules job.completion) job.user job.buffer → IsOfWorkerAfter plan lines f.task f.worker (Some f)
of-job plan lines job f it name place buffer effect = (
  refl,
  record {
    running = ap (λ (a : ℕ). job_after plan lines a f.worker) place.0 ∙ ap (λ (v : ℕ). job_after plan lines job.task v) place.1 ∙ it.running ∙ ap Some (sym name);
    place = refl;
    buffer = buffer ∙ it.buffer ∙ ap (buffer_after plan lines) (sym name);
    effect =
        effect
        ∙ ap (λ (rule : CompletionRule). completion_answer rule job.user job.buffer) (named plan job.name job.completion it.completion)
        ∙ ap (λ (u : ℕ). completion_answer (rule_named plan.script plan.rules job.name) u job.buffer) it.user
        ∙ ap (λ (m : MsgName). completion_answer (rule_named plan.script plan.rules m) (user plan.script m) job.buffer) (sym name)
        ∙ ap (completion_answer (rule_named plan.script plan.rules f.name) (user plan.script f.name)) (sym buffer);
  },
)

begins-too : (schedule : List Line) (n : ℕ) (job : Job) (f : Finished) → BeginsAt schedule n job.task job.worker → (f.task ≡ job.task) × (f.worker ≡ job.worker) → BeginsAt schedule n f.task f.worker
begins-too schedule n job f begins place = begins ∙ ap (λ (a : ℕ). Some (Act.Begin a job.worker)) (sym place.0) ∙ ap (λ (v : ℕ). Some (Act.Begin f.task v)) (sym place.1)

pub job_places : (plan : WorldView) (n : ℕ) (job : Job) (f : Finished) → IsShareable plan → BeginsAt plan.schedule n job.task job.worker → (f.task ≡ job.task) × (f.worker ≡ job.worker) → (f.task < 8) × (f.worker < 4)
job_places plan n job f s begins place = begin_place plan n f.task f.worker (s.script_valid, s.valid) (begins-too plan.schedule n job f begins place)

pub held_begun : (plan : WorldView) (lanes n : ℕ) (old new : List ℕ) (jobs : List (Option Finished)) (job : Job) (f : Finished) → IsShareable plan → SameOtherJobs plan lanes n old new → BeginsAt plan.schedule n job.task job.worker → RunsJob plan.script plan.rules (record_after plan new) job
    → f.name ≡ job.name → (f.task ≡ job.task) × (f.worker ≡ job.worker) → f.buffer ≡ job.buffer → f.effect ≡ completion_answer (completion_rule plan.rules job.completion) job.user job.buffer
    → AreHeld plan lanes old jobs → AreHeld plan lanes new (set jobs (f.task * 4 + f.worker) (Some f))
held_begun plan lanes n old new jobs job f s same begins it name place buffer effect h =
    let at = begins-too plan.schedule n job f begins place in
    held-set plan lanes n old new jobs f.task f.worker (Some f) (begin_place plan n f.task f.worker (s.script_valid, s.valid) at) (λ t w. at-begin plan.schedule n f.task f.worker t w at) same (of-job plan new job f it name place buffer effect) h

pub end_places : (plan : WorldView) (n t w : ℕ) → IsShareable plan → EndsAt plan.schedule n t w → (t < 8) × (w < 4)
end_places plan n t w s ends = end_place plan n t w (s.script_valid, s.valid) ends

pub held_ended : (plan : WorldView) (lanes n : ℕ) (old new : List ℕ) (jobs : List (Option Finished)) (t w : ℕ) → IsShareable plan → SameOtherJobs plan lanes n old new → EndsAt plan.schedule n t w → job_after plan new t w ≡ None → AreHeld plan lanes old jobs → AreHeld plan lanes new (set jobs (t * 4 + w) None)
held_ended plan lanes n old new jobs t w s same ends free h =
    held-set plan lanes n old new jobs t w None (end_places plan n t w s ends) (λ a v. at-end plan.schedule n t w a v ends) same free h

pub held_at : (plan : WorldView) (lanes n : ℕ) (lines : List ℕ) (jobs : List (Option Finished)) (t w : ℕ) → IsShareable plan → IsOwn plan.schedule lanes n → EndsAt plan.schedule n t w → AreHeld plan lanes lines jobs → IsOfWorkerAfter plan lines t w (slice_index_or jobs (t * 4 + w) None)
held_at plan lanes n lines jobs t w s own ends h =
    let places = end_places plan n t w s ends in
    h.each t w places.0 places.1 (has_worker plan lanes n t w s (end_line plan.schedule n t w ends) own)
