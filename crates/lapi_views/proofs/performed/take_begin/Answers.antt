use Rattle.std.proofs.Common.{◌≡◌, subst, sym}
use Rattle.lapi_base.specs.declared.rule.Rules.{Rules}
use Rattle.lapi_base.specs.Record.Handlers.{completion_answer, completion_rule}
use Rattle.lapi_world.specs.Jobs.{AreKept, HandsOut}
use Rattle.lapi_views.proofs.KeptJobs.{begin_kept, unbegun_kept, no-job}
use Rattle.lapi_views.proofs.performed.take_begin.Goals as goal

pub returns-in-Job-clause-jobs : goal.returns-in-Job-clause-jobs
returns-in-Job-clause-jobs g c =
    let w = c.args.world.now in
    let new = c.begin.new.self in
    let job = c.in-Job.job in
    let f = c.complete.result in
    let out = subst (λ begun. HandsOut new c.args.n begun) c.in-Job.is c.in_ok-job.ensures.job in
    let effect = subst (λ (rules : Rules). f.effect ≡ completion_answer (completion_rule rules job.completion) job.user job.buffer) c.requires.rules c.complete.ensures.effect in
    subst (AreKept new) (sym c.put.ensures)
    (begin_kept w new c.args.n c.args.task c.args.worker c.args.jobs.now job f c.requires.valid c.requires.line c.in_ok-job.ensures.ok.1 out c.complete.ensures.message c.complete.ensures.place c.complete.ensures.buffer effect c.requires.jobs)

pub returns-in-Idle : goal.returns-in-Idle
returns-in-Idle g c =
    let is = c.in_ok-job.ensures.ok.1 in
    record {
      world = is;
      jobs = unbegun_kept c.args.world.now c.begin.new.self c.args.n c.args.task c.args.worker c.args.jobs.now c.in_ok-job.field-0 (no-job c.in_ok-job.field-0 c.in-Idle.is) c.requires.line is c.in_ok-job.ensures.reply c.requires.jobs;
    }
