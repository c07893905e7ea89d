use Rattle.std.proofs.Common.{◌<◌, ◌^◌, subst, sym, ◌∙◌}
use Rattle.lapi_task.proofs.Working.JobCounts.{waiting-counted}
use Rattle.lapi_task.proofs.task.Task.queued.Goals as goal

pub returns : goal.returns
returns c = λ script rules t r h.
    let jobs = h.holds.jobs in
    c.to_u32.ensures (subst (λ n. n < 2 ^ 32) (sym c.queued.ensures) jobs.few) ∙ c.queued.ensures ∙ waiting-counted script rules t c.args.self.now.state.jobs r.journal jobs
