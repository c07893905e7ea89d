use Rattle.std.proofs.Common.{◌<◌, ◌^◌, subst, sym, ◌∙◌}
use Rattle.lapi_task.proofs.Working.JobCounts.{running-counted, running-few}
use Rattle.lapi_task.proofs.task.Task.running.Goals as goal

pub returns : goal.returns
returns c = λ script rules t r h.
    let jobs = c.args.self.now.state.jobs in
    let few = running-few script rules t jobs r.journal h.holds.jobs h.calls.valid in
    c.to_u32.ensures (subst (λ n. n < 2 ^ 32) (sym c.running.ensures) few) ∙ c.running.ensures ∙ running-counted script rules t jobs r.journal h.holds.jobs
