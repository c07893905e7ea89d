use Rattle.std.proofs.Common.{sym}
use Rattle.lapi_task.proofs.Joining.JoinSteps.{enters-at-once, enters-clear}
use Rattle.lapi_task.proofs.Stepping.StepLaws.{is}
use Rattle.lapi_task.proofs.task.Task.may_enter.Goals as goal

pub returns-then-not-is_gfence : goal.returns-then-not-is_gfence
returns-then-not-is_gfence c = λ script rules t r at.
    enters-at-once script rules r t c.args.self.now.state.next c.in-Some.statement.now (is script rules at.stands.calls.valid c.args.self.now t r at c.in-Some.statement.now (sym c.in-Some.ensures)) c.is_gfence.result c.is_gfence.ensures c.if-not-is_gfence.true

pub returns-else-not-is_gfence : goal.returns-else-not-is_gfence
returns-else-not-is_gfence c = λ script rules t r at.
    enters-clear script rules r t c.args.self.now.state.next c.in-Some.statement.now (is script rules at.stands.calls.valid c.args.self.now t r at c.in-Some.statement.now (sym c.in-Some.ensures)) c.is_gfence.result c.is_gfence.ensures c.if-not-is_gfence.false c.is_clear.result (c.is_clear.ensures script rules t r at.stands)
