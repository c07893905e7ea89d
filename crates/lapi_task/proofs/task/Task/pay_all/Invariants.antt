use Rattle.lapi_task.proofs.Sending.Paying.{SomePaid}
use Rattle.lapi_task.proofs.task.Task.pay_all.Given as goal

-- the tasks that were reached are told what they were owed
abbrev pub invariant-loop-to : goal.invariant-loop-to
invariant-loop-to l = SomePaid l.to l.fn.self l.self l.fn.entries l.entries
