use Rattle.lapi_task.proofs.Joining.RoundNumbers.{AreNumbered}
use Rattle.lapi_task.proofs.rounds.rounds_of.Given as goal

abbrev pub invariant-loop-statement : goal.invariant-loop-statement
invariant-loop-statement l = AreNumbered l.statements l.memory l.statement-index l.rounds.items l.fences l.tables
