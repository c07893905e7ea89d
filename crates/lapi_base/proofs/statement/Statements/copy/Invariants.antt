use Rattle.std.proofs.Common.{◌≡◌, take}
use Rattle.lapi_base.proofs.statement.Statements.copy.Given as goal

abbrev pub invariant-loop-statement : goal.invariant-loop-statement
invariant-loop-statement l = l.copy ≡ take l.statement-index l.self
