use Rattle.std.proofs.Common.{◌≡◌, ◌++◌, map}
use Rattle.lapi_base.specs.Record.Operations.{numbers_below}
use Rattle.lapi_gen.specs.Scripts.{called}
use Rattle.lapi_gen.proofs.script.calls.Given as goal

abbrev pub invariant-loop-b : goal.invariant-loop-b
invariant-loop-b l = l.list ≡ l.fn.list ++ map (called l.draws l.a) (numbers_below l.b)
