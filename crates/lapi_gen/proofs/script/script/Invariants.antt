use Rattle.std.proofs.Common.{◌≡◌, map}
use Rattle.lapi_base.specs.Record.Operations.{numbers_below}
use Rattle.lapi_gen.specs.Scripts.{statements_of}
use Rattle.lapi_gen.proofs.script.script.Given as goal

abbrev pub invariant-loop-a : goal.invariant-loop-a
invariant-loop-a l = l.lists ≡ map (statements_of l.draws) (numbers_below l.a)
