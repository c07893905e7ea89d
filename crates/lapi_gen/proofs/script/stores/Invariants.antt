use Rattle.std.proofs.Common.{◌≡◌, ◌++◌, map}
use Rattle.lapi_base.specs.Record.Operations.{numbers_below}
use Rattle.lapi_gen.specs.Scripts.{store}
use Rattle.lapi_gen.proofs.script.stores.Given as goal

abbrev pub invariant-loop-i : goal.invariant-loop-i
invariant-loop-i l = l.list ≡ l.fn.list ++ map (store l.draws l.a) (numbers_below l.i)
