use Rattle.std.proofs.Common.{◌≡◌, ◌++◌}
use Rattle.lapi_flush.specs.Served.{delivers}
use Rattle.lapi_array.proofs.schedule.deliveries.Given as goal

abbrev pub invariant-loop-i : goal.invariant-loop-i
invariant-loop-i l = l.lines ≡ l.fn.lines ++ delivers l.from l.to l.first l.i
