use Rattle.std.proofs.Common.{◌≡◌, ◌++◌}
use Rattle.lapi_gen.specs.Schedules.{deliveries}
use Rattle.lapi_gen.proofs.lines.deliveries.Given as goal

abbrev pub invariant-loop-j : goal.invariant-loop-j
invariant-loop-j l = l.schedule ≡ l.fn.schedule ++ deliveries l.a l.b l.first l.j
