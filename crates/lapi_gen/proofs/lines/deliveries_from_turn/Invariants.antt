use Rattle.std.proofs.Common.{◌≡◌, ◌++◌}
use Rattle.lapi_gen.specs.Schedules.{deliveries_from_turn}
use Rattle.lapi_gen.proofs.lines.deliveries_from_turn.Given as goal

abbrev pub invariant-loop-j : goal.invariant-loop-j
invariant-loop-j l = l.schedule ≡ l.fn.schedule ++ deliveries_from_turn l.link l.packets l.j
