use Rattle.std.proofs.Common.{◌≡◌}
use Rattle.lapi_turn.specs.Seats.{rights_of, IsSeatOf}
use Rattle.lapi_turn.proofs.tests.world.run_lane.Given as goal

abbrev pub invariant-loop-line : goal.invariant-loop-line
invariant-loop-line g l = IsSeatOf (λ w. w.lines) l.turn l.seat × (rights_of l.seat ≡ rights_of l.fn.seat)
