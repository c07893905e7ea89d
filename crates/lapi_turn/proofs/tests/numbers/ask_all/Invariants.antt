use Rattle.std.proofs.Common.{◌≡◌}
use Rattle.lapi_turn.specs.Seats.{rights_of, IsSeatOf}
use Rattle.lapi_turn.proofs.tests.numbers.ask_all.Given as goal

abbrev pub invariant-loop-number : goal.invariant-loop-number
invariant-loop-number g l = IsSeatOf (λ _. tt) l.turn l.seat × (rights_of l.seat ≡ rights_of l.fn.seat)
