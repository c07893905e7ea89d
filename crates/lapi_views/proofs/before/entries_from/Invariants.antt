use Rattle.std.proofs.Common.{◌≡◌, length, map}
use Rattle.lapi_base.specs.Record.Operations.{numbers_below}
use Rattle.lapi_base.specs.Record.WorldView.{view_record}
use Rattle.lapi_views.proofs.before.entries_from.Given as goal

abbrev pub invariant-loop-b : goal.invariant-loop-b
invariant-loop-b l = l.entries.items ≡ map (λ b. length ((view_record l.world).wire l.a b)) (numbers_below l.b)
