use Rattle.std.proofs.Common.{◌≡◌, map}
use Rattle.lapi_base.specs.Record.Counters.{count}
use Rattle.lapi_base.specs.Record.Operations.{numbers_below}
use Rattle.lapi_base.specs.Record.WorldView.{view_record}
use Rattle.lapi_views.proofs.before.counters_of.Given as goal

abbrev pub invariant-loop-c : goal.invariant-loop-c
invariant-loop-c l = l.counters.items ≡ map (count l.world.script l.world.rules (view_record l.world).journal l.t) (numbers_below l.c)
