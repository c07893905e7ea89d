use Rattle.std.proofs.Common.{◌≡◌, map}
use Rattle.lapi_base.specs.Record.Operations.{numbers_below}
use Rattle.lapi_base.specs.Record.Values.{memory_bytes}
use Rattle.lapi_base.specs.Record.WorldView.{view_record}
use Rattle.lapi_tool.proofs.array.memories.Given as goal

abbrev pub invariant-loop-t : goal.invariant-loop-t
invariant-loop-t l = l.memories.items ≡ map (memory_bytes l.world.script l.world.rules (view_record l.world).journal) (numbers_below l.t)
