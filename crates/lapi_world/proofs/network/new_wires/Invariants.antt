use Rattle.std.proofs.Common.{◌≡◌, [], replicate}
use Rattle.lapi_world.proofs.network.new_wires.Given as goal

abbrev pub invariant-loop-wire : goal.invariant-loop-wire
invariant-loop-wire l = l.wires.items ≡ replicate l._wire []
