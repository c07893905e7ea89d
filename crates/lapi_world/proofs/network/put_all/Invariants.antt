use Rattle.std.proofs.Common.{◌≡◌, length, take}
use Rattle.lapi_world.specs.Grows.{ArePut}
use Rattle.lapi_world.proofs.network.put_all.Given as goal

abbrev pub invariant-loop-entry : goal.invariant-loop-entry
invariant-loop-entry l = record {
  can_next : (goal.iterator-loop-entry).can_next l.entry-iterator;
  is_finite : (goal.iterator-loop-entry).is_finite l.entry-iterator;
  count : length l.wires.items ≡ length l.fn.wires.items;
  put : ArePut l.tasks l.t (take (length l.yielded) l.fn.entries) l.fn.wires.items l.wires.items;
}
