use Rattle.std.proofs.Common.{◌≡◌, ◌*◌, ◌≤◌, length, map, take}
use Rattle.std.specs.List as lists
use Rattle.lapi_tool.proofs.counts.count_of.Given as goal

abbrev pub invariant-loop-list : goal.invariant-loop-list
invariant-loop-list l = record {
  sum : l.count ≡ lists.sum (map (λ list. length list) (take l.list-index l.tasks));
  few : l.count ≤ 512 * l.list-index;
}
