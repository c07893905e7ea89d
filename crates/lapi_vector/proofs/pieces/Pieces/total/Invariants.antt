use Rattle.std.proofs.Common.{◌≡◌, ◌*◌, ◌≤◌, ◌^◌, take, length}
use Rattle.lapi_vector.specs.Pieces.{total_of}
use Rattle.lapi_vector.proofs.pieces.Pieces.total.Given as goal

abbrev pub invariant-loop-span : goal.invariant-loop-span
invariant-loop-span l = record {
  sum : l.total ≡ total_of (take l.span-index l.self.spans);
  small : l.total ≤ l.span-index * 2 ^ 32;
  few : length l.self.spans ≤ 16;
}
