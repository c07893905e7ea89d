use Rattle.std.proofs.Common.{◌≡◌, length, map, take}
use Rattle.lapi_calls.specs.Reaches.{reach_of}
use Rattle.lapi_calls.proofs.pieces.list.Given as goal

abbrev pub invariant-loop-piece : goal.invariant-loop-piece
invariant-loop-piece g l = record {
  reaches : l.reaches ≡ map (reach_of (g.E.Entries.is_known l.entries) (g.E.Entries.given l.entries) l.d) (take l.piece-index l.pieces);
  count : length l.reaches ≡ l.piece-index;
}
