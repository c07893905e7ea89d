use Rattle.std.proofs.Common.{◌≡◌, ◌++◌}
use Rattle.std.specs.List.{flat_map}
use Rattle.lapi_base.specs.Record.Operations.{numbers_below}
use Rattle.lapi_array.specs.ArrayText.{got_at, row_line, gets_text}
use Rattle.lapi_array.proofs.writing.array_text.Given as goal

abbrev pub invariant-loop-k : goal.invariant-loop-k
invariant-loop-k l = l.text.items ≡ flat_map (got_at l.plan) (numbers_below l.k)

abbrev pub invariant-loop-row : goal.invariant-loop-row
invariant-loop-row l = l.text.items ≡ gets_text l.plan ++ flat_map (row_line l.plan) (numbers_below l.row)
