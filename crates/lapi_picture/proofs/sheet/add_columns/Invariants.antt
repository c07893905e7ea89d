use Rattle.std.proofs.Common.{◌≡◌, ◌++◌}
use Rattle.std.specs.List.{flat_map}
use Rattle.lapi_base.specs.Record.Operations.{numbers_below}
use Rattle.lapi_picture.specs.Sheet.{column_text}
use Rattle.lapi_picture.proofs.sheet.add_columns.Given as goal

abbrev pub invariant-loop-t : goal.invariant-loop-t
invariant-loop-t l = l.out.bytes.items ≡ l.fn.out.bytes.items ++ flat_map (column_text l.page) (numbers_below l.t)
