use Rattle.std.proofs.Common.{◌≡◌, ◌++◌, map, take}
use Rattle.std.specs.List.{flat_map}
use Rattle.lapi_base.specs.Input.Rows.{row_text, statement_row}
use Rattle.lapi_script.proofs.write.statement_lines.Given as goal

abbrev pub invariant-loop-each : goal.invariant-loop-each
invariant-loop-each l = l.out.items ≡ l.fn.out.items ++ flat_map row_text (map statement_row (take l.each-index l.list))
