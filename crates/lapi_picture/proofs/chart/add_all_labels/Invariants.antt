use Rattle.std.proofs.Common.{◌≡◌, ◌++◌, drop}
use Rattle.lapi_picture.specs.Chart.{each_row, row_labels}
use Rattle.lapi_picture.proofs.chart.add_all_labels.Given as goal

abbrev pub invariant-loop-j : goal.invariant-loop-j
invariant-loop-j l = l.fn.out.bytes.items ++ each_row (row_labels l.page l.rows) 0 l.rows ≡ l.out.bytes.items ++ each_row (row_labels l.page l.rows) l.j (drop l.j l.rows)
