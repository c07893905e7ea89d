use Rattle.std.proofs.Common.{◌≡◌, ◌++◌, drop}
use Rattle.lapi_views.specs.ChartParts.{entry_rows}
use Rattle.lapi_views.proofs.rows.add_sent.Given as goal

abbrev pub invariant-loop-k : goal.invariant-loop-k
invariant-loop-k l = l.fn.rows ++ entry_rows l.a l.b l.first (drop l.first l.entries) ≡ l.rows ++ entry_rows l.a l.b l.k (drop l.k l.entries)
