use Rattle.std.proofs.Common.{rules}
use Rattle.lapi_report.proofs.Progress.{refused}
use Rattle.lapi_report.proofs.Entries.{entry_written, entry_stops}
use Rattle.lapi_report.proofs.wire.write_entries.Goals as goal

pub returns-in_err-write_entry : goal.returns-in_err-write_entry
returns-in_err-write_entry g c = record {
  text = refused _ _ _ _ c.from_residual.ensures.0 (entry_stops _ _ _ _ _ _ _ _ _ c.loop-k-test.true c.index-entries-k.is c.loop-k.invariant.written (rw c.as_slice.ensures at c.in_err-write_entry.ensures.text));
  cause = search rules;
  room = search rules;
}

pub loop-k-preserved : goal.loop-k-preserved
loop-k-preserved g c = record {
  written = entry_written _ _ _ _ _ _ _ _ _ c.loop-k-test.true c.index-entries-k.is c.loop-k.invariant.written (rw c.as_slice.ensures at c.in_ok-write_entry.ensures.text);
  later = search rules;
  room = search rules;
}
