use Rattle.std.proofs.Common.{rules}
use Rattle.lapi_base.specs.Output.JournalText.{event_line}
use Rattle.lapi_report.proofs.Progress.{refused, item_written, item_stops}
use Rattle.lapi_report.proofs.journal.write_events.Goals as goal

pub returns-in_err-write : goal.returns-in_err-write
returns-in_err-write g c = record {
  text = refused _ _ _ _ c.from_residual.ensures.0 (item_stops event_line _ _ _ _ _ _ _ c.loop-event-test.true c.loop-event.invariant.written (rw c.event_line.ensures at c.in_err-write.ensures.text));
  cause = search rules;
  room = search rules;
}

pub loop-event-preserved : goal.loop-event-preserved
loop-event-preserved g c = record {
  written = item_written event_line _ _ _ _ _ _ _ c.loop-event-test.true c.loop-event.invariant.written (rw c.event_line.ensures at c.in_ok-write.ensures.text);
  later = search rules;
  room = search rules;
}
