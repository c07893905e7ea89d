use Rattle.std.proofs.Common.{◌≡◌, ◌≤◌, drop}
use Rattle.std.specs.List.{flat_map}
use Rattle.lapi_base.specs.Output.JournalText.{event_line}
use Rattle.lapi_report.specs.SinkWrites.{Progress}
use Rattle.lapi_report.proofs.journal.write_events.Given as goal

abbrev pub invariant-loop-event : goal.invariant-loop-event
invariant-loop-event g l = record {
  written : Progress (g.K.Sink.held l.fn.sink) (g.K.Sink.held l.sink) (flat_map event_line l.events) (flat_map event_line (drop l.event-index l.events));
  later : g.K.Sink.faults l.fn.sink ≤ g.K.Sink.faults l.sink;
  room : g.K.Sink.room l.sink ≡ g.K.Sink.room l.fn.sink;
}
