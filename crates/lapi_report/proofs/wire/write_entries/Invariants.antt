use Rattle.std.proofs.Common.{◌≡◌, ◌≤◌, drop}
use Rattle.lapi_base.specs.Output.WireText.{entry_lines}
use Rattle.lapi_report.specs.SinkWrites.{Progress}
use Rattle.lapi_report.proofs.wire.write_entries.Given as goal

abbrev pub invariant-loop-k : goal.invariant-loop-k
invariant-loop-k g l = record {
  written : Progress (g.K.Sink.held l.fn.sink) (g.K.Sink.held l.sink) (entry_lines l.a l.b 0 l.entries) (entry_lines l.a l.b l.k (drop l.k l.entries));
  later : g.K.Sink.faults l.fn.sink ≤ g.K.Sink.faults l.sink;
  room : g.K.Sink.room l.sink ≡ g.K.Sink.room l.fn.sink;
}
