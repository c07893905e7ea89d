use Rattle.std.proofs.Common.{◌≡◌, ◌≤◌, drop, length}
use Rattle.std.specs.List.{flat_map, zip}
use Rattle.lapi_base.specs.Output.TraceText.{taken_text, trace_text}
use Rattle.lapi_report.specs.SinkWrites.{Progress}
use Rattle.lapi_report.proofs.trace.write_lines.Given as goal

abbrev pub invariant-loop-n : goal.invariant-loop-n
invariant-loop-n g l = record {
  written :
      Progress (g.K.Sink.held l.fn.sink) (g.K.Sink.held l.sink) (trace_text l.schedule l.taken l.replies) (flat_map (taken_text l.schedule) (drop (length l.yielded) (zip l.taken l.replies)));
  later : g.K.Sink.faults l.fn.sink ≤ g.K.Sink.faults l.sink;
  room : g.K.Sink.room l.sink ≡ g.K.Sink.room l.fn.sink;
}
