use Rattle.std.proofs.Common.{◌≡◌, ◌≤◌, drop}
use Rattle.std.specs.List.{flat_map}
use Rattle.lapi_capture.specs.Texts.{line_of}
use Rattle.lapi_report.specs.SinkWrites.{Progress}
use Rattle.lapi_report.proofs.landings.write_lines.Given as goal

abbrev pub invariant-loop-landing : goal.invariant-loop-landing
invariant-loop-landing g l = record {
  written : Progress (g.K.Sink.held l.fn.sink) (g.K.Sink.held l.sink) (flat_map line_of l.landings) (flat_map line_of (drop l.landing-index l.landings));
  later : g.K.Sink.faults l.fn.sink ≤ g.K.Sink.faults l.sink;
  room : g.K.Sink.room l.sink ≡ g.K.Sink.room l.fn.sink;
}
