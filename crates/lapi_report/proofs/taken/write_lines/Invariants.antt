use Rattle.std.proofs.Common.{◌≡◌, ◌≤◌, drop}
use Rattle.std.specs.List.{flat_map}
use Rattle.std.specs.Prelude.{slice_get}
use Rattle.lapi_base.specs.Output.LiveText.{told_line, took_text}
use Rattle.lapi_report.specs.SinkWrites.{Progress}
use Rattle.lapi_report.proofs.taken.write_lines.Given as goal

abbrev pub invariant-loop-n : goal.invariant-loop-n
invariant-loop-n g l = record {
  written :
      Progress (g.K.Sink.held l.fn.sink) (g.K.Sink.held l.sink) (took_text l.schedule l.taken) (flat_map (λ n. told_line (slice_get l.schedule n)) (drop l.n-index l.taken));
  later : g.K.Sink.faults l.fn.sink ≤ g.K.Sink.faults l.sink;
  room : g.K.Sink.room l.sink ≡ g.K.Sink.room l.fn.sink;
}
