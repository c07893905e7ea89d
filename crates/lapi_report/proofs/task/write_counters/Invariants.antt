use Rattle.std.proofs.Common.{◌≡◌, ◌≤◌, drop}
use Rattle.std.specs.List.{flat_map}
use Rattle.lapi_base.specs.Record.Operations.{numbers_below}
use Rattle.lapi_base.specs.Record.WorldView.{view_record}
use Rattle.lapi_base.specs.Output.ReportText.{counter_text_of, counters_text}
use Rattle.lapi_report.specs.SinkWrites.{Progress}
use Rattle.lapi_report.proofs.task.write_counters.Given as goal

abbrev pub invariant-loop-c : goal.invariant-loop-c
invariant-loop-c g l = record {
  written : Progress (g.K.Sink.held l.fn.sink) (g.K.Sink.held l.sink) (counters_text l.world.script l.world.rules (view_record l.world) l.t) (flat_map (counter_text_of l.world.script l.world.rules (view_record l.world) l.t) (drop l.c (numbers_below l.world.script.counters)));
  later : g.K.Sink.faults l.fn.sink ≤ g.K.Sink.faults l.sink;
  room : g.K.Sink.room l.sink ≡ g.K.Sink.room l.fn.sink;
}
