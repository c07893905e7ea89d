use Rattle.std.proofs.Common.{◌≡◌, ◌≤◌, drop}
use Rattle.std.specs.List.{flat_map}
use Rattle.lapi_base.specs.Record.Operations.{numbers_below, statements}
use Rattle.lapi_base.specs.Record.WorldView.{view_record}
use Rattle.std.specs.Prelude.{length}
use Rattle.lapi_base.specs.Record.Refusals.{refusals}
use Rattle.lapi_base.specs.Record.Counters.{reads}
use Rattle.lapi_base.specs.Output.ReportText.{statement_text, statements_text}
use Rattle.lapi_report.specs.OfStatements.{from_on}
use Rattle.lapi_report.specs.SinkWrites.{Progress}
use Rattle.lapi_report.proofs.task.write_statements.Given as goal

abbrev pub invariant-loop-s : goal.invariant-loop-s
invariant-loop-s g l =
    let J = (view_record l.world).journal in
    record {
      written : Progress (g.K.Sink.held l.fn.sink) (g.K.Sink.held l.sink) (statements_text l.t (length (statements l.world.script l.t)) (refusals J l.t) (reads l.world.script l.world.rules J l.t)) (flat_map (statement_text l.t (refusals J l.t) (reads l.world.script l.world.rules J l.t)) (drop l.s (numbers_below (length (statements l.world.script l.t)))));
      refused : l.refusals ≡ from_on l.s (refusals J l.t);
      read : l.reads ≡ from_on l.s (reads l.world.script l.world.rules J l.t);
      later : g.K.Sink.faults l.fn.sink ≤ g.K.Sink.faults l.sink;
      room : g.K.Sink.room l.sink ≡ g.K.Sink.room l.fn.sink;
    }
