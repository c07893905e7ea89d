use Rattle.std.proofs.Common.{rules, ◌<◌, ◌≤◌}
use Rattle.lapi_base.specs.Record.WorldView.{view_record}
use Rattle.lapi_base.specs.Output.WireText.{one_wire_text}
use Rattle.lapi_report.proofs.Progress.{refused}
use Rattle.lapi_report.proofs.Numbers.{number_written, number_stops, numbers_done}
use Rattle.lapi_report.proofs.wire.write_wires_from.Goals as goal

pub returns-in_err-write_entries : goal.returns-in_err-write_entries
returns-in_err-write_entries g c =
    let lt : c.loop-b.b < c.args.world.now.script.tasks = search rules in
    record {
      text = refused _ _ _ _ c.from_residual.ensures.0 (number_stops (one_wire_text (view_record c.args.world.now) c.args.a) _ _ _ _ _ _ lt c.loop-b.invariant.written (rw (c.wire.ensures c.requires.spent) at c.in_err-write_entries.ensures.text));
      cause = search rules;
      room = search rules;
    }

pub loop-b-preserved : goal.loop-b-preserved
loop-b-preserved g c =
    let lt : c.loop-b.b < c.args.world.now.script.tasks = search rules in
    record {
      written = number_written (one_wire_text (view_record c.args.world.now) c.args.a) _ _ _ _ _ _ lt c.loop-b.invariant.written (rw (c.wire.ensures c.requires.spent) at c.in_ok-write_entries.ensures.text);
      later = search rules;
      room = search rules;
    }

pub returns : goal.returns
returns g c =
    let ge : c.args.world.now.script.tasks ≤ c.loop-b.b = search rules in
    record {
      text = numbers_done (one_wire_text (view_record c.args.world.now) c.args.a) _ _ _ _ _ ge c.loop-b.invariant.written;
      cause = search rules;
      room = search rules;
    }
