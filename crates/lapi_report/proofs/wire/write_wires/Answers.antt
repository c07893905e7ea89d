use Rattle.std.proofs.Common.{rules, ◌<◌, ◌≤◌}
use Rattle.lapi_base.specs.Record.WorldView.{view_record}
use Rattle.lapi_base.specs.Output.WireText.{wires_from_text}
use Rattle.lapi_report.proofs.Progress.{refused}
use Rattle.lapi_report.proofs.Numbers.{number_written, number_stops, numbers_done}
use Rattle.lapi_report.proofs.wire.write_wires.Goals as goal

pub returns-in_err-write_wires_from : goal.returns-in_err-write_wires_from
returns-in_err-write_wires_from g c =
    let lt : c.loop-a.a < c.args.world.now.script.tasks = search rules in
    record {
      text = refused _ _ _ _ c.from_residual.ensures.0 (number_stops (wires_from_text c.args.world.now.script (view_record c.args.world.now)) _ _ _ _ _ _ lt c.loop-a.invariant.written c.in_err-write_wires_from.ensures.text);
      cause = search rules;
      room = search rules;
    }

pub loop-a-preserved : goal.loop-a-preserved
loop-a-preserved g c =
    let lt : c.loop-a.a < c.args.world.now.script.tasks = search rules in
    record {
      written = number_written (wires_from_text c.args.world.now.script (view_record c.args.world.now)) _ _ _ _ _ _ lt c.loop-a.invariant.written c.in_ok-write_wires_from.ensures.text;
      later = search rules;
      room = search rules;
    }

pub returns : goal.returns
returns g c =
    let ge : c.args.world.now.script.tasks ≤ c.loop-a.a = search rules in
    record {
      text = numbers_done (wires_from_text c.args.world.now.script (view_record c.args.world.now)) _ _ _ _ _ ge c.loop-a.invariant.written;
      cause = search rules;
      room = search rules;
    }
