use Rattle.std.proofs.Common.{rules, ◌<◌, ◌≤◌}
use Rattle.lapi_base.specs.Record.WorldView.{view_record}
use Rattle.lapi_base.specs.Output.ReportText.{task_text}
use Rattle.lapi_report.proofs.Progress.{refused}
use Rattle.lapi_report.proofs.Numbers.{number_written, number_stops, numbers_done}
use Rattle.lapi_report.proofs.report.write_tasks.Goals as goal

pub returns-in_err-write_task : goal.returns-in_err-write_task
returns-in_err-write_task g c =
    let lt : c.loop-t.t < c.args.world.now.script.tasks = search rules in
    record {
      text = refused _ _ _ _ c.from_residual.ensures.0 (number_stops (task_text c.args.world.now.script c.args.world.now.rules (view_record c.args.world.now)) _ _ _ _ _ _ lt c.loop-t.invariant.written (c.in_err-write_task.ensures.text));
      cause = search rules;
      room = search rules;
    }

pub loop-t-preserved : goal.loop-t-preserved
loop-t-preserved g c =
    let lt : c.loop-t.t < c.args.world.now.script.tasks = search rules in
    record {
      written = number_written (task_text c.args.world.now.script c.args.world.now.rules (view_record c.args.world.now)) _ _ _ _ _ _ lt c.loop-t.invariant.written (c.in_ok-write_task.ensures.text);
      later = search rules;
      room = search rules;
    }

pub returns : goal.returns
returns g c =
    let ge : c.args.world.now.script.tasks ≤ c.loop-t.t = search rules in
    record {
      text = numbers_done (task_text c.args.world.now.script c.args.world.now.rules (view_record c.args.world.now)) _ _ _ _ _ ge c.loop-t.invariant.written;
      cause = search rules;
      room = search rules;
    }
