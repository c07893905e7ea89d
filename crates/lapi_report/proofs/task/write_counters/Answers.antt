use Rattle.std.proofs.Common.{rules, ◌<◌, ◌≤◌, sym, ap, ◌∙◌}
use Rattle.lapi_base.specs.declared.rule.Rules.{Rules}
use Rattle.lapi_base.specs.Record.Counters.{count}
use Rattle.lapi_base.specs.Record.WorldView.{view_record}
use Rattle.lapi_base.specs.Output.ReportText.{counter_text_of}
use Rattle.lapi_report.proofs.Progress.{refused}
use Rattle.lapi_report.proofs.Numbers.{number_written, number_stops, numbers_done}
use Rattle.lapi_report.proofs.task.write_counters.Goals as goal

pub returns-in_err-write_counter : goal.returns-in_err-write_counter
returns-in_err-write_counter g c =
    let lt : c.loop-c.c < c.args.world.now.script.counters = search rules in
    let told = c.counter.ensures c.args.world.now.script c.args.world.now.rules c.args.t (view_record c.args.world.now) (c.task-task.ensures c.requires.spent).stands lt in
    record {
      text = refused _ _ _ _ c.from_residual.ensures.0 (number_stops (counter_text_of c.args.world.now.script c.args.world.now.rules (view_record c.args.world.now) c.args.t) _ _ _ _ _ _ lt c.loop-c.invariant.written (rw told at c.in_err-write_counter.ensures.text));
      cause = search rules;
      room = search rules;
    }

pub loop-c-preserved : goal.loop-c-preserved
loop-c-preserved g c =
    let lt : c.loop-c.c < c.args.world.now.script.counters = search rules in
    let told = c.counter.ensures c.args.world.now.script c.args.world.now.rules c.args.t (view_record c.args.world.now) (c.task-task.ensures c.requires.spent).stands lt in
    record {
      written = number_written (counter_text_of c.args.world.now.script c.args.world.now.rules (view_record c.args.world.now) c.args.t) _ _ _ _ _ _ lt c.loop-c.invariant.written (rw told at c.in_ok-write_counter.ensures.text);
      later = search rules;
      room = search rules;
    }

pub returns : goal.returns
returns g c =
    let ge : c.args.world.now.script.counters ≤ c.loop-c.c = search rules in
    record {
      text = numbers_done (counter_text_of c.args.world.now.script c.args.world.now.rules (view_record c.args.world.now) c.args.t) _ _ _ _ _ ge c.loop-c.invariant.written;
      cause = search rules;
      room = search rules;
    }
