use Rattle.std.proofs.Common.{rules, sym, ap, ◌∙◌}
use Rattle.lapi_base.specs.declared.rule.Rules.{Rules}
use Rattle.lapi_base.specs.Record.WorldView.{view_record}
use Rattle.lapi_base.specs.Record.Values.{memory_bytes}
use Rattle.lapi_base.specs.Output.ReportText.{task_text}
use Rattle.lapi_report.proofs.Progress.{refused, stops_early, stops_later, then_wrote}
use Rattle.lapi_report.proofs.task.write_task.Goals as goal

pub returns-in_err-write_standing : goal.returns-in_err-write_standing
unfolding task_text
returns-in_err-write_standing g c = record {
  text = refused _ _ _ _ c.from_residual.ensures.0 (stops_early _ _ _ _ c.in_err-write_standing.ensures.text);
  cause = search rules;
  room = search rules;
}

pub returns-in_err-write_statements : goal.returns-in_err-write_statements
unfolding task_text
returns-in_err-write_statements g c = record {
  text = refused _ _ _ _ c.from_residual-in_err-write_statements.ensures.0 (stops_later _ _ _ _ _ c.in_ok-write_standing.ensures.text (stops_early _ _ _ _ c.in_err-write_statements.ensures.text));
  cause = search rules;
  room = search rules;
}

pub returns-in_err-write_counters : goal.returns-in_err-write_counters
unfolding task_text
returns-in_err-write_counters g c = record {
  text = refused _ _ _ _ c.from_residual-in_err-write_counters.ensures.0 (
      stops_later _ _ _ _ _ c.in_ok-write_standing.ensures.text (
      stops_later _ _ _ _ _ c.in_ok-write_statements.ensures.text (stops_early _ _ _ _ c.in_err-write_counters.ensures.text)
      )
      );
  cause = search rules;
  room = search rules;
}

pub returns : goal.returns
unfolding task_text
returns g c =
    let told = c.bytes_of.ensures ∙ c.memory.ensures c.args.world.now.script c.args.world.now.rules c.args.t (view_record c.args.world.now) (c.task.ensures c.requires.spent).stands in
    let memory = rw told at c.write_memory.ensures.text in
    record {
      text = then_wrote _ _ _ _ _ _ c.in_ok-write_standing.ensures.text (then_wrote _ _ _ _ _ _ c.in_ok-write_statements.ensures.text (then_wrote _ _ _ _ _ _ c.in_ok-write_counters.ensures.text memory));
      cause = search rules;
      room = search rules;
    }
