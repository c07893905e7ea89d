use Rattle.std.proofs.Common.{rules}
use Rattle.lapi_base.specs.Output.ReportText.{report_text}
use Rattle.lapi_report.proofs.Progress.{refused, stops_early, stops_later, then_wrote}
use Rattle.lapi_report.proofs.report.write_parts.Goals as goal

pub returns-in_err-write_totals : goal.returns-in_err-write_totals
unfolding report_text
returns-in_err-write_totals g c = record {
  text = refused _ _ _ _ c.from_residual.ensures.0 (stops_early _ _ _ _ c.in_err-write_totals.ensures.text);
  cause = search rules;
  room = search rules;
}

pub returns-in_err-write_tasks : goal.returns-in_err-write_tasks
unfolding report_text
returns-in_err-write_tasks g c = record {
  text = refused _ _ _ _ c.from_residual-in_err-write_tasks.ensures.0 (stops_later _ _ _ _ _ c.in_ok-write_totals.ensures.text (stops_early _ _ _ _ c.in_err-write_tasks.ensures.text));
  cause = search rules;
  room = search rules;
}

pub returns : goal.returns
unfolding report_text
returns g c =
    let quiet = rw (c.quiet.ensures.tested c.requires) at c.write_quiet.ensures.text in
    record {
      text = then_wrote _ _ _ _ _ _ c.in_ok-write_totals.ensures.text (then_wrote _ _ _ _ _ _ c.in_ok-write_tasks.ensures.text quiet);
      cause = search rules;
      room = search rules;
    }
