use Rattle.std.proofs.Common.{rules}
use Rattle.lapi_report.proofs.Progress.{refused, stops_early, then_wrote}
use Rattle.lapi_report.proofs.task.write_statement.Goals as goal

pub returns-in_err-write_refused : goal.returns-in_err-write_refused
returns-in_err-write_refused g c = record {
  text = refused _ _ _ _ c.from_residual.ensures.0 (stops_early _ _ _ _ c.in_err-write_refused.ensures.text);
  cause = search rules;
  room = search rules;
}

pub returns : goal.returns
returns g c = record {
  text = then_wrote _ _ _ _ _ _ c.in_ok-write_refused.ensures.text c.write_read.ensures.text;
  cause = search rules;
  room = search rules;
}
