use Rattle.std.proofs.Common.{rules}
use Rattle.lapi_capture.specs.Texts.{landings_text}
use Rattle.lapi_report.proofs.Progress.{refused, stops_early, then_wrote}
use Rattle.lapi_report.proofs.landings.write_parts.Goals as goal

pub returns-in_err-write_lines : goal.returns-in_err-write_lines
unfolding landings_text
returns-in_err-write_lines g c = record {
  text = refused _ _ _ _ c.from_residual.ensures.0 (stops_early _ _ _ _ c.in_err-write_lines.ensures.text);
  cause = search rules;
  room = search rules;
}

pub returns : goal.returns
unfolding landings_text
returns g c = record {
  text = then_wrote _ _ _ _ _ _ c.in_ok-write_lines.ensures.text c.write_counts.ensures.text;
  cause = search rules;
  room = search rules;
}
