use Rattle.std.proofs.Common.{rules}
use Rattle.lapi_tool.proofs.LiveTexts.{refused_first, both_wrote}
use Rattle.lapi_tool.proofs.live_text.write_live.Goals as goal

pub returns-in_err-write_taken : goal.returns-in_err-write_taken
returns-in_err-write_taken g c = record {
  text = refused_first _ _ _ _ _ c.from_residual.ensures.0 c.in_err-write_taken.ensures.written.text;
  cause = search rules;
  room = search rules;
}

pub returns : goal.returns
returns g c = record {
  text = both_wrote _ _ _ _ _ _ c.in_ok-write_taken.ensures.written.text c.write_report.ensures.written.text;
  cause = search rules;
  room = search rules;
}
