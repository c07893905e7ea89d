use Rattle.std.proofs.Common.{rules}
use Rattle.lapi_capture.specs.Texts.{line_of}
use Rattle.lapi_report.proofs.Progress.{refused, item_written, item_stops}
use Rattle.lapi_report.proofs.landings.write_lines.Goals as goal

pub returns-in_err-write : goal.returns-in_err-write
returns-in_err-write g c = record {
  text = refused _ _ _ _ c.from_residual.ensures.0 (item_stops line_of _ _ _ _ _ _ _ c.loop-landing-test.true c.loop-landing.invariant.written (rw c.fill_landing.ensures at c.in_err-write.ensures.text));
  cause = search rules;
  room = search rules;
}

pub loop-landing-preserved : goal.loop-landing-preserved
loop-landing-preserved g c = record {
  written = item_written line_of _ _ _ _ _ _ _ c.loop-landing-test.true c.loop-landing.invariant.written (rw c.fill_landing.ensures at c.in_ok-write.ensures.text);
  later = search rules;
  room = search rules;
}
