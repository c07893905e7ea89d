use Rattle.std.proofs.Common.{rules}
use Rattle.std.specs.Prelude.{slice_get}
use Rattle.lapi_base.specs.Output.LiveText.{told_line}
use Rattle.lapi_report.proofs.Progress.{refused, item_written, item_stops}
use Rattle.lapi_report.proofs.taken.write_lines.Goals as goal

pub returns-in_err-write_told : goal.returns-in_err-write_told
returns-in_err-write_told g c = record {
  text = refused _ _ _ _ c.from_residual.ensures.0 (item_stops (λ n. told_line (slice_get c.args.schedule.now n)) _ _ _ _ _ _ _ c.loop-n-test.true c.loop-n.invariant.written c.in_err-write_told.ensures.text);
  cause = search rules;
  room = search rules;
}

pub loop-n-preserved : goal.loop-n-preserved
loop-n-preserved g c = record {
  written = item_written (λ n. told_line (slice_get c.args.schedule.now n)) _ _ _ _ _ _ _ c.loop-n-test.true c.loop-n.invariant.written c.in_ok-write_told.ensures.text;
  later = search rules;
  room = search rules;
}
