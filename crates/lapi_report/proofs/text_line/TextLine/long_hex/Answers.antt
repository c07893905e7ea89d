use Rattle.std.proofs.Common.{rules}
use Rattle.lapi_report.proofs.Digits.{digits_parted}
use Rattle.lapi_report.proofs.Progress.{refused_up_to, goes_on, stops}
use Rattle.lapi_report.proofs.text_line.TextLine.long_hex.Goals as goal

pub returns-in_err-write-clause-written : goal.returns-in_err-write-clause-written
returns-in_err-write-clause-written g c =
    let parted = digits_parted c.loop-rest.self 512 c.loop-rest.rest.now in
    let here = rw parted at c.loop-rest.invariant.written in
    let piece = rw (c.hex.ensures.text, c.split_at.ensures.front) at c.in_err-write.ensures.text in
    record {
      text = refused_up_to _ _ _ _ _ c.from_residual.ensures.0 (stops _ _ _ _ _ _ here piece);
      cause = search rules;
      room = search rules;
    }

pub loop-rest-preserved : goal.loop-rest-preserved
loop-rest-preserved g c =
    let parted = digits_parted c.loop-rest.self 512 c.loop-rest.rest.now in
    let here = rw parted at c.loop-rest.invariant.written in
    let piece = rw (c.hex.ensures.text, c.split_at.ensures.front) at c.in_ok-write.ensures.text in
    record {
      written = rw (c.begin.ensures, c.split_at.ensures.back) (goes_on _ _ _ _ _ _ here piece);
      short = search rules;
      later = search rules;
      room = search rules;
    }

pub returns-clause-written : goal.returns-clause-written
returns-clause-written g c = record {
  text = rw c.hex-2.ensures.text c.loop-rest.invariant.written;
  cause = search rules;
  room = search rules;
}
