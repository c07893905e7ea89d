use Rattle.std.proofs.Common.{rules}
use Rattle.lapi_report.proofs.Progress.{refused, stops_early, with_more, last_piece}
use Rattle.lapi_report.proofs.wire.write_entry.Goals as goal

pub returns-in_err-long_hex : goal.returns-in_err-long_hex
returns-in_err-long_hex g c = record {
  text = refused _ _ _ _ c.from_residual.ensures.0 (stops_early _ _ _ _ (rw c.begin_entry.ensures.text at c.in_err-long_hex.ensures.written.text));
  cause = search rules;
  room = search rules;
}

pub returns : goal.returns
returns g c =
    let begun = with_more _ _ _ _ _ (rw c.begin_entry.ensures.text at c.in_ok-long_hex.ensures.written.text) in
    record {
      text = last_piece _ _ _ _ _ _ begun (rw c.text.ensures at c.write.ensures.text);
      cause = search rules;
      room = search rules;
    }
