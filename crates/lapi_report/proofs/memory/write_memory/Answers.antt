use Rattle.std.proofs.Common.{rules, ◌<◌, ◌≤◌}
use Rattle.std.specs.Prelude.{length}
use Rattle.std.specs.Int.{div_ceil}
use Rattle.lapi_base.specs.Output.ReportText.{numbered_row_text}
use Rattle.lapi_report.proofs.Progress.{refused}
use Rattle.lapi_report.proofs.Numbers.{number_written, number_stops, numbers_done}
use Rattle.lapi_report.proofs.memory.write_memory.Goals as goal

pub returns-in_err-write_row : goal.returns-in_err-write_row
returns-in_err-write_row g c =
    let lt : c.loop-k.k < div_ceil (length c.args.bytes.now) 16 = search rules in
    record {
      text = refused _ _ _ _ c.from_residual.ensures.0 (number_stops (numbered_row_text c.args.t c.args.bytes.now) _ _ _ _ _ _ lt c.loop-k.invariant.written (rw c.row_at.ensures.row at c.in_err-write_row.ensures.text));
      cause = search rules;
      room = search rules;
    }

pub loop-k-preserved : goal.loop-k-preserved
loop-k-preserved g c =
    let lt : c.loop-k.k < div_ceil (length c.args.bytes.now) 16 = search rules in
    record {
      written = number_written (numbered_row_text c.args.t c.args.bytes.now) _ _ _ _ _ _ lt c.loop-k.invariant.written (rw c.row_at.ensures.row at c.in_ok-write_row.ensures.text);
      later = search rules;
      room = search rules;
    }

pub returns : goal.returns
returns g c =
    let ge : div_ceil (length c.args.bytes.now) 16 ≤ c.loop-k.k = search rules in
    record {
      text = numbers_done (numbered_row_text c.args.t c.args.bytes.now) _ _ _ _ _ ge c.loop-k.invariant.written;
      cause = search rules;
      room = search rules;
    }
