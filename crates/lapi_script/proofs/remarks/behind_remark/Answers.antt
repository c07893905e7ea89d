use Rattle.std.proofs.Common.{arith}
use Rattle.lapi_script.proofs.SkippedRemarks.{remark_ends}
use Rattle.lapi_script.proofs.remarks.behind_remark.Goals as goal

pub returns-then-byte-eq10-clause-remark : goal.returns-then-byte-eq10-clause-remark
returns-then-byte-eq10-clause-remark c =
    remark_ends c.args.bytes.now c.split_at.result.1.now c.loop-place.place (omega arith) (omega arith) c.if-bytes-ne35.false c.loop-place.invariant c.if-byte-eq10.true c.split_at.ensures.back
