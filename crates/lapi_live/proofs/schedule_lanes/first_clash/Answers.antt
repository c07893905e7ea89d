use Rattle.std.proofs.Common.{arith}
use Rattle.lapi_live.proofs.LaneLines.{keep_lanes}
use Rattle.lapi_live.proofs.schedule_lanes.first_clash.Goals as goal

pub returns : goal.returns
returns c = keep_lanes c.args.schedule.now c.loop-n.n c.loop-n.known.items (omega (arith, c.loop-n-test.false, c.loop-n.auto.n-end)) c.loop-n.invariant
