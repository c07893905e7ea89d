use Rattle.lapi_live.specs.Passes.{plan_of, seen_by, lanes_of}
use Rattle.lapi_live.proofs.Holding.{none_held}
use Rattle.lapi_live.proofs.LaneLoop.{starts, goes, line-of}
use Rattle.lapi_live.proofs.running.run_lane.Goals as goal

pub loop-n-init : goal.loop-n-init
loop-n-init g c =
    let plan = plan_of c.args.turn.now in
    starts c.args.turn.now c.args.lane.now c.in_ok-jobs.jobs c.args.pass c.requires.run.pass_of (none_held plan (lanes_of c.args.pass) (seen_by c.args.pass) c.in_ok-jobs.jobs c.in_ok-jobs.ensures c.requires.run.idle)

pub loop-n-preserved : goal.loop-n-preserved
loop-n-preserved g c =
    let e = c.in_ok-run_line.ensures in
    let i = c.as_slice-n-items.ensures in
    let at = line-of c.args.lane.now.lines c.as_slice-n-items.result.now c.loop-n.n-index i c.loop-n-test.true in
    goes c.args.turn.now c.args.lane.now c.loop-n.n-index _ c.loop-n.jobs c.run_line.new.jobs c.args.pass c.loop-n.pass c.run_line.new.pass at.0 at.1 c.requires.run.own.2 c.loop-n.invariant e.pass e.seen e.jobs
