use Rattle.lapi_live.proofs.LaneLoop.{IsRunning}
use Rattle.lapi_live.proofs.running.run_lane.Given as goal

abbrev pub invariant-loop-n : goal.invariant-loop-n
invariant-loop-n g l = IsRunning l.turn l.lane l.n-index l.jobs l.fn.pass l.pass
