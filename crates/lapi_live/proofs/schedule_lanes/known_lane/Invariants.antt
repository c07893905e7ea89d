use Rattle.std.proofs.Common.{◌≡◌, drop}
use Rattle.lapi_live.specs.Lanes.{lane_known}
use Rattle.lapi_live.proofs.schedule_lanes.known_lane.Given as goal

abbrev pub invariant-loop-entry : goal.invariant-loop-entry
invariant-loop-entry l = lane_known l.known l.task l.worker ≡ lane_known (drop l.entry-index l.known) l.task l.worker
