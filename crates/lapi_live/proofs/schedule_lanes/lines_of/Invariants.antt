use Rattle.std.proofs.Common.{◌≡◌}
use Rattle.lapi_base.specs.Record.Operations.{numbers_below}
use Rattle.lapi_base.specs.Record.Lanes.{lane_lines}
use Rattle.lapi_live.proofs.schedule_lanes.lines_of.Given as goal

abbrev pub invariant-loop-n : goal.invariant-loop-n
invariant-loop-n l = l.lines ≡ lane_lines l.schedule l.lane (numbers_below l.n)
