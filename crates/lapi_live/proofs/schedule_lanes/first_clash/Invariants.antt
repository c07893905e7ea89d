use Rattle.lapi_live.specs.Lanes.{AreKnown}
use Rattle.lapi_live.proofs.schedule_lanes.first_clash.Given as goal

abbrev pub invariant-loop-n : goal.invariant-loop-n
invariant-loop-n l = AreKnown l.schedule l.n l.known.items
