use Rattle.std.proofs.Common.{subst, sym}
use Rattle.lapi_base.specs.Record.Lanes.{WorkersKeepLanes}
use Rattle.lapi_base.specs.Record.WorldView.{WorldView}
use Rattle.lapi_tool.proofs.live.world_after.Goals as goal

pub run_world-requires-clause-apart : goal.run_world-requires-clause-apart
run_world-requires-clause-apart g c κs within =
    subst (λ (v : WorldView). WorkersKeepLanes v.schedule) (sym c.in_ok-first.ensures) c.requires.apart
