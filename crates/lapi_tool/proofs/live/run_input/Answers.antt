use Rattle.std.proofs.Common.{subst, List}
use Rattle.lapi_base.specs.declared.schedule.Line.{Line}
use Rattle.lapi_base.specs.Record.Lanes.{WorkersKeepLanes}
use Rattle.lapi_tool.proofs.live.run_input.Goals as goal

pub run_set-requires-clause-apart : goal.run_set-requires-clause-apart
run_set-requires-clause-apart g c κs within = subst (λ (lines : List Line). WorkersKeepLanes lines) c.as_slice.ensures c.in-Ok.ensures.apart
