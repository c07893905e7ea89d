use Rattle.lapi_array.proofs.LeftRuns.{runs_left}
use Rattle.lapi_array.proofs.output.runs_are_left.Goals as goal

pub returns : goal.returns
returns c = runs_left
