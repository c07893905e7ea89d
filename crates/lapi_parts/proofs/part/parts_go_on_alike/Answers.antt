use Rattle.lapi_parts.proofs.SameSteps.{acts-alike}
use Rattle.lapi_parts.proofs.part.parts_go_on_alike.Goals as goal

pub returns : goal.returns
returns c = acts-alike
