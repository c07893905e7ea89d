use Rattle.lapi_blocks.proofs.CountedLines.{plans-counted}
use Rattle.lapi_blocks.proofs.runs.plans_are_counted.Goals as goal

pub returns : goal.returns
returns c = plans-counted
