use Rattle.std.proofs.Common.{inr}
use Rattle.lapi_tool.proofs.RanLanes.{lanes_told}
use Rattle.lapi_tool.proofs.live.run_set.Goals as goal

pub returns-in-Ok-clause-answer : goal.returns-in-Ok-clause-answer
returns-in-Ok-clause-answer g c =
    inr (lanes_told _ _ _ _ _ _ c.requires.apart c.in-Ok.ensures (c.end.ensures.answer _ _ _ c.write_live.ensures.text))
