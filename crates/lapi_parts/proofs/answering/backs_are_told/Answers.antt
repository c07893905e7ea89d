use Rattle.lapi_parts.proofs.HeadAnswers.{backs-follow, backs-bring}
use Rattle.lapi_parts.proofs.answering.backs_are_told.Goals as goal

pub returns-clause-heads : goal.returns-clause-heads
returns-clause-heads c = backs-follow

pub returns-clause-bytes : goal.returns-clause-bytes
returns-clause-bytes c = backs-bring
