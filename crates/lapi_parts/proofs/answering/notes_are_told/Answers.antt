use Rattle.lapi_parts.proofs.HeadAnswers.{notes-follow, jobs-followed}
use Rattle.lapi_parts.proofs.answering.notes_are_told.Goals as goal

pub returns-clause-heads : goal.returns-clause-heads
returns-clause-heads c = notes-follow

pub returns-clause-jobs : goal.returns-clause-jobs
returns-clause-jobs c = jobs-followed
