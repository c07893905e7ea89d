use Rattle.lapi_parts.proofs.LinesTaken.{record-first, record-more, record-whole, acts-valid}
use Rattle.lapi_parts.proofs.takes.lines_are_taken.Goals as goal

pub returns-clause-first : goal.returns-clause-first
returns-clause-first c = record-first

pub returns-clause-more : goal.returns-clause-more
returns-clause-more c = record-more

pub returns-clause-whole : goal.returns-clause-whole
returns-clause-whole c = record-whole

pub returns-clause-valid : goal.returns-clause-valid
returns-clause-valid c = acts-valid
