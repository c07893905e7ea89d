use Rattle.lapi_parts.proofs.LinesTaken.{start-record, more-record, taken-record}
use Rattle.lapi_parts.proofs.takes.records_go_on.Goals as goal

pub returns-clause-start : goal.returns-clause-start
returns-clause-start c = start-record

pub returns-clause-more : goal.returns-clause-more
returns-clause-more c = more-record

pub returns-clause-taken : goal.returns-clause-taken
returns-clause-taken c = taken-record
