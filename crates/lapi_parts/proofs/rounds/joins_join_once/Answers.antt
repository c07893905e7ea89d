use Rattle.lapi_parts.proofs.JoinedRounds.{joins-once, joins-its-round, joins-no-other}
use Rattle.lapi_parts.proofs.rounds.joins_join_once.Goals as goal

pub returns-clause-once : goal.returns-clause-once
returns-clause-once c = joins-once

pub returns-clause-own : goal.returns-clause-own
returns-clause-own c = joins-its-round

pub returns-clause-others : goal.returns-clause-others
returns-clause-others c = joins-no-other
