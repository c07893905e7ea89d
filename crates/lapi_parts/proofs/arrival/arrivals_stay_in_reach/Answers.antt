use Rattle.lapi_parts.proofs.InReach.{packets-in-reach, few-in-part}
use Rattle.lapi_parts.proofs.arrival.arrivals_stay_in_reach.Goals as goal

pub returns-clause-reach : goal.returns-clause-reach
returns-clause-reach c = packets-in-reach

pub returns-clause-partial : goal.returns-clause-partial
returns-clause-partial c = few-in-part
