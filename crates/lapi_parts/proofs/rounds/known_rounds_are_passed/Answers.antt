use Rattle.lapi_parts.proofs.RoundOrder.{passed-are-joined, known-are-passed}
use Rattle.lapi_parts.proofs.rounds.known_rounds_are_passed.Goals as goal

pub returns-clause-joined : goal.returns-clause-joined
returns-clause-joined c = passed-are-joined

pub returns-clause-known : goal.returns-clause-known
returns-clause-known c = known-are-passed
