use Rattle.lapi_parts.proofs.CopiedCounts.{copies-count, counts-stay}
use Rattle.lapi_parts.proofs.UnackedCounts.{done-by-count, acks-lower}
use Rattle.lapi_parts.proofs.copying.done_by_count.Goals as goal

pub returns-clause-done : goal.returns-clause-done
returns-clause-done c = done-by-count

pub returns-clause-lowers : goal.returns-clause-lowers
returns-clause-lowers c = acks-lower

pub returns-clause-copies : goal.returns-clause-copies
returns-clause-copies c = copies-count

pub returns-clause-stays : goal.returns-clause-stays
returns-clause-stays c = counts-stay
