use Rattle.lapi_parts.proofs.RoundOrder.{rounds-in-order, fences-joined, tables-joined}
use Rattle.lapi_parts.proofs.rounds.rounds_are_in_order.Goals as goal

pub returns-clause-order : goal.returns-clause-order
returns-clause-order c = rounds-in-order

pub returns-clause-fences : goal.returns-clause-fences
returns-clause-fences c = fences-joined

pub returns-clause-tables : goal.returns-clause-tables
returns-clause-tables c = tables-joined
