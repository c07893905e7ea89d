use Rattle.lapi_parts.proofs.Deliveries.{deliveries-write, deliveries-announce}
use Rattle.lapi_parts.proofs.arrival.deliveries_are_told.Goals as goal

pub returns-clause-memory : goal.returns-clause-memory
returns-clause-memory c = deliveries-write

pub returns-clause-counters : goal.returns-clause-counters
returns-clause-counters c = deliveries-announce
