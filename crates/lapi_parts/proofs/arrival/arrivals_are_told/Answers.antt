use Rattle.lapi_parts.proofs.ArrivingPackets.{acks-told, next-acks-told, arrivals-told, repeats-known}
use Rattle.lapi_parts.proofs.arrival.arrivals_are_told.Goals as goal

pub returns-clause-acks : goal.returns-clause-acks
returns-clause-acks c = acks-told

pub returns-clause-next_acks : goal.returns-clause-next_acks
returns-clause-next_acks c = next-acks-told

pub returns-clause-events : goal.returns-clause-events
returns-clause-events c = arrivals-told

pub returns-clause-repeats : goal.returns-clause-repeats
returns-clause-repeats c = repeats-known
