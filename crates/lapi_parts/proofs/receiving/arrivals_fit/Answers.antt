use Rattle.lapi_parts.proofs.Receivable.{acks-cover-sent, packets-fit, heads-agree}
use Rattle.lapi_parts.proofs.receiving.arrivals_fit.Goals as goal

pub returns-clause-acks : goal.returns-clause-acks
returns-clause-acks c = acks-cover-sent

pub returns-clause-script : goal.returns-clause-script
returns-clause-script c = packets-fit

pub returns-clause-heads : goal.returns-clause-heads
returns-clause-heads c = heads-agree
