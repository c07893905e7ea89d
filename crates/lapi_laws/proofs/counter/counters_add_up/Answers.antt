use Rattle.lapi_base.specs.Laws.Headline.{CountersAddUp}
use Rattle.lapi_laws.proofs.Once.{of-journals}
use Rattle.lapi_laws.proofs.Counts.{counters-add-up, counters-start}
use Rattle.lapi_laws.proofs.counter.counters_add_up.Goals as goal

pub returns-clause-atomic : goal.returns-clause-atomic
returns-clause-atomic c = counters-add-up

pub returns-clause-runs : goal.returns-clause-runs
returns-clause-runs c = of-journals CountersAddUp counters-add-up

pub returns-clause-starts : goal.returns-clause-starts
returns-clause-starts c = λ script rules J t x. counters-start script rules J t x
