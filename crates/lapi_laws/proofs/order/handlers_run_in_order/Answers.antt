use Rattle.lapi_base.specs.Laws.Headline.{HandlersOnce, HandlersInOrder}
use Rattle.lapi_laws.proofs.Once.{handlers-once, handlers-in-order, of-journals}
use Rattle.lapi_laws.proofs.order.handlers_run_in_order.Goals as goal

pub returns-clause-once : goal.returns-clause-once
returns-clause-once c = handlers-once

pub returns-clause-in_order : goal.returns-clause-in_order
returns-clause-in_order c = handlers-in-order

pub returns-clause-runs_once : goal.returns-clause-runs_once
returns-clause-runs_once c = of-journals HandlersOnce handlers-once

pub returns-clause-runs_in_order : goal.returns-clause-runs_in_order
returns-clause-runs_in_order c = of-journals HandlersInOrder handlers-in-order
