use Rattle.lapi_base.specs.Laws.Headline.{LandsOnce}
use Rattle.lapi_laws.proofs.Once.{lands-once, of-journals}
use Rattle.lapi_laws.proofs.order.messages_land_once.Goals as goal

pub returns-clause-atomic : goal.returns-clause-atomic
returns-clause-atomic c = lands-once

pub returns-clause-runs : goal.returns-clause-runs
returns-clause-runs c = of-journals LandsOnce lands-once
