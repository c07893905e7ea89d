use Rattle.lapi_laws.proofs.Landings.{lands-when-all-came, heads-when-one-came}
use Rattle.lapi_laws.proofs.landing.landed_are_delivered.Goals as goal

pub returns-clause-landed : goal.returns-clause-landed
returns-clause-landed c = lands-when-all-came

pub returns-clause-headed : goal.returns-clause-headed
returns-clause-headed c = heads-when-one-came
