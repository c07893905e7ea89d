use Rattle.lapi_laws.proofs.HandedOver.{run-owes}
use Rattle.lapi_laws.proofs.handed.owed_by_deliveries.Goals as goal

pub returns : goal.returns
returns c = run-owes
