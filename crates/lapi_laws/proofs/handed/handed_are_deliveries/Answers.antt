use Rattle.lapi_laws.proofs.HandedOver.{run-handed}
use Rattle.lapi_laws.proofs.handed.handed_are_deliveries.Goals as goal

pub returns : goal.returns
returns c = run-handed
