use Rattle.lapi_parts.proofs.RisingStatements.{records-rise}
use Rattle.lapi_parts.proofs.rising.statements_rise.Goals as goal

pub returns : goal.returns
returns c = records-rise
