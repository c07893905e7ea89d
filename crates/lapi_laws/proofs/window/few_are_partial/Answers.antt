use Rattle.lapi_laws.proofs.Partial.{few-partial}
use Rattle.lapi_laws.proofs.window.few_are_partial.Goals as goal

pub returns : goal.returns
returns c = few-partial
