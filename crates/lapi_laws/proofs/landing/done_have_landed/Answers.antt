use Rattle.lapi_laws.proofs.Landings.{happened-have-landed, clear-have-landed}
use Rattle.lapi_laws.proofs.landing.done_have_landed.Goals as goal

pub returns-clause-done : goal.returns-clause-done
returns-clause-done c = happened-have-landed

pub returns-clause-clear : goal.returns-clause-clear
returns-clause-clear c = clear-have-landed
