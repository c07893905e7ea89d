use Rattle.lapi_laws.proofs.Owed.{run-owed, run-told}
use Rattle.lapi_laws.proofs.window.owed_are_held_back.Goals as goal

pub returns-clause-held : goal.returns-clause-held
returns-clause-held c = run-owed

pub returns-clause-told : goal.returns-clause-told
returns-clause-told c = run-told
