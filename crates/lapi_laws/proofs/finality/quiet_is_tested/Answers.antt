use Rattle.lapi_laws.proofs.Runs.{run-sound}
use Rattle.lapi_laws.proofs.Settled.{quiet-from, quiet-to}
use Rattle.lapi_laws.proofs.finality.quiet_is_tested.Goals as goal

pub returns : goal.returns
returns c = λ script rules spells size refusal acts v. (quiet-from script rules _ (run-sound script rules spells size refusal acts v), quiet-to script rules _)
