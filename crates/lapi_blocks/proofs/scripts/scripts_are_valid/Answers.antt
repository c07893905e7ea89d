use Rattle.lapi_blocks.proofs.ScriptLimits.{scripts-valid, scripts-short}
use Rattle.lapi_blocks.proofs.scripts.scripts_are_valid.Goals as goal

pub returns-clause-valid : goal.returns-clause-valid
returns-clause-valid c = scripts-valid

pub returns-clause-short : goal.returns-clause-short
returns-clause-short c = scripts-short
