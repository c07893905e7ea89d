use Rattle.lapi_flush.proofs.CalledRounds.{rounds-go_on}
use Rattle.lapi_flush.proofs.rounds.rounds_go_on.Goals as goal

pub returns : goal.returns
returns c = rounds-go_on
