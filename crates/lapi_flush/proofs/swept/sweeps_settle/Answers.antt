use Rattle.lapi_flush.proofs.SweptTasks.{sweeps-swept}
use Rattle.lapi_flush.proofs.SettledRecords.{two-settle}
use Rattle.lapi_flush.proofs.swept.sweeps_settle.Goals as goal

pub returns-clause-swept : goal.returns-clause-swept
returns-clause-swept c = sweeps-swept

pub returns-clause-settled : goal.returns-clause-settled
returns-clause-settled c = two-settle
