use Rattle.lapi_epochs.specs.Epochs.{EpochsWait}
use Rattle.lapi_laws.proofs.Once.{of-journals}
use Rattle.lapi_epochs.proofs.EpochOrder.{epochs-wait}
use Rattle.lapi_epochs.proofs.epochs.epochs_wait.Goals as goal

pub returns-clause-atomic : goal.returns-clause-atomic
returns-clause-atomic c = epochs-wait

pub returns-clause-runs : goal.returns-clause-runs
returns-clause-runs c = of-journals EpochsWait epochs-wait
