use Rattle.lapi_epochs.specs.Stages.{BytesAreStages, EndsAreStages}
use Rattle.lapi_laws.proofs.Once.{of-journals}
use Rattle.lapi_epochs.proofs.StagedBytes.{staged-are, ends-are}
use Rattle.lapi_epochs.proofs.stages.memories_are_stages.Goals as goal

pub returns-clause-bytes : goal.returns-clause-bytes
returns-clause-bytes c = staged-are

pub returns-clause-ends : goal.returns-clause-ends
returns-clause-ends c = ends-are

pub returns-clause-bytes_of_runs : goal.returns-clause-bytes_of_runs
returns-clause-bytes_of_runs c = of-journals BytesAreStages staged-are

pub returns-clause-ends_of_runs : goal.returns-clause-ends_of_runs
returns-clause-ends_of_runs c = of-journals EndsAreStages ends-are
