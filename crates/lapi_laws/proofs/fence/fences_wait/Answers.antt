use Rattle.lapi_base.specs.Laws.Headline.{FencesWait, GlobalFencesWait}
use Rattle.lapi_laws.proofs.Once.{of-journals}
use Rattle.lapi_laws.proofs.Fences.{fences-wait, global-fences-wait}
use Rattle.lapi_laws.proofs.fence.fences_wait.Goals as goal

pub returns-clause-atomic : goal.returns-clause-atomic
returns-clause-atomic c = fences-wait

pub returns-clause-global_atomic : goal.returns-clause-global_atomic
returns-clause-global_atomic c = global-fences-wait

pub returns-clause-runs : goal.returns-clause-runs
returns-clause-runs c = of-journals FencesWait fences-wait

pub returns-clause-global_runs : goal.returns-clause-global_runs
returns-clause-global_runs c = of-journals GlobalFencesWait global-fences-wait
