use Rattle.lapi_base.specs.Record.Atomic.{Atomic}
use Rattle.lapi_laws.proofs.Laws.{in-time}
use Rattle.lapi_laws.proofs.Once.{of-journals}
use Rattle.lapi_laws.proofs.Runs.{run-sound}
use Rattle.lapi_laws.proofs.atomic.journal_is_atomic.Goals as goal

pub returns-clause-newest_first : goal.returns-clause-newest_first
returns-clause-newest_first c = of-journals Atomic (λ script rules J h. h)

pub returns-clause-in_time : goal.returns-clause-in_time
returns-clause-in_time c = λ script rules spells size refusal acts v. in-time script rules _ (run-sound script rules spells size refusal acts v).atomic
