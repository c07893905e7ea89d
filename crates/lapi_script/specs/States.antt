-- What the reader's state stands for.
use Rattle.lapi_base.specs.Input.Reading.{State, First, Second, Start, Tasks, Lines, Finished}
use Rattle.lapi_script.specs.declared.state.State.{State as Held}
use Rattle.lapi_script.specs.declared.state.State.TheVariants as held
use Rattle.lapi_base.specs.Input.AuditReading.{AuditState, Before, Events, Ended}
use Rattle.lapi_script.specs.declared.audit_state.AuditState.{AuditState as HeldAudit}
use Rattle.lapi_script.specs.declared.audit_state.AuditState.TheVariants as held_audit

abbrev pub state_of : Held → State
state_of held.First = First
state_of (held.Second layout) = Second layout
state_of (held.Start script) = Start script
state_of (held.Tasks script current) = Tasks script current
state_of (held.Lines script schedule) = Lines script schedule
state_of (held.Finished x) = Finished x

abbrev pub audit_state_of : HeldAudit → AuditState
audit_state_of (held_audit.Before state) = Before (state_of state)
audit_state_of (held_audit.Events script journal) = Events script journal
audit_state_of (held_audit.Ended x) = Ended x
