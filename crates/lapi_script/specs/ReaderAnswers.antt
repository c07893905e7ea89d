-- What `read_input` and `read_audit` answer.
use Rattle.std.specs.Prelude.{◌≡◌, ℕ, List, Result, Ok, Err}
use Rattle.lapi_base.specs.declared.input.Input.{Input}
use Rattle.lapi_base.specs.declared.audit_input.AuditInput.{AuditInput}
use Rattle.lapi_base.specs.declared.input.ReadFault.{ReadFault}
use Rattle.lapi_base.specs.declared.input.ReadFault.TheVariants as answers
use Rattle.lapi_base.specs.declared.input.LineError.TheVariants.{Syntax, Limit}
use Rattle.lapi_base.specs.Input.Rows.{IsFirstFault}
use Rattle.lapi_base.specs.Input.AuditRows.{IsFirstAuditFault}
use Rattle.lapi_base.specs.Input.Reading.{Fault}
use Rattle.lapi_script.specs.declared.fault.LineFault.{LineFault}
use Rattle.lapi_script.specs.declared.fault.LineFault.TheVariants as faults

-- It is what reading gives, unless memory ran out.
abbrev pub GivesText : {X : Type 0} → Result X ReadFault → Result X Fault → Type 0
GivesText (Ok x) read = read ≡ Ok x
GivesText (Err answers.Memory) read = Unit {0}
GivesText (Err (answers.Syntax line)) read = read ≡ Err (Syntax, line)
GivesText (Err (answers.Limit which line)) read = read ≡ Err (Limit which, line)

abbrev pub GivesInput : Result Input ReadFault → Result Input Fault → Type 0
GivesInput result read = GivesText result read

abbrev pub GivesAudit : Result AuditInput ReadFault → Result AuditInput Fault → Type 0
GivesAudit result read = GivesText result read

-- The answer is this fault at this line.
abbrev pub FailsAt : ℕ → LineFault → ReadFault → Type 0
FailsAt line faults.Memory answer = answer ≡ answers.Memory
FailsAt line (faults.Wrong Syntax) answer = answer ≡ answers.Syntax line
FailsAt line (faults.Wrong (Limit which)) answer = answer ≡ answers.Limit which line

-- This holds of the line of the fault.
abbrev pub FaultHas : {X : Type 0} → (ℕ → Type 0) → Result X ReadFault → Type 0
FaultHas P (Ok x) = Unit {0}
FaultHas P (Err answers.Memory) = Unit {0}
FaultHas P (Err (answers.Syntax l)) = P l
FaultHas P (Err (answers.Limit which l)) = P l

-- The line of the fault is the first up to which the lines begin no input,
abbrev pub FaultIsFirst : List (List ℕ) → Result Input ReadFault → Type 0
FaultIsFirst lines result = FaultHas (IsFirstFault lines) result

-- or no audit's text.
abbrev pub AuditFaultIsFirst : List (List ℕ) → Result AuditInput ReadFault → Type 0
AuditFaultIsFirst lines result = FaultHas (IsFirstAuditFault lines) result
