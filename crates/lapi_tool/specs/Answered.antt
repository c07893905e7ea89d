-- What a command did to its source and its sink. This is the project's own.
use Rattle.std.specs.Prelude.{◌≡◌, ◌↔◌, IsTrue, ℕ, ◌+◌, ◌≤◌, ◌⊎◌, List, [], length, reverse, Option, Some, None, Result, Ok, Err}
use Rattle.std.specs.Io.KnownBytes.{Appends, Consumes, IsAtEnd}
use Rattle.lapi_base.specs.declared.command.Command.{Command}
use Rattle.lapi_base.specs.declared.command.Command.TheVariants.{Read, Check, Audit, Landings, Array, Show, Gen, Sum}
use Rattle.lapi_base.specs.declared.input.Input.{Input}
use Rattle.lapi_base.specs.declared.input.ReadFault.{ReadFault}
use Rattle.lapi_base.specs.declared.input.ReadFault.TheVariants as faults
use Rattle.lapi_base.specs.declared.input.LineError.TheVariants as why
use Rattle.lapi_base.specs.declared.status.Status.{Status}
use Rattle.lapi_base.specs.declared.status.Status.TheVariants as status
use Rattle.lapi_base.specs.Output.CommandAnswers.{Answer, atomic_answer, broken_answer, usage_answer, fault_answer, shown_answer, generated_answer, summary_answer, input_answer, counts_text, view_text, recorded}
use Rattle.lapi_base.specs.Record.Atomic.{AtomicInTime}
use Rattle.lapi_base.specs.Record.Final.{Quiet, is_quiet}
use Rattle.lapi_base.specs.Input.Reading.{Fault, most_input, read}
use Rattle.lapi_base.specs.declared.audit_input.AuditInput.{AuditInput}
use Rattle.lapi_base.specs.Input.AuditReading.{read_audit}
use Rattle.lapi_audit.specs.declared.rule.Verdict.{Verdict}
use Rattle.lapi_audit.specs.declared.rule.Verdict.TheVariants.{Atomic, Broken}
use Rattle.lapi_audit.specs.Rules.{IsVerdict}
use Rattle.lapi_base.specs.Output.ReportText.{report_text}
use Rattle.lapi_base.specs.Input.Rows.{IsInputText}
use Rattle.lapi_base.specs.declared.rule.Rules.{Rules}
use Rattle.lapi_gen.specs.Inputs.{generated_input}
use Rattle.lapi_tool.specs.Arrays.{IsArrayTold}
use Rattle.lapi_tool.specs.Landings.{IsLanded}
use Rattle.lapi_tool.specs.Outcomes.{CommandGives, IsSilent, WasRead}
use Rattle.lapi_world.specs.Settled.{IsSettled}

-- What is told of a fault of the input; where memory ran out that is nothing.
abbrev pub refused_answer : ReadFault → Answer
refused_answer (faults.Syntax line) = fault_answer (why.Syntax, line)
refused_answer (faults.Limit which line) = fault_answer (why.Limit which, line)
refused_answer faults.Memory = record { status = status.Memory; text = [] }

-- the source couldn't be read, and nothing was written; or it was read, and this text of its input was given
abbrev pub IsToldOf : (text : Input → List ℕ) → (left rest held now : Option (List ℕ)) → Status → Type 0
IsToldOf text left rest held now result =
    IsSilent result held now ⊎ ((bytes : List ℕ) × WasRead left rest bytes × CommandGives (input_answer text (read bytes)) held now result)

-- the answer to so many events
abbrev pub verdict_answer : ℕ → Verdict → Answer
verdict_answer count Atomic = atomic_answer count
verdict_answer count (Broken rule place) = broken_answer rule place

-- the verdict on the events, or the first fault
abbrev pub AuditTells : Rules → Result AuditInput Fault → (held now : Option (List ℕ)) → Status → Type 0
AuditTells rules (Ok x) held now result = (v : Verdict) × IsVerdict x.script rules x.journal v × CommandGives (verdict_answer (length x.journal) v) held now result
AuditTells rules (Err fault) held now result = CommandGives (fault_answer fault) held now result

-- nothing was written, since the source couldn't be read or memory ran out; or the source was read, and this was told
abbrev pub IsAudited : Rules → (left rest held now : Option (List ℕ)) → Status → Type 0
IsAudited rules left rest held now result = IsSilent result held now ⊎ ((bytes : List ℕ) × WasRead left rest bytes × AuditTells rules (read_audit bytes) held now result)

abbrev pub IsAnswered : Rules → Option Command → (left rest held now : Option (List ℕ)) → Status → Type 0
IsAnswered rules None left rest held now result = CommandGives usage_answer held now result × (rest ≡ left)
IsAnswered rules (Some (Show bytes)) left rest held now result = CommandGives (shown_answer bytes) held now result × (rest ≡ left)
IsAnswered rules (Some (Gen number)) left rest held now result = CommandGives (generated_answer (generated_input number)) held now result × (rest ≡ left)
IsAnswered rules (Some (Sum number)) left rest held now result = CommandGives (summary_answer number rules (generated_input number)) held now result × (rest ≡ left)
IsAnswered rules (Some Check) left rest held now result = IsToldOf counts_text left rest held now result
IsAnswered rules (Some Audit) left rest held now result = IsAudited rules left rest held now result
IsAnswered rules (Some Landings) left rest held now result = IsLanded left rest held now result
IsAnswered rules (Some Array) left rest held now result = IsArrayTold left rest held now result
IsAnswered rules (Some (Read view)) left rest held now result = IsToldOf (view_text view rules) left rest held now result

-- The whole source is the text of an input; the report of the record of all its lines was appended; the journal of that
-- record is one of the atomic message machine, which has no packets; and where the report ends in `quiet yes`, nothing is
-- under way, whatever was begun has all its events, and no lines without a Step add one.
pub record IsReported (rules : Rules) (left rest held now : Option (List ℕ)) : Type 0 where
  pub bytes : List ℕ
  pub x : Input
  pub read : Consumes left rest bytes × IsAtEnd rest
  pub reads : IsInputText x bytes
  pub written : Appends held now (report_text x.script rules (recorded rules x) (length x.schedule))
  pub atomic : AtomicInTime x.script rules (reverse (recorded rules x).journal)
  pub quiet : IsTrue (is_quiet x.script rules (recorded rules x)) ↔ Quiet x.script rules (recorded rules x)
  pub settled : IsTrue (is_quiet x.script rules (recorded rules x)) → IsSettled x.script rules (recorded rules x)
