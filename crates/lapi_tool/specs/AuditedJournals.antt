-- What the command `audit` tells of a script with what the command `journal` tells of a run of it.
use Rattle.std.specs.Prelude.{ℕ, ◌≤◌, List, length, Option}
use Rattle.lapi_base.specs.declared.command.View.TheVariants.{Journal}
use Rattle.lapi_base.specs.declared.input.Input.{Input}
use Rattle.lapi_base.specs.declared.rule.Rules.{Rules}
use Rattle.lapi_base.specs.declared.status.Status.{Status}
use Rattle.lapi_base.specs.Input.AuditReading.{read_audit}
use Rattle.lapi_base.specs.Input.AuditRows.{audit_text}
use Rattle.lapi_base.specs.Input.Reading.{most_input}
use Rattle.lapi_base.specs.Output.CommandAnswers.{atomic_answer, recorded, view_text}
use Rattle.lapi_tool.specs.Answered.{AuditTells}
use Rattle.lapi_tool.specs.Outcomes.{CommandGives}

-- the canonical lines of an input's script, `journal`, what the command `journal` tells of the input, and `done`
abbrev pub journal_to_audit : Rules → Input → List ℕ
journal_to_audit rules x = audit_text x.script (view_text Journal rules x)

-- unless that is longer than any input, whatever is told of it is that so many events are atomic
abbrev pub IsToldAtomic : Rules → Input → Type 0
IsToldAtomic rules x =
    (held now : Option (List ℕ)) (status : Status) → length (journal_to_audit rules x) ≤ most_input → AuditTells rules (read_audit (journal_to_audit rules x)) held now status
    → CommandGives (atomic_answer (length (recorded rules x).journal)) held now status
