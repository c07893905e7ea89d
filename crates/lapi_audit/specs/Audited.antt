-- What holds of a run's journal where it is audited, as the text that the command `journal` tells of it.
use Rattle.std.specs.Prelude.{◌≡◌, ℕ, ◌≤◌, ◌↔◌, List, length, reverse, Ok}
use Rattle.lapi_base.specs.declared.script.Script.{Script}
use Rattle.lapi_base.specs.declared.rule.Rules.{Rules}
use Rattle.lapi_base.specs.Input.AuditReading.{read_audit}
use Rattle.lapi_base.specs.Input.AuditRows.{audit_text, most_events}
use Rattle.lapi_base.specs.Input.Reading.{most_input}
use Rattle.lapi_base.specs.Output.JournalText.{journal_text}
use Rattle.lapi_base.specs.Record.Valid.{ValidScript}
use Rattle.lapi_base.specs.Record.Wires.{Run}
use Rattle.lapi_audit.specs.declared.rule.Verdict.{Verdict}
use Rattle.lapi_audit.specs.declared.rule.Verdict.TheVariants as verdicts
use Rattle.lapi_audit.specs.Rules.{IsVerdict}

-- the canonical lines of a script, `journal`, the text of the command `journal`, and `done`
abbrev pub text_of : Script → Run → List ℕ
text_of script r = audit_text script (journal_text r)

-- a journal has no more events than an audit takes
abbrev pub HasFewEvents : Script → Rules → Run → Type 0
HasFewEvents script rules r = ValidScript script → length r.journal ≤ most_events

-- the text is read as that script and that journal, unless it is longer than any input
abbrev pub IsReadBack : Script → Rules → Run → Type 0
IsReadBack script rules r =
    ValidScript script → length (text_of script r) ≤ most_input → read_audit (text_of script r) ≡ Ok (record { script = script; journal = reverse r.journal })

-- and the one verdict on that journal is that it is atomic
abbrev pub IsJudgedAtomic : Script → Rules → Run → Type 0
IsJudgedAtomic script rules r = (verdict : Verdict) → IsVerdict script rules (reverse r.journal) verdict ↔ (verdict ≡ verdicts.Atomic)
