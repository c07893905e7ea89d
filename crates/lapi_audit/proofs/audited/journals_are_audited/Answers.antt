use Rattle.std.proofs.Common.{◌≤◌, length, reverse, sym, subst, arith}
use Rattle.std.proofs.lemmas.List.{reverse-reverse, length-reverse}
use Rattle.lapi_base.specs.declared.event.Event.{Event}
use Rattle.lapi_base.specs.Input.AuditRows.{most_events}
use Rattle.lapi_base.specs.Output.JournalText.{journal_text}
use Rattle.lapi_base.specs.Record.Acts.{run_of}
use Rattle.lapi_base.specs.Record.Atomic.{Atomic}
use Rattle.lapi_audit.specs.Audited.{text_of}
use Rattle.lapi_audit.specs.Rules.{IsVerdict}
use Rattle.lapi_audit.proofs.AuditedLaws.{there-in-time, one-verdict}
use Rattle.lapi_audit.proofs.EventCounts.{few-events}
use Rattle.lapi_audit.proofs.audited.journals_are_audited.Goals as goal

pub returns-clause-few : goal.returns-clause-few
returns-clause-few c = λ script rules spells size refusal acts v valid.
    let few = few-events script rules valid (run_of script rules size refusal acts).journal (c.journal_is_atomic.ensures.newest_first script rules spells size refusal acts v) in
    omega arith

pub returns-clause-read : goal.returns-clause-read
unfolding journal_text
returns-clause-read c = λ script rules spells size refusal acts v valid short.
    let r = run_of script rules size refusal acts in
    let J = r.journal in
    let h = c.journal_is_atomic.ensures.newest_first script rules spells size refusal acts v in
    let few = few-events script rules valid J h in
    let same = length-reverse {A = Event} J in
    let room : length (reverse J) ≤ most_events = omega arith in
    c.audit_text_laws.ensures.only (text_of script r) (record { script = script; journal = reverse J }) short
    (c.audit_text_laws.ensures.written script rules (reverse J) valid room (there-in-time script rules J h))

pub returns-clause-atomic : goal.returns-clause-atomic
returns-clause-atomic c = λ script rules spells size refusal acts v verdict.
    let J = (run_of script rules size refusal acts).journal in
    let h = subst (Atomic script rules) (sym (reverse-reverse J)) (c.journal_is_atomic.ensures.newest_first script rules spells size refusal acts v) in
    (λ is. one-verdict script rules (reverse J) h verdict is, λ is. subst (IsVerdict script rules (reverse J)) (sym is) h)
