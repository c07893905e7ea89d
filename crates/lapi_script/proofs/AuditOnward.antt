-- Reading an audit's text line after line, as a loop does.
use Rattle.std.proofs.Common.{◌≡◌, ℕ, ◌+◌, List, [], ◌∷◌, true, Result, Ok, Err, refl, sym, ◌∙◌, subst}
use Rattle.std.specs.Prelude.{IfOk, codes}
use Rattle.lapi_base.specs.declared.audit_input.AuditInput.{AuditInput}
use Rattle.lapi_base.specs.declared.input.ReadFault.{ReadFault}
use Rattle.lapi_base.specs.declared.input.ReadFault.TheVariants as answers
use Rattle.lapi_base.specs.declared.input.LineError.{LineError}
use Rattle.lapi_base.specs.declared.input.LineError.TheVariants.{Syntax, Limit}
use Rattle.lapi_base.specs.Input.Lines.{lines_of, words_of, is_clean, is_remark}
use Rattle.lapi_base.specs.Input.Reading.{Fault}
use Rattle.lapi_base.specs.Input.AuditRows.{IsAuditText, IsFirstAuditFault}
use Rattle.lapi_base.specs.Input.AuditReading.{AuditState, audit_after, read_audit_from, read_audit}
use Rattle.lapi_script.specs.declared.fault.LineFault.{LineFault}
use Rattle.lapi_script.specs.declared.fault.LineFault.TheVariants as faults
use Rattle.lapi_script.specs.Gives.{Fails}
use Rattle.lapi_script.specs.Left.{IsBehindRemark}
use Rattle.lapi_script.specs.ReaderAnswers.{GivesAudit, AuditFaultIsFirst, FailsAt}
use Rattle.lapi_script.proofs.FirstWords.{remark_skipped}

pub schedule_words : words_of (codes "schedule") ≡ codes "schedule" ∷ []
schedule_words = refl

-- after a line the next are read
pub audit_goes_on : (n : ℕ) (state next : AuditState) (line : List ℕ) (lines more : List (List ℕ)) (all : Result AuditInput Fault)
    → lines ≡ line ∷ more → audit_after state line ≡ Ok next → read_audit_from n state lines ≡ all → read_audit_from (n + 1) next more ≡ all
audit_goes_on n state next line lines more all first ok so_far =
    let one : read_audit_from n state lines ≡ read_audit_from (n + 1) next more = rw (first, ok) refl in
    sym one ∙ so_far

-- a remark adds nothing
audit_remark_read : (state : AuditState) (line : List ℕ) → is_clean line ≡ true → is_remark line ≡ true → audit_after state line ≡ Ok state
unfolding audit_after
audit_remark_read state line clean is = rw (clean, remark_skipped line is) refl

pub audit_behind_goes_on : (n : ℕ) (state : AuditState) (bytes behind : List ℕ) (all : Result AuditInput Fault) → IsBehindRemark bytes behind → read_audit_from n state (lines_of bytes) ≡ all
    → read_audit_from (n + 1) state (lines_of behind) ≡ all
audit_behind_goes_on n state bytes behind all (line, lines, clean, is) so_far =
    audit_goes_on n state state line (lines_of bytes) (lines_of behind) all lines (audit_remark_read state line clean is) so_far

-- at a fault nothing more is read
pub audit_ends : (n : ℕ) (fault : LineFault) (answer : ReadFault) (state : AuditState) (line : List ℕ) (lines more : List (List ℕ)) (all : Result AuditInput Fault)
    → lines ≡ line ∷ more → Fails fault (audit_after state line) → FailsAt n fault answer → read_audit_from n state lines ≡ all → GivesAudit (Err answer) all
audit_ends n faults.Memory answer state line lines more all first failed at so_far = rw at tt
audit_ends n (faults.Wrong Syntax) answer state line lines more all first failed at so_far =
    let one : read_audit_from n state lines ≡ Err (Syntax, n) = rw (first, failed) refl in
    rw at (sym so_far ∙ one)
audit_ends n (faults.Wrong (Limit which)) answer state line lines more all first failed at so_far =
    let one : read_audit_from n state lines ≡ Err (Limit which, n) = rw (first, failed) refl in
    rw at (sym so_far ∙ one)

-- what reading gives is spelled so
pub audit_gives_found : (bytes : List ℕ) (r : Result AuditInput ReadFault) → ((x : AuditInput) → read_audit bytes ≡ Ok x → IsAuditText x bytes) → GivesAudit r (read_audit bytes) → IfOk r (λ x. IsAuditText x bytes)
audit_gives_found bytes (Ok x) law gives = law x gives
audit_gives_found bytes (Err e) law gives = tt

pub audit_gives_only : (x : AuditInput) (bytes : List ℕ) (r : Result AuditInput ReadFault) → read_audit bytes ≡ Ok x → GivesAudit r (read_audit bytes) → GivesAudit r (Ok x)
audit_gives_only x bytes r is gives = subst (λ a. GivesAudit r a) is gives

pub audit_gives_first : (bytes : List ℕ) (r : Result AuditInput ReadFault) → ((why : LineError) (l : ℕ) → read_audit bytes ≡ Err (why, l) → IsFirstAuditFault (lines_of bytes) l) → GivesAudit r (read_audit bytes)
    → AuditFaultIsFirst (lines_of bytes) r
audit_gives_first bytes (Ok x) law gives = tt
audit_gives_first bytes (Err answers.Memory) law gives = tt
audit_gives_first bytes (Err (answers.Syntax l)) law gives = law Syntax l gives
audit_gives_first bytes (Err (answers.Limit which l)) law gives = law (Limit which) l gives
