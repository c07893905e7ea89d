-- Reading all bytes as an audit's text gives what they spell, and that alone.
use Rattle.std.proofs.Common.{◌≡◌, ℕ, ◌≤◌, ◌<◌, List, length, Bool, true, false, cond, Result, Ok, Err, refl}
use Rattle.std.proofs.lemmas.Bool.{le-ltb, lt-ltb}
use Rattle.lapi_base.specs.declared.input.Which.TheVariants as which
use Rattle.lapi_base.specs.declared.input.LineError.{LineError}
use Rattle.lapi_base.specs.declared.input.LineError.TheVariants.{Limit}
use Rattle.lapi_base.specs.declared.audit_input.AuditInput.{AuditInput}
use Rattle.lapi_base.specs.Input.Lines.{lines_of}
use Rattle.lapi_base.specs.Input.Reading.{Fault, most_input}
use Rattle.lapi_base.specs.Input.AuditRows.{IsAuditText, IsFirstAuditFault}
use Rattle.lapi_base.specs.Input.AuditReading.{read_audit}
use Rattle.lapi_text.proofs.AuditSound.{audit_sound}
use Rattle.lapi_text.proofs.AuditComplete.{audit_complete}
use Rattle.lapi_text.proofs.AuditFirst.{audit_first_fault}

not_refused : (b : Bool) (e : Fault) (r : Result AuditInput Fault) (x : AuditInput) → cond b (Err e) r ≡ Ok x → r ≡ Ok x
not_refused true e r x h = absurd cc
not_refused false e r x h = h

-- what is read is spelled so
pub audit_found : (bytes : List ℕ) (x : AuditInput) → read_audit bytes ≡ Ok x → IsAuditText x bytes
audit_found bytes x e = audit_sound (lines_of bytes) x (not_refused _ _ _ x e)

-- what is spelled so is read
pub audit_only : (bytes : List ℕ) (x : AuditInput) → length bytes ≤ most_input → IsAuditText x bytes → read_audit bytes ≡ Ok x
audit_only bytes x few r = rw (le-ltb _ _ few) (audit_complete (lines_of bytes) x r)

-- the line of a fault is the first up to which the lines begin no audit's text
pub audit_first : (bytes : List ℕ) (why : LineError) (l : ℕ) → length bytes ≤ most_input → read_audit bytes ≡ Err (why, l) → IsFirstAuditFault (lines_of bytes) l
audit_first bytes why l few e = audit_first_fault (lines_of bytes) why l (rw (le-ltb _ _ few) at e)

-- too many bytes are judged before all lines
pub audit_long : (bytes : List ℕ) → most_input < length bytes → read_audit bytes ≡ Err (Limit which.Input, 0)
audit_long bytes many = rw (lt-ltb _ _ many) refl
