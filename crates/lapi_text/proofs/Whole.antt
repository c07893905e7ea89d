-- Reading all bytes gives what they spell, and that alone.
use Rattle.std.proofs.Common.{◌≡◌, ℕ, ◌≤◌, ◌<◌, List, length, Bool, true, false, cond, Result, Ok, Err, refl, sym, ◌∙◌}
use Rattle.std.proofs.lemmas.Bool.{le-ltb, lt-ltb}
use Rattle.lapi_base.specs.declared.input.Which.TheVariants as which
use Rattle.lapi_base.specs.declared.input.LineError.{LineError}
use Rattle.lapi_base.specs.declared.input.LineError.TheVariants.{Limit}
use Rattle.lapi_base.specs.declared.input.Input.{Input}
use Rattle.lapi_base.specs.Input.Lines.{lines_of}
use Rattle.lapi_base.specs.Record.Valid.{ValidScript, ValidSchedule}
use Rattle.lapi_base.specs.Packet.Spelling.{spells_packet}
use Rattle.lapi_base.specs.Input.Rows.{IsInputText, IsFirstFault, canon}
use Rattle.lapi_base.specs.Input.Faults.{IsKind}
use Rattle.lapi_base.specs.Input.Reading.{read, Fault, most_input}
use Rattle.lapi_text.proofs.Sound.{sound}
use Rattle.lapi_text.proofs.Complete.{complete}
use Rattle.lapi_text.proofs.First.{first_fault}
use Rattle.lapi_text.proofs.FaultKinds.{fault_kind}
use Rattle.lapi_text.proofs.Canon.{canon_reads}

not_refused : (b : Bool) (e : Fault) (r : Result Input Fault) (x : Input) → cond b (Err e) r ≡ Ok x → r ≡ Ok x
not_refused true e r x h = absurd cc
not_refused false e r x h = h

-- what is read is spelled so
pub read_found : (bytes : List ℕ) (x : Input) → read bytes ≡ Ok x → IsInputText x bytes
read_found bytes x e = sound (lines_of bytes) x (not_refused _ _ _ x e)

-- what is spelled so is read
pub read_only : (bytes : List ℕ) (x : Input) → length bytes ≤ most_input → IsInputText x bytes → read bytes ≡ Ok x
read_only bytes x few r = rw (le-ltb _ _ few) (complete (lines_of bytes) x r)

same_input : (x y : Input) → ◌≡◌ {A = Result Input Fault} (Ok x) (Ok y) → x ≡ y
same_input x y e = cc

-- bytes spell one input
pub read_one : (bytes : List ℕ) (x y : Input) → IsInputText x bytes → IsInputText y bytes → x ≡ y
read_one bytes x y r q = same_input x y (sym (complete (lines_of bytes) x r) ∙ complete (lines_of bytes) y q)

-- the line of a fault is the first up to which the lines begin no input
pub read_first : (bytes : List ℕ) (why : LineError) (l : ℕ) → length bytes ≤ most_input → read bytes ≡ Err (why, l) → IsFirstFault (lines_of bytes) l
read_first bytes why l few e = first_fault (lines_of bytes) why l (rw (le-ltb _ _ few) at e)

-- and its kind is that of the lines up to there
pub read_kind : (bytes : List ℕ) (why : LineError) (l : ℕ) → length bytes ≤ most_input → read bytes ≡ Err (why, l) → IsKind (lines_of bytes) why l
read_kind bytes why l few e = fault_kind (lines_of bytes) why l (rw (le-ltb _ _ few) at e)

-- too many bytes are judged before all lines
pub read_long : (bytes : List ℕ) → most_input < length bytes → read bytes ≡ Err (Limit which.Input, 0)
read_long bytes many = rw (lt-ltb _ _ many) refl

-- the canonical text is the input's
pub written_reads : (x : Input) → ValidScript x.script → ValidSchedule x.script spells_packet x.schedule → IsInputText x (canon x)
written_reads x script schedule = canon_reads x (record { script = script; schedule = schedule })

-- and is read again
pub round_trip : (x : Input) → ValidScript x.script → ValidSchedule x.script spells_packet x.schedule → length (canon x) ≤ most_input → read (canon x) ≡ Ok x
round_trip x script schedule few = read_only (canon x) x few (written_reads x script schedule)
