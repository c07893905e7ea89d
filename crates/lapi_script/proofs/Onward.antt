-- Reading line after line, as a loop does.
use Rattle.std.proofs.Common.{◌≡◌, ℕ, ◌+◌, List, ◌∷◌, true, Result, Ok, Err, refl, sym, ◌∙◌, subst}
use Rattle.std.specs.Prelude.{IfOk}
use Rattle.lapi_base.specs.declared.input.Input.{Input}
use Rattle.lapi_base.specs.declared.input.ReadFault.{ReadFault}
use Rattle.lapi_base.specs.declared.input.ReadFault.TheVariants as answers
use Rattle.lapi_base.specs.declared.input.LineError.{LineError}
use Rattle.lapi_base.specs.declared.input.LineError.TheVariants.{Syntax, Limit}
use Rattle.lapi_base.specs.Input.Lines.{lines_of, is_clean, is_remark}
use Rattle.lapi_base.specs.Input.Rows.{IsInputText, IsFirstFault}
use Rattle.lapi_base.specs.Input.Reading.{State, Fault, after, read_from, read}
use Rattle.lapi_script.specs.declared.fault.LineFault.{LineFault}
use Rattle.lapi_script.specs.declared.fault.LineFault.TheVariants as faults
use Rattle.lapi_script.specs.Gives.{Fails}
use Rattle.lapi_script.specs.Left.{IsBehindRemark}
use Rattle.lapi_script.specs.ReaderAnswers.{GivesInput, FaultIsFirst, FailsAt}
use Rattle.lapi_script.proofs.FirstWords.{remark_skipped}

-- after a line the next are read
pub goes_on : (n : ℕ) (state next : State) (line : List ℕ) (lines more : List (List ℕ)) (all : Result Input Fault)
    → lines ≡ line ∷ more → after state line ≡ Ok next → read_from n state lines ≡ all → read_from (n + 1) next more ≡ all
goes_on n state next line lines more all first ok so_far =
    let one : read_from n state lines ≡ read_from (n + 1) next more = rw (first, ok) refl in
    sym one ∙ so_far

-- a remark adds nothing
remark_read : (state : State) (line : List ℕ) → is_clean line ≡ true → is_remark line ≡ true → after state line ≡ Ok state
unfolding after
remark_read state line clean is = rw (clean, remark_skipped line is) refl

pub behind_goes_on : (n : ℕ) (state : State) (bytes behind : List ℕ) (all : Result Input Fault) → IsBehindRemark bytes behind → read_from n state (lines_of bytes) ≡ all
    → read_from (n + 1) state (lines_of behind) ≡ all
behind_goes_on n state bytes behind all (line, lines, clean, is) so_far =
    goes_on n state state line (lines_of bytes) (lines_of behind) all lines (remark_read state line clean is) so_far

-- at a fault nothing more is read
pub ends : (n : ℕ) (fault : LineFault) (answer : ReadFault) (state : State) (line : List ℕ) (lines more : List (List ℕ)) (all : Result Input Fault)
    → lines ≡ line ∷ more → Fails fault (after state line) → FailsAt n fault answer → read_from n state lines ≡ all → GivesInput (Err answer) all
ends n faults.Memory answer state line lines more all first failed at so_far = rw at tt
ends n (faults.Wrong Syntax) answer state line lines more all first failed at so_far =
    let one : read_from n state lines ≡ Err (Syntax, n) = rw (first, failed) refl in
    rw at (sym so_far ∙ one)
ends n (faults.Wrong (Limit which)) answer state line lines more all first failed at so_far =
    let one : read_from n state lines ≡ Err (Limit which, n) = rw (first, failed) refl in
    rw at (sym so_far ∙ one)

-- what reading gives is spelled so
pub gives_found : (bytes : List ℕ) (r : Result Input ReadFault) → ((x : Input) → read bytes ≡ Ok x → IsInputText x bytes) → GivesInput r (read bytes) → IfOk r (λ x. IsInputText x bytes)
gives_found bytes (Ok x) law gives = law x gives
gives_found bytes (Err e) law gives = tt

pub gives_only : (x : Input) (bytes : List ℕ) (r : Result Input ReadFault) → read bytes ≡ Ok x → GivesInput r (read bytes) → GivesInput r (Ok x)
gives_only x bytes r is gives = subst (λ a. GivesInput r a) is gives

pub gives_first : (bytes : List ℕ) (r : Result Input ReadFault) → ((why : LineError) (l : ℕ) → read bytes ≡ Err (why, l) → IsFirstFault (lines_of bytes) l) → GivesInput r (read bytes)
    → FaultIsFirst (lines_of bytes) r
gives_first bytes (Ok x) law gives = tt
gives_first bytes (Err answers.Memory) law gives = tt
gives_first bytes (Err (answers.Syntax l)) law gives = law Syntax l gives
gives_first bytes (Err (answers.Limit which l)) law gives = law (Limit which) l gives
