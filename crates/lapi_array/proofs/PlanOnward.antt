-- Reading a plan's text line after line, as a loop does, and what that comes to.
use Rattle.std.proofs.Common.{◌≡◌, ℕ, ◌+◌, ◌≤◌, List, ◌∷◌, length, Bool, true, false, cond, Result, Ok, Err, refl, sym, ◌∙◌, subst}
use Rattle.std.specs.Prelude.{IfOk}
use Rattle.std.proofs.lemmas.Bool.{le-ltb}
use Rattle.lapi_base.specs.declared.input.ReadFault.{ReadFault}
use Rattle.lapi_base.specs.declared.input.ReadFault.TheVariants as answers
use Rattle.lapi_base.specs.declared.input.LineError.TheVariants.{Syntax, Limit}
use Rattle.lapi_base.specs.Input.Lines.{lines_of}
use Rattle.lapi_base.specs.Input.Reading.{Fault, most_input}
use Rattle.lapi_blocks.specs.declared.plan.Plan.{Plan}
use Rattle.lapi_script.specs.declared.fault.LineFault.{LineFault}
use Rattle.lapi_script.specs.declared.fault.LineFault.TheVariants as faults
use Rattle.lapi_script.specs.Gives.{Fails}
use Rattle.lapi_script.specs.ReaderAnswers.{FailsAt}
use Rattle.lapi_array.specs.PlanRows.{IsPlanText}
use Rattle.lapi_array.specs.PlanReading.{PlanState, plan_after, read_plan_from, read_plan}
use Rattle.lapi_array.specs.PlanAnswers.{GivesPlan, PlanFaultIsFirst}
use Rattle.lapi_array.proofs.PlanSound.{plan_sound}
use Rattle.lapi_array.proofs.PlanComplete.{plan_complete}
use Rattle.lapi_array.proofs.PlanFirst.{plan_first_fault}

-- after a line the next are read
pub plan_goes_on : (n : ℕ) (state next : PlanState) (line : List ℕ) (lines more : List (List ℕ)) (all : Result Plan Fault)
    → lines ≡ line ∷ more → plan_after state line ≡ Ok next → read_plan_from n state lines ≡ all → read_plan_from (n + 1) next more ≡ all
plan_goes_on n state next line lines more all first ok so_far =
    let one : read_plan_from n state lines ≡ read_plan_from (n + 1) next more = rw (first, ok) refl in
    sym one ∙ so_far

-- at a fault nothing more is read
pub plan_ends : (n : ℕ) (fault : LineFault) (answer : ReadFault) (state : PlanState) (line : List ℕ) (lines more : List (List ℕ)) (all : Result Plan Fault)
    → lines ≡ line ∷ more → Fails fault (plan_after state line) → FailsAt n fault answer → read_plan_from n state lines ≡ all → GivesPlan (Err answer) all
plan_ends n faults.Memory answer state line lines more all first failed at so_far = rw at tt
plan_ends n (faults.Wrong Syntax) answer state line lines more all first failed at so_far =
    let one : read_plan_from n state lines ≡ Err (Syntax, n) = rw (first, failed) refl in
    rw at (sym so_far ∙ one)
plan_ends n (faults.Wrong (Limit which)) answer state line lines more all first failed at so_far =
    let one : read_plan_from n state lines ≡ Err (Limit which, n) = rw (first, failed) refl in
    rw at (sym so_far ∙ one)

-- ---- what reading all bytes gives

not_refused : (b : Bool) (e : Fault) (r : Result Plan Fault) (plan : Plan) → cond b (Err e) r ≡ Ok plan → r ≡ Ok plan
not_refused true e r plan h = absurd cc
not_refused false e r plan h = h

pub plan_found : (bytes : List ℕ) (r : Result Plan ReadFault) → GivesPlan r (read_plan bytes) → IfOk r (λ plan. IsPlanText plan bytes)
plan_found bytes (Ok plan) gives = plan_sound (lines_of bytes) plan (not_refused _ _ _ plan gives)
plan_found bytes (Err e) gives = tt

pub plan_only : (bytes : List ℕ) (r : Result Plan ReadFault) (plan : Plan) → length bytes ≤ most_input → IsPlanText plan bytes → GivesPlan r (read_plan bytes) → GivesPlan r (Ok plan)
plan_only bytes r plan few reads gives = subst (λ a. GivesPlan r a) (rw (le-ltb _ _ few) (plan_complete (lines_of bytes) plan reads)) gives

pub plan_first : (bytes : List ℕ) (r : Result Plan ReadFault) → length bytes ≤ most_input → GivesPlan r (read_plan bytes) → PlanFaultIsFirst (lines_of bytes) r
plan_first bytes (Ok plan) few gives = tt
plan_first bytes (Err answers.Memory) few gives = tt
plan_first bytes (Err (answers.Syntax l)) few gives = plan_first_fault (lines_of bytes) Syntax l (rw (le-ltb _ _ few) at gives)
plan_first bytes (Err (answers.Limit which l)) few gives = plan_first_fault (lines_of bytes) (Limit which) l (rw (le-ltb _ _ few) at gives)
