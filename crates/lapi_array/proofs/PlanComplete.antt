-- What is spelled as a plan's text within the limits is read.
use Rattle.std.proofs.Common.{◌≡◌, ℕ, ◌+◌, ◌≤◌, ◌<◌, List, [], ◌∷◌, ◌++◌, length, map, refl, sym, ap, ◌∙◌, Bool, true, false, cond, Result, Ok, arith, append_assoc}
use Rattle.std.specs.Prelude.{codes, not, IsTrue}
use Rattle.std.specs.List.{AllByRecursion}
use Rattle.std.proofs.lemmas.List.{append-nil, length-append}
use Rattle.std.proofs.lemmas.Bool.{lt-ltb, le-leb, eq-eqb}
use Rattle.lapi_base.specs.declared.input.LineError.{LineError}
use Rattle.lapi_base.specs.declared.input.Which.TheVariants as which
use Rattle.lapi_base.specs.Input.Lines.{words_of, is_clean, is_skipped, read_words}
use Rattle.lapi_base.specs.Input.Forms.{and_then}
use Rattle.lapi_base.specs.Input.Rows.{IsRow, done_row}
use Rattle.lapi_base.specs.Input.Reading.{is_word}
use Rattle.lapi_blocks.specs.declared.plan.Op.{Op}
use Rattle.lapi_blocks.specs.declared.plan.Op.TheVariants.{Set, Get}
use Rattle.lapi_blocks.specs.declared.plan.Plan.{Plan}
use Rattle.lapi_blocks.specs.Plans.{patch_of, IsWithin, HasValues, ValidPlan}
use Rattle.lapi_text.proofs.Rules.{same_Ok, bound, said}
use Rattle.lapi_text.proofs.Complete.{Spells, one_word, within_ok}
use Rattle.lapi_array.specs.PlanRows.{head_row, grid_row, op_row, plan_rows, IsPlanRead}
use Rattle.lapi_array.specs.PlanReading.{head_form, grid_form, op_line_form, without_ops, PlanState, First, Second, Operations, Finished, checked_grid, has_values, with_op, on_op, plan_step, plan_after, read_plan_from}
use Rattle.lapi_array.proofs.PlanSound.{still_within}
use Rattle.lapi_array.proofs.PlanRules.{head_matches, grid_matches, op_matches}

-- the state after the lines with these words
abbrev plan_steps : PlanState → List (List (List ℕ)) → Result PlanState LineError
plan_steps state [] = Ok state
plan_steps state (words ∷ more) = and_then (plan_step state words) (λ next. plan_steps next more)

reads_all : (l : ℕ) (state : PlanState) (lines : List (List ℕ)) (plan : Plan) → AllByRecursion (λ line. IsTrue (is_clean line)) lines → plan_steps state (read_words lines) ≡ Ok (Finished plan)
    → read_plan_from l state lines ≡ Ok plan
unfolding plan_after
reads_all l state [] plan clean e = rw (same_Ok state (Finished plan) e) refl
reads_all l state (line ∷ lines) plan clean e = at (is_skipped (words_of line)) refl e (λ next. reads_all (l + 1) next lines plan clean.1)
  where
    at : (b : Bool) → is_skipped (words_of line) ≡ b → plan_steps state (cond (not b) (words_of line ∷ read_words lines) (read_words lines)) ≡ Ok (Finished plan)
        → ((next : PlanState) → plan_steps next (read_words lines) ≡ Ok (Finished plan) → read_plan_from (l + 1) next lines ≡ Ok plan) → read_plan_from l state (line ∷ lines) ≡ Ok plan
    at true skipped h rest = rw (clean.0, skipped) (rest state h)
    at false skipped h rest =
        let n = bound (plan_step state (words_of line)) (λ next. plan_steps next (read_words lines)) (Finished plan) h in
        rw (clean.0, skipped, n.1) (rest n.0 n.2)

-- ---- the lines

abbrev sizes : Plan → Plan
sizes plan = without_ops plan.p plan.q plan.height plan.width

grid_ok : (plan : Plan) → ValidPlan plan → checked_grid (sizes plan) ≡ Ok (sizes plan)
grid_ok plan valid =
    rw (le-leb _ _ valid.tasks.0, le-leb _ _ valid.tasks.1, le-leb _ _ valid.height.0, le-leb _ _ valid.height.1, le-leb _ _ valid.width.0, le-leb _ _ valid.width.1) refl

step_head : (words : List (List ℕ)) → IsRow head_row words → plan_step First words ≡ Ok Second
unfolding plan_step
step_head words z = rw (said head_form 1 head_row words head_matches z) refl

step_grid : (plan : Plan) (words : List (List ℕ)) → ValidPlan plan → IsRow (grid_row plan) words → plan_step Second words ≡ Ok (Operations (sizes plan))
unfolding plan_step
step_grid plan words valid z =
    rw (said grid_form (sizes plan) (grid_row plan) words (grid_matches plan.p plan.q plan.height plan.width) z, grid_ok plan valid) refl

values_there : (op : Op) → HasValues op → has_values op ≡ true
unfolding has_values
values_there (Set task row col rows cols values) has = eq-eqb _ _ has.0
values_there (Get task row col rows cols) has = refl

more_words : (op : Op) (words : List (List ℕ)) → IsRow (op_row op) words → is_word (codes "done") words ≡ false
more_words op [] z = refl
more_words (Set task row col rows cols values) (w ∷ []) z = absurd z.1
more_words (Get task row col rows cols) (w ∷ []) z = absurd z.1
more_words op (w ∷ v ∷ words) z = refl

op_ok : (plan : Plan) (op : Op) → IsWithin plan (patch_of op) → HasValues op → length plan.ops < 48 → on_op plan op ≡ Ok (Operations (with_op plan op))
op_ok plan op fits has few =
    let next = Operations (with_op plan op) in
    rw (lt-ltb _ _ fits.task, values_there op has)
    (within_ok _ which.Ops _ next (lt-ltb (length plan.ops) 48 few)
    (within_ok _ which.Patch _ next (rw (le-leb _ _ fits.words.0, le-leb _ _ fits.words.1) refl)
    (within_ok _ which.Range _ next (rw (le-leb _ _ fits.lower, le-leb _ _ fits.right) refl) refl)))

step_op : (plan : Plan) (op : Op) (words : List (List ℕ)) → IsRow (op_row op) words → IsWithin plan (patch_of op) → HasValues op → length plan.ops < 48
    → plan_step (Operations plan) words ≡ Ok (Operations (with_op plan op))
unfolding plan_step
step_op plan op words z fits has few =
    rw (more_words op words z, said op_line_form op (op_row op) words (op_matches op) z) (op_ok plan op fits has few)

step_done : (plan : Plan) (words : List (List ℕ)) → IsRow done_row words → plan_step (Operations plan) words ≡ Ok (Finished plan)
unfolding plan_step
step_done plan words z = rw (one_word (codes "done") words z) refl

-- ---- all lines

abbrev with_ops : Plan → List Op → Plan
with_ops plan ops = record plan { ops = ops }

ops_run : (plan : Plan) (front ops : List Op) (wordss : List (List (List ℕ))) → Spells (map op_row ops ++ done_row ∷ []) wordss
    → AllByRecursion (λ op. IsWithin plan (patch_of op)) ops → AllByRecursion HasValues ops → length front + length ops ≤ 48
    → plan_steps (Operations (with_ops plan front)) wordss ≡ Ok (Finished (with_ops plan (front ++ ops)))
ops_run plan front [] [] z fits has few = absurd z
ops_run plan front [] (words ∷ []) z fits has few =
    rw (step_done (with_ops plan front) words z.0) (ap (λ ops. Ok (Finished (with_ops plan ops))) (sym (append-nil front)))
ops_run plan front [] (words ∷ other ∷ wordss) z fits has few = absurd z.1
ops_run plan front (op ∷ ops) [] z fits has few = absurd z
ops_run plan front (op ∷ ops) (words ∷ wordss) z fits has few =
    let within : IsWithin (with_ops plan front) (patch_of op) = still_within plan front (patch_of op) fits.0 in
    let len : length (front ++ op ∷ []) ≡ length front + 1 = length-append front (op ∷ []) in
    rw (step_op (with_ops plan front) op words z.0 within has.0 (omega (arith, few)))
    (ops_run plan (front ++ op ∷ []) ops wordss z.1 fits.1 has.1 (omega (arith, len, few))
    ∙ ap (λ all. Ok (Finished (with_ops plan all))) (append_assoc front (op ∷ []) ops))

plan_run : (plan : Plan) (wordss : List (List (List ℕ))) → ValidPlan plan → Spells (plan_rows plan) wordss → plan_steps First wordss ≡ Ok (Finished plan)
plan_run plan [] valid z = absurd z
plan_run plan (head ∷ []) valid z = absurd z.1
plan_run plan (head ∷ grid ∷ wordss) valid z =
    rw (step_head head z.0, step_grid plan grid valid z.1.0)
    (ops_run plan [] plan.ops wordss z.1.1 valid.patches valid.values (omega (arith, valid.count)))

-- what is spelled so is read
pub plan_complete : (lines : List (List ℕ)) (plan : Plan) → IsPlanRead plan lines → read_plan_from 1 First lines ≡ Ok plan
plan_complete lines plan r = reads_all 1 First lines plan r.clean (plan_run plan (read_words lines) r.valid r.rows)
