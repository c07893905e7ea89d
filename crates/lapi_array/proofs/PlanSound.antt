-- What is read as a plan's text is spelled so, within the limits.
use Rattle.std.proofs.Common.{◌≡◌, ℕ, ◌+◌, List, [], ◌∷◌, ◌++◌, length, map, refl, sym, ap, ◌∙◌, subst, true, false, Result, Ok, Err, inl, inr, arith, append_assoc, nat_lt}
use Rattle.std.specs.Prelude.{codes, ◌⊎◌, ◌&&◌, IsTrue}
use Rattle.std.specs.List.{AllZip, AllByRecursion}
use Rattle.std.proofs.lemmas.List.{append-nil, map-append, length-append}
use Rattle.std.proofs.lemmas.Bool.{ltb-true, leb-true, eqb-true}
use Rattle.lapi_base.specs.declared.input.LineError.{LineError}
use Rattle.lapi_base.specs.declared.input.LineError.TheVariants.{Syntax}
use Rattle.lapi_base.specs.declared.input.Which.TheVariants as which
use Rattle.lapi_base.specs.Input.Lines.{words_of, is_clean, is_skipped, read_words}
use Rattle.lapi_base.specs.Input.Forms.{run, and_then}
use Rattle.lapi_base.specs.Input.Rows.{Column, IsRow, done_row}
use Rattle.lapi_base.specs.Input.Reading.{within, is_word, at_line, Fault}
use Rattle.lapi_blocks.specs.declared.plan.Op.{Op}
use Rattle.lapi_blocks.specs.declared.plan.Op.TheVariants.{Set, Get}
use Rattle.lapi_blocks.specs.declared.plan.Plan.{Plan}
use Rattle.lapi_blocks.specs.declared.patch.Patch.{Patch}
use Rattle.lapi_blocks.specs.Plans.{patch_of, tasks_of, IsWithin, HasValues, ValidPlan}
use Rattle.lapi_base.proofs.ListLaws.{all-weaker}
use Rattle.lapi_text.proofs.Parts.{chosen}
use Rattle.lapi_text.proofs.Bounds.{both_true, row_fit}
use Rattle.lapi_text.proofs.Rules.{err_ok, same_Ok, bound}
use Rattle.lapi_text.proofs.Sound.{allowed, passed, all_push, is_one_word, fault_ok, same_read}
use Rattle.lapi_array.specs.PlanRows.{head_row, grid_row, op_row, plan_rows, IsPlanRead}
use Rattle.lapi_array.specs.PlanReading.{head_form, grid_form, op_line_form, PlanState, First, Second, Operations, Finished, checked_grid, has_values, has_few_words, is_in_range, with_op, on_op, plan_step, plan_after, plan_of, read_plan_from}
use Rattle.lapi_array.proofs.PlanRules.{head_says, GridSays, grid_says, OpSays, op_says}

-- ---- what a state stands for

-- the rows that led to it
abbrev pub plan_so_far : PlanState → List (List Column)
plan_so_far First = []
plan_so_far Second = head_row ∷ []
plan_so_far (Operations plan) = head_row ∷ grid_row plan ∷ map op_row plan.ops
plan_so_far (Finished plan) = plan_rows plan

-- the limits that it keeps
abbrev pub PlanKeeps : PlanState → Type 0
PlanKeeps First = Unit {0}
PlanKeeps Second = Unit {0}
PlanKeeps (Operations plan) = ValidPlan plan
PlanKeeps (Finished plan) = ValidPlan plan

-- one row more
pub record PlanAdds (state next : PlanState) (words : List (List ℕ)) : Type 0 where
  pub keeps : PlanKeeps next
  pub row : List Column
  pub rows : plan_so_far next ≡ plan_so_far state ++ row ∷ []
  pub spelled : IsRow row words

-- ---- a line

grid_fits : (plan kept : Plan) → plan.ops ≡ [] → checked_grid plan ≡ Ok kept → (plan ≡ kept) × ValidPlan plan
grid_fits plan kept none e =
    let a = allowed _ which.Grid _ kept e in
    let b = allowed _ which.Block _ kept a.1 in
    let tasks = both_true _ _ a.0 in
    let sizes = both_true _ _ b.0 in
    let height = both_true _ _ sizes.0 in
    let width = both_true _ _ sizes.1 in (
      same_Ok plan kept b.1,
      record {
        tasks = (leb-true _ _ tasks.0, leb-true _ _ tasks.1);
        height = (leb-true _ _ height.0, leb-true _ _ height.1);
        width = (leb-true _ _ width.0, leb-true _ _ width.1);
        count = rw none (omega arith);
        patches = rw none tt;
        values = rw none tt;
      },
    )

grid_adds : (plan kept : Plan) (next : PlanState) (words : List (List ℕ)) → GridSays plan words → checked_grid plan ≡ Ok kept → Operations kept ≡ next → PlanAdds Second next words
grid_adds plan kept next words says checked to =
    let fit = grid_fits plan kept says.none checked in
    subst (λ n. PlanAdds Second n words) (ap (λ p. Operations p) fit.0 ∙ to) (record {
      keeps = fit.1;
      row = grid_row plan;
      rows = ap (λ ops. head_row ∷ grid_row plan ∷ map op_row ops) says.none;
      spelled = says.row;
    })

op_values : (op : Op) (words : List (List ℕ)) → OpSays op words → has_values op ≡ true → HasValues op
unfolding has_values
op_values (Set task row col rows cols values) words says e =
    let fit = row_fit (op_row (Set task row col rows cols values)) words says in
    (eqb-true _ _ e, fit.1.1.1.1.1.1.0.0)
op_values (Get task row col rows cols) words says e = tt

op_fits : (plan : Plan) (op : Op) → nat_lt (patch_of op).task (tasks_of plan) ≡ true → has_few_words (patch_of op) ≡ true → is_in_range plan (patch_of op) ≡ true → IsWithin plan (patch_of op)
op_fits plan op task words range =
    let few = both_true _ _ words in
    let within = both_true _ _ range in record {
      task = ltb-true _ _ task;
      words = (leb-true _ _ few.0, leb-true _ _ few.1);
      lower = leb-true _ _ within.0;
      right = leb-true _ _ within.1;
    }

-- which operations a plan has is no matter of where a patch lies
pub still_within : (plan : Plan) (ops : List Op) (p : Patch) → IsWithin plan p → IsWithin (record plan { ops = ops }) p
still_within plan ops p fits = record { task = fits.task; words = fits.words; lower = fits.lower; right = fits.right }

op_adds : (plan : Plan) (next : PlanState) (words : List (List ℕ)) (op : Op) → ValidPlan plan → OpSays op words → on_op plan op ≡ Ok next → PlanAdds (Operations plan) next words
op_adds plan next words op keeps says e =
    let to : Result PlanState LineError = Ok (Operations (with_op plan op)) in
    let range = within (is_in_range plan (patch_of op)) which.Range to in
    let words_few = within (has_few_words (patch_of op)) which.Patch range in
    let p = passed (nat_lt (patch_of op).task (tasks_of plan) && has_values op) (within (nat_lt (length plan.ops) 48) which.Ops words_few) next e in
    let a = allowed (nat_lt (length plan.ops) 48) which.Ops words_few next p.1 in
    let b = allowed (has_few_words (patch_of op)) which.Patch range next a.1 in
    let c = allowed (is_in_range plan (patch_of op)) which.Range to next b.1 in
    let named = both_true _ _ p.0 in
    let len : length (plan.ops ++ op ∷ []) ≡ length plan.ops + 1 = length-append plan.ops (op ∷ []) in
    subst (λ n. PlanAdds (Operations plan) n words) (same_Ok (Operations (with_op plan op)) next c.1) (record {
      keeps = record {
        tasks = keeps.tasks;
        height = keeps.height;
        width = keeps.width;
        count = omega (arith, len, ltb-true _ _ a.0);
        patches = all-weaker (λ o. IsWithin plan (patch_of o)) (λ o. IsWithin (with_op plan op) (patch_of o)) (λ o. still_within plan (plan.ops ++ op ∷ []) (patch_of o)) (plan.ops ++ op ∷ [])
            (all_push (λ o. IsWithin plan (patch_of o)) plan.ops op keeps.patches (op_fits plan op named.0 b.0 c.0));
        values = all_push HasValues plan.ops op keeps.values (op_values op words says named.1);
      };
      row = op_row op;
      rows = ap (λ r. head_row ∷ grid_row plan ∷ r) (map-append op_row plan.ops (op ∷ []));
      spelled = says;
    })

done_adds : (plan : Plan) (words : List (List ℕ)) → ValidPlan plan → is_word (codes "done") words ≡ true → PlanAdds (Operations plan) (Finished plan) words
done_adds plan words keeps e = record {
  keeps = keeps;
  row = done_row;
  rows = refl;
  spelled = rw (is_one_word (codes "done") words e) (refl, tt);
}

-- a line adds its row
plan_step_says : (state next : PlanState) (words : List (List ℕ)) → PlanKeeps state → plan_step state words ≡ Ok next → PlanAdds state next words
unfolding plan_step
plan_step_says First next words keeps e =
    let h = bound (run head_form words) _ next e in
    let p = passed _ _ next h.2 in
    subst (λ n. PlanAdds First n words) (same_Ok _ _ p.1) (record { keeps = tt; row = head_row; rows = refl; spelled = head_says words h.0 h.1 (eqb-true h.0 1 p.0) })
plan_step_says Second next words keeps e =
    let h = bound (run grid_form words) _ next e in
    let c = bound (checked_grid h.0) _ next h.2 in
    grid_adds h.0 c.0 next words (grid_says words h.0 h.1) c.1 (same_Ok _ _ c.2)
plan_step_says (Operations plan) next words keeps e = at (chosen _ _ _ _ e)
  where
    at : ((is_word (codes "done") words ≡ true) × (◌≡◌ {A = Result PlanState LineError} (Ok (Finished plan)) (Ok next)))
        ⊎ ((is_word (codes "done") words ≡ false) × (and_then (run op_line_form words) (on_op plan) ≡ Ok next)) → PlanAdds (Operations plan) next words
    at (inl h) = subst (λ n. PlanAdds (Operations plan) n words) (same_Ok _ _ h.1) (done_adds plan words keeps h.0)
    at (inr h) =
        let o = bound (run op_line_form words) (on_op plan) next h.1 in
        op_adds plan next words o.0 keeps (op_says words o.0 o.1) o.2
plan_step_says (Finished plan) next words keeps e = absurd (err_ok Syntax next e)

-- what a clean line comes to: nothing where it is skipped, and else a row
abbrev pub PlanComes : PlanState → PlanState → List ℕ → Type 0
PlanComes state next line =
    ((is_skipped (words_of line) ≡ true) × (state ≡ next)) ⊎ ((is_skipped (words_of line) ≡ false) × PlanAdds state next (words_of line))

pub plan_after_says : (state next : PlanState) (line : List ℕ) → PlanKeeps state → plan_after state line ≡ Ok next → (is_clean line ≡ true) × PlanComes state next line
unfolding plan_after
plan_after_says state next line keeps e =
    let p = passed _ _ next e in
    (p.0, at (chosen _ _ _ _ p.1))
  where
    at : ((is_skipped (words_of line) ≡ true) × (◌≡◌ {A = Result PlanState LineError} (Ok state) (Ok next)))
        ⊎ ((is_skipped (words_of line) ≡ false) × (plan_step state (words_of line) ≡ Ok next)) → PlanComes state next line
    at (inl h) = inl (h.0, same_Ok _ _ h.1)
    at (inr h) = inr (h.0, plan_step_says state next (words_of line) keeps h.1)

-- ---- all lines from a state on

record PlanGoes (state : PlanState) (plan : Plan) (lines : List (List ℕ)) : Type 0 where
  more : List (List Column)
  whole : plan_rows plan ≡ plan_so_far state ++ more
  clean : AllByRecursion (λ line. IsTrue (is_clean line)) lines
  spelled : AllZip IsRow more (read_words lines)
  valid : ValidPlan plan

at_the_end : (l : ℕ) (state : PlanState) (plan : Plan) → PlanKeeps state → plan_of l state ≡ Ok plan → PlanGoes state plan []
at_the_end l First plan keeps e = absurd (fault_ok _ plan e)
at_the_end l Second plan keeps e = absurd (fault_ok _ plan e)
at_the_end l (Operations so_far) plan keeps e = absurd (fault_ok _ plan e)
at_the_end l (Finished read) plan keeps e =
    subst (λ p. PlanGoes (Finished read) p []) (same_read read plan e) (record { more = []; whole = sym (append-nil (plan_rows read)); clean = tt; spelled = tt; valid = keeps })

line_ok : (l : ℕ) (r : Result PlanState LineError) (f : PlanState → Result Plan Fault) (plan : Plan) → at_line l r f ≡ Ok plan → (next : PlanState) × (r ≡ Ok next) × (f next ≡ Ok plan)
line_ok l (Ok next) f plan e = (next, refl, e)
line_ok l (Err w) f plan e = absurd (fault_ok _ plan e)

lines_say : (l : ℕ) (state : PlanState) (lines : List (List ℕ)) (plan : Plan) → PlanKeeps state → read_plan_from l state lines ≡ Ok plan → PlanGoes state plan lines
lines_say l state [] plan keeps e = at_the_end l state plan keeps e
lines_say l state (line ∷ lines) plan keeps e =
    let n = line_ok l (plan_after state line) _ plan e in
    at n.0 (plan_after_says state n.0 line keeps n.1) (λ k. lines_say (l + 1) n.0 lines plan k n.2)
  where
    at : (next : PlanState) → (is_clean line ≡ true) × PlanComes state next line → (PlanKeeps next → PlanGoes next plan lines) → PlanGoes state plan (line ∷ lines)
    at next (clean, inl h) rest =
        let g = subst (λ s. PlanGoes s plan lines) (sym h.1) (rest (subst PlanKeeps h.1 keeps)) in
        record { more = g.more; whole = g.whole; clean = (clean, g.clean); spelled = rw h.0 g.spelled; valid = g.valid }
    at next (clean, inr h) rest =
        let g = rest h.1.keeps in record {
          more = h.1.row ∷ g.more;
          whole = g.whole ∙ ap (λ r. r ++ g.more) h.1.rows ∙ append_assoc (plan_so_far state) (h.1.row ∷ []) g.more;
          clean = (clean, g.clean);
          spelled = rw h.0 (h.1.spelled, g.spelled);
          valid = g.valid;
        }

-- what is read is spelled so
pub plan_sound : (lines : List (List ℕ)) (plan : Plan) → read_plan_from 1 First lines ≡ Ok plan → IsPlanRead plan lines
plan_sound lines plan e =
    let g = lines_say 1 First lines plan tt e in
    record { clean = g.clean; rows = subst (λ rs. AllZip IsRow rs (read_words lines)) (sym g.whole) g.spelled; valid = g.valid }
