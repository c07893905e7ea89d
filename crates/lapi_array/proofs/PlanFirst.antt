-- The line of a fault of a plan's text is the first up to which the lines begin none.
use Rattle.std.proofs.Common.{◌≡◌, ℕ, suc, ◌+◌, ◌-◌, List, [], ◌∷◌, ◌++◌, length, take, map, refl, sym, ap, ◌∙◌, subst, true, Result, Ok, Err, inl, inr, arith, append_assoc}
use Rattle.std.specs.Prelude.{◌⊎◌, IsTrue}
use Rattle.std.specs.List.{AllZip, AllByRecursion}
use Rattle.std.proofs.lemmas.List.{append-nil, length-append, take_at, take_all}
use Rattle.lapi_base.specs.declared.input.LineError.{LineError}
use Rattle.lapi_base.specs.Input.Lines.{words_of, is_clean, read_words}
use Rattle.lapi_base.specs.Input.FirstFaults.{BeginsBy}
use Rattle.lapi_base.specs.Input.Rows.{Column, IsRow, done_row, row_line}
use Rattle.lapi_base.specs.Input.Reading.{at_line, Fault}
use Rattle.lapi_blocks.specs.declared.plan.Plan.{Plan}
use Rattle.lapi_blocks.specs.Plans.{ValidPlan}
use Rattle.lapi_text.proofs.Sound.{fault_ok}
use Rattle.lapi_text.proofs.Canon.{RowFits, lines_clean, lines_stand, all_append, done_fits}
use Rattle.lapi_text.proofs.First.{zip_append, words_append, up_to}
use Rattle.lapi_array.specs.PlanRows.{head_row, grid_row, plan_rows, IsPlanRead, IsFirstPlanFault}
use Rattle.lapi_array.specs.PlanReading.{without_ops, PlanState, First, Second, Operations, Finished, plan_after, plan_of, read_plan_from}
use Rattle.lapi_array.proofs.PlanSound.{plan_so_far, PlanKeeps, PlanComes, plan_after_says}
use Rattle.lapi_array.proofs.PlanComplete.{plan_complete}

-- rows that lead from a state to a plan's text
record Completes (state : PlanState) : Type 0 where
  plan : Plan
  more : List (List Column)
  whole : plan_rows plan ≡ plan_so_far state ++ more
  valid : ValidPlan plan
  texts : AllByRecursion RowFits more

-- the smallest sizes
abbrev small : Plan
small = without_ops 1 2 1 1

small_valid : ValidPlan small
small_valid = record {
  tasks = (omega arith, omega arith);
  height = (omega arith, omega arith);
  width = (omega arith, omega arith);
  count = omega arith;
  patches = tt;
  values = tt;
}

head_fits : RowFits head_row
head_fits = (omega arith, (refl, (omega arith, tt)))

small_fits : RowFits (grid_row small)
small_fits = (omega arith, (refl, (omega arith, (omega arith, (refl, (omega arith, (omega arith, tt)))))))

-- each state that keeps the limits leads to a plan's text
completes : (state : PlanState) → PlanKeeps state → Completes state
completes First keeps =
    record { plan = small; more = head_row ∷ grid_row small ∷ done_row ∷ []; whole = refl; valid = small_valid; texts = (head_fits, (small_fits, (done_fits, tt))) }
completes Second keeps =
    record { plan = small; more = grid_row small ∷ done_row ∷ []; whole = refl; valid = small_valid; texts = (small_fits, (done_fits, tt)) }
completes (Operations plan) keeps = record { plan = plan; more = done_row ∷ []; whole = refl; valid = keeps; texts = (done_fits, tt) }
completes (Finished plan) keeps = record { plan = plan; more = []; whole = sym (append-nil (plan_rows plan)); valid = keeps; texts = tt }

-- the lines that lead to a state
record Led (front : List (List ℕ)) (state : PlanState) : Type 0 where
  keeps : PlanKeeps state
  clean : AllByRecursion (λ line. IsTrue (is_clean line)) front
  rows : AllZip IsRow (plan_so_far state) (read_words front)

led_begins : (front : List (List ℕ)) (state : PlanState) → Led front state → BeginsBy IsPlanRead front
led_begins front state led =
    let c = completes state led.keeps in
    let rest = map row_line c.more in (
      c.plan,
      rest,
      record {
        clean = all_append _ front rest led.clean (lines_clean c.more c.texts);
        rows = subst (λ ws. AllZip IsRow (plan_rows c.plan) ws) (sym (words_append front rest))
            (subst (λ rs. AllZip IsRow rs (read_words front ++ read_words rest)) (sym c.whole)
            (zip_append IsRow (plan_so_far state) c.more (read_words front) (read_words rest) led.rows (lines_stand c.more c.texts)));
        valid = c.valid;
      },
    )

-- one line more
led_on : (front : List (List ℕ)) (line : List ℕ) (state next : PlanState) → Led front state → plan_after state line ≡ Ok next → Led (front ++ line ∷ []) next
led_on front line state next led e = at (plan_after_says state next line led.keeps e)
  where
    one : is_clean line ≡ true → AllByRecursion (λ line. IsTrue (is_clean line)) (front ++ line ∷ [])
    one clean = all_append _ front (line ∷ []) led.clean (clean, tt)

    at : (is_clean line ≡ true) × PlanComes state next line → Led (front ++ line ∷ []) next
    at (clean, inl h) =
        let same : read_words (front ++ line ∷ []) ≡ read_words front = words_append front (line ∷ []) ∙ rw h.0 (append-nil (read_words front)) in
        record {
          keeps = subst PlanKeeps h.1 led.keeps;
          clean = one clean;
          rows = subst (λ ws. AllZip IsRow (plan_so_far next) ws) (sym same) (subst (λ s. AllZip IsRow (plan_so_far s) (read_words front)) h.1 led.rows);
        }
    at (clean, inr h) =
        let more : read_words (front ++ line ∷ []) ≡ read_words front ++ words_of line ∷ [] = words_append front (line ∷ []) ∙ rw h.0 refl in
        record {
          keeps = h.1.keeps;
          clean = one clean;
          rows = subst (λ ws. AllZip IsRow (plan_so_far next) ws) (sym more)
              (subst (λ rs. AllZip IsRow rs (read_words front ++ words_of line ∷ [])) (sym h.1.rows)
              (zip_append IsRow (plan_so_far state) (h.1.row ∷ []) (read_words front) (words_of line ∷ []) led.rows (h.1.spelled, tt)));
        }

-- ---- where a fault is

-- reading what begins with this front goes on from the state
abbrev Reaches : List (List ℕ) → ℕ → PlanState → Type 0
Reaches front k state = (more : List (List ℕ)) → read_plan_from 1 First (front ++ more) ≡ read_plan_from k state more

-- at a line, the front before which leads to a state
record AtLine (lines : List (List ℕ)) (why : LineError) (l : ℕ) : Type 0 where
  front : List (List ℕ)
  state : PlanState
  line : List ℕ
  others : List (List ℕ)
  whole : front ++ line ∷ others ≡ lines
  here : l ≡ length front + 1
  led : Led front state
  reaches : Reaches front l state
  bad : plan_after state line ≡ Err why

-- or after the last line
record AtEnd (lines : List (List ℕ)) (why : LineError) (l : ℕ) : Type 0 where
  state : PlanState
  here : l ≡ length lines + 1
  led : Led lines state
  reaches : Reaches lines l state
  bad : plan_of l state ≡ Err (why, l)

-- the line of a fault
abbrev line_of_fault : Result Plan Fault → ℕ
line_of_fault (Ok plan) = 0
line_of_fault (Err e) = e.1

ended_at : (k : ℕ) (state : PlanState) (why : LineError) (l : ℕ) → plan_of k state ≡ Err (why, l) → k ≡ l
ended_at k First why l e = ap line_of_fault e
ended_at k Second why l e = ap line_of_fault e
ended_at k (Operations plan) why l e = ap line_of_fault e
ended_at k (Finished plan) why l e = absurd (fault_ok (why, l) plan (sym e))

end_found : (front : List (List ℕ)) (k : ℕ) (state : PlanState) (why : LineError) (l : ℕ) → k ≡ length front + 1 → Led front state → Reaches front k state → plan_of k state ≡ Err (why, l) → k ≡ l → AtEnd front why l
end_found front k state why l here led reaches bad is = record {
  state = state;
  here = sym is ∙ here;
  led = led;
  reaches = subst (λ n. Reaches front n state) is reaches;
  bad = subst (λ n. plan_of n state ≡ Err (why, l)) is bad;
}

same_fault : (a b : Fault) → ◌≡◌ {A = Result Plan Fault} (Err a) (Err b) → a ≡ b
same_fault a b e = cc

line_found : (front : List (List ℕ)) (k : ℕ) (state : PlanState) (line : List ℕ) (others : List (List ℕ)) (v why : LineError) (l : ℕ) → k ≡ length front + 1 → Led front state → Reaches front k state
    → plan_after state line ≡ Err v → ◌≡◌ {A = Fault} (v, k) (why, l) → AtLine (front ++ line ∷ others) why l
line_found front k state line others v why l here led reaches bad is =
    let at : k ≡ l = ap (λ (f : Fault). f.1) is in record {
      front = front;
      state = state;
      line = line;
      others = others;
      whole = refl;
      here = sym at ∙ here;
      led = led;
      reaches = subst (λ n. Reaches front n state) at reaches;
      bad = bad ∙ ap (λ (f : Fault). Err f.0) is;
    }

walk : (lines front : List (List ℕ)) (k : ℕ) (state : PlanState) (why : LineError) (l : ℕ) → k ≡ length front + 1 → Led front state → Reaches front k state → read_plan_from k state lines ≡ Err (why, l)
    → AtLine (front ++ lines) why l ⊎ AtEnd (front ++ lines) why l
walk [] front k state why l here led reaches bad =
    inr (subst (λ ls. AtEnd ls why l) (sym (append-nil front)) (end_found front k state why l here led reaches bad (ended_at k state why l bad)))
walk (line ∷ lines) front k state why l here led reaches bad =
    at (plan_after state line) refl bad (λ next led2 reaches2 bad2. walk lines (front ++ line ∷ []) (k + 1) next why l (omega (arith, here, length-append front (line ∷ []))) led2 reaches2 bad2)
  where
    Found : List (List ℕ) → Type 0
    Found ls = AtLine ls why l ⊎ AtEnd ls why l

    at : (r : Result PlanState LineError) → plan_after state line ≡ r → at_line k r (λ next. read_plan_from (k + 1) next lines) ≡ Err (why, l)
        → ((next : PlanState) → Led (front ++ line ∷ []) next → Reaches (front ++ line ∷ []) (k + 1) next → read_plan_from (k + 1) next lines ≡ Err (why, l) → Found ((front ++ line ∷ []) ++ lines)) → Found (front ++ line ∷ lines)
    at (Ok next) is e rest =
        subst Found (append_assoc front (line ∷ []) lines)
        (rest next (led_on front line state next led is) (λ more. ap (read_plan_from 1 First) (append_assoc front (line ∷ []) more) ∙ reaches (line ∷ more) ∙ rw is refl) e)
    at (Err v) is e rest = inl (line_found front k state line lines v why l here led reaches is (same_fault (v, k) (why, l) e))

-- ---- it is the first

line_first : (lines : List (List ℕ)) (why : LineError) (l : ℕ) → AtLine lines why l → IsFirstPlanFault lines l
line_first lines why l f = subst (λ ls. IsFirstPlanFault ls l) f.whole first
  where
    -- whatever follows the line, it is faulty
    never : (more : List (List ℕ)) (plan : Plan) → IsPlanRead plan (f.front ++ f.line ∷ more) → ⊥
    never more plan r =
        fault_ok (why, l) plan (sym (f.reaches (f.line ∷ more) ∙ rw f.bad refl) ∙ plan_complete (f.front ++ f.line ∷ more) plan r)

    first : IsFirstPlanFault (f.front ++ f.line ∷ f.others) l
    first =
        let here = f.here in
        let len : length (f.front ++ f.line ∷ f.others) ≡ length f.front + suc (length f.others) = length-append f.front (f.line ∷ f.others) in
        let before : take (l - 1) (f.front ++ f.line ∷ f.others) ≡ f.front = take_at f.front (f.line ∷ f.others) (l - 1) (omega (arith, here)) in (
          omega (arith, here),
          omega (arith, here, len),
          subst (BeginsBy IsPlanRead) (sym before) (led_begins f.front f.state f.led),
          λ within begins.
              let b = subst (BeginsBy IsPlanRead) (up_to f.front f.line f.others l here) begins in
              never b.1 b.0 (subst (λ ls. IsPlanRead b.0 ls) (append_assoc f.front (f.line ∷ []) b.1) b.2),
          λ plan r. never f.others plan r,
        )

end_first : (lines : List (List ℕ)) (why : LineError) (l : ℕ) → AtEnd lines why l → IsFirstPlanFault lines l
end_first lines why l f =
    let here = f.here in
    let whole : take (l - 1) lines ≡ lines = take_all (l - 1) lines (omega (arith, here)) in
    let bad : read_plan_from 1 First lines ≡ Err (why, l) = ap (read_plan_from 1 First) (sym (append-nil lines)) ∙ f.reaches [] ∙ f.bad in (
      omega (arith, here),
      omega (arith, here),
      subst (BeginsBy IsPlanRead) (sym whole) (led_begins lines f.state f.led),
      λ within begins. absurd (omega (arith, within, here)),
      λ plan r. fault_ok (why, l) plan (sym bad ∙ plan_complete lines plan r),
    )

-- the line of the fault is the first up to which the lines begin no plan's text
pub plan_first_fault : (lines : List (List ℕ)) (why : LineError) (l : ℕ) → read_plan_from 1 First lines ≡ Err (why, l) → IsFirstPlanFault lines l
plan_first_fault lines why l bad = at (walk lines [] 1 First why l refl (record { keeps = tt; clean = tt; rows = tt }) (λ more. refl) bad)
  where
    at : AtLine lines why l ⊎ AtEnd lines why l → IsFirstPlanFault lines l
    at (inl f) = line_first lines why l f
    at (inr f) = end_first lines why l f
