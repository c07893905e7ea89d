-- Plans that are valid, and plans that are not, each by one quantity alone.
use Rattle.std.proofs.Common.{ℕ, zero, suc, List, [], ◌∷◌, refl, arith}
use Rattle.std.specs.List.{AllByRecursion}
use Rattle.lapi_blocks.specs.declared.plan.Op.{Op}
use Rattle.lapi_blocks.specs.declared.plan.Op.TheVariants.{Set, Get}
use Rattle.lapi_blocks.specs.declared.plan.Plan.{Plan}
use Rattle.lapi_blocks.specs.Plans.{patch_of, IsWithin, HasValues, ValidPlan}
use Rattle.lapi_blocks.proofs.SmallPlan.{small}

small-valid : ValidPlan small
unfolding small
small-valid = record {
  tasks = (omega arith, omega arith);
  height = (omega arith, omega arith);
  width = (omega arith, omega arith);
  count = omega arith;
  patches = (
    record { task = omega arith; words = (omega arith, omega arith); lower = omega arith; right = omega arith },
    (record { task = omega arith; words = (omega arith, omega arith); lower = omega arith; right = omega arith }, tt),
  );
  values = (
    (refl, (omega arith, (omega arith, (omega arith, (omega arith, (omega arith, (omega arith, (omega arith, (omega arith, (omega arith, (omega arith, (omega arith, (omega arith, (omega arith, (omega arith, (omega arith, (omega arith, tt))))))))))))))))),
    (tt, tt),
  );
}

-- so many gets of this patch
gets : (n : ℕ) → (task row col rows cols : ℕ) → List Op
gets zero t r c n m = []
gets (suc k) t r c n m = Get t r c n m ∷ gets k t r c n m

abbrev plan_of : (p q height width : ℕ) → List Op → Plan
plan_of p q h w ops = record { p = p; q = q; height = h; width = w; ops = ops }

-- the largest: eight tasks with blocks of 16 by 256 words, and 48 gets of the last 16 by 16 words
abbrev largest : Plan
largest = plan_of 2 4 16 256 (gets 48 7 16 1008 16 16)

largest-valid : ValidPlan largest
unfolding gets
largest-valid = record {
  tasks = (omega arith, omega arith);
  height = (omega arith, omega arith);
  width = (omega arith, omega arith);
  count = omega arith;
  patches = within 48;
  values = no-values 48;
}
  where
    within : (n : ℕ) → AllByRecursion (λ op. IsWithin largest (patch_of op)) (gets n 7 16 1008 16 16)
    within zero = tt
    within (suc n) = (record { task = omega arith; words = (omega arith, omega arith); lower = omega arith; right = omega arith }, within n)

    no-values : (n : ℕ) → AllByRecursion HasValues (gets n 7 16 1008 16 16)
    no-values zero = tt
    no-values (suc n) = (tt, no-values n)

-- one task is too few, and nine are too many
too-few : ValidPlan (plan_of 1 1 2 2 []) → ⊥
too-few v = let h = v.tasks.0 in absurd (omega arith)

too-many : ValidPlan (plan_of 3 3 2 2 []) → ⊥
too-many v = let h = v.tasks.1 in absurd (omega arith)

-- blocks have 1 to 16 rows and 1 to 256 columns
too-low : ValidPlan (plan_of 1 2 0 2 []) → ⊥
too-low v = let h = v.height.0 in absurd (omega arith)

too-high : ValidPlan (plan_of 1 2 17 2 []) → ⊥
too-high v = let h = v.height.1 in absurd (omega arith)

too-narrow : ValidPlan (plan_of 1 2 2 0 []) → ⊥
too-narrow v = let h = v.width.0 in absurd (omega arith)

too-wide : ValidPlan (plan_of 1 2 2 257 []) → ⊥
too-wide v = let h = v.width.1 in absurd (omega arith)

-- 49 operations are too many
too-long : ValidPlan (plan_of 1 2 2 2 (gets 49 0 0 0 1 1)) → ⊥
unfolding gets
too-long v = let h = v.count in absurd (omega arith)

-- a patch is of a task that there is, has 1 to 256 words, and ends within the array
no-task : ValidPlan (plan_of 1 2 2 2 (gets 1 2 0 0 1 1)) → ⊥
unfolding gets
no-task v = let h = v.patches.0.task in absurd (omega arith)

no-words : ValidPlan (plan_of 1 2 2 2 (gets 1 0 0 0 0 1)) → ⊥
unfolding gets
no-words v = let h = v.patches.0.words.0 in absurd (omega arith)

many-words : ValidPlan (plan_of 1 2 2 256 (gets 1 0 0 0 1 257)) → ⊥
unfolding gets
many-words v = let h = v.patches.0.words.1 in absurd (omega arith)

past-bottom : ValidPlan (plan_of 1 2 2 2 (gets 1 0 1 0 2 1)) → ⊥
unfolding gets
past-bottom v = let h = v.patches.0.lower in absurd (omega arith)

past-right : ValidPlan (plan_of 1 2 2 2 (gets 1 0 0 3 1 2)) → ⊥
unfolding gets
past-right v = let h = v.patches.0.right in absurd (omega arith)

-- a set of two words with seven bytes
few-values : ValidPlan (plan_of 1 2 2 2 (Set 0 0 0 1 2 (1 ∷ 2 ∷ 3 ∷ 4 ∷ 5 ∷ 6 ∷ 7 ∷ []) ∷ [])) → ⊥
few-values v = let h = v.values.0.0 in absurd (omega arith)
