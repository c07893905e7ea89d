-- The grammar of a plan's text: a head, the sizes of the grid and of its blocks, a line for each operation, and `done`.
-- This is the project's own.
use Rattle.std.specs.Prelude.{ℕ, List, [], ◌∷◌, ◌++◌, map, codes, IsTrue}
use Rattle.std.specs.List.{AllZip, AllByRecursion}
use Rattle.lapi_base.specs.Input.Lines.{lines_of, is_clean, read_words}
use Rattle.lapi_base.specs.Input.FirstFaults.{IsFirstFaultBy}
use Rattle.lapi_base.specs.Input.Rows.{Column, Word, IsRow, number, hex, done_row}
use Rattle.lapi_blocks.specs.declared.plan.Op.{Op}
use Rattle.lapi_blocks.specs.declared.plan.Op.TheVariants.{Set, Get}
use Rattle.lapi_blocks.specs.declared.plan.Plan.{Plan}
use Rattle.lapi_blocks.specs.Plans.{ValidPlan}

-- array 1
abbrev pub head_row : List Column
head_row = Word (codes "array") ∷ number 1 ∷ []

-- grid P Q block H W
abbrev pub grid_row : Plan → List Column
grid_row plan =
    Word (codes "grid") ∷ number plan.p ∷ number plan.q ∷ Word (codes "block") ∷ number plan.height ∷ number plan.width ∷ []

-- set T R C N M HEX, and get T R C N M
abbrev pub op_row : Op → List Column
op_row (Set task row col rows cols values) =
    Word (codes "set") ∷ number task ∷ number row ∷ number col ∷ number rows ∷ number cols ∷ hex values ∷ []
op_row (Get task row col rows cols) =
    Word (codes "get") ∷ number task ∷ number row ∷ number col ∷ number rows ∷ number cols ∷ []

abbrev pub plan_rows : Plan → List (List Column)
plan_rows plan = head_row ∷ grid_row plan ∷ (map op_row plan.ops ++ done_row ∷ [])

-- The lines that aren't skipped have the rows of the plan, which keeps all limits.
pub record IsPlanRead (plan : Plan) (lines : List (List ℕ)) : Type 0 where
  pub clean : AllByRecursion (λ line. IsTrue (is_clean line)) lines
  pub rows : AllZip IsRow (plan_rows plan) (read_words lines)
  pub valid : ValidPlan plan

abbrev pub IsPlanText : Plan → List ℕ → Type 0
IsPlanText plan bytes = IsPlanRead plan (lines_of bytes)

abbrev pub IsFirstPlanFault : List (List ℕ) → ℕ → Type 0
IsFirstPlanFault lines l = IsFirstFaultBy IsPlanRead lines l
