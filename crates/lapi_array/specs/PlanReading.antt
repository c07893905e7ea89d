-- A plan's text as it is read, line by line, up to the first fault. This is the project's own.
use Rattle.std.specs.Prelude.{ℕ, ◌+◌, ◌*◌, ◌==◌, nat_lt, nat_le, Bool, true, if◌then◌else◌, ◌&&◌, List, [], ◌∷◌, ◌++◌, length, codes, Result, Ok, Err}
use Rattle.lapi_base.specs.declared.input.Which.TheVariants as which
use Rattle.lapi_base.specs.declared.input.LineError.{LineError}
use Rattle.lapi_base.specs.declared.input.LineError.TheVariants.{Syntax, Limit}
use Rattle.lapi_base.specs.Input.Lines.{lines_of, words_of, is_clean, is_skipped}
use Rattle.lapi_base.specs.Input.Tokens.{Number}
use Rattle.lapi_base.specs.Input.Forms.{Form, End, Next, Take, run, and_then, choose, ◌>>=◌, number, hex, expect}
use Rattle.lapi_base.specs.Input.Reading.{within, is_word, at_line, most_input, Fault}
use Rattle.lapi_blocks.specs.declared.plan.Op.{Op}
use Rattle.lapi_blocks.specs.declared.plan.Op.TheVariants.{Set, Get}
use Rattle.lapi_blocks.specs.declared.plan.Plan.{Plan}
use Rattle.lapi_blocks.specs.declared.patch.Patch.{Patch}
use Rattle.lapi_blocks.specs.Plans.{patch_of, tasks_of}

-- ---- the lines

unfoldable pub head_form : Form ℕ
head_form = expect (codes "array") number

-- a plan of these sizes without operations
abbrev pub without_ops : (p q height width : ℕ) → Plan
without_ops p q height width = record { p = p; q = q; height = height; width = width; ops = [] }

unfoldable pub grid_form : Form Plan
grid_form =
    expect (codes "grid") (Take Number (λ p. Take Number (λ q.
    expect (codes "block") (Take Number (λ height. Take Number (λ width. End (without_ops p q height width)))))))

unfoldable pub set_form : Form Op
set_form = do
  task ← number
  row ← number
  col ← number
  rows ← number
  cols ← number
  values ← hex
  End (Set task row col rows cols values)

unfoldable pub get_form : Form Op
get_form = do
  task ← number
  row ← number
  col ← number
  rows ← number
  cols ← number
  End (Get task row col rows cols)

abbrev pub ops : List (List ℕ × Form Op)
ops = (codes "set", set_form) ∷ (codes "get", get_form) ∷ []

abbrev pub op_form : List ℕ → Form Op
op_form word = choose ops word

abbrev pub op_line_form : Form Op
op_line_form = Next op_form

-- ---- what a line leads to

-- What was read so far: nothing, the head, the sizes and some operations, or all.
--
--   First -> Second -> Operations (each operation) -> Finished
pub data PlanState : Type 0 where
  First Second : PlanState
  Operations : (plan : Plan) → PlanState
  Finished : (plan : Plan) → PlanState

abbrev pub checked_grid : Plan → Result Plan LineError
checked_grid plan =
    within (nat_le 2 (tasks_of plan) && nat_le (tasks_of plan) 8) which.Grid
    (within ((nat_le 1 plan.height && nat_le plan.height 16) && (nat_le 1 plan.width && nat_le plan.width 256)) which.Block
    (Ok plan))

-- a set has four bytes for each word
unfoldable pub has_values : Op → Bool
has_values (Set task row col rows cols values) = length values == 4 * (rows * cols)
has_values (Get task row col rows cols) = true

-- the words of a patch are some and not too many
abbrev pub has_few_words : Patch → Bool
has_few_words p = nat_le 1 (p.rows * p.cols) && nat_le (p.rows * p.cols) 256

-- and it lies within the array
abbrev pub is_in_range : Plan → Patch → Bool
is_in_range plan p =
    nat_le (p.row + p.rows) (plan.p * plan.height) && nat_le (p.col + p.cols) (plan.q * plan.width)

-- the plan with one operation more
abbrev pub with_op : Plan → Op → Plan
with_op plan op = record plan { ops = plan.ops ++ op ∷ [] }

abbrev pub on_op : Plan → Op → Result PlanState LineError
on_op plan op =
    if nat_lt (patch_of op).task (tasks_of plan) && has_values op then
    within (nat_lt (length plan.ops) 48) which.Ops
    (within (has_few_words (patch_of op)) which.Patch
    (within (is_in_range plan (patch_of op)) which.Range (Ok (Operations (with_op plan op)))))
    else Err Syntax

-- after a line's words
unfoldable pub plan_step : PlanState → List (List ℕ) → Result PlanState LineError
plan_step First words = and_then (run head_form words) (λ n. if n == 1 then Ok Second else Err Syntax)
plan_step Second words =
    and_then (run grid_form words) (λ plan. and_then (checked_grid plan) (λ plan. Ok (Operations plan)))
plan_step (Operations plan) words =
    if is_word (codes "done") words then Ok (Finished plan) else and_then (run op_line_form words) (on_op plan)
plan_step (Finished plan) words = Err Syntax

-- after a line
unfoldable pub plan_after : PlanState → List ℕ → Result PlanState LineError
plan_after state line =
    if is_clean line then (if is_skipped (words_of line) then Ok state else plan_step state (words_of line))
    else Err Syntax

-- ---- the plan, or the first fault

-- at the end, where the next line would have number l
abbrev pub plan_of : ℕ → PlanState → Result Plan Fault
plan_of l First = Err (Syntax, l)
plan_of l Second = Err (Syntax, l)
plan_of l (Operations plan) = Err (Syntax, l)
plan_of l (Finished plan) = Ok plan

-- from a state on, where the first of the lines has number l
abbrev pub read_plan_from : ℕ → PlanState → List (List ℕ) → Result Plan Fault
read_plan_from l state [] = plan_of l state
read_plan_from l state (line ∷ lines) = at_line l (plan_after state line) (λ next. read_plan_from (l + 1) next lines)

abbrev pub read_plan : List ℕ → Result Plan Fault
read_plan bytes =
    if nat_lt most_input (length bytes) then Err (Limit which.Input, 0) else read_plan_from 1 First (lines_of bytes)
