-- Two-dimensional arrays of 32-bit words over a grid of tasks: valid plans, the array that their operations leave, and
-- the script that does them. This is the project's own.
use Rattle.std.specs.Prelude.{◌≡◌, ℕ, zero, suc, ◌+◌, ◌-◌, ◌*◌, ◌/◌, ◌%◌, ◌<◌, ◌≤◌, ◌==◌, max, min, nat_le, nat_lt, Bool, cond, ◌&&◌, List, [], ◌∷◌, ◌++◌, length, map, slice_index, slice_get, Option, Some, None}
use Rattle.std.specs.List.{AllByRecursion}
use Rattle.lapi_base.specs.declared.address.Addr.TheVariants.{Plain}
use Rattle.lapi_base.specs.declared.vector.Vector.{Vector}
use Rattle.lapi_base.specs.declared.vector.Vector.TheVariants.{Stride}
use Rattle.lapi_base.specs.declared.statement.Statement.{Statement}
use Rattle.lapi_base.specs.declared.statement.Statement.TheVariants.{Store, Putv, Getv, Gfence}
use Rattle.lapi_base.specs.declared.script.Script.{Script}
use Rattle.lapi_base.specs.Record.Below.{below}
use Rattle.lapi_base.specs.Record.Operations.{numbers_below, statements}
use Rattle.lapi_base.specs.Record.Valid.{IsByte, ValidScript}
use Rattle.lapi_blocks.specs.declared.plan.Op.{Op}
use Rattle.lapi_blocks.specs.declared.plan.Op.TheVariants.{Set, Get}
use Rattle.lapi_blocks.specs.declared.plan.Plan.{Plan}
use Rattle.lapi_blocks.specs.declared.patch.Patch.{Patch}

-- ---- plans

-- the patch that an operation is on, and the task whose operation it is
abbrev pub patch_of : Op → Patch
patch_of (Set task row col rows cols values) = record { task = task; row = row; col = col; rows = rows; cols = cols }
patch_of (Get task row col rows cols) = record { task = task; row = row; col = col; rows = rows; cols = cols }

-- how many tasks the grid has
abbrev pub tasks_of : Plan → ℕ
tasks_of plan = plan.p * plan.q

-- the patch is of a task that there is, isn't empty, has at most 256 words, and lies within the array
pub record IsWithin (plan : Plan) (p : Patch) : Type 0 where
  pub task : p.task < tasks_of plan
  pub words : (1 ≤ p.rows * p.cols) × (p.rows * p.cols ≤ 256)
  pub lower : p.row + p.rows ≤ plan.p * plan.height
  pub right : p.col + p.cols ≤ plan.q * plan.width

-- a set has four bytes for each word
abbrev pub HasValues : Op → Type 0
HasValues (Set task row col rows cols values) = (length values ≡ 4 * (rows * cols)) × AllByRecursion IsByte values
HasValues (Get task row col rows cols) = Unit {0}

-- a grid of 2 to 8 tasks, blocks of at most 16 rows and 256 columns, and at most 48 operations on patches of the array
pub record ValidPlan (plan : Plan) : Type 0 where
  pub tasks : (2 ≤ tasks_of plan) × (tasks_of plan ≤ 8)
  pub height : (1 ≤ plan.height) × (plan.height ≤ 16)
  pub width : (1 ≤ plan.width) × (plan.width ≤ 256)
  pub count : length plan.ops ≤ 48
  pub patches : AllByRecursion (λ op. IsWithin plan (patch_of op)) plan.ops
  pub values : AllByRecursion HasValues plan.ops

-- ---- the plain array

-- an array of words: byte b, from 0 to 3, of the word in each row and column
abbrev pub Table : Type 0
Table = (row col b : ℕ) → ℕ

-- where byte b of the word in row u and column v stands, where rows of this many words follow each other
abbrev pub byte_at : (width : ℕ) → Table
byte_at width u v b = 4 * (u * width + v) + b

-- the word in this row and column is one of the patch
abbrev pub in_patch : Patch → (row col : ℕ) → Bool
in_patch p r c = (nat_le p.row r && nat_lt r (p.row + p.rows)) && (nat_le p.col c && nat_lt c (p.col + p.cols))

-- the array after an operation: a set writes its patch, a get nothing
abbrev pub after_op : Option Op → Table → Table
after_op (Some (Set task row col rows cols values)) table =
    λ r c b.
    cond (in_patch (record { task = task; row = row; col = col; rows = rows; cols = cols }) r c)
    (slice_index values (byte_at cols (r - row) (c - col) b))
    (table r c b)
after_op _ table = table

-- the plain array after the first k operations, from zeros
unfoldable pub plain : List Op → (k : ℕ) → Table
plain ops zero = λ r c b. 0
plain ops (suc k) = after_op (slice_get ops k) (plain ops k)

-- ---- who owns what

-- Task i * q + j owns the block of rows from i * height on and columns from j * width on, which stands at address 0 of
-- its memory, row after row.

-- the first row that a task owns
abbrev pub block_row : Plan → (task : ℕ) → ℕ
block_row plan t = (t / plan.q) * plan.height

-- the first column that it owns
abbrev pub block_col : Plan → (task : ℕ) → ℕ
block_col plan t = (t % plan.q) * plan.width

-- the task that owns the word in this row and column
abbrev pub owner : Plan → (row col : ℕ) → ℕ
owner plan r c = (r / plan.height) * plan.q + c / plan.width

-- the address of the area of operation k, which has the bytes of its patch, row after row, in its task's memory
abbrev pub area : (k : ℕ) → ℕ
area k = 16384 + 1024 * k

-- ---- the script

-- the part of a patch that lies in the block of task t
abbrev pub part_of : Plan → Patch → (t : ℕ) → Patch
part_of plan p t =
    let row = max p.row (block_row plan t) in
    let col = max p.col (block_col plan t) in record {
      task = t;
      row = row;
      col = col;
      rows = min (p.row + p.rows) (block_row plan t + plan.height) - row;
      cols = min (p.col + p.cols) (block_col plan t + plan.width) - col;
    }

-- a patch with a word in it
abbrev pub is_nonempty : Patch → Bool
is_nonempty p = nat_lt 0 p.rows && nat_lt 0 p.cols

-- where a part stands in the block of its task
abbrev pub block_side : Plan → (part : Patch) → Vector
block_side plan part =
    Stride (Plain (byte_at plan.width (part.row - block_row plan part.task) (part.col - block_col plan part.task) 0))
    (4 * part.cols) (4 * plan.width) part.rows

-- where it stands in the area of operation k, on the whole patch p
abbrev pub area_side : (k : ℕ) → (whole part : Patch) → Vector
area_side k p part =
    Stride (Plain (area k + byte_at p.cols (part.row - p.row) (part.col - p.col) 0))
    (4 * part.cols) (4 * p.cols) part.rows

-- the statement of operation k on one part: a set puts it from the area to the block, a get the other way round
abbrev pub moves : Plan → (k : ℕ) → Op → (part : Patch) → Statement
moves plan k (Set task row col rows cols values) part =
    Putv part.task (block_side plan part)
    (area_side k (record { task = task; row = row; col = col; rows = rows; cols = cols }) part)
    None None None
moves plan k (Get task row col rows cols) part =
    Getv part.task (block_side plan part)
    (area_side k (record { task = task; row = row; col = col; rows = rows; cols = cols }) part)
    None None

-- a set stores its values into its area first
abbrev pub stores : (k : ℕ) → Op → List Statement
stores k (Set task row col rows cols values) = Store (area k) values ∷ []
stores k (Get task row col rows cols) = []

-- the tasks whose blocks meet a patch, rising
unfoldable pub owners : Plan → Patch → List ℕ
owners plan p = below (tasks_of plan) (λ t. is_nonempty (part_of plan p t))

-- the statements of operation k at its own task, before the fence
abbrev pub own_statements : Plan → (k : ℕ) → Op → List Statement
own_statements plan k op =
    stores k op ++ map (λ t. moves plan k op (part_of plan (patch_of op) t)) (owners plan (patch_of op))

-- and at any task
abbrev pub op_statements : Plan → (k : ℕ) → Option Op → (task : ℕ) → List Statement
op_statements plan k None t = []
op_statements plan k (Some op) t = cond (t == (patch_of op).task) (own_statements plan k op) []

-- a task's statements for the first n operations, a global fence after each
unfoldable pub first_statements : Plan → (n task : ℕ) → List Statement
first_statements plan zero t = []
first_statements plan (suc k) t =
    first_statements plan k t ++ (op_statements plan k (slice_get plan.ops k) t ++ Gfence ∷ [])

-- the script of a plan: memories of 65,536 bytes, no counters and one worker
abbrev pub compiled : Plan → Script
compiled plan = record {
  layout = 1;
  tasks = tasks_of plan;
  memory = 65536;
  counters = 0;
  workers = 1;
  lists = map (first_statements plan (length plan.ops)) (numbers_below (tasks_of plan));
}

-- the script of a valid plan is valid,
abbrev pub ScriptsAreValid : Type 0
ScriptsAreValid = (plan : Plan) → ValidPlan plan → ValidScript (compiled plan)

-- and short: no task has more than ten statements for each operation
abbrev pub ScriptsAreShort : Type 0
ScriptsAreShort =
    (plan : Plan) → ValidPlan plan → (t : ℕ) → t < tasks_of plan
    → length (statements (compiled plan) t) ≤ 10 * length plan.ops
