-- What the tasks of a compiled plan hold in the end: the plain array, and the patches that were got. This is the
-- project's own.
use Rattle.std.specs.Prelude.{◌≡◌, ℕ, ◌+◌, ◌-◌, ◌*◌, ◌/◌, ◌%◌, ◌<◌, map, Bool, List, length, slice_get, Some}
use Rattle.std.specs.List.{AllByRecursion}
use Rattle.lapi_base.specs.declared.script.Script.{Script}
use Rattle.lapi_base.specs.declared.rule.Rules.{Rules}
use Rattle.lapi_base.specs.declared.event.Event.{Event}
use Rattle.lapi_base.specs.declared.schedule.Act.{Act}
use Rattle.lapi_base.specs.declared.reply.Bad.{Bad}
use Rattle.lapi_base.specs.declared.packet.Packet.{Packet}
use Rattle.lapi_base.specs.Record.Operations.{numbers_below, statements, one_span}
use Rattle.lapi_base.specs.Record.Values.{gathered, values}
use Rattle.lapi_base.specs.Record.Refusals.{next}
use Rattle.lapi_base.specs.Laws.Landing.{memory_at}
use Rattle.lapi_base.specs.Record.Acts.{run_of}
use Rattle.lapi_base.specs.Record.Atomic.{Atomic}
use Rattle.lapi_base.specs.Record.Valid.{ValidAct}
use Rattle.lapi_blocks.specs.declared.plan.Op.TheVariants.{Get}
use Rattle.lapi_blocks.specs.declared.plan.Plan.{Plan}
use Rattle.lapi_blocks.specs.declared.patch.Patch.{Patch}
use Rattle.lapi_blocks.specs.Plans.{patch_of, Table, ValidPlan, byte_at, plain, block_row, block_col, owner, area, compiled}

-- the bytes of a patch of an array, row after row
abbrev pub patch_bytes : Table → Patch → List ℕ
patch_bytes table p =
    map (λ z. table (p.row + z / 4 / p.cols) (p.col + (z / 4) % p.cols) (z % 4)) (numbers_below (4 * (p.rows * p.cols)))

-- every task is past its last statement
abbrev pub IsPast : Script → List Event → Type 0
IsPast script J = (a : ℕ) → a < script.tasks → next J a ≡ length (statements script a)

module _ (plan : Plan) (rules : Rules) (J : List Event) where
  -- each byte of each word of the array stands in its owner's block, as all operations leave it
  abbrev pub BlocksArePlain : Type 0
  BlocksArePlain = (r c b : ℕ) → r < plan.p * plan.height → c < plan.q * plan.width → b < 4 →
      let w = owner plan r c in
      memory_at (compiled plan) rules J w (byte_at plan.width (r - block_row plan w) (c - block_col plan w) b)
      ≡ plain plan.ops (length plan.ops) r c b

  -- and the area of a get has the words of its patch as the operations before it left them
  abbrev pub GotArePlain : Type 0
  GotArePlain =
      (k task row col rows cols u v b : ℕ)
      → slice_get plan.ops k ≡ Some (Get task row col rows cols) → u < rows → v < cols → b < 4 →
      memory_at (compiled plan) rules J task (area k + byte_at cols u v b) ≡ plain plan.ops k (row + u) (col + v) b

  -- the same of the bytes of the area, in order
  abbrev pub GotBytesArePlain : Type 0
  GotBytesArePlain =
      (k task row col rows cols : ℕ) → slice_get plan.ops k ≡ Some (Get task row col rows cols) →
      gathered (values (compiled plan) rules J).memory task (one_span (area k) (4 * (rows * cols)))
      ≡ patch_bytes (plain plan.ops k) (patch_of (Get task row col rows cols))

-- this holds of each atomic journal of a valid plan's script by which every task is past its last statement
abbrev pub HoldsOfPlans : (Plan → Rules → List Event → Type 0) → Type 0
HoldsOfPlans P =
    (plan : Plan) → ValidPlan plan → (rules : Rules) (J : List Event)
    → Atomic (compiled plan) rules J → IsPast (compiled plan) J
    → P plan rules J

-- and this of each run of it by which they are
abbrev pub HoldsOfPlanRuns : (Plan → Rules → List Event → Type 0) → Type 0
HoldsOfPlanRuns P =
    (plan : Plan) → ValidPlan plan
    → (rules : Rules) (spells : List ℕ → Bool) (size : Packet → ℕ) (refusal : List ℕ → Bad) (acts : List Act)
    → AllByRecursion (ValidAct (compiled plan) spells) acts →
    let J = (run_of (compiled plan) rules size refusal acts).journal in
    IsPast (compiled plan) J → P plan rules J
