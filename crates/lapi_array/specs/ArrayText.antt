-- What is written of a plan that was run: the patch of each get, and then each row of the array. This is the project's
-- own.
use Rattle.std.specs.Prelude.{◌≡◌, ℕ, ◌+◌, ◌*◌, ◌≤◌, ◌/◌, ◌%◌, List, [], ◌++◌, length, map, slice_get, codes, Option, Some}
use Rattle.std.specs.List.{flat_map}
use Rattle.std.specs.Fmt.{decimal}
use Rattle.hex.specs.Hex.{encode_lower}
use Rattle.lapi_base.specs.declared.event.Event.{Event}
use Rattle.lapi_base.specs.declared.rule.Rules.{Rules}
use Rattle.lapi_base.specs.Record.Operations.{numbers_below}
use Rattle.lapi_base.specs.Record.Values.{memory_bytes}
use Rattle.lapi_base.specs.Record.Atomic.{Atomic}
use Rattle.lapi_base.specs.Record.Wires.{Run}
use Rattle.lapi_base.specs.Record.WorldView.{IsRecord}
use Rattle.lapi_blocks.specs.declared.plan.Op.{Op}
use Rattle.lapi_blocks.specs.declared.plan.Op.TheVariants.{Get}
use Rattle.lapi_blocks.specs.declared.plan.Plan.{Plan}
use Rattle.lapi_blocks.specs.declared.patch.Patch.{Patch}
use Rattle.lapi_blocks.specs.Plans.{Table, patch_of, tasks_of, ValidPlan, plain, compiled}
use Rattle.lapi_blocks.specs.Arrays.{patch_bytes, IsPast}

abbrev pub got_from : (k row col : ℕ) → List ℕ
got_from k r c = codes "get " ++ decimal k ++ codes " " ++ decimal r ++ codes " " ++ decimal c

abbrev pub got_words : (rows cols : ℕ) → List ℕ → List ℕ
got_words n m bytes = codes " " ++ decimal n ++ codes " " ++ decimal m ++ codes " " ++ encode_lower bytes ++ codes "\n"

-- get K R C N M HEX: that operation k got these bytes of a patch
abbrev pub got_text : (k : ℕ) → Patch → List ℕ → List ℕ
got_text k p bytes = got_from k p.row p.col ++ got_words p.rows p.cols bytes

-- what operation k got, if it is a get
abbrev pub got_line : Plan → (k : ℕ) → Option Op → List ℕ
got_line plan k (Some (Get task row col rows cols)) =
    let patch = patch_of (Get task row col rows cols) in
    got_text k patch (patch_bytes (plain plan.ops k) patch)
got_line plan k _ = []

abbrev pub got_at : Plan → (k : ℕ) → List ℕ
got_at plan k = got_line plan k (slice_get plan.ops k)

-- the bytes of a row of so many words
abbrev pub row_bytes : Table → (words row : ℕ) → List ℕ
row_bytes table n r = map (λ z. table r (z / 4) (z % 4)) (numbers_below (4 * n))

-- row R HEX: a row of the array as all operations leave it
abbrev pub row_line : Plan → (row : ℕ) → List ℕ
row_line plan r =
    codes "row " ++ decimal r ++ codes " "
    ++ encode_lower (row_bytes (plain plan.ops (length plan.ops)) (plan.q * plan.width) r)
    ++ codes "\n"

abbrev pub gets_text : Plan → List ℕ
gets_text plan = flat_map (got_at plan) (numbers_below (length plan.ops))

abbrev pub rows_text : Plan → List ℕ
rows_text plan = flat_map (row_line plan) (numbers_below (plan.p * plan.height))

abbrev pub array_text : Plan → List ℕ
array_text plan = gets_text plan ++ rows_text plan

-- the memories are those that an atomic journal of the plan's script leaves by which every task is past its last
-- statement
pub record AreLeft (plan : Plan) (memories : List (List ℕ)) : Type 0 where
  pub rules : Rules
  pub journal : List Event
  pub atomic : Atomic (compiled plan) rules journal
  pub past : IsPast (compiled plan) journal
  pub all : memories ≡ map (memory_bytes (compiled plan) rules journal) (numbers_below (tasks_of plan))

-- a task's memory has so many bytes
abbrev pub HasBytes : List (List ℕ) → (task many : ℕ) → Type 0
HasBytes memories t n = (memory : List ℕ) × (slice_get memories t ≡ Some memory) × (n ≤ length memory)

-- the bytes of a row of the array in one column of the grid
abbrev pub part_bytes : Table → (width col row : ℕ) → List ℕ
part_bytes table width j r = map (λ z. table r (j * width + z / 4) (z % 4)) (numbers_below (4 * width))

-- what the memories of a plan's tasks hold after a run of its script
abbrev pub memories_in : Plan → Rules → Run → List (List ℕ)
memories_in plan rules r = map (memory_bytes (compiled plan) rules r.journal) (numbers_below (tasks_of plan))

-- After every run of valid lines by which each task is past its last statement, whatever the lines and the handlers, the
-- memories are such.
abbrev pub RunsAreLeft : Type 0
RunsAreLeft =
    (plan : Plan) → ValidPlan plan → (rules : Rules) (r : Run) → IsRecord (compiled plan) rules r
    → IsPast (compiled plan) r.journal → AreLeft plan (memories_in plan rules r)
