-- The data operations of a task that are not done, by its record.
use Rattle.std.specs.Prelude.{◌≡◌, ℕ, ◌<◌, ◌==◌, Bool, true, false, cond, ◌&&◌, not, List, length, filter, slice_index, slice_set, Option, Some, None}
use Rattle.lapi_base.specs.declared.script.Script.{Script}
use Rattle.lapi_base.specs.declared.rule.Rules.{Rules}
use Rattle.lapi_base.specs.declared.message.Leg.TheVariants.{Go, Back}
use Rattle.lapi_base.specs.declared.message.MsgName.{MsgName}
use Rattle.lapi_reassembly.specs.declared.message.Message.{Message}
use Rattle.lapi_base.specs.Laws.Copying.{unacknowledged}
use Rattle.lapi_base.specs.Record.Names.{message, leg_eq, happened, Issued, Copied}
use Rattle.lapi_base.specs.Record.Operations.{statements, statement, is_data, has_back}
use Rattle.lapi_base.specs.Record.Wires.{Run, data_done}
use Rattle.lapi_collect.specs.Outstanding.{is_open}
use Rattle.lapi_task.specs.declared.unfinished.Unfinished.{Unfinished}

-- how often a number stands in a list
abbrev pub times : ℕ → List ℕ → ℕ
times i named = length (filter (λ k. k == i) named)

-- the flags of what is open, where statement i is issued,
abbrev pub flags_issued : (has : Bool) → ℕ → List Bool → List Bool
flags_issued has i flags = cond has (slice_set flags i true) flags

-- where a message has landed: an answer closes its operation,
abbrev pub flags_closed : MsgName → List Bool → List Bool
flags_closed m flags = cond (leg_eq m.leg Back) (slice_set flags m.statement false) flags

-- and where one has, if one has
abbrev pub flags_landed : Option Message → List Bool → List Bool
flags_landed None flags = flags
flags_landed (Some m) flags = flags_closed m.name flags

-- an answer is of one of so many statements
abbrev pub IsOfStatement : Option Message → (count : ℕ) → Type 0
IsOfStatement None count = Unit {0}
IsOfStatement (Some m) count = m.name.leg ≡ Back → m.name.statement < count

-- statement i of task t is a data operation that was issued, and its data are not done
abbrev pub is_unfinished : Script → Run → (t i : ℕ) → Bool
is_unfinished script r t i = is_data (statement script t i) && (happened (Issued t i) r.journal && not (data_done script r t i))

-- A statement is open where it is not done; of data that nothing brings back and that were copied, it is known how many
-- numbers are not acknowledged.
pub record Tracks (script : Script) (rules : Rules) (t : ℕ) (u : Unfinished) (r : Run) : Type 0 where
  pub size : (length u.undone ≡ length (statements script t)) × (length u.left ≡ length (statements script t))
  pub undone : (i : ℕ) → is_open u.undone i ≡ is_unfinished script r t i
  pub left : (i : ℕ) → has_back (statement script t i) ≡ false → happened (Copied (message t i Go)) r.journal ≡ true → slice_index u.left i ≡ unacknowledged script rules r t i
