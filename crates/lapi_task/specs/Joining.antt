-- A collective call that a task is about to make.
use Rattle.std.specs.Prelude.{◌≡◌, ℕ, Bool, true, not, ◌||◌, Some, None, slice_get}
use Rattle.lapi_base.specs.declared.head.Head.{Head}
use Rattle.lapi_base.specs.declared.message.Leg.TheVariants.{Join}
use Rattle.lapi_base.specs.declared.rule.Rules.{Rules}
use Rattle.lapi_base.specs.declared.script.Script.{Script}
use Rattle.lapi_base.specs.declared.statement.Statement.{Statement}
use Rattle.lapi_base.specs.Record.Names.{message}
use Rattle.lapi_base.specs.Record.Operations.{statement, has_join, is_gfence}
use Rattle.lapi_base.specs.Record.Packets.{head_by}
use Rattle.lapi_base.specs.Record.Refusals.{refusal_of}
use Rattle.lapi_base.specs.Record.Wires.{Run, data_clear}
use Rattle.lapi_task.specs.HasEffect.{IsAt, IsAtSome}
use Rattle.lapi_task.specs.declared.task.Task.{Task}

-- the next statement is a collective call, and by no record of the task is it refused
pub record JoinsNext (task : Task) : Type 0 where
  pub some : IsAtSome task
  pub call : Statement
  pub there : slice_get task.statements task.state.next ≡ Some call
  pub joins : has_join call ≡ true
  pub accepted : (script : Script) (rules : Rules) (t : ℕ) (r : Run) → IsAt script rules t task r
      → refusal_of script rules r.journal t task.state.next ≡ None

-- A fence over all tasks is entered once the data of every operation before it are done, and any other call at once.
abbrev pub may_enter : Script → Run → (t i : ℕ) → Bool
may_enter script r t i = not (is_gfence (statement script t i)) || data_clear script r t i

-- the head of the messages by which statement i of task t joins the others
abbrev pub IsHeadOfJoins : Script → (t i : ℕ) → Head → Type 0
IsHeadOfJoins script t i head = (d : ℕ) → head ≡ head_by script (message t i (Join d)) (Join d) (statement script t i)
