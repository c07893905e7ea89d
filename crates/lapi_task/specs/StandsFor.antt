-- How a task stands for its part of a record.
use Rattle.std.specs.Prelude.{◌≡◌, ℕ, ◌<◌, ◌≤◌, Bool, false, not, List, length, map, slice_get, slice_index, replicate, [], Option, None, Some}
use Rattle.std.specs.List.{list_any}
use Rattle.lapi_base.specs.declared.script.Script.{Script}
use Rattle.lapi_base.specs.declared.sizes.Sizes.{Sizes}
use Rattle.lapi_base.specs.declared.rule.Rules.{Rules}
use Rattle.lapi_base.specs.declared.event.Event.{Event}
use Rattle.lapi_base.specs.declared.packet.Packet.{Packet}
use Rattle.lapi_base.specs.Record.Below.{below}
use Rattle.lapi_base.specs.Record.Acts.{to_copy_of}
use Rattle.lapi_base.specs.Record.Names.{happened, Issued, Copied}
use Rattle.lapi_base.specs.Record.Operations.{statements, numbers_below}
use Rattle.lapi_base.specs.Record.Counters.{count, reads}
use Rattle.lapi_base.specs.Record.Wires.{Run}
use Rattle.lapi_base.specs.Record.Refusals.{next, refusals, round_of}
use Rattle.lapi_base.specs.Record.Values.{memory_bytes}
use Rattle.lapi_link.specs.Receiver.{ReceivingEnd, ReceivesFor}
use Rattle.lapi_calls.specs.Limits.{limits_of}
use Rattle.lapi_link.specs.Sender.{SendingEnd}
use Rattle.lapi_base.specs.Packet.Layout.{layout_of, unit, sizes_of}
use Rattle.lapi_base.specs.Record.Valid.{ValidRules, ValidScript}
use Rattle.lapi_task.specs.Answered.{KeepsAnswers}
use Rattle.lapi_task.specs.HasJobs.{HasJobs}
use Rattle.lapi_task.specs.HasRounds.{HasRounds, IsNewCollective}
use Rattle.lapi_task.specs.declared.state.State.{State}
use Rattle.lapi_task.specs.declared.task.Task.{Task}
use Rattle.lapi_task.specs.Sends.{SendsFor}
use Rattle.lapi_task.specs.Unfinished.{Tracks}

-- a message of statement i of task t may be copied, and was not
abbrev pub is_uncopied : Script → List Event → (t i : ℕ) → Bool
is_uncopied script J t i = list_any (λ m. not (happened (Copied m) J)) (to_copy_of script J t i)

abbrev pub SenderAt : Script → Rules → Run → (from to : ℕ) → Option SendingEnd → Type 0
SenderAt script rules r a b None = ⊥
SenderAt script rules r a b (Some s) = SendsFor script rules s r a b

abbrev pub ReceiverAt : Script → Rules → List Packet → Option ReceivingEnd → Type 0
ReceiverAt script rules ps None = ⊥
ReceiverAt script rules ps (Some s) = ReceivesFor script s ps × KeepsAnswers rules s

-- what a task with these sizes holds before its first line
pub record IsNewState (sizes : Sizes) (task : ℕ) (state : State) : Type 0 where
  pub number : state.number ≡ task
  pub next : state.next ≡ 0
  pub memory : state.memory ≡ replicate sizes.memory 0
  pub counters : state.counters ≡ replicate sizes.counters 0
  pub reads : state.reads.items ≡ []
  pub refusals : state.refusals.items ≡ []
  pub uncopied : state.uncopied.items ≡ []
  pub jobs : state.jobs ≡ record { waiting = []; workers = replicate sizes.workers None }
  pub rounds : IsNewCollective sizes.tasks state.collective

-- What a task holds and did is what the record says of task t;
pub record HoldsFor (script : Script) (rules : Rules) (t : ℕ) (state : State) (J : List Event) : Type 0 where
  pub number : state.number ≡ t
  pub next : state.next ≡ next J t
  pub ahead : (i : ℕ) → state.next ≤ i → happened (Issued t i) J ≡ false
  pub reads : state.reads.items ≡ reads script rules J t
  pub refusals : state.refusals.items ≡ refusals J t
  pub memory : state.memory ≡ memory_bytes script rules J t
  pub counter_count : length state.counters ≡ script.counters
  pub counters : (c : ℕ) → c < script.counters → slice_index state.counters c ≡ count script rules J t c
  pub uncopied : state.uncopied.items ≡ below (length (statements script t)) (is_uncopied script J t)
  pub jobs : HasJobs script rules t state.jobs J
  pub rounds : HasRounds script t state.collective J

-- the payload of each fragment but the last, by the task's sizes
abbrev pub task_unit : Task → ℕ
task_unit task = unit (layout_of task.sizes.layout)

-- it has its statements with the round of each, and the script's sizes and limits;
pub record HasCalls (script : Script) (rules : Rules) (t : ℕ) (task : Task) : Type 0 where
  pub valid : ValidScript script
  pub rules_valid : ValidRules rules
  pub sizes : task.sizes ≡ sizes_of script
  pub statements : task.statements ≡ statements script t
  pub limits : task.limits ≡ limits_of script (length rules.headers)
  pub rounds : task.rounds.items ≡ map (round_of script t) (numbers_below (length task.statements))

-- and its data operations that are not done, the ends of its links, and the tasks that it owes an acknowledgement, are
-- those of the record.
pub record StandsFor (script : Script) (rules : Rules) (t : ℕ) (task : Task) (r : Run) : Type 0 where
  pub calls : HasCalls script rules t task
  pub holds : HoldsFor script rules t task.state r.journal
  pub unfinished : Tracks script rules t task.unfinished r
  pub sender_count : length task.senders.items ≡ script.tasks
  pub receiver_count : length task.receivers.items ≡ script.tasks
  pub senders : (b : ℕ) → b < script.tasks → SenderAt script rules r t b (slice_get task.senders.items b)
  pub receivers : (a : ℕ) → a < script.tasks → ReceiverAt script rules (r.handed a t) (slice_get task.receivers.items a)
  pub owed_count : length task.owed.items ≡ script.tasks
  pub owed : (a : ℕ) → a < script.tasks → slice_get task.owed.items a ≡ Some (r.owed a t)

-- This holds for each record that the task stands for; it holds for one of them.
abbrev pub ForEachRecord : Task → (Script → Rules → ℕ → Run → Type 0) → Type 0
ForEachRecord task P = (script : Script) (rules : Rules) (t : ℕ) (r : Run) → StandsFor script rules t task r → P script rules t r

abbrev pub ForSomeRecord : Task → (Script → Rules → ℕ → Run → Type 0) → Type 0
ForSomeRecord task P = (script : Script) × (rules : Rules) × (t : ℕ) × (r : Run) × StandsFor script rules t task r × P script rules t r
