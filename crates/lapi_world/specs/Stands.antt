-- What a world keeps stands for a record.
use Rattle.std.specs.Prelude.{◌≡◌, ℕ, ◌+◌, ◌*◌, ◌<◌, Bool, false, List, length, map, reverse, slice_get, Option, Some, None}
use Rattle.lapi_base.specs.declared.script.Script.{Script}
use Rattle.lapi_base.specs.declared.rule.Rules.{Rules}
use Rattle.lapi_base.specs.declared.schedule.Line.{Line}
use Rattle.lapi_base.specs.declared.reply.Reply.{Reply}
use Rattle.lapi_base.specs.Record.Wires.{Run}
use Rattle.lapi_base.specs.Record.WorldView.{IsRecord, record_at}
use Rattle.lapi_base.specs.Packet.Spelling.{spells_packet}
use Rattle.lapi_base.specs.Record.Valid.{ValidRules, ValidSchedule, ValidScript}
use Rattle.lapi_base.specs.Packet.PacketBytes as written
use Rattle.lapi_task.specs.declared.task.Task.{Task}
use Rattle.lapi_task.specs.StandsFor.{StandsFor}
use Rattle.lapi_world.specs.declared.network.Network.{Network}

-- these are valid rules, with so many header handlers
abbrev pub HaveRules : Rules → (header_count : ℕ) → Type 0
HaveRules rules count = ValidRules rules × (length rules.headers ≡ count)

abbrev pub TaskAt : Script → Rules → Run → ℕ → Option Task → Type 0
TaskAt script rules r t None = ⊥
TaskAt script rules r t (Some task) = StandsFor script rules t task r

abbrev pub TasksStand : Script → Rules → Run → List Task → Type 0
TasksStand script rules r tasks = (t : ℕ) → t < script.tasks → TaskAt script rules r t (slice_get tasks t)

-- each wire has the bytes of its packets
abbrev pub WiresStand : Script → Run → List (List (List ℕ)) → Type 0
WiresStand script r wires = (a b : ℕ) → a < script.tasks → b < script.tasks → slice_get wires (a * script.tasks + b) ≡ Some (map written.packet (r.wire a b))

pub record Stands (script : Script) (rules : Rules) (network : Network) (r : Run) : Type 0 where
  pub journal : network.journal ≡ reverse r.journal
  pub task_count : length network.tasks.items ≡ script.tasks
  pub wire_count : length network.wires.items ≡ script.tasks * script.tasks
  pub tasks : TasksStand script rules r network.tasks.items
  pub wires : WiresStand script r network.wires.items

-- it stands for some record of valid acts
abbrev pub StandsForOne : Script → Rules → Network → Type 0
StandsForOne script rules network = (r : Run) × IsRecord script rules r × Stands script rules network r

-- what holds of every world
pub record IsWorld (script : Script) (rules : Rules) (schedule : List Line) (network : Network) (taken : List ℕ) (replies : List Reply) (spent : Bool) : Type 0 where
  pub script_performed : ValidScript script
  pub rules_valid : ValidRules rules
  pub schedule_valid : ValidSchedule script spells_packet schedule
  pub task_count : length network.tasks.items ≡ script.tasks
  pub stands : spent ≡ false → Stands script rules network (record_at script rules schedule taken)
  pub answers : spent ≡ false → replies ≡ (record_at script rules schedule taken).replies
