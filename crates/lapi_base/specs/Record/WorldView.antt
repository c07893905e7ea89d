-- What a caller sees of a world, and the record that all its other parts are of.
use Rattle.std.specs.Prelude.{◌≡◌, ℕ, Bool, List, slice_get, map, Option, option_map}
use Rattle.std.specs.List.{filter_map, AllByRecursion}
use Rattle.lapi_base.specs.declared.script.Script.{Script}
use Rattle.lapi_base.specs.declared.rule.Rules.{Rules}
use Rattle.lapi_base.specs.declared.schedule.Act.{Act}
use Rattle.lapi_base.specs.declared.schedule.Line.{Line}
use Rattle.lapi_base.specs.Packet.Spelling.{spells_packet, refusal}
use Rattle.lapi_base.specs.Packet.PacketBytes.{packet_size}
use Rattle.lapi_base.specs.Record.Wires.{Run}
use Rattle.lapi_base.specs.Record.Acts.{perform, run_of}
use Rattle.lapi_base.specs.Record.Valid.{ValidAct}

-- A script, the rules of its handlers, a schedule, and the numbers of the lines taken so far; a spent world found no
-- memory for a line.
pub record WorldView : Type 0 where
  pub script : Script
  pub rules : Rules
  pub schedule : List Line
  pub taken : List ℕ
  pub spent : Bool

-- the acts of these lines
abbrev pub act_at : List Line → ℕ → Option Act
act_at schedule n = option_map (λ (line : Line). line.act) (slice_get schedule n)

unfoldable pub acts_of : List Line → List ℕ → List Act
acts_of schedule numbers = filter_map (act_at schedule) numbers

module _ (script : Script) (rules : Rules) where
  -- the record of these acts, and what one act more makes of a record
  unfoldable pub record_of : List Act → Run
  record_of acts = run_of script rules packet_size refusal acts

  unfoldable pub performed : Run → Act → Run
  performed r act = perform script rules packet_size refusal r act

  -- the record of the lines taken, and of all lines in order
  abbrev pub record_at : List Line → List ℕ → Run
  record_at schedule taken = record_of (acts_of schedule taken)

  abbrev pub record_of_all : List Line → Run
  record_of_all schedule = record_of (map (λ (line : Line). line.act) schedule)

  -- some valid acts have this record
  abbrev pub IsRecord : Run → Type 0
  IsRecord r = (acts : List Act) × AllByRecursion (ValidAct script spells_packet) acts × (r ≡ record_of acts)

abbrev pub view_record : WorldView → Run
view_record w = record_at w.script w.rules w.schedule w.taken

-- this holds of every record of valid acts
abbrev pub HoldsOfRecords : (Script → Rules → Run → Type 0) → Type 0
HoldsOfRecords P = (script : Script) (rules : Rules) (r : Run) → IsRecord script rules r → P script rules r
