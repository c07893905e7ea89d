-- The captures of records: what is found in them is what happened.
use Rattle.std.specs.Prelude.{◌≡◌, ℕ, ◌≤◌, List, [], ◌∷◌, ◌++◌, length, map, reverse, Option, Some, None}
use Rattle.std.specs.List.{filter_map, AllByRecursion}
use Rattle.lapi_base.specs.declared.capture.TheConstants.{CAPTURE_END}
use Rattle.lapi_base.specs.declared.script.Script.{Script}
use Rattle.lapi_base.specs.declared.rule.Rules.{Rules}
use Rattle.lapi_base.specs.declared.message.MsgName.{MsgName}
use Rattle.lapi_base.specs.declared.event.Event.{Event}
use Rattle.lapi_base.specs.declared.event.Event.TheVariants.{Land}
use Rattle.lapi_base.specs.declared.schedule.Act.{Act}
use Rattle.lapi_base.specs.Output.CaptureBytes.{capture}
use Rattle.lapi_base.specs.Packet.Spelling.{spells_packet}
use Rattle.lapi_base.specs.Record.Operations.{receiver}
use Rattle.lapi_base.specs.Record.Valid.{ValidAct, ValidRules, ValidScript}
use Rattle.lapi_base.specs.Record.Wires.{Run}
use Rattle.lapi_base.specs.Record.WorldView.{record_of}
use Rattle.lapi_capture.specs.declared.format.TheConstants.{MOST_FRAMES}
use Rattle.lapi_capture.specs.declared.landing.Landing.{Landing}
use Rattle.lapi_capture.specs.Captures.{AreFrames, landings, through}

-- what landed, and where: by a landing that was found, and by an event
abbrev pub found : Landing → MsgName × ℕ
found landing = (landing.name, landing.to)

abbrev pub landed : Script → Event → Option (MsgName × ℕ)
landed script (Land m) = Some (m, receiver script m)
landed script e = None

-- These whole frames are the capture of a record, and the landings in them are those of its journal, in order.
pub record HasFrames (script : Script) (r : Run) (acts : List Act) (frames : List (List ℕ)) : Type 0 where
  pub are : AreFrames frames
  pub bytes : capture r acts ≡ through frames ++ CAPTURE_END ∷ []
  pub landings : map found (landings frames) ≡ filter_map (landed script) (reverse r.journal)

-- It has some, where its acts are no more than a capture may have frames.
abbrev pub LandingsAreTold : Type 0
LandingsAreTold = (script : Script) (rules : Rules) (acts : List Act) → ValidScript script → ValidRules rules →
    AllByRecursion (ValidAct script spells_packet) acts → length acts ≤ MOST_FRAMES →
    (frames : List (List ℕ)) × HasFrames script (record_of script rules acts) acts frames
