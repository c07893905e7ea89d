-- What a quiet world tells of all that is to come.
use Rattle.std.specs.Prelude.{◌≡◌, List}
use Rattle.std.specs.List.{AllByRecursion}
use Rattle.lapi_base.specs.declared.script.Script.{Script}
use Rattle.lapi_base.specs.declared.rule.Rules.{Rules}
use Rattle.lapi_base.specs.declared.schedule.Act.{Act}
use Rattle.lapi_base.specs.Packet.PacketBytes.{packet_size}
use Rattle.lapi_base.specs.Packet.Spelling.{refusal, spells_packet}
use Rattle.lapi_base.specs.Record.Acts.{after}
use Rattle.lapi_base.specs.Record.Final.{Final}
use Rattle.lapi_base.specs.Record.Valid.{ValidAct, IsNoStep}
use Rattle.lapi_base.specs.Record.Wires.{Run}

-- Whatever was begun has all its events, and no lines without a Step add one.
pub record IsSettled (script : Script) (rules : Rules) (r : Run) : Type 0 where
  pub final : Final script rules r.journal
  pub stays : (more : List Act) → AllByRecursion (ValidAct script spells_packet) more → AllByRecursion IsNoStep more → (after script rules packet_size refusal r more).journal ≡ r.journal
