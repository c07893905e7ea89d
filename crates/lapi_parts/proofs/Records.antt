-- A record of valid acts is that of a run, so what holds of runs holds of it.
use Rattle.std.proofs.Common.{sym, subst}
use Rattle.lapi_base.specs.declared.script.Script.{Script}
use Rattle.lapi_base.specs.declared.rule.Rules.{Rules}
use Rattle.lapi_base.specs.Packet.Spelling.{refusal, spells_packet}
use Rattle.lapi_base.specs.Packet.PacketBytes.{packet_size}
use Rattle.lapi_base.specs.Record.Wires.{Run}
use Rattle.lapi_base.specs.Laws.Headline.{HoldsOfRuns}
use Rattle.lapi_base.specs.Record.WorldView.{record_of, HoldsOfRecords}
use Rattle.lapi_laws.proofs.Lines.{SoundRun}
use Rattle.lapi_laws.proofs.Runs.{run-sound}

pub of-runs : (P : Script → Rules → Run → Type 0) → HoldsOfRuns P → HoldsOfRecords P
unfolding record_of
of-runs P h script rules r is = subst (P script rules) (sym is.2) (h script rules spells_packet packet_size refusal is.0 is.1)

pub record-sound : HoldsOfRecords SoundRun
record-sound = of-runs SoundRun run-sound
