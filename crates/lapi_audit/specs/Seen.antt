-- What the waits are judged by.
use Rattle.lapi_base.specs.Record.Valid.{ValidScript}
use Rattle.lapi_audit.specs.declared.waits.Seen.{Seen}
use Rattle.lapi_audit.specs.Noted.{HasStates, stood}
use Rattle.lapi_audit.specs.Pending.{PendingStands}
use Rattle.lapi_audit.specs.Rounds.{RoundsStand}

-- the script is valid, each of its operations has a state, and the rounds are its rounds
pub record IsSeen (seen : Seen) : Type 0 where
  pub valid : ValidScript seen.setting.script.now
  pub states : HasStates seen.setting.script.now seen.table.now
  pub rounds : RoundsStand seen.setting.script.now seen.rounds.now

-- and the first statements whose data are under way are those of these states
abbrev pub PendingIsSeen : Seen → Type 0
PendingIsSeen seen = PendingStands seen.setting.script.now (stood seen.table.now) seen.turns.now.next.items seen.pending.now.first.items
