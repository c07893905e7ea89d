-- The rounds whose addresses a task knows, by the events so far.
use Rattle.std.specs.Prelude.{ℕ, Bool}
use Rattle.lapi_calls.specs.Setting.{rules_of}
use Rattle.lapi_audit.specs.declared.known.Known.{Known}
use Rattle.lapi_audit.specs.Noted.{stood}
use Rattle.lapi_audit.specs.Turns as turns

abbrev pub known_to : Known → (round : ℕ) → Bool
known_to known = turns.knows known.seen.setting.script.now (rules_of known.seen.setting) (stood known.seen.table.now) known.task
