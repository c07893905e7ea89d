-- The operation at which an event lies, by its task and its statement.
use Rattle.std.specs.Prelude.{ℕ}
use Rattle.lapi_base.specs.Record.Names.{EventKey, Issued, Refused, Entered, Passed, Copied, Headed, Landed, Begun, Ended}

abbrev pub task_of : EventKey → ℕ
task_of (Issued a i) = a
task_of (Refused a i) = a
task_of (Entered a i) = a
task_of (Passed a i) = a
task_of (Copied m) = m.origin
task_of (Headed m) = m.origin
task_of (Landed m) = m.origin
task_of (Begun m) = m.origin
task_of (Ended m) = m.origin

abbrev pub statement_of : EventKey → ℕ
statement_of (Issued a i) = i
statement_of (Refused a i) = i
statement_of (Entered a i) = i
statement_of (Passed a i) = i
statement_of (Copied m) = m.statement
statement_of (Headed m) = m.statement
statement_of (Landed m) = m.statement
statement_of (Begun m) = m.statement
statement_of (Ended m) = m.statement
