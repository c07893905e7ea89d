-- The lines of tasks as they are held while they are read.
use Rattle.std.specs.Prelude.{◌≡◌, false, Result, Ok, Err}
use Rattle.lapi_base.specs.declared.input.LineError.{LineError}
use Rattle.lapi_base.specs.Input.Reading.{keeps_pieces}
use Rattle.lapi_base.specs.Input.Forms as forms
use Rattle.lapi_script.specs.declared.fault.LineFault.{LineFault}
use Rattle.lapi_script.specs.declared.statements.ReadStatement.{ReadStatement}
use Rattle.lapi_script.specs.declared.statements.ReadStatement.TheVariants as read_statement
use Rattle.lapi_script.specs.declared.task_lines.TaskLine.{TaskLine}
use Rattle.lapi_script.specs.declared.task_lines.TaskLine.TheVariants.{Task, Schedule, Statement, TooManyPieces}
use Rattle.lapi_script.specs.Gives.{Fails}

-- a statement with more pieces than a vector may have
abbrev pub LineHasTooManyPieces : Result forms.TaskLine LineError → Type 0
LineHasTooManyPieces (Ok (forms.StatementLine s)) = keeps_pieces s ≡ false
LineHasTooManyPieces (Ok _) = ⊥
LineHasTooManyPieces (Err why) = ⊥

abbrev pub HoldsTaskLine : Result TaskLine LineFault → Result forms.TaskLine LineError → Type 0
HoldsTaskLine (Ok (Task t)) read = read ≡ Ok (forms.Task t)
HoldsTaskLine (Ok Schedule) read = read ≡ Ok forms.Schedule
HoldsTaskLine (Ok (Statement s)) read = read ≡ Ok (forms.StatementLine s)
HoldsTaskLine (Ok TooManyPieces) read = LineHasTooManyPieces read
HoldsTaskLine (Err fault) read = Fails fault read

-- a line that is a statement
abbrev pub IsDone : ReadStatement → TaskLine → Type 0
IsDone (read_statement.Held s) line = line ≡ Statement s
IsDone read_statement.TooManyPieces line = line ≡ TooManyPieces
