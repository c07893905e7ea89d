-- A line that is a statement.
use Rattle.std.proofs.Common.{◌≡◌, false, List, Result, Ok, Err, refl}
use Rattle.lapi_base.specs.declared.input.LineError.{LineError}
use Rattle.lapi_base.specs.declared.input.LineError.TheVariants.{Syntax}
use Rattle.lapi_base.specs.declared.statement.Statement.{Statement}
use Rattle.lapi_base.specs.declared.script.Script.{Script}
use Rattle.lapi_base.specs.Input.Forms.{and_then}
use Rattle.lapi_base.specs.Input.Forms as forms
use Rattle.lapi_base.specs.Input.Reading.{keeps_pieces, on_first_task, on_statement, on_task_line}
use Rattle.lapi_script.specs.declared.fault.LineFault.{LineFault}
use Rattle.lapi_script.specs.Gives.{Fails}
use Rattle.lapi_script.specs.declared.statements.ReadStatement.{ReadStatement}
use Rattle.lapi_script.specs.declared.statements.ReadStatement.TheVariants as read_statement
use Rattle.lapi_script.specs.declared.task_lines.TaskLine.{TaskLine}
use Rattle.lapi_script.specs.ReadLines.{HoldsStatement}
use Rattle.lapi_script.specs.TaskLines.{HoldsTaskLine, IsDone, LineHasTooManyPieces}

-- the line of a statement that is held, or has too many pieces
pub does : (read : ReadStatement) (line : TaskLine) (reading : Result Statement LineError) → HoldsStatement (Ok read) reading → IsDone read line
    → HoldsTaskLine (Ok line) (and_then reading (λ s. Ok (forms.StatementLine s)))
does (read_statement.Held s) line reading holds is = rw (holds, is) refl
does read_statement.TooManyPieces line (Ok s) holds is = rw is holds
does read_statement.TooManyPieces line (Err why) holds is = absurd holds

pub too_many_pieces_first : (script : Script) (reading : Result forms.TaskLine LineError) → LineHasTooManyPieces reading → and_then reading (on_first_task script) ≡ Err Syntax
too_many_pieces_first script (Ok (forms.StatementLine s)) many = refl
too_many_pieces_first script (Ok (forms.Task t)) many = absurd many
too_many_pieces_first script (Ok forms.Schedule) many = absurd many
too_many_pieces_first script (Err why) many = absurd many

-- what is wrong with the statement is wrong with its line
pub too_many_pieces_line : (script : Script) (current : List Statement) (fault : LineFault)
    → ((script : Script) (s : Statement) → keeps_pieces s ≡ false → Fails fault (on_statement script current s))
    → (reading : Result forms.TaskLine LineError) → LineHasTooManyPieces reading → Fails fault (and_then reading (on_task_line script current))
too_many_pieces_line script current fault wrong (Ok (forms.StatementLine s)) many = wrong script s many
too_many_pieces_line script current fault wrong (Ok (forms.Task t)) many = absurd many
too_many_pieces_line script current fault wrong (Ok forms.Schedule) many = absurd many
too_many_pieces_line script current fault wrong (Err why) many = absurd many
