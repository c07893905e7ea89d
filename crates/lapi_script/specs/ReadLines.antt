-- The lines of tasks as they are held while they are read.
use Rattle.std.specs.Prelude.{◌≡◌, false, Result, Ok, Err}
use Rattle.lapi_base.specs.declared.input.LineError.{LineError}
use Rattle.lapi_base.specs.declared.statement.Statement.{Statement}
use Rattle.lapi_base.specs.Input.Reading.{keeps_pieces}
use Rattle.lapi_script.specs.declared.fault.LineFault.{LineFault}
use Rattle.lapi_script.specs.declared.statements.ReadStatement.{ReadStatement}
use Rattle.lapi_script.specs.declared.statements.ReadStatement.TheVariants.{Held, TooManyPieces}
use Rattle.lapi_script.specs.Gives.{Fails}

-- a statement with more pieces than a vector may have
abbrev pub HasTooManyPieces : Result Statement LineError → Type 0
HasTooManyPieces (Ok s) = keeps_pieces s ≡ false
HasTooManyPieces (Err why) = ⊥

abbrev pub HoldsStatement : Result ReadStatement LineFault → Result Statement LineError → Type 0
HoldsStatement (Ok (Held s)) read = read ≡ Ok s
HoldsStatement (Ok TooManyPieces) read = HasTooManyPieces read
HoldsStatement (Err fault) read = Fails fault read
