use Rattle.lapi_script.proofs.TaskLineSteps.{too_many_pieces_line}
use Rattle.lapi_script.proofs.state.on_task_line.Goals as goal

pub returns-in-Statement : goal.returns-in-Statement
returns-in-Statement c read holds =
    let is = rw c.in-Statement.is at holds in
    rw is c.on_statement.ensures

pub returns-in-TooManyPieces : goal.returns-in-TooManyPieces
returns-in-TooManyPieces c read holds =
    let many = rw c.in-TooManyPieces.is at holds in
    too_many_pieces_line c.args.script c.args.current c.too_many_pieces.result c.too_many_pieces.ensures read many
