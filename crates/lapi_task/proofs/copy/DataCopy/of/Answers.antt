use Rattle.std.proofs.Common.{sym, ◌∙◌}
use Rattle.lapi_base.specs.Record.Operations.{target}
use Rattle.lapi_task.proofs.Copying.CopyParts.{message-made, asks, brings}
use Rattle.lapi_task.proofs.copy.DataCopy.of.Goals as goal

pub returns-then-has_back : goal.returns-then-has_back
returns-then-has_back g c = λ script own call.
    let same = call.is_statement in
    let head = c.go_head.ensures script c.args.i call in
    let message = message-made script c.args.t c.args.i c.args.statement.now same c.args.layout c.peer.result c.message_length.result c.go_head.result c.new.result own c.peer.ensures c.message_length.ensures head c.new.ensures in
    asks script c.args.t c.args.i c.args.statement.now same _ c.new-then-has_back.result message (sym c.if-has_back.true ∙ c.has_back.ensures) c.new-then-has_back.ensures

pub returns : goal.returns
returns g c = λ script own call.
    let same = call.is_statement in
    let head = c.go_head.ensures script c.args.i call in
    let message = message-made script c.args.t c.args.i c.args.statement.now same c.args.layout c.peer.result c.message_length.result c.go_head.result c.new.result own c.peer.ensures c.message_length.ensures head c.new.ensures in
    brings script c.args.t c.args.i c.args.statement.now same _ c.origin_spans.result c.origin_counter.result message (sym c.if-has_back.false ∙ c.has_back.ensures) (c.origin_spans.ensures.spans script (target script c.args.t c.args.i)) c.origin_counter.ensures
