use Rattle.std.proofs.Common.{◌∙◌}
use Rattle.lapi_calls.specs.Heads.{go_head_by}
use Rattle.lapi_calls.proofs.HeadLaws.{go-head-told}
use Rattle.lapi_calls.proofs.head.go_head.Goals as goal

pub returns : goal.returns
returns g c = λ script i call.
    let given = g.E.Entries.given c.args.entries.now in
    let s = c.args.statement.now in
    c.head_to.ensures
    ∙ (λ k. go_head_by given (c.peer.ensures k) s)
    ∙ go-head-told script (g.E.Entries.is_known c.args.entries.now) given c.args.task i s call c.requires.statement.0 c.requires.statement.1 c.requires.sendable
