use Rattle.std.proofs.Common.{map, ap, ◌∙◌}
use Rattle.lapi_base.specs.Record.Operations.{target_pieces, origin_pieces}
use Rattle.lapi_base.specs.Record.Refusals.{first_reason}
use Rattle.lapi_calls.specs.Reaches.{reach_of}
use Rattle.lapi_calls.specs.Reasons.{reach_tests}
use Rattle.lapi_calls.proofs.reason.reason_by_reach.Goals as goal

pub returns : goal.returns
returns g c =
    let known = g.E.Entries.is_known c.args.entries.now in
    let given = g.E.Entries.given c.args.entries.now in
    let limits = c.args.limits.now in
    let s = c.args.statement.now in
    c.first_reason.ensures
    ∙ ap first_reason (c.tests.ensures
    ∙ (λ k. reach_tests limits (c.targets-to.ensures k) (c.origins-from.ensures k) s)
    ∙ (λ k. reach_tests limits (map (reach_of known given (c.peer-target.ensures k)) (target_pieces s)) (map (reach_of known given (c.peer-target.ensures k)) (origin_pieces s)) s))
