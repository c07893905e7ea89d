use Rattle.std.proofs.Common.{sym, ◌∙◌}
use Rattle.lapi_calls.proofs.CallLaws.{sendable, reason-told, reason-after}
use Rattle.lapi_calls.proofs.reason.refusal_of.Goals as goal

pub returns-clause-told : goal.returns-clause-told
returns-clause-told g c = λ script rules i same call.
    c.reason_by_reach.ensures
    ∙ reason-told (g.E.Entries.is_known c.args.entries.now) (g.E.Entries.given c.args.entries.now) c.args.limits.now c.args.task c.args.statement.now c.requires.statement script rules i same call

pub returns-clause-after : goal.returns-clause-after
returns-clause-after g c = λ script rules J i same call knows.
    returns-clause-told g c script rules i same call ∙ reason-after script rules J (g.E.Entries.is_known c.args.entries.now) c.args.task i knows

pub returns-clause-sendable : goal.returns-clause-sendable
returns-clause-sendable g c = λ none.
    sendable (g.E.Entries.is_known c.args.entries.now) (g.E.Entries.given c.args.entries.now) c.args.limits.now c.args.task c.args.statement.now c.requires.statement (sym c.reason_by_reach.ensures ∙ none)
