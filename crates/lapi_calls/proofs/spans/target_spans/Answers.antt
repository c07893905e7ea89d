use Rattle.std.proofs.Common.{ap, ◌∙◌}
use Rattle.lapi_base.specs.Record.Operations.{target_pieces}
use Rattle.lapi_calls.specs.Reaches.{spans_of}
use Rattle.lapi_calls.proofs.HeadLaws.{spans-given, spans-told}
use Rattle.lapi_calls.proofs.spans.target_spans.Goals as goal

pub returns-clause-given : goal.returns-clause-given
returns-clause-given g c =
    c.spans.ensures ∙ ap spans_of c.targets.ensures ∙ spans-given (g.E.Entries.is_known c.args.entries.now) (g.E.Entries.given c.args.entries.now) c.args.d (target_pieces c.args.statement.now)

pub returns-clause-spans : goal.returns-clause-spans
returns-clause-spans g c = λ script same told.
    returns-clause-given g c ∙ spans-told script (g.E.Entries.is_known c.args.entries.now) (g.E.Entries.given c.args.entries.now) same c.args.d (target_pieces c.args.statement.now) told
