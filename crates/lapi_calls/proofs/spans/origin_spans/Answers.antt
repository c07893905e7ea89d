use Rattle.std.proofs.Common.{ap, ◌∙◌, false}
use Rattle.lapi_base.specs.Record.Operations.{origin_pieces}
use Rattle.lapi_calls.specs.Reaches.{spans_of}
use Rattle.lapi_calls.proofs.HeadLaws.{spans-given, spans-at-origin}
use Rattle.lapi_calls.proofs.spans.origin_spans.Goals as goal

pub returns-clause-given : goal.returns-clause-given
returns-clause-given c = c.spans.ensures ∙ ap spans_of c.origins.ensures ∙ spans-given (λ _. false) (λ _ _. 0) 0 (origin_pieces c.args.statement.now)

pub returns-clause-spans : goal.returns-clause-spans
returns-clause-spans c = λ script d. returns-clause-given c ∙ spans-at-origin (λ _ _. 0) c.args.statement.now c.requires script 0 d
