use Rattle.std.proofs.Common.{Some, ap, subst, sym, ◌∙◌}
use Rattle.lapi_tool.specs.Answered.{IsAnswered}
use Rattle.lapi_tool.proofs.OutOfMemory.{out-of-memory}
use Rattle.lapi_tool.proofs.Reported.{reported}
use Rattle.lapi_handlers.specs.Handlers.{rules_of}
use Rattle.lapi_tool.proofs.command.run.Goals as goal

pub returns-in-Ok-Some-Read-clause-headline : goal.returns-in-Ok-Some-Read-clause-headline
returns-in-Ok-Some-Read-clause-headline g c = λ words ok.
    let asked = sym (c.in-Ok-Some-Read.field-0-is ∙ ap Some c.in-Ok-Some-Read.field-0-0-is) ∙ c.in-Ok-Some-Read.ensures ∙ words in
    reported c.text_laws.ensures.found c.journal_is_atomic.ensures.in_time c.quiet_is_tested.ensures c.delivered_is_final.ensures.complete c.delivered_is_final.ensures.still (rules_of c.args.handlers.now) _ _ _ _ c.read_and_answer-in-Ok-Some-Read.result
    (subst (λ command. IsAnswered (rules_of c.args.handlers.now) command (g.S.Source.left c.args.source.now) (g.S.Source.left c.read_and_answer-in-Ok-Some-Read.new.source) (g.K.Sink.held c.args.sink.now) (g.K.Sink.held c.read_and_answer-in-Ok-Some-Read.new.sink) c.read_and_answer-in-Ok-Some-Read.result) asked c.read_and_answer-in-Ok-Some-Read.ensures.answer)
    ok

pub returns-in-Err-clause-answer : goal.returns-in-Err-clause-answer
returns-in-Err-clause-answer g c = out-of-memory (rules_of c.args.handlers.now) _ (g.S.Source.left c.args.source.now) (g.K.Sink.held c.args.sink.now)
