use Rattle.std.proofs.Common.{subst, sym}
use Rattle.lapi_base.specs.Output.CommandAnswers.{input_answer}
use Rattle.lapi_handlers.specs.Handlers.{rules_of}
use Rattle.lapi_views.specs.Answered.{CommandGives, asked_text}
use Rattle.lapi_views.proofs.Refusals.{refused_is}
use Rattle.lapi_views.proofs.command.answer_input.Goals as goal

pub returns-in-Ok-clause-answer : goal.returns-in-Ok-clause-answer
returns-in-Ok-clause-answer g c =
    subst (λ r. CommandGives (input_answer (asked_text (rules_of c.args.handlers.now) c.args.asked) r) (g.K.Sink.held c.args.sink.now) (g.K.Sink.held c.write_asked.new.sink) c.end.result) (sym c.in-Ok.ensures.exact) (c.end.ensures.answer _ _ _ c.write_asked.ensures.text)

pub returns-in-Err-clause-answer : goal.returns-in-Err-clause-answer
returns-in-Err-clause-answer g c = refused_is (asked_text (rules_of c.args.handlers.now) c.args.asked) c.in-Err.fault _ _ _ _ c.in-Err.ensures.exact c.refuse.ensures.answer
