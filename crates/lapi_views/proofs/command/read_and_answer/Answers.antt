use Rattle.std.proofs.Common.{◌≡◌, Err, ap, inr, subst, sym, arith}
use Rattle.std.specs.Prelude.{length}
use Rattle.lapi_base.specs.Output.CommandAnswers.{input_answer}
use Rattle.lapi_views.specs.Answered.{CommandGives, asked_text}
use Rattle.lapi_views.proofs.Refusals.{too_long}
use Rattle.lapi_handlers.specs.Handlers.{rules_of}
use Rattle.lapi_views.proofs.command.read_and_answer.Goals as goal

pub returns-in-Err-Long-clause-answer : goal.returns-in-Err-Long-clause-answer
returns-in-Err-Long-clause-answer g c =
    let long = c.in-Err-Long.ensures.long (ap Err c.in-Err-Long.field-0-is) in
    let count : length long.0 ≡ 4194305 = long.1 in
    inr (long.0, (long.2, omega (arith, count), λ short. absurd (omega (arith, count, short))), subst (λ r. CommandGives (input_answer (asked_text (rules_of c.args.handlers.now) c.args.asked) r) (g.K.Sink.held c.args.sink.now) (g.K.Sink.held c.refuse.new.sink) c.refuse.result) (sym (too_long long.0 count)) c.refuse.ensures.answer)
