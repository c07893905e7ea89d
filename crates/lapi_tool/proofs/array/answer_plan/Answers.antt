use Rattle.std.proofs.Common.{subst, sym, refl}
use Rattle.lapi_tool.specs.Arrays.{plan_answer}
use Rattle.lapi_tool.specs.Outcomes.{CommandGives}
use Rattle.lapi_tool.proofs.Refusals.{refused_is}
use Rattle.lapi_tool.proofs.array.answer_plan.Goals as goal

pub returns-in-Ok-clause-answer : goal.returns-in-Ok-clause-answer
returns-in-Ok-clause-answer g c =
    subst (λ r. CommandGives (plan_answer r) (g.K.Sink.held c.args.sink.now) (g.K.Sink.held c.write_plan.new.sink) c.end.result) (sym c.in-Ok.ensures.exact) (c.end.ensures.answer _ _ _ c.write_plan.ensures.text)

pub returns-in-Err-clause-answer : goal.returns-in-Err-clause-answer
returns-in-Err-clause-answer g c = refused_is plan_answer (λ fault. refl) c.in-Err.fault _ _ _ _ c.in-Err.ensures.exact c.refuse.ensures.answer
