use Rattle.std.proofs.Common.{sym, ap, ◌∙◌}
use Rattle.std.specs.Prelude.{option_map}
use Rattle.lapi_link.specs.Receiver.{unanswered, kept_answer}
use Rattle.lapi_reassembly.specs.Partials.{Gathering, partial}
use Rattle.lapi_task.specs.Answered.{answer_for}
use Rattle.lapi_task.proofs.Standing.KeptAnswers.{lent-partials, lent-answers}
use Rattle.lapi_task.proofs.task.Task.partials.Goals as goal

pub returns-clause-came : goal.returns-clause-came
returns-clause-came c = λ script rules t r stands known m.
    ap (λ (g : Gathering). option_map unanswered (partial g m)) c.partials.ensures
    ∙ lent-partials script rules (r.handed c.args.a t) c.args.self.now.receivers.items c.args.a c.index.result.now (stands.receivers c.args.a known) c.index.ensures m

pub returns-clause-answers : goal.returns-clause-answers
returns-clause-answers c = λ script rules t r stands known m.
    ap (λ (g : Gathering). kept_answer (partial g m)) c.partials.ensures
    ∙ lent-answers script rules (r.handed c.args.a t) c.args.self.now.receivers.items c.args.a c.index.result.now (stands.receivers c.args.a known) c.index.ensures m
    ∙ ap (λ (g : Gathering). answer_for rules (partial g m)) (sym c.partials.ensures)
