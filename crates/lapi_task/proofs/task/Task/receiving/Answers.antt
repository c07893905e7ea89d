use Rattle.std.proofs.Common.{ap, ◌∙◌}
use Rattle.lapi_window.specs.RecvWindow.{Receiving, is_taken}
use Rattle.lapi_task.proofs.Standing.KeptAnswers.{lent-window}
use Rattle.lapi_task.proofs.task.Task.receiving.Goals as goal

pub returns : goal.returns
returns c = λ script rules t r stands known n.
    ap (λ (w : Receiving). is_taken w n) c.window.ensures
    ∙ lent-window script rules (r.handed c.args.a t) c.args.self.now.receivers.items c.args.a c.index.result.now (stands.receivers c.args.a known) c.index.ensures n
