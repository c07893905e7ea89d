use Rattle.std.proofs.Common.{List, ℕ, ap, ◌∙◌}
use Rattle.lapi_base.proofs.Results.{on-ok}
use Rattle.lapi_link.specs.Sender.{appended}
use Rattle.lapi_task.proofs.packet.append.Goals as goal

pub returns : goal.returns
returns c = on-ok _ _ c.append.result (λ e. e ∙ ap (λ (bytes : List ℕ). appended c.args.sender.now bytes c.args.tag) c.in_ok-bytes.ensures.bytes) c.append.ensures
