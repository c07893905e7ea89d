use Rattle.std.proofs.Common.{◌≡◌, Some, sym, ap, ◌∙◌}
use Rattle.lapi_base.specs.declared.packet.Packet.{Packet}
use Rattle.lapi_base.specs.declared.packet.Packet.TheVariants.{Data}
use Rattle.lapi_task.proofs.task.Task.receive.Goals as goal

pub returns-in_ok-arrive-in-Ok-Data-clause-effect : goal.returns-in_ok-arrive-in-Ok-Data-clause-effect
returns-in_ok-arrive-in-Ok-Data-clause-effect g c = λ script t k r p at known spells entry.
    let decoded = sym c.in-Ok-Data.is ∙ c.decode.ensures.only p spells in
    let same : p ≡ Data c.in-Ok-Data.packet = cc in
    c.in_ok-arrive-in-Ok-Data.ensures.effect script t k r at known (entry ∙ ap (λ (x : Packet). Some x) same)
