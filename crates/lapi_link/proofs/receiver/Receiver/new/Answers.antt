use Rattle.std.proofs.Common.{sym, ◌∙◌}
use Rattle.lapi_link.proofs.ArrivalLaws.{nothing-came}
use Rattle.lapi_link.proofs.receiver.Receiver.new.Goals as goal

pub returns : goal.returns
returns c = λ script window unit.
    nothing-came script c.new-window.result c.in_ok-partials.partials
    (c.new-window.ensures.window ∙ sym window)
    (c.in_ok-partials.ensures.sizes.0 ∙ sym window, c.in_ok-partials.ensures.sizes.1 ∙ sym unit)
    c.new-window.ensures.none c.in_ok-partials.ensures.none
