use Rattle.std.proofs.Common.{◌≡◌, ◌%◌, ◌^◌, ◌<◌, ◌∙◌, sym, subst}
use Rattle.lapi_link.specs.Receiver.{ReceivingEnd, ReceivesFor}
use Rattle.lapi_link.proofs.LeastNumbers.{base-is, bits-are, bits-fit}
use Rattle.lapi_link.proofs.receiver.Receiver.ack.Goals as goal

pub returns-clause-packets : goal.returns-clause-packets
returns-clause-packets c = λ script ps receives.
    let w = c.self.inside.window in
    let end = subst (λ (s : ReceivingEnd). ReceivesFor script s ps) (sym c.self.view_is) receives in
    (c.ack.ensures.base ∙ base-is w ps end.taken end.numbers, c.ack.ensures.bits ∙ bits-are w ps _ end.window end.taken end.numbers)

pub returns-clause-fits : goal.returns-clause-fits
returns-clause-fits c =
    let w = c.self.inside.window in
    subst (λ (s : ReceivingEnd). (c.ack.result.1 < 2 ^ s.window.window) × (c.ack.result.1 % 2 ≡ 0)) c.self.view_is
    (bits-fit w c.ack.result.0 c.ack.result.1 c.ack.ensures.base c.ack.ensures.bits c.ack.ensures.absent)
