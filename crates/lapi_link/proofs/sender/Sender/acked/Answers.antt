use Rattle.std.proofs.Common.{◌-◌, drop, refl, ap, ◌∙◌, subst}
use Rattle.std.proofs.lemmas.Bool.{or_right}
use Rattle.lapi_window.specs.NumberSet.{is_covered}
use Rattle.lapi_window.specs.SendWindow.{is_acked}
use Rattle.lapi_link.specs.Sender.{SendingEnd, IsAcked}
use Rattle.lapi_link.proofs.SenderLaws.{none-new, tags-stay, tagged-still}
use Rattle.lapi_link.proofs.sender.Sender.acked.Goals as goal

pub returns-clause-acked : goal.returns-clause-acked
returns-clause-acked c =
    let old : SendingEnd = record { window = c.self.inside.window; waiting = c.self.inside.waiting.items; tags = c.self.inside.tags.items } in
    let new : SendingEnd = record { window = c.acked.new.self; waiting = c.self.inside.waiting.items; tags = c.drop_front.new.tags.items } in
    let w = c.acked.ensures in
    let dropped = c.drop_front.ensures ∙ ap (λ k. drop (k - c.base-first.result) old.tags) c.base.ensures.base ∙ ap (λ k. drop (new.window.acked.base - k) old.tags) c.base-first.ensures.base in
    subst (λ (s : SendingEnd). IsAcked s new c.args.base c.args.bits) c.self.view_is
    (record {
      acked = w.acked;
      bytes = w.bytes;
      sent = w.sent;
      numbers = w.same.0;
      size = w.same.1;
      waiting = refl;
      tags = tags-stay old new w.base dropped;
      tagged = tagged-still old new c.self.invariant w.base w.sent w.same.0 dropped;
    })

pub returns-clause-once : goal.returns-clause-once
returns-clause-once c =
    let new : SendingEnd = record { window = c.acked.new.self; waiting = c.self.inside.waiting.items; tags = c.drop_front.new.tags.items } in
    none-new new c.args.base c.args.bits (λ n covered. c.acked.ensures.acked n ∙ or_right (is_acked c.self.inside.window n) (is_covered c.args.base c.args.bits n) covered)
