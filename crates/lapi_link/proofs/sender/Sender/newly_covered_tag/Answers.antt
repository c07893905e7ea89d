use Rattle.std.proofs.Common.{◌≤◌, ◌-◌, None, sym, ap, ◌∙◌, arith}
use Rattle.std.specs.Prelude.{slice_index_or}
use Rattle.std.proofs.lemmas.Bool.{cond-true}
use Rattle.lapi_window.specs.SendWindow.{is_unacked}
use Rattle.lapi_link.specs.Sender.{SendingEnd, covered_tag, newly_covered_tag}
use Rattle.lapi_link.proofs.SenderLaws.{covered-at}
use Rattle.lapi_link.proofs.sender.Sender.newly_covered_tag.Goals as goal

pub returns : goal.returns
returns c =
    let s : SendingEnd = record { window = c.self.inside.window; waiting = c.self.inside.waiting.items; tags = c.self.inside.tags.items } in
    let n = c.args.number in
    let base = ap (λ (x : SendingEnd). x.window.acked.base) c.self.view_is in
    let above = c.requires in
    let le : s.window.acked.base ≤ n = omega (arith, base, above) in
    c.tag_at.ensures
    ∙ ap (λ k. slice_index_or c.self.inside.tags.items (n - k) None) c.base.ensures.base
    ∙ covered-at s c.args.base c.args.bits n (sym c.if-not-covers.ensures) le
    ∙ sym (cond-true (is_unacked s.window n) (covered_tag s c.args.base c.args.bits n) None (sym c.is_unacked.ensures ∙ c.if-not-is_unacked.false))
    ∙ ap (λ (x : SendingEnd). newly_covered_tag x c.args.base c.args.bits n) c.self.view_is
