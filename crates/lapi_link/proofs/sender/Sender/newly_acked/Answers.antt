use Rattle.std.proofs.Common.{◌≡◌, ℕ, [], ◌∷◌, ◌++◌, List, Option, length, sym, ap, ◌∙◌, arith, append-nil, length-append}
use Rattle.std.specs.List.{cons_option}
use Rattle.lapi_window.specs.SendWindow.{sent_count}
use Rattle.lapi_link.specs.Sender.{SendingEnd, covered_tag}
use Rattle.lapi_link.proofs.SenderLaws.{gives_below, below-none-yet, below-one-more, below-all-sent}
use Rattle.lapi_link.proofs.sender.Sender.newly_acked.Goals.{in-Some, in_default}
use Rattle.lapi_link.proofs.sender.Sender.newly_acked.Goals as goal

pub loop-number-init : goal.loop-number-init
loop-number-init c =
    let w = c.args.self.now.window in
    let f = covered_tag c.args.self.now c.args.base c.args.bits in
    let base : c.base-number.result ≡ w.acked.base = c.base-number.ensures.base ∙ ap (λ (s : SendingEnd). s.window.acked.base) c.self.view_is in
    let empty = ap length c.new-tags.ensures in
    record {
      tags = c.new-tags.ensures ∙ sym (ap (gives_below f w) base ∙ below-none-yet f w);
      short = omega (arith, base, empty);
    }

pub loop-number-preserved : goal.loop-number-preserved
loop-number-preserved c =
    let w = c.args.self.now.window in
    let n = c.loop-number.number in
    let f = covered_tag c.args.self.now c.args.base c.args.bits in
    let more = below-one-more f w n in
    let with = λ (o : Option ℕ). gives_below f w n ++ cons_option o [] in
    let short = c.loop-number.invariant.short in
    elim c.match-newly_covered_tag.branch [
      | in-Some v ↦
          let pushed = v.tags-is ∙ v.push.ensures in
          let len = ap length pushed in
          let sum = length-append c.loop-number.tags (v.in-Some.tag ∷ []) in
          record {
            tags = pushed ∙ ap (λ (xs : List ℕ). xs ++ v.in-Some.tag ∷ []) c.loop-number.invariant.tags ∙ sym (more ∙ ap with (sym c.newly_covered_tag.ensures ∙ v.in-Some.is));
            short = omega (arith, len, sum, short);
          }
      | in_default v ↦
          let len = ap length v.tags-is in
          record {
            tags = v.tags-is ∙ c.loop-number.invariant.tags ∙ sym (more ∙ ap with (sym c.newly_covered_tag.ensures ∙ v.in_default.is) ∙ append-nil (gives_below f w n));
            short = omega (arith, len, short);
          }
    ]

pub returns : goal.returns
returns c =
    let w = c.args.self.now.window in
    let f = covered_tag c.args.self.now c.args.base c.args.bits in
    let least = c.base-number.ensures.base in
    let last = c.sent_end-number-end.ensures in
    let past = c.loop-number-test.false in
    let within = c.loop-number.auto.number-end (omega (arith, least, last)) in
    let whole = c.self.invariant.whole in
    let same = ap (λ (s : SendingEnd). sent_count s.window) c.self.view_is in
    let end : c.loop-number.number ≡ sent_count w = omega (arith, past, within, last, same) in
    let all = ap (λ (s : SendingEnd). s.window.numbers) c.self.view_is in
    c.loop-number.invariant.tags ∙ ap (gives_below f w) end ∙ below-all-sent f w (omega (arith, whole, same, all))
