use Rattle.std.proofs.Common.{◌≡◌, ℕ, [], ◌∷◌, ◌++◌, List, Some, sym, ap, ◌∙◌, arith, append-nil}
use Rattle.lapi_base.specs.declared.wire.WireEntry.{WireEntry}
use Rattle.lapi_window.specs.SendWindow.{sent_count, bytes_of, packet_of}
use Rattle.lapi_link.specs.Sender.{SendingEnd, entries_to}
use Rattle.lapi_link.proofs.SenderLaws.{gives_below, below-none-yet, below-all-sent, resent-one, resent-none}
use Rattle.lapi_link.proofs.sender.Sender.resend.Goals.{in-Some+in_ok-bytes+in_ok-push, in_default}
use Rattle.lapi_link.proofs.sender.Sender.resend.Goals as goal

pub loop-number-init : goal.loop-number-init
loop-number-init c =
    let w = c.args.self.now.window in
    let base : c.base-number.result ≡ w.acked.base = c.base-number.ensures.base ∙ ap (λ (s : SendingEnd). s.window.acked.base) c.self.view_is in
    let none = ap (gives_below (bytes_of w) w) base ∙ below-none-yet (bytes_of w) w in
    sym (append-nil c.args.entries.now) ∙ ap (λ (bs : List (List ℕ)). c.args.entries.now ++ entries_to c.args.to bs) (sym none)

pub loop-number-preserved : goal.loop-number-preserved
loop-number-preserved c =
    let w = c.args.self.now.window in
    let n = c.loop-number.number in
    let told = sym (ap (λ (s : SendingEnd). packet_of s.window n) c.self.view_is) in
    elim c.match-packet.branch [
      | in-Some+in_ok-bytes+in_ok-push v ↦
          v.entries-is
          ∙ v.in_ok-push.ensures.ok
          ∙ ap (λ (es : List WireEntry). es ++ record { to = c.args.to; bytes = v.in_ok-bytes.bytes } ∷ []) c.loop-number.invariant
          ∙ resent-one c.args.entries.now c.args.to w n v.in_ok-bytes.bytes (told ∙ sym v.in-Some.ensures ∙ ap (λ (b : List ℕ). Some b) (sym v.in_ok-bytes.ensures))
      | in_default v ↦
          v.entries-is ∙ c.loop-number.invariant ∙ resent-none c.args.entries.now c.args.to w n (told ∙ sym v.in_default.ensures)
    ]

pub returns : goal.returns
returns c =
    let w = c.args.self.now.window in
    let least = c.base-number.ensures.base in
    let last = c.sent_end-number-end.ensures in
    let past = c.loop-number-test.false in
    let within = c.loop-number.auto.number-end (omega (arith, least, last)) in
    let whole = c.self.invariant.whole in
    let same = ap (λ (s : SendingEnd). sent_count s.window) c.self.view_is in
    let end : c.loop-number.number ≡ sent_count w = omega (arith, past, within, last, same) in
    let all = ap (λ (s : SendingEnd). s.window.numbers) c.self.view_is in
    c.loop-number.invariant ∙ ap (λ (bs : List (List ℕ)). c.args.entries.now ++ entries_to c.args.to bs) (ap (gives_below (bytes_of w) w) end ∙ below-all-sent (bytes_of w) w (omega (arith, whole, same, all)))
