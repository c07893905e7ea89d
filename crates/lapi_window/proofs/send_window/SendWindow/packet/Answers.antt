use Rattle.std.proofs.Common.{◌-◌, slice_get, sym, ap, ◌∙◌, arith}
use Rattle.lapi_window.specs.SendWindow.{Sending, is_unacked, packet_of}
use Rattle.lapi_window.proofs.SendLaws.{packet-kept, unacked-above, copied-map}
use Rattle.lapi_window.proofs.send_window.SendWindow.packet.Goals as goal

pub overflow_sub-number : goal.overflow_sub-number
overflow_sub-number c =
    let above = unacked-above c.args.self.now c.args.number (sym c.is_unacked.ensures ∙ c.if-not-is_unacked.false) in
    let base = ap (λ (x : Sending). x.acked.base) c.self.view_is in
    let least = c.least_absent.ensures.base in
    omega (arith, above, least, base)

pub returns : goal.returns
returns c =
    let s : Sending = record { window = c.self.inside.window; numbers = c.self.inside.numbers; acked = c.self.inside.acked; packets = c.self.inside.packets.items } in
    copied-map c.get.result
    ∙ c.get.ensures
    ∙ ap (λ k. slice_get c.self.inside.packets.items (c.args.number - k)) c.least_absent.ensures.base
    ∙ sym (packet-kept s c.args.number (ap (λ (x : Sending). is_unacked x c.args.number) c.self.view_is ∙ sym c.is_unacked.ensures ∙ c.if-not-is_unacked.false))
    ∙ ap (λ (x : Sending). packet_of x c.args.number) c.self.view_is
