use Rattle.std.proofs.Common.{◌≡◌, ◌+◌, ◌-◌, min, sym, ap, ◌∙◌, arith}
use Rattle.lapi_window.specs.SendWindow.{Sending, sent_count, base_of}
use Rattle.lapi_window.proofs.SendLaws.{sending-base}
use Rattle.lapi_window.proofs.send_window.SendWindow.room.Goals as goal

pub returns : goal.returns
returns c =
    let s : Sending = record { window = c.self.inside.window; numbers = c.self.inside.numbers; acked = c.self.inside.acked; packets = c.self.inside.packets.items } in
    let base = sending-base s c.self.inside.packets.capacity c.self.invariant in
    let room = c.self.invariant.room.0 in
    let sent = c.sent_end.ensures ∙ sym (ap sent_count c.self.view_is) in
    let len = c.len.ensures.len in
    let least = c.min.ensures in
    let same : c.min.result ≡ min (s.numbers - sent_count s) (base_of s + s.window - sent_count s) = omega (arith, base, room, sent, len, least) in
    same ∙ ap (λ (x : Sending). min (x.numbers - sent_count x) (base_of x + x.window - sent_count x)) c.self.view_is
