use Rattle.std.proofs.Common.{sym, ap, ◌∙◌}
use Rattle.lapi_window.specs.SendWindow.{Sending, base_of}
use Rattle.lapi_window.proofs.SendLaws.{sending-base}
use Rattle.lapi_window.proofs.send_window.SendWindow.base.Goals as goal

pub returns-clause-least : goal.returns-clause-least
returns-clause-least c =
    let s : Sending = record { window = c.self.inside.window; numbers = c.self.inside.numbers; acked = c.self.inside.acked; packets = c.self.inside.packets.items } in
    c.least_absent.ensures.base ∙ sym (sending-base s c.self.inside.packets.capacity c.self.invariant) ∙ ap base_of c.self.view_is
