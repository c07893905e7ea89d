use Rattle.std.proofs.Common.{arith}
use Rattle.lapi_window.proofs.send_window.SendWindow.sent_end.Goals as goal

pub overflow_add-result : goal.overflow_add-result
overflow_add-result c =
    let base = c.least_absent.ensures.base in
    let len = c.len.ensures.len in
    let sent = c.self.invariant.sent.0 in
    let small = c.self.invariant.sent.1 in
    record { fits = omega (arith, base, len, sent, small) }
