use Rattle.std.proofs.Common.{◌≡◌, ◌++◌}
use Rattle.lapi_window.specs.SendWindow.{bytes_of}
use Rattle.lapi_link.specs.Sender.{entries_to}
use Rattle.lapi_link.proofs.SenderLaws.{gives_below}
use Rattle.lapi_link.proofs.sender.Sender.resend.Given as goal

abbrev pub invariant-loop-number : goal.invariant-loop-number
invariant-loop-number l = l.entries ≡ l.fn.entries ++ entries_to l.to (gives_below (bytes_of l.self.window) l.self.window l.number)
