use Rattle.std.proofs.Common.{◌≡◌, ◌+◌, ◌≤◌, length}
use Rattle.lapi_link.specs.Sender.{covered_tag}
use Rattle.lapi_link.proofs.SenderLaws.{gives_below}
use Rattle.lapi_link.proofs.sender.Sender.newly_acked.Given as goal

abbrev pub invariant-loop-number : goal.invariant-loop-number
invariant-loop-number l = record {
  tags : l.tags ≡ gives_below (covered_tag l.self l.base l.bits) l.self.window l.number;
  short : l.self.window.acked.base + length l.tags ≤ l.number;
}
