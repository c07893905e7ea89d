use Rattle.std.proofs.Common.{◌≡◌, map}
use Rattle.lapi_base.specs.Record.Operations.{numbers_below}
use Rattle.lapi_task.specs.Outgoing.{bytes_of, extended}
use Rattle.lapi_task.proofs.packet.append_message.Given as goal

-- so many fragments have their numbers, and the rest of the packet is as it was
abbrev pub invariant-loop-fragment : goal.invariant-loop-fragment
invariant-loop-fragment l = record {
  sent : l.sender ≡ extended l.fn.sender l.tag (map (bytes_of l.fn.packet l.unit l.fn.sender.window.numbers l.bytes) (numbers_below l.fragment));
  common : l.packet ≡ record l.fn.packet { seq = l.packet.seq; fragment = l.packet.fragment; payload = l.packet.payload };
}
