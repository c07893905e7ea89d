use Rattle.std.proofs.Common.{◌≡◌, ◌+◌, ◌*◌, ◌++◌, length, take}
use Rattle.lapi_base.specs.Packet.PacketBytes as written
use Rattle.lapi_packet.proofs.spans.write.Given as goal

abbrev pub invariant-loop-span : goal.invariant-loop-span
invariant-loop-span l = record {
  bytes : l.out ≡ l.initial.out ++ written.spans (take l.span-index l.spans);
  room : length l.out ≡ length l.initial.out + 8 * l.span-index;
}
