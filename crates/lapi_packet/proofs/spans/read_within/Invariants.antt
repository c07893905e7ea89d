use Rattle.std.proofs.Common.{◌≡◌, ◌-◌, length}
use Rattle.lapi_base.specs.Packet.Format.{reading, repeated}
use Rattle.lapi_base.specs.Packet.Fields.{within_form, within_span, left_behind}
use Rattle.lapi_base.proofs.FormLists.{with_front}
use Rattle.lapi_packet.proofs.spans.read_within.Given as goal

abbrev pub invariant-loop : goal.invariant-loop
invariant-loop l = record {
  reads : with_front l.spans (reading (repeated within_span left_behind l.left (l.count - l.counter)) l.rest) ≡ reading (within_form l.most l.count) l.bytes;
  len : length l.spans ≡ l.counter;
}
