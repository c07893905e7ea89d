use Rattle.std.proofs.Common.{◌≡◌, ◌-◌, length}
use Rattle.lapi_base.specs.Packet.Format.{reading, repeated}
use Rattle.lapi_base.specs.Packet.Fields.{covering_form, covering_span, left_behind}
use Rattle.lapi_base.proofs.FormLists.{with_front}
use Rattle.lapi_packet.proofs.spans.read_covering.Given as goal

abbrev pub invariant-loop-i : goal.invariant-loop-i
invariant-loop-i l = record {
  reads : with_front l.spans (reading (repeated covering_span left_behind l.left (l.count - l.i)) l.rest) ≡ reading (covering_form l.total l.count) l.bytes;
  len : length l.spans ≡ l.i;
}
