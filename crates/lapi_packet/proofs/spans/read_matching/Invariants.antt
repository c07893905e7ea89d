use Rattle.std.proofs.Common.{◌≡◌, ◌-◌, length, drop}
use Rattle.lapi_base.specs.Packet.Format.{reading, repeated}
use Rattle.lapi_base.specs.Packet.Fields.{matching_form, matching_span, behind}
use Rattle.lapi_base.proofs.FormLists.{with_front}
use Rattle.lapi_packet.proofs.spans.read_matching.Given as goal

abbrev pub invariant-loop-other : goal.invariant-loop-other
invariant-loop-other l = record {
  reads : with_front l.spans (reading (repeated matching_span behind (drop l.other-index l.others) (length l.others - l.other-index)) l.rest) ≡ reading (matching_form l.others) l.bytes;
  len : length l.spans ≡ l.other-index;
}
