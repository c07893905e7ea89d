use Rattle.std.proofs.Common.{rules, ◌≡◌, length, ap, ◌∙◌, arith}
use Rattle.std.proofs.lemmas.List.{length-map}
use Rattle.lapi_base.specs.Packet.PacketBytes as written
use Rattle.lapi_base.specs.Record.WorldView.{view_record}
use Rattle.lapi_report.proofs.Counts.{sum_next}
use Rattle.lapi_report.proofs.summary.entries_from.Goals as goal

pub loop-b-preserved : goal.loop-b-preserved
loop-b-preserved c =
    let wire = (view_record c.args.world.now).wire c.args.a in
    let entries : length c.wire.result.now ≡ length (wire c.loop-b.b) = ap length (c.wire.ensures c.requires.spent) ∙ length-map (wire c.loop-b.b) written.packet in
    record {
      count = omega (arith, entries, sum_next (λ b. length (wire b)) c.loop-b.b, c.loop-b.invariant.count);
      few = search rules;
    }
