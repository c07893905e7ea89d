use Rattle.std.proofs.Common.{ap, subst, ◌∙◌}
use Rattle.std.specs.Prelude.{slice_get}
use Rattle.lapi_base.specs.Record.WorldView.{view_record}
use Rattle.lapi_io.specs.Writes.{Writes}
use Rattle.lapi_views.specs.PcapParts.{cut_record}
use Rattle.lapi_views.proofs.Packets.{cut_entry}
use Rattle.lapi_views.proofs.pcap.write_cut.Goals as goal

pub returns : goal.returns
returns g c =
    subst (λ text. Writes g.K.Sink.held g.K.Sink.faults g.K.Sink.room c.args.sink.now c.write_front.new.sink text c.write_front.result)
    (ap (λ entries. cut_record c.args.n c.args.count (slice_get entries c.args.k)) (c.wire.ensures c.requires.spent) ∙ cut_entry c.args.n c.args.count ((view_record c.args.world.now).wire c.args.a c.args.b) c.args.k)
    c.write_front.ensures
