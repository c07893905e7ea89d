use Rattle.std.proofs.Common.{ap, subst, ◌∙◌}
use Rattle.std.specs.Prelude.{slice_get}
use Rattle.lapi_base.specs.Record.WorldView.{view_record}
use Rattle.lapi_io.specs.Writes.{Writes}
use Rattle.lapi_views.specs.PcapParts.{whole_record}
use Rattle.lapi_views.proofs.Packets.{whole_entry}
use Rattle.lapi_views.proofs.pcap.write_entry.Goals as goal

pub returns : goal.returns
returns g c =
    subst (λ text. Writes g.K.Sink.held g.K.Sink.faults g.K.Sink.room c.args.sink.now c.write_whole.new.sink text c.write_whole.result)
    (ap (λ entries. whole_record c.args.n (slice_get entries c.args.k)) (c.wire.ensures c.requires.spent) ∙ whole_entry c.args.n ((view_record c.args.world.now).wire c.args.a c.args.b) c.args.k)
    c.write_whole.ensures
