use Rattle.std.proofs.Common.{subst, sym}
use Rattle.std.proofs.lemmas.List.{append-nil}
use Rattle.lapi_io.specs.Writes.{Writes}
use Rattle.lapi_views.specs.Pcap.{pcap_record}
use Rattle.lapi_views.proofs.pcap.write_injected.Goals as goal

pub returns : goal.returns
returns g c =
    subst (λ text. Writes g.K.Sink.held g.K.Sink.faults g.K.Sink.room c.args.sink.now c.write_record.new.sink text c.write_record.result)
    (sym (append-nil (pcap_record c.args.n c.args.bytes.now)))
    c.write_record.ensures
