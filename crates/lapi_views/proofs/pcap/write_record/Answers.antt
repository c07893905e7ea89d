use Rattle.std.proofs.Common.{rules}
use Rattle.lapi_views.specs.Pcap.{pcap_record}
use Rattle.lapi_views.proofs.Progress.{refused, stops_early, then_wrote}
use Rattle.lapi_views.proofs.pcap.write_record.Goals as goal

pub returns-in_err-write_all : goal.returns-in_err-write_all
unfolding pcap_record
returns-in_err-write_all g c = record {
  text = refused _ _ _ _ c.from_residual.ensures.0 (stops_early _ _ _ c.args.bytes.now (rw c.record_head.ensures at c.in_err-write_all.ensures.text));
  cause = search rules;
  room = search rules;
}

pub returns : goal.returns
unfolding pcap_record
returns g c = record {
  text = then_wrote _ _ _ _ _ _ (rw c.record_head.ensures at c.in_ok-write_all.ensures.text) c.write_all-2.ensures.text;
  cause = search rules;
  room = search rules;
}
