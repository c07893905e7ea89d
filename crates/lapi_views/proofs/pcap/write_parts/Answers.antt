use Rattle.std.proofs.Common.{rules}
use Rattle.lapi_views.specs.Pcap.{pcap_bytes}
use Rattle.lapi_views.proofs.Progress.{refused, stops_early, then_wrote}
use Rattle.lapi_views.proofs.pcap.write_parts.Goals as goal

pub returns-in_err-write_all : goal.returns-in_err-write_all
unfolding pcap_bytes
returns-in_err-write_all g c = record {
  text = refused _ _ _ _ c.from_residual.ensures.0 (stops_early _ _ _ _ c.in_err-write_all.ensures.text);
  cause = search rules;
  room = search rules;
}

pub returns : goal.returns
unfolding pcap_bytes
returns g c =
    let lines = rw (c.taken.ensures, c.replies.ensures c.requires) at c.write_lines.ensures.text in
    record {
      text = then_wrote _ _ _ _ _ _ c.in_ok-write_all.ensures.text lines;
      cause = search rules;
      room = search rules;
    }
