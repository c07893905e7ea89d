use Rattle.std.proofs.Common.{subst, rules}
use Rattle.lapi_handlers.specs.Handlers.{rules_of}
use Rattle.lapi_io.specs.Writes.{Wrote}
use Rattle.lapi_views.proofs.AllTaken.{all_packets}
use Rattle.lapi_views.proofs.command.write_packets.Goals as goal

pub returns : goal.returns
returns g c = record {
  text = subst (λ text. Wrote (g.K.Sink.held c.args.sink.now) (g.K.Sink.held c.write_pcap.new.sink) text c.write_pcap.result) (all_packets (rules_of c.args.handlers.now) c.args.input c.in_ok-world.world c.in_ok-world.ensures c.lines_are_taken.ensures.whole) c.write_pcap.ensures.written.text;
  cause = search rules;
  room = search rules;
}
