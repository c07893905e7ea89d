use Rattle.lapi_packet.proofs.Answering.{raw_spelled}
use Rattle.lapi_packet.proofs.encoding.encode.Goals as goal

pub returns : goal.returns
returns c = raw_spelled c.args.p.now c.write.new.out c.write.ensures c.requires
