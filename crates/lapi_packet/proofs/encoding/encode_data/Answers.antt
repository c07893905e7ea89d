use Rattle.lapi_base.specs.declared.packet.Packet.TheVariants.{Data}
use Rattle.lapi_packet.proofs.Answering.{raw_spelled}
use Rattle.lapi_packet.proofs.encoding.encode_data.Goals as goal

pub returns : goal.returns
returns c = raw_spelled (Data c.args.p.now) c.write.new.out c.write.ensures c.requires
