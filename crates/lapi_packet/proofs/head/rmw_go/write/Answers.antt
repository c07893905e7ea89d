use Rattle.std.proofs.Common.{append_assoc}
use Rattle.lapi_packet.proofs.head.rmw_go.write.Goals as goal

pub returns-clause-bytes : goal.returns-clause-bytes
returns-clause-bytes c = rw (c.write.ensures, c.write_four-4.ensures, c.write_four-3.ensures, c.write_four-2.ensures, c.write_four.ensures, c.write_one.ensures, c.number_of.ensures) (simp append_assoc)
