use Rattle.std.proofs.Common.{append_assoc}
use Rattle.lapi_packet.proofs.head.get_go.write.Goals as goal

pub returns-clause-bytes : goal.returns-clause-bytes
returns-clause-bytes c = rw (c.write-2.ensures, c.write.ensures, c.write_four-3.ensures, c.write_four-2.ensures, c.write_four.ensures) (simp append_assoc)
