use Rattle.std.proofs.Common.{rules}
use Rattle.lapi_base.specs.declared.packet.Packet.TheVariants.{Data}
use Rattle.lapi_base.proofs.Spellings.{spelling_is}
use Rattle.lapi_task.proofs.packet.spelled_data.Goals as goal

pub returns-clause-bytes : goal.returns-clause-bytes
returns-clause-bytes c = let e = spelling_is (Data c.args.packet.now) c.encode_data.new.out c.encode_data.ensures in search (rules, e)
