use Rattle.std.proofs.Common.{rules}
use Rattle.lapi_base.proofs.Spellings.{spelling_is}
use Rattle.lapi_task.proofs.packet.spelled.Goals as goal

pub returns-clause-bytes : goal.returns-clause-bytes
returns-clause-bytes c = let e = spelling_is c.args.packet.now c.encode.new.out c.encode.ensures in search (rules, e)
