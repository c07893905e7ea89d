use Rattle.lapi_task.proofs.Receiving.WiresCome.{wires-come}
use Rattle.lapi_task.proofs.law.wires_may_come.Goals as goal

pub returns : goal.returns
returns c = wires-come c.what_arrives_may_be_taken.ensures.taken c.what_arrives_may_be_taken.ensures.whole
