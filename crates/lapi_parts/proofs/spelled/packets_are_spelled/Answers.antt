use Rattle.lapi_parts.proofs.SpelledPackets.{packets-placed, packets-have-layout, packets-spelled, packets-written}
use Rattle.lapi_parts.proofs.spelled.packets_are_spelled.Goals as goal

pub returns-clause-placed : goal.returns-clause-placed
returns-clause-placed c = packets-placed

pub returns-clause-layout : goal.returns-clause-layout
returns-clause-layout c = packets-have-layout

pub returns-clause-spelled : goal.returns-clause-spelled
returns-clause-spelled c = packets-spelled

pub returns-clause-written : goal.returns-clause-written
returns-clause-written c = packets-written
