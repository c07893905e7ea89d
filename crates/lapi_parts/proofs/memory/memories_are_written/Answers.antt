use Rattle.lapi_parts.proofs.WrittenMemory.{others-nothing, stores-write, landings-write, ends-write}
use Rattle.lapi_parts.proofs.memory.memories_are_written.Goals as goal

pub returns-clause-others : goal.returns-clause-others
returns-clause-others c = others-nothing

pub returns-clause-stores : goal.returns-clause-stores
returns-clause-stores c = stores-write

pub returns-clause-landings : goal.returns-clause-landings
returns-clause-landings c = landings-write

pub returns-clause-ends : goal.returns-clause-ends
returns-clause-ends c = ends-write
