use Rattle.lapi_parts.proofs.WrittenMemory.{come-whole, all-whole}
use Rattle.lapi_parts.proofs.memory.messages_come_whole.Goals as goal

pub returns-clause-bytes : goal.returns-clause-bytes
returns-clause-bytes c = come-whole

pub returns-clause-landed : goal.returns-clause-landed
returns-clause-landed c = all-whole
