use Rattle.lapi_parts.proofs.WrittenMemory.{carried-have-length, all-bytes, buffers-held}
use Rattle.lapi_parts.proofs.memory.bytes_stay_bytes.Goals as goal

pub returns-clause-length : goal.returns-clause-length
returns-clause-length c = carried-have-length

pub returns-clause-bytes : goal.returns-clause-bytes
returns-clause-bytes c = all-bytes

pub returns-clause-buffers : goal.returns-clause-buffers
returns-clause-buffers c = buffers-held
