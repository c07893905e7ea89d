use Rattle.lapi_parts.proofs.ExactBytes.{carried-fixed, put-of-number, handed-of-number}
use Rattle.lapi_parts.proofs.exact.packets_are_exact.Goals as goal

pub returns-clause-fixed : goal.returns-clause-fixed
returns-clause-fixed c = carried-fixed

pub returns-clause-put : goal.returns-clause-put
returns-clause-put c = put-of-number

pub returns-clause-handed : goal.returns-clause-handed
returns-clause-handed c = handed-of-number
