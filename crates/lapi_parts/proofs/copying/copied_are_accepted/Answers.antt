use Rattle.lapi_parts.proofs.Accepted.{all-accepted}
use Rattle.lapi_parts.proofs.copying.copied_are_accepted.Goals as goal

pub returns : goal.returns
returns c = all-accepted
