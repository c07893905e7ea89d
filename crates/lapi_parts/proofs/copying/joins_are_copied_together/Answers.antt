use Rattle.lapi_parts.proofs.CopiedJoins.{joins-together}
use Rattle.lapi_parts.proofs.copying.joins_are_copied_together.Goals as goal

pub returns : goal.returns
returns c = joins-together
