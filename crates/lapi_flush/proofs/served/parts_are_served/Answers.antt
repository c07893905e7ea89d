use Rattle.lapi_flush.proofs.ServedParts.{parts-served}
use Rattle.lapi_flush.proofs.served.parts_are_served.Goals as goal

pub returns : goal.returns
returns c = parts-served
