-- Where nothing was written, a front of every text was.
use Rattle.std.proofs.Common.{ℕ, List, [], refl, Option}
use Rattle.lapi_base.proofs.Appended.{nothing_appended}
use Rattle.lapi_io.specs.Writes.{AppendsFront}

pub nothing_written : (old : Option (List ℕ)) (text : List ℕ) → AppendsFront old old text
nothing_written old text = ([], text, refl, nothing_appended old)
