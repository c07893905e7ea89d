use Rattle.std.proofs.Common.{◌+◌, ◌*◌, arith}
use Rattle.std.proofs.lemmas.List.{get_or-replicate}
use Rattle.lapi_array.proofs.entries.Entries.none.Goals as goal

pub returns : goal.returns
returns c = λ x y lx ly. get_or-replicate 64 (8 * x + y) 0 0 (omega (arith, lx, ly))
