use Rattle.std.proofs.Common.{◌≡◌, ◌%◌, ◌^◌, take}
use Rattle.std.specs.List as lists
use Rattle.lapi_handlers.proofs.built_in_completion.sum_of.Given as goal

abbrev pub invariant-loop-byte : goal.invariant-loop-byte
invariant-loop-byte l = l.total ≡ lists.sum (take l.byte-index l.bytes) % 2 ^ 32
