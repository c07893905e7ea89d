use Rattle.std.proofs.Common.{◌≡◌, drop}
use Rattle.lapi_link.proofs.sender.drop_front.Given as goal

abbrev pub invariant-loop : goal.invariant-loop
invariant-loop l = l.tags.items ≡ drop l.counter l.fn.tags.items
