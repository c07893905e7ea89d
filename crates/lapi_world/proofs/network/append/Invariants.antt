use Rattle.std.proofs.Common.{◌≡◌, ◌++◌, take}
use Rattle.lapi_world.proofs.network.append.Given as goal

abbrev pub invariant-loop-event : goal.invariant-loop-event
invariant-loop-event l = l.journal ≡ l.fn.journal ++ take l.event-index l.event-items
