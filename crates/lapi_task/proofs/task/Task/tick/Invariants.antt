use Rattle.std.proofs.Common.{◌≡◌, ◌++◌}
use Rattle.lapi_link.specs.Sender.{kept}
use Rattle.lapi_task.specs.Sends.{entries_of}
use Rattle.lapi_task.proofs.task.Task.tick.Given as goal

-- the ends that were reached have sent again what they keep
abbrev pub invariant-loop-to : goal.invariant-loop-to
invariant-loop-to l = (l.out.entries ≡ l.fn.out.entries ++ entries_of kept l.fn.self.senders.items l.to) × (l.out.events ≡ l.fn.out.events)
