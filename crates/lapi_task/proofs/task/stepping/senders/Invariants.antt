use Rattle.std.proofs.Common.{◌≡◌, length}
use Rattle.std.specs.List.{AllByRecursion}
use Rattle.lapi_base.specs.Packet.Layout.{window_of}
use Rattle.lapi_link.specs.Sender.{IsNewSender}
use Rattle.lapi_task.proofs.task.stepping.senders.Given as goal

abbrev pub invariant-loop-task : goal.invariant-loop-task
invariant-loop-task l = (length l.senders.items ≡ l._task) × AllByRecursion (IsNewSender (window_of l.script)) l.senders.items
