use Rattle.std.proofs.Common.{◌≡◌, length}
use Rattle.std.specs.List.{AllByRecursion}
use Rattle.lapi_base.specs.Packet.Layout.{window_of, unit_of}
use Rattle.lapi_link.specs.Receiver.{IsNewReceiver}
use Rattle.lapi_task.proofs.task.stepping.receivers.Given as goal

abbrev pub invariant-loop-task : goal.invariant-loop-task
invariant-loop-task l = (length l.receivers.items ≡ l._task) × AllByRecursion (IsNewReceiver (window_of l.script) (unit_of l.script)) l.receivers.items
