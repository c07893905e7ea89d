use Rattle.std.proofs.Common.{◌≡◌, ◌++◌}
use Rattle.lapi_task.specs.Copies.{AllSent, packets_now}
use Rattle.lapi_task.specs.Sends.{entries_of}
use Rattle.lapi_task.proofs.task.polling.send_all.Given as goal

abbrev pub invariant-loop-b : goal.invariant-loop-b
invariant-loop-b l = record {
  sent : AllSent l.b l.fn.senders.items l.senders.items;
  entries : l.entries ≡ l.fn.entries ++ entries_of packets_now l.fn.senders.items l.b;
}
