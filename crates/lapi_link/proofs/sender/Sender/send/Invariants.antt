use Rattle.std.proofs.Common.{◌≡◌, ◌++◌, take}
use Rattle.lapi_link.specs.Sender.{sendable, sent, entries_to}
use Rattle.lapi_link.proofs.sender.Sender.send.Given as goal

abbrev pub invariant-loop : goal.invariant-loop
invariant-loop l = record {
  sent : l.self ≡ sent l.fn.self l.counter;
  entries : l.entries ≡ l.fn.entries ++ entries_to l.to (take l.counter l.fn.self.waiting);
  room : l.end ≡ sendable l.fn.self;
}
