use Rattle.std.proofs.Common.{◌≡◌, ℕ, ◌+◌, ◌-◌, ◌≤◌, List, length, Ok}
use Rattle.std.specs.Io.KnownBytes.{Consumes}
use Rattle.lapi_capture.specs.Reading.{IsReadingOf, fault_at}
use Rattle.lapi_tool.proofs.landings.feed_all.Given as goal

abbrev pub invariant-loop-fed : goal.invariant-loop-fed
invariant-loop-fed g l = record {
  read : (bytes : List ℕ) × Consumes (g.S.Source.left l.fn.source) (g.S.Source.left l.source) bytes × IsReadingOf l.reader bytes × (length bytes ≡ l.fed);
  sound : fault_at l.reader.stage ≡ Ok tt;
  later : g.S.Source.faults l.fn.source ≤ g.S.Source.faults l.source;
}

abbrev pub decreases-loop-fed : goal.decreases-loop-fed
decreases-loop-fed g l = (25680005 + 1) - l.fed
