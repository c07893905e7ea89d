use Rattle.std.proofs.Common.{◌≡◌, ℕ, length, drop, get_or}
use Rattle.std.specs.List.{fold}
use Rattle.lapi_base.specs.Record.Values.{scattered, byte_after}
use Rattle.lapi_memory.specs.TaskMemory.{written}
use Rattle.lapi_vector.specs.Pieces.{total_of}
use Rattle.lapi_vector.proofs.pieces.Pieces.scatter.Given as goal

abbrev pub invariant-loop-span : goal.invariant-loop-span
invariant-loop-span l = record {
  size : length l.memory ≡ length l.fn.memory;
  left : length l.rest ≡ total_of (drop l.span-index l.self.spans);
  writes : fold (λ m w. written m w.0 w.1) l.fn.memory (scattered l.self.spans l.bytes) ≡ fold (λ m w. written m w.0 w.1) l.memory (scattered (drop l.span-index l.self.spans) l.rest);
  byte : (x : ℕ) → byte_after (scattered l.self.spans l.bytes) x (get_or l.fn.memory x 0) ≡ byte_after (scattered (drop l.span-index l.self.spans) l.rest) x (get_or l.memory x 0);
}
