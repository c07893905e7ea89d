use Rattle.std.proofs.Common.{◌≡◌, ℕ, take}
use Rattle.std.specs.List.{flat_map}
use Rattle.lapi_base.specs.Record.Values.{Memories, gathered}
use Rattle.lapi_memory.specs.TaskMemory.{bytes_at, IsMemoryOf}
use Rattle.lapi_vector.proofs.pieces.Pieces.gather.Given as goal

abbrev pub invariant-loop-span : goal.invariant-loop-span
invariant-loop-span l = record {
  pieces : l.bytes.items ≡ flat_map (λ p. bytes_at l.memory p.at p.len) (take l.span-index l.self.spans);
  source : (memories : Memories) (t : ℕ) → IsMemoryOf memories t l.memory → l.bytes.items ≡ gathered memories t (take l.span-index l.self.spans);
}
