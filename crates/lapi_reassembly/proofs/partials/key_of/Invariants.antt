use Rattle.std.proofs.Common.{◌≡◌, ℕ, Some, Contains}
use Rattle.slab.specs.Slab.{get}
use Rattle.lapi_reassembly.specs.Partial.{Gathered}
use Rattle.lapi_reassembly.proofs.partials.key_of.Given as goal

-- what has the name is among the entries that are left, and every entry that is left is the slab's
abbrev pub invariant-loop-key : goal.invariant-loop-key
invariant-loop-key l =
    (goal.iterator-loop-key).can_next l.key-iterator ×
    (goal.iterator-loop-key).is_finite l.key-iterator ×
    ((key : ℕ) (g : Gathered) → get l.partials key ≡ Some g → g.name ≡ l.name → Contains l.key-iterator (key, g)) ×
    ((key : ℕ) (g : Gathered) → Contains l.key-iterator (key, g) → get l.partials key ≡ Some g)
