-- One side of a vector as the list of its pieces, which vector of a statement it is, and why two sides don't
-- fit each other.
use Rattle.std.specs.Prelude.{◌≡◌, ℕ, ◌+◌, ◌*◌, ◌≤◌, ◌==◌, not, Bool, ◌||◌, List, [], ◌∷◌, length, map, Option}
use Rattle.std.specs.List.{All, sum, list_any, zip}
use Rattle.lapi_base.specs.declared.span.Span.{Span}
use Rattle.lapi_base.specs.declared.refusal.Refusal.{Refusal}
use Rattle.lapi_base.specs.declared.refusal.Refusal.TheVariants.{VecCount, VecLength, StrideBelowBlock}
use Rattle.lapi_base.specs.declared.piece.Piece.{Piece}
use Rattle.lapi_base.specs.declared.script.Script.{Script}
use Rattle.lapi_base.specs.declared.vector.Vector.{Vector}
use Rattle.lapi_base.specs.Record.Operations as operations
use Rattle.lapi_base.specs.Record.Operations.{numbers_below, pieces_of}
use Rattle.lapi_base.specs.Record.Refusals as refusals
use Rattle.lapi_base.specs.Record.Refusals.{first_reason}

-- the pieces, and whether they stand at a stride below the length of a block
pub record Side : Type 0 where
  pub spans : List Span
  pub below_block : Bool

abbrev pub total_of : List Span → ℕ
total_of spans = sum (map (λ p. p.len) spans)

-- each piece lies within a memory of this size
abbrev pub AreWithin : List Span → (size : ℕ) → Type 0
AreWithin spans size = All (λ (p : Span). p.at + p.len ≤ size) spans

abbrev pub stride_spans : (base block stride count : ℕ) → List Span
stride_spans base block stride count = map (λ k. record { at = base + k * stride; len = block }) (numbers_below count)

-- this side is that vector of a statement with this target, where all its addresses are known
abbrev pub IsSideOf : Script → (target : ℕ) → Vector → Side → Type 0
IsSideOf script target vector side =
    (side.spans ≡ operations.spans script target (pieces_of vector)) × (side.below_block ≡ refusals.below_block vector)

-- the first reason that applies to the vectors at the target and at the origin
abbrev pub why : (to from : Vector) → Option Refusal
why to from =
    first_reason (
    (not (length (pieces_of to) == length (pieces_of from)), VecCount)
    ∷ (list_any (λ (pq : Piece × Piece). not (pq.0.len == pq.1.len)) (zip (pieces_of to) (pieces_of from)), VecLength)
    ∷ (refusals.below_block to || refusals.below_block from, StrideBelowBlock)
    ∷ [])

-- and to two sides
abbrev pub side_why : (tgt org : Side) → Option Refusal
side_why tgt org =
    first_reason (
    (not (length tgt.spans == length org.spans), VecCount)
    ∷ (list_any (λ (pq : Span × Span). not (pq.0.len == pq.1.len)) (zip tgt.spans org.spans), VecLength)
    ∷ (tgt.below_block || org.below_block, StrideBelowBlock)
    ∷ [])
