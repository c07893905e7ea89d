-- Two sides fit each other exactly where the vectors do that they are.
use Rattle.std.proofs.Common.{◌≡◌, ℕ, ◌==◌, not, Bool, ◌||◌, List, [], ◌∷◌, length, Option, refl, ap, ◌∙◌}
use Rattle.std.specs.List.{list_any, zip}
use Rattle.std.proofs.lemmas.List.{length-map}
use Rattle.lapi_base.specs.declared.piece.Piece.{Piece}
use Rattle.lapi_base.specs.declared.span.Span.{Span}
use Rattle.lapi_base.specs.declared.script.Script.{Script}
use Rattle.lapi_base.specs.declared.vector.Vector.{Vector}
use Rattle.lapi_base.specs.declared.refusal.Refusal.{Refusal}
use Rattle.lapi_base.specs.declared.refusal.Refusal.TheVariants.{VecCount, VecLength, StrideBelowBlock}
use Rattle.lapi_base.specs.Record.Operations.{spans, address, pieces_of}
use Rattle.lapi_base.specs.Record.Refusals.{first_reason, below_block}
use Rattle.lapi_vector.specs.Pieces.{Side, IsSideOf, why, side_why}

same_lengths : (script : Script) (target : ℕ) (to from : List Piece) → list_any (λ (pq : Span × Span). not (pq.0.len == pq.1.len)) (zip (spans script target to) (spans script target from)) ≡ list_any (λ (pq : Piece × Piece). not (pq.0.len == pq.1.len)) (zip to from)
same_lengths script target [] from = refl
same_lengths script target (p ∷ ps) [] = refl
same_lengths script target (p ∷ ps) (q ∷ qs) = ap (λ b. not (p.len == q.len) || b) (same_lengths script target ps qs)

abbrev reason : (counts lengths strides : Bool) → Option Refusal
reason counts lengths strides = first_reason ((counts, VecCount) ∷ (lengths, VecLength) ∷ (strides, StrideBelowBlock) ∷ [])

abbrev of_sides : (to from : List Span) (to_below from_below : Bool) → Option Refusal
of_sides to from to_below from_below =
    reason (not (length to == length from)) (list_any (λ (pq : Span × Span). not (pq.0.len == pq.1.len)) (zip to from)) (to_below || from_below)

of_vectors : (script : Script) (target : ℕ) (to from : Vector) → of_sides (spans script target (pieces_of to)) (spans script target (pieces_of from)) (below_block to) (below_block from) ≡ why to from
of_vectors script target to from =
    let strides = below_block to || below_block from in
    let lengths = list_any (λ (pq : Span × Span). not (pq.0.len == pq.1.len)) (zip (spans script target (pieces_of to)) (spans script target (pieces_of from))) in
    ap (λ n. reason (not (n == length (spans script target (pieces_of from)))) lengths strides) (length-map (pieces_of to) (λ (p : Piece). record { at = address script target p.at; len = p.len }))
    ∙ ap (λ n. reason (not (length (pieces_of to) == n)) lengths strides) (length-map (pieces_of from) (λ (p : Piece). record { at = address script target p.at; len = p.len }))
    ∙ ap (λ b. reason (not (length (pieces_of to) == length (pieces_of from))) b strides) (same_lengths script target (pieces_of to) (pieces_of from))

pub why_of_sides : (answer : Option Refusal) (tgt org : Side) → answer ≡ side_why tgt org → (script : Script) (target : ℕ) (to from : Vector) → IsSideOf script target to tgt → IsSideOf script target from org → answer ≡ why to from
why_of_sides answer tgt org e script target to from t o =
    e
    ∙ ap (λ s. of_sides s org.spans tgt.below_block org.below_block) t.0
    ∙ ap (λ s. of_sides (spans script target (pieces_of to)) s tgt.below_block org.below_block) o.0
    ∙ ap (λ b. of_sides (spans script target (pieces_of to)) (spans script target (pieces_of from)) b org.below_block) t.1
    ∙ ap (λ b. of_sides (spans script target (pieces_of to)) (spans script target (pieces_of from)) (below_block to) b) o.1
    ∙ of_vectors script target to from
