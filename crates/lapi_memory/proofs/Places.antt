-- The bytes of a piece, read place by place.
use Rattle.std.proofs.Common.{◌≡◌, ℕ, zero, suc, ◌+◌, ◌<◌, List, [], ◌∷◌, ◌++◌, length, map, get_or, take, drop, arith, refl, sym, ap, ◌∙◌}
use Rattle.std.proofs.lemmas.List.{take_more, length-drop, get_or-drop, map-append, append-nil}
use Rattle.lapi_base.specs.declared.span.Span.{Span}
use Rattle.lapi_base.specs.Record.Below.{below}
use Rattle.lapi_base.specs.Record.Operations.{numbers_below}
use Rattle.lapi_base.specs.Record.Values.{Memories, gathered}
use Rattle.lapi_memory.specs.TaskMemory.{IsWithin, IsMemoryOf, bytes_at}

by_place : (memories : Memories) (t : ℕ) (memory : List ℕ) → IsMemoryOf memories t memory → (at n : ℕ) → IsWithin memory at n → bytes_at memory at n ≡ map (λ k. memories t (at + k)) (numbers_below n)
unfolding numbers_below below
by_place memories t memory same at zero within = refl
by_place memories t memory same at (suc n) within =
    let lt : n < length (drop at memory) = omega (arith, length-drop at memory) in
    let e : suc n ≡ n + 1 = omega arith in
    let last : get_or (drop at memory) n 0 ≡ memories t (at + n) = get_or-drop at memory n 0 ∙ sym (same (at + n)) in
    ap (λ k. take k (drop at memory)) e
    ∙ take_more (drop at memory) n 0 lt
    ∙ ap (λ xs. xs ++ get_or (drop at memory) n 0 ∷ []) (by_place memories t memory same at n (omega arith))
    ∙ ap (λ x. map (λ k. memories t (at + k)) (numbers_below n) ++ x ∷ []) last
    ∙ sym (map-append (λ k. memories t (at + k)) (numbers_below n) (n ∷ []))

pub gathered_piece : (bytes memory : List ℕ) (p : Span) → bytes ≡ bytes_at memory p.at p.len → IsWithin memory p.at p.len → (memories : Memories) (t : ℕ) → IsMemoryOf memories t memory → bytes ≡ gathered memories t (p ∷ [])
unfolding gathered
gathered_piece bytes memory p e within memories t same =
    e ∙ by_place memories t memory same p.at p.len within ∙ sym (append-nil (map (λ k. memories t (p.at + k)) (numbers_below p.len)))
