-- The pieces of a stride, one after another, and as the pieces of a vector.
use Rattle.std.proofs.Common.{◌≡◌, ℕ, suc, ◌+◌, ◌*◌, List, [], ◌∷◌, ◌++◌, map, refl, sym, ap, ◌∙◌, arith}
use Rattle.std.proofs.lemmas.List.{map-append}
use Rattle.lapi_base.specs.declared.span.Span.{Span}
use Rattle.lapi_base.specs.declared.script.Script.{Script}
use Rattle.lapi_base.specs.declared.address.Addr.{Addr}
use Rattle.lapi_base.specs.declared.address.Addr.TheVariants.{Plain, Table}
use Rattle.lapi_base.specs.declared.vector.Vector.TheVariants.{Stride}
use Rattle.lapi_base.specs.Record.Below.{below}
use Rattle.lapi_base.specs.Record.Operations.{numbers_below, address, shifted, pieces_of, spans}
use Rattle.lapi_vector.specs.Pieces.{stride_spans}

pub one_block_more : (base block stride i : ℕ) → stride_spans base block stride (i + 1) ≡ stride_spans base block stride i ++ record { at = base + i * stride; len = block } ∷ []
unfolding numbers_below below
one_block_more base block stride i =
    let e : i + 1 ≡ suc i = omega arith in
    ap (stride_spans base block stride) e ∙ map-append (λ k. record { at = base + k * stride; len = block }) (numbers_below i) (i ∷ [])

pub no_block : (base block stride : ℕ) → stride_spans base block stride 0 ≡ []
unfolding numbers_below below
no_block base block stride = refl

shifted_address : (script : Script) (target : ℕ) (at : Addr) (y : ℕ) → address script target (shifted at y) ≡ address script target at + y
unfolding address
shifted_address script target (Plain x) y = refl
shifted_address script target (Table round offset) y = omega arith

blocks : (script : Script) (target : ℕ) (at : Addr) (block stride : ℕ) (ks : List ℕ) → map (λ k. record { at = address script target at + k * stride; len = block }) ks ≡ spans script target (map (λ k. record { at = shifted at (k * stride); len = block }) ks)
blocks script target at block stride [] = refl
blocks script target at block stride (k ∷ ks) =
    ap (λ x. record { at = x; len = block } ∷ map (λ k. record { at = address script target at + k * stride; len = block }) ks) (sym (shifted_address script target at (k * stride)))
    ∙ ap (λ (rest : List Span). record { at = address script target (shifted at (k * stride)); len = block } ∷ rest) (blocks script target at block stride ks)

pub as_vector : (script : Script) (target : ℕ) (at : Addr) (base block stride count : ℕ) → address script target at ≡ base → stride_spans base block stride count ≡ spans script target (pieces_of (Stride at block stride count))
unfolding pieces_of
as_vector script target at base block stride count e =
    ap (λ x. stride_spans x block stride count) (sym e) ∙ blocks script target at block stride (numbers_below count)
