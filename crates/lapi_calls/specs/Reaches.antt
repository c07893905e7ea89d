-- Where the pieces of a statement lie, as they are kept.
use Rattle.std.specs.Prelude.{ℕ, ◌+◌, ◌*◌, Bool, List, map}
use Rattle.std.specs.List.{sum}
use Rattle.lapi_base.specs.declared.piece.Piece.{Piece}
use Rattle.lapi_base.specs.declared.span.Span.{Span}
use Rattle.lapi_base.specs.Record.Operations.{numbers_below}
use Rattle.lapi_calls.specs.Entries.{is_told, address_by}
use Rattle.lapi_calls.specs.declared.reach.Reach.{Reach}

-- the pieces' places, whether or not they are known
abbrev pub spans_of : List Reach → List Span
spans_of reaches = map (λ (r : Reach). record { at = r.at; len = r.len }) reaches

abbrev pub total_of : List Reach → ℕ
total_of reaches = sum (map (λ r. r.len) reaches)

-- where a piece lies at task d, by what is known
abbrev pub reach_of : (known : ℕ → Bool) → (given : ℕ → ℕ → ℕ) → (d : ℕ) → Piece → Reach
reach_of known given d p = record { known = is_told known p.at; at = address_by given d p.at; len = p.len }

-- where the pieces of a stride lie
abbrev pub stride_reaches : (known : Bool) → (at block stride count : ℕ) → List Reach
stride_reaches known at block stride count = map (λ k. record { known = known; at = at + k * stride; len = block }) (numbers_below count)
