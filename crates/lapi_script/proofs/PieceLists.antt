-- Pieces, one after the other.
use Rattle.std.proofs.Common.{◌≡◌, ℕ, ◌<◌, List, [], ◌∷◌, ◌++◌, length, refl, sym, ap, ◌∙◌, Bool, true, false, Some, None, Option, append_assoc, arith, ◌≤◌}
use Rattle.std.specs.Prelude.{option_map}
use Rattle.std.proofs.lemmas.List.{length-append, append-nil}
use Rattle.lapi_base.specs.declared.address.Addr.{Addr}
use Rattle.lapi_base.specs.declared.piece.Piece.{Piece}
use Rattle.lapi_base.specs.Input.Tokens.{piece_of, pieces_of}
use Rattle.lapi_base.specs.declared.vector.Vector.{Vector}
use Rattle.lapi_script.specs.declared.held_vector.HeldVector.{HeldVector}
use Rattle.lapi_script.specs.declared.held_vector.HeldVector.TheVariants.{TooManyPieces}
use Rattle.lapi_script.specs.Vectors.{HoldsVector, HoldsListed, vector_or}
use Rattle.std.proofs.lemmas.Bool.{lt-leb}

-- the pieces so far, and those of the parts that are left
abbrev pub with_front : List Piece → Option (List Piece) → Option (List Piece)
with_front front read = option_map (λ pieces. front ++ pieces) read

-- a list of 16 at most, or more that aren't held
abbrev pub IsSeen : Bool → List Piece → List Piece → Type 0
IsSeen true list seen = 16 < length seen
IsSeen false list seen = seen ≡ list

regroup : (front : List Piece) (piece : Piece) (read : Option (List Piece)) → with_front front (option_map (λ pieces. piece ∷ pieces) read) ≡ with_front (front ++ piece ∷ []) read
regroup front piece None = refl
regroup front piece (Some pieces) = ap (λ x. Some x) (sym (append_assoc front (piece ∷ []) pieces))

pub next_piece : (at_of : List ℕ → Option Addr) (front : List Piece) (parts more : List (List ℕ)) (part : List ℕ) (piece : Piece) (total : Option (List Piece))
    → parts ≡ part ∷ more → Some piece ≡ piece_of at_of part
    → with_front front (pieces_of at_of parts) ≡ total → with_front (front ++ piece ∷ []) (pieces_of at_of more) ≡ total
next_piece at_of front parts more part piece total e is so_far =
    let one : with_front front (pieces_of at_of parts) ≡ with_front (front ++ piece ∷ []) (pieces_of at_of more) = rw (e, ← is) (regroup front piece (pieces_of at_of more)) in
    sym one ∙ so_far

pub no_piece : (at_of : List ℕ → Option Addr) (front : List Piece) (parts more : List (List ℕ)) (part : List ℕ) (total : Option (List Piece)) → parts ≡ part ∷ more → None ≡ piece_of at_of part
    → with_front front (pieces_of at_of parts) ≡ total → total ≡ None
no_piece at_of front parts more part total e is so_far =
    let one : with_front front (pieces_of at_of parts) ≡ None = rw (e, ← is) refl in
    sym so_far ∙ one

pub seen_push : (many : Bool) (list seen : List Piece) (piece : Piece) → IsSeen many list seen → IsSeen many (list ++ piece ∷ []) (seen ++ piece ∷ [])
seen_push true list seen piece is = omega (arith, is, length-append seen (piece ∷ []))
seen_push false list seen piece is = ap (λ s. s ++ piece ∷ []) is

pub seen_many : (many : Bool) (list seen : List Piece) (piece : Piece) → 16 ≤ length list → IsSeen many list seen → IsSeen true list (seen ++ piece ∷ [])
seen_many true list seen piece full is = omega (arith, is, length-append seen (piece ∷ []))
seen_many false list seen piece full is = omega (arith, full, ap (λ (s : List Piece). length s) is, length-append seen (piece ∷ []))

-- more than 16 pieces are read, and not held
pub many_listed : (seen : List Piece) (read : Option (List Piece)) → with_front seen (Some []) ≡ read → 16 < length seen → HoldsListed (Some TooManyPieces) (option_map (λ pieces. Vector.List pieces) read)
many_listed seen read is long = rw (← is, append-nil seen) (Vector.List seen, refl, lt-leb _ _ long)

-- a vector that is read, and what is held of it
pub spelled_list : (held : HeldVector) (read : Option Vector) → HoldsListed (Some held) read → (Some (vector_or read) ≡ read) × HoldsVector held (vector_or read)
spelled_list held read (vector, is, holds) = rw is (refl, holds)
