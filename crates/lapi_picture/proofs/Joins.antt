-- A text that grows piece by piece.
use Rattle.std.proofs.Common.{◌≡◌, ℕ, ◌+◌, List, [], ◌∷◌, ◌++◌, OnOk, Result, Ok, Err, sym, ap, ◌∙◌, append_assoc}
use Rattle.std.proofs.lemmas.Grind.{flat_map-append}
use Rattle.std.proofs.lemmas.List.{append-nil}
use Rattle.std.specs.List.{flat_map}
use Rattle.lapi_base.specs.Record.Operations.{numbers_below}
use Rattle.lapi_base.proofs.UptoLaws.{numbers_below-none, numbers_below-more}

-- one piece, and then the rest
pub and_then : (old now next piece rest : List ℕ) → now ≡ old ++ piece → next ≡ now ++ rest → next ≡ old ++ (piece ++ rest)
and_then old now next piece rest e f = f ∙ ap (λ s. s ++ rest) e ∙ append_assoc old piece rest

pub and_then_ok : {T E : Type 0} (old now next piece rest : List ℕ) (r : Result T E) → now ≡ old ++ piece → OnOk r (next ≡ now ++ rest) → OnOk r (next ≡ old ++ (piece ++ rest))
and_then_ok old now next piece rest (Ok x) e f = and_then old now next piece rest e f
and_then_ok old now next piece rest (Err x) e f = f

-- a piece for each number below a bound
pub none_yet : {X : Type 0} (f : ℕ → List X) (old : List X) → old ≡ old ++ flat_map f (numbers_below 0)
none_yet f old = sym (ap (λ ns. old ++ flat_map f ns) numbers_below-none ∙ append-nil old)

pub one_more : {X : Type 0} (f : ℕ → List X) (n : ℕ) → flat_map f (numbers_below (n + 1)) ≡ flat_map f (numbers_below n) ++ f n
one_more f n =
    ap (λ ns. flat_map f ns) (numbers_below-more n) ∙ flat_map-append f (numbers_below n) (n ∷ []) ∙ ap (λ s. flat_map f (numbers_below n) ++ s) (append-nil (f n))

pub number_added : {X : Type 0} (f : ℕ → List X) (n : ℕ) (old now next : List X) → now ≡ old ++ flat_map f (numbers_below n) → next ≡ now ++ f n → next ≡ old ++ flat_map f (numbers_below (n + 1))
number_added f n old now next e g =
    g ∙ ap (λ s. s ++ f n) e ∙ append_assoc old (flat_map f (numbers_below n)) (f n) ∙ ap (λ s. old ++ s) (sym (one_more f n))
