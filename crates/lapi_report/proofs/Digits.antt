-- Hexadecimal text in parts.
use Rattle.std.proofs.Common.{◌≡◌, ℕ, List, [], ◌∷◌, ◌++◌, take, drop, refl, ap, sym, ◌∙◌, append_assoc, take-append-drop}
use Rattle.hex.specs.Hex.{encode_with, encode_lower, lower_digits}

encode_append : (t xs ys : List ℕ) → encode_with t (xs ++ ys) ≡ encode_with t xs ++ encode_with t ys
unfolding encode_with
encode_append t [] ys = refl
encode_append t (b ∷ xs) ys = let e = encode_append t xs ys in cc

-- the digits of the first bytes, and then those of the others
pub digits_parted : (front : List ℕ) (n : ℕ) (bytes : List ℕ) → front ++ encode_lower bytes ≡ (front ++ encode_lower (take n bytes)) ++ encode_lower (drop n bytes)
digits_parted front n bytes =
    ap (λ b. front ++ encode_lower b) (sym (take-append-drop n bytes))
    ∙ ap (λ t. front ++ t) (encode_append lower_digits (take n bytes) (drop n bytes))
    ∙ sym (append_assoc front (encode_lower (take n bytes)) (encode_lower (drop n bytes)))
