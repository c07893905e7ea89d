-- The places of pairs of tasks.
use Rattle.std.proofs.Common.{◌≡◌, ◌⊎◌, ℕ, ◌+◌, ◌*◌, ◌<◌, ap, ⊎_elim, arith}
use Rattle.std.proofs.lemmas.Nat.{mul-add-lt}
use Rattle.std.proofs.lemmas.Bool.{cases_order}

row-below : (n a b c d : ℕ) → b < n → a < c → a * n + b < c * n + d
row-below n a b c d l lt = let e = mul-add-lt a n b c lt l in omega (arith, e)

-- different pairs have different places
pub place-apart : (n a b c d : ℕ) → b < n → d < n → a * n + b ≡ c * n + d → (a ≡ c) × (b ≡ d)
place-apart n a b c d lb ld e =
    ⊎_elim
    (λ (same : a ≡ c). (same, (let f = ap (λ x. x * n + b) same in omega (arith, e, f))))
    (λ (apart : (a < c) ⊎ (c < a)).
    ⊎_elim
    (λ (lt : a < c). let f = row-below n a b c d lb lt in absurd (omega (arith, e, f)))
    (λ (gt : c < a). let f = row-below n c d a b ld gt in absurd (omega (arith, e, f)))
    apart)
    (cases_order a c)
