-- What an acknowledgement without bits covers.
use Rattle.std.proofs.Common.{◌≡◌, ℕ, ◌-◌, ◌<◌, nat_lt, true, ⊎_elim}
use Rattle.std.proofs.lemmas.Bool.{both_ways, or_cases, ltb-true}
use Rattle.lapi_base.specs.Record.Below.{has_bit}
use Rattle.lapi_base.proofs.BitLaws.{has_bit-zero}
use Rattle.lapi_window.specs.NumberSet.{is_covered}

pub covered_low : (base n : ℕ) → is_covered base 0 n ≡ true → n < base
unfolding is_covered
covered_low base n h =
    ⊎_elim
    (λ (e : nat_lt n base ≡ true). ltb-true n base e)
    (λ (e : has_bit 0 (n - base) ≡ true). absurd (both_ways (has_bit 0 (n - base)) (has_bit-zero (n - base)) e))
    (or_cases (nat_lt n base) (has_bit 0 (n - base)) h)
