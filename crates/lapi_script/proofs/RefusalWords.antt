-- Refusals that are looked at one by one.
use Rattle.std.proofs.Common.{◌≡◌, ℕ, zero, suc, ◌+◌, ◌<◌, List, [], ◌∷◌, length, drop, get_or, sym, ◌∙◌, refl, subst, Option, false, arith}
use Rattle.std.specs.Prelude.{◌==◌, ◌&&◌}
use Rattle.lapi_base.specs.declared.refusal.Refusal.{Refusal}
use Rattle.lapi_base.specs.Input.Tokens.{same_text}
use Rattle.lapi_base.specs.Input.AuditForms.{refusal_among}
use Rattle.lapi_base.specs.Output.TextParts.{refusal_number, refusal_name}

passed_by : (whys : List Refusal) (i n : ℕ) (name : List ℕ) (d : Refusal) (all : Option Refusal) → i < length whys → (n == refusal_number (get_or whys i d) && same_text name (refusal_name (get_or whys i d))) ≡ false
    → refusal_among (drop i whys) n name ≡ all → refusal_among (drop (suc i) whys) n name ≡ all
passed_by [] i n name d all lt other so_far = absurd (omega (arith, lt))
passed_by (why ∷ whys) zero n name d all lt other so_far =
    let one : refusal_among (why ∷ whys) n name ≡ refusal_among whys n name = rw other refl in
    sym one ∙ so_far
passed_by (why ∷ whys) (suc i) n name d all lt other so_far = passed_by whys i n name d all (omega (arith, lt)) other so_far

-- behind one that isn't it, it is among the others
pub not_this : (whys : List Refusal) (i n : ℕ) (name : List ℕ) (d : Refusal) (all : Option Refusal) → i < length whys → (n == refusal_number (get_or whys i d) && same_text name (refusal_name (get_or whys i d))) ≡ false
    → refusal_among (drop i whys) n name ≡ all → refusal_among (drop (i + 1) whys) n name ≡ all
not_this whys i n name d all lt other so_far =
    let next : suc i ≡ i + 1 = omega arith in
    subst (λ k. refusal_among (drop k whys) n name ≡ all) next (passed_by whys i n name d all lt other so_far)
