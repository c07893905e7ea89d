-- Tests: when two are equal.
use Rattle.std.proofs.Common.{◌≡◌, ℕ, ◌==◌, Bool, true, false, refl, sym}
use Rattle.std.proofs.lemmas.Bool.{eq-eqb}

-- two tests that say yes of one another
pub same_tests : (x y : Bool) → (x ≡ true → y ≡ true) → (y ≡ true → x ≡ true) → x ≡ y
same_tests true y f g = sym (f refl)
same_tests false true f g = g refl
same_tests false false f g = refl

pub eqb-refl : (n : ℕ) → (n == n) ≡ true
eqb-refl n = eq-eqb n n refl
