-- The sure room of a sink in memory, and what a sure room says.
use Rattle.std.specs.Prelude.{◌≡◌, ◌<◌, ℕ, List, [], ◌∷◌, Option, Some, None, IfSome, unwrap_or, refl}
use Rattle.std.proofs.Common.{sym, subst}

-- the room, where no write is to fail by its number
abbrev pub sure_room : List ℕ → ℕ → Option ℕ
sure_room [] room = Some room
sure_room (f ∷ fs) room = None

-- a sink without a sure room
pub no_room : {P : Type 0} (n : ℕ) → None ≡ Some n → P
no_room n e = absurd (subst (λ (k : Option ℕ). IfSome k (λ _. ⊥)) e tt)

-- what holds below the room holds below the sure room, which is the same number
pub no_fault_below : (fails : List ℕ) (room n held faults : ℕ) → (fails ≡ [] → held < room → faults ≡ 0) → sure_room fails room ≡ Some n → held < n → faults ≡ 0
no_fault_below [] room n held faults rule e below =
    rule refl (subst (λ (k : Option ℕ). held < unwrap_or k 0) (sym e) below)
no_fault_below (f ∷ fs) room n held faults rule e below = no_room n e
