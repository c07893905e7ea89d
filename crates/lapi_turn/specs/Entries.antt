-- Lists of entries, and the rights that they need.
use Rattle.std.specs.Prelude.{◌≡◌, ℕ, ◌<◌, Bool, true, false, List, [], ◌∷◌, ◌++◌, bit_and}
use Rattle.std.specs.Int.{bit_at}

-- what was done, and the right that it needs
abbrev pub Entry : Type 0
Entry = ℕ × ℕ

-- the right is one of these: bit i tells of right i
abbrev pub HasRight : ℕ → ℕ → Type 0
HasRight rights right = bit_at rights right ≡ 1

-- each right of the part is one of these
abbrev pub HasRights : ℕ → ℕ → Type 0
HasRights rights part = bit_and rights part ≡ part

-- the list with the entry after it, where it was appended
abbrev pub list_after : Bool → List Entry → Entry → List Entry
list_after true list entry = list ++ entry ∷ []
list_after false list entry = list

-- no entry needs one of these rights
abbrev pub NoneNeeds : ℕ → List Entry → Type 0
NoneNeeds rights [] = Unit {0}
NoneNeeds rights (e ∷ es) = (bit_at rights e.1 ≡ 0) × NoneNeeds rights es

-- the list begins with this one
abbrev pub Begins : List Entry → List Entry → Type 0
Begins start list = (rest : List Entry) × (list ≡ start ++ rest)

-- the list begins with what was seen, and its later entries need none of these rights
abbrev pub Follows : List Entry → ℕ → List Entry → Type 0
Follows seen rights list = (rest : List Entry) × (list ≡ seen ++ rest) × NoneNeeds rights rest

-- each entry needs a right below 16
abbrev pub AllBelow16 : List Entry → Type 0
AllBelow16 [] = Unit {0}
AllBelow16 (e ∷ es) = (e.1 < 16) × AllBelow16 es

-- the list is the base and one entry, for which there is the right; or it is the base
abbrev pub Grows : Bool → ℕ → List Entry → List Entry → Type 0
Grows true rights base list = (e : Entry) × (list ≡ base ++ e ∷ []) × HasRight rights e.1
Grows false rights base list = list ≡ base
