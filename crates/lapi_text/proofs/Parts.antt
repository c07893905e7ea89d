-- Words that are cut into parts, and values that are taken out of options.
use Rattle.std.proofs.Common.{◌≡◌, ◌≢◌, ℕ, zero, suc, ◌<◌, List, [], ◌∷◌, refl, ap, ◌∙◌, Bool, true, false, cond, arith, Some, None, Option, inl, inr}
use Rattle.std.specs.Prelude.{◌==◌, ◌⊎◌, option_map, option_and_then}
use Rattle.std.specs.List.{slice_split, onto_first, All, AllByRecursion, join_with_byte}
use Rattle.std.specs.Cmp.Lexicographic.{bytes_decides}
use Rattle.std.proofs.lemmas.Bool.{ne_eqb, eq-eqb}
use Rattle.std.proofs.lemmas.Option.{none-some, same_Some}
use Rattle.std.proofs.lemmas.List.Splits.{slice_split_none, slice_split_at}
use Rattle.lapi_base.specs.Input.Tokens.{IsNumber, same_text, first_part, only_part}
use Rattle.lapi_text.proofs.Numbers.{digit_at_number}

-- equal texts, and others
pub same_text_is : (a b : List ℕ) → same_text a b ≡ true → a ≡ b
same_text_is a b e = (bytes_decides a b).0 e

pub same_text_of : (a b : List ℕ) → a ≡ b → same_text a b ≡ true
same_text_of a b e = (bytes_decides a b).1 e

pub map_some : {A B : Type 0} (f : A → B) (o : Option A) (y : B) → option_map f o ≡ Some y → (x : A) × (o ≡ Some x) × (f x ≡ y)
map_some f (Some x) y e = (x, refl, same_Some _ _ e)
map_some f None y e = absurd (none-some y e)

pub then_some : {A B : Type 0} (f : A → Option B) (o : Option A) (y : B) → option_and_then f o ≡ Some y → (x : A) × (o ≡ Some x) × (f x ≡ Some y)
then_some f (Some x) y e = (x, refl, e)
then_some f None y e = absurd (none-some y e)

pub chosen : {A : Type 0} (b : Bool) (x y z : A) → cond b x y ≡ z → ((b ≡ true) × (x ≡ z)) ⊎ ((b ≡ false) × (y ≡ z))
chosen true x y z e = inl (refl, e)
chosen false x y z e = inr (refl, e)

pub first_says : {A B : Type 0} (read : List ℕ → Option A) (more : A → List (List ℕ) → Option B) (parts : List (List ℕ)) (y : B) → first_part read more parts ≡ Some y
    → (part : List ℕ) × (rest : List (List ℕ)) × (x : A) × (parts ≡ part ∷ rest) × (read part ≡ Some x) × (more x rest ≡ Some y)
first_says read more [] y e = absurd (none-some y e)
first_says read more (part ∷ rest) y e = let x = then_some _ (read part) y e in (part, rest, x.0, refl, x.1, x.2)

pub only_says : {A : Type 0} (read : List ℕ → Option A) (parts : List (List ℕ)) (y : A) → only_part read parts ≡ Some y → (part : List ℕ) × (parts ≡ part ∷ []) × (read part ≡ Some y)
only_says read [] y e = absurd (none-some y e)
only_says read (part ∷ []) y e = (part, refl, e)
only_says read (part ∷ other ∷ rest) y e = absurd (none-some y e)

-- no byte is this one
abbrev pub Avoids : ℕ → List ℕ → Type 0
Avoids c word = All (λ b. (b == c) ≡ false) word

pub one_avoids : (c b : ℕ) → b ≢ c → Avoids c (b ∷ [])
one_avoids c b ne zero d lt = ne_eqb b c ne
one_avoids c b ne (suc k) d lt = absurd (omega (arith, lt))

pub number_avoids : (word : List ℕ) (n c : ℕ) → IsNumber n word → (c < 48) ⊎ (57 < c) → Avoids c word
number_avoids word n c is (inl low) = λ k d lt. ne_eqb _ _ (λ e. omega (arith, e, low, (digit_at_number word n is k d lt).0))
number_avoids word n c is (inr high) = λ k d lt. ne_eqb _ _ (λ e. omega (arith, e, high, (digit_at_number word n is k d lt).1))

-- parts without the byte that joins them are the parts that they are cut into
pub cut_joined : (c : ℕ) (text : List ℕ) (texts : List (List ℕ)) → Avoids c text → AllByRecursion (Avoids c) texts → slice_split (λ b. b == c) (join_with_byte c (text ∷ texts)) ≡ text ∷ texts
cut_joined c text [] here all = slice_split_none (λ b. b == c) text here
cut_joined c text (next ∷ texts) here all =
    slice_split_at (λ b. b == c) text c (join_with_byte c (next ∷ texts)) here (eq-eqb c c refl) ∙ ap (λ ts. text ∷ ts) (cut_joined c next texts all.0 all.1)

-- there is always a first part
pub some_parts : (p : ℕ → Bool) (bytes : List ℕ) → (first : List ℕ) × (more : List (List ℕ)) × (slice_split p bytes ≡ first ∷ more)
some_parts p [] = ([], [], refl)
some_parts p (b ∷ bytes) =
    let rest = some_parts p bytes in
    elim (p b) as (λ v. (first : List ℕ) × (more : List (List ℕ)) × (cond v ([] ∷ slice_split p bytes) (onto_first b (slice_split p bytes)) ≡ first ∷ more)) [
      | true ↦ ([], slice_split p bytes, refl)
      | false ↦ (b ∷ rest.0, rest.1, ap (onto_first b) rest.2)
    ]
