-- Texts that are cut at each byte of a kind.
use Rattle.std.proofs.Common.{◌≡◌, ℕ, ◌<◌, List, [], ◌∷◌, length, take, drop, refl, sym, ap, Bool, true, false, cond, arith, Some, None}
use Rattle.std.specs.Prelude.{position, ◌==◌}
use Rattle.std.specs.List.{All, slice_split, onto_first}
use Rattle.std.proofs.lemmas.Bool.{ltb-true, ltb-false}
use Rattle.std.proofs.lemmas.List.{drop-drop}
use Rattle.std.proofs.lemmas.List.Splits.{slice_split_first, slice_split_none}
use Rattle.std.proofs.lemmas.List.Sums.{fails_before_first}
use Rattle.std.proofs.lemmas.Option.{cond_some, none-some}
use Rattle.lapi_base.specs.Input.Lines.{lines_of}

cond_none : (b : Bool) (x : ℕ) → None ≡ cond b (Some x) None → b ≡ false
cond_none true x e = absurd (none-some x e)
cond_none false x e = refl

pub none_there : (p : ℕ → Bool) (bytes : List ℕ) → None ≡ position p bytes → All (λ b. p b ≡ false) bytes
none_there p bytes e =
    let past = ltb-false _ _ (cond_none _ _ e) in
    λ k d lt. fails_before_first p bytes k d (omega (arith, past, lt))

-- where the byte is nowhere, the text is one part
pub cut_nowhere : (p : ℕ → Bool) (bytes : List ℕ) → None ≡ position p bytes → slice_split p bytes ≡ bytes ∷ []
cut_nowhere p bytes e = slice_split_none p bytes (none_there p bytes e)

pub place_within : (p : ℕ → Bool) (bytes : List ℕ) (place : ℕ) → Some place ≡ position p bytes → place < length bytes
place_within p bytes place e =
    let found = cond_some _ _ _ (sym e) in
    rw (← found.1) (ltb-true _ _ found.0)

-- where it is first at this place, the first part stands before it
pub cut_there : (p : ℕ → Bool) (bytes : List ℕ) (place : ℕ) → Some place ≡ position p bytes → slice_split p bytes ≡ take place bytes ∷ slice_split p (drop 1 (drop place bytes))
cut_there p bytes place e =
    let found = cond_some _ _ _ (sym e) in
    let first = slice_split_first p bytes 0 (ltb-true _ _ found.0) in
    rw (drop-drop 1 place bytes, ← found.1) first

pub some_parts : (p : ℕ → Bool) (bytes : List ℕ) → (first : List ℕ) × (more : List (List ℕ)) × (slice_split p bytes ≡ first ∷ more)
some_parts p [] = ([], [], refl)
some_parts p (b ∷ bytes) =
    let rest = some_parts p bytes in
    elim (p b) as (λ v. (first : List ℕ) × (more : List (List ℕ)) × (cond v ([] ∷ slice_split p bytes) (onto_first b (slice_split p bytes)) ≡ first ∷ more)) [
      | true ↦ ([], slice_split p bytes, refl)
      | false ↦ (b ∷ rest.0, rest.1, ap (onto_first b) rest.2)
    ]

pub more_lines : (bytes first rest : List ℕ) → slice_split (λ b. b == 10) bytes ≡ first ∷ slice_split (λ b. b == 10) rest → lines_of bytes ≡ first ∷ lines_of rest
more_lines bytes first rest e =
    let parts = some_parts (λ b. b == 10) rest in
    rw (e, parts.2) refl

pub last_line : (bytes : List ℕ) → 0 < length bytes → slice_split (λ b. b == 10) bytes ≡ bytes ∷ [] → lines_of bytes ≡ bytes ∷ []
last_line [] some e = absurd (omega (arith, some))
last_line (b ∷ bytes) some e = rw e refl
