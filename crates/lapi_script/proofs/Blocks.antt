-- Texts that are looked at block by block.
use Rattle.std.proofs.Common.{◌≡◌, ℕ, ◌+◌, ◌<◌, ◌≤◌, List, [], ◌∷◌, ◌++◌, length, take, drop, refl, sym, ap, ◌∙◌, Bool, true, false, arith, Option, Some, None}
use Rattle.std.specs.Prelude.{position, option_map, cond, nat_lt, not, ◌&&◌}
use Rattle.std.specs.List.{list_any, list_all, position_or_len}
use Rattle.std.proofs.lemmas.Bool.{or_parts, ltb-true, lt-ltb}
use Rattle.std.proofs.lemmas.Option.{cond_some}
use Rattle.std.proofs.lemmas.Bool.Decides.{nat_tests}
use Rattle.std.proofs.lemmas.List.{take-append-drop, length-take-le, length-append}
use Rattle.std.proofs.lemmas.List.Folds.{list_all-append, list_any_none}
use Rattle.lapi_base.specs.Input.Lines.{is_clean}
use Rattle.lapi_script.proofs.Splits.{none_there}

first_behind : (p : ℕ → Bool) (front rest : List ℕ) → list_any p front ≡ false → position_or_len p (front ++ rest) ≡ length front + position_or_len p rest
first_behind p [] rest none = omega arith
first_behind p (b ∷ front) rest none =
    let parts = or_parts (p b) (list_any p front) none in
    rw parts.0 (omega (arith, first_behind p front rest parts.1))

shifted : (n i m : ℕ) → cond (nat_lt (n + i) (n + m)) (Some (n + i)) None ≡ option_map (λ j. n + j) (cond (nat_lt i m) (Some i) None)
shifted n i m = grind (arith, nat_tests)

place_after : (p : ℕ → Bool) (front rest : List ℕ) → list_any p front ≡ false → position p (front ++ rest) ≡ option_map (λ i. length front + i) (position p rest)
place_after p front rest none = rw (first_behind p front rest none, length-append front rest) (shifted (length front) (position_or_len p rest) (length rest))

twice : (n m : ℕ) (o : Option ℕ) → option_map (λ i. n + i) (option_map (λ i. m + i) o) ≡ option_map (λ i. n + m + i) o
twice n m None = refl
twice n m (Some i) = ap (λ k. Some k) (omega arith)

pub from_start : (o : Option ℕ) → o ≡ option_map (λ i. 0 + i) o
from_start None = refl
from_start (Some i) = ap (λ k. Some k) (omega arith)

-- behind a block that has none, the place is counted from the block's end
pub next_block : (p : ℕ → Bool) (n k : ℕ) (rest : List ℕ) (total : Option ℕ) → k ≤ length rest → list_any p (take k rest) ≡ false
    → total ≡ option_map (λ i. n + i) (position p rest) → total ≡ option_map (λ i. n + k + i) (position p (drop k rest))
next_block p n k rest total long none so_far =
    let one = rw (length-take-le k rest long, take-append-drop k rest) at (place_after p (take k rest) (drop k rest) none) in
    so_far ∙ ap (λ o. option_map (λ i. n + i) o) one ∙ twice n k (position p (drop k rest))

pub behind_none : (n : ℕ) (o total : Option ℕ) → None ≡ o → total ≡ option_map (λ i. n + i) o → None ≡ total
behind_none n o total is so_far = sym (rw (← is) at so_far)

pub behind_some : (n i : ℕ) (o total : Option ℕ) → Some i ≡ o → total ≡ option_map (λ j. n + j) o → Some (n + i) ≡ total
behind_some n i o total is so_far = sym (rw (← is) at so_far)

first_within : (p : ℕ → Bool) (front rest : List ℕ) → position_or_len p front < length front → position_or_len p (front ++ rest) ≡ position_or_len p front
first_within p [] rest within = absurd (omega (arith, within))
first_within p (b ∷ front) rest within =
    elim (p b) as (λ v. cond (not v) (1 + position_or_len p front) 0 < 1 + length front → cond (not v) (1 + position_or_len p (front ++ rest)) 0 ≡ cond (not v) (1 + position_or_len p front) 0) [
      | true ↦ λ _. refl
      | false ↦ λ lt. ap (λ n. 1 + n) (first_within p front rest (omega (arith, lt)))
    ] (omega (arith, within))

within_front : (p : ℕ → Bool) (i : ℕ) (front rest : List ℕ) → Some i ≡ position p front → Some i ≡ position p (front ++ rest)
within_front p i front rest is =
    let found = cond_some _ _ _ (sym is) in
    let within = ltb-true _ _ found.0 in
    rw (first_within p front rest within, length-append front rest, lt-ltb (position_or_len p front) (length front + length rest) (omega (arith, within))) (ap (λ k. Some k) (sym found.1))

-- a place in the front is the first, and else the first one stands behind it
pub near_some : (p : ℕ → Bool) (n i : ℕ) (bytes : List ℕ) → Some i ≡ position p (take n bytes) → Some i ≡ position p bytes
near_some p n i bytes is = rw (take-append-drop n bytes) at (within_front p i (take n bytes) (drop n bytes) is)

pub near_none : (p : ℕ → Bool) (n : ℕ) (bytes : List ℕ) → n ≤ length bytes → None ≡ position p (take n bytes) → position p bytes ≡ option_map (λ i. n + i) (position p (drop n bytes))
near_none p n bytes long is =
    rw (length-take-le n bytes long, take-append-drop n bytes) at (place_after p (take n bytes) (drop n bytes) (list_any_none p (take n bytes) (none_there p (take n bytes) is)))

-- a text is clean where a front of it and what is behind are
clean_parts : (p : ℕ → Bool) (n : ℕ) (text : List ℕ) → list_all p text ≡ (list_all p (take n text) && list_all p (drop n text))
clean_parts p n text = ap (list_all p) (sym (take-append-drop n text)) ∙ list_all-append p (take n text) (drop n text)

pub clean_on : (line rest block after : List ℕ) → block ≡ take 32 rest → after ≡ drop 32 rest → is_clean block ≡ true → is_clean line ≡ is_clean rest → is_clean line ≡ is_clean after
clean_on line rest block after front back clean so_far =
    let here : is_clean (take 32 rest) ≡ true = rw front at clean in
    so_far ∙ clean_parts _ 32 rest ∙ rw (here, back) refl

pub dirty : (line rest block : List ℕ) → block ≡ take 32 rest → is_clean block ≡ false → is_clean line ≡ is_clean rest → false ≡ is_clean line
dirty line rest block front unclean so_far =
    let here : is_clean (take 32 rest) ≡ false = rw front at unclean in
    sym (so_far ∙ clean_parts _ 32 rest ∙ rw here refl)
