-- What an Outstanding stands for: for each statement whether it was begun and is not done.
use Rattle.std.specs.Prelude.{◌≡◌, ℕ, ◌*◌, ◌<◌, ◌≤◌, Bool, true, false, List, length, map, slice_index_or, Option, Some, None}
use Rattle.lapi_base.specs.Record.Operations.{numbers_below}
use Rattle.lapi_collect.specs.FlagWords.{is_in}

-- past the last statement there is none
abbrev pub is_open : List Bool → ℕ → Bool
is_open flags statement = slice_index_or flags statement false

unfoldable pub flags_of : (statements : ℕ) (words : List ℕ) → List Bool
flags_of statements words = map (is_in words) (numbers_below statements)

-- the least number that passes, if one does
abbrev pub IsLeast : (ℕ → Bool) → Option ℕ → Type 0
IsLeast p None = (n : ℕ) → p n ≡ false
IsLeast p (Some least) = (p least ≡ true) × ((n : ℕ) → n < least → p n ≡ false)

-- there is room for each statement, only statements stand in the used words, and the least one is known
pub record IsOutstanding (statements : ℕ) (words : List ℕ) (used : ℕ) (least : Option ℕ) : Type 0 where
  pub room : (statements ≤ 64 * length words) × (length words ≤ 67108864)
  pub known : (n : ℕ) → statements ≤ n → is_in words n ≡ false
  pub used_words : used ≤ length words
  pub unused : (n : ℕ) → 64 * used ≤ n → is_in words n ≡ false
  pub least_open : IsLeast (is_in words) least
