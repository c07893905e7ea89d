-- The line of the first fault of a text, whatever its lines are to say. This is the project's own.
use Rattle.std.specs.Prelude.{ℕ, ◌+◌, ◌-◌, ◌<◌, ◌≤◌, List, ◌++◌, length, take}

module _ {X : Type 0} (IsRead : X → List (List ℕ) → Type 0) where
  -- the lines begin those of something that is read
  abbrev pub BeginsBy : List (List ℕ) → Type 0
  BeginsBy lines = (x : X) × (more : List (List ℕ)) × IsRead x (lines ++ more)

  -- Line l, counted from 1, is the first up to which the lines begin nothing that is read, or one after the last where
  -- they begin something but are nothing.
  abbrev pub IsFirstFaultBy : List (List ℕ) → ℕ → Type 0
  IsFirstFaultBy lines l =
      (0 < l) × (l ≤ length lines + 1) × BeginsBy (take (l - 1) lines) × (l ≤ length lines → ¬ BeginsBy (take l lines)) × ((x : X) → ¬ IsRead x lines)
