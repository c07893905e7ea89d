-- What a writer did to its sink.
use Rattle.std.specs.Prelude.{◌≡◌, ℕ, List, ◌++◌, Option, Result, MatchResult}
use Rattle.std.specs.Io.KnownBytes.{Appends}
use Rattle.lapi_io.specs.Causes.{HasCause}

-- a front of the text was appended
abbrev pub AppendsFront : Option (List ℕ) → Option (List ℕ) → List ℕ → Type 0
AppendsFront old new text = (front : List ℕ) × (rest : List ℕ) × (text ≡ front ++ rest) × Appends old new front

-- the text was appended, or a front of it where the writer refused
abbrev pub Wrote : {T E : Type 0} → Option (List ℕ) → Option (List ℕ) → List ℕ → Result T E → Type 0
Wrote old new text result = MatchResult result (λ _. Appends old new text) (λ _. AppendsFront old new text)

-- The words were appended, or a front of them where the writer refused; it refused only where the sink's count of
-- faults rose; and the sink's sure room stays.
pub record Writes {K T E : Type 0} (held : K → Option (List ℕ)) (faults : K → ℕ) (sure : K → Option ℕ)
    (old new : K) (words : List ℕ) (result : Result T E) : Type 0 where
  pub text : Wrote (held old) (held new) words result
  pub cause : HasCause (faults old) (faults new) result
  pub room : sure new ≡ sure old
