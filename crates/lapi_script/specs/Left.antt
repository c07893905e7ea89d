-- What is left of a text that is read piece by piece.
use Rattle.std.specs.Prelude.{◌≡◌, ℕ, ◌==◌, false, true, List, [], ◌∷◌, Option, Some, None}
use Rattle.std.specs.Borrow.{Bor}
use Rattle.std.specs.List.{slice_split}
use Rattle.lapi_base.specs.Input.Lines.{lines_of, words_of, is_clean, is_remark}

-- the parts of what is left, if anything is
abbrev pub parts_left : ℕ → Option (Bor (List ℕ)) → List (List ℕ)
parts_left byte None = []
parts_left byte (Some text) = slice_split (λ b. b == byte) text.now

-- the first word, if there is one, and those behind it
abbrev pub words_left : Option (Bor (List ℕ)) → List ℕ → List (List ℕ)
words_left None line = []
words_left (Some word) line = word.now ∷ words_of line

-- it begins with no space
abbrev pub BeginsWord : List ℕ → Type 0
BeginsWord [] = Unit {0}
BeginsWord (b ∷ bytes) = (b == 32) ≡ false

-- the first line is a clean remark, and this is what follows it
abbrev pub IsBehindRemark : List ℕ → (behind : List ℕ) → Type 0
IsBehindRemark bytes behind = (line : List ℕ) × (lines_of bytes ≡ line ∷ lines_of behind) × (is_clean line ≡ true) × (is_remark line ≡ true)
