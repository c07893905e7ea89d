-- The lines of a text, and their words. This is the project's own.
use Rattle.std.specs.Prelude.{ℕ, Bool, true, false, not, List, [], ◌∷◌, length, ◌==◌, nat_lt, nat_le, ◌&&◌, filter, map}
use Rattle.std.specs.List.{slice_split, list_all}

-- a last line, which may lack its line feed but has a byte
abbrev pub last_line : List ℕ → List (List ℕ)
last_line [] = []
last_line (b ∷ bytes) = (b ∷ bytes) ∷ []

-- the parts before each line feed, and what follows the last one unless it is nothing
abbrev pub ended_lines : List (List ℕ) → List (List ℕ)
ended_lines [] = []
ended_lines (x ∷ []) = last_line x
ended_lines (x ∷ y ∷ more) = x ∷ ended_lines (y ∷ more)

abbrev pub lines_of : List ℕ → List (List ℕ)
lines_of bytes = ended_lines (slice_split (λ b. b == 10) bytes)

-- the parts between spaces, without the empty ones
abbrev pub words_of : List ℕ → List (List ℕ)
words_of line = filter (λ word. nat_lt 0 (length word)) (slice_split (λ b. b == 32) line)

-- each byte is one that may stand in a line
abbrev pub is_clean : List ℕ → Bool
is_clean line = list_all (λ b. nat_le 32 b && nat_le b 126) line

-- whether a word begins with #
abbrev pub is_remark : List ℕ → Bool
is_remark [] = false
is_remark (b ∷ word) = b == 35

-- a line without words, or a remark
abbrev pub is_skipped : List (List ℕ) → Bool
is_skipped [] = true
is_skipped (word ∷ words) = is_remark word

-- the words of the lines that aren't skipped
abbrev pub read_words : List (List ℕ) → List (List (List ℕ))
read_words lines = filter (λ words. not (is_skipped words)) (map words_of lines)
