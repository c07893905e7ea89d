-- The row of an act as it is made, and what is written of it.
use Rattle.std.specs.Prelude.{ℕ, List, [], ◌∷◌, ◌++◌, map, Option, None, Some}
use Rattle.std.specs.Borrow.{Bor}
use Rattle.std.specs.Fmt.{decimal}
use Rattle.lapi_base.specs.declared.act_row.ActRow.{ActRow}
use Rattle.lapi_base.specs.Input.Tokens.{OptionalHex, canonical}
use Rattle.lapi_base.specs.Input.Rows.{Column, Word, number, optional_hex}

-- the bytes that are injected, if some are
abbrev pub injected_part : Option (Bor (List ℕ)) → List Column
injected_part None = []
injected_part (Some bytes) = optional_hex bytes.now ∷ []

-- a word, its numbers, and then the bytes
abbrev pub row_of : ActRow → List Column
row_of row = Word row.word.now ∷ (map number row.numbers.items ++ injected_part row.injected)

-- a number behind a space, and the bytes behind one
abbrev pub number_text : ℕ → List ℕ
number_text n = 32 ∷ decimal n

abbrev pub injected_text : Option (Bor (List ℕ)) → List ℕ
injected_text None = []
injected_text (Some bytes) = 32 ∷ canonical OptionalHex bytes.now
