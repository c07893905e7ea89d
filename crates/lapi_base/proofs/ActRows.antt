-- What is written of an act's row.
use Rattle.std.proofs.Common.{◌≡◌, ℕ, List, [], ◌∷◌, ◌++◌, map, Option, None, Some, refl, sym, ap, ◌∙◌, append_assoc}
use Rattle.std.proofs.lemmas.List.{append-nil}
use Rattle.std.specs.Borrow.{Bor}
use Rattle.std.specs.Fmt.{decimal}
use Rattle.std.specs.List.{flat_map, join_with_byte}
use Rattle.lapi_base.specs.declared.act_row.ActRow.{ActRow}
use Rattle.lapi_base.specs.Input.Rows.{number, column_text, row_line}
use Rattle.lapi_base.specs.Input.ActRows.{injected_part, row_of, number_text, injected_text}

behind_word : (word numbers : List ℕ) (injected : Option (Bor (List ℕ))) → join_with_byte 32 (word ∷ map column_text (map number numbers ++ injected_part injected)) ≡ word ++ (flat_map number_text numbers ++ injected_text injected)
behind_word word [] None = sym (append-nil word)
behind_word word [] (Some bytes) = refl
behind_word word (n ∷ numbers) injected =
    ap (λ more. word ++ 32 ∷ more) (behind_word (decimal n) numbers injected ∙ sym (append_assoc (decimal n) (flat_map number_text numbers) (injected_text injected)))

pub row_spelled : (row : ActRow) → row_line (row_of row) ≡ row.word.now ++ (flat_map number_text row.numbers.items ++ injected_text row.injected)
row_spelled row = behind_word row.word.now row.numbers.items row.injected
