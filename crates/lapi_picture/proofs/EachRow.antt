-- What is said of each row, row by row, and the first row that is wanted.
use Rattle.std.proofs.Common.{◌≡◌, ℕ, ◌+◌, ◌<◌, List, [], ◌++◌, length, drop, get_or, sym, ap, ◌∙◌, append_assoc, Some, None, ◌≤◌}
use Rattle.std.specs.Prelude.{cond, true, false}
use Rattle.std.proofs.lemmas.List.{append-nil, drop_all, drop_more}
use Rattle.lapi_picture.specs.declared.row.Row.{Row}
use Rattle.lapi_picture.specs.declared.wanted.Wanted.{Wanted}
use Rattle.lapi_picture.specs.Chart.{each_row}
use Rattle.lapi_picture.specs.Rows.{is_wanted, place_from}

-- one row, and then the others
pub next_row : (f : ℕ → Row → List ℕ) (j : ℕ) (rows : List Row) (d : Row) → j < length rows → each_row f j (drop j rows) ≡ f j (get_or rows j d) ++ each_row f (j + 1) (drop (j + 1) rows)
unfolding each_row
next_row f j rows d h = ap (λ rs. each_row f j rs) (drop_more rows j d h)

-- what is written so far, and one row more
pub row_added : (f : ℕ → Row → List ℕ) (j : ℕ) (rows : List Row) (d : Row) (old now next : List ℕ) → j < length rows → old ++ each_row f 0 rows ≡ now ++ each_row f j (drop j rows) → next ≡ now ++ f j (get_or rows j d)
    → old ++ each_row f 0 rows ≡ next ++ each_row f (j + 1) (drop (j + 1) rows)
row_added f j rows d old now next h before e =
    before ∙ ap (λ s. now ++ s) (next_row f j rows d h) ∙ sym (append_assoc now (f j (get_or rows j d)) (each_row f (j + 1) (drop (j + 1) rows))) ∙ ap (λ s. s ++ each_row f (j + 1) (drop (j + 1) rows)) (sym e)

-- a row that is wanted, and one that isn't
next_place : (w : Wanted) (j : ℕ) (rows : List Row) (d : Row) → j < length rows → place_from w j (drop j rows) ≡ cond (is_wanted w (get_or rows j d)) (Some j) (place_from w (j + 1) (drop (j + 1) rows))
unfolding place_from
next_place w j rows d h = ap (λ rs. place_from w j rs) (drop_more rows j d h)

pub is_found : (w : Wanted) (j : ℕ) (rows : List Row) (d : Row) → j < length rows → is_wanted w (get_or rows j d) ≡ true → place_from w j (drop j rows) ≡ Some j
is_found w j rows d h e = next_place w j rows d h ∙ ap (λ b. cond b (Some j) (place_from w (j + 1) (drop (j + 1) rows))) e

pub is_passed : (w : Wanted) (j : ℕ) (rows : List Row) (d : Row) → j < length rows → is_wanted w (get_or rows j d) ≡ false → place_from w j (drop j rows) ≡ place_from w (j + 1) (drop (j + 1) rows)
is_passed w j rows d h e = next_place w j rows d h ∙ ap (λ b. cond b (Some j) (place_from w (j + 1) (drop (j + 1) rows))) e

-- after the last row
no_rows : (j : ℕ) (rows : List Row) → length rows ≤ j → drop j rows ≡ []
no_rows j rows past = drop_all j rows past

pub rows_done : (f : ℕ → Row → List ℕ) (j : ℕ) (rows : List Row) (old now : List ℕ) → length rows ≤ j → old ++ each_row f 0 rows ≡ now ++ each_row f j (drop j rows) → now ≡ old ++ each_row f 0 rows
unfolding each_row
rows_done f j rows old now past before = sym (before ∙ ap (λ rs. now ++ each_row f j rs) (no_rows j rows past) ∙ append-nil now)

pub none_left : (w : Wanted) (j : ℕ) (rows : List Row) → length rows ≤ j → place_from w j (drop j rows) ≡ None
unfolding place_from
none_left w j rows past = ap (λ rs. place_from w j rs) (no_rows j rows past)
