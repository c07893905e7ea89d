-- The chart of some rows as SVG. Below one another, whatever is shown of them: first the arrows, the crosses and the bars,
-- then a mark for each row, and its words right of all lines, so that none crosses a word.
use Rattle.std.specs.Prelude.{ℕ, ◌+◌, ◌*◌, ◌-◌, ◌/◌, cond, List, [], ◌∷◌, ◌++◌, codes, Option, Some, None, length, unwrap_or}
use Rattle.std.specs.Fmt.{decimal}
use Rattle.lapi_base.specs.declared.event.Event.TheVariants.{Begin}
use Rattle.lapi_base.specs.declared.reply.Reply.TheVariants.{Did, Bad}
use Rattle.lapi_picture.specs.declared.cargo.Cargo.{Cargo}
use Rattle.lapi_picture.specs.declared.cargo.Cargo.TheVariants as cargos
use Rattle.lapi_picture.specs.declared.deed.Deed.TheVariants.{Deliver, Cut}
use Rattle.lapi_picture.specs.declared.fixed.Fixed.TheVariants as fixed
use Rattle.lapi_picture.specs.declared.page.Page.{Page}
use Rattle.lapi_picture.specs.declared.row.Row.{Row}
use Rattle.lapi_picture.specs.declared.row.Row.TheVariants.{Line, Happened, Sent}
use Rattle.lapi_picture.specs.declared.wanted.Wanted.TheVariants as wanted
use Rattle.lapi_picture.specs.Fixed.{fixed_text}
use Rattle.lapi_picture.specs.Labels.{found_cargo, row_mark, row_task, said_words}
use Rattle.lapi_picture.specs.Rows.{place_of}
use Rattle.lapi_picture.specs.Shapes.{bar_shape, column, edge, is_shown, line_shape, mark_shape, middle, side, text_at, words_column}
use Rattle.lapi_picture.specs.Sheet.{sheet_top}

abbrev pub cargo_class : Cargo → List ℕ
cargo_class (cargos.Data name seq fragment) = codes "data"
cargo_class (cargos.Ack base) = codes "ack"
cargo_class cargos.Nothing = codes "cut"

-- An arrow from the row that sent an entry to the row j that handed it over.
unfoldable pub arrow : Page → (class : List ℕ) → (from to : ℕ) → (sent : Option ℕ) → (j : ℕ) → List ℕ
arrow page class a b None j = []
arrow page class a b (Some i) j = cond (is_shown page i j) (line_shape class (side a b) (middle page i) (side b a) (middle page j)) []

-- A cross on the first quarter of the way to the task to which an entry of row j was never handed over.
unfoldable pub cross : Page → (from to : ℕ) → (delivered : Option ℕ) → (j : ℕ) → List ℕ
cross page a b None j = cond (is_shown page j j) (line_shape (codes "lost") (side a b) (middle page j) ((3 * side a b + side b a) / 4) (middle page j)) []
cross page a b (Some i) j = []

-- A bar from the row j where a job began to the row where it ended, or to the end.
unfoldable pub bar : Page → (task worker : ℕ) → (end : ℕ) → (j : ℕ) → List ℕ
bar page t w i j = cond (is_shown page j i) (bar_shape (column t - (9 + 4 * w)) (edge page j) (edge page (i + 1) - edge page j)) []

unfoldable pub row_strokes : Page → (rows : List Row) → (j : ℕ) → Row → List ℕ
row_strokes page rows j (Line line t (Deliver a k) Did) =
    let i = place_of (wanted.Sent a t k) rows in
    arrow page (cargo_class (found_cargo rows i)) a t i j
row_strokes page rows j (Line line t (Cut a k n) (Bad bad)) = arrow page (codes "cut") a t (place_of (wanted.Sent a t k) rows) j
row_strokes page rows j (Happened t (Begin m b w)) = bar page t w (unwrap_or (place_of (wanted.Ended m) rows) (length rows)) j
row_strokes page rows j (Sent a b k cargo) = cross page a b (place_of (wanted.Delivered a b k) rows) j
row_strokes page rows j row = []

-- The number of a line, counted from 0, stands at the left.
unfoldable pub line_number : (y : ℕ) → Row → List ℕ
line_number y (Line line task deed reply) = text_at 8 y ++ decimal line ++ fixed_text fixed.TextEnd
line_number y row = []

unfoldable pub row_labels : Page → (rows : List Row) → (j : ℕ) → Row → List ℕ
row_labels page rows j row =
    cond (is_shown page j j)
    (let y = edge page j in
    line_number (y + 13) row ++ mark_shape (row_mark row) (column (row_task row)) (y + 9) ++ text_at (words_column page) (y + 13) ++ said_words rows row ++ fixed_text fixed.TextEnd)
    []

-- this of each of the rows, the first of them having place j
unfoldable pub each_row : (ℕ → Row → List ℕ) → (place : ℕ) → List Row → List ℕ
each_row f j [] = []
each_row f j (row ∷ rows) = f j row ++ each_row f (j + 1) rows

unfoldable pub chart_text : Page → List Row → List ℕ
chart_text page rows = sheet_top page ++ each_row (row_strokes page rows) 0 rows ++ each_row (row_labels page rows) 0 rows ++ fixed_text fixed.SheetEnd
