-- The shapes of a chart as SVG writes them, and where they stand on the page, in pixels.
use Rattle.std.specs.Prelude.{ℕ, ◌+◌, ◌*◌, ◌-◌, min, max, nat_lt, nat_le, Bool, cond, ◌&&◌, List, ◌++◌, codes}
use Rattle.std.specs.Fmt.{decimal}
use Rattle.lapi_picture.specs.declared.fixed.Fixed.TheVariants as fixed
use Rattle.lapi_picture.specs.declared.page.Page.{Page}
use Rattle.lapi_picture.specs.Fixed.{fixed_text}

-- something that reaches from one row to another, or stands in one, is shown
abbrev pub is_shown : Page → (first last : ℕ) → Bool
is_shown page i j = nat_lt i page.last && nat_le page.first j

-- the line of a task's life; where arrows leave and reach it, left of its bars or right of its marks; and all words, right
-- of all lines
abbrev pub column : (task : ℕ) → ℕ
column t = 84 + 120 * t

abbrev pub side : (task other : ℕ) → ℕ
side t u = cond (nat_lt u t) (column t - 24) (column t + 10)

abbrev pub words_column : Page → ℕ
words_column page = column page.tasks - 80

-- the upper edge of the row of this place; rows that are not shown stand at the first edge or the last
abbrev pub edge : Page → (place : ℕ) → ℕ
edge page j = 72 + 18 * (min (max j page.first) page.last - page.first)

-- and its middle
abbrev pub middle : Page → (place : ℕ) → ℕ
middle page j = edge page j + cond (is_shown page j j) 9 0

-- a number that a shape has
unfoldable pub attribute : (name : List ℕ) → (value : ℕ) → List ℕ
attribute name value = codes " " ++ name ++ codes "=\"" ++ decimal value ++ codes "\""

-- a line, a text, a mark and a bar
unfoldable pub line_shape : (class : List ℕ) → (x1 y1 x2 y2 : ℕ) → List ℕ
line_shape class x1 y1 x2 y2 =
    fixed_text fixed.Line ++ class ++ fixed_text fixed.NameEnd ++ attribute (codes "x1") x1 ++ attribute (codes "y1") y1 ++ attribute (codes "x2") x2 ++ attribute (codes "y2") y2 ++ fixed_text fixed.ShapeEnd

unfoldable pub text_at : (x y : ℕ) → List ℕ
text_at x y = fixed_text fixed.Text ++ attribute (codes "x") x ++ attribute (codes "y") y ++ codes ">"

unfoldable pub mark_shape : (name : List ℕ) → (x y : ℕ) → List ℕ
mark_shape name x y = fixed_text fixed.Mark ++ name ++ fixed_text fixed.NameEnd ++ attribute (codes "x") x ++ attribute (codes "y") y ++ fixed_text fixed.ShapeEnd

unfoldable pub bar_shape : (x y height : ℕ) → List ℕ
bar_shape x y height = fixed_text fixed.Bar ++ attribute (codes "x") x ++ attribute (codes "y") y ++ attribute (codes "height") height ++ fixed_text fixed.ShapeEnd
