-- The sheet that a chart is drawn on: its title, its description, how its shapes look, and the columns of its tasks.
use Rattle.std.specs.Prelude.{ℕ, ◌+◌, ◌-◌, List, ◌++◌, codes}
use Rattle.std.specs.List.{flat_map}
use Rattle.std.specs.Fmt.{decimal}
use Rattle.lapi_base.specs.Record.Operations.{numbers_below}
use Rattle.lapi_picture.specs.declared.fixed.Fixed.TheVariants as fixed
use Rattle.lapi_picture.specs.declared.page.Page.{Page}
use Rattle.lapi_picture.specs.Fixed.{fixed_text}
use Rattle.lapi_picture.specs.Shapes.{attribute, column, edge, line_shape, text_at}

-- words run to the right of the last column
abbrev pub width : Page → ℕ
width page = column page.tasks + 590

abbrev pub height : Page → ℕ
height page = edge page page.last + 24

unfoldable pub frame_text : (width height : ℕ) → List ℕ
frame_text w h = fixed_text fixed.Frame ++ attribute (codes "width") w ++ attribute (codes "height") h ++ fixed_text fixed.FrameEnd

-- for those who hear the picture
unfoldable pub counts_text : (tasks rows : ℕ) → List ℕ
counts_text tasks rows = decimal tasks ++ fixed_text fixed.Columns ++ decimal rows

unfoldable pub spoken_text : (tasks rows : ℕ) → List ℕ
spoken_text tasks rows = fixed_text fixed.Title ++ counts_text tasks rows ++ fixed_text fixed.Described

-- the name of a task above the line of its life
unfoldable pub column_text : Page → (task : ℕ) → List ℕ
column_text page t =
    line_shape (codes "life") (column t) 60 (column t) (edge page page.last)
    ++ text_at (column t - 24) 52 ++ (codes "task " ++ decimal t) ++ fixed_text fixed.TextEnd

unfoldable pub marks_text : List ℕ
marks_text = fixed_text fixed.Marks ++ fixed_text fixed.ReplyMarks ++ fixed_text fixed.StatementMarks ++ fixed_text fixed.MessageMarks ++ fixed_text fixed.JobMarks

unfoldable pub sheet_top : Page → List ℕ
sheet_top page =
    frame_text (width page) (height page) ++ spoken_text page.tasks (page.last - page.first) ++ fixed_text fixed.Style ++ marks_text ++ fixed_text fixed.Legend
    ++ flat_map (column_text page) (numbers_below page.tasks)
