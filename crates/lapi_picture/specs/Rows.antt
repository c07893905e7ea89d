-- The rows of a chart, and what is looked for among them.
use Rattle.std.specs.Prelude.{ℕ, ◌+◌, ◌==◌, Bool, false, cond, ◌&&◌, List, [], ◌∷◌, Option, Some, None, nat_le, min, length, unwrap_or}
use Rattle.lapi_base.specs.declared.event.Event.TheVariants.{End}
use Rattle.lapi_base.specs.declared.reply.Reply.TheVariants.{Did}
use Rattle.lapi_base.specs.Record.Names.{name_eq}
use Rattle.lapi_picture.specs.declared.cargo.Cargo.{Cargo}
use Rattle.lapi_picture.specs.declared.cargo.Cargo.TheVariants.{Nothing}
use Rattle.lapi_picture.specs.declared.deed.Deed.TheVariants.{Deliver}
use Rattle.lapi_picture.specs.declared.page.Page.{Page}
use Rattle.lapi_picture.specs.declared.row.Row.{Row}
use Rattle.lapi_picture.specs.declared.row.Row.TheVariants.{Line, Happened, Sent}
use Rattle.lapi_picture.specs.declared.wanted.Wanted.{Wanted}
use Rattle.lapi_picture.specs.declared.wanted.Wanted.TheVariants as wanted

-- the row that put entry k on the wire from a to b, the one that handed it over, a line from this one on, and the end of
-- a job
abbrev pub is_wanted : Wanted → Row → Bool
is_wanted (wanted.Sent a b k) (Sent from to place cargo) = from == a && (to == b && place == k)
is_wanted (wanted.Delivered a b k) (Line line task (Deliver from place) Did) = from == a && (task == b && place == k)
is_wanted (wanted.Line first) (Line line task deed reply) = nat_le first line
is_wanted (wanted.Ended m) (Happened task (End name t w)) = name_eq name m
is_wanted w row = false

-- the place of the first row that is wanted, the first of these rows having place j
unfoldable pub place_from : Wanted → (place : ℕ) → List Row → Option ℕ
place_from w j [] = None
place_from w j (row ∷ rows) = cond (is_wanted w row) (Some j) (place_from w (j + 1) rows)

abbrev pub place_of : Wanted → List Row → Option ℕ
place_of w rows = place_from w 0 rows

-- what the packet of a row says, of one that was sent
abbrev pub cargo_of : Row → Cargo
cargo_of (Sent from to place cargo) = cargo
cargo_of row = Nothing

abbrev pub cargo_at : Option Row → Cargo
cargo_at None = Nothing
cargo_at (Some row) = cargo_of row

-- The rows of the lines from one on until before another.
abbrev pub place_or_end : Wanted → List Row → ℕ
place_or_end w rows = unwrap_or (place_of w rows) (length rows)

abbrev pub page_of : (tasks : ℕ) → List Row → (from until : ℕ) → Page
page_of tasks rows from until = record {
  tasks = tasks;
  first = min (place_or_end (wanted.Line from) rows) 4294967295;
  last = min (place_or_end (wanted.Line until) rows) 4294967295;
}
