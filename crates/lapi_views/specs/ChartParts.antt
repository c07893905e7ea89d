-- The rows of one line, by how far its task had come before it.
use Rattle.std.specs.Prelude.{ℕ, ◌+◌, List, [], ◌∷◌, ◌++◌, length, map, drop, reverse, slice_index, Result, Ok, Err}
use Rattle.std.specs.List.{flat_map}
use Rattle.lapi_base.specs.declared.packet.Packet.{Packet}
use Rattle.lapi_base.specs.declared.reply.Bad.{Bad}
use Rattle.lapi_base.specs.declared.reply.Reply.{Reply}
use Rattle.lapi_base.specs.declared.rule.Rules.{Rules}
use Rattle.lapi_base.specs.declared.event.Event.{Event}
use Rattle.lapi_base.specs.declared.script.Script.{Script}
use Rattle.lapi_base.specs.Packet.PacketBytes as written
use Rattle.lapi_base.specs.Packet.Spelling.{decoded}
use Rattle.lapi_base.specs.Record.Counters.{count}
use Rattle.lapi_base.specs.Record.Operations.{numbers_below}
use Rattle.lapi_base.specs.Record.Wires.{Run}
use Rattle.lapi_picture.specs.declared.cargo.Cargo.{Cargo}
use Rattle.lapi_picture.specs.declared.cargo.Cargo.TheVariants as cargos
use Rattle.lapi_picture.specs.declared.deed.Deed.{Deed}
use Rattle.lapi_picture.specs.declared.row.Row.{Row}
use Rattle.lapi_picture.specs.declared.row.Row.TheVariants as rows
use Rattle.lapi_views.specs.Chart.{cargo_of, counted_row}

-- how many replies and events there are, how many entries stand on each wire from a task, and its counters
pub record Mark : Type 0 where
  pub replies : ℕ
  pub events : ℕ
  pub entries : List ℕ
  pub counters : List ℕ

unfoldable pub mark_of : Script → Rules → Run → (task : ℕ) → Mark
mark_of script rules r t = record {
  replies = length r.replies;
  events = length r.journal;
  entries = map (λ b. length (r.wire t b)) (numbers_below script.tasks);
  counters = map (count script rules r.journal t) (numbers_below script.counters);
}

-- what an entry's bytes say
abbrev pub cargo_by : Result Packet Bad → Cargo
cargo_by (Ok p) = cargo_of p
cargo_by (Err bad) = cargos.Nothing

-- the entries of a wire by their bytes, of which the first has place k
unfoldable pub entry_rows : (from to place : ℕ) → List (List ℕ) → List Row
entry_rows a b k [] = []
entry_rows a b k (entry ∷ entries) = rows.Sent a b k (cargo_by (decoded entry)) ∷ entry_rows a b (k + 1) entries

-- after that mark
abbrev pub entries_after : (from : ℕ) → Mark → Run → (to : ℕ) → List Row
entries_after a mark s b = let k = slice_index mark.entries b in entry_rows a b k (drop k (map written.packet (s.wire a b)))

abbrev pub counted_after : Script → Rules → (task : ℕ) → Mark → Run → (counter : ℕ) → List Row
counted_after script rules t mark s c = counted_row t c (slice_index mark.counters c) (count script rules s.journal t c)

abbrev pub replied_after : (line task : ℕ) → Deed → (replies : ℕ) → List Reply → List Row
replied_after n t deed replies all = map (λ reply. rows.Line n t deed reply) (drop replies all)

abbrev pub happened_after : (task : ℕ) → (events : ℕ) → List Event → List Row
happened_after t events all = map (λ event. rows.Happened t event) (drop events all)

unfoldable pub rows_after : Script → Rules → (line task : ℕ) → Deed → Mark → Run → List Row
rows_after script rules n t deed mark s =
    replied_after n t deed mark.replies s.replies
    ++ (happened_after t mark.events (reverse s.journal)
    ++ (flat_map (entries_after t mark s) (numbers_below script.tasks) ++ flat_map (counted_after script rules t mark s) (numbers_below script.counters)))
