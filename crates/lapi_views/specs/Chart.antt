-- The rows of a run: each line of a schedule with its reply, and what it added to the record.
use Rattle.std.specs.Prelude.{ℕ, ◌+◌, ◌==◌, cond, List, [], ◌∷◌, ◌++◌, length, map, drop, reverse, Option, Some, None}
use Rattle.std.specs.List.{flat_map}
use Rattle.lapi_base.specs.declared.input.Input.{Input}
use Rattle.lapi_base.specs.declared.packet.Packet.{Packet}
use Rattle.lapi_base.specs.declared.packet.Packet.TheVariants.{Data, Ack}
use Rattle.lapi_base.specs.declared.rule.Rules.{Rules}
use Rattle.lapi_base.specs.declared.schedule.Act.{Act}
use Rattle.lapi_base.specs.declared.schedule.Act.TheVariants as acts
use Rattle.lapi_base.specs.declared.schedule.Line.{Line}
use Rattle.lapi_base.specs.declared.script.Script.{Script}
use Rattle.lapi_base.specs.Record.Counters.{count}
use Rattle.lapi_base.specs.Record.Operations.{numbers_below}
use Rattle.lapi_base.specs.Record.TaskPart.{actor}
use Rattle.lapi_base.specs.Record.Wires.{Run}
use Rattle.lapi_base.specs.Record.WorldView.{act_at, record_at}
use Rattle.lapi_picture.specs.declared.cargo.Cargo.{Cargo}
use Rattle.lapi_picture.specs.declared.cargo.Cargo.TheVariants as cargos
use Rattle.lapi_picture.specs.declared.deed.Deed.{Deed}
use Rattle.lapi_picture.specs.declared.deed.Deed.TheVariants as deeds
use Rattle.lapi_picture.specs.declared.row.Row.{Row}
use Rattle.lapi_picture.specs.declared.row.Row.TheVariants as rows
use Rattle.lapi_picture.specs.Chart.{chart_text}
use Rattle.lapi_picture.specs.Rows.{page_of}
use Rattle.lapi_views.specs.declared.part.Part.{Part}

-- what an act does at its task, and what a packet says
abbrev pub deed_of : Act → Deed
deed_of (acts.Step t) = deeds.Step
deed_of (acts.Poll t) = deeds.Poll
deed_of (acts.Tick t) = deeds.Tick
deed_of (acts.Deliver a b k) = deeds.Deliver a k
deed_of (acts.Cut a b k n) = deeds.Cut a k n
deed_of (acts.Inject a b bytes) = deeds.Inject a
deed_of (acts.Begin t w) = deeds.Begin w
deed_of (acts.End t w) = deeds.End w

abbrev pub cargo_of : Packet → Cargo
cargo_of (Data p) = cargos.Data p.name p.seq p.fragment
cargo_of (Ack layout from to base bits) = cargos.Ack base

-- what the later of two lists has after the other
abbrev pub added : {X : Type 0} → (before after : List X) → List X
added before after = drop (length before) after

-- these entries of a wire, of which the first has place k
unfoldable pub sent_rows : (from to place : ℕ) → List Packet → List Row
sent_rows a b k [] = []
sent_rows a b k (p ∷ packets) = rows.Sent a b k (cargo_of p) ∷ sent_rows a b (k + 1) packets

-- Of an act that made of the record r the record s: its replies, what happened, what its task put on its wires, wire by
-- wire, and which counters of its task changed.
abbrev pub line_rows : (line : ℕ) → Act → (r s : Run) → List Row
line_rows n act r s = map (λ reply. rows.Line n (actor act) (deed_of act) reply) (added r.replies s.replies)

abbrev pub happened_rows : Act → (r s : Run) → List Row
happened_rows act r s = map (λ event. rows.Happened (actor act) event) (added (reverse r.journal) (reverse s.journal))

abbrev pub put_rows : (from : ℕ) → (r s : Run) → (to : ℕ) → List Row
put_rows a r s b = sent_rows a b (length (r.wire a b)) (added (r.wire a b) (s.wire a b))

abbrev pub counted_row : (task counter before now : ℕ) → List Row
counted_row t c before now = cond (before == now) [] (rows.Counted t c now ∷ [])

module _ (script : Script) (rules : Rules) where
  abbrev pub changed_rows : (task : ℕ) → (r s : Run) → (counter : ℕ) → List Row
  changed_rows t r s c = counted_row t c (count script rules r.journal t c) (count script rules s.journal t c)

  unfoldable pub act_rows : (line : ℕ) → Act → (r s : Run) → List Row
  act_rows n act r s =
      line_rows n act r s ++ (happened_rows act r s
      ++ (flat_map (put_rows (actor act) r s) (numbers_below script.tasks) ++ flat_map (changed_rows (actor act) r s) (numbers_below script.counters)))

  -- line n, all lines before it being taken, and all lines
  abbrev pub rows_by : (line : ℕ) → Option Act → (r s : Run) → List Row
  rows_by n None r s = []
  rows_by n (Some act) r s = act_rows n act r s

  abbrev pub taken_rows : List Line → (line : ℕ) → List Row
  taken_rows schedule n = rows_by n (act_at schedule n) (record_at script rules schedule (numbers_below n)) (record_at script rules schedule (numbers_below (n + 1)))

  unfoldable pub run_rows : List Line → List Row
  run_rows schedule = flat_map (taken_rows schedule) (numbers_below (length schedule))

-- the chart of some lines of an input, with what all lines did
abbrev pub chart_by : (tasks : ℕ) → List Row → Part → List ℕ
chart_by tasks rows part = chart_text (page_of tasks rows part.from part.until) rows

abbrev pub chart_of : Rules → Part → Input → List ℕ
chart_of rules part x = chart_by x.script.tasks (run_rows x.script rules x.schedule) part
