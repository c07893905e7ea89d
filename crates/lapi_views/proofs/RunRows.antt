-- The rows of a run, line by line.
use Rattle.std.proofs.Common.{◌≡◌, ℕ, ◌+◌, List, [], ◌∷◌, ◌++◌, length, false, Some, Ok, sym, ap, ◌∙◌, subst}
use Rattle.std.specs.List.{flat_map}
use Rattle.lapi_base.specs.declared.packet.Packet.{Packet}
use Rattle.lapi_base.specs.declared.rule.Rules.{Rules}
use Rattle.lapi_base.specs.declared.schedule.Act.{Act}
use Rattle.lapi_base.specs.declared.schedule.Line.{Line}
use Rattle.lapi_base.specs.declared.script.Script.{Script}
use Rattle.lapi_base.specs.Laws.Entries.{PacketsAreWritten}
use Rattle.lapi_base.specs.Laws.LinesTaken.{TakenIsRecord}
use Rattle.lapi_base.specs.Packet.PacketBytes.{packet}
use Rattle.lapi_base.specs.Packet.Spelling.{Spells, decoded, spells_packet}
use Rattle.lapi_base.specs.Record.Counters.{count}
use Rattle.lapi_base.specs.Record.Operations.{numbers_below}
use Rattle.lapi_base.specs.Record.TaskPart.{actor}
use Rattle.lapi_base.specs.Record.Valid.{ValidRules, ValidSchedule, ValidScript}
use Rattle.lapi_base.specs.Record.Wires.{IsEntry, Run}
use Rattle.lapi_base.specs.Record.WorldView.{HoldsOfRecords, WorldView, act_at, record_at, view_record}
use Rattle.lapi_base.proofs.UptoLaws.{length-over}
use Rattle.lapi_picture.specs.declared.deed.Deed.{Deed}
use Rattle.lapi_picture.specs.declared.row.Row.{Row}
use Rattle.lapi_views.specs.Chart.{deed_of, rows_by, run_rows, taken_rows}
use Rattle.lapi_views.specs.ChartParts.{Mark, mark_of, rows_after}
use Rattle.lapi_views.proofs.EachNumber.{number_added}
use Rattle.lapi_views.proofs.LineRows.{line_told}

-- a mark has a count for each wire from its task, and a value for each counter
pub mark_wires : (script : Script) (rules : Rules) (r : Run) (t : ℕ) → length (mark_of script rules r t).entries ≡ script.tasks
unfolding mark_of
mark_wires script rules r t = length-over (λ b. length (r.wire t b)) script.tasks

pub mark_counters : (script : Script) (rules : Rules) (r : Run) (t : ℕ) → length (mark_of script rules r t).counters ≡ script.counters
unfolding mark_of
mark_counters script rules r t = length-over (count script rules r.journal t) script.counters

-- each entry is read back from what is written for it
read_back : HoldsOfRecords PacketsAreWritten → TakenIsRecord → ((p : Packet) (bytes : List ℕ) → Spells p bytes → decoded bytes ≡ Ok p) → (v : WorldView) → ValidScript v.script × ValidSchedule v.script spells_packet v.schedule → ValidRules v.rules
    → (a b k : ℕ) (p : Packet) → IsEntry (view_record v) a b k p → decoded (packet p) ≡ Ok p
read_back written taken round_trip v valid few a b k p entry =
    round_trip p (packet p) (written v.script v.rules (view_record v) (taken v.script v.rules v.schedule v.taken valid.1) valid.0 few a b k p entry)

-- what one line adds
pub line_added : HoldsOfRecords PacketsAreWritten → TakenIsRecord → ((p : Packet) (bytes : List ℕ) → Spells p bytes → decoded bytes ≡ Ok p)
    → (w v : WorldView) (n task : ℕ) (deed : Deed) (before : Mark) (act : Act)
    → ValidScript w.script × ValidSchedule w.script spells_packet w.schedule → ValidRules w.rules
    → act_at w.schedule n ≡ Some act → task ≡ actor act → deed ≡ deed_of act → before ≡ mark_of w.script w.rules (view_record w) task → v ≡ record w { taken = w.taken ++ n ∷ [] }
    → rows_after v.script v.rules n task deed before (view_record v) ≡ rows_by w.script w.rules n (act_at w.schedule n) (view_record w) (view_record v)
line_added written taken round_trip w v n task deed before act valid few at there does marked one =
    let r = view_record w in
    let s = view_record v in
    let still = subst (λ (x : WorldView). ValidScript x.script × ValidSchedule x.script spells_packet x.schedule) (sym one) valid in
    let few_still = subst (λ (x : WorldView). ValidRules x.rules) (sym one) few in
    ap (λ (x : WorldView). rows_after x.script x.rules n task deed before s) one
    ∙ ap (λ (m : Mark). rows_after w.script w.rules n task deed m s) marked
    ∙ ap (λ (t : ℕ). rows_after w.script w.rules n t deed (mark_of w.script w.rules r t) s) there
    ∙ ap (λ (d : Deed). rows_after w.script w.rules n (actor act) d (mark_of w.script w.rules r (actor act)) s) does
    ∙ line_told w.script w.rules r s n act (λ b k p entry. read_back written taken round_trip v still few_still (actor act) b k p entry)
    ∙ sym (ap (λ x. rows_by w.script w.rules n x r s) at)

-- one line more
pub next_rows : (first w new : WorldView) (n : ℕ) (now next : List Row) → w ≡ record first { taken = numbers_below n } → new ≡ record first { taken = numbers_below (n + 1) }
    → now ≡ flat_map (taken_rows first.script first.rules first.schedule) (numbers_below n) → next ≡ now ++ rows_by w.script w.rules n (act_at w.schedule n) (view_record w) (view_record new)
    → next ≡ flat_map (taken_rows first.script first.rules first.schedule) (numbers_below (n + 1))
next_rows first w new n now next before after told added =
    let same : rows_by w.script w.rules n (act_at w.schedule n) (view_record w) (view_record new) ≡ taken_rows first.script first.rules first.schedule n =
    ap (λ (x : WorldView). rows_by x.script x.rules n (act_at x.schedule n) (view_record x) (view_record new)) before
    ∙ ap (λ (x : WorldView). rows_by first.script first.rules n (act_at first.schedule n) (record_at first.script first.rules first.schedule (numbers_below n)) (view_record x)) after in
    number_added (taken_rows first.script first.rules first.schedule) n [] now next told (added ∙ ap (λ more. now ++ more) same)

-- and all lines
pub all_rows : (script : Script) (rules : Rules) (schedule : List Line) (first : WorldView) (n : ℕ) (rows : List Row)
    → first ≡ record { script = script; rules = rules; schedule = schedule; taken = []; spent = false } → n ≡ length schedule
    → rows ≡ flat_map (taken_rows first.script first.rules first.schedule) (numbers_below n) → rows ≡ run_rows script rules schedule
unfolding run_rows
all_rows script rules schedule first n rows is count told =
    told
    ∙ ap (λ (x : WorldView). flat_map (taken_rows x.script x.rules x.schedule) (numbers_below n)) is
    ∙ ap (λ m. flat_map (taken_rows script rules schedule) (numbers_below m)) count
