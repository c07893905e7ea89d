-- The words that stand beside a row of a chart, and the mark that stands before them.
use Rattle.std.specs.Prelude.{ℕ, List, [], ◌++◌, codes, Option, Some, None, slice_get}
use Rattle.std.specs.Fmt.{decimal}
use Rattle.lapi_base.specs.declared.event.Event.{Event}
use Rattle.lapi_base.specs.declared.event.Event.TheVariants as events
use Rattle.lapi_base.specs.declared.reply.Reply.{Reply}
use Rattle.lapi_base.specs.declared.reply.Reply.TheVariants as replies
use Rattle.lapi_base.specs.Output.JournalText.{event_line}
use Rattle.lapi_base.specs.Output.TextParts.{message_text}
use Rattle.lapi_base.specs.Output.TraceText.{reply_text}
use Rattle.lapi_picture.specs.declared.cargo.Cargo.{Cargo}
use Rattle.lapi_picture.specs.declared.cargo.Cargo.TheVariants as cargos
use Rattle.lapi_picture.specs.declared.deed.Deed.{Deed}
use Rattle.lapi_picture.specs.declared.deed.Deed.TheVariants as deeds
use Rattle.lapi_picture.specs.declared.row.Row.{Row}
use Rattle.lapi_picture.specs.declared.row.Row.TheVariants.{Line, Happened, Counted, Sent}
use Rattle.lapi_picture.specs.declared.wanted.Wanted.TheVariants as wanted
use Rattle.lapi_picture.specs.Rows.{cargo_at, place_of}

-- data O.S LEG number N fragment J, or acknowledgement below N
unfoldable pub cargo_words : Cargo → List ℕ
cargo_words (cargos.Data name seq fragment) = codes "data " ++ message_text name ++ codes " number " ++ decimal seq ++ codes " fragment " ++ decimal fragment
cargo_words (cargos.Ack base) = codes "acknowledgement below " ++ decimal base
cargo_words cargos.Nothing = codes "no packet"

unfoldable pub deed_word : Deed → List ℕ
deed_word deeds.Step = codes "step"
deed_word deeds.Poll = codes "poll"
deed_word deeds.Tick = codes "tick"
deed_word (deeds.Deliver a k) = codes "deliver"
deed_word (deeds.Cut a k n) = codes "cut"
deed_word (deeds.Inject a) = codes "inject"
deed_word (deeds.Begin w) = codes "begin"
deed_word (deeds.End w) = codes "end"

unfoldable pub deed_numbers : Deed → List ℕ
deed_numbers deeds.Step = []
deed_numbers deeds.Poll = []
deed_numbers deeds.Tick = []
deed_numbers (deeds.Deliver a k) = codes " from " ++ decimal a ++ codes " entry " ++ decimal k
deed_numbers (deeds.Cut a k n) = codes " from " ++ decimal a ++ codes " entry " ++ decimal k ++ codes " to " ++ decimal n
deed_numbers (deeds.Inject a) = codes " from " ++ decimal a
deed_numbers (deeds.Begin w) = codes " " ++ decimal w
deed_numbers (deeds.End w) = codes " " ++ decimal w

-- the entry that was handed over, by the row that sent it
abbrev pub found_cargo : (rows : List Row) → Option ℕ → Cargo
found_cargo rows None = cargos.Nothing
found_cargo rows (Some i) = cargo_at (slice_get rows i)

unfoldable pub found_words : (rows : List Row) → Option ℕ → List ℕ
found_words rows None = []
found_words rows (Some i) = codes ", " ++ cargo_words (found_cargo rows (Some i))

unfoldable pub handed_words : (rows : List Row) → (task : ℕ) → Deed → List ℕ
handed_words rows t (deeds.Deliver a k) = found_words rows (place_of (wanted.Sent a t k) rows)
handed_words rows t (deeds.Cut a k n) = found_words rows (place_of (wanted.Sent a t k) rows)
handed_words rows t deed = []

unfoldable pub row_words : (rows : List Row) → Row → List ℕ
row_words rows (Line line task deed reply) = deed_word deed ++ deed_numbers deed ++ codes ": " ++ reply_text reply ++ handed_words rows task deed
row_words rows (Happened task event) = event_line event
row_words rows (Counted task counter value) = codes "counter " ++ decimal counter ++ codes " is " ++ decimal value
row_words rows (Sent from to place cargo) = codes "to " ++ decimal to ++ codes " entry " ++ decimal place ++ codes ", " ++ cargo_words cargo

-- the task in whose column a row stands
unfoldable pub row_task : Row → ℕ
row_task (Line line task deed reply) = task
row_task (Happened task event) = task
row_task (Counted task counter value) = task
row_task (Sent from to place cargo) = from

-- task T: and the words
unfoldable pub said_words : (rows : List Row) → Row → List ℕ
said_words rows row = codes "task " ++ decimal (row_task row) ++ codes ": " ++ row_words rows row

-- the name of its mark
abbrev pub reply_mark : Reply → List ℕ
reply_mark replies.Did = codes "did"
reply_mark replies.Blocked = codes "blocked"
reply_mark replies.Absent = codes "absent"
reply_mark replies.Idle = codes "idle"
reply_mark replies.Busy = codes "busy"
reply_mark (replies.Bad bad) = codes "bad"

abbrev pub event_mark : Event → List ℕ
event_mark (events.Issue t s) = codes "issue"
event_mark (events.Refuse t s why) = codes "refuse"
event_mark (events.Enter t s) = codes "enter"
event_mark (events.Pass t s) = codes "pass"
event_mark (events.Copy m) = codes "copy"
event_mark (events.Head m) = codes "head"
event_mark (events.Land m) = codes "land"
event_mark (events.Begin m t w) = codes "begin"
event_mark (events.End m t w) = codes "end"

unfoldable pub row_mark : Row → List ℕ
row_mark (Line line task deed reply) = reply_mark reply
row_mark (Happened task event) = event_mark event
row_mark (Counted task counter value) = codes "counter"
row_mark (Sent from to place cargo) = codes "sent"
