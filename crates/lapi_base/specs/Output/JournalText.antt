-- The text of a journal: a line for each event, in order. This is the project's own.
use Rattle.std.specs.Prelude.{List, ℕ, ◌++◌, codes, reverse}
use Rattle.std.specs.List.{flat_map}
use Rattle.lapi_base.specs.declared.event.Event.{Event}
use Rattle.lapi_base.specs.declared.event.Event.TheVariants.{Issue, Refuse, Enter, Pass, Copy, Head, Land, Begin, End}
use Rattle.lapi_base.specs.Record.Wires.{Run}
use Rattle.lapi_base.specs.Output.TextParts.{dotted, message_text, refusal_text}

abbrev pub event_line : Event → List ℕ
event_line (Issue t s) = codes "issue " ++ dotted t s ++ codes "\n"
event_line (Refuse t s why) = codes "refuse " ++ dotted t s ++ codes " " ++ refusal_text why ++ codes "\n"
event_line (Enter t s) = codes "enter " ++ dotted t s ++ codes "\n"
event_line (Pass t s) = codes "pass " ++ dotted t s ++ codes "\n"
event_line (Copy m) = codes "copy " ++ message_text m ++ codes "\n"
event_line (Head m) = codes "head " ++ dotted m.origin m.statement ++ codes "\n"
event_line (Land m) = codes "land " ++ message_text m ++ codes "\n"
event_line (Begin m t w) = codes "begin " ++ dotted m.origin m.statement ++ codes " " ++ dotted t w ++ codes "\n"
event_line (End m t w) = codes "end " ++ dotted m.origin m.statement ++ codes " " ++ dotted t w ++ codes "\n"

-- the events from the first to the last, which a record has in front
unfoldable pub journal_text : Run → List ℕ
journal_text r = flat_map event_line (reverse r.journal)
