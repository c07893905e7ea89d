-- Fragments of messages, as data packets tell of them: which disagree, which messages are whole, and which land.
use Rattle.std.specs.Prelude.{ℕ, Bool, not, ◌&&◌, ◌==◌, List, ◌∷◌}
use Rattle.std.specs.List.{list_any}
use Rattle.lapi_base.specs.Packet.Layout.{layout_of, unit}
use Rattle.lapi_base.specs.Record.Below.{every_below}
use Rattle.lapi_base.specs.Record.Fragments.{fragments_in}
use Rattle.lapi_base.specs.Record.Names.{name_eq}
use Rattle.lapi_capture.specs.declared.incoming.Incoming.{Incoming}
use Rattle.lapi_capture.specs.declared.landing.Landing.{Landing}
use Rattle.lapi_capture.specs.declared.part.Part.{Part}

-- one message, at one task
abbrev pub is_same : Incoming → Incoming → Bool
is_same a b = name_eq a.name b.name && a.to == b.to

-- a part's message had another layout or length in an earlier part
abbrev pub disagrees : Part → (earlier : Part) → Bool
disagrees part earlier = is_same earlier.message part.message && not (part.layout == earlier.layout && part.length == earlier.length)

-- a part is fragment j of a message
abbrev pub is_fragment : Incoming → ℕ → Part → Bool
is_fragment message j part = is_same part.message message && j == part.fragment

-- fragment j of a message is among these parts
abbrev pub has : List Part → Incoming → ℕ → Bool
has parts message j = list_any (is_fragment message j) parts

-- how many fragments a part's message has
abbrev pub count : Part → ℕ
count part = fragments_in (unit (layout_of part.layout)) part.length

-- all fragments of a part's message are among these
abbrev pub is_whole : List Part → Part → Bool
is_whole parts part = every_below (count part) (has parts part.message)

-- with this part all are there, and before it one was missing
abbrev pub lands : (before : List Part) → Part → Bool
lands before part = not (is_whole before part) && is_whole (part ∷ before) part

abbrev pub landing : (frame : ℕ) → Part → Landing
landing f part = record { frame = f; name = part.message.name; to = part.message.to }
