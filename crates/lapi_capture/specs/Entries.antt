-- What a reader keeps of the parts that came: one entry for each message, in the order of their first parts.
use Rattle.std.specs.Prelude.{ℕ, ◌*◌, ◌^◌, ◌%◌, Bool, false, not, ◌&&◌, ◌==◌, bit_or, List, [], ◌∷◌, Option, Some, None}
use Rattle.std.specs.Map.{lookup}
use Rattle.indexmap.specs.IndexMap.{insert_entry}
use Rattle.lapi_base.specs.Record.Below.{every_below, has_bit}
use Rattle.lapi_capture.specs.declared.incoming.Incoming.{Incoming}
use Rattle.lapi_capture.specs.declared.part.Part.{Part}
use Rattle.lapi_capture.specs.declared.seen.Seen.{Seen}
use Rattle.lapi_capture.specs.Parts.{is_same, count}

abbrev pub Entries : Type 0
Entries = List (Incoming × Seen)

abbrev pub entry : Entries → Incoming → Option Seen
entry entries message = lookup (is_same message) entries

-- a message's fragments that came, as bits; with fragment j too
abbrev pub bits_by : Option Seen → ℕ
bits_by None = 0
bits_by (Some seen) = seen.fragments

abbrev pub bits : Entries → Incoming → ℕ
bits entries message = bits_by (entry entries message)

abbrev pub with_bit : ℕ → (j : ℕ) → ℕ
with_bit word j = bit_or word (1 * 2 ^ j % 2 ^ 64)

-- a part's message has another layout or length in its entry
abbrev pub differs_from : Option Seen → Part → Bool
differs_from None part = false
differs_from (Some seen) part = not (part.layout == seen.layout && part.length == seen.length)

abbrev pub differs : Entries → Part → Bool
differs entries part = differs_from (entry entries part.message) part

-- with one part more
abbrev pub seen_with : Entries → Part → Seen
seen_with entries part = record { layout = part.layout; length = part.length; fragments = with_bit (bits entries part.message) part.fragment }

abbrev pub with_part : Entries → Part → Entries
with_part entries part = insert_entry is_same entries part.message (seen_with entries part)

-- its message is whole with it, and was not before
abbrev pub has_all : Part → (word : ℕ) → Bool
has_all part word = every_below (count part) (has_bit word)

abbrev pub completes : Entries → Part → Bool
completes entries part = not (has_all part (bits entries part.message)) && has_all part (with_bit (bits entries part.message) part.fragment)

-- the entries of these parts, of which the newest stands first
unfoldable pub entries_of : List Part → Entries
entries_of [] = []
entries_of (part ∷ before) = with_part (entries_of before) part
