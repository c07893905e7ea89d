-- What differs from one layout of packets to another: sizes and limits, by the layout and by a script's. All of
-- them are this project's own.
use Rattle.std.specs.Prelude.{ℕ, Bool, true, false, cond, ◌||◌, ◌==◌}
use Rattle.lapi_base.specs.declared.script.Script.{Script}
use Rattle.lapi_base.specs.declared.sizes.Sizes.{Sizes}
use Rattle.lapi_base.specs.Packet.Format.{Size, Four, Eight}

pub data Layout : Type 0 where
  First : Layout
  Second : Layout

-- the numbers of the layouts: what a version byte can be, and the first line of an input can name
abbrev pub is_version : ℕ → Bool
is_version n = n == 1 || n == 2

abbrev pub layout_of : ℕ → Layout
layout_of n = cond (n == 2) Second First

-- the payload of each fragment but the last
abbrev pub unit : Layout → ℕ
unit First = 256
unit Second = 1024

-- the longest message
abbrev pub longest : Layout → ℕ
longest First = 16384
longest Second = 65536

-- the size of an acknowledgement's bits
abbrev pub bits_size : Layout → Size
bits_size First = Four
bits_size Second = Eight

-- the longest packet
abbrev pub longest_packet : Layout → ℕ
longest_packet First = 407
longest_packet Second = 1175

-- how far above the least unacknowledged number a link sends
abbrev pub window : Layout → ℕ
window First = 32
window Second = 64

-- whether acknowledgements wait for the receiver's next Poll
abbrev pub waits_for_poll : Layout → Bool
waits_for_poll First = false
waits_for_poll Second = true

-- whether a completion handler may answer the origin
abbrev pub has_echo : Layout → Bool
has_echo First = false
has_echo Second = true

-- the longest active message
abbrev pub longest_active : Layout → ℕ
longest_active First = 16384
longest_active Second = 16384

-- the most lines of a schedule
abbrev pub most_lines : Layout → ℕ
most_lines First = 20000
most_lines Second = 5000

-- the most bytes that a line injects, in each layout
abbrev pub most_injected : ℕ
most_injected = 1280

-- The layout and the sizes of a script.
abbrev pub sizes_of : Script → Sizes
sizes_of s = record { layout = s.layout; tasks = s.tasks; memory = s.memory; counters = s.counters; workers = s.workers }

-- The same of a script.
unfoldable pub unit_of : Script → ℕ
unit_of script = unit (layout_of script.layout)

unfoldable pub window_of : Script → ℕ
window_of script = window (layout_of script.layout)

unfoldable pub holds_back : Script → Bool
holds_back script = waits_for_poll (layout_of script.layout)

unfoldable pub may_answer : Script → Bool
may_answer script = has_echo (layout_of script.layout)

unfoldable pub longest_of : Script → ℕ
longest_of script = longest (layout_of script.layout)

unfoldable pub longest_active_of : Script → ℕ
longest_active_of script = longest_active (layout_of script.layout)
