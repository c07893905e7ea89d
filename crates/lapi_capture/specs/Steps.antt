-- What one byte more does to a reader.
use Rattle.std.specs.Prelude.{◌≡◌, ℕ, suc, ◌+◌, ◌*◌, ◌<◌, ◌≤◌, Bool, not, ◌==◌, ◌&&◌, cond, List, [], ◌∷◌, ◌++◌, length, Option, Some, None, nat_lt, nat_le, if◌then◌else◌}
use Rattle.lapi_capture.specs.declared.feed_fault.FeedFault.TheVariants as faults
use Rattle.lapi_capture.specs.declared.flaw.Flaw.{Flaw}
use Rattle.lapi_capture.specs.declared.flaw.Flaw.TheVariants as flaws
use Rattle.lapi_base.specs.declared.capture.TheConstants.{CAPTURE_MAGIC as MAGIC, CAPTURE_END as END}
use Rattle.lapi_capture.specs.declared.format.TheConstants.{FRONT, LAST_TASK, LONGEST, MOST_FRAMES, MOST_TOLD}
use Rattle.lapi_capture.specs.declared.part.Part.{Part}
use Rattle.lapi_capture.specs.declared.stage.Stage.{Stage}
use Rattle.lapi_capture.specs.declared.stage.Stage.TheVariants.{Opening, Frames, Over, Faulty}
use Rattle.lapi_capture.specs.Entries.{differs, with_part, completes}
use Rattle.lapi_capture.specs.Format.{byte_at, to, size_of, part_of, is_addressed}
use Rattle.lapi_capture.specs.Parts.{landing}
use Rattle.lapi_capture.specs.Reading.{Reading}

abbrev pub bad : Reading → ℕ → Flaw → Reading
bad r place flaw = record r { stage = Faulty (faults.Bad place flaw) }

abbrev pub more : Reading → List ℕ → Reading
more r bytes = record r { rest = r.rest ++ bytes }

-- one of the first bytes
abbrev pub opening : Reading → ℕ → Reading
opening r b =
    if not (b == byte_at MAGIC (length r.rest)) then bad r (length r.rest) flaws.Magic
    else if nat_lt (length r.rest + 1) (length MAGIC) then more r (b ∷ [])
    else record r { stage = Frames; place = length MAGIC; rest = [] }

-- a byte behind a frame: the end, or the task that a further frame is from
abbrev pub first : Reading → ℕ → Reading
first r b =
    if b == END then record r { stage = Over }
    else if nat_le MOST_FRAMES r.frames then record r { stage = Faulty (faults.Limit r.place) }
    else if nat_lt LAST_TASK b then bad r r.place flaws.Task
    else more r (b ∷ [])

-- a whole frame of so many bytes, without a clash; then with a part
abbrev pub counted : Reading → (length : ℕ) → Reading
counted r len = record r { frames = suc r.frames; place = r.place + len }

abbrev pub joined : Reading → Part → Reading
joined r part = record r { entries = with_part r.entries part; landings = r.landings ++ cond (completes r.entries part) (landing r.frames part ∷ []) [] }

unfoldable pub told : Reading → (length : ℕ) → Part → Reading
told r len part = if differs r.entries part then bad r r.place flaws.Clash else counted (joined r part) len

-- a whole frame
abbrev pub holds : Reading → (length : ℕ) → Option Part → Reading
holds r len None = counted r len
holds r len (Some part) = told r len part

abbrev pub whole : Reading → (length : ℕ) → (addressed : Bool) → Option Part → Reading
whole r len addressed part = if addressed then holds r len part else bad r r.place flaws.Clash

-- what the bytes of a frame so far tell
unfoldable pub further : Reading → Reading
further r =
    if length r.rest == 2 && nat_lt LAST_TASK (to r.rest) then bad r (r.place + 1) flaws.Task
    else if nat_lt (length r.rest) FRONT then r
    else if length r.rest == FRONT && nat_lt LONGEST (size_of r.rest) then bad r (r.place + 2) flaws.Size
    else if nat_lt (length r.rest) (FRONT + size_of r.rest) then r
    else whole (record r { rest = [] }) (length r.rest) (is_addressed r.rest) (part_of r.rest)

abbrev pub within : Reading → ℕ → Reading
within r b = if length r.rest == 0 then first r b else further (more r (b ∷ []))

-- one byte
abbrev pub byte_by : Stage → Reading → ℕ → Reading
byte_by Opening r b = opening r b
byte_by Frames r b = within r b
byte_by Over r b = bad r (r.place + 1) flaws.After
byte_by (Faulty fault) r b = r

abbrev pub byte : Reading → ℕ → Reading
byte r b = byte_by r.stage r b

-- Numbers stay small: a frame of which bytes are missing has fewer than its first four tell, and than they can.
pub record IsSmall (at_stage : Stage) (count at : ℕ) (bytes : List ℕ) : Type 0 where
  pub frames : count ≤ MOST_FRAMES
  pub opening : at_stage ≡ Opening → count ≡ 0
  pub within : 0 < length bytes → count < MOST_FRAMES
  pub lacks : FRONT ≤ length bytes → length bytes < FRONT + size_of bytes
  pub rest : length bytes < MOST_TOLD
  pub place : at ≤ length MAGIC + MOST_TOLD * count
