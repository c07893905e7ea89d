-- Captures in their own words: whole frames, the landings in them, and the faults. A list of frames has its newest
-- first.
use Rattle.std.specs.Prelude.{◌≡◌, ◌≢◌, ◌⊎◌, ℕ, ◌+◌, ◌<◌, ◌≤◌, Bool, false, true, not, ◌||◌, cond, List, [], ◌∷◌, ◌++◌, length, take, Option, Some, None}
use Rattle.std.specs.List.{list_any}
use Rattle.lapi_capture.specs.declared.flaw.Flaw.{Flaw}
use Rattle.lapi_capture.specs.declared.flaw.Flaw.TheVariants.{Magic, Task, Size, Early, After, Clash}
use Rattle.lapi_base.specs.declared.capture.TheConstants.{CAPTURE_MAGIC as MAGIC, CAPTURE_END as END}
use Rattle.lapi_capture.specs.declared.format.TheConstants.{FRONT, LAST_TASK, LONGEST, MOST_FRAMES}
use Rattle.lapi_capture.specs.declared.landing.Landing.{Landing}
use Rattle.lapi_capture.specs.declared.part.Part.{Part}
use Rattle.lapi_capture.specs.Format.{byte_at, from, to, size_of, part_of, is_addressed}
use Rattle.lapi_capture.specs.Parts.{disagrees, lands, landing}

-- the bytes of a capture up to the end of these frames
unfoldable pub through : List (List ℕ) → List ℕ
through [] = MAGIC
through (f ∷ before) = through before ++ f

-- the parts of messages in frames, the newest first
abbrev pub with_part : List Part → Option Part → List Part
with_part before None = before
with_part before (Some part) = part ∷ before

unfoldable pub parts_of : List (List ℕ) → List Part
parts_of [] = []
parts_of (f ∷ before) = with_part (parts_of before) (part_of f)

-- The landings, by rising frame: a frame lands its message where its part is the last missing one.
abbrev pub landing_in : (frame : ℕ) → (before : List Part) → Option Part → List Landing
landing_in f before None = []
landing_in f before (Some part) = cond (lands before part) (landing f part ∷ []) []

unfoldable pub landings : List (List ℕ) → List Landing
landings [] = []
landings (f ∷ before) = landings before ++ landing_in (length before) (parts_of before) (part_of f)

-- a frame's first bytes: tasks and a size that may be
pub record IsBegun (f : List ℕ) : Type 0 where
  pub from : from f ≤ LAST_TASK
  pub to : 2 ≤ length f → to f ≤ LAST_TASK
  pub size : FRONT ≤ length f → size_of f ≤ LONGEST

pub record IsFrame (f : List ℕ) : Type 0 where
  pub begun : IsBegun f
  pub whole : length f ≡ FRONT + size_of f

-- a frame of which bytes are missing
pub record IsPartial (f : List ℕ) : Type 0 where
  pub begun : IsBegun f
  pub partial : FRONT ≤ length f → length f < FRONT + size_of f

-- A frame clashes with those before it: its packet is of other tasks, or its part disagrees with one of theirs.
abbrev pub disagrees_with : List Part → Option Part → Bool
disagrees_with before None = false
disagrees_with before (Some part) = list_any (disagrees part) before

unfoldable pub clashes : (before : List (List ℕ)) → List ℕ → Bool
clashes before f = not (is_addressed f) || disagrees_with (parts_of before) (part_of f)

-- whole frames, not too many, none of which clashes
unfoldable pub AreFrames : List (List ℕ) → Type 0
AreFrames [] = 0 ≤ 0
AreFrames (f ∷ before) = (length before < MOST_FRAMES) × IsFrame f × (clashes before f ≡ false) × AreFrames before

-- A further frame may follow them, and what is there of it is no whole one.
abbrev pub MayFollow : List (List ℕ) → Type 0
MayFollow before = AreFrames before × (length before < MOST_FRAMES)

abbrev pub IsOpen : (frames : List (List ℕ)) (rest : List ℕ) → Type 0
IsOpen frames rest = AreFrames frames × (0 < length rest → (length frames < MOST_FRAMES) × IsPartial rest)

-- where the next frame begins, and that it begins with these bytes
abbrev pub start : List (List ℕ) → ℕ
start before = length (through before)

abbrev pub Begins : (bytes : List ℕ) (before : List (List ℕ)) (f : List ℕ) → Type 0
Begins bytes before f = MayFollow before × (more : List ℕ) × (bytes ≡ through before ++ f ++ more)

-- a frame's first byte, or its second, is a task above the last
abbrev pub IsFromNone : List ℕ → Type 0
IsFromNone f = (length f ≡ 1) × (LAST_TASK < from f) × (from f ≢ END)

abbrev pub IsToNone : List ℕ → Type 0
IsToNone f = (length f ≡ 2) × (from f ≤ LAST_TASK) × (LAST_TASK < to f)

-- its first four bytes tell too large a size
abbrev pub IsTooLarge : List ℕ → Type 0
IsTooLarge f = (length f ≡ FRONT) × (from f ≤ LAST_TASK) × (to f ≤ LAST_TASK) × (LONGEST < size_of f)

-- The bytes are the front of a capture.
abbrev pub IsFront : List ℕ → Type 0
IsFront bytes =
    ((length bytes < length MAGIC) × (bytes ≡ take (length bytes) MAGIC))
    ⊎ ((frames : List (List ℕ)) × (rest : List ℕ) × IsOpen frames rest × (bytes ≡ through frames ++ rest))

-- The first fault of the bytes, if they end here.
abbrev pub HasFault : Flaw → (bytes : List ℕ) (place : ℕ) → Type 0
HasFault Magic bytes place =
    (b : ℕ) × (more : List ℕ) × (bytes ≡ take place MAGIC ++ b ∷ more) × (place < length MAGIC) × (b ≢ byte_at MAGIC place)
HasFault Task bytes place =
    (before : List (List ℕ)) × (f : List ℕ) × Begins bytes before f
    × ((IsFromNone f × (place ≡ start before)) ⊎ (IsToNone f × (place ≡ start before + 1)))
HasFault Size bytes place = (before : List (List ℕ)) × (f : List ℕ) × Begins bytes before f × IsTooLarge f × (place ≡ start before + 2)
HasFault Early bytes place = IsFront bytes × (place ≡ length bytes)
HasFault After bytes place =
    (frames : List (List ℕ)) × AreFrames frames × (b : ℕ) × (more : List ℕ) × (bytes ≡ through frames ++ END ∷ b ∷ more) × (place ≡ start frames + 1)
HasFault Clash bytes place =
    (before : List (List ℕ)) × (f : List ℕ) × Begins bytes before f × IsFrame f × (clashes before f ≡ true) × (place ≡ start before)

-- A frame begins behind as many as there may be.
abbrev pub IsTooLong : (bytes : List ℕ) (place : ℕ) → Type 0
IsTooLong bytes place =
    (frames : List (List ℕ)) × AreFrames frames × (length frames ≡ MOST_FRAMES) × (b : ℕ) × (more : List ℕ) × (bytes ≡ through frames ++ b ∷ more)
    × (b ≢ END) × (place ≡ start frames)
