-- What a reader tells of the bytes that it was fed.
use Rattle.std.specs.Prelude.{◌≡◌, ◌≢◌, ◌↔◌, ℕ, ◌<◌, ◌≤◌, List, [], ◌∷◌, ◌++◌, length, take, Result, Ok, Err}
use Rattle.lapi_capture.specs.declared.feed_fault.FeedFault.{FeedFault}
use Rattle.lapi_capture.specs.declared.feed_fault.FeedFault.TheVariants.{Bad, Limit, Memory}
use Rattle.lapi_capture.specs.declared.flaw.Flaw.{Flaw}
use Rattle.lapi_capture.specs.declared.flaw.Flaw.TheVariants.{Early}
use Rattle.lapi_base.specs.declared.capture.TheConstants.{CAPTURE_MAGIC as MAGIC, CAPTURE_END as END}
use Rattle.lapi_capture.specs.declared.format.TheConstants.{LONGEST_CAPTURE}
use Rattle.lapi_capture.specs.declared.landing.Landing.{Landing}
use Rattle.lapi_capture.specs.declared.stage.Stage.{Stage}
use Rattle.lapi_capture.specs.declared.stage.Stage.TheVariants.{Opening, Frames, Over, Faulty}
use Rattle.lapi_capture.specs.Captures.{start, through, parts_of, landings, AreFrames, IsOpen, HasFault, IsTooLong}
use Rattle.lapi_capture.specs.Entries.{Entries, entries_of}

-- how many whole frames came and the place behind them, what is kept of their parts, their landings, and the bytes
-- that came since
pub record Reading : Type 0 where
  pub stage : Stage
  pub frames : ℕ
  pub place : ℕ
  pub entries : Entries
  pub landings : List Landing
  pub rest : List ℕ

abbrev pub reading : Stage → (frames place : ℕ) → Entries → List Landing → (rest : List ℕ) → Reading
reading stage frames place entries landings rest =
    record { stage = stage; frames = frames; place = place; entries = entries; landings = landings; rest = rest }

-- within the first bytes
abbrev pub beginning : (rest : List ℕ) → Reading
beginning rest = reading Opening 0 0 [] [] rest

-- behind these frames
abbrev pub reading_of : Stage → (frames : List (List ℕ)) (rest : List ℕ) → Reading
reading_of stage frames rest = reading stage (length frames) (start frames) (entries_of (parts_of frames)) (landings frames) rest

-- A fault is told as it is fed, but for Early, which the end alone can tell. Without memory nothing is told.
abbrev pub Tells : Stage → Reading → (bytes : List ℕ) → Type 0
Tells Opening r bytes = (length bytes < length MAGIC) × (bytes ≡ take (length bytes) MAGIC) × (r ≡ beginning bytes)
Tells Frames r bytes =
    (frames : List (List ℕ)) × (rest : List ℕ) × IsOpen frames rest × (bytes ≡ through frames ++ rest) × (r ≡ reading_of Frames frames rest)
Tells Over r bytes = (frames : List (List ℕ)) × AreFrames frames × (bytes ≡ through frames ++ END ∷ []) × (r ≡ reading_of Over frames [])
Tells (Faulty (Bad place flaw)) r bytes = (flaw ≢ Early) × HasFault flaw bytes place
Tells (Faulty (Limit place)) r bytes = IsTooLong bytes place
Tells (Faulty Memory) r bytes = ⊥

-- The reader tells what these bytes are.
abbrev pub IsReadingOf : Reading → (bytes : List ℕ) → Type 0
IsReadingOf r bytes = Tells r.stage r bytes

-- what stopped the reader
abbrev pub fault_at : Stage → Result Unit FeedFault
fault_at (Faulty fault) = Err fault
fault_at _ = Ok tt

-- what the end behind these bytes comes to
abbrev pub ended_by : Stage → (bytes : List ℕ) → Result Unit FeedFault
ended_by (Faulty fault) bytes = Err fault
ended_by Over bytes = Ok tt
ended_by _ bytes = Err (Bad (length bytes) Early)

abbrev pub ended : Reading → (bytes : List ℕ) → Result Unit FeedFault
ended r bytes = ended_by r.stage bytes

-- What is told of bytes is told of them with a piece more.
abbrev pub GoesOn : Reading → (piece : List ℕ) → Reading → Type 0
GoesOn before piece after = (bytes : List ℕ) → IsReadingOf before bytes → IsReadingOf after (bytes ++ piece)

-- ---- what every reading of bytes keeps

-- each fault is told exactly where they have it, and so is the limit
abbrev pub FaultsAreExact : Reading → (bytes : List ℕ) → Type 0
FaultsAreExact r bytes = (flaw : Flaw) (place : ℕ) → (ended r bytes ≡ Err (Bad place flaw)) ↔ HasFault flaw bytes place

abbrev pub LimitIsExact : Reading → (bytes : List ℕ) → Type 0
LimitIsExact r bytes = (place : ℕ) → (ended r bytes ≡ Err (Limit place)) ↔ IsTooLong bytes place

-- whole frames, with what began behind them, or with the end, are told as they are
abbrev pub FramesAreTold : Reading → (bytes : List ℕ) → Type 0
FramesAreTold r bytes =
    (frames : List (List ℕ)) (rest : List ℕ) → IsOpen frames rest → bytes ≡ through frames ++ rest → r ≡ reading_of Frames frames rest

abbrev pub EndIsTold : Reading → (bytes : List ℕ) → Type 0
EndIsTold r bytes = (frames : List (List ℕ)) → AreFrames frames → bytes ≡ through frames ++ END ∷ [] → r ≡ reading_of Over frames []

-- bytes without a fault are no more than the longest capture has
abbrev pub IsShort : Reading → (bytes : List ℕ) → Type 0
IsShort r bytes = fault_at r.stage ≡ Ok tt → length bytes ≤ LONGEST_CAPTURE
