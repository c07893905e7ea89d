-- What is told of a capture. This is the project's own.
use Rattle.std.specs.Prelude.{◌≡◌, ◌⊎◌, ℕ, List, [], ◌∷◌, ◌++◌, length, Option, Result, Ok, Err, IsErr}
use Rattle.std.specs.Io.KnownBytes.{Consumes, IsAtEnd}
use Rattle.lapi_base.specs.declared.capture.TheConstants.{CAPTURE_END}
use Rattle.lapi_base.specs.declared.status.Status.{Status}
use Rattle.lapi_base.specs.declared.status.Status.TheVariants as status
use Rattle.lapi_base.specs.Output.CommandAnswers.{Answer}
use Rattle.lapi_capture.specs.declared.feed_fault.FeedFault.{FeedFault}
use Rattle.lapi_capture.specs.declared.feed_fault.FeedFault.TheVariants.{Bad, Limit, Memory}
use Rattle.lapi_capture.specs.declared.flaw.Flaw.TheVariants.{Early}
use Rattle.lapi_capture.specs.declared.stage.Stage.TheVariants.{Faulty}
use Rattle.lapi_capture.specs.Captures.{AreFrames, HasFault, IsTooLong, landings, through}
use Rattle.lapi_capture.specs.Reading.{Reading, IsReadingOf, fault_at}
use Rattle.lapi_capture.specs.Texts.{fault_text, landings_text}
use Rattle.lapi_tool.specs.Outcomes.{CommandGives, IsSilent}

-- What bytes come to that were read to their end, or to their first fault: a capture of these frames, or that fault. Only
-- the end can be too early.
abbrev pub ComesTo : (bytes : List ℕ) (rest : Option (List ℕ)) → Result (List (List ℕ)) FeedFault → Type 0
ComesTo bytes rest (Ok frames) = AreFrames frames × (bytes ≡ through frames ++ CAPTURE_END ∷ []) × IsAtEnd rest
ComesTo bytes rest (Err (Bad place flaw)) = HasFault flaw bytes place × (flaw ≡ Early → IsAtEnd rest)
ComesTo bytes rest (Err (Limit place)) = IsTooLong bytes place
ComesTo bytes rest (Err Memory) = ⊥

abbrev pub fault_status : FeedFault → Status
fault_status (Bad place flaw) = status.Syntax
fault_status (Limit place) = status.Limit
fault_status Memory = status.Memory

abbrev pub landings_answer : Result (List (List ℕ)) FeedFault → Answer
landings_answer (Ok frames) = record { status = status.Ok; text = landings_text (length frames) (landings frames) }
landings_answer (Err fault) = record { status = fault_status fault; text = fault_text fault }

-- nothing was written, since the source couldn't be read or memory ran out; or this much was read, and it was answered
abbrev pub IsLanded : (left rest held now : Option (List ℕ)) → Status → Type 0
IsLanded left rest held now result =
    IsSilent result held now
    ⊎ ((bytes : List ℕ) × Consumes left rest bytes × (o : Result (List (List ℕ)) FeedFault) × ComesTo bytes rest o × CommandGives (landings_answer o) held now result)

-- A reader found no memory, or was fed all that was left, or the bytes up to a fault.
abbrev pub WasFed : Reading → (left rest : Option (List ℕ)) → Type 0
WasFed r left rest =
    (r.stage ≡ Faulty Memory)
    ⊎ ((bytes : List ℕ) × Consumes left rest bytes × IsReadingOf r bytes × (IsAtEnd rest ⊎ IsErr (fault_at r.stage)))
