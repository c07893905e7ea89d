-- Bytes have one reading: a fault is told exactly where they have it, and frames as they stand in them.
use Rattle.std.proofs.Common.{◌≡◌, ◌≢◌, ℕ, List, [], length, Result, Err, refl, sym, ap, ◌∙◌, subst, inl, inr}
use Rattle.lapi_capture.specs.declared.feed_fault.FeedFault.{FeedFault}
use Rattle.lapi_capture.specs.declared.feed_fault.FeedFault.TheVariants.{Bad, Limit, Memory}
use Rattle.lapi_capture.specs.declared.flaw.Flaw.{Flaw}
use Rattle.lapi_capture.specs.declared.flaw.Flaw.TheVariants.{Magic, Task, Size, Early, After, Clash}
use Rattle.lapi_capture.specs.declared.stage.Stage.{Stage}
use Rattle.lapi_capture.specs.declared.stage.Stage.TheVariants.{Opening, Frames, Over, Faulty}
use Rattle.lapi_capture.specs.Captures.{HasFault, IsTooLong}
use Rattle.lapi_capture.specs.Reading.{Reading, reading_of, Tells, IsReadingOf, ended, ended_by, FaultsAreExact, LimitIsExact, FramesAreTold, EndIsTold}
use Rattle.lapi_capture.proofs.Again.{read, open_read, capture_read}
use Rattle.lapi_capture.proofs.Found.{magic_read, fault_found, limit_found}

same_stage : (stage : Stage) (r : Reading) (bytes : List ℕ) → Tells stage r bytes → (read bytes).stage ≡ stage
same_stage Opening r bytes (lt, is, same) = ap (λ r. r.stage) (ap read is ∙ magic_read (length bytes) lt)
same_stage Frames r bytes (frames, rest, open_there, is, same) = ap (λ r. r.stage) (ap read is ∙ open_read frames rest open_there)
same_stage Over r bytes (frames, are, is, same) = ap (λ r. r.stage) (ap read is ∙ capture_read frames are)
same_stage (Faulty (Bad place flaw)) r bytes (other, h) = fault_found flaw bytes place other h
same_stage (Faulty (Limit place)) r bytes h = limit_found bytes place h
same_stage (Faulty Memory) r bytes h = absurd h

stage_is : (r : Reading) (bytes : List ℕ) (stage : Stage) → IsReadingOf r bytes → (read bytes).stage ≡ stage → r.stage ≡ stage
stage_is r bytes stage tells is = sym (same_stage r.stage r bytes tells) ∙ is

-- ---- faults

fault_is : (p q : ℕ) (f g : Flaw) → ◌≡◌ {A = Result Unit FeedFault} (Err (Bad p f)) (Err (Bad q g)) → (p ≡ q) × (f ≡ g)
fault_is p q f g e = (cc, cc)

moved : (p q : ℕ) (f g : Flaw) (bytes : List ℕ) → ◌≡◌ {A = Result Unit FeedFault} (Err (Bad p f)) (Err (Bad q g)) → HasFault f bytes p → HasFault g bytes q
moved p q f g bytes e h = let same = fault_is p q f g e in subst (λ k. HasFault k bytes q) same.1 (subst (λ n. HasFault f bytes n) same.0 h)

told_fault : (stage : Stage) (r : Reading) (bytes : List ℕ) (flaw : Flaw) (place : ℕ) → Tells stage r bytes → ended_by stage bytes ≡ Err (Bad place flaw) → HasFault flaw bytes place
told_fault Opening r bytes flaw place (lt, is, same) e = moved (length bytes) place Early flaw bytes e (inl (lt, is), refl)
told_fault Frames r bytes flaw place (frames, rest, open_there, is, same) e = moved (length bytes) place Early flaw bytes e (inr (frames, rest, open_there, is), refl)
told_fault Over r bytes flaw place h e = absurd (cc)
told_fault (Faulty (Bad p f)) r bytes flaw place (other, h) e = moved p place f flaw bytes e h
told_fault (Faulty (Limit p)) r bytes flaw place h e = absurd (cc)
told_fault (Faulty Memory) r bytes flaw place h e = absurd h

module _ (r : Reading) (bytes : List ℕ) (tells : IsReadingOf r bytes) where
  ended_at : (stage : Stage) → (read bytes).stage ≡ stage → ended r bytes ≡ ended_by stage bytes
  ended_at stage is = ap (λ s. ended_by s bytes) (stage_is r bytes stage tells is)

  fed_fault : (flaw : Flaw) (place : ℕ) → flaw ≢ Early → HasFault flaw bytes place → ended r bytes ≡ Err (Bad place flaw)
  fed_fault flaw place other h = ended_at (Faulty (Bad place flaw)) (fault_found flaw bytes place other h)

  fault_told : (flaw : Flaw) (place : ℕ) → HasFault flaw bytes place → ended r bytes ≡ Err (Bad place flaw)
  fault_told Magic place h = fed_fault Magic place (λ e. absurd (cc)) h
  fault_told Task place h = fed_fault Task place (λ e. absurd (cc)) h
  fault_told Size place h = fed_fault Size place (λ e. absurd (cc)) h
  fault_told Early place (inl (lt, is), at) = ended_at Opening (ap (λ r. r.stage) (ap read is ∙ magic_read (length bytes) lt)) ∙ ap (λ n. Err (Bad n Early)) (sym at)
  fault_told Early place (inr (frames, rest, open_there, is), at) = ended_at Frames (ap (λ r. r.stage) (ap read is ∙ open_read frames rest open_there)) ∙ ap (λ n. Err (Bad n Early)) (sym at)
  fault_told After place h = fed_fault After place (λ e. absurd (cc)) h
  fault_told Clash place h = fed_fault Clash place (λ e. absurd (cc)) h

pub faults : (r : Reading) (bytes : List ℕ) → IsReadingOf r bytes → FaultsAreExact r bytes
faults r bytes tells = λ flaw place. (told_fault r.stage r bytes flaw place tells, fault_told r bytes tells flaw place)

-- ---- the limit

limit_is : (p q : ℕ) → ◌≡◌ {A = Result Unit FeedFault} (Err (Limit p)) (Err (Limit q)) → p ≡ q
limit_is p q e = cc

told_limit : (stage : Stage) (r : Reading) (bytes : List ℕ) (place : ℕ) → Tells stage r bytes → ended_by stage bytes ≡ Err (Limit place) → IsTooLong bytes place
told_limit Opening r bytes place h e = absurd (cc)
told_limit Frames r bytes place h e = absurd (cc)
told_limit Over r bytes place h e = absurd (cc)
told_limit (Faulty (Bad p f)) r bytes place h e = absurd (cc)
told_limit (Faulty (Limit p)) r bytes place h e = subst (IsTooLong bytes) (limit_is p place e) h
told_limit (Faulty Memory) r bytes place h e = absurd h

pub limits : (r : Reading) (bytes : List ℕ) → IsReadingOf r bytes → LimitIsExact r bytes
limits r bytes tells = λ place. (told_limit r.stage r bytes place tells, λ h. ended_at r bytes tells (Faulty (Limit place)) (limit_found bytes place h))

-- ---- frames

told_at : (stage : Stage) (r : Reading) (bytes : List ℕ) → IsReadingOf r bytes → (read bytes).stage ≡ stage → Tells stage r bytes
told_at stage r bytes tells is = subst (λ s. Tells s r bytes) (stage_is r bytes stage tells is) tells

as_read : (r : Reading) (bytes : List ℕ) → Tells Frames r bytes → r ≡ read bytes
as_read r bytes (frames, rest, open_there, is, same) = same ∙ sym (open_read frames rest open_there) ∙ ap read (sym is)

pub frames_told : (r : Reading) (bytes : List ℕ) → IsReadingOf r bytes → FramesAreTold r bytes
frames_told r bytes tells = λ frames rest open_there is.
    let all : read bytes ≡ reading_of Frames frames rest = ap read is ∙ open_read frames rest open_there in
    as_read r bytes (told_at Frames r bytes tells (ap (λ r. r.stage) all)) ∙ all

as_ended : (r : Reading) (bytes : List ℕ) → Tells Over r bytes → r ≡ read bytes
as_ended r bytes (frames, are, is, same) = same ∙ sym (capture_read frames are) ∙ ap read (sym is)

pub end_told : (r : Reading) (bytes : List ℕ) → IsReadingOf r bytes → EndIsTold r bytes
end_told r bytes tells = λ frames are is.
    let all : read bytes ≡ reading_of Over frames [] = ap read is ∙ capture_read frames are in
    as_ended r bytes (told_at Over r bytes tells (ap (λ r. r.stage) all)) ∙ all
