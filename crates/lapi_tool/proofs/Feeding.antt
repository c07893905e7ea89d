-- What a reader that was fed a source comes to.
use Rattle.std.proofs.Common.{◌≡◌, ◌≢◌, ◌⊎◌, ℕ, List, [], ◌++◌, length, Option, Some, None, Result, Ok, Err, refl, sym, ap, ◌∙◌, subst, inl, inr, arith}
use Rattle.std.specs.Prelude.{IsErr, MatchResult}
use Rattle.std.specs.Io.KnownBytes.{Consumes, IsAtEnd}
use Rattle.std.proofs.KnownBytes.{Consumes-trans}
use Rattle.std.proofs.lemmas.Bool.{false≢true}
use Rattle.lapi_base.specs.declared.status.Status.{Status}
use Rattle.lapi_base.specs.declared.status.Status.TheVariants as status
use Rattle.lapi_capture.specs.declared.feed_fault.FeedFault.{FeedFault}
use Rattle.lapi_capture.specs.declared.feed_fault.FeedFault.TheVariants.{Bad, Limit, Memory}
use Rattle.lapi_capture.specs.declared.flaw.Flaw.{Flaw}
use Rattle.lapi_capture.specs.declared.flaw.Flaw.TheVariants.{Early}
use Rattle.lapi_capture.specs.declared.stage.Stage.{Stage}
use Rattle.lapi_capture.specs.declared.stage.Stage.TheVariants.{Opening, Frames, Over, Faulty}
use Rattle.lapi_capture.specs.Captures.{landings}
use Rattle.lapi_capture.specs.Reading.{FaultsAreExact, Reading, GoesOn, IsReadingOf, Tells, ended, ended_by, fault_at}
use Rattle.lapi_capture.specs.Texts.{landings_text}
use Rattle.lapi_tool.specs.Landings.{ComesTo, IsLanded, WasFed, landings_answer}
use Rattle.lapi_tool.specs.Outcomes.{CommandGives}

abbrev Answered : Type 0
Answered = Result (Unit {0}) FeedFault

not-ok : (fault : FeedFault) (r : Answered) → r ≡ Err fault → r ≡ Ok tt → ⊥
not-ok fault r e o = subst (λ (r : Answered). MatchResult r (λ _. ⊥) (λ _. Unit {0})) (sym e ∙ o) tt

same-fault : (a b : FeedFault) (r : Answered) → r ≡ Err a → r ≡ Err b → a ≡ b
same-fault a b r e f = cc

-- what no memory leaves
no-memory : (stage : Stage) → fault_at stage ≡ Err Memory → stage ≡ Faulty Memory
no-memory (Faulty fault) e = let g : fault ≡ Memory = cc in ap (λ f. Faulty f) g
no-memory Opening e = absurd (cc)
no-memory Frames e = absurd (cc)
no-memory Over e = absurd (cc)

-- before any byte
pub nothing-consumed : (left : Option (List ℕ)) → Consumes left left []
nothing-consumed None = tt
nothing-consumed (Some bytes) = refl

flaw-of : Answered → Flaw
flaw-of (Err (Bad place flaw)) = flaw
flaw-of _ = Early

sound-by : (stage : Stage) (r : Reading) → r.stage ≡ stage → Tells stage r [] → ended r [] ≡ Err (Bad 0 Early) → fault_at stage ≡ Ok tt
unfolding flaw-of
sound-by Opening r at told e = refl
sound-by Frames r at told e = refl
sound-by Over r at told e = refl
sound-by (Faulty (Bad place flaw)) r at told e = absurd (told.0 (ap flaw-of (sym (ap (λ s. ended_by s []) at) ∙ e)))
sound-by (Faulty (Limit place)) r at told e = absurd (limit-early place (sym (ap (λ s. ended_by s []) at) ∙ e))
  where
    limit-early : (place : ℕ) → ended_by (Faulty (Limit place)) [] ≡ Err (Bad 0 Early) → ⊥
    limit-early place e = cc
sound-by (Faulty Memory) r at told e = absurd told

pub nothing-fed : (r : Reading) → FaultsAreExact r [] → IsReadingOf r [] → fault_at r.stage ≡ Ok tt
nothing-fed r exact is = sound-by r.stage r refl is ((exact Early 0).1 (inl (omega arith, refl), refl))

-- a piece with the first fault
pub fed-up : (r new : Reading) (left mid rest : Option (List ℕ)) (bytes piece : List ℕ) (fault : FeedFault) → (fault_at new.stage ≢ Err Memory → GoesOn r piece new) → fault_at new.stage ≡ Err fault
    → Consumes left mid bytes → Consumes mid rest piece → IsReadingOf r bytes → WasFed new left rest
fed-up r new left mid rest bytes piece Memory told e before then is = inl (no-memory new.stage e)
fed-up r new left mid rest bytes piece (Bad place flaw) told e before then is =
    inr (bytes ++ piece, Consumes-trans _ _ _ _ _ before then, told (λ f. absurd (cc)) bytes is, inr (subst IsErr (sym e) refl))
fed-up r new left mid rest bytes piece (Limit place) told e before then is =
    inr (bytes ++ piece, Consumes-trans _ _ _ _ _ before then, told (λ f. absurd (cc)) bytes is, inr (subst IsErr (sym e) refl))

-- What the end of these bytes comes to: the frames that the reader tells, or its fault.
Agrees : Reading → Result (List (List ℕ)) FeedFault → Answered → Type 0
Agrees r (Ok frames) result = (result ≡ Ok tt) × (r.frames ≡ length frames) × (r.landings ≡ landings frames)
Agrees r (Err fault) result = result ≡ Err fault

module _ (r : Reading) (bytes : List ℕ) (rest : Option (List ℕ)) where
  Comes : Answered → Type 0
  Comes result = (o : Result (List (List ℕ)) FeedFault) × ComesTo bytes rest o × Agrees r o result

  at-end : IsAtEnd rest ⊎ IsErr (fault_at Opening) → IsAtEnd rest
  at-end (inl end) = end
  at-end (inr failed) = absurd (false≢true failed)

  comes-by : (stage : Stage) → Tells stage r bytes → IsAtEnd rest ⊎ IsErr (fault_at stage) → Comes (ended_by stage bytes)
  unfolding Comes Agrees
  comes-by Opening told end = (Err (Bad (length bytes) Early), ((inl (told.0, told.1), refl), λ _. at-end end), refl)
  comes-by Frames (frames, rest-bytes, is, are, same) end = (Err (Bad (length bytes) Early), ((inr (frames, rest-bytes, is, are), refl), λ _. at-end end), refl)
  comes-by Over (frames, are, bytes-are, same) end = (Ok frames, (are, bytes-are, at-end end), (refl, ap (λ (r : Reading). r.frames) same, ap (λ (r : Reading). r.landings) same))
  comes-by (Faulty (Bad place flaw)) (other, has) end = (Err (Bad place flaw), (has, λ early. absurd (other early)), refl)
  comes-by (Faulty (Limit place)) told end = (Err (Limit place), told, refl)
  comes-by (Faulty Memory) told end = absurd told

module _ (r : Reading) (left rest held now : Option (List ℕ)) (result : Status) where
  ends : (bytes : List ℕ) → Consumes left rest bytes → (c : Comes r bytes rest (ended r bytes)) → ended r bytes ≡ Ok tt → CommandGives (record { status = status.Ok; text = landings_text r.frames r.landings }) held now result
      → IsLanded left rest held now result
  unfolding Comes Agrees
  ends bytes took (Ok frames, comes, agrees) ok told =
      inr (bytes, took, Ok frames, comes, subst (λ ls. CommandGives (record { status = status.Ok; text = landings_text (length frames) ls }) held now result) agrees.2 (subst (λ n. CommandGives (record { status = status.Ok; text = landings_text n r.landings }) held now result) agrees.1 told))
  ends bytes took (Err fault, comes, agrees) ok told = absurd (not-ok fault (ended r bytes) agrees ok)

  faulty : (bytes : List ℕ) → Consumes left rest bytes → (c : Comes r bytes rest (ended r bytes)) → (fault : FeedFault) → ended r bytes ≡ Err fault → CommandGives (landings_answer (Err fault)) held now result → IsLanded left rest held now result
  unfolding Comes Agrees
  faulty bytes took (Ok frames, comes, agrees) fault e told = absurd (not-ok fault (ended r bytes) e agrees.0)
  faulty bytes took (Err other, comes, agrees) fault e told =
      inr (bytes, took, Err other, comes, subst (λ f. CommandGives (landings_answer (Err f)) held now result) (same-fault fault other (ended r bytes) e agrees) told)

  -- a capture to its end
  pub landed-whole : (answer : Answered) → ((bytes : List ℕ) → IsReadingOf r bytes → answer ≡ ended r bytes) → ((fault : FeedFault) → r.stage ≡ Faulty fault → answer ≡ Err fault) → answer ≡ Ok tt
      → CommandGives (record { status = status.Ok; text = landings_text r.frames r.landings }) held now result → WasFed r left rest → IsLanded left rest held now result
  landed-whole answer is stops ok told (inl none) = absurd (not-ok Memory answer (stops Memory none) ok)
  landed-whole answer is stops ok told (inr (bytes, took, reads, end)) = ends bytes took (comes-by r bytes rest r.stage reads end) (sym (is bytes reads) ∙ ok) told

  -- and up to a fault
  pub landed-faulty : (answer : Answered) (fault : FeedFault) → fault ≢ Memory → ((bytes : List ℕ) → IsReadingOf r bytes → answer ≡ ended r bytes) → ((fault : FeedFault) → r.stage ≡ Faulty fault → answer ≡ Err fault) → answer ≡ Err fault
      → CommandGives (landings_answer (Err fault)) held now result → WasFed r left rest → IsLanded left rest held now result
  landed-faulty answer fault other is stops e told (inl none) = absurd (other (same-fault fault Memory answer e (stops Memory none)))
  landed-faulty answer fault other is stops e told (inr (bytes, took, reads, end)) = faulty bytes took (comes-by r bytes rest r.stage reads end) fault (sym (is bytes reads) ∙ e) told
