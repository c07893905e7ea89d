-- What a reader tells of bytes, it tells of them with one byte more, and so with any.
use Rattle.std.proofs.Common.{◌≡◌, ◌≢◌, ◌⊎◌, ℕ, ◌+◌, ◌*◌, ◌<◌, ◌≤◌, Bool, true, false, not, ◌&&◌, nat_lt, nat_le, ◌==◌, List, [], ◌∷◌, ◌++◌, length, take, refl, sym, ap, ◌∙◌, subst, inl, inr, append_assoc, arith}
use Rattle.std.specs.List.{fold}
use Rattle.std.proofs.lemmas.Bool.{ltb-true, ltb-false, leb-true, leb-false, eqb-true, eqb-false}
use Rattle.std.proofs.lemmas.List.{append-nil, length-append, get_or_append_left, take_more}
use Rattle.lapi_capture.specs.declared.feed_fault.FeedFault.{FeedFault}
use Rattle.lapi_capture.specs.declared.feed_fault.FeedFault.TheVariants.{Bad, Limit, Memory}
use Rattle.lapi_capture.specs.declared.flaw.Flaw.{Flaw}
use Rattle.lapi_capture.specs.declared.flaw.Flaw.TheVariants.{Magic, Task, Size, Early, After, Clash}
use Rattle.lapi_base.specs.declared.capture.TheConstants.{CAPTURE_MAGIC as MAGIC, CAPTURE_END as END}
use Rattle.lapi_capture.specs.declared.format.TheConstants.{FRONT, LAST_TASK, LONGEST, MOST_FRAMES}
use Rattle.lapi_capture.specs.declared.stage.Stage.{Stage}
use Rattle.lapi_capture.specs.declared.stage.Stage.TheVariants.{Opening, Frames, Over, Faulty}
use Rattle.lapi_capture.specs.Captures.{through, parts_of, landings, IsBegun, IsFrame, IsPartial, clashes, AreFrames, HasFault}
use Rattle.lapi_capture.specs.Entries.{entries_of}
use Rattle.lapi_capture.specs.Format.{byte_at, from, to, size_of}
use Rattle.lapi_capture.specs.Reading.{Reading, beginning, reading_of, Tells, IsReadingOf}
use Rattle.lapi_capture.specs.Steps as steps
use Rattle.lapi_capture.proofs.WholeFrames.{choose, both_true, second_false, fits_read, clash_read, whole_of}

pub few : (frames : List (List ℕ)) → AreFrames frames → length frames ≤ 20000
unfolding AreFrames
few [] are = omega arith
few (f ∷ frames) are = omega (arith, are.0)

-- ---- a byte of a frame

first_told : (frames : List (List ℕ)) → AreFrames frames → (b : ℕ) (bytes : List ℕ) → bytes ≡ through frames ++ b ∷ [] → IsReadingOf (steps.first (reading_of Frames frames []) b) bytes
first_told frames are b bytes is =
    choose (λ r. IsReadingOf r bytes) (b == END) _ _
    (λ e. let same : b ≡ 255 = eqb-true b 255 e in (frames, are, is ∙ ap (λ x. through frames ++ x ∷ []) same, refl))
    (λ e. let other : b ≢ 255 = eqb-false b 255 e in
    choose (λ r. IsReadingOf r bytes) (nat_le MOST_FRAMES (length frames)) _ _
    (λ full. (frames, are, omega (arith, leb-true 20000 (length frames) full, few frames are), b, [], is, other, refl))
    (λ full. let lt : length frames < 20000 = leb-false 20000 (length frames) full in
    choose (λ r. IsReadingOf r bytes) (nat_lt LAST_TASK b) _ _
    (λ above. (λ e. absurd (cc), (frames, b ∷ [], ((are, lt), [], is ∙ sym (append-nil (through frames ++ b ∷ []))), inl ((refl, ltb-true 7 b above, other), refl))))
    (λ above. (frames, b ∷ [], (are, λ _. (lt, record { begun = record { from = ltb-false 7 b above; to = λ h. absurd (omega (arith, h)); size = λ h. absurd (omega (arith, h)) }; partial = λ h. absurd (omega (arith, h)) })), is, refl))))

at_or_above : (k n : ℕ) → k ≤ n → ((n == k) ≡ true) ⊎ (k + 1 ≤ n)
at_or_above k n h = test (n == k) refl
  where
    test : (b : Bool) → (n == k) ≡ b → ((n == k) ≡ true) ⊎ (k + 1 ≤ n)
    test true e = inl e
    test false e = let differs : n ≢ k = eqb-false n k e in inr (omega (arith, differs, h))

two_or_more : (n : ℕ) → 2 ≤ n → ((n == 2) ≡ true) ⊎ (3 ≤ n)
two_or_more n h = at_or_above 2 n h

four_or_more : (n : ℕ) → 4 ≤ n → ((n == 4) ≡ true) ⊎ (5 ≤ n)
four_or_more n h = at_or_above 4 n h

module _ (frames : List (List ℕ)) (are : AreFrames frames) (lt : length frames < 20000) (f : List ℕ) (bytes : List ℕ) (is : bytes ≡ through frames ++ f)
    (some : 2 ≤ length f) (is_from : from f ≤ 7) (is_to : 3 ≤ length f → to f ≤ 7) (size : 5 ≤ length f → size_of f ≤ 1280) (short : 5 ≤ length f → length f ≤ 4 + size_of f) where
  all_of_it : bytes ≡ through frames ++ f ++ []
  all_of_it = is ∙ sym (append-nil (through frames ++ f))

  one_more_frame : IsFrame f → clashes frames f ≡ false → IsReadingOf (reading_of Frames (f ∷ frames) []) bytes
  unfolding AreFrames through
  one_more_frame frame e = (f ∷ frames, [], ((lt, frame, e, are), λ h. absurd (omega (arith, h))), all_of_it, refl)

  whole_told : IsFrame f → (clash : Bool) → clashes frames f ≡ clash → IsReadingOf (whole_of frames are f) bytes
  whole_told frame true e = subst (λ r. IsReadingOf r bytes) (sym (clash_read frames are f e)) (λ h. absurd (cc), (frames, f, ((are, lt), [], all_of_it), frame, e, refl))
  whole_told frame false e = subst (λ r. IsReadingOf r bytes) (sym (fits_read frames are f e)) (one_more_frame frame e)

  further_told : IsReadingOf (steps.further (reading_of Frames frames f)) bytes
  unfolding steps.further whole_of
  further_told =
      choose (λ r. IsReadingOf r bytes) (length f == 2 && nat_lt LAST_TASK (to f)) _ _
      (λ e. let two : length f ≡ 2 = eqb-true _ _ (both_true _ _ e).0 in
      (λ h. absurd (cc), (frames, f, ((are, lt), [], all_of_it), inr ((two, is_from, ltb-true _ _ (both_true _ _ e).1), refl))))
      (λ e. let second : to f ≤ 7 = second_fits e in
      choose (λ r. IsReadingOf r bytes) (nat_lt (length f) FRONT) _ _
      (λ less. (frames, f, (are, λ _. (lt, record { begun = record { from = is_from; to = λ _. second; size = λ h. absurd (omega (arith, h, ltb-true (length f) 4 less)) }; partial = λ h. absurd (omega (arith, h, ltb-true (length f) 4 less)) })), is, refl))
      (λ less. choose (λ r. IsReadingOf r bytes) (length f == FRONT && nat_lt LONGEST (size_of f)) _ _
      (λ big. let four : length f ≡ 4 = eqb-true _ _ (both_true _ _ big).0 in
      (λ h. absurd (cc), (frames, f, ((are, lt), [], all_of_it), (four, is_from, second, ltb-true _ _ (both_true _ _ big).1), refl)))
      (λ big. let fits : size_of f ≤ 1280 = size_fits big (ltb-false (length f) 4 less) in
      let begun : IsBegun f = record { from = is_from; to = λ _. second; size = λ _. fits } in
      choose (λ r. IsReadingOf r bytes) (nat_lt (length f) (FRONT + size_of f)) _ _
      (λ more. (frames, f, (are, λ _. (lt, record { begun = begun; partial = λ _. ltb-true (length f) (4 + size_of f) more })), is, refl))
      (λ more. whole_told (record { begun = begun; whole = is_whole more (ltb-false (length f) 4 less) }) (clashes frames f) refl))))
    where
      second_fits : (length f == 2 && nat_lt LAST_TASK (to f)) ≡ false → to f ≤ 7
      second_fits e = elim (two_or_more (length f) some) [
        | inl two ↦ ltb-false 7 (to f) (second_false _ _ e two)
        | inr three ↦ is_to three
      ]

      size_fits : (length f == FRONT && nat_lt LONGEST (size_of f)) ≡ false → 4 ≤ length f → size_of f ≤ 1280
      size_fits e four = elim (four_or_more (length f) four) [
        | inl is_four ↦ ltb-false 1280 (size_of f) (second_false _ _ e is_four)
        | inr five ↦ size five
      ]

      is_whole : nat_lt (length f) (FRONT + size_of f) ≡ false → 4 ≤ length f → length f ≡ 4 + size_of f
      is_whole more four = elim (four_or_more (length f) four) [
        | inl is_four ↦ omega (arith, ltb-false (length f) (4 + size_of f) more, eqb-true (length f) 4 is_four)
        | inr five ↦ omega (arith, ltb-false (length f) (4 + size_of f) more, short five)
      ]

module _ (frames : List (List ℕ)) (are : AreFrames frames) (rest : List ℕ) (can : 0 < length rest → (length frames < 20000) × IsPartial rest) (b : ℕ) where
  same_byte : (i : ℕ) → i < length rest → byte_at rest i ≡ byte_at (rest ++ b ∷ []) i
  same_byte i h = sym (get_or_append_left rest (b ∷ []) 0 i h)

  one_more : length (rest ++ b ∷ []) ≡ length rest + 1
  one_more = length-append rest (b ∷ [])

  same_size : 4 ≤ length rest → size_of rest ≡ size_of (rest ++ b ∷ [])
  same_size h = ap (λ x. 256 * x + byte_at rest 3) (same_byte 2 (omega (arith, h))) ∙ ap (λ x. 256 * byte_at (rest ++ b ∷ []) 2 + x) (same_byte 3 (omega (arith, h)))

  more_told : (bytes : List ℕ) → bytes ≡ through frames ++ (rest ++ b ∷ []) → 0 < length rest → IsReadingOf (steps.further (reading_of Frames frames (rest ++ b ∷ []))) bytes
  more_told bytes is some =
      let begun = (can some).1.begun in
      further_told frames are (can some).0 (rest ++ b ∷ []) bytes is
      (omega (arith, one_more, some))
      (subst (λ x. x ≤ 7) (same_byte 0 some) begun.from)
      (λ h. let two : 2 ≤ length rest = omega (arith, one_more, h) in subst (λ x. x ≤ 7) (same_byte 1 (omega (arith, two))) (begun.to two))
      (λ h. let four : 4 ≤ length rest = omega (arith, one_more, h) in subst (λ x. x ≤ 1280) (same_size four) (begun.size four))
      (λ h. let four : 4 ≤ length rest = omega (arith, one_more, h) in
      let less : length rest < 4 + size_of rest = (can some).1.partial four in
      omega (arith, one_more, less, same_size four))

within_told : (frames : List (List ℕ)) → AreFrames frames → (rest : List ℕ) → (0 < length rest → (length frames < 20000) × IsPartial rest) → (b : ℕ) (bytes : List ℕ)
    → bytes ≡ through frames ++ (rest ++ b ∷ []) → IsReadingOf (steps.within (reading_of Frames frames rest) b) bytes
within_told frames are [] can b bytes is = first_told frames are b bytes is
within_told frames are (x ∷ rest) can b bytes is =
    choose (λ r. IsReadingOf r bytes) (length (x ∷ rest) == 0) _ _
    (λ e. absurd (omega (arith, eqb-true (length (x ∷ rest)) 0 e)))
    (λ e. more_told frames are (x ∷ rest) can b bytes is (omega arith))

next_byte : (n : ℕ) → n < 4 → take n MAGIC ++ byte_at MAGIC n ∷ [] ≡ take (n + 1) MAGIC
next_byte n h = sym (take_more MAGIC n 0 h)

-- ---- the first bytes

pub is_not : (c : Bool) → not c ≡ true → c ≡ false
is_not true e = sym e
is_not false e = refl

pub not_not : (c : Bool) → not c ≡ false → c ≡ true
not_not true e = refl
not_not false e = sym e

opening_told : (bytes : List ℕ) (b : ℕ) → length bytes < 4 → bytes ≡ take (length bytes) MAGIC → IsReadingOf (steps.opening (beginning bytes) b) (bytes ++ b ∷ [])
unfolding AreFrames through parts_of landings entries_of
opening_told bytes b lt is =
    choose (λ r. IsReadingOf r (bytes ++ b ∷ [])) (not (b == byte_at MAGIC (length bytes))) _ _
    (λ e. (λ h. absurd (cc), (b, [], ap (λ bs. bs ++ b ∷ []) is, lt, eqb-false b (byte_at MAGIC (length bytes)) (is_not _ e))))
    (λ e. let same : b ≡ byte_at MAGIC (length bytes) = eqb-true b (byte_at MAGIC (length bytes)) (not_not _ e) in
    let longer : bytes ++ b ∷ [] ≡ take (length bytes + 1) MAGIC =
    ap (λ bs. bs ++ b ∷ []) is ∙ ap (λ x. take (length bytes) MAGIC ++ x ∷ []) same ∙ next_byte (length bytes) lt in
    choose (λ r. IsReadingOf r (bytes ++ b ∷ [])) (nat_lt (length bytes + 1) 4) _ _
    (λ less. (omega (arith, length-append bytes (b ∷ []), ltb-true (length bytes + 1) 4 less), longer ∙ ap (λ n. take n MAGIC) (sym (length-append bytes (b ∷ []))), refl))
    (λ less. let three : length bytes + 1 ≡ 4 = omega (arith, ltb-false (length bytes + 1) 4 less, lt) in
    ([], [], (omega arith, λ h. absurd (omega (arith, h))), longer ∙ ap (λ n. take n MAGIC) three, refl)))

-- ---- behind a fault, and behind the end

longer : (bytes front more ys : List ℕ) → bytes ≡ front ++ more → bytes ++ ys ≡ front ++ (more ++ ys)
longer bytes front more ys is = ap (λ bs. bs ++ ys) is ∙ append_assoc front more ys

fault_stays : (flaw : Flaw) (bytes : List ℕ) (place : ℕ) (ys : List ℕ) → flaw ≢ Early → HasFault flaw bytes place → HasFault flaw (bytes ++ ys) place
fault_stays Magic bytes place ys other (b, more, is, lt, differs) = (b, more ++ ys, longer bytes (take place MAGIC) (b ∷ more) ys is, lt, differs)
fault_stays Task bytes place ys other (before, f, (may, more, is), why) = (before, f, (may, more ++ ys, longer bytes (through before ++ f) more ys is), why)
fault_stays Size bytes place ys other (before, f, (may, more, is), large, at) = (before, f, (may, more ++ ys, longer bytes (through before ++ f) more ys is), large, at)
fault_stays Clash bytes place ys other (before, f, (may, more, is), frame, clash, at) = (before, f, (may, more ++ ys, longer bytes (through before ++ f) more ys is), frame, clash, at)
fault_stays After bytes place ys other (frames, are, b, more, is, at) = (frames, are, b, more ++ ys, longer bytes (through frames) (255 ∷ b ∷ more) ys is, at)
fault_stays Early bytes place ys other h = absurd (other refl)

-- ---- all bytes

byte_told : (stage : Stage) (r : Reading) (bytes : List ℕ) (b : ℕ) → r.stage ≡ stage → Tells stage r bytes → IsReadingOf (steps.byte_by stage r b) (bytes ++ b ∷ [])
byte_told Opening r bytes b at (lt, is, same) = subst (λ r. IsReadingOf (steps.opening r b) (bytes ++ b ∷ [])) (sym same) (opening_told bytes b lt is)
byte_told Frames r bytes b at (frames, rest, (are, can), is, same) =
    subst (λ r. IsReadingOf (steps.within r b) (bytes ++ b ∷ [])) (sym same) (within_told frames are rest can b (bytes ++ b ∷ []) (longer bytes (through frames) rest (b ∷ []) is))
byte_told Over r bytes b at (frames, are, is, same) =
    subst (λ r. IsReadingOf (steps.bad r (r.place + 1) After) (bytes ++ b ∷ [])) (sym same) (λ h. absurd (cc), (frames, are, b, [], longer bytes (through frames) (255 ∷ []) (b ∷ []) is, refl))
byte_told (Faulty (Bad place flaw)) r bytes b at (other, h) = subst (λ s. Tells s r (bytes ++ b ∷ [])) (sym at) (other, fault_stays flaw bytes place (b ∷ []) other h)
byte_told (Faulty (Limit place)) r bytes b at (frames, are, full, c, more, is, other, place_is) =
    subst (λ s. Tells s r (bytes ++ b ∷ [])) (sym at) (frames, are, full, c, more ++ b ∷ [], longer bytes (through frames) (c ∷ more) (b ∷ []) is, other, place_is)
byte_told (Faulty Memory) r bytes b at h = absurd h

pub bytes_told : (r : Reading) (before bytes : List ℕ) → IsReadingOf r before → IsReadingOf (fold steps.byte r bytes) (before ++ bytes)
bytes_told r before [] h = subst (IsReadingOf r) (sym (append-nil before)) h
bytes_told r before (b ∷ bytes) h =
    subst (IsReadingOf (fold steps.byte (steps.byte r b) bytes)) (append_assoc before (b ∷ []) bytes)
    (bytes_told (steps.byte r b) (before ++ b ∷ []) bytes (byte_told r.stage r before b refl h))

-- at first
pub nothing_told : IsReadingOf (beginning []) []
nothing_told = (omega arith, refl, refl)

-- behind a fault nothing changes
pub faulty_same : (fault : FeedFault) (r : Reading) (bytes : List ℕ) → r.stage ≡ Faulty fault → fold steps.byte r bytes ≡ r
faulty_same fault r [] at = refl
faulty_same fault r (b ∷ bytes) at =
    let same : steps.byte r b ≡ r = ap (λ s. steps.byte_by s r b) at in
    ap (λ r. fold steps.byte r bytes) same ∙ faulty_same fault r bytes at
