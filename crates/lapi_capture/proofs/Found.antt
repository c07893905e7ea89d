-- Each fault is found where the bytes have it.
use Rattle.std.proofs.Common.{◌≡◌, ◌≢◌, ◌&&◌, ℕ, zero, suc, ◌+◌, ◌<◌, ◌≤◌, not, take, nat_lt, nat_le, ◌==◌, List, [], ◌∷◌, ◌++◌, length, refl, sym, ap, ◌∙◌, subst, inl, inr, append_assoc, arith}
use Rattle.std.specs.List.{fold}
use Rattle.std.proofs.lemmas.Bool.{ltb-true, ltb-false, leb-true, leb-false, eqb-true, eq-eqb}
use Rattle.std.proofs.lemmas.List.Sums.{fold-append}
use Rattle.lapi_capture.specs.declared.feed_fault.FeedFault.{FeedFault}
use Rattle.lapi_capture.specs.declared.feed_fault.FeedFault.TheVariants.{Bad, Limit}
use Rattle.lapi_capture.specs.declared.flaw.Flaw.{Flaw}
use Rattle.lapi_capture.specs.declared.flaw.Flaw.TheVariants.{Magic, Task, Size, Early, After, Clash}
use Rattle.lapi_base.specs.declared.capture.TheConstants.{CAPTURE_MAGIC as MAGIC, CAPTURE_END as END}
use Rattle.lapi_capture.specs.declared.format.TheConstants.{LONGEST, MOST_FRAMES}
use Rattle.lapi_capture.specs.declared.stage.Stage.TheVariants.{Frames, Faulty}
use Rattle.lapi_capture.specs.Captures.{through, IsPartial, AreFrames, HasFault, IsTooLong}
use Rattle.lapi_capture.specs.Format.{byte_at, from, to, size_of}
use Rattle.lapi_capture.specs.Reading.{Reading, beginning, reading_of}
use Rattle.lapi_capture.specs.Steps as steps
use Rattle.lapi_capture.specs.Steps.{byte}
use Rattle.lapi_capture.proofs.Again.{read, read_more, behind, frame_read}
use Rattle.lapi_capture.proofs.Told.{not_not, faulty_same}
use Rattle.lapi_capture.proofs.WholeFrames.{choose, both_true, second_false, clash_read, partial_further}

stays : (fault : FeedFault) (r : Reading) (ys : List ℕ) → r.stage ≡ Faulty fault → (fold byte r ys).stage ≡ Faulty fault
stays fault r ys is = ap (λ r. r.stage) (faulty_same fault r ys is) ∙ is

first_fault : (fault : FeedFault) (frames : List (List ℕ)) (b : ℕ) (more : List ℕ) → (steps.first (reading_of Frames frames []) b).stage ≡ Faulty fault
    → (fold byte (reading_of Frames frames []) (b ∷ more)).stage ≡ Faulty fault
first_fault fault frames b more is = stays fault (byte (reading_of Frames frames []) b) more is

above_seven : (frames : List (List ℕ)) → length frames < 20000 → (b : ℕ) → 7 < b → b ≢ 255 → (steps.first (reading_of Frames frames []) b).stage ≡ Faulty (Bad (length (through frames)) Task)
above_seven frames lt b above other =
    choose (λ r. r.stage ≡ Faulty (Bad (length (through frames)) Task)) (b == END) _ _
    (λ e. absurd (other (eqb-true b 255 e)))
    (λ e. choose (λ r. r.stage ≡ Faulty (Bad (length (through frames)) Task)) (nat_le MOST_FRAMES (length frames)) _ _
    (λ full. absurd (omega (arith, lt, leb-true 20000 (length frames) full)))
    (λ full. choose (λ r. r.stage ≡ Faulty (Bad (length (through frames)) Task)) (nat_lt 7 b) _ _
    (λ e. refl)
    (λ e. absurd (omega (arith, above, ltb-false 7 b e)))))

past_last : (frames : List (List ℕ)) → length frames ≡ 20000 → (b : ℕ) → b ≢ 255 → (steps.first (reading_of Frames frames []) b).stage ≡ Faulty (Limit (length (through frames)))
past_last frames full b other =
    choose (λ r. r.stage ≡ Faulty (Limit (length (through frames)))) (b == END) _ _
    (λ e. absurd (other (eqb-true b 255 e)))
    (λ e. choose (λ r. r.stage ≡ Faulty (Limit (length (through frames)))) (nat_le MOST_FRAMES (length frames)) _ _
    (λ e. refl)
    (λ e. absurd (omega (arith, full, leb-false 20000 (length frames) e))))

pub limit_found : (bytes : List ℕ) (place : ℕ) → IsTooLong bytes place → (read bytes).stage ≡ Faulty (Limit place)
limit_found bytes place (frames, are, full, b, more, is, other, at) =
    ap (λ r. r.stage) (behind frames are bytes (b ∷ more) is) ∙ first_fault (Limit (length (through frames))) frames b more (past_last frames full b other) ∙ ap (λ n. Faulty (Limit n)) (sym at)

clash_found : (bytes : List ℕ) (place : ℕ) → HasFault Clash bytes place → (read bytes).stage ≡ Faulty (Bad place Clash)
clash_found bytes place (frames, f, ((are, lt), more, is), frame, clash, at) =
    ap (λ r. r.stage) (behind frames are bytes (f ++ more) (is ∙ append_assoc (through frames) f more) ∙ fold-append byte (reading_of Frames frames []) f more)
    ∙ stays (Bad (length (through frames)) Clash) (fold byte (reading_of Frames frames []) f) more (ap (λ r. r.stage) (frame_read frames are lt f frame ∙ clash_read frames are f clash))
    ∙ ap (λ n. Faulty (Bad n Clash)) (sym at)

after_found : (bytes : List ℕ) (place : ℕ) → HasFault After bytes place → (read bytes).stage ≡ Faulty (Bad place After)
after_found bytes place (frames, are, b, more, is, at) =
    ap (λ r. r.stage) (behind frames are bytes (255 ∷ b ∷ more) is)
    ∙ stays (Bad (length (through frames) + 1) After) (byte (byte (reading_of Frames frames []) 255) b) more refl
    ∙ ap (λ n. Faulty (Bad n After)) (sym at)

-- a second byte above 7
two_bytes : (f : List ℕ) → length f ≡ 2 → (from : ℕ) × (to : ℕ) × (f ≡ from ∷ to ∷ [])
two_bytes [] e = absurd (omega (arith, e))
two_bytes (a ∷ []) e = absurd (omega (arith, e))
two_bytes (a ∷ b ∷ []) e = (a, b, refl)
two_bytes (a ∷ b ∷ c ∷ f) e = absurd (omega (arith, e))

begins : (frames : List (List ℕ)) → length frames < 20000 → (b : ℕ) → b ≤ 7 → byte (reading_of Frames frames []) b ≡ reading_of Frames frames (b ∷ [])
begins frames lt b small =
    choose (λ r. r ≡ reading_of Frames frames (b ∷ [])) (b == END) _ _
    (λ e. absurd (omega (arith, small, eqb-true b 255 e)))
    (λ e. choose (λ r. r ≡ reading_of Frames frames (b ∷ [])) (nat_le MOST_FRAMES (length frames)) _ _
    (λ full. absurd (omega (arith, lt, leb-true 20000 (length frames) full)))
    (λ full. choose (λ r. r ≡ reading_of Frames frames (b ∷ [])) (nat_lt 7 b) _ _
    (λ above. absurd (omega (arith, small, ltb-true 7 b above)))
    (λ above. refl)))

bad_second : (frames : List (List ℕ)) (a b : ℕ) → 7 < b → (steps.further (reading_of Frames frames (a ∷ b ∷ []))).stage ≡ Faulty (Bad (length (through frames) + 1) Task)
unfolding steps.further
bad_second frames a b above =
    choose (λ r. r.stage ≡ Faulty (Bad (length (through frames) + 1) Task)) (length (a ∷ b ∷ []) == 2 && nat_lt 7 b) _ _
    (λ e. refl)
    (λ e. absurd (omega (arith, above, ltb-false 7 b e)))

one_byte : (f : List ℕ) → length f ≡ 1 → (b : ℕ) × (f ≡ b ∷ [])
one_byte [] e = absurd (omega (arith, e))
one_byte (a ∷ []) e = (a, refl)
one_byte (a ∷ b ∷ f) e = absurd (omega (arith, e))

from_none : (frames : List (List ℕ)) → AreFrames frames → length frames < 20000 → (b : ℕ) (more bytes : List ℕ) (place : ℕ) → bytes ≡ through frames ++ b ∷ more → 7 < b → b ≢ 255
    → place ≡ length (through frames) → (read bytes).stage ≡ Faulty (Bad place Task)
from_none frames are lt b more bytes place is above other at =
    ap (λ r. r.stage) (behind frames are bytes (b ∷ more) is) ∙ first_fault (Bad (length (through frames)) Task) frames b more (above_seven frames lt b above other) ∙ ap (λ n. Faulty (Bad n Task)) (sym at)

task_found : (bytes : List ℕ) (place : ℕ) → HasFault Task bytes place → (read bytes).stage ≡ Faulty (Bad place Task)
task_found bytes place (frames, f, ((are, lt), more, is), inl ((one, above, other), at)) = go f is (one_byte f one) above other
  where
    go : (f : List ℕ) → bytes ≡ through frames ++ f ++ more → (b : ℕ) × (f ≡ b ∷ []) → 7 < byte_at f 0 → byte_at f 0 ≢ 255 → (read bytes).stage ≡ Faulty (Bad place Task)
    go f is (b, e) above other =
        from_none frames are lt b more bytes place (is ∙ ap (λ f. through frames ++ f ++ more) e ∙ append_assoc (through frames) (b ∷ []) more) (subst (λ f. 7 < byte_at f 0) e above) (subst (λ f. byte_at f 0 ≢ 255) e other) at
task_found bytes place (frames, f, ((are, lt), more, is), inr ((two, one, above), at)) = go f is (two_bytes f two) one above
  where
    go : (f : List ℕ) → bytes ≡ through frames ++ f ++ more → (a : ℕ) × (b : ℕ) × (f ≡ a ∷ b ∷ []) → byte_at f 0 ≤ 7 → 7 < byte_at f 1 → (read bytes).stage ≡ Faulty (Bad place Task)
    go f is (a, b, e) one other =
        let small : a ≤ 7 = subst (λ f. byte_at f 0 ≤ 7) e one in
        let above : 7 < b = subst (λ f. 7 < byte_at f 1) e other in
        ap (λ r. r.stage) (behind frames are bytes (a ∷ b ∷ more) (is ∙ ap (λ f. through frames ++ f ++ more) e ∙ append_assoc (through frames) (a ∷ b ∷ []) more) ∙ ap (λ r. fold byte r (b ∷ more)) (begins frames lt a small))
        ∙ stays (Bad (length (through frames) + 1) Task) (byte (reading_of Frames frames (a ∷ [])) b) more (bad_second frames a b above)
        ∙ ap (λ n. Faulty (Bad n Task)) (sym at)

-- four bytes with too large a size
four_bytes : (f : List ℕ) → length f ≡ 4 → (a : ℕ) × (b : ℕ) × (c : ℕ) × (d : ℕ) × (f ≡ a ∷ b ∷ c ∷ d ∷ [])
four_bytes [] e = absurd (omega (arith, e))
four_bytes (a ∷ []) e = absurd (omega (arith, e))
four_bytes (a ∷ b ∷ []) e = absurd (omega (arith, e))
four_bytes (a ∷ b ∷ c ∷ []) e = absurd (omega (arith, e))
four_bytes (a ∷ b ∷ c ∷ d ∷ []) e = (a, b, c, d, refl)
four_bytes (a ∷ b ∷ c ∷ d ∷ x ∷ f) e = absurd (omega (arith, e))

small_front : (f : List ℕ) → length f < 4 → byte_at f 0 ≤ 7 → byte_at f 1 ≤ 7 → IsPartial f
small_front f less from to =
    record { begun = record { from = from; to = λ _. to; size = λ h. absurd (omega (arith, h, less)) }; partial = λ h. absurd (omega (arith, h, less)) }

bad_size : (frames : List (List ℕ)) (f : List ℕ) → length f ≡ 4 → 1280 < size_of f → (steps.further (reading_of Frames frames f)).stage ≡ Faulty (Bad (length (through frames) + 2) Size)
unfolding steps.further
bad_size frames f four big =
    choose (λ r. r.stage ≡ Faulty (Bad (length (through frames) + 2) Size)) (length f == 2 && nat_lt 7 (byte_at f 1)) _ _
    (λ e. absurd (omega (arith, four, eqb-true (length f) 2 (both_true _ _ e).0)))
    (λ e. choose (λ r. r.stage ≡ Faulty (Bad (length (through frames) + 2) Size)) (nat_lt (length f) 4) _ _
    (λ less. absurd (omega (arith, four, ltb-true (length f) 4 less)))
    (λ less. choose (λ r. r.stage ≡ Faulty (Bad (length (through frames) + 2) Size)) (length f == 4 && nat_lt LONGEST (size_of f)) _ _
    (λ e. refl)
    (λ e. absurd (omega (arith, big, ltb-false 1280 (size_of f) (second_false _ _ e (eq-eqb (length f) 4 four)))))))

size_by : (frames : List (List ℕ)) → length frames < 20000 → (a b c d : ℕ) (more : List ℕ) → a ≤ 7 → b ≤ 7 → 1280 < size_of (a ∷ b ∷ c ∷ d ∷ [])
    → (fold byte (reading_of Frames frames []) (a ∷ b ∷ c ∷ d ∷ more)).stage ≡ Faulty (Bad (length (through frames) + 2) Size)
size_by frames lt a b c d more from to big =
    let one : byte (reading_of Frames frames []) a ≡ reading_of Frames frames (a ∷ []) = begins frames lt a from in
    let two : byte (reading_of Frames frames (a ∷ [])) b ≡ reading_of Frames frames (a ∷ b ∷ []) = partial_further frames (a ∷ b ∷ []) (small_front (a ∷ b ∷ []) (omega arith) from to) in
    let three : byte (reading_of Frames frames (a ∷ b ∷ [])) c ≡ reading_of Frames frames (a ∷ b ∷ c ∷ []) = partial_further frames (a ∷ b ∷ c ∷ []) (small_front (a ∷ b ∷ c ∷ []) (omega arith) from to) in
    ap (λ r. (fold byte r (b ∷ c ∷ d ∷ more)).stage) one ∙ ap (λ r. (fold byte r (c ∷ d ∷ more)).stage) two ∙ ap (λ r. (fold byte r (d ∷ more)).stage) three
    ∙ stays (Bad (length (through frames) + 2) Size) (byte (reading_of Frames frames (a ∷ b ∷ c ∷ [])) d) more (bad_size frames (a ∷ b ∷ c ∷ d ∷ []) refl big)

size_found : (bytes : List ℕ) (place : ℕ) → HasFault Size bytes place → (read bytes).stage ≡ Faulty (Bad place Size)
size_found bytes place (frames, f, ((are, lt), more, is), (four, one, other, big), at) = go (four_bytes f four)
  where
    go : (a : ℕ) × (b : ℕ) × (c : ℕ) × (d : ℕ) × (f ≡ a ∷ b ∷ c ∷ d ∷ []) → (read bytes).stage ≡ Faulty (Bad place Size)
    go (a, b, c, d, e) =
        ap (λ r. r.stage) (behind frames are bytes (a ∷ b ∷ c ∷ d ∷ more) (is ∙ ap (λ f. through frames ++ f ++ more) e ∙ append_assoc (through frames) (a ∷ b ∷ c ∷ d ∷ []) more))
        ∙ size_by frames lt a b c d more (subst (λ f. byte_at f 0 ≤ 7) e one) (subst (λ f. byte_at f 1 ≤ 7) e other) (subst (λ f. 1280 < size_of f) e big)
        ∙ ap (λ n. Faulty (Bad n Size)) (sym at)

-- another byte than a capture's
pub magic_read : (n : ℕ) → n < 4 → read (take n MAGIC) ≡ beginning (take n MAGIC)
unfolding read
magic_read zero h = refl
magic_read (suc zero) h = refl
magic_read (suc (suc zero)) h = refl
magic_read (suc (suc (suc zero))) h = refl
magic_read (suc (suc (suc (suc n)))) h = absurd (omega (arith, h))

length_front : (n : ℕ) → n < 4 → length (take n MAGIC) ≡ n
length_front zero h = refl
length_front (suc zero) h = refl
length_front (suc (suc zero)) h = refl
length_front (suc (suc (suc zero))) h = refl
length_front (suc (suc (suc (suc n)))) h = absurd (omega (arith, h))

no_magic : (front : List ℕ) (b : ℕ) → b ≢ byte_at MAGIC (length front) → (steps.opening (beginning front) b).stage ≡ Faulty (Bad (length front) Magic)
no_magic front b other =
    choose (λ r. r.stage ≡ Faulty (Bad (length front) Magic)) (not (b == byte_at MAGIC (length front))) _ _
    (λ e. refl)
    (λ e. absurd (other (eqb-true b (byte_at MAGIC (length front)) (not_not _ e))))

magic_found : (bytes : List ℕ) (place : ℕ) → HasFault Magic bytes place → (read bytes).stage ≡ Faulty (Bad place Magic)
magic_found bytes place (b, more, is, lt, other) =
    let first = take place MAGIC in
    let long : length first ≡ place = length_front place lt in
    ap (λ r. r.stage) (ap read is ∙ read_more first (b ∷ more) ∙ ap (λ r. fold byte r (b ∷ more)) (magic_read place lt))
    ∙ stays (Bad (length first) Magic) (byte (beginning first) b) more (no_magic first b (subst (λ n. b ≢ byte_at MAGIC n) (sym long) other))
    ∙ ap (λ n. Faulty (Bad n Magic)) long

pub fault_found : (flaw : Flaw) (bytes : List ℕ) (place : ℕ) → flaw ≢ Early → HasFault flaw bytes place → (read bytes).stage ≡ Faulty (Bad place flaw)
fault_found Magic bytes place other h = magic_found bytes place h
fault_found Task bytes place other h = task_found bytes place h
fault_found Size bytes place other h = size_found bytes place h
fault_found Early bytes place other h = absurd (other refl)
fault_found After bytes place other h = after_found bytes place h
fault_found Clash bytes place other h = clash_found bytes place h
