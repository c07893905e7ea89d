-- Frames are read as they are, whole ones and the front of a further one.
use Rattle.std.proofs.Common.{◌≡◌, ℕ, ◌+◌, ◌*◌, ◌<◌, ◌≤◌, nat_lt, nat_le, ◌==◌, List, [], ◌∷◌, ◌++◌, length, refl, sym, ap, ◌∙◌, subst, append_assoc, arith}
use Rattle.std.specs.List.{fold}
use Rattle.std.proofs.lemmas.Bool.{ltb-true, leb-true, eqb-true}
use Rattle.std.proofs.lemmas.List.{append-nil, length-append, get_or_append_left}
use Rattle.std.proofs.lemmas.List.Sums.{fold-append}
use Rattle.lapi_base.specs.declared.capture.TheConstants.{CAPTURE_END as END}
use Rattle.lapi_capture.specs.declared.format.TheConstants.{LAST_TASK, MOST_FRAMES}
use Rattle.lapi_capture.specs.declared.stage.Stage.TheVariants.{Frames, Over}
use Rattle.lapi_capture.specs.Captures.{through, parts_of, landings, IsBegun, IsFrame, IsPartial, AreFrames, IsOpen}
use Rattle.lapi_capture.specs.Entries.{entries_of}
use Rattle.lapi_capture.specs.Format.{byte_at, size_of}
use Rattle.lapi_capture.specs.Reading.{Reading, beginning, reading_of}
use Rattle.lapi_capture.specs.Steps as steps
use Rattle.lapi_capture.specs.Steps.{byte}
use Rattle.lapi_capture.proofs.WholeFrames.{choose, whole_of, fits_read, whole_further, partial_further}

-- what is read of bytes
unfoldable pub read : List ℕ → Reading
read bytes = fold byte (beginning []) bytes

pub read_more : (before piece : List ℕ) → read (before ++ piece) ≡ fold byte (read before) piece
unfolding read
read_more before piece = fold-append byte (beginning []) before piece

-- ---- the front of a frame

module _ (f g more : List ℕ) (is : f ≡ g ++ more) where
  in_front : (i : ℕ) → i < length g → byte_at f i ≡ byte_at g i
  in_front i h = ap (λ x. byte_at x i) is ∙ get_or_append_left g more 0 i h

  lengths : length f ≡ length g + length more
  lengths = ap length is ∙ length-append g more

  size_in_front : 4 ≤ length g → size_of f ≡ size_of g
  size_in_front h = ap (λ x. 256 * x + byte_at f 3) (in_front 2 (omega (arith, h))) ∙ ap (λ x. 256 * byte_at g 2 + x) (in_front 3 (omega (arith, h)))

  front_partial : IsBegun f → (4 ≤ length f → length f ≤ 4 + size_of f) → 0 < length g → 0 < length more → IsPartial g
  front_partial begun short some rest =
      record {
        begun = record {
          from = subst (λ x. x ≤ 7) (in_front 0 some) begun.from;
          to = λ h. subst (λ x. x ≤ 7) (in_front 1 (omega (arith, h))) (begun.to (omega (arith, h, lengths)));
          size = λ h. subst (λ x. x ≤ 1280) (size_in_front h) (begun.size (omega (arith, h, lengths)));
        };
        partial = λ h. let fits = short (omega (arith, h, lengths)) in omega (arith, lengths, fits, size_in_front h, rest);
      }

-- ---- bytes within a frame

module _ (frames : List (List ℕ)) (lt : length frames < 20000) where
  kept : (front : List ℕ) (b : ℕ) → IsPartial (front ++ b ∷ []) → byte (reading_of Frames frames front) b ≡ reading_of Frames frames (front ++ b ∷ [])
  kept [] b partial =
      let small : b ≤ 7 = partial.begun.from in
      choose (λ r. r ≡ reading_of Frames frames (b ∷ [])) (b == END) _ _
      (λ e. absurd (omega (arith, small, eqb-true b 255 e)))
      (λ e. choose (λ r. r ≡ reading_of Frames frames (b ∷ [])) (nat_le MOST_FRAMES (length frames)) _ _
      (λ full. absurd (omega (arith, lt, leb-true 20000 (length frames) full)))
      (λ full. choose (λ r. r ≡ reading_of Frames frames (b ∷ [])) (nat_lt LAST_TASK b) _ _
      (λ above. absurd (omega (arith, small, ltb-true 7 b above)))
      (λ above. refl)))
  kept (x ∷ front) b partial =
      choose (λ r. r ≡ reading_of Frames frames (x ∷ (front ++ b ∷ []))) (length (x ∷ front) == 0) _ _
      (λ e. absurd (omega (arith, eqb-true (length (x ∷ front)) 0 e)))
      (λ e. partial_further frames (x ∷ (front ++ b ∷ [])) partial)

  -- the front of a frame, byte by byte
  front_read : (f : List ℕ) → IsPartial f → (front more : List ℕ) → f ≡ front ++ more → fold byte (reading_of Frames frames front) more ≡ reading_of Frames frames f
  front_read f partial front [] is = let e : front ≡ f = sym (is ∙ append-nil front) in ap (reading_of Frames frames) e
  front_read f partial front (b ∷ []) is = kept front b (subst IsPartial is partial) ∙ ap (reading_of Frames frames) (sym is)
  front_read f partial front (b ∷ c ∷ more) is =
      let split : f ≡ (front ++ b ∷ []) ++ (c ∷ more) = is ∙ sym (append_assoc front (b ∷ []) (c ∷ more)) in
      let here : IsPartial (front ++ b ∷ []) =
      front_partial f (front ++ b ∷ []) (c ∷ more) split partial.begun (λ h. let less = partial.partial h in omega (arith, less)) (omega (arith, length-append front (b ∷ []))) (omega arith) in
      ap (λ r. fold byte r (c ∷ more)) (kept front b here) ∙ front_read f partial (front ++ b ∷ []) (c ∷ more) split

module _ (frames : List (List ℕ)) (are : AreFrames frames) (lt : length frames < 20000) (f : List ℕ) (frame : IsFrame f) where
  ends : (front : List ℕ) (b : ℕ) → f ≡ front ++ b ∷ [] → byte (reading_of Frames frames front) b ≡ whole_of frames are f
  ends [] b is = absurd (omega (arith, frame.whole, ap length is))
  ends (x ∷ front) b is =
      choose (λ r. r ≡ whole_of frames are f) (length (x ∷ front) == 0) _ _
      (λ e. absurd (omega (arith, eqb-true (length (x ∷ front)) 0 e)))
      (λ e. subst (λ g. steps.further (reading_of Frames frames g) ≡ whole_of frames are f) is (whole_further frames are f frame))

  goes : (front : List ℕ) (b : ℕ) (more : List ℕ) → f ≡ front ++ b ∷ more → fold byte (reading_of Frames frames front) (b ∷ more) ≡ whole_of frames are f
  goes front b [] is = ends front b is
  goes front b (c ∷ more) is =
      let split : f ≡ (front ++ b ∷ []) ++ (c ∷ more) = is ∙ sym (append_assoc front (b ∷ []) (c ∷ more)) in
      let here : IsPartial (front ++ b ∷ []) =
      front_partial f (front ++ b ∷ []) (c ∷ more) split frame.begun (λ h. omega (arith, frame.whole)) (omega (arith, length-append front (b ∷ []))) (omega arith) in
      ap (λ r. fold byte r (c ∷ more)) (kept frames lt front b here) ∙ goes (front ++ b ∷ []) c more split

pub frame_read : (frames : List (List ℕ)) (are : AreFrames frames) → length frames < 20000 → (f : List ℕ) → IsFrame f → fold byte (reading_of Frames frames []) f ≡ whole_of frames are f
frame_read frames are lt [] frame = let w = frame.whole in absurd (omega (arith, w))
frame_read frames are lt (b ∷ f) frame = goes frames are lt (b ∷ f) frame [] b f refl

-- ---- whole frames

pub frames_read : (frames : List (List ℕ)) → AreFrames frames → read (through frames) ≡ reading_of Frames frames []
unfolding AreFrames through read parts_of landings entries_of
frames_read [] are = refl
frames_read (f ∷ frames) are =
    read_more (through frames) f ∙ ap (λ r. fold byte r f) (frames_read frames are.3) ∙ frame_read frames are.3 are.0 f are.1 ∙ fits_read frames are.3 f are.2

-- bytes behind them
pub behind : (frames : List (List ℕ)) → AreFrames frames → (bytes ys : List ℕ) → bytes ≡ through frames ++ ys → read bytes ≡ fold byte (reading_of Frames frames []) ys
behind frames are bytes ys is = ap read is ∙ read_more (through frames) ys ∙ ap (λ r. fold byte r ys) (frames_read frames are)

pub capture_read : (frames : List (List ℕ)) → AreFrames frames → read (through frames ++ END ∷ []) ≡ reading_of Over frames []
capture_read frames are = behind frames are (through frames ++ END ∷ []) (END ∷ []) refl

pub open_read : (frames : List (List ℕ)) (rest : List ℕ) → IsOpen frames rest → read (through frames ++ rest) ≡ reading_of Frames frames rest
open_read frames [] open_there = behind frames open_there.0 (through frames ++ []) [] refl
open_read frames (b ∷ rest) open_there =
    let can = open_there.1 (omega arith) in
    behind frames open_there.0 (through frames ++ b ∷ rest) (b ∷ rest) refl ∙ front_read frames can.0 (b ∷ rest) can.1 [] (b ∷ rest) refl
