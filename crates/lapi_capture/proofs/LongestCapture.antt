-- How many bytes a reader can be fed without a fault.
use Rattle.std.proofs.Common.{◌≡◌, ℕ, ◌+◌, ◌*◌, ◌<◌, ◌≤◌, List, [], ◌∷◌, ◌++◌, length, Ok, ap, inl, inr, arith}
use Rattle.std.proofs.lemmas.List.{length-append}
use Rattle.std.proofs.lemmas.Bool.{cases_lt}
use Rattle.lapi_base.specs.declared.capture.TheConstants.{CAPTURE_END}
use Rattle.lapi_capture.specs.declared.stage.Stage.{Stage}
use Rattle.lapi_capture.specs.declared.stage.Stage.TheVariants.{Opening, Frames, Over, Faulty}
use Rattle.lapi_capture.specs.Captures.{AreFrames, IsOpen, IsPartial, through}
use Rattle.lapi_capture.specs.Format.{size_of}
use Rattle.lapi_capture.specs.Reading.{Reading, IsReadingOf, Tells, fault_at}
use Rattle.lapi_capture.proofs.Told.{few}

frames-short : (frames : List (List ℕ)) → AreFrames frames → length (through frames) ≤ 4 + 1284 * length frames
unfolding AreFrames through
frames-short [] are = omega arith
frames-short (f ∷ frames) are =
    let l : length f ≡ 4 + size_of f = are.1.whole in
    let most : size_of f ≤ 1280 = are.1.begun.size (omega (arith, l)) in
    omega (arith, length-append (through frames) f, frames-short frames are.3, l, most)

partial-short : (f : List ℕ) → IsPartial f → length f ≤ 1284
partial-short f p = short (length f) (size_of f) p.begun.size p.partial
  where
    short : (n size : ℕ) → (4 ≤ n → size ≤ 1280) → (4 ≤ n → n < 4 + size) → n ≤ 1284
    short n size most lt =
        elim (cases_lt n 4) [
          | inl small ↦ omega (arith, small)
          | inr four ↦ omega (arith, most four, lt four)
        ]

open-short : (frames : List (List ℕ)) (rest : List ℕ) → IsOpen frames rest → length (through frames ++ rest) ≤ 25680004
open-short frames [] is = omega (arith, length-append (through frames) [], frames-short frames is.0, few frames is.0)
open-short frames (b ∷ rest) is =
    let can = is.1 (omega arith) in
    omega (arith, length-append (through frames) (b ∷ rest), frames-short frames is.0, can.0, partial-short (b ∷ rest) can.1)

short-by : (stage : Stage) (r : Reading) (bytes : List ℕ) → Tells stage r bytes → fault_at stage ≡ Ok tt → length bytes ≤ 25680005
short-by Opening r bytes told ok = omega (arith, told.0)
short-by Frames r bytes (frames, rest, is, bytes-are, same) ok = omega (arith, ap length bytes-are, open-short frames rest is)
short-by Over r bytes (frames, are, bytes-are, same) ok = omega (arith, ap length bytes-are, length-append (through frames) (CAPTURE_END ∷ []), frames-short frames are, few frames are)
short-by (Faulty fault) r bytes told ok = absurd (cc)

pub reading-short : (r : Reading) (bytes : List ℕ) → IsReadingOf r bytes → fault_at r.stage ≡ Ok tt → length bytes ≤ 25680005
reading-short r bytes told ok = short-by r.stage r bytes told ok
