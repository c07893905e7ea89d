-- What becomes of a frame, whole or not, behind other frames.
use Rattle.std.proofs.Common.{◌≡◌, ℕ, suc, ◌+◌, ◌<◌, ◌≤◌, Bool, true, false, not, ◌&&◌, ◌||◌, cond, nat_lt, ◌==◌, List, [], ◌∷◌, ◌++◌, length, Option, Some, None, refl, sym, ap, ◌∙◌, arith}
use Rattle.std.proofs.lemmas.Bool.{ltb-true, ltb-false, eqb-true}
use Rattle.std.proofs.lemmas.List.{append-nil, length-append}
use Rattle.lapi_base.specs.Packet.Spelling.{decoded}
use Rattle.lapi_base.specs.declared.packet.Packet.TheVariants.{Data, Ack}
use Rattle.lapi_base.specs.declared.packet.Packet.{Packet}
use Rattle.lapi_base.specs.declared.reply.Bad.{Bad}
use Rattle.std.specs.Prelude.{Result, Ok, Err}
use Rattle.lapi_capture.specs.declared.flaw.Flaw.TheVariants.{Clash}
use Rattle.lapi_capture.specs.declared.format.TheConstants.{FRONT, LAST_TASK, LONGEST}
use Rattle.lapi_capture.specs.declared.part.Part.{Part}
use Rattle.lapi_capture.specs.declared.stage.Stage.TheVariants.{Frames}
use Rattle.lapi_capture.specs.Captures.{through, with_part, parts_of, landing_in, landings, IsFrame, IsPartial, disagrees_with, clashes, AreFrames}
use Rattle.lapi_capture.specs.Entries.{differs, entries_of}
use Rattle.lapi_capture.specs.Format.{byte_at, to, size_of, handed, part_by, part_of, is_addressed}
use Rattle.lapi_capture.specs.Parts.{landing}
use Rattle.lapi_capture.specs.Reading.{Reading, reading_of}
use Rattle.lapi_capture.specs.Steps as steps
use Rattle.lapi_capture.proofs.FewFragments.{few_fragments}
use Rattle.lapi_capture.proofs.Kept.{Agree, differs_is, completes_is}

pub choose : (P : Reading → Type 0) (c : Bool) (x y : Reading) → (c ≡ true → P x) → (c ≡ false → P y) → P (cond c x y)
choose P true x y f g = f refl
choose P false x y f g = g refl

pub both_true : (a b : Bool) → (a && b) ≡ true → (a ≡ true) × (b ≡ true)
both_true true true e = (refl, refl)
both_true true false e = absurd (cc)
both_true false b e = absurd (cc)

pub second_false : (a b : Bool) → (a && b) ≡ false → a ≡ true → b ≡ false
second_false true b e t = e
second_false false b e t = absurd (cc)

-- a reading as it stands, for an `ap` over one of its parts
pub made : Reading → Reading
made r = r

-- ---- the parts in frames agree

few_by : (r : Result Packet Bad) (part : Part) → ((p : _) → r ≡ Ok (Data p) → p.fragment < 64) → part_by r ≡ Some part → part.fragment < 64
few_by (Ok (Data p)) part few is = let same : p.fragment ≡ part.fragment = cc in let lt = few p refl in omega (arith, same, lt)
few_by (Ok (Ack layout from to base bits)) part few is = absurd (cc)
few_by (Err bad) part few is = absurd (cc)

few_parts : (f : List ℕ) (part : Part) → part_of f ≡ Some part → part.fragment < 64
unfolding part_of
few_parts f part is = few_by (decoded (handed f)) part (few_fragments (handed f)) is

agree_more : (before : List Part) (part : Option Part) (addressed : Bool) → Agree before → ((p : Part) → part ≡ Some p → p.fragment < 64)
    → (not addressed || disagrees_with before part) ≡ false → Agree (with_part before part)
agree_more before None addressed agree few fits = agree
agree_more before (Some part) true agree few fits = (fits, few part refl, agree)
agree_more before (Some part) false agree few fits = absurd (cc)

pub agree_frames : (frames : List (List ℕ)) → AreFrames frames → Agree (parts_of frames)
unfolding AreFrames parts_of clashes
agree_frames [] are = omega arith
agree_frames (f ∷ frames) are = agree_more (parts_of frames) (part_of f) (is_addressed f) (agree_frames frames are.3) (few_parts f) are.2

-- ---- a whole frame

module _ (frames : List (List ℕ)) (are : AreFrames frames) (f : List ℕ) where
  counted_of : Option Part → Reading
  counted_of part =
      record { stage = Frames; frames = suc (length frames); place = length (through frames) + length f; entries = entries_of (with_part (parts_of frames) part); landings = landings frames ++ landing_in (length frames) (parts_of frames) part; rest = [] }

  counted_is : counted_of (part_of f) ≡ reading_of Frames (f ∷ frames) []
  unfolding counted_of made through parts_of landings
  counted_is =
      ap (λ (at : ℕ). made (record { stage = Frames; frames = suc (length frames); place = at; entries = entries_of (with_part (parts_of frames) (part_of f)); landings = landings frames ++ landing_in (length frames) (parts_of frames) (part_of f); rest = [] }))
      (sym (length-append (through frames) f))

  fits_by : (addressed : Bool) (part : Option Part) → ((p : Part) → part ≡ Some p → p.fragment < 64) → (not addressed || disagrees_with (parts_of frames) part) ≡ false
      → steps.whole (reading_of Frames frames []) (length f) addressed part ≡ counted_of part
  unfolding counted_of steps.told made entries_of
  fits_by false part few e = absurd (cc)
  fits_by true None few e = ap (λ ls. made (record { stage = Frames; frames = suc (length frames); place = length (through frames) + length f; entries = entries_of (parts_of frames); landings = ls; rest = [] })) (sym (append-nil (landings frames)))
  fits_by true (Some part) few e =
      choose (λ r. r ≡ counted_of (Some part)) (differs (entries_of (parts_of frames)) part) _ _
      (λ h. let fits = differs_is (parts_of frames) (agree_frames frames are) part in absurd (cc))
      (λ h. ap (λ b. made (record { stage = Frames; frames = suc (length frames); place = length (through frames) + length f; entries = entries_of (part ∷ parts_of frames); landings = landings frames ++ cond b (landing (length frames) part ∷ []) []; rest = [] }))
      (completes_is (parts_of frames) (agree_frames frames are) part (few part refl)))

  clash_by : (addressed : Bool) (part : Option Part) → (not addressed || disagrees_with (parts_of frames) part) ≡ true
      → steps.whole (reading_of Frames frames []) (length f) addressed part ≡ steps.bad (reading_of Frames frames []) (length (through frames)) Clash
  unfolding steps.told
  clash_by false part e = refl
  clash_by true None e = absurd (cc)
  clash_by true (Some part) e =
      choose (λ r. r ≡ steps.bad (reading_of Frames frames []) (length (through frames)) Clash) (differs (entries_of (parts_of frames)) part) _ _
      (λ h. refl)
      (λ h. let fits = differs_is (parts_of frames) (agree_frames frames are) part in absurd (cc))

  unfoldable pub whole_of : Reading
  whole_of = steps.whole (reading_of Frames frames []) (length f) (is_addressed f) (part_of f)

  pub fits_read : clashes frames f ≡ false → whole_of ≡ reading_of Frames (f ∷ frames) []
  unfolding whole_of clashes
  fits_read e = fits_by (is_addressed f) (part_of f) (few_parts f) e ∙ counted_is

  pub clash_read : clashes frames f ≡ true → whole_of ≡ steps.bad (reading_of Frames frames []) (length (through frames)) Clash
  unfolding whole_of clashes
  clash_read e = clash_by (is_addressed f) (part_of f) e

  pub whole_further : IsFrame f → steps.further (reading_of Frames frames f) ≡ whole_of
  unfolding whole_of steps.further
  whole_further is =
      let four : 4 ≤ length f = omega (arith, is.whole) in
      choose (λ r. r ≡ whole_of) (length f == 2 && nat_lt LAST_TASK (to f)) _ _
      (λ e. absurd (omega (arith, four, eqb-true (length f) 2 (both_true _ _ e).0)))
      (λ e. choose (λ r. r ≡ whole_of) (nat_lt (length f) FRONT) _ _
      (λ less. absurd (omega (arith, four, ltb-true (length f) 4 less)))
      (λ less. choose (λ r. r ≡ whole_of) (length f == FRONT && nat_lt LONGEST (size_of f)) _ _
      (λ big. absurd (omega (arith, is.begun.size four, ltb-true 1280 (size_of f) (both_true _ _ big).1)))
      (λ big. choose (λ r. r ≡ whole_of) (nat_lt (length f) (FRONT + size_of f)) _ _
      (λ more. absurd (omega (arith, is.whole, ltb-true (length f) (4 + size_of f) more)))
      (λ more. refl))))

-- ---- a frame of which bytes are missing

pub partial_further : (frames : List (List ℕ)) (f : List ℕ) → IsPartial f → steps.further (reading_of Frames frames f) ≡ reading_of Frames frames f
unfolding steps.further
partial_further frames f is =
    choose (λ r. r ≡ reading_of Frames frames f) (length f == 2 && nat_lt LAST_TASK (to f)) _ _
    (λ e. let two : length f ≡ 2 = eqb-true (length f) 2 (both_true _ _ e).0 in
    absurd (omega (arith, is.begun.to (omega (arith, two)), ltb-true 7 (byte_at f 1) (both_true _ _ e).1)))
    (λ e. choose (λ r. r ≡ reading_of Frames frames f) (nat_lt (length f) FRONT) _ _
    (λ less. refl)
    (λ less. let four : 4 ≤ length f = ltb-false (length f) 4 less in
    choose (λ r. r ≡ reading_of Frames frames f) (length f == FRONT && nat_lt LONGEST (size_of f)) _ _
    (λ big. absurd (omega (arith, is.begun.size four, ltb-true 1280 (size_of f) (both_true _ _ big).1)))
    (λ big. choose (λ r. r ≡ reading_of Frames frames f) (nat_lt (length f) (FRONT + size_of f)) _ _
    (λ more. refl)
    (λ more. absurd (omega (arith, is.partial four, ltb-false (length f) (4 + size_of f) more))))))
