-- What the entries of messages keep of the parts that came: all that clashes and landings ask for.
use Rattle.std.proofs.Common.{◌≡◌, ℕ, ◌<◌, ◌≤◌, ◌==◌, Bool, true, false, not, ◌&&◌, ◌||◌, cond, List, [], ◌∷◌, Option, Some, None, refl, sym, ap, ◌∙◌}
use Rattle.std.specs.Int.{w64}
use Rattle.std.specs.List.{list_any}
use Rattle.std.proofs.lemmas.Bool.{false≢true, and_parts, eqb-true}
use Rattle.indexmap.specs.IndexMap.{insert_entry}
use Rattle.lapi_base.specs.Record.Below.{every_below, has_bit}
use Rattle.lapi_base.proofs.BelowLaws.{every_below-same}
use Rattle.lapi_base.proofs.BitLaws.{has_bit-zero, has_bit-set}
use Rattle.lapi_capture.specs.declared.incoming.Incoming.{Incoming}
use Rattle.lapi_capture.specs.declared.part.Part.{Part}
use Rattle.lapi_capture.specs.declared.seen.Seen.{Seen}
use Rattle.lapi_capture.specs.Entries.{Entries, entry, bits, bits_by, with_bit, differs, differs_from, seen_with, completes, entries_of}
use Rattle.lapi_capture.specs.Parts.{is_same, disagrees, has, count, lands}
use Rattle.lapi_capture.specs.SameMessages.{same_refl, same_true, same_laws}

-- ---- the entry of a message

again : (b : Bool) (v w old : Option Seen) → cond b v old ≡ cond b v (cond b w old)
again true v w old = refl
again false v w old = refl

-- of two tests that aren't both true, either may be asked first
either_first : (b c : Bool) (v w old : Option Seen) → (b ≡ true → c ≡ true → ⊥) → cond b v (cond c w old) ≡ cond c w (cond b v old)
either_first true true v w old apart = absurd (apart refl refl)
either_first true false v w old apart = refl
either_first false c v w old apart = refl

pub inserted : (entries : Entries) (k : Incoming) (v : Seen) (m : Incoming) → entry (insert_entry is_same entries k v) m ≡ cond (is_same k m) (Some v) (entry entries m)
inserted [] k v m = ap (λ b. cond b (Some v) None) (same_laws.symm m k)
inserted (e ∷ entries) k v m =
    elim (is_same k e.0) as (λ b. is_same k e.0 ≡ b → entry (cond b ((e.0, v) ∷ entries) (e ∷ insert_entry is_same entries k v)) m ≡ cond (is_same k m) (Some v) (cond (is_same m e.0) (Some e.1) (entry entries m))) [
      | true ↦ λ h.
          let turned : is_same m e.0 ≡ is_same k m = ap (is_same m) (sym (same_true k e.0 h)) ∙ same_laws.symm m k in
          ap (λ b. cond b (Some v) (entry entries m)) turned ∙ again (is_same k m) (Some v) (Some e.1) (entry entries m) ∙ ap (λ b. cond (is_same k m) (Some v) (cond b (Some e.1) (entry entries m))) (sym turned)
      | false ↦ λ h.
          ap (λ old. cond (is_same m e.0) (Some e.1) old) (inserted entries k v m)
          ∙ either_first (is_same m e.0) (is_same k m) (Some e.1) (Some v) (entry entries m) (λ one other. false≢true (sym h ∙ ap (λ x. is_same x e.0) (same_true k m other) ∙ one))
    ] refl

-- ---- parts that agree, each of one of 64 fragments at most

abbrev pub Agree : List Part → Type 0
Agree [] = 0 ≤ 0
Agree (part ∷ before) = (list_any (disagrees part) before ≡ false) × (part.fragment < 64) × Agree before

-- as one part disagrees, so does another of the same message, layout and length
same_kind : (a b : Part) (earlier : List Part) → a.message ≡ b.message → a.layout ≡ b.layout → a.length ≡ b.length → list_any (disagrees a) earlier ≡ list_any (disagrees b) earlier
same_kind a b earlier message layout len =
    ap (λ (m : Incoming). list_any (λ (e : Part). is_same e.message m && not (a.layout == e.layout && a.length == e.length)) earlier) message
    ∙ ap (λ (l : ℕ). list_any (λ (e : Part). is_same e.message b.message && not (l == e.layout && a.length == e.length)) earlier) layout
    ∙ ap (λ (n : ℕ). list_any (λ (e : Part). is_same e.message b.message && not (b.layout == e.layout && n == e.length)) earlier) len

-- the newest part of a message tells whether another one disagrees with any
newest_tells : (part p : Part) (before : List Part) → p.message ≡ part.message → list_any (disagrees p) before ≡ false
    → (kind : Bool) → (part.layout == p.layout && part.length == p.length) ≡ kind → not kind ≡ (not kind || list_any (disagrees part) before)
newest_tells part p before same agrees true e =
    let both = and_parts (part.layout == p.layout) (part.length == p.length) e in
    sym (same_kind part p before (sym same) (eqb-true part.layout p.layout both.0) (eqb-true part.length p.length both.1) ∙ agrees)
newest_tells part p before same agrees false e = refl

pub differs_is : (parts : List Part) → Agree parts → (part : Part) → differs (entries_of parts) part ≡ list_any (disagrees part) parts
unfolding entries_of
differs_is [] agree part = refl
differs_is (p ∷ before) agree part =
    ap (λ seen. differs_from seen part) (inserted (entries_of before) p.message (seen_with (entries_of before) p) part.message)
    ∙ elim (is_same p.message part.message) as (λ b. is_same p.message part.message ≡ b → differs_from (cond b (Some (seen_with (entries_of before) p)) (entry (entries_of before) part.message)) part ≡ ((b && not (part.layout == p.layout && part.length == p.length)) || list_any (disagrees part) before)) [
      | true ↦ λ h. newest_tells part p before (same_true p.message part.message h) agree.0 (part.layout == p.layout && part.length == p.length) refl
      | false ↦ λ h. differs_is before agree.2 part
    ] refl

-- the bits of a message tell which fragments came
pub bits_are : (parts : List Part) → Agree parts → (m : Incoming) (j : ℕ) → has_bit (bits (entries_of parts) m) j ≡ has parts m j
unfolding entries_of
bits_are [] agree m j = has_bit-zero j
bits_are (p ∷ before) agree m j =
    ap (λ seen. has_bit (bits_by seen) j) (inserted (entries_of before) p.message (seen_with (entries_of before) p) m)
    ∙ elim (is_same p.message m) as (λ b. is_same p.message m ≡ b → has_bit (bits_by (cond b (Some (seen_with (entries_of before) p)) (entry (entries_of before) m))) j ≡ ((b && j == p.fragment) || has before m j)) [
      | true ↦ λ h.
          has_bit-set w64 (bits (entries_of before) p.message) p.fragment j agree.1
          ∙ ap (λ b. j == p.fragment || b) (bits_are before agree.2 p.message j ∙ ap (λ x. has before x j) (same_true p.message m h))
      | false ↦ λ h. bits_are before agree.2 m j
    ] refl

pub completes_is : (parts : List Part) → Agree parts → (part : Part) → part.fragment < 64 → completes (entries_of parts) part ≡ lands parts part
completes_is parts agree part few =
    let word = bits (entries_of parts) part.message in
    let before : every_below (count part) (has_bit word) ≡ every_below (count part) (has parts part.message) =
    every_below-same (count part) (has_bit word) (has parts part.message) (λ j lt. bits_are parts agree part.message j) in
    let after : every_below (count part) (has_bit (with_bit word part.fragment)) ≡ every_below (count part) (has (part ∷ parts) part.message) =
    every_below-same (count part) (has_bit (with_bit word part.fragment)) (has (part ∷ parts) part.message) (λ j lt.
    has_bit-set w64 word part.fragment j few
    ∙ ap (λ b. j == part.fragment || b) (bits_are parts agree part.message j)
    ∙ ap (λ b. (b && j == part.fragment) || has parts part.message j) (sym (same_refl part.message))) in
    ap (λ b. not b && every_below (count part) (has_bit (with_bit word part.fragment))) before ∙ ap (λ b. not (every_below (count part) (has parts part.message)) && b) after
