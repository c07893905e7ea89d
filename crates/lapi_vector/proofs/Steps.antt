-- One piece more that was read, and one more that was written.
use Rattle.std.proofs.Common.{◌≡◌, ℕ, ◌+◌, ◌<◌, ◌≤◌, List, [], ◌∷◌, ◌++◌, length, map, get_or, take, drop, refl, sym, ap, ◌∙◌, arith}
use Rattle.std.specs.List.{flat_map, fold, sum_by}
use Rattle.std.proofs.lemmas.List.{take_more, drop_more, append-nil, drop_all, get_or_default}
use Rattle.std.proofs.lemmas.List.Folds.{fold-map}
use Rattle.std.proofs.lemmas.List.Sums.{sum_by-drop_more}
use Rattle.std.proofs.lemmas.List.Concat.{flat_map-append}
use Rattle.lapi_base.specs.declared.span.Span.{Span}
use Rattle.lapi_base.specs.Record.Operations.{numbers_below}
use Rattle.lapi_base.specs.Record.Values.{Memories, Write, gathered, scattered, byte_after}
use Rattle.lapi_memory.specs.TaskMemory.{bytes_at, written}
use Rattle.lapi_vector.specs.Pieces.{total_of}

abbrev pub step : List ℕ → Write → List ℕ
step memory w = written memory w.0 w.1

flat_more : (f : Span → List ℕ) (spans : List Span) (i : ℕ) (p : Span) → i < length spans → flat_map f (take (i + 1) spans) ≡ flat_map f (take i spans) ++ f (get_or spans i p)
flat_more f spans i p lt =
    ap (flat_map f) (take_more spans i p lt)
    ∙ flat_map-append f (take i spans) (get_or spans i p ∷ [])
    ∙ ap (λ rest. flat_map f (take i spans) ++ rest) (append-nil (f (get_or spans i p)))

pub piece_read : (memory bytes after piece : List ℕ) (spans : List Span) (i : ℕ) (p : Span) → i < length spans → p ≡ get_or spans i p → after ≡ bytes ++ piece → piece ≡ bytes_at memory p.at p.len → bytes ≡ flat_map (λ p. bytes_at memory p.at p.len) (take i spans) → after ≡ flat_map (λ p. bytes_at memory p.at p.len) (take (i + 1) spans)
piece_read memory bytes after piece spans i p lt this more read so_far =
    more
    ∙ ap (λ b. b ++ piece) so_far
    ∙ ap (λ b. flat_map (λ p. bytes_at memory p.at p.len) (take i spans) ++ b) (read ∙ ap (λ (q : Span). bytes_at memory q.at q.len) this)
    ∙ sym (flat_more (λ p. bytes_at memory p.at p.len) spans i p lt)

gathered_split : (memories : Memories) (t : ℕ) (xs ys : List Span) → gathered memories t (xs ++ ys) ≡ gathered memories t xs ++ gathered memories t ys
unfolding gathered
gathered_split memories t xs ys = flat_map-append (λ p. map (λ k. memories t (p.at + k)) (numbers_below p.len)) xs ys

pub piece_gathered : (memories : Memories) (t : ℕ) (bytes after piece : List ℕ) (spans : List Span) (i : ℕ) (p : Span) → i < length spans → p ≡ get_or spans i p → after ≡ bytes ++ piece → piece ≡ gathered memories t (p ∷ []) → bytes ≡ gathered memories t (take i spans) → after ≡ gathered memories t (take (i + 1) spans)
piece_gathered memories t bytes after piece spans i p lt this more read so_far =
    more
    ∙ ap (λ b. b ++ piece) so_far
    ∙ ap (λ b. gathered memories t (take i spans) ++ b) (read ∙ ap (λ q. gathered memories t (q ∷ [])) this)
    ∙ sym (gathered_split memories t (take i spans) (get_or spans i p ∷ []))
    ∙ sym (ap (gathered memories t) (take_more spans i p lt))

pub nothing_gathered : (memories : Memories) (t : ℕ) → gathered memories t [] ≡ []
unfolding gathered
nothing_gathered memories t = refl

next_piece : (spans : List Span) (i : ℕ) (p : Span) → i < length spans → p ≡ get_or spans i p → drop i spans ≡ p ∷ drop (i + 1) spans
next_piece spans i p lt this = drop_more spans i p lt ∙ ap (λ (q : Span). q ∷ drop (i + 1) spans) (sym this)

total_by : (spans : List Span) → total_of spans ≡ sum_by (λ (p : Span). p.len) spans
total_by spans = fold-map ◌+◌ (λ (p : Span). p.len) 0 spans

pub rest_left : (rest after : List ℕ) (spans : List Span) (i : ℕ) (p : Span) → i < length spans → p ≡ get_or spans i p → length after + p.len ≡ length rest → length rest ≡ total_of (drop i spans) → length after ≡ total_of (drop (i + 1) spans)
rest_left rest after spans i p lt this cut left =
    let len = ap (λ (q : Span). q.len) this in
    omega (arith, len, total_by (drop i spans), total_by (drop (i + 1) spans), sum_by-drop_more (λ (q : Span). q.len) spans i p lt)

-- the piece of this turn, where the loop goes over a copy of the list
pub this_piece : (items spans : List Span) (i : ℕ) (d : Span) → items ≡ spans → i < length spans → get_or items i d ≡ get_or spans i (get_or items i d)
this_piece items spans i d e lt = ap (λ ps. get_or ps i d) e ∙ get_or_default spans i d (get_or items i d) lt

pub piece_written : (memory after_memory rest piece after : List ℕ) (spans : List Span) (i : ℕ) (p : Span) → i < length spans → p ≡ get_or spans i p → piece ≡ take p.len rest → after ≡ drop p.len rest → after_memory ≡ written memory p.at piece → fold step memory (scattered (drop i spans) rest) ≡ fold step after_memory (scattered (drop (i + 1) spans) after)
unfolding scattered
piece_written memory after_memory rest piece after spans i p lt this front back write =
    ap (λ ps. fold step memory (scattered ps rest)) (next_piece spans i p lt this)
    ∙ ap (λ bytes. fold step (written memory p.at bytes) (scattered (drop (i + 1) spans) (drop p.len rest))) (sym front)
    ∙ ap (λ m. fold step m (scattered (drop (i + 1) spans) (drop p.len rest))) (sym write)
    ∙ ap (λ bytes. fold step after_memory (scattered (drop (i + 1) spans) bytes)) (sym back)

pub byte_written : (before now x : ℕ) (rest piece after : List ℕ) (spans : List Span) (i : ℕ) (p : Span) → i < length spans → p ≡ get_or spans i p → piece ≡ take p.len rest → after ≡ drop p.len rest → now ≡ byte_after ((p.at, piece) ∷ []) x before → byte_after (scattered (drop i spans) rest) x before ≡ byte_after (scattered (drop (i + 1) spans) after) x now
unfolding scattered byte_after
byte_written before now x rest piece after spans i p lt this front back write =
    ap (λ ps. byte_after (scattered ps rest) x before) (next_piece spans i p lt this)
    ∙ ap (λ bytes. byte_after (scattered (drop (i + 1) spans) (drop p.len rest)) x (byte_after ((p.at, bytes) ∷ []) x before)) (sym front)
    ∙ ap (byte_after (scattered (drop (i + 1) spans) (drop p.len rest)) x) (sym write)
    ∙ ap (λ bytes. byte_after (scattered (drop (i + 1) spans) bytes) x now) (sym back)

pub all_written : (memory rest : List ℕ) (spans : List Span) (i : ℕ) → length spans ≤ i → fold step memory (scattered (drop i spans) rest) ≡ memory
unfolding scattered
all_written memory rest spans i past = ap (λ ps. fold step memory (scattered ps rest)) (drop_all i spans past)

pub all_bytes_written : (x before : ℕ) (rest : List ℕ) (spans : List Span) (i : ℕ) → length spans ≤ i → byte_after (scattered (drop i spans) rest) x before ≡ before
unfolding scattered byte_after
all_bytes_written x before rest spans i past = ap (λ ps. byte_after (scattered ps rest) x before) (drop_all i spans past)
