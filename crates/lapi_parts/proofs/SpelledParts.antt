-- Parts of packets whose numbers keep their rules have the spellings that are written for them.
use Rattle.std.proofs.Common.{◌≡◌, ℕ, zero, suc, ◌+◌, ◌-◌, ◌%◌, ◌^◌, ◌<◌, ◌≤◌, ◌==◌, false, cond, ◌&&◌, List, [], ◌∷◌, ◌++◌, length, Option, Some, None, refl, sym, ap, ◌∙◌, subst, append_assoc, arith}
use Rattle.std.specs.Prelude.{nat_lt, nat_le}
use Rattle.std.specs.List.{AllByRecursion}
use Rattle.std.proofs.lemmas.Bool.{and_from, or_left, cond-false, lt-ltb, le-leb, eq-eqb, ne_eqb}
use Rattle.std.proofs.lemmas.List.{append-nil}
use Rattle.std.proofs.lemmas.List.Sums.{sum_by-cons}
use Rattle.std.proofs.lemmas.List.Concat.{flat_map-cons}
use Rattle.lapi_base.specs.declared.span.Span.{Span}
use Rattle.lapi_base.specs.Packet.Format.{Format, Done, Field, ◌>>=◌, bytes_form, repeated, bytes_of, IsSpelled}
use Rattle.lapi_base.specs.Packet.Fields.{fits, counter_form, range_form, word_form, span_form, covering_span, covering_form, within_span, within_form, matching_span, matching_form, left_behind, behind}
use Rattle.lapi_base.specs.Packet.PacketBytes as written
use Rattle.lapi_base.specs.Record.Valid.{IsByte}
use Rattle.lapi_base.specs.Laws.Receiving.{bytes_in}

-- ---- one part behind another

pub spelled-bind : {A B : Type 0} (f : Format A) (g : A → Format B) (x : A) (y : B) (bytes rest : List ℕ) → IsSpelled f x bytes → IsSpelled (g x) y rest → IsSpelled (f >>= g) y (bytes ++ rest)
spelled-bind (Done a) g x y bytes rest s t =
    subst (λ (l : List ℕ). IsSpelled (g a) y (l ++ rest)) (sym s.1) (subst (λ z. IsSpelled (g z) y rest) s.0 t)
spelled-bind (Field size why keeps more) g x y bytes rest s t =
    (s.0, s.1 ++ rest, s.2, s.3, ap (λ (l : List ℕ). l ++ rest) s.4 ∙ append_assoc (bytes_of size s.0) s.1 rest, spelled-bind (more s.0) g x y s.1 rest s.5 t)

-- a part at the end, and what is made of it
pub spelled-last : {A B : Type 0} (f : Format A) (h : A → B) (x : A) (bytes : List ℕ) → IsSpelled f x bytes → IsSpelled (f >>= λ a. Done (h a)) (h x) bytes
spelled-last f h x bytes s = subst (λ (l : List ℕ). IsSpelled (f >>= λ a. Done (h a)) (h x) l) (append-nil bytes) (spelled-bind f (λ a. Done (h a)) x (h x) bytes [] s (refl, refl))

-- ---- bytes

pub bytes-spelled : (bytes : List ℕ) → AllByRecursion IsByte bytes → IsSpelled (bytes_form (length bytes)) bytes bytes
unfolding bytes_form
bytes-spelled [] h = (refl, refl)
bytes-spelled (b ∷ bytes) h =
    let same : b ≡ b % 256 = omega (arith, h.0) in
    (b, bytes, h.0, refl, ap (λ (n : ℕ). n ∷ bytes) same, spelled-last (bytes_form (length bytes)) (λ others. b ∷ others) bytes bytes (bytes-spelled bytes h.1))

-- ---- numbers

-- a counter that the largest script has
abbrev pub IsNumbered : Option ℕ → Type 0
IsNumbered None = Unit {0}
IsNumbered (Some c) = c < 64

pub counter-spelled : (o : Option ℕ) → IsNumbered o → IsSpelled counter_form o (written.counter o)
unfolding counter_form
counter-spelled None h = (255, [], omega arith, refl, refl, (refl, refl))
counter-spelled (Some c) h =
    let l : c < 64 = h in
    let apart : (c == 255) ≡ false = ne_eqb c 255 (λ e. omega (arith, e)) in
    (c, [], omega arith, or_left (nat_lt c 64) (c == 255) (lt-ltb c 64 l), refl, (sym (cond-false (c == 255) None (Some c) apart), refl))

pub range-spelled : (count at : ℕ) → at + count ≤ 65536 → IsSpelled (range_form count) at (written.four at)
unfolding range_form
range-spelled count at h = (at, [], omega arith, le-leb (at + count) 65536 h, sym (append-nil (written.four at)), (refl, refl))

pub word-spelled : (at : ℕ) → at + 4 ≤ 65536 → at % 4 ≡ 0 → IsSpelled word_form at (written.four at)
unfolding word_form
word-spelled at h a = (at, [], omega arith, and_from (at % 4 == 0) (nat_le at 65532) (eq-eqb (at % 4) 0 a) (le-leb at 65532 (omega arith)), sym (append-nil (written.four at)), (refl, refl))

-- ---- spans

-- it lies in the largest memory
abbrev pub IsWithin : Span → Type 0
IsWithin s = s.at + s.len ≤ 65536

pub span-spelled : (least most : ℕ) (s : Span) → IsWithin s → least ≤ s.len → s.len ≤ most → IsSpelled (span_form least most) s (written.span s)
unfolding span_form
span-spelled least most s h low high =
    let small : s.at % 2 ^ 32 ≡ s.at = omega (arith, h) in
    let kept = and_from (fits s.at s.len && nat_le least s.len) (nat_le s.len most) (and_from (fits s.at s.len) (nat_le least s.len) (le-leb (s.at + s.len) 65536 h) (le-leb least s.len low)) (le-leb s.len most high) in
    (s.at, written.four s.len, omega (arith, h), le-leb s.at 65536 (omega (arith, h)), ap (λ n. written.four n ++ written.four s.len) small, (s.len, [], omega (arith, h), kept, refl, (refl, refl)))

spans-cons : (s : Span) (ss : List Span) → written.span s ++ written.spans ss ≡ written.spans (s ∷ ss)
spans-cons s ss = sym (flat_map-cons written.span s ss)

bytes-cons : (s : Span) (ss : List Span) → bytes_in (s ∷ ss) ≡ s.len + bytes_in ss
bytes-cons s ss = sum_by-cons (λ (s : Span). s.len) s ss

-- spans one after another
repeated-spelled : {S : Type 0} (part : S → ℕ → Format Span) (next : S → Span → S) (state : S) (s : Span) (ss : List Span) → IsSpelled (part state (length ss)) s (written.span s) → IsSpelled (repeated part next (next state s) (length ss)) ss (written.spans ss) → IsSpelled (repeated part next state (length (s ∷ ss))) (s ∷ ss) (written.spans (s ∷ ss))
unfolding repeated
repeated-spelled part next state s ss one others =
    subst (λ (l : List ℕ). IsSpelled (repeated part next state (suc (length ss))) (s ∷ ss) l) (spans-cons s ss)
    (spelled-bind (part state (length ss)) (λ first. repeated part next (next state first) (length ss) >>= λ rest. Done (first ∷ rest)) s (s ∷ ss) (written.span s) (written.spans ss) one
    (spelled-last (repeated part next (next state s) (length ss)) (λ rest. s ∷ rest) ss (written.spans ss) others))

-- with a sum of at most a number
pub within-spelled : (left : ℕ) (ss : List Span) → AllByRecursion IsWithin ss → bytes_in ss ≤ left → IsSpelled (within_form left (length ss)) ss (written.spans ss)
unfolding repeated
within-spelled left [] h l = (refl, refl)
within-spelled left (s ∷ ss) h l =
    let e : bytes_in (s ∷ ss) ≡ s.len + bytes_in ss = bytes-cons s ss in
    let rest : bytes_in ss ≤ left - s.len = omega arith in
    let own : s.len ≤ left = omega arith in
    repeated-spelled within_span left_behind left s ss (span-spelled 0 left s h.0 (omega arith) own) (within-spelled (left - s.len) ss h.1 rest)

-- with a number as their sum
last-least : (left following len : ℕ) → (following ≡ 0 → left ≤ len) → cond (following == 0) left 0 ≤ len
last-least left zero len h = h refl
last-least left (suc following) len h = subst (λ (n : ℕ). n ≤ len) (sym (cond-false (suc following == 0) left 0 (ne_eqb (suc following) 0 (λ e. omega (arith, e))))) (omega arith)

pub covering-spelled : (left : ℕ) (ss : List Span) → AllByRecursion IsWithin ss → bytes_in ss ≡ left → IsSpelled (covering_form left (length ss)) ss (written.spans ss)
unfolding repeated
covering-spelled left [] h l = (refl, refl)
covering-spelled left (s ∷ ss) h l =
    let e : bytes_in (s ∷ ss) ≡ s.len + bytes_in ss = bytes-cons s ss in
    let rest : bytes_in ss ≡ left - s.len = omega arith in
    let own : s.len ≤ left = omega arith in
    repeated-spelled covering_span left_behind left s ss (span-spelled (cond (length ss == 0) left 0) left s h.0 (last-least left (length ss) s.len (λ none. let z : bytes_in ss ≡ 0 = no-bytes ss none in omega arith)) own) (covering-spelled (left - s.len) ss h.1 rest)
  where
    no-bytes : (xs : List Span) → length xs ≡ 0 → bytes_in xs ≡ 0
    no-bytes [] h = refl
    no-bytes (x ∷ xs) h = absurd (omega arith)

-- each as long as the other of its place
abbrev pub SameLengths : List Span → List Span → Type 0
SameLengths [] [] = Unit {0}
SameLengths (x ∷ xs) (y ∷ ys) = (x.len ≡ y.len) × SameLengths xs ys
SameLengths _ _ = ⊥

pub matching-spelled : (others ss : List Span) → AllByRecursion IsWithin ss → SameLengths others ss → IsSpelled (matching_form others) ss (written.spans ss)
unfolding repeated
matching-spelled [] [] h same = (refl, refl)
matching-spelled (o ∷ os) (s ∷ ss) h same =
    let count = same-count os ss same.1 in
    let own : o.len ≡ s.len = same.0 in
    subst (λ n. IsSpelled (repeated matching_span behind (o ∷ os) (suc n)) (s ∷ ss) (written.spans (s ∷ ss))) (sym count)
    (repeated-spelled matching_span behind (o ∷ os) s ss (span-spelled o.len o.len s h.0 (omega arith) (omega arith))
    (subst (λ n. IsSpelled (repeated matching_span behind os n) ss (written.spans ss)) count (matching-spelled os ss h.1 same.1)))
  where
    same-count : (xs ys : List Span) → SameLengths xs ys → length xs ≡ length ys
    same-count [] [] h = refl
    same-count (x ∷ xs) (y ∷ ys) h = ap suc (same-count xs ys h.1)
    same-count [] (y ∷ ys) h = absurd h
    same-count (x ∷ xs) [] h = absurd h
matching-spelled [] (s ∷ ss) h same = absurd same
matching-spelled (o ∷ os) [] h same = absurd same
