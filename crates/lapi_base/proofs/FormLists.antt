-- Bytes read at once, and parts read one after another.
use Rattle.std.proofs.Common.{◌≡◌, ℕ, zero, suc, ◌+◌, ◌-◌, ◌*◌, ◌%◌, cond, ltb, List, [], ◌∷◌, ◌++◌, length, take, drop, Result, Ok, Err, refl, sym, ap, subst, ◌∙◌, append_assoc, arith, inl, inr}
use Rattle.std.proofs.lemmas.Bool.{cases_lt, lt-ltb, le-ltb}
use Rattle.std.proofs.lemmas.List.{append-nil}
use Rattle.lapi_base.specs.declared.reply.Reason.{Reason}
use Rattle.lapi_base.specs.declared.reply.Reason.TheVariants as reasons
use Rattle.lapi_base.specs.Packet.Format.{One, Format, Done, ◌>>=◌, any, bytes_form, repeated, and_then, number_at, reading}
use Rattle.lapi_base.proofs.FormLaws.{read_bind, AtMost, at_most_bind, Written, written_bind, Always, always_bind, always_spelled}

-- ---- bytes

one_number : (b : ℕ) (bytes : List ℕ) → number_at One (b ∷ bytes) ≡ Ok (b, bytes)
one_number b bytes = rw (le-ltb (length (b ∷ bytes)) 1 (omega arith)) refl

-- so many bytes, or too few of them
abbrev pub some_bytes : ℕ → List ℕ → Result (List ℕ × List ℕ) (ℕ × Reason)
some_bytes count bytes = cond (ltb (length bytes) count) (Err (0, reasons.Short)) (Ok (take count bytes, drop count bytes))

pub read_bytes : (count : ℕ) (bytes : List ℕ) → reading (bytes_form count) bytes ≡ some_bytes count bytes
unfolding bytes_form
read_bytes zero bytes = rw (le-ltb (length bytes) 0 (omega arith)) refl
read_bytes (suc count) [] = rw (lt-ltb 0 (suc count) (omega arith)) refl
read_bytes (suc count) (b ∷ bytes) =
    let others = λ (n : ℕ). bytes_form count >>= λ more. Done (n ∷ more) in
    let first : reading (any One >>= others) (b ∷ bytes) ≡ reading (others b) bytes = rw (one_number b bytes) refl in
    let next = read_bind (bytes_form count) (λ more. Done (b ∷ more)) bytes in
    let ih = read_bytes count bytes in
    elim (cases_lt (length bytes) count) [
      | inl lt ↦ first ∙ next ∙ rw (ih, lt-ltb (length bytes) count lt, lt-ltb (length (b ∷ bytes)) (suc count) (omega arith)) refl
      | inr le ↦ first ∙ next ∙ rw (ih, le-ltb (length bytes) count le, le-ltb (length (b ∷ bytes)) (suc count) (omega arith)) refl
    ]

pub at_most_bytes : (count : ℕ) → AtMost count (bytes_form count)
unfolding bytes_form
at_most_bytes zero = tt
at_most_bytes (suc count) = (
  omega arith,
  λ b lt kept.
      let m : count + 0 ≡ suc count - 1 = omega arith in
      subst (λ (k : ℕ). AtMost k (bytes_form count >>= λ more. Done (b ∷ more))) m (at_most_bind (bytes_form count) (λ more. Done (b ∷ more)) count 0 (at_most_bytes count) (λ x bytes s. tt)),
)

abbrev pub as_is : List ℕ → List ℕ
as_is bytes = bytes

pub written_bytes : (count : ℕ) → Written (bytes_form count) [] as_is
unfolding bytes_form
written_bytes zero = refl
written_bytes (suc count) = λ b lt kept.
    written_bind (bytes_form count) (λ more. Done (b ∷ more)) (b % 256 ∷ []) as_is as_is (written_bytes count)
    (λ more bytes s. let e : b ≡ b % 256 = omega arith in ap (λ (n : ℕ). n ∷ more) e)

pub count_bytes : (count : ℕ) → Always (λ bytes. length bytes ≡ count) (bytes_form count)
unfolding bytes_form
count_bytes zero = refl
count_bytes (suc count) = λ b lt kept.
    always_bind (λ bytes. length bytes ≡ suc count) (bytes_form count) (λ more. Done (b ∷ more))
    (λ more bytes s. let e : length more ≡ count = always_spelled (λ (l : List ℕ). length l ≡ count) (bytes_form count) more bytes (count_bytes count) s in ap suc e)

-- ---- parts

pub at_most_repeated : {S A : Type 0} (part : S → ℕ → Format A) (next : S → A → S) (size : ℕ) → ((state : S) (following : ℕ) → AtMost size (part state following))
    → (state : S) (count : ℕ) → AtMost (count * size) (repeated part next state count)
unfolding repeated
at_most_repeated part next size each state zero = tt
at_most_repeated part next size each state (suc count) =
    let whole : size + (count * size + 0) ≡ suc count * size = omega arith in
    subst (λ (k : ℕ). AtMost k (repeated part next state (suc count))) whole
    (at_most_bind (part state count) (λ first. repeated part next (next state first) count >>= λ others. Done (first ∷ others)) size (count * size + 0) (each state count)
    (λ first bytes s. at_most_bind (repeated part next (next state first) count) (λ others. Done (first ∷ others)) (count * size) 0 (at_most_repeated part next size each (next state first) count) (λ others bytes' s'. tt)))

pub written_repeated : {S A : Type 0} (part : S → ℕ → Format A) (next : S → A → S) (one : A → List ℕ) (all : List A → List ℕ)
    → all [] ≡ [] → ((x : A) (xs : List A) → all (x ∷ xs) ≡ one x ++ all xs)
    → ((state : S) (following : ℕ) → Written (part state following) [] one) → (state : S) (count : ℕ) → Written (repeated part next state count) [] all
unfolding repeated
written_repeated part next one all none more each state zero = none
written_repeated part next one all none more each state (suc count) =
    written_bind (part state count) (λ first. repeated part next (next state first) count >>= λ others. Done (first ∷ others)) [] one all (each state count)
    (λ first bytes s. written_bind (repeated part next (next state first) count) (λ others. Done (first ∷ others)) ([] ++ one first) all all
    (written_repeated part next one all none more each (next state first) count) (λ others bytes' s'. more first others))

pub count_repeated : {S A : Type 0} (part : S → ℕ → Format A) (next : S → A → S) (state : S) (count : ℕ) → Always (λ xs. length xs ≡ count) (repeated part next state count)
unfolding repeated
count_repeated part next state zero = refl
count_repeated part next state (suc count) =
    always_bind (λ xs. length xs ≡ suc count) (part state count) (λ first. repeated part next (next state first) count >>= λ others. Done (first ∷ others))
    (λ first bytes s. always_bind (λ xs. length xs ≡ suc count) (repeated part next (next state first) count) (λ others. Done (first ∷ others))
    (λ others bytes' s'. ap suc (always_spelled (λ xs. length xs ≡ count) (repeated part next (next state first) count) others bytes' (count_repeated part next (next state first) count) s')))

-- ---- a loop over parts

-- the parts that were read before, and those that are still read
abbrev pub with_front : {A : Type 0} → List A → Result (List A × List ℕ) (ℕ × Reason) → Result (List A × List ℕ) (ℕ × Reason)
with_front front rest = and_then rest (λ x. Ok (front ++ x.0, x.1))

regroup : {A : Type 0} (front : List A) (x : A) (r : Result (List A × List ℕ) (ℕ × Reason)) → with_front front (and_then r (λ y. Ok (x ∷ y.0, y.1))) ≡ with_front (front ++ x ∷ []) r
regroup front x (Ok y) = ap (λ l. Ok (l, y.1)) (simp append_assoc)
regroup front x (Err e) = refl

nothing_before : {A : Type 0} (r : Result (List A × List ℕ) (ℕ × Reason)) → with_front [] r ≡ r
nothing_before (Ok x) = refl
nothing_before (Err e) = refl

each_then : {A B : Type 0} (r : Result (A × List ℕ) (ℕ × Reason)) (f g : A × List ℕ → Result B (ℕ × Reason)) → ((x : A × List ℕ) → f x ≡ g x) → and_then r f ≡ and_then r g
each_then (Ok x) f g each = each x
each_then (Err e) f g each = refl

one_more : {S A : Type 0} (part : S → ℕ → Format A) (next : S → A → S) (state : S) (count : ℕ) (bytes : List ℕ)
    → reading (repeated part next state (suc count)) bytes ≡ and_then (reading (part state count) bytes) (λ x. and_then (reading (repeated part next (next state x.0) count) x.1) (λ y. Ok (x.0 ∷ y.0, y.1)))
unfolding repeated
one_more part next state count bytes =
    read_bind (part state count) (λ first. repeated part next (next state first) count >>= λ others. Done (first ∷ others)) bytes
    ∙ each_then (reading (part state count) bytes) (λ x. reading (repeated part next (next state x.0) count >>= λ others. Done (x.0 ∷ others)) x.1)
    (λ x. and_then (reading (repeated part next (next state x.0) count) x.1) (λ y. Ok (x.0 ∷ y.0, y.1)))
    (λ x. read_bind (repeated part next (next state x.0) count) (λ others. Done (x.0 ∷ others)) x.1)

-- Nothing was read before.
pub begins : {S A : Type 0} (part : S → ℕ → Format A) (next : S → A → S) (state : S) (count following : ℕ) (bytes : List ℕ)
    → following ≡ count → with_front [] (reading (repeated part next state following) bytes) ≡ reading (repeated part next state count) bytes
begins part next state count following bytes same = ap (λ (n : ℕ). with_front [] (reading (repeated part next state n) bytes)) same ∙ nothing_before (reading (repeated part next state count) bytes)

-- One part more was read, and the others are still read.
pub goes_on : {S A : Type 0} (part : S → ℕ → Format A) (next : S → A → S) (state : S) (count following : ℕ) (front : List A) (bytes : List ℕ) (x : A) (after : List ℕ) (total : Result (List A × List ℕ) (ℕ × Reason))
    → count ≡ suc following → reading (part state following) bytes ≡ Ok (x, after)
    → with_front front (reading (repeated part next state count) bytes) ≡ total → with_front (front ++ x ∷ []) (reading (repeated part next (next state x) following) after) ≡ total
goes_on part next state count following front bytes x after total more here so_far =
    let r = reading (repeated part next (next state x) following) after in
    let one : reading (repeated part next state count) bytes ≡ and_then r (λ y. Ok (x ∷ y.0, y.1)) = rw more (one_more part next state following bytes ∙ rw here refl) in
    sym (regroup front x r) ∙ ap (with_front front) (sym one) ∙ so_far

-- The next part isn't there, so the whole isn't.
pub ends : {S A : Type 0} (part : S → ℕ → Format A) (next : S → A → S) (state : S) (count following : ℕ) (front : List A) (bytes : List ℕ) (fault : ℕ × Reason) (total : Result (List A × List ℕ) (ℕ × Reason))
    → count ≡ suc following → reading (part state following) bytes ≡ Err fault
    → with_front front (reading (repeated part next state count) bytes) ≡ total → total ≡ Err fault
ends part next state count following front bytes fault total more here so_far =
    let one : reading (repeated part next state count) bytes ≡ Err fault = rw more (one_more part next state following bytes ∙ rw here refl) in
    sym so_far ∙ ap (with_front front) one

-- No part is left.
pub is_done : {S A : Type 0} (part : S → ℕ → Format A) (next : S → A → S) (state : S) (count : ℕ) (front : List A) (bytes : List ℕ) (total : Result (List A × List ℕ) (ℕ × Reason))
    → count ≡ 0 → with_front front (reading (repeated part next state count) bytes) ≡ total → total ≡ Ok (front, bytes)
unfolding repeated
is_done part next state count front bytes total none so_far =
    let one : reading (repeated part next state count) bytes ≡ Ok ([], bytes) = rw none refl in
    sym so_far ∙ ap (with_front front) one ∙ ap (λ l. Ok (l, bytes)) (append-nil front)
