-- The open statements as a list of flags, and the least of them, as statements are begun and done.
use Rattle.std.proofs.Common.{◌≡◌, ℕ, ◌+◌, ◌*◌, ◌/◌, ◌%◌, ◌^◌, ◌<◌, ◌≤◌, ◌==◌, ◌↔◌, min, max, Bool, true, false, not, cond, ◌&&◌, ◌||◌, List, length, get_or, set, replicate, Option, Some, None, MatchOption, refl, sym, subst, ap, ◌∙◌, ⊎_elim, arith, bit_or, bit_and}
use Rattle.std.specs.Int.{w64, bit_not}
use lib.Dec.{leb}
use Rattle.std.proofs.lemmas.Bool.{cases_lt, cases_eq, eq-eqb, ne_eqb, le-leb, leb-true, both_ways}
use Rattle.std.proofs.lemmas.List.{length-set, get_or-set_same, get_or-set_other, get_or_past, ext_get_or, length-replicate, get_or-replicate}
use Rattle.lapi_base.specs.Record.Below.{has_bit}
use Rattle.lapi_base.proofs.BitLaws.{has_bit-zero}
use Rattle.lapi_base.proofs.UptoLaws.{length-over, over-at}
use Rattle.lapi_collect.specs.FlagWords.{is_in, IsLeastBetween}
use Rattle.lapi_collect.specs.Outstanding.{is_open, flags_of, IsLeast, IsOutstanding}
use Rattle.lapi_collect.proofs.Flags.{inserted, removed}

zero_at : (room i : ℕ) → get_or {A = ℕ} (replicate room 0) i 0 ≡ 0
zero_at room i =
    ⊎_elim
    (λ (lt : i < room). get_or-replicate room i 0 0 lt)
    (λ (ge : room ≤ i). get_or_past (replicate room 0) i 0 (omega (arith, length-replicate {A = ℕ} room 0)))
    (cases_lt i room)

pub length-flags : (n : ℕ) (words : List ℕ) → length (flags_of n words) ≡ n
unfolding flags_of
length-flags n words = length-over (is_in words) n

flag_of : (n : ℕ) (words : List ℕ) (k : ℕ) → k < n → is_open (flags_of n words) k ≡ is_in words k
unfolding flags_of
flag_of n words k lt = over-at (is_in words) n k false lt

pub open_is : (n : ℕ) (words : List ℕ) → ((k : ℕ) → n ≤ k → is_in words k ≡ false) → (k : ℕ) → is_open (flags_of n words) k ≡ is_in words k
open_is n words known k =
    ⊎_elim
    (λ (lt : k < n). flag_of n words k lt)
    (λ (ge : n ≤ k). get_or_past (flags_of n words) k false (omega (arith, length-flags n words)) ∙ sym (known k ge))
    (cases_lt k n)

flags_set : (n s : ℕ) (words words' : List ℕ) (value : Bool) → s < n → ((k : ℕ) → is_in words' k ≡ cond (k == s) value (is_in words k)) → flags_of n words' ≡ set (flags_of n words) s value
flags_set n s words words' value lt h =
    let long = length-flags n words in
    let long' = length-flags n words' in
    ext_get_or false (flags_of n words') (set (flags_of n words) s value) (omega (arith, length-set (flags_of n words) s value)) (λ k low.
    flag_of n words' k (omega arith)
    ∙ h k
    ∙ ⊎_elim
    (λ (e : k ≡ s).
    ap (λ b. cond b value (is_in words k)) (eq-eqb k s e) ∙ sym (ap (λ i. get_or (set (flags_of n words) s value) i false) e ∙ get_or-set_same (flags_of n words) s value false (omega arith)))
    (λ (ne : k ≡ s → ⊥).
    ap (λ b. cond b value (is_in words k)) (ne_eqb k s ne) ∙ sym (get_or-set_other (flags_of n words) s k value false ne ∙ flag_of n words k (omega arith)))
    (cases_eq k s))

or_cond : (a b : Bool) → (a || b) ≡ cond a true b
or_cond true b = refl
or_cond false b = refl

and_cond : (a b : Bool) → (not a && b) ≡ cond a false b
and_cond true b = refl
and_cond false b = refl

and_false : (a : Bool) → (a && false) ≡ false
and_false true = refl
and_false false = refl

no_flag : (room k : ℕ) → is_in (replicate room 0) k ≡ false
unfolding is_in
no_flag room k = ap (λ w. has_bit w (k % 64)) (zero_at room (k / 64)) ∙ has_bit-zero (k % 64)

-- the least of the open statements, once one more is begun
least_begun : (p q : ℕ → Bool) (least : Option ℕ) (s r : ℕ) → IsLeast p least → MatchOption least (r ≡ s) (λ l. r ≡ min l s) → ((k : ℕ) → q k ≡ (k == s || p k)) → IsLeast q (Some r)
least_begun p q None s r none e h =
    (h r ∙ ap (λ b. b || p r) (eq-eqb r s e), λ n lt. h n ∙ ap (λ b. b || p n) (ne_eqb n s (λ x. omega arith)) ∙ none n)
least_begun p q (Some l) s r some e h = (
  ⊎_elim
      (λ (lt : l < s).
      let same : r ≡ l = omega arith in
      ap q same ∙ h l ∙ ap (λ b. b || p l) (ne_eqb l s (λ x. omega arith)) ∙ some.0)
      (λ (ge : s ≤ l). h r ∙ ap (λ b. b || p r) (eq-eqb r s (omega arith)))
      (cases_lt l s),
  λ n lt. h n ∙ ap (λ b. b || p n) (ne_eqb n s (λ x. omega arith)) ∙ some.1 n (omega arith),
)

-- and once one of them is done
least_done : (p q : ℕ → Bool) (least : Option ℕ) (s : ℕ) → IsLeast p least → (least ≡ Some s → ⊥) → ((k : ℕ) → q k ≡ (not (k == s) && p k)) → IsLeast q least
least_done p q None s none other h = λ n. h n ∙ ap (λ b. not (n == s) && b) (none n) ∙ and_false (not (n == s))
least_done p q (Some l) s some other h = (
  h l ∙ ap (λ b. not b && p l) (ne_eqb l s (λ e. other (ap Some e))) ∙ some.0,
  λ n lt. h n ∙ ap (λ b. not (n == s) && b) (some.1 n lt) ∙ and_false (not (n == s)),
)

-- the least one is sought from the word of the last least one on
least_sought : (words : List ℕ) (s used : ℕ) (least : Option ℕ) → ((n : ℕ) → n < s → is_in words n ≡ false) → is_in words s ≡ false → ((n : ℕ) → 64 * used ≤ n → is_in words n ≡ false) → IsLeastBetween words (s / 64) used least → IsLeast (is_in words) least
least_sought words s used None low here high none = λ n.
    ⊎_elim
    (λ (lt : n < s). low n lt)
    (λ (ge : s ≤ n).
    ⊎_elim
    (λ (inside : n < 64 * used). none n (omega arith) inside)
    (λ (above : 64 * used ≤ n). high n above)
    (cases_lt n (64 * used)))
    (cases_lt n s)
least_sought words s used (Some least) low here high some =
    (some.2, λ n lt. ⊎_elim (λ (below : n < s). low n below) (λ (ge : s ≤ n). some.3 n (omega arith) lt) (cases_lt n s))

-- where a statement's flag stands
pub in_room : (n s : ℕ) (words : List ℕ) (flags : List Bool) → flags_of n words ≡ flags → n ≤ 64 * length words → s < length flags → (s < n) × (s / 64 < length words)
in_room n s words flags e room lt =
    let long = length-flags n words in
    let same = ap length e in
    (omega arith, omega arith)

-- What begin and done leave, where the set of flags changes by one statement.
pub flags_begun : (n s word : ℕ) (words : List ℕ) → s < n → s / 64 < length words → word ≡ get_or words (s / 64) 0 → flags_of n (set words (s / 64) (bit_or word (1 * 2 ^ (s % 64) % 2 ^ 64))) ≡ set (flags_of n words) s true
flags_begun n s word words lt within read =
    ap (λ w. flags_of n (set words (s / 64) (bit_or w (1 * 2 ^ (s % 64) % 2 ^ 64)))) read
    ∙ flags_set n s words (set words (s / 64) (bit_or (get_or words (s / 64) 0) (1 * 2 ^ (s % 64) % 2 ^ 64))) true lt (λ k. inserted words s within k ∙ or_cond (k == s) (is_in words k))

pub flags_done : (n s word : ℕ) (words : List ℕ) → s < n → s / 64 < length words → word ≡ get_or words (s / 64) 0 → flags_of n (set words (s / 64) (bit_and word (bit_not w64 (1 * 2 ^ (s % 64) % 2 ^ 64)))) ≡ set (flags_of n words) s false
flags_done n s word words lt within read =
    ap (λ w. flags_of n (set words (s / 64) (bit_and w (bit_not w64 (1 * 2 ^ (s % 64) % 2 ^ 64))))) read
    ∙ flags_set n s words (set words (s / 64) (bit_and (get_or words (s / 64) 0) (bit_not w64 (1 * 2 ^ (s % 64) % 2 ^ 64)))) false lt (λ k. removed words s within k ∙ and_cond (k == s) (is_in words k))

pub begun : (n used used' s r word : ℕ) (words : List ℕ) (least : Option ℕ) → IsOutstanding n words used least → s < n → s / 64 < length words → word ≡ get_or words (s / 64) 0 → used' ≡ max used (s / 64 + 1) → MatchOption least (r ≡ s) (λ l. r ≡ min l s) → IsOutstanding n (set words (s / 64) (bit_or word (1 * 2 ^ (s % 64) % 2 ^ 64))) used' (Some r)
begun n used used' s r word words least kept lt within read more lower =
    let h = inserted words s within in
    let after : List ℕ = set words (s / 64) (bit_or (get_or words (s / 64) 0) (1 * 2 ^ (s % 64) % 2 ^ 64)) in
    let len = length-set words (s / 64) (bit_or (get_or words (s / 64) 0) (1 * 2 ^ (s % 64) % 2 ^ 64)) in
    let room = kept.room in
    let front = kept.used_words in
    let result : IsOutstanding n after used' (Some r) = record {
      room = (omega arith, omega arith);
      known = λ k ge. h k ∙ ap (λ b. b || is_in words k) (ne_eqb k s (λ e. omega arith)) ∙ kept.known k ge;
      used_words = omega arith;
      unused = λ k ge. h k ∙ ap (λ b. b || is_in words k) (ne_eqb k s (λ e. omega arith)) ∙ kept.unused k (omega arith);
      least_open = least_begun (is_in words) (is_in after) least s r kept.least_open lower h;
    } in
    subst (λ w. IsOutstanding n (set words (s / 64) (bit_or w (1 * 2 ^ (s % 64) % 2 ^ 64))) used' (Some r)) (sym read) result

finished : (n used s : ℕ) (words : List ℕ) (least least' : Option ℕ) → IsOutstanding n words used least → s / 64 < length words → IsLeast (is_in (set words (s / 64) (bit_and (get_or words (s / 64) 0) (bit_not w64 (1 * 2 ^ (s % 64) % 2 ^ 64))))) least' → IsOutstanding n (set words (s / 64) (bit_and (get_or words (s / 64) 0) (bit_not w64 (1 * 2 ^ (s % 64) % 2 ^ 64)))) used least'
finished n used s words least least' kept within sought =
    let h = removed words s within in
    let len = length-set words (s / 64) (bit_and (get_or words (s / 64) 0) (bit_not w64 (1 * 2 ^ (s % 64) % 2 ^ 64))) in
    let room = kept.room in
    let front = kept.used_words in
    record {
      room = (omega arith, omega arith);
      known = λ k ge. h k ∙ ap (λ b. not (k == s) && b) (kept.known k ge) ∙ and_false (not (k == s));
      used_words = omega arith;
      unused = λ k ge. h k ∙ ap (λ b. not (k == s) && b) (kept.unused k ge) ∙ and_false (not (k == s));
      least_open = sought;
    }

pub another_done : (n used s word : ℕ) (words : List ℕ) (least : Option ℕ) → IsOutstanding n words used least → s / 64 < length words → word ≡ get_or words (s / 64) 0 → (least ≡ Some s → ⊥) → IsOutstanding n (set words (s / 64) (bit_and word (bit_not w64 (1 * 2 ^ (s % 64) % 2 ^ 64)))) used least
another_done n used s word words least kept within read other =
    subst (λ w. IsOutstanding n (set words (s / 64) (bit_and w (bit_not w64 (1 * 2 ^ (s % 64) % 2 ^ 64)))) used least) (sym read)
    (finished n used s words least least kept within (least_done (is_in words) _ least s kept.least_open other (removed words s within)))

pub least_one_done : (n used s word : ℕ) (words : List ℕ) (least least' : Option ℕ) → IsOutstanding n words used least → s / 64 < length words → word ≡ get_or words (s / 64) 0 → least ≡ Some s → IsLeastBetween (set words (s / 64) (bit_and word (bit_not w64 (1 * 2 ^ (s % 64) % 2 ^ 64)))) (s / 64) used least' → IsOutstanding n (set words (s / 64) (bit_and word (bit_not w64 (1 * 2 ^ (s % 64) % 2 ^ 64)))) used least'
least_one_done n used s word words least least' kept within read this sought =
    let after : List ℕ = set words (s / 64) (bit_and (get_or words (s / 64) 0) (bit_not w64 (1 * 2 ^ (s % 64) % 2 ^ 64))) in
    let h : (k : ℕ) → is_in after k ≡ (not (k == s) && is_in words k) = removed words s within in
    let was : IsLeast (is_in words) (Some s) = subst (λ o. IsLeast (is_in words) o) this kept.least_open in
    let found : IsLeastBetween after (s / 64) used least' = subst (λ w. IsLeastBetween (set words (s / 64) (bit_and w (bit_not w64 (1 * 2 ^ (s % 64) % 2 ^ 64)))) (s / 64) used least') read sought in
    subst (λ w. IsOutstanding n (set words (s / 64) (bit_and w (bit_not w64 (1 * 2 ^ (s % 64) % 2 ^ 64)))) used least') (sym read)
    (finished n used s words least least' kept within
    (least_sought after s used least'
    (λ k lt. h k ∙ ap (λ b. not (k == s) && b) (was.1 k lt) ∙ and_false (not (k == s)))
    (h s ∙ ap (λ b. not b && is_in words s) (eq-eqb s s refl))
    (λ k ge. h k ∙ ap (λ b. not (k == s) && b) (kept.unused k ge) ∙ and_false (not (k == s)))
    found))

-- nothing was begun
pub none_begun : (n room : ℕ) → n ≤ 64 * room → room ≤ 67108864 → IsOutstanding n (replicate room 0) 0 None
none_begun n room enough small =
    let none = no_flag room in
    let len = length-replicate {A = ℕ} room 0 in
    record {
      room = (omega arith, omega arith);
      known = λ k ge. none k;
      used_words = omega arith;
      unused = λ k ge. none k;
      least_open = none;
    }

pub flags_none : (n room : ℕ) → flags_of n (replicate room 0) ≡ replicate n false
flags_none n room =
    let long = length-flags n (replicate room 0) in
    ext_get_or false (flags_of n (replicate room 0)) (replicate n false) (omega (arith, length-replicate n false)) (λ k lt.
    flag_of n (replicate room 0) k (omega arith) ∙ no_flag room k ∙ sym (get_or-replicate n k false false (omega arith)))

-- the question of a fence
pub clear_where_least : (n used s least : ℕ) (words : List ℕ) → IsOutstanding n words used (Some least) → (leb s least ≡ true) ↔ ((k : ℕ) → k < s → is_open (flags_of n words) k ≡ false)
clear_where_least n used s least words kept =
    let is = open_is n words kept.known in (
      λ e k lt. is k ∙ kept.least_open.1 k (let l = leb-true s least e in omega arith),
      λ clear.
          ⊎_elim
          (λ (lt : least < s). absurd (both_ways (is_in words least) (sym (is least) ∙ clear least lt) kept.least_open.0))
          (λ (ge : s ≤ least). le-leb s least ge)
          (cases_lt least s),
    )

pub clear_where_none : (n used : ℕ) (words : List ℕ) → IsOutstanding n words used None → (k : ℕ) → is_open (flags_of n words) k ≡ false
clear_where_none n used words kept k = open_is n words kept.known k ∙ kept.least_open k
