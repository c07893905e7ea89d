-- The words of a statement's or a worker's number and of a leg are read as what they stand for, and only there.
use Rattle.std.proofs.Common.{◌≡◌, ℕ, List, [], ◌∷◌, ◌++◌, sym, true, false, cond, arith, Some, None, Option, inl, inr, subst, refl}
use Rattle.std.specs.Prelude.{◌==◌, codes, ◌⊎◌, option_map}
use Rattle.std.specs.List.{slice_split, join_with_byte}
use Rattle.std.proofs.lemmas.Option.{none-some, same_Some}
use Rattle.std.proofs.lemmas.List.Splits.{slice_split_none, slice_split_at, join_with_byte-slice_split}
use Rattle.lapi_base.specs.declared.message.Leg.{Leg}
use Rattle.lapi_base.specs.declared.message.Leg.TheVariants.{Go, Back, Note, Echo, Join}
use Rattle.lapi_base.specs.Input.Tokens.{IsDotted, IsLegText, same_text, number_of, only_part, dotted_of, join_of, leg_of}
use Rattle.lapi_text.proofs.Numbers.{number_says, number_read}
use Rattle.lapi_text.proofs.Parts.{same_text_is, map_some, chosen, first_says, only_says, number_avoids}

pub dotted_says : (word : List ℕ) (x : ℕ × ℕ) → dotted_of word ≡ Some x → IsDotted x word
unfolding dotted_of
dotted_says word x e =
    let f = first_says number_of _ (slice_split (λ b. b == 46) word) x e in
    let n = map_some _ (only_part number_of f.1) x f.5 in
    let only = only_says number_of f.1 n.0 n.1 in
    let whole : f.0 ++ 46 ∷ only.0 ≡ word = subst (λ ps. join_with_byte 46 (f.0 ∷ ps) ≡ word) only.1 (subst (λ ps. join_with_byte 46 ps ≡ word) f.3 (join_with_byte-slice_split 46 word)) in
    subst (λ x. IsDotted x word) n.2 (f.0, only.0, number_says f.0 f.2 f.4, number_says only.0 n.0 only.2, sym whole)

pub dotted_read : (word : List ℕ) (x : ℕ × ℕ) → IsDotted x word → dotted_of word ≡ Some x
unfolding dotted_of
dotted_read word x (t, s, ist, iss, e) =
    rw (
      e,
      slice_split_at (λ b. b == 46) t 46 s (number_avoids t x.0 46 ist (inl (omega arith))) refl,
      slice_split_none (λ b. b == 46) s (number_avoids s x.1 46 iss (inl (omega arith))),
      number_read t x.0 ist,
      number_read s x.1 iss,
    ) refl

-- ---- legs

join_says : (word : List ℕ) (parts : List (List ℕ)) (leg : Leg) → join_with_byte 45 parts ≡ word → join_of parts ≡ Some leg → IsLegText leg word
join_says word [] leg joined e = absurd (none-some leg e)
join_says word (first ∷ parts) leg joined e = at (chosen _ _ _ _ e)
  where
    at : ((same_text first (codes "join") ≡ true) × (option_map (λ d. Join d) (only_part number_of parts) ≡ Some leg)) ⊎ ((same_text first (codes "join") ≡ false) × (None ≡ Some leg)) → IsLegText leg word
    at (inl h) =
        let n = map_some _ (only_part number_of parts) leg h.1 in
        let only = only_says number_of parts n.0 n.1 in
        let whole : first ++ 45 ∷ only.0 ≡ word = subst (λ ps. join_with_byte 45 (first ∷ ps) ≡ word) only.1 joined in
        let named : codes "join-" ++ only.0 ≡ word = subst (λ f. f ++ 45 ∷ only.0 ≡ word) (same_text_is first (codes "join") h.0) whole in
        subst (λ l. IsLegText l word) n.2 (only.0, number_says only.0 n.0 only.2, sym named)
    at (inr h) = absurd (none-some leg h.1)

-- one word of a choice, or the others
word_or : (word text : List ℕ) (this leg : Leg) (others : Option Leg) → IsLegText this text → (others ≡ Some leg → IsLegText leg word) → cond (same_text word text) (Some this) others ≡ Some leg → IsLegText leg word
word_or word text this leg others is more e = at (chosen _ _ _ _ e)
  where
    at : ((same_text word text ≡ true) × (Some this ≡ Some leg)) ⊎ ((same_text word text ≡ false) × (others ≡ Some leg)) → IsLegText leg word
    at (inl h) = subst (λ l. IsLegText l word) (same_Some this leg h.1) (subst (λ w. IsLegText this w) (sym (same_text_is word text h.0)) is)
    at (inr h) = more h.1

pub leg_says : (word : List ℕ) (leg : Leg) → leg_of word ≡ Some leg → IsLegText leg word
unfolding leg_of
leg_says word leg e =
    word_or word (codes "go") Go leg _ refl
    (word_or word (codes "back") Back leg _ refl
    (word_or word (codes "note") Note leg _ refl (word_or word (codes "echo") Echo leg _ refl (join_says word (slice_split (λ b. b == 45) word) leg (join_with_byte-slice_split 45 word))))) e

pub leg_read : (word : List ℕ) (leg : Leg) → IsLegText leg word → leg_of word ≡ Some leg
unfolding leg_of
leg_read word Go is = rw is refl
leg_read word Back is = rw is refl
leg_read word Note is = rw is refl
leg_read word Echo is = rw is refl
leg_read word (Join d) (n, isn, e) = rw (e, slice_split_none (λ b. b == 45) n (number_avoids n d 45 isn (inl (omega arith))), number_read n d isn) refl
