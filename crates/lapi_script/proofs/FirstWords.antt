-- The first word of a line.
use Rattle.std.proofs.Common.{◌≡◌, ℕ, ◌<◌, ◌==◌, true, false, List, [], ◌∷◌, ◌++◌, length, filter, refl, sym, ap, ◌∙◌, subst, arith}
use Rattle.std.specs.Prelude.{Bool, nat_lt, cond}
use Rattle.std.specs.List.{slice_split, onto_first, list_all}
use Rattle.std.proofs.lemmas.Bool.{and_parts, eqb-true, lt-ltb, ne_eqb}
use Rattle.lapi_base.specs.Input.Lines.{words_of, is_remark, is_skipped}
use Rattle.lapi_script.specs.Left.{BeginsWord}
use Rattle.lapi_script.proofs.Splits.{some_parts}

-- a space before a text adds no word
pub space_skipped : (bytes rest after : List ℕ) (b : ℕ) → rest ≡ b ∷ after → b ≡ 32 → words_of rest ≡ words_of bytes → words_of after ≡ words_of bytes
space_skipped bytes rest after b is space so_far =
    let one : words_of (32 ∷ after) ≡ words_of after = refl in
    sym one ∙ ap (λ c. words_of (c ∷ after)) (sym space) ∙ ap words_of (sym is) ∙ so_far

spaces_skipped : (block after : List ℕ) → list_all (λ b. b == 32) block ≡ true → words_of (block ++ after) ≡ words_of after
spaces_skipped [] after blank = refl
spaces_skipped (b ∷ block) after blank =
    let parts = and_parts (b == 32) _ blank in
    let one : words_of (32 ∷ (block ++ after)) ≡ words_of (block ++ after) = refl in
    ap (λ c. words_of (c ∷ (block ++ after))) (eqb-true b 32 parts.0) ∙ one ∙ spaces_skipped block after parts.1

pub blank_skipped : (bytes rest block after : List ℕ) → rest ≡ block ++ after → list_all (λ b. b == 32) block ≡ true → words_of rest ≡ words_of bytes → words_of after ≡ words_of bytes
blank_skipped bytes rest block after is blank so_far = sym (ap words_of is ∙ spaces_skipped block after blank) ∙ so_far

pub begins : (rest after : List ℕ) (b : ℕ) → rest ≡ b ∷ after → (b ≡ 32 → ⊥) → BeginsWord rest
begins rest after b is other = subst BeginsWord (sym is) (ne_eqb b 32 other)

pub none_left : (bytes rest : List ℕ) → rest ≡ [] → words_of rest ≡ words_of bytes → words_of bytes ≡ []
none_left bytes rest none so_far = sym so_far ∙ ap words_of none

-- a part with a byte is a word
is_kept : (b : ℕ) (part : List ℕ) (parts : List (List ℕ)) → filter (λ word. nat_lt 0 (length word)) ((b ∷ part) ∷ parts) ≡ (b ∷ part) ∷ filter (λ word. nat_lt 0 (length word)) parts
is_kept b part parts =
    let kept : List (List ℕ) = filter (λ word. nat_lt 0 (length word)) parts in
    ap (λ v. cond v ((b ∷ part) ∷ kept) kept) (lt-ltb 0 (length (b ∷ part)) (omega arith))

abbrev first_kept : List (List ℕ) → List (List ℕ)
first_kept [] = []
first_kept (x ∷ xs) = x ∷ filter (λ word. nat_lt 0 (length word)) xs

-- what begins with no space begins with a word
begins-there : (b : ℕ) (rest word : List ℕ) (more : List (List ℕ)) → (b == 32) ≡ false → slice_split (λ b. b == 32) (b ∷ rest) ≡ word ∷ more → words_of (b ∷ rest) ≡ word ∷ filter (λ word. nat_lt 0 (length word)) more
begins-there b rest word more other parts =
    let p : ℕ → Bool = λ b. b == 32 in
    let behind = some_parts p rest in
    let split : slice_split p (b ∷ rest) ≡ (b ∷ behind.0) ∷ behind.1 =
    ap (λ v. cond v ([] ∷ slice_split p rest) (onto_first b (slice_split p rest))) other ∙ ap (onto_first b) behind.2 in
    ap (filter (λ word. nat_lt 0 (length word))) split ∙ is_kept b behind.0 behind.1 ∙ ap first_kept (sym split ∙ parts)

pub word_first : (bytes rest word : List ℕ) (more : List (List ℕ)) → words_of rest ≡ words_of bytes → BeginsWord rest → 0 < length rest → slice_split (λ b. b == 32) rest ≡ word ∷ more → words_of bytes ≡ word ∷ filter (λ word. nat_lt 0 (length word)) more
word_first bytes [] word more same first some parts = absurd (omega (arith, some))
word_first bytes (b ∷ rest) word more same first some parts = sym same ∙ begins-there b rest word more first parts

-- a line that begins with # is a remark
remark-there : (rest : List ℕ) → is_skipped (words_of (35 ∷ rest)) ≡ true
remark-there rest =
    let behind = some_parts (λ b. b == 32) rest in
    ap (λ parts. is_skipped (filter (λ word. nat_lt 0 (length word)) (onto_first 35 parts))) behind.2 ∙ ap is_skipped (is_kept 35 behind.0 behind.1)

pub remark_skipped : (line : List ℕ) → is_remark line ≡ true → is_skipped (words_of line) ≡ true
remark_skipped [] is = refl
remark_skipped (b ∷ rest) is = subst (λ c. is_skipped (words_of (c ∷ rest)) ≡ true) (sym (eqb-true b 35 is)) (remark-there rest)
