-- Short remarks at the front of a text.
use Rattle.std.proofs.Common.{◌≡◌, ℕ, zero, suc, ◌+◌, ◌<◌, ◌≤◌, ◌==◌, ◌&&◌, true, false, List, [], ◌∷◌, length, take, drop, refl, sym, ap, ◌∙◌, arith}
use Rattle.std.specs.Prelude.{cond, nat_le, slice_index_or}
use Rattle.std.specs.List.{slice_split, onto_first}
use Rattle.std.proofs.lemmas.Bool.{and_parts, and_from, leb-true, le-leb, ne_eqb}
use Rattle.std.proofs.lemmas.List.{take_more}
use Rattle.std.proofs.lemmas.List.Folds.{list_all-append}
use Rattle.lapi_base.specs.Input.Lines.{is_clean, is_remark}
use Rattle.lapi_script.specs.Left.{IsBehindRemark}
use Rattle.lapi_script.proofs.Splits.{more_lines}

no_end : (b : ℕ) → (nat_le 32 b && nat_le b 126) ≡ true → (b == 10) ≡ false
no_end b clean = let low : 32 ≤ b = leb-true 32 b (and_parts _ _ clean).0 in ne_eqb b 10 (λ e. absurd (omega (arith, low, e)))

-- clean bytes up to a line feed are the first line
line_there : (bytes : List ℕ) (n : ℕ) → n < length bytes → is_clean (take n bytes) ≡ true → slice_index_or bytes n 0 ≡ 10
    → slice_split (λ b. b == 10) bytes ≡ take n bytes ∷ slice_split (λ b. b == 10) (drop (suc n) bytes)
line_there [] n lt clean end = absurd (omega (arith, lt))
line_there (b ∷ bytes) zero lt clean end = ap (λ x. slice_split (λ b. b == 10) (x ∷ bytes)) end
line_there (b ∷ bytes) (suc n) lt clean end =
    let parts = and_parts (nat_le 32 b && nat_le b 126) _ clean in
    ap (λ v. cond v ([] ∷ slice_split (λ b. b == 10) bytes) (onto_first b (slice_split (λ b. b == 10) bytes))) (no_end b parts.0)
    ∙ ap (onto_first b) (line_there bytes n (omega (arith, lt)) parts.1 end)

begins_remark : (bytes : List ℕ) (n : ℕ) → 0 < n → n < length bytes → slice_index_or bytes 0 0 ≡ 35 → is_remark (take n bytes) ≡ true
begins_remark [] n some lt first = absurd (omega (arith, lt))
begins_remark (b ∷ bytes) zero some lt first = absurd (omega (arith, some))
begins_remark (b ∷ bytes) (suc n) some lt first = ap (λ x. x == 35) first

pub remark_ends : (bytes behind : List ℕ) (n : ℕ) → 0 < n → n < length bytes → slice_index_or bytes 0 0 ≡ 35 → is_clean (take n bytes) ≡ true → slice_index_or bytes n 0 ≡ 10
    → behind ≡ drop (n + 1) bytes → IsBehindRemark bytes behind
remark_ends bytes behind n some lt first clean end back =
    let next : n + 1 ≡ suc n = omega arith in
    let rest : behind ≡ drop (suc n) bytes = back ∙ ap (λ k. drop k bytes) next in
    (take n bytes, more_lines bytes (take n bytes) behind (line_there bytes n lt clean end ∙ ap (λ x. take n bytes ∷ slice_split (λ b. b == 10) x) (sym rest)), clean, begins_remark bytes n some lt first)

-- one byte more is clean
pub clean_more : (bytes : List ℕ) (n : ℕ) → n < length bytes → is_clean (take n bytes) ≡ true → 32 ≤ slice_index_or bytes n 0 → slice_index_or bytes n 0 ≤ 126 → is_clean (take (n + 1) bytes) ≡ true
clean_more bytes n lt clean low high =
    ap is_clean (take_more bytes n 0 lt) ∙ list_all-append _ (take n bytes) (slice_index_or bytes n 0 ∷ []) ∙ and_from _ _ clean (and_from _ _ (and_from _ _ (le-leb 32 _ low) (le-leb _ 126 high)) refl)
