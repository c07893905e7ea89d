-- The pieces of a stride: what they cover, and the bytes gathered from them; and places in rows of words.
use Rattle.std.proofs.Common.{◌≡◌, ℕ, zero, suc, ◌+◌, ◌-◌, ◌*◌, ◌/◌, ◌%◌, ◌<◌, ◌≤◌, true, false, ◌&&◌, ◌||◌, List, [], ◌∷◌, ◌++◌, map, refl, sym, ap, ◌∙◌, subst, ⊎_elim, arith}
use Rattle.std.specs.Prelude.{nat_le, nat_lt}
use Rattle.std.proofs.lemmas.Bool.{false≢true, and_parts, or_left, or_right, or_cases, both_ways, cases_lt, leb-true, ltb-true}
use Rattle.std.proofs.lemmas.List.{map-append}
use Rattle.std.proofs.lemmas.List.Folds.{list_any-append}
use Rattle.std.proofs.lemmas.Nat.{div-mul-add, mod-mul-add, mul-add-lt, div-add-mod'}
use Rattle.lapi_base.specs.declared.address.Addr.TheVariants.{Plain}
use Rattle.lapi_base.specs.declared.span.Span.{Span}
use Rattle.lapi_base.specs.declared.vector.Vector.TheVariants.{Stride}
use Rattle.lapi_base.specs.declared.script.Script.{Script}
use Rattle.lapi_base.specs.Record.Below.{below}
use Rattle.lapi_base.specs.Record.Operations.{numbers_below, address, shifted, pieces_of, spans}
use Rattle.lapi_base.specs.Record.Values.{Memories, gathered}
use Rattle.std.specs.List.{AllByRecursion}
use Rattle.lapi_base.proofs.BelowLaws.{below-all}
use Rattle.lapi_epochs.specs.Stages.{covers}
use Rattle.lapi_blocks.specs.Plans.{byte_at}
use Rattle.lapi_epochs.proofs.GatheredPieces.{in_piece, in_piece-at, covers-cons, line-same}

abbrev pub strided : (base block stride count : ℕ) → List Span
strided base block stride count = map (λ k. record { at = base + k * stride; len = block }) (numbers_below count)

pub stride-spans : (script : Script) (d base block stride count : ℕ) → spans script d (pieces_of (Stride (Plain base) block stride count)) ≡ strided base block stride count
unfolding pieces_of address
stride-spans script d base block stride count = go (numbers_below count)
  where
    go : (ks : List ℕ) → spans script d (map (λ k. record { at = shifted (Plain base) (k * stride); len = block }) ks) ≡ map (λ k. record { at = base + k * stride; len = block }) ks
    go [] = refl
    go (k ∷ ks) = ap (λ (ps : List Span). record { at = base + k * stride; len = block } ∷ ps) (go ks)

covers-append : (ps qs : List Span) (x : ℕ) → covers (ps ++ qs) x ≡ (covers ps x || covers qs x)
unfolding covers
covers-append ps qs x = list_any-append (λ (p : Span). nat_le p.at x && nat_lt x (p.at + p.len)) ps qs

strided-more : (base block stride n x : ℕ) → covers (strided base block stride (suc n)) x ≡ (covers (strided base block stride n) x || covers (record { at = base + n * stride; len = block } ∷ []) x)
unfolding numbers_below below
strided-more base block stride n x =
    let f = λ (k : ℕ). let s : Span = record { at = base + k * stride; len = block } in s in
    ap (λ ps. covers ps x) (map-append f (numbers_below n) (n ∷ [])) ∙ covers-append (map f (numbers_below n)) (f n ∷ []) x

strided-none : (base block stride x : ℕ) → covers (strided base block stride 0) x ≡ false
unfolding numbers_below below covers
strided-none base block stride x = refl

one-piece : (p : Span) (x : ℕ) → covers (p ∷ []) x ≡ true → (p.at ≤ x) × (x < p.at + p.len)
unfolding covers
one-piece p x h =
    ⊎_elim
    (λ (c : in_piece p x ≡ true). let parts = and_parts (nat_le p.at x) (nat_lt x (p.at + p.len)) c in (leb-true p.at x parts.0, ltb-true x (p.at + p.len) parts.1))
    (λ (c : false ≡ true). absurd (false≢true c))
    (or_cases (in_piece p x) false h)

-- what a stride covers
pub strided-covers : (base block stride count x : ℕ) → covers (strided base block stride count) x ≡ true → (k : ℕ) × (z : ℕ) × (k < count) × (z < block) × (x ≡ base + k * stride + z)
strided-covers base block stride zero x h = absurd (both_ways _ (strided-none base block stride x) h)
strided-covers base block stride (suc n) x h =
    ⊎_elim
    (λ (old : covers (strided base block stride n) x ≡ true). let r = strided-covers base block stride n x old in (r.0, r.1, omega (arith, r.2), r.3, r.4))
    (λ (new : covers (record { at = base + n * stride; len = block } ∷ []) x ≡ true).
    let r = one-piece (record { at = base + n * stride; len = block }) x new in
    let low : base + n * stride ≤ x = r.0 in
    let high : x < base + n * stride + block = r.1 in
    (n, x - (base + n * stride), omega arith, omega arith, omega arith))
    (or_cases _ _ (sym (strided-more base block stride n x) ∙ h))

pub covers-strided : (base block stride count k z : ℕ) → k < count → z < block → covers (strided base block stride count) (base + k * stride + z) ≡ true
covers-strided base block stride zero k z l m = absurd (omega arith)
covers-strided base block stride (suc n) k z l m =
    let x = base + k * stride + z in
    ⊎_elim
    (λ (lt : k < n). strided-more base block stride n x ∙ or_left _ _ (covers-strided base block stride n k z lt m))
    (λ (ge : n ≤ k).
    let e : k ≡ n = omega arith in
    let p : Span = record { at = base + k * stride; len = block } in
    let here : covers (p ∷ []) x ≡ true = covers-cons p [] x ∙ or_left _ _ (in_piece-at p z m) in
    strided-more base block stride n x ∙ or_right _ _ (subst (λ j. covers (record { at = base + j * stride; len = block } ∷ []) x ≡ true) e here))
    (cases_lt k n)

-- the same bytes at two strides
pub strided-same : (old new : Memories) (t u base base' block s s' count : ℕ) → ((k z : ℕ) → k < count → z < block → old t (base + k * s + z) ≡ new u (base' + k * s' + z)) →
    gathered old t (strided base block s count) ≡ gathered new u (strided base' block s' count)
unfolding gathered numbers_below
strided-same old new t u base base' block s s' count h = go (numbers_below count) (below-all count (λ _. true))
  where
    go : (ks : List ℕ) → AllByRecursion (λ k. (k < count) × (true ≡ true)) ks → gathered old t (map (λ k. record { at = base + k * s; len = block }) ks) ≡ gathered new u (map (λ k. record { at = base' + k * s'; len = block }) ks)
    go [] a = refl
    go (k ∷ ks) a =
        ap (λ xs. xs ++ gathered old t (map (λ k. record { at = base + k * s; len = block }) ks)) (line-same (λ z. old t (base + k * s + z)) (λ z. new u (base' + k * s' + z)) block (λ z l. h k z a.0.0 l))
        ∙ ap (λ xs. map (λ z. new u (base' + k * s' + z)) (numbers_below block) ++ xs) (go ks a.1)

-- ---- rows of words

-- what stands by rows
abbrev pub by_rows : (width : ℕ) → (ℕ → ℕ → ℕ → ℕ) → ℕ → ℕ
by_rows width f y = f (y / 4 / width) ((y / 4) % width) (y % 4)

word-of : (w b : ℕ) → b < 4 → (4 * w + b) / 4 ≡ w
word-of w b l = omega arith

byte-of : (w b : ℕ) → b < 4 → (4 * w + b) % 4 ≡ b
byte-of w b l = omega arith

pub by_rows-at : (width : ℕ) (f : ℕ → ℕ → ℕ → ℕ) (u v b : ℕ) → v < width → b < 4 → by_rows width f (byte_at width u v b) ≡ f u v b
by_rows-at width f u v b l m =
    ap (λ w. f (w / width) (w % width) ((4 * (u * width + v) + b) % 4)) (word-of (u * width + v) b m)
    ∙ ap (λ r. f r ((u * width + v) % width) ((4 * (u * width + v) + b) % 4)) (div-mul-add u width v l)
    ∙ ap (λ c. f u c ((4 * (u * width + v) + b) % 4)) (mod-mul-add u width v l)
    ∙ ap (f u v) (byte-of (u * width + v) b m)

-- each place is that of a byte
pub place-split : (width y : ℕ) → 0 < width → y ≡ byte_at width (y / 4 / width) ((y / 4) % width) (y % 4)
place-split width y l =
    let w = y / 4 in
    let e : w / width * width + w % width ≡ w = div-add-mod' w width in
    let f : y ≡ 4 * w + y % 4 = omega arith in
    f ∙ ap (λ n. 4 * n + y % 4) (sym e)

pub place-below : (width height u v b : ℕ) → u < height → v < width → b < 4 → byte_at width u v b < 4 * (width * height)
place-below width height u v b k l m = let q : u * width + v < width * height = mul-add-lt u width v height k l in omega arith

-- a place in a stride of rows
pub place-shift : (width u v k c b : ℕ) → byte_at width (u + k) (v + c) b ≡ byte_at width u v 0 + k * (4 * width) + (4 * c + b)
place-shift width u v k c b = grind arith
