-- Bytes gathered from pieces, and scattered to them again.
use Rattle.std.proofs.Common.{◌≡◌, ℕ, zero, suc, ◌+◌, ◌-◌, ◌<◌, ◌≤◌, Bool, true, false, cond, ◌&&◌, ◌||◌, List, [], ◌∷◌, ◌++◌, length, map, take, get_or, refl, sym, ap, ◌∙◌, ⊎_elim, arith}
use Rattle.std.specs.Prelude.{nat_le, nat_lt, slice_index}
use Rattle.std.proofs.lemmas.Bool.{and_parts, and_from, or_left, or_right, cases_lt, leb-true, ltb-true, le-leb, lt-ltb}
use Rattle.std.proofs.lemmas.List.{map-append, length-map, get_or-map, get_or_append_left, get_or-append_right, take_at, drop_at}
use Rattle.lapi_base.specs.declared.span.Span.{Span}
use Rattle.lapi_base.specs.Record.Below.{below}
use Rattle.lapi_base.specs.Record.Operations.{numbers_below}
use Rattle.lapi_base.specs.Record.Values.{Memories, gathered, scattered, byte_after}
use Rattle.lapi_base.proofs.UptoLaws.{numbers_below-length}
use Rattle.lapi_epochs.specs.Stages.{covers}

pub numbers_below-nth : (n k : ℕ) → k < n → get_or (numbers_below n) k 0 ≡ k
unfolding numbers_below below
numbers_below-nth zero k l = absurd (omega arith)
numbers_below-nth (suc n) k l =
    ⊎_elim
    (λ (lt : k < n). get_or_append_left (numbers_below n) (n ∷ []) 0 k (let q : k < length (numbers_below n) = omega (arith, numbers_below-length n) in q) ∙ numbers_below-nth n k lt)
    (λ (ge : n ≤ k).
    let e : k ≡ n = omega arith in
    let z : k - n ≡ 0 = omega arith in
    get_or-append_right (numbers_below n) (n ∷ []) n k 0 (numbers_below-length n) ge ∙ ap (λ j. get_or (n ∷ []) j 0) z ∙ sym e)
    (cases_lt k n)

pub line-nth : (f : ℕ → ℕ) (n k : ℕ) → k < n → slice_index (map f (numbers_below n)) k ≡ f k
line-nth f n k l = get_or-map f (numbers_below n) k 0 0 (let q : k < length (numbers_below n) = omega (arith, numbers_below-length n) in q) ∙ ap f (numbers_below-nth n k l)

pub line-length : (f : ℕ → ℕ) (n : ℕ) → length (map f (numbers_below n)) ≡ n
line-length f n = length-map (numbers_below n) f ∙ numbers_below-length n

pub line-same : (f g : ℕ → ℕ) (n : ℕ) → ((k : ℕ) → k < n → f k ≡ g k) → map f (numbers_below n) ≡ map g (numbers_below n)
unfolding numbers_below below
line-same f g zero h = refl
line-same f g (suc n) h =
    map-append f (numbers_below n) (n ∷ [])
    ∙ ap (λ xs. xs ++ f n ∷ []) (line-same f g n (λ k l. h k (omega arith)))
    ∙ ap (λ y. map g (numbers_below n) ++ y ∷ []) (h n (omega arith))
    ∙ sym (map-append g (numbers_below n) (n ∷ []))

-- ---- pieces

abbrev pub in_piece : Span → ℕ → Bool
in_piece p x = nat_le p.at x && nat_lt x (p.at + p.len)

pub covers-cons : (p : Span) (ps : List Span) (x : ℕ) → covers (p ∷ ps) x ≡ (in_piece p x || covers ps x)
unfolding covers
covers-cons p ps x = refl

pub covers-none : (x : ℕ) → covers [] x ≡ false
unfolding covers
covers-none x = refl

pub in_piece-at : (p : Span) (k : ℕ) → k < p.len → in_piece p (p.at + k) ≡ true
in_piece-at p k l = and_from _ _ (le-leb p.at (p.at + k) (omega arith)) (lt-ltb (p.at + k) (p.at + p.len) (omega arith))

abbrev pub piece_bytes : Memories → ℕ → Span → List ℕ
piece_bytes memory t p = map (λ k. memory t (p.at + k)) (numbers_below p.len)

pub gathered-cons : (memory : Memories) (t : ℕ) (p : Span) (ps : List Span) → gathered memory t (p ∷ ps) ≡ piece_bytes memory t p ++ gathered memory t ps
unfolding gathered
gathered-cons memory t p ps = refl

-- memories that agree on the pieces give the same bytes
pub gathered-agree : (old new : Memories) (t u : ℕ) (ps : List Span) → ((y : ℕ) → covers ps y ≡ true → old t y ≡ new u y) → gathered old t ps ≡ gathered new u ps
unfolding gathered
gathered-agree old new t u [] h = refl
gathered-agree old new t u (p ∷ ps) h =
    ap (λ xs. xs ++ gathered old t ps) (line-same (λ k. old t (p.at + k)) (λ k. new u (p.at + k)) p.len (λ k l. h (p.at + k) (covers-cons p ps (p.at + k) ∙ or_left _ _ (in_piece-at p k l))))
    ∙ ap (λ xs. piece_bytes new u p ++ xs) (gathered-agree old new t u ps (λ y c. h y (covers-cons p ps y ∙ or_right _ _ c)))

-- what one write of a piece leaves
piece-byte : (memory : Memories) (t : ℕ) (p : Span) (bytes : List ℕ) (x before : ℕ) → bytes ≡ piece_bytes memory t p → cond (nat_le p.at x && nat_lt x (p.at + length bytes)) (slice_index bytes (x - p.at)) before ≡ cond (in_piece p x) (memory t x) before
piece-byte memory t p bytes x before e =
    let len : length bytes ≡ p.len = ap length e ∙ line-length (λ k. memory t (p.at + k)) p.len in
    ap (λ n. cond (nat_le p.at x && nat_lt x (p.at + n)) (slice_index bytes (x - p.at)) before) len
    ∙ elim (in_piece p x) as (λ b. in_piece p x ≡ b → cond b (slice_index bytes (x - p.at)) before ≡ cond b (memory t x) before) [
      | true ↦ λ h.
          let parts = and_parts (nat_le p.at x) (nat_lt x (p.at + p.len)) h in
          let low = leb-true p.at x parts.0 in
          let high = ltb-true x (p.at + p.len) parts.1 in
          let back : p.at + (x - p.at) ≡ x = omega arith in
          ap (λ xs. slice_index xs (x - p.at)) e ∙ line-nth (λ k. memory t (p.at + k)) p.len (x - p.at) (omega arith) ∙ ap (memory t) back
      | false ↦ λ _. refl
    ] refl

cond-or : (b c : Bool) (x y : ℕ) → cond c x (cond b x y) ≡ cond (b || c) x y
cond-or true true x y = refl
cond-or true false x y = refl
cond-or false true x y = refl
cond-or false false x y = refl

-- bytes gathered from some memory's pieces and scattered to the same places make these places that memory's
pub scatter-gathered : (memory : Memories) (t : ℕ) (ps : List Span) (x before : ℕ) → byte_after (scattered ps (gathered memory t ps)) x before ≡ cond (covers ps x) (memory t x) before
unfolding scattered byte_after gathered covers
scatter-gathered memory t [] x before = refl
scatter-gathered memory t (p ∷ ps) x before =
    let bytes = piece_bytes memory t p in
    let rest = gathered memory t ps in
    let len = line-length (λ k. memory t (p.at + k)) p.len in
    let now = cond (nat_le p.at x && nat_lt x (p.at + length (take p.len (bytes ++ rest)))) (slice_index (take p.len (bytes ++ rest)) (x - p.at)) before in
    ap (λ xs. byte_after (scattered ps xs) x now) (drop_at bytes rest p.len len)
    ∙ ap (λ y. byte_after (scattered ps rest) x y) (piece-byte memory t p (take p.len (bytes ++ rest)) x before (take_at bytes rest p.len len))
    ∙ scatter-gathered memory t ps x (cond (in_piece p x) (memory t x) before)
    ∙ cond-or (in_piece p x) (covers ps x) (memory t x) before
