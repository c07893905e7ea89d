-- Stretches of a list with an item for each number, and the bytes of a row part by part.
use Rattle.std.proofs.Common.{◌≡◌, ℕ, zero, suc, ◌+◌, ◌-◌, ◌*◌, ◌/◌, ◌%◌, ◌<◌, ◌≤◌, List, [], ◌∷◌, ◌++◌, length, map, take, drop, slice_get, Some, sym, ap, ◌∙◌, arith, append_assoc}
use Rattle.std.proofs.lemmas.List.{append-nil, length-drop, length-take-le, get_or-take, get_or-drop}
use Rattle.std.proofs.Math.Nat.{mul-add-div, mul-add-mod_self_left}
use Rattle.lapi_base.specs.Record.Operations.{numbers_below}
use Rattle.lapi_base.proofs.ListLaws.{found-at}
use Rattle.lapi_base.proofs.UptoLaws.{numbers_below-none, length-over, over-more, over-at, is-over, over-same}
use Rattle.lapi_blocks.specs.Plans.{Table}
use Rattle.lapi_array.specs.ArrayText.{row_bytes, part_bytes}

-- the item of a number below the bound
pub over_get : {A : Type 0} (f : ℕ → A) (n k : ℕ) → k < n → slice_get (map f (numbers_below n)) k ≡ Some (f k)
over_get f n k l =
    let len = length-over f n in
    found-at (map f (numbers_below n)) k (f k) (omega (arith, l, len)) (sym (over-at f n k (f k) l))

pub stretch : {A : Type 0} (f : ℕ → A) (n first many : ℕ) → first + many ≤ n → take many (drop first (map f (numbers_below n))) ≡ map (λ j. f (first + j)) (numbers_below many)
stretch {A = A} f n first many fits =
    let xs : List A = map f (numbers_below n) in
    let rest : length (drop first xs) ≡ n - first = length-drop first xs ∙ ap (λ k. k - first) (length-over f n) in
    is-over (take many (drop first xs)) (λ j. f (first + j)) many (length-take-le many (drop first xs) (omega (arith, rest, fits)))
    (λ k d lt. get_or-take many (drop first xs) k d lt ∙ get_or-drop first xs k d ∙ over-at f n (first + k) d (omega (arith, lt, fits)))

-- two stretches, one after the other
pub stretches : {A : Type 0} (f : ℕ → A) (a b : ℕ) → map f (numbers_below a) ++ map (λ z. f (a + z)) (numbers_below b) ≡ map f (numbers_below (a + b))
stretches f a zero =
    let e : a + zero ≡ a = omega arith in
    ap (λ ns. map f (numbers_below a) ++ map (λ z. f (a + z)) ns) numbers_below-none ∙ append-nil (map f (numbers_below a)) ∙ ap (λ n. map f (numbers_below n)) (sym e)
stretches f a (suc b) =
    let e : a + suc b ≡ suc (a + b) = omega arith in
    ap (λ xs. map f (numbers_below a) ++ xs) (over-more (λ z. f (a + z)) b)
    ∙ sym (append_assoc (map f (numbers_below a)) (map (λ z. f (a + z)) (numbers_below b)) (f (a + b) ∷ []))
    ∙ ap (λ xs. xs ++ f (a + b) ∷ []) (stretches f a b)
    ∙ sym (over-more f (a + b))
    ∙ ap (λ n. map f (numbers_below n)) (sym e)

-- ---- a row, part by part

pub no_parts : (table : Table) (width r : ℕ) → [] ≡ row_bytes table (0 * width) r
no_parts table width r =
    let e : 4 * (0 * width) ≡ 0 = grind arith in
    sym (ap (λ n. map (λ z. table r (z / 4) (z % 4)) (numbers_below n)) e ∙ ap (map (λ z. table r (z / 4) (z % 4))) numbers_below-none)

pub part_more : (table : Table) (width j r : ℕ) → row_bytes table (j * width) r ++ part_bytes table width j r ≡ row_bytes table ((j + 1) * width) r
part_more table width j r =
    let f : ℕ → ℕ = λ z. table r (z / 4) (z % 4) in
    let a : ℕ = j * width in
    let same : (z : ℕ) → table r (a + z / 4) (z % 4) ≡ f (4 * a + z) =
    λ z. ap (λ c. table r c (z % 4)) (sym (mul-add-div (omega arith) a z)) ∙ ap (λ b. table r ((4 * a + z) / 4) b) (sym (mul-add-mod_self_left 4 a z)) in
    let e : 4 * a + 4 * width ≡ 4 * ((j + 1) * width) = grind arith in
    ap (λ xs. map f (numbers_below (4 * a)) ++ xs) (over-same (λ z. table r (a + z / 4) (z % 4)) (λ z. f (4 * a + z)) (4 * width) same)
    ∙ stretches f (4 * a) (4 * width)
    ∙ ap (λ n. map f (numbers_below n)) e
