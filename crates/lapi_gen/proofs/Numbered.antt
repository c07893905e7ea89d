-- Lists with an item, or several, for each number below a bound.
use Rattle.std.proofs.Common.{◌≡◌, ℕ, zero, suc, ◌+◌, ◌-◌, ◌*◌, ◌<◌, ◌≤◌, List, [], ◌∷◌, ◌++◌, length, map, take, drop, sym, ap, ◌∙◌, subst, arith, append_assoc}
use Rattle.std.specs.List.{AllByRecursion, flat_map, sum_by}
use Rattle.std.proofs.lemmas.List.{append-nil, length-append, length-drop, length-take-le, get_or-take, get_or-drop, same_lists, map_push}
use Rattle.std.proofs.lemmas.List.Sums.{sum_by_push}
use Rattle.lapi_base.specs.Record.Operations.{numbers_below}
use Rattle.lapi_base.proofs.ListLaws.{all-append, flat_map-push}
use Rattle.lapi_base.proofs.UptoLaws.{numbers_below-none, numbers_below-more, length-over, over-more, over-at}

-- Nothing stands there yet, and then that of one number more, behind a front.
pub map_none : {A : Type 0} (f : ℕ → A) (front : List A) → front ≡ front ++ map f (numbers_below 0)
map_none f front = sym (ap (λ ns. front ++ map f ns) numbers_below-none ∙ append-nil front)

pub map_next : {A : Type 0} (f : ℕ → A) (front : List A) (n : ℕ) → (front ++ map f (numbers_below n)) ++ f n ∷ [] ≡ front ++ map f (numbers_below (n + 1))
map_next f front n =
    append_assoc front (map f (numbers_below n)) (f n ∷ [])
    ∙ ap (λ xs. front ++ xs) (sym (map_push f (numbers_below n) n))
    ∙ ap (λ ns. front ++ map f ns) (sym (numbers_below-more n))

pub flat_none : {A : Type 0} (f : ℕ → List A) (front : List A) → front ≡ front ++ flat_map f (numbers_below 0)
flat_none f front = sym (ap (λ ns. front ++ flat_map f ns) numbers_below-none ∙ append-nil front)

pub flat_next : {A : Type 0} (f : ℕ → List A) (front : List A) (n : ℕ) → (front ++ flat_map f (numbers_below n)) ++ f n ≡ front ++ flat_map f (numbers_below (n + 1))
flat_next f front n =
    append_assoc front (flat_map f (numbers_below n)) (f n)
    ∙ ap (λ xs. front ++ xs) (sym (flat_map-push f (numbers_below n) n))
    ∙ ap (λ ns. front ++ flat_map f ns) (sym (numbers_below-more n))

-- the same without a front
pub map_first : {A : Type 0} (f : ℕ → A) → [] ≡ map f (numbers_below 0)
map_first f = map_none f []

pub map_more : {A : Type 0} (f : ℕ → A) (n : ℕ) → map f (numbers_below n) ++ f n ∷ [] ≡ map f (numbers_below (n + 1))
map_more f n = map_next f [] n

pub flat_first : {A : Type 0} (f : ℕ → List A) → [] ≡ flat_map f (numbers_below 0)
flat_first f = flat_none f []

pub flat_more : {A : Type 0} (f : ℕ → List A) (n : ℕ) → flat_map f (numbers_below n) ++ f n ≡ flat_map f (numbers_below (n + 1))
flat_more f n = flat_next f [] n

pub sum_none : (f : ℕ → ℕ) → 0 ≡ sum_by f (numbers_below 0)
sum_none f = sym (ap (sum_by f) numbers_below-none)

pub sum_next : (f : ℕ → ℕ) (n : ℕ) → sum_by f (numbers_below n) + f n ≡ sum_by f (numbers_below (n + 1))
sum_next f n = sym (ap (sum_by f) (numbers_below-more n) ∙ sum_by_push f (numbers_below n) n)

-- a stretch of such a list
pub stretch : {A : Type 0} (f : ℕ → A) (n first many : ℕ) → first + many ≤ n → take many (drop first (map f (numbers_below n))) ≡ map (λ j. f (first + j)) (numbers_below many)
stretch {A = A} f n first many fits =
    let xs : List A = map f (numbers_below n) in
    let len : length xs ≡ n = length-over f n in
    let rest : length (drop first xs) ≡ n - first = length-drop first xs ∙ ap (λ k. k - first) len in
    let size : length (take many (drop first xs)) ≡ many = length-take-le many (drop first xs) (omega (arith, rest)) in
    let g : ℕ → A = λ j. f (first + j) in
    same_lists (take many (drop first xs)) (map g (numbers_below many)) (size ∙ sym (length-over g many))
    (λ k d lt.
    let low : k < many = omega (arith, size) in
    get_or-take many (drop first xs) k d low ∙ get_or-drop first xs k d ∙ over-at f n (first + k) d (omega arith) ∙ sym (over-at g many k d low))

-- what holds of the items of each number holds of all, and how many they are
pub all_map : {A : Type 0} (P : A → Type 0) (f : ℕ → A) (n : ℕ) → ((k : ℕ) → k < n → P (f k)) → AllByRecursion P (map f (numbers_below n))
all_map P f zero h = subst (λ ks. AllByRecursion P (map f ks)) (sym numbers_below-none) tt
all_map P f (suc n) h =
    subst (AllByRecursion P) (sym (over-more f n))
    (all-append P (map f (numbers_below n)) (f n ∷ []) (all_map P f n (λ k lt. h k (let q : k < suc n = omega arith in q))) (h n (let q : n < suc n = omega arith in q), tt))

flat_suc : {A : Type 0} (f : ℕ → List A) (n : ℕ) → flat_map f (numbers_below (suc n)) ≡ flat_map f (numbers_below n) ++ f n
flat_suc f n = ap (λ k. flat_map f (numbers_below k)) (let e : suc n ≡ n + 1 = omega arith in e) ∙ sym (flat_more f n)

pub all_flat : {A : Type 0} (P : A → Type 0) (f : ℕ → List A) (n : ℕ) → ((k : ℕ) → k < n → AllByRecursion P (f k)) → AllByRecursion P (flat_map f (numbers_below n))
all_flat P f zero h = subst (λ ks. AllByRecursion P (flat_map f ks)) (sym numbers_below-none) tt
all_flat P f (suc n) h =
    subst (AllByRecursion P) (sym (flat_suc f n))
    (all-append P (flat_map f (numbers_below n)) (f n) (all_flat P f n (λ k lt. h k (let q : k < suc n = omega arith in q))) (h n (let q : n < suc n = omega arith in q)))

pub length_flat : {A : Type 0} (f : ℕ → List A) (n m : ℕ) → ((k : ℕ) → k < n → length (f k) ≤ m) → length (flat_map f (numbers_below n)) ≤ n * m
length_flat f zero m h = subst (λ ks. length (flat_map f ks) ≤ 0 * m) (sym numbers_below-none) (omega arith)
length_flat f (suc n) m h =
    let before = length_flat f n m (λ k lt. h k (let q : k < suc n = omega arith in q)) in
    let last = h n (let q : n < suc n = omega arith in q) in
    let size = ap length (flat_suc f n) ∙ length-append (flat_map f (numbers_below n)) (f n) in
    omega (arith, before, last, size)

pub sum_few : (f : ℕ → ℕ) (n m : ℕ) → ((k : ℕ) → f k ≤ m) → sum_by f (numbers_below n) ≤ m * n
sum_few f zero m h = let none = sum_none f in omega (arith, none)
sum_few f (suc n) m h =
    let before = sum_few f n m h in
    let last = h n in
    let more = ap (λ k. sum_by f (numbers_below k)) (let e : suc n ≡ n + 1 = omega arith in e) ∙ sym (sum_next f n) in
    omega (arith, before, last, more)

pub ended : (i n : ℕ) → n ≤ i → i ≤ n → i ≡ n
ended i n h g = omega arith
