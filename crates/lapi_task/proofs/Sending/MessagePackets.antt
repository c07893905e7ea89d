-- The packets of a message, one after another.
use Rattle.std.proofs.Common.{◌≡◌, ℕ, ◌+◌, ◌*◌, ◌<◌, ◌≤◌, List, [], ◌∷◌, ◌++◌, Option, map, length, max, sym, ap, ◌∙◌, arith, append_assoc, subst, inl, inr}
use Rattle.std.proofs.lemmas.List.{append-nil, length-append, length-map, map-append}
use Rattle.std.specs.Int.{div_ceil}
use Rattle.lapi_base.specs.Record.Fragments.{fragments_in}
use Rattle.lapi_base.specs.Record.Below.{below}
use Rattle.lapi_base.specs.Record.Operations.{numbers_below}
use Rattle.lapi_base.proofs.UptoLaws.{numbers_below-length, numbers_below-more}
use Rattle.lapi_reassembly.specs.Partial.{IsUnit}
use Rattle.lapi_link.specs.Sender.{SendingEnd, appended}
use Rattle.lapi_task.specs.Outgoing.{extended}

pub extended-none : (s : SendingEnd) (tag : Option ℕ) (f : ℕ → List ℕ) → s ≡ extended s tag (map f (numbers_below 0))
unfolding numbers_below below
extended-none s tag f = λ i. record { window = record { window = s.window.window; numbers = sym (let e : s.window.numbers + 0 ≡ s.window.numbers = omega arith in e) i; acked = s.window.acked; packets = s.window.packets }; waiting = sym (append-nil s.waiting) i; tags = sym (append-nil s.tags) i }

pub extended-more : (s : SendingEnd) (tag : Option ℕ) (f : ℕ → List ℕ) (n : ℕ) → appended (extended s tag (map f (numbers_below n))) (f n) tag ≡ extended s tag (map f (numbers_below (n + 1)))
extended-more s tag f n =
    let xs = map f (numbers_below n) in
    let more : map f (numbers_below (n + 1)) ≡ xs ++ f n ∷ [] = ap (map f) (numbers_below-more n) ∙ map-append f (numbers_below n) (n ∷ []) in
    let count : s.window.numbers + length xs + 1 ≡ s.window.numbers + length (map f (numbers_below (n + 1))) = sym (ap (λ (ys : List (List ℕ)). s.window.numbers + length ys) more ∙ (let e = length-append xs (f n ∷ []) in omega (arith, e))) in
    let list : (s.waiting ++ xs) ++ f n ∷ [] ≡ s.waiting ++ map f (numbers_below (n + 1)) = append_assoc s.waiting xs (f n ∷ []) ∙ ap (λ (ys : List (List ℕ)). s.waiting ++ ys) (sym more) in
    let bare = λ (bytes : List ℕ). tag in
    let tags : (s.tags ++ map bare xs) ++ tag ∷ [] ≡ s.tags ++ map bare (map f (numbers_below (n + 1))) = append_assoc s.tags (map bare xs) (tag ∷ []) ∙ ap (λ (ys : List (Option ℕ)). s.tags ++ ys) (sym (ap (map bare) more ∙ map-append bare xs (f n ∷ []))) in
    λ i. record { window = record { window = s.window.window; numbers = count i; acked = s.window.acked; packets = s.window.packets }; waiting = list i; tags = tags i }

pub extended-count : (s : SendingEnd) (tag : Option ℕ) (f : ℕ → List ℕ) (n : ℕ) → (extended s tag (map f (numbers_below n))).window.numbers ≡ s.window.numbers + n
extended-count s tag f n = ap (λ k. s.window.numbers + k) (length-map (numbers_below n) f ∙ numbers_below-length n)

-- as many as the length says
pub fragment-count : (unit len : ℕ) → IsUnit unit → max (div_ceil len unit) 1 ≡ fragments_in unit len
fragment-count unit len size =
    elim size [
      | inl e ↦ rw e (omega arith)
      | inr e ↦ rw e (omega arith)
    ]

-- and each begins within the bytes
pub fragment-begins : (unit len j : ℕ) → IsUnit unit → j < fragments_in unit len → unit * j ≤ len
fragment-begins unit len j size l =
    elim size [
      | inl e ↦ let lt : j < fragments_in 256 len = subst (λ (u : ℕ). j < fragments_in u len) e l in rw e (omega (arith, lt))
      | inr e ↦ let lt : j < fragments_in 1024 len = subst (λ (u : ℕ). j < fragments_in u len) e l in rw e (omega (arith, lt))
    ]
