-- Entries of wires, by the task that they go to.
use Rattle.std.proofs.Common.{◌≡◌, ℕ, zero, suc, ◌<◌, ◌≤◌, ◌==◌, false, List, [], ◌∷◌, ◌++◌, map, filter, Some, refl, ap, ◌∙◌, ⊎_elim, arith}
use Rattle.std.specs.Prelude.{slice_get}
use Rattle.std.specs.List.{AllByRecursion}
use Rattle.std.proofs.lemmas.Bool.{cond-true, cond-false, cases_lt, ne_eqb}
use Rattle.std.proofs.lemmas.List.{append-nil, map-append}
use Rattle.std.proofs.lemmas.List.Elements.{filter-append}
use Rattle.lapi_base.specs.declared.wire.WireEntry.{WireEntry}
use Rattle.lapi_base.proofs.ListLaws.{all-append}
use Rattle.lapi_base.proofs.TestLaws.{eqb-refl}
use Rattle.lapi_link.specs.Sender.{SendingEnd, entries_to}
use Rattle.lapi_task.specs.HasEffect.{bytes_to}
use Rattle.lapi_task.specs.Sends.{of_end, entries_of}

pub bytes-append : (b : ℕ) (xs ys : List WireEntry) → bytes_to b (xs ++ ys) ≡ bytes_to b xs ++ bytes_to b ys
bytes-append b xs ys =
    let here = λ (e : WireEntry). e.to == b in
    let bytes = λ (e : WireEntry). e.bytes in
    ap (map bytes) (filter-append here xs ys) ∙ map-append bytes (filter here xs) (filter here ys)

pub bytes-here : (b : ℕ) (xs : List (List ℕ)) → bytes_to b (entries_to b xs) ≡ xs
bytes-here b [] = refl
bytes-here b (x ∷ xs) =
    let bytes = λ (e : WireEntry). e.bytes in
    let rest = filter (λ (e : WireEntry). e.to == b) (entries_to b xs) in
    let first : WireEntry = record { to = b; bytes = x } in
    ap (map bytes) (cond-true (b == b) (first ∷ rest) rest (eqb-refl b)) ∙ ap (λ ys. x ∷ ys) (bytes-here b xs)

pub bytes-there : (c b : ℕ) (xs : List (List ℕ)) → (c == b) ≡ false → bytes_to b (entries_to c xs) ≡ []
bytes-there c b [] h = refl
bytes-there c b (x ∷ xs) h =
    let bytes = λ (e : WireEntry). e.bytes in
    let rest = filter (λ (e : WireEntry). e.to == b) (entries_to c xs) in
    let first : WireEntry = record { to = c; bytes = x } in
    ap (map bytes) (cond-false (c == b) (first ∷ rest) rest h) ∙ bytes-there c b xs h

pub entries-known : (n c : ℕ) (xs : List (List ℕ)) → c < n → AllByRecursion (λ (e : WireEntry). e.to < n) (entries_to c xs)
entries-known n c [] h = tt
entries-known n c (x ∷ xs) h = (h, entries-known n c xs h)

module _ (f : SendingEnd → List (List ℕ)) (ends : List SendingEnd) where
  pub entries-none : entries_of f ends 0 ≡ []
  unfolding entries_of
  entries-none = refl

  pub entries-more : (b : ℕ) (s : SendingEnd) → slice_get ends b ≡ Some s → entries_of f ends (suc b) ≡ entries_of f ends b ++ entries_to b (f s)
  unfolding entries_of
  entries-more b s h = ap (λ o. entries_of f ends b ++ entries_to b (of_end f o)) h

  pub entries-within : (m n : ℕ) → n ≤ m → AllByRecursion (λ (e : WireEntry). e.to < m) (entries_of f ends n)
  unfolding entries_of
  entries-within m zero l = tt
  entries-within m (suc b) l = all-append (λ (e : WireEntry). e.to < m) (entries_of f ends b) (entries_to b (of_end f (slice_get ends b))) (entries-within m b (let q : b ≤ m = omega arith in q)) (entries-known m b (of_end f (slice_get ends b)) (let q : b < m = omega arith in q))

  -- The wire to a task has what its own end gives, once that was reached.
  bytes-later : (b n : ℕ) → n ≤ b → bytes_to b (entries_of f ends n) ≡ []
  unfolding entries_of
  bytes-later b zero l = refl
  bytes-later b (suc n) l =
      bytes-append b (entries_of f ends n) (entries_to n (of_end f (slice_get ends n)))
      ∙ ap (λ xs. xs ++ bytes_to b (entries_to n (of_end f (slice_get ends n)))) (bytes-later b n (let q : n ≤ b = omega arith in q))
      ∙ bytes-there n b (of_end f (slice_get ends n)) (ne_eqb n b (λ same. absurd (omega arith)))

  pub bytes-of-end : (b n : ℕ) → b < n → bytes_to b (entries_of f ends n) ≡ of_end f (slice_get ends b)
  unfolding entries_of
  bytes-of-end b zero l = absurd (omega arith)
  bytes-of-end b (suc n) l =
      bytes-append b (entries_of f ends n) (entries_to n (of_end f (slice_get ends n)))
      ∙ ⊎_elim
      (λ (lt : b < n).
      ap (λ xs. xs ++ bytes_to b (entries_to n (of_end f (slice_get ends n)))) (bytes-of-end b n lt)
      ∙ ap (λ xs. of_end f (slice_get ends b) ++ xs) (bytes-there n b (of_end f (slice_get ends n)) (ne_eqb n b (λ same. absurd (omega arith))))
      ∙ append-nil (of_end f (slice_get ends b)))
      (λ (ge : n ≤ b).
      let same : n ≡ b = omega arith in
      ap (λ xs. xs ++ bytes_to b (entries_to n (of_end f (slice_get ends n)))) (bytes-later b n ge)
      ∙ ap (λ k. bytes_to b (entries_to k (of_end f (slice_get ends k)))) same
      ∙ bytes-here b (of_end f (slice_get ends b)))
      (cases_lt b n)
