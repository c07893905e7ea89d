-- A list of bytes with a part of it written over: that part, and what stands before and after it.
use Rattle.std.proofs.Common.{◌≡◌, ℕ, ◌+◌, ◌-◌, ◌<◌, ◌≤◌, min, List, [], ◌++◌, length, take, drop, sym, ap, ◌∙◌, ⊎_elim, arith, length-append, length-drop}
use Rattle.std.proofs.lemmas.Bool.{cases_lt}
use Rattle.std.proofs.lemmas.List.{append-nil, append_assoc, drop_at, take-append-le, take-append-drop, take_all, length-take-le, drop-take}
use Rattle.std.proofs.lemmas.Slice.{drop-append-drop}
use Rattle.std.proofs.Math.ListN.{drop_of_length-le}

module _ (bytes part : List ℕ) (at : ℕ) where
  abbrev pub written : List ℕ
  written = take at bytes ++ part ++ drop (at + length part) bytes

  from_part : written ≡ take at bytes ++ (part ++ drop (at + length part) bytes)
  from_part = append_assoc (take at bytes) part (drop (at + length part) bytes)

  length-front : at ≤ length bytes → length (take at bytes ++ part) ≡ at + length part
  length-front within = omega (arith, length-append (take at bytes) part, length-take-le at bytes within)

  pub length-written : at + length part ≤ length bytes → length written ≡ length bytes
  length-written within =
      omega (arith, length-append (take at bytes ++ part) (drop (at + length part) bytes), length-drop (at + length part) bytes, length-front (omega arith))

  pub part_there : (unit : ℕ) → at ≤ length bytes → length part ≡ min unit (length bytes - at) → take unit (drop at written) ≡ part
  part_there unit within long =
      let rest = drop (at + length part) bytes in
      let back : drop at written ≡ part ++ rest = ap (drop at) from_part ∙ drop_at (take at bytes) (part ++ rest) at (length-take-le at bytes within) in
      ap (take unit) back
      ∙ ⊎_elim
      (λ (short : length part < unit).
      let none : rest ≡ [] = drop_of_length-le bytes (omega arith) in
      ap (λ more. take unit (part ++ more)) none ∙ ap (take unit) (append-nil part) ∙ take_all unit part (omega arith))
      (λ (full : unit ≤ length part). take-append-le unit part rest full ∙ take_all unit part (omega arith))
      (cases_lt (length part) unit)

  pub chunk_before : (unit p : ℕ) → p + unit ≤ at → at ≤ length bytes → take unit (drop p written) ≡ take unit (drop p bytes)
  chunk_before unit p before within =
      let inside : p + unit ≤ length (take at bytes) = omega (arith, length-take-le at bytes within) in
      let front : take (p + unit) written ≡ take (p + unit) bytes =
      ap (take (p + unit)) from_part
      ∙ take-append-le (p + unit) (take at bytes) (part ++ drop (at + length part) bytes) inside
      ∙ sym (take-append-le (p + unit) (take at bytes) (drop at bytes) inside)
      ∙ ap (take (p + unit)) (take-append-drop at bytes) in
      sym (drop-take p unit written) ∙ ap (drop p) front ∙ drop-take p unit bytes

  pub chunk_after : (p : ℕ) → at + length part ≤ p → at ≤ length bytes → drop p written ≡ drop p bytes
  chunk_after p after within = drop-append-drop (at + length part) bytes (take at bytes ++ part) p after (length-front within)
