-- After a write each byte is that of the last write that covers it.
use Rattle.std.proofs.Common.{◌≡◌, ℕ, ◌+◌, ◌<◌, ◌≤◌, List, [], ◌∷◌, ◌++◌, take, drop, length, ⊎_elim, arith, ap, ◌∙◌}
use Rattle.std.specs.Prelude.{slice_index}
use Rattle.std.proofs.lemmas.Bool.{cases_lt}
use Rattle.std.proofs.lemmas.Bool.Decides.{nat_tests}
use Rattle.std.proofs.lemmas.List.{places}
use Rattle.lapi_base.specs.Record.Values.{byte_after}

byte_of_written : (memory : List ℕ) (at : ℕ) (bytes : List ℕ) → at + length bytes ≤ length memory → (x : ℕ) → slice_index (take at memory ++ bytes ++ drop (at + length bytes) memory) x ≡ byte_after ((at, bytes) ∷ []) x (slice_index memory x)
unfolding byte_after
byte_of_written memory at bytes within x =
    ⊎_elim
    (λ (low : x < at). grind (arith, places, nat_tests))
    (λ (high : at ≤ x).
    ⊎_elim
    (λ (inner : x < at + length bytes). grind (arith, places, nat_tests))
    (λ (outer : at + length bytes ≤ x). grind (arith, places, nat_tests))
    (cases_lt x (at + length bytes)))
    (cases_lt x at)

pub byte_written : (after memory : List ℕ) (at : ℕ) (bytes : List ℕ) → after ≡ take at memory ++ bytes ++ drop (at + length bytes) memory → at + length bytes ≤ length memory → (x : ℕ) → slice_index after x ≡ byte_after ((at, bytes) ∷ []) x (slice_index memory x)
byte_written after memory at bytes e within x = ap (λ m. slice_index m x) e ∙ byte_of_written memory at bytes within x
