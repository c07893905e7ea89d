-- A word in the base crate's terms is that of std's bytes with the highest first.
use Rattle.std.proofs.Common.{◌≡◌, ℕ, List, [], ◌∷◌, length, drop, arith}
use Rattle.std.specs.Int.{w32, from_be_bytes}
use Rattle.std.proofs.lemmas.List.{length-take, length-drop}
use Rattle.lapi_base.specs.Record.Handlers.{number_of}
use Rattle.lapi_memory.specs.TaskMemory.{IsWithin, bytes_at}

number_is_word : (bytes : List ℕ) → length bytes ≡ 4 → from_be_bytes w32 bytes ≡ number_of bytes
unfolding number_of
number_is_word (a ∷ b ∷ c ∷ d ∷ []) len = omega arith
number_is_word [] len = absurd (omega arith)
number_is_word (a ∷ []) len = absurd (omega arith)
number_is_word (a ∷ b ∷ []) len = absurd (omega arith)
number_is_word (a ∷ b ∷ c ∷ []) len = absurd (omega arith)
number_is_word (a ∷ b ∷ c ∷ d ∷ e ∷ rest) len = absurd (omega arith)

pub word_at : (memory : List ℕ) (at : ℕ) → IsWithin memory at 4 → from_be_bytes w32 (bytes_at memory at 4) ≡ number_of (bytes_at memory at 4)
word_at memory at within = number_is_word (bytes_at memory at 4) (omega (arith, length-take 4 (drop at memory), length-drop at memory))
