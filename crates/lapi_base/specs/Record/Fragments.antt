-- The fragments of a message, by its length and the payload of each fragment but the last. This is the
-- project's own.
use Rattle.std.specs.Prelude.{◌≡◌, ℕ, ◌+◌, ◌-◌, ◌*◌, ◌/◌, max, min, List, length, take, drop}

-- how many there are; an empty message has one
abbrev pub fragments_in : (unit length : ℕ) → ℕ
fragments_in unit len = max 1 ((len + (unit - 1)) / unit)

-- how many bytes fragment j has
abbrev pub fragment_length : (unit length j : ℕ) → ℕ
fragment_length unit len j = min unit (len - unit * j)

abbrev pub IsPayload : (unit length j : ℕ) → List ℕ → Type 0
IsPayload unit len j bytes = length bytes ≡ fragment_length unit len j

-- its part of the message's bytes
abbrev pub fragment_bytes : (unit j : ℕ) → List ℕ → List ℕ
fragment_bytes unit j bytes = take unit (drop (unit * j) bytes)
