-- Formats as data: fields in order, each with its size and its rule, what bytes spell such a format, and where
-- bytes that don't are refused first. All laws of a format are proved over these words. They are this project's own.
use Rattle.std.specs.Prelude.{◌≡◌, ℕ, zero, suc, ◌+◌, ◌-◌, ◌^◌, ◌<◌, Bool, true, IsTrue, IsFalse, ◌⊎◌, List, [], ◌∷◌, ◌++◌, length, take, drop, Result, Ok, Err, nat_lt, if◌then◌else◌}
use Rattle.std.specs.Int.{Width, w8, w16, w32, w64, byte_len, to_be_bytes, from_be_bytes}
use Rattle.lapi_base.specs.declared.reply.Bad.{Bad}
use Rattle.lapi_base.specs.declared.reply.Reason.{Reason}
use Rattle.lapi_base.specs.declared.reply.Reason.TheVariants as reasons

-- the bytes of a field
pub data Size : Type 0 where
  One Two Four Eight : Size

abbrev pub width : Size → Width
width One = w8
width Two = w16
width Four = w32
width Eight = w64

abbrev pub byte_count : Size → ℕ
byte_count size = byte_len (width size)

-- a number as the bytes of a field, the highest first
abbrev pub bytes_of : Size → ℕ → List ℕ
bytes_of size n = to_be_bytes (width size) n

-- A value, or a field with its rule, the reason where the rule is broken, and what follows for each number.
pub data Format (A : Type 0) : Type 0 where
  Done : A → Format A
  Field : (size : Size) (why : Reason) (keeps : ℕ → Bool) (more : ℕ → Format A) → Format A

infixl 10 ◌>>=◌
abbrev pub ◌>>=◌ : {A B : Type 0} → Format A → (A → Format B) → Format B
(Done a) >>= f = f a
(Field size why keeps more) >>= f = Field size why keeps (λ n. more n >>= f)

abbrev pub field : Size → Reason → (ℕ → Bool) → Format ℕ
field size why keeps = Field size why keeps (λ n. Done n)

-- a field whose rule every number keeps
abbrev pub any : Size → Format ℕ
any size = field size reasons.Field (λ _. true)

-- count bytes, any
unfoldable pub bytes_form : ℕ → Format (List ℕ)
bytes_form zero = Done []
bytes_form (suc count) = do
  byte ← any One
  bytes ← bytes_form count
  Done (byte ∷ bytes)

-- Parts one after another: each is told what the parts before it came to, and how many follow it.
unfoldable pub repeated : {S A : Type 0} → (S → ℕ → Format A) → (S → A → S) → S → ℕ → Format (List A)
repeated part next state zero = Done []
repeated part next state (suc following) = do
  first ← part state following
  others ← repeated part next (next state first) following
  Done (first ∷ others)

-- The bytes are the fields in order, and each number keeps its rule.
abbrev pub IsSpelled : {A : Type 0} → Format A → A → List ℕ → Type 0
IsSpelled (Done a) x bytes = (x ≡ a) × (bytes ≡ [])
IsSpelled (Field size why keeps more) x bytes =
    (n : ℕ) × (rest : List ℕ) × (n < 256 ^ byte_count size) × IsTrue (keeps n) × (bytes ≡ bytes_of size n ++ rest) × IsSpelled (more n) x rest

-- too few bytes for a field: the place is their end
abbrev pub IsCutShort : Size → List ℕ → ℕ → Reason → Type 0
IsCutShort size bytes place reason = (length bytes < byte_count size) × (place ≡ length bytes) × (reason ≡ reasons.Short)

-- a number that breaks its rule: the place is the field's
abbrev pub IsBroken : Bool → Reason → ℕ → Reason → Type 0
IsBroken keeps why place reason = IsFalse keeps × (place ≡ 0) × (reason ≡ why)

-- Bytes are refused where they are too few for a field, where its number breaks its rule, or where the bytes behind it are refused.
abbrev pub IsRefused : {A : Type 0} → Format A → List ℕ → ℕ → Reason → Type 0
IsRefused (Done a) bytes place reason = (0 < length bytes) × (place ≡ 0) × (reason ≡ reasons.Long)
IsRefused (Field size why keeps more) bytes place reason =
    IsCutShort size bytes place reason
    ⊎ ((n : ℕ) × (rest : List ℕ) × (n < 256 ^ byte_count size) × (bytes ≡ bytes_of size n ++ rest) × (IsBroken (keeps n) why place reason
    ⊎ (IsTrue (keeps n) × (later : ℕ) × (place ≡ byte_count size + later) × IsRefused (more n) rest later reason)))

-- ---- the same as a function

abbrev pub and_then : {A B E : Type 0} → Result A E → (A → Result B E) → Result B E
and_then (Ok x) f = f x
and_then (Err e) f = Err e

-- the number that the bytes begin with and the bytes behind it; a fault says how many bytes stand from its field on
abbrev pub number_at : Size → List ℕ → Result (ℕ × List ℕ) (ℕ × Reason)
number_at size bytes =
    if nat_lt (length bytes) (byte_count size) then Err (0, reasons.Short)
    else Ok (from_be_bytes (width size) (take (byte_count size) bytes), drop (byte_count size) bytes)

abbrev pub reading : {A : Type 0} → Format A → List ℕ → Result (A × List ℕ) (ℕ × Reason)
reading (Done a) bytes = Ok (a, bytes)
reading (Field size why keeps more) bytes =
    and_then (number_at size bytes) (λ x. if keeps x.0 then reading (more x.0) x.1 else Err (length bytes, why))

-- all of the bytes have to be used
abbrev pub whole : {A : Type 0} → ℕ → Result (A × List ℕ) (ℕ × Reason) → Result A Bad
whole size (Ok (x, [])) = Ok x
whole size (Ok (x, byte ∷ rest)) = Err (record { place = size - length (byte ∷ rest); reason = reasons.Long })
whole size (Err (left, reason)) = Err (record { place = size - left; reason = reason })

-- the value that the bytes spell, or the first fault
abbrev pub answer : {A : Type 0} → Format A → List ℕ → Result A Bad
answer form bytes = whole (length bytes) (reading form bytes)
