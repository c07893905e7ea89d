-- A field's number is the one that its bytes spell.
use Rattle.std.proofs.Common.{◌≡◌, ℕ, ◌+◌, ◌^◌, ◌<◌, ◌%◌, ◌⊎◌, false, ltb, List, [], ◌∷◌, ◌++◌, length, get_or, take, drop, Ok, Err, refl, sym, ap, arith, inl, inr}
use Rattle.std.specs.Int.{from_be_bytes}
use Rattle.std.proofs.lemmas.Bool.{cases_lt, lt-ltb, le-ltb}
use Rattle.std.proofs.lemmas.List.{take_at, drop_at, take-append-drop, length-append, length-take, length-drop, get_or-drop, get_or-take, get_or_past}
use Rattle.std.proofs.lemmas.Nat.{be_bytes_2, be_bytes_4, be_bytes_8, from_be_bytes-to_be_bytes_2, from_be_bytes-to_be_bytes_4, from_be_bytes-to_be_bytes_8}
use Rattle.lapi_base.specs.declared.reply.Reason.TheVariants as reasons
use Rattle.lapi_base.specs.Packet.Format.{Size, One, Two, Four, Eight, width, byte_count, bytes_of, number_at}

abbrev pub IsBytes : List ℕ → Type 0
IsBytes bytes = (i : ℕ) → get_or bytes i 0 < 256

IsBytes-drop : (n : ℕ) (bytes : List ℕ) → IsBytes bytes → IsBytes (drop n bytes)
IsBytes-drop n bytes h i = rw get_or-drop (h (n + i))

IsBytes-take : (n : ℕ) (bytes : List ℕ) → IsBytes bytes → IsBytes (take n bytes)
IsBytes-take n bytes h i =
    elim (cases_lt i n) [
      | inl lt ↦ rw (get_or-take n bytes i 0 lt) (h i)
      | inr le ↦ rw (get_or_past (take n bytes) i 0 (omega (arith, length-take n bytes))) (omega arith)
    ]

-- what the number of a field's bytes is
abbrev value : Size → List ℕ → ℕ
value size bytes = from_be_bytes (width size) bytes

pub length-bytes_of : (size : Size) (n : ℕ) → length (bytes_of size n) ≡ byte_count size
length-bytes_of One n = refl
length-bytes_of Two n = refl
length-bytes_of Four n = refl
length-bytes_of Eight n = refl

value-bytes_of : (size : Size) (n : ℕ) → n < 256 ^ byte_count size → value size (bytes_of size n) ≡ n
value-bytes_of One n lt = omega arith
value-bytes_of Two n lt = from_be_bytes-to_be_bytes_2 n lt
value-bytes_of Four n lt = from_be_bytes-to_be_bytes_4 n lt
value-bytes_of Eight n lt = from_be_bytes-to_be_bytes_8 n lt

one_byte : (bytes : List ℕ) → length bytes ≡ 1 → IsBytes bytes → bytes_of One (value One bytes) ≡ bytes
one_byte [] len fits = absurd (omega arith)
one_byte (b ∷ []) len fits = let e : b % 256 ≡ b = omega (arith, fits 0) in ap (λ (x : ℕ). x ∷ []) e
one_byte (b ∷ c ∷ rest) len fits = absurd (omega arith)

bytes_of-value : (size : Size) (bytes : List ℕ) → length bytes ≡ byte_count size → IsBytes bytes → bytes_of size (value size bytes) ≡ bytes
bytes_of-value One bytes len fits = one_byte bytes len fits
bytes_of-value Two bytes len fits = be_bytes_2 bytes _ len fits refl
bytes_of-value Four bytes len fits = be_bytes_4 bytes _ len fits refl
bytes_of-value Eight bytes len fits = be_bytes_8 bytes _ len fits refl

value-below : (size : Size) (bytes : List ℕ) → IsBytes bytes → value size bytes < 256 ^ byte_count size
value-below One bytes fits = omega (arith, fits 0)
value-below Two bytes fits = omega (arith, fits 0, fits 1)
value-below Four bytes fits = omega (arith, fits 0, fits 1, fits 2, fits 3)
value-below Eight bytes fits = omega (arith, fits 0, fits 1, fits 2, fits 3, fits 4, fits 5, fits 6, fits 7)

-- what a field takes from the front of bytes
pub record Takes (size : Size) (bytes : List ℕ) (n : ℕ) (rest : List ℕ) : Type 0 where
  pub parts : bytes ≡ bytes_of size n ++ rest
  pub below : n < 256 ^ byte_count size
  pub fits : IsBytes rest
  pub count : byte_count size + length rest ≡ length bytes

pub number_again : (size : Size) (n : ℕ) (rest : List ℕ) → n < 256 ^ byte_count size → number_at size (bytes_of size n ++ rest) ≡ Ok (n, rest)
number_again size n rest lt =
    let len = length-bytes_of size n in
    let long : ltb (length (bytes_of size n ++ rest)) (byte_count size) ≡ false = le-ltb _ _ (omega (arith, length-append (bytes_of size n) rest)) in
    rw (long, take_at (bytes_of size n) rest (byte_count size) len, drop_at (bytes_of size n) rest (byte_count size) len, value-bytes_of size n lt) refl

-- a number is there, or too few bytes are
pub number_cases : (size : Size) (bytes : List ℕ) → IsBytes bytes
    → ((length bytes < byte_count size) × (number_at size bytes ≡ Err (0, reasons.Short))) ⊎ ((n : ℕ) × (rest : List ℕ) × Takes size bytes n rest × (number_at size bytes ≡ Ok (n, rest)))
number_cases size bytes fits =
    elim (cases_lt (length bytes) (byte_count size)) [
      | inl lt ↦ inl (lt, rw (lt-ltb _ _ lt) refl)
      | inr le ↦
          let k = byte_count size in
          let front : bytes_of size (value size (take k bytes)) ≡ take k bytes = bytes_of-value size (take k bytes) (omega (arith, length-take k bytes)) (IsBytes-take k bytes fits) in
          inr (
            value size (take k bytes),
            drop k bytes,
            record {
              parts = rw front (sym (take-append-drop k bytes));
              below = value-below size (take k bytes) (IsBytes-take k bytes fits);
              fits = IsBytes-drop k bytes fits;
              count = omega (arith, length-drop k bytes);
            },
            rw (le-ltb _ _ le) refl,
          )
    ]
