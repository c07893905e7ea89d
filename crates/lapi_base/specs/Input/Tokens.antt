-- The kinds of words: which words stand for a value, the one of them that is written, and the value as it is read
-- from a word. This is the project's own.
use Rattle.std.specs.Prelude.{◌≡◌, ◌≢◌, ℕ, ◌+◌, ◌-◌, ◌*◌, ◌^◌, ◌<◌, ◌≤◌, ◌==◌, nat_lt, Bool, true, false, if◌then◌else◌, ◌&&◌, ◌⊎◌, List, [], ◌∷◌, ◌++◌, map, Option, Some, None, option_map, option_and_then, Result, Ok, Err, codes}
use Rattle.std.specs.List.{AllZip, slice_split, join_with_byte}
use Rattle.std.specs.Cmp.Lexicographic.{pointwise}
use Rattle.std.specs.Fmt.{decimal}
use Rattle.std.specs.Char.{is_ascii_digit}
use Rattle.hex.specs.Hex.{decode_of, encode_lower}
use Rattle.hex.specs.declared.error.FromHexError.{FromHexError}
use Rattle.lapi_base.specs.declared.address.Addr.{Addr}
use Rattle.lapi_base.specs.declared.address.Addr.TheVariants.{Plain, Table}
use Rattle.lapi_base.specs.declared.piece.Piece.{Piece}
use Rattle.lapi_base.specs.declared.vector.Vector.{Vector}
use Rattle.lapi_base.specs.declared.vector.Vector.TheVariants.{Stride}
use Rattle.lapi_base.specs.declared.message.Leg.{Leg}
use Rattle.lapi_base.specs.declared.message.Leg.TheVariants.{Go, Back, Note, Echo, Join}

-- A counter, hexadecimal text and an optional one may be `-`; the pieces of a plain vector are at plain addresses. A dotted
-- word names statement S of task T, or worker S of it.
pub data Kind : Type 0 where
  Number Counter Hex OptionalHex Address PlainVector TargetVector Dotted LegWord : Kind

-- what a word of the kind stands for
abbrev pub Value : Kind → Type 0
Value Number = ℕ
Value Counter = Option ℕ
Value Hex = List ℕ
Value OptionalHex = List ℕ
Value Address = Addr
Value PlainVector = Vector
Value TargetVector = Vector
Value Dotted = ℕ × ℕ
Value LegWord = Leg

-- ---- which words stand for a value

-- a number of 32 bits, in decimal
abbrev pub IsNumber : ℕ → List ℕ → Type 0
IsNumber n word = (word ≡ decimal n) × (n < 2 ^ 32)

-- n
abbrev pub IsPlainAddress : Addr → List ℕ → Type 0
IsPlainAddress (Plain n) word = IsNumber n word
IsPlainAddress (Table round offset) word = ⊥

-- n, @R or @R+OFF
abbrev pub IsTargetAddress : Addr → List ℕ → Type 0
IsTargetAddress (Plain n) word = IsNumber n word
IsTargetAddress (Table round offset) word =
    (r : List ℕ) × IsNumber round r × (((word ≡ codes "@" ++ r) × (offset ≡ 0)) ⊎ ((o : List ℕ) × IsNumber offset o × (word ≡ codes "@" ++ (r ++ (codes "+" ++ o)))))

-- AT:LEN
abbrev pub IsPieceText : (Addr → List ℕ → Type 0) → Piece → List ℕ → Type 0
IsPieceText At piece word = (at : List ℕ) × (len : List ℕ) × At piece.at at × IsNumber piece.len len × (word ≡ at ++ (codes ":" ++ len))

-- L: and pieces between commas, or S:BASE:BLOCK:STRIDE:COUNT
abbrev pub IsVectorText : (Addr → List ℕ → Type 0) → Vector → List ℕ → Type 0
IsVectorText At (Vector.List pieces) word =
    (texts : List (List ℕ)) × (pieces ≢ []) × AllZip (IsPieceText At) pieces texts × (word ≡ codes "L:" ++ join_with_byte 44 texts)
IsVectorText At (Stride base block stride count) word =
    (b : List ℕ) × (k : List ℕ) × (s : List ℕ) × (c : List ℕ) × At base b × IsNumber block k × IsNumber stride s × IsNumber count c × (1 ≤ count)
    × (word ≡ join_with_byte 58 (codes "S" ∷ b ∷ k ∷ s ∷ c ∷ []))

-- digits of either case, an even number and some
abbrev pub IsHex : List ℕ → List ℕ → Type 0
IsHex bytes word = (decode_of word ≡ Ok bytes) × (bytes ≢ [])

-- T.S
abbrev pub IsDotted : ℕ × ℕ → List ℕ → Type 0
IsDotted x word = (t : List ℕ) × (s : List ℕ) × IsNumber x.0 t × IsNumber x.1 s × (word ≡ t ++ (codes "." ++ s))

-- go, back, note, echo or join-D
abbrev pub IsLegText : Leg → List ℕ → Type 0
IsLegText Go word = word ≡ codes "go"
IsLegText Back word = word ≡ codes "back"
IsLegText Note word = word ≡ codes "note"
IsLegText Echo word = word ≡ codes "echo"
IsLegText (Join d) word = (n : List ℕ) × IsNumber d n × (word ≡ codes "join-" ++ n)

-- The word stands for the value.
abbrev pub Stands : (kind : Kind) → Value kind → List ℕ → Type 0
Stands Number n word = IsNumber n word
Stands Counter None word = word ≡ codes "-"
Stands Counter (Some n) word = IsNumber n word
Stands Hex bytes word = IsHex bytes word
Stands OptionalHex [] word = word ≡ codes "-"
Stands OptionalHex (b ∷ bytes) word = IsHex (b ∷ bytes) word
Stands Address at word = IsTargetAddress at word
Stands PlainVector vector word = IsVectorText IsPlainAddress vector word
Stands TargetVector vector word = IsVectorText IsTargetAddress vector word
Stands Dotted x word = IsDotted x word
Stands LegWord leg word = IsLegText leg word

-- ---- the one word for a value that is written

abbrev pub offset_text : ℕ → List ℕ
offset_text offset = if offset == 0 then [] else codes "+" ++ decimal offset

abbrev pub address_text : Addr → List ℕ
address_text (Plain n) = decimal n
address_text (Table round offset) = codes "@" ++ (decimal round ++ offset_text offset)

abbrev pub piece_text : Piece → List ℕ
piece_text piece = address_text piece.at ++ (codes ":" ++ decimal piece.len)

abbrev pub vector_text : Vector → List ℕ
vector_text (Vector.List pieces) = codes "L:" ++ join_with_byte 44 (map piece_text pieces)
vector_text (Stride base block stride count) = join_with_byte 58 (codes "S" ∷ address_text base ∷ decimal block ∷ decimal stride ∷ decimal count ∷ [])

abbrev pub leg_word : Leg → List ℕ
leg_word Go = codes "go"
leg_word Back = codes "back"
leg_word Note = codes "note"
leg_word Echo = codes "echo"
leg_word (Join d) = codes "join-" ++ decimal d

abbrev pub canonical : (kind : Kind) → Value kind → List ℕ
canonical Number n = decimal n
canonical Counter None = codes "-"
canonical Counter (Some n) = decimal n
canonical Hex bytes = encode_lower bytes
canonical OptionalHex [] = codes "-"
canonical OptionalHex (b ∷ bytes) = encode_lower (b ∷ bytes)
canonical Address at = address_text at
canonical PlainVector vector = vector_text vector
canonical TargetVector vector = vector_text vector
canonical Dotted x = decimal x.0 ++ (codes "." ++ decimal x.1)
canonical LegWord leg = leg_word leg

-- ---- the value that is read from a word

abbrev pub same_text : List ℕ → List ℕ → Bool
same_text a b = pointwise (λ x y. x == y) a b

-- the digits, after those of n
abbrev pub digits_from : ℕ → List ℕ → Option ℕ
digits_from n [] = Some n
digits_from n (b ∷ bytes) = if is_ascii_digit b && nat_lt (n * 10 + (b - 48)) (2 ^ 32) then digits_from (n * 10 + (b - 48)) bytes else None

-- nothing, or a 0 before other digits
abbrev pub is_padded : List ℕ → Bool
is_padded [] = true
is_padded (b ∷ []) = false
is_padded (b ∷ c ∷ bytes) = b == 48

unfoldable pub number_of : List ℕ → Option ℕ
number_of word = if is_padded word then None else digits_from 0 word

unfoldable pub counter_of : List ℕ → Option (Option ℕ)
counter_of word = if same_text word (codes "-") then Some None else option_map (λ n. Some n) (number_of word)

abbrev pub not_empty : Result (List ℕ) FromHexError → Option (List ℕ)
not_empty (Ok []) = None
not_empty (Ok (b ∷ bytes)) = Some (b ∷ bytes)
not_empty (Err e) = None

unfoldable pub hex_of : List ℕ → Option (List ℕ)
hex_of word = not_empty (decode_of word)

unfoldable pub optional_hex_of : List ℕ → Option (List ℕ)
optional_hex_of word = if same_text word (codes "-") then Some [] else hex_of word

-- A word that is cut into parts: a first part and what the others come to, or one part alone.

abbrev pub first_part : {A B : Type 0} → (List ℕ → Option A) → (A → List (List ℕ) → Option B) → List (List ℕ) → Option B
first_part read more [] = None
first_part read more (part ∷ parts) = option_and_then (λ x. more x parts) (read part)

abbrev pub only_part : {A : Type 0} → (List ℕ → Option A) → List (List ℕ) → Option A
only_part read [] = None
only_part read (part ∷ []) = read part
only_part read (part ∷ other ∷ parts) = None

unfoldable pub plain_address_of : List ℕ → Option Addr
plain_address_of word = option_map (λ n. Plain n) (number_of word)

-- what follows the round, cut at each plus sign: nothing, or an offset
abbrev pub offset_of : ℕ → List (List ℕ) → Option Addr
offset_of round [] = Some (Table round 0)
offset_of round (part ∷ parts) = option_map (λ offset. Table round offset) (only_part number_of (part ∷ parts))

unfoldable pub table_of : List ℕ → Option Addr
table_of text = first_part number_of offset_of (slice_split (λ b. b == 43) text)

unfoldable pub address_of : List ℕ → Option Addr
address_of [] = None
address_of (b ∷ text) = if b == 64 then table_of text else plain_address_of (b ∷ text)

unfoldable pub piece_of : (List ℕ → Option Addr) → List ℕ → Option Piece
piece_of at_of text = first_part at_of (λ at parts. option_map (λ len. record { at = at; len = len }) (only_part number_of parts)) (slice_split (λ b. b == 58) text)

abbrev pub pieces_of : (List ℕ → Option Addr) → List (List ℕ) → Option (List Piece)
pieces_of at_of [] = Some []
pieces_of at_of (part ∷ parts) = option_and_then (λ piece. option_map (λ pieces. piece ∷ pieces) (pieces_of at_of parts)) (piece_of at_of part)

unfoldable pub listed_of : (List ℕ → Option Addr) → List ℕ → Option Vector
listed_of at_of text = option_map (λ pieces. Vector.List pieces) (pieces_of at_of (slice_split (λ b. b == 44) text))

abbrev pub some_pieces : Addr → (block stride count : ℕ) → Option Vector
some_pieces base block stride count = if nat_lt 0 count then Some (Stride base block stride count) else None

-- what follows the base: a block, a stride and a count
abbrev pub sizes_of : Addr → List (List ℕ) → Option Vector
sizes_of base parts =
    first_part number_of (λ block parts. first_part number_of (λ stride parts. option_and_then (some_pieces base block stride) (only_part number_of parts)) parts) parts

unfoldable pub strided_of : (List ℕ → Option Addr) → List ℕ → Option Vector
strided_of at_of text = first_part at_of sizes_of (slice_split (λ b. b == 58) text)

-- what follows the letter and its colon
abbrev pub vector_by : (List ℕ → Option Addr) → (letter : ℕ) → List ℕ → Option Vector
vector_by at_of letter text = if letter == 76 then listed_of at_of text else if letter == 83 then strided_of at_of text else None

unfoldable pub vector_of : (List ℕ → Option Addr) → List ℕ → Option Vector
vector_of at_of [] = None
vector_of at_of (letter ∷ []) = None
vector_of at_of (letter ∷ colon ∷ text) = if colon == 58 then vector_by at_of letter text else None

unfoldable pub dotted_of : List ℕ → Option (ℕ × ℕ)
dotted_of word = first_part number_of (λ t parts. option_map (λ s. (t, s)) (only_part number_of parts)) (slice_split (λ b. b == 46) word)

-- what is cut at each hyphen: join, and a number
abbrev pub join_of : List (List ℕ) → Option Leg
join_of [] = None
join_of (first ∷ parts) = if same_text first (codes "join") then option_map (λ d. Join d) (only_part number_of parts) else None

unfoldable pub leg_of : List ℕ → Option Leg
leg_of word =
    if same_text word (codes "go") then Some Go
    else if same_text word (codes "back") then Some Back
    else if same_text word (codes "note") then Some Note
    else if same_text word (codes "echo") then Some Echo
    else join_of (slice_split (λ b. b == 45) word)

unfoldable pub value_of : (kind : Kind) → List ℕ → Option (Value kind)
value_of Number word = number_of word
value_of Counter word = counter_of word
value_of Hex word = hex_of word
value_of OptionalHex word = optional_hex_of word
value_of Address word = address_of word
value_of PlainVector word = vector_of plain_address_of word
value_of TargetVector word = vector_of address_of word
value_of Dotted word = dotted_of word
value_of LegWord word = leg_of word
