-- A word is read as a value where it stands for it, and only there.
use Rattle.std.proofs.Common.{◌≡◌, ◌≢◌, ℕ, ◌≤◌, List, [], ◌∷◌, ◌++◌, length, refl, sym, ap, ◌∙◌, true, false, cond, arith, Some, None, Option, Result, Ok, Err, inl, inr, subst, nat_lt}
use Rattle.std.specs.Prelude.{◌==◌, codes, ◌⊎◌, option_map}
use Rattle.std.specs.List.{slice_split, AllZip, AllByRecursion, join_with_byte}
use Rattle.std.proofs.lemmas.Bool.{ne_eqb, eqb-true, false_from_ne_true, ltb-true, lt-ltb}
use Rattle.std.proofs.lemmas.Option.{none-some, same_Some}
use Rattle.std.proofs.lemmas.List.Elements.{All-append}
use Rattle.std.proofs.lemmas.List.Splits.{slice_split_none, slice_split_at, join_with_byte-slice_split}
use Rattle.hex.specs.declared.error.FromHexError.{FromHexError}
use Rattle.hex.specs.Hex.{decode_of}
use Rattle.lapi_base.specs.declared.address.Addr.{Addr}
use Rattle.lapi_base.specs.declared.address.Addr.TheVariants.{Plain, Table}
use Rattle.lapi_base.specs.declared.piece.Piece.{Piece}
use Rattle.lapi_base.specs.declared.vector.Vector.{Vector}
use Rattle.lapi_base.specs.declared.vector.Vector.TheVariants.{Stride}
use Rattle.lapi_base.specs.Input.Tokens.{Kind, Number, Counter, Hex, OptionalHex, Address, PlainVector, TargetVector, Dotted, LegWord, Value, Stands, IsNumber, IsHex, IsPlainAddress, IsTargetAddress, IsPieceText, IsVectorText, same_text, number_of, counter_of, hex_of, optional_hex_of, not_empty, only_part, plain_address_of, offset_of, table_of, address_of, piece_of, pieces_of, listed_of, some_pieces, sizes_of, strided_of, vector_by, vector_of, value_of}
use Rattle.lapi_text.proofs.Numbers.{number_says, number_read, digit_at_number}
use Rattle.lapi_text.proofs.Parts.{same_text_is, same_text_of, map_some, then_some, chosen, first_says, only_says, Avoids, one_avoids, number_avoids, cut_joined, some_parts}
use Rattle.lapi_text.proofs.NameWords.{dotted_says, dotted_read, leg_says, leg_read}

-- ---- counters and hexadecimal text

counter_cases : (word : List ℕ) (c : Option ℕ) → ((same_text word (codes "-") ≡ true) × (Some None ≡ Some c)) ⊎ ((same_text word (codes "-") ≡ false) × (option_map (λ n. Some n) (number_of word) ≡ Some c)) → Stands Counter c word
counter_cases word c (inl h) = subst (λ c. Stands Counter c word) (same_Some None c h.1) (same_text_is word (codes "-") h.0)
counter_cases word c (inr h) =
    let n = map_some (λ n. Some n) (number_of word) c h.1 in
    subst (λ c. Stands Counter c word) n.2 (number_says word n.0 n.1)

counter_says : (word : List ℕ) (c : Option ℕ) → counter_of word ≡ Some c → Stands Counter c word
unfolding counter_of
counter_says word c e = counter_cases word c (chosen _ _ _ _ e)

dash_is_none : None ≡ number_of (codes "-")
unfolding number_of
dash_is_none = refl

counter_read : (word : List ℕ) (c : Option ℕ) → Stands Counter c word → counter_of word ≡ Some c
unfolding counter_of
counter_read word None is = rw (same_text_of word (codes "-") is) refl
counter_read word (Some n) is =
    let read = number_read word n is in
    let no : same_text word (codes "-") ≡ false = false_from_ne_true _ (λ yes. none-some n (dash_is_none ∙ sym (ap number_of (same_text_is word (codes "-") yes)) ∙ read)) in
    rw (no, read) refl

not_empty_says : (r : Result (List ℕ) FromHexError) (bytes : List ℕ) → not_empty r ≡ Some bytes → (r ≡ Ok bytes) × (bytes ≢ [])
not_empty_says (Ok []) bytes e = absurd (none-some bytes e)
not_empty_says (Ok (b ∷ some)) bytes e =
    let same = same_Some _ _ e in
    (ap (λ x. Ok x) same, λ nil. absurd (omega (arith, ap length (same ∙ nil))))
not_empty_says (Err f) bytes e = absurd (none-some bytes e)

hex_says : (word bytes : List ℕ) → hex_of word ≡ Some bytes → IsHex bytes word
unfolding hex_of
hex_says word bytes e = not_empty_says (decode_of word) bytes e

hex_read : (word bytes : List ℕ) → IsHex bytes word → hex_of word ≡ Some bytes
unfolding hex_of
hex_read word [] is = absurd (is.1 refl)
hex_read word (b ∷ bytes) is = rw is.0 refl

-- what isn't empty stands as hexadecimal text
optional_by : (word bytes : List ℕ) → IsHex bytes word → Stands OptionalHex bytes word
optional_by word [] is = absurd (is.1 refl)
optional_by word (b ∷ bytes) is = is

optional_cases : (word bytes : List ℕ) → ((same_text word (codes "-") ≡ true) × (Some [] ≡ Some bytes)) ⊎ ((same_text word (codes "-") ≡ false) × (hex_of word ≡ Some bytes)) → Stands OptionalHex bytes word
optional_cases word bytes (inl h) = subst (λ bs. Stands OptionalHex bs word) (same_Some [] bytes h.1) (same_text_is word (codes "-") h.0)
optional_cases word bytes (inr h) = optional_by word bytes (hex_says word bytes h.1)

optional_says : (word bytes : List ℕ) → optional_hex_of word ≡ Some bytes → Stands OptionalHex bytes word
unfolding optional_hex_of
optional_says word bytes e = optional_cases word bytes (chosen _ _ _ _ e)

dash_is_odd : None ≡ hex_of (codes "-")
unfolding hex_of
dash_is_odd = refl

optional_read : (word bytes : List ℕ) → Stands OptionalHex bytes word → optional_hex_of word ≡ Some bytes
unfolding optional_hex_of
optional_read word [] is = rw (same_text_of word (codes "-") is) refl
optional_read word (b ∷ bytes) is =
    let read = hex_read word (b ∷ bytes) is in
    let no : same_text word (codes "-") ≡ false = false_from_ne_true _ (λ yes. none-some (b ∷ bytes) (dash_is_odd ∙ sym (ap hex_of (same_text_is word (codes "-") yes)) ∙ read)) in
    rw (no, read) refl

-- ---- addresses

plain_says : (word : List ℕ) (at : Addr) → plain_address_of word ≡ Some at → IsPlainAddress at word
unfolding plain_address_of
plain_says word at e =
    let n = map_some _ (number_of word) at e in
    subst (λ at. IsPlainAddress at word) n.2 (number_says word n.0 n.1)

plain_read : (word : List ℕ) (at : Addr) → IsPlainAddress at word → plain_address_of word ≡ Some at
unfolding plain_address_of
plain_read word (Plain n) is = rw (number_read word n is) refl
plain_read word (Table round offset) is = absurd is

offset_says : (round : ℕ) (r : List ℕ) (parts : List (List ℕ)) (text word : List ℕ) (at : Addr) → IsNumber round r → join_with_byte 43 (r ∷ parts) ≡ text → word ≡ 64 ∷ text → offset_of round parts ≡ Some at → IsTargetAddress at word
offset_says round r [] text word at is joined e read = subst (λ at. IsTargetAddress at word) (same_Some _ _ read) (r, is, inl (e ∙ ap (λ t. 64 ∷ t) (sym joined), refl))
offset_says round r (part ∷ parts) text word at is joined e read =
    let o = map_some _ (only_part number_of (part ∷ parts)) at read in
    let only = only_says number_of (part ∷ parts) o.0 o.1 in
    let whole : r ++ 43 ∷ only.0 ≡ text = subst (λ ps. join_with_byte 43 (r ∷ ps) ≡ text) only.1 joined in
    subst (λ at. IsTargetAddress at word) o.2 (r, is, inr (only.0, number_says only.0 o.0 only.2, e ∙ ap (λ t. 64 ∷ t) (sym whole)))

table_says : (text word : List ℕ) (at : Addr) → word ≡ 64 ∷ text → table_of text ≡ Some at → IsTargetAddress at word
unfolding table_of
table_says text word at e read =
    let f = first_says number_of offset_of (slice_split (λ b. b == 43) text) at read in
    offset_says f.2 f.0 f.1 text word at (number_says f.0 f.2 f.4) (subst (λ ps. join_with_byte 43 ps ≡ text) f.3 (join_with_byte-slice_split 43 text)) e f.5

target_plain : (word : List ℕ) (at : Addr) → IsPlainAddress at word → IsTargetAddress at word
target_plain word (Plain n) is = is
target_plain word (Table round offset) is = absurd is

address_cases : (b : ℕ) (text : List ℕ) (at : Addr) → (((b == 64) ≡ true) × (table_of text ≡ Some at)) ⊎ (((b == 64) ≡ false) × (plain_address_of (b ∷ text) ≡ Some at)) → IsTargetAddress at (b ∷ text)
address_cases b text at (inl h) = table_says text (b ∷ text) at (ap (λ c. c ∷ text) (eqb-true b 64 h.0)) h.1
address_cases b text at (inr h) = target_plain (b ∷ text) at (plain_says (b ∷ text) at h.1)

address_says : (word : List ℕ) (at : Addr) → address_of word ≡ Some at → IsTargetAddress at word
unfolding address_of
address_says [] at e = absurd (none-some at e)
address_says (b ∷ text) at e = address_cases b text at (chosen _ _ _ _ e)

nothing_is_none : None ≡ number_of []
unfolding number_of
nothing_is_none = refl

number_address : (word : List ℕ) (n : ℕ) → IsNumber n word → address_of word ≡ Some (Plain n)
unfolding address_of plain_address_of
number_address [] n is = absurd (none-some n (nothing_is_none ∙ number_read [] n is))
number_address (b ∷ text) n is =
    let low = (digit_at_number (b ∷ text) n is 0 0 (omega arith)).1 in
    rw (ne_eqb b 64 (λ e. omega (arith, e, low)), number_read (b ∷ text) n is) refl

round_read : (r : List ℕ) (round : ℕ) → IsNumber round r → address_of (64 ∷ r) ≡ Some (Table round 0)
unfolding address_of table_of
round_read r round is = rw (slice_split_none (λ b. b == 43) r (number_avoids r round 43 is (inl (omega arith))), number_read r round is) refl

offset_read : (r o : List ℕ) (round offset : ℕ) → IsNumber round r → IsNumber offset o → address_of (64 ∷ (r ++ 43 ∷ o)) ≡ Some (Table round offset)
unfolding address_of table_of
offset_read r o round offset is iso =
    rw (slice_split_at (λ b. b == 43) r 43 o (number_avoids r round 43 is (inl (omega arith))) refl, slice_split_none (λ b. b == 43) o (number_avoids o offset 43 iso (inl (omega arith))), number_read r round is, number_read o offset iso) refl

address_read : (word : List ℕ) (at : Addr) → IsTargetAddress at word → address_of word ≡ Some at
address_read word (Plain n) is = number_address word n is
address_read word (Table round offset) (r, isr, inl h) = rw (h.0, h.1) (round_read r round isr)
address_read word (Table round offset) (r, isr, inr (o, iso, e)) = rw e (offset_read r o round offset isr iso)

-- an address has neither a colon nor a comma
pub plain_avoids : (c : ℕ) (word : List ℕ) (at : Addr) → (c ≡ 44) ⊎ (c ≡ 58) → IsPlainAddress at word → Avoids c word
plain_avoids c word (Plain n) (inl e) is = number_avoids word n c is (inl (omega (arith, e)))
plain_avoids c word (Plain n) (inr e) is = number_avoids word n c is (inr (omega (arith, e)))
plain_avoids c word (Table round offset) ce is = absurd is

pub address_avoids : (c : ℕ) (word : List ℕ) (at : Addr) → (c ≡ 44) ⊎ (c ≡ 58) → IsTargetAddress at word → Avoids c word
address_avoids c word (Plain n) ce is = plain_avoids c word (Plain n) ce is
address_avoids c word (Table round offset) ce (r, isr, inl h) = rw h.0 (All-append (λ b. (b == c) ≡ false) (64 ∷ []) r (one_avoids c 64 (not_64 c ce)) (plain_avoids c r (Plain round) ce isr))
  where
    not_64 : (c : ℕ) → (c ≡ 44) ⊎ (c ≡ 58) → 64 ≢ c
    not_64 c (inl e) h = omega (arith, e, h)
    not_64 c (inr e) h = omega (arith, e, h)
address_avoids c word (Table round offset) ce (r, isr, inr (o, iso, e)) =
    rw e (All-append P (64 ∷ []) (r ++ 43 ∷ o) (one_avoids c 64 (not_64 c ce))
    (All-append P r (43 ∷ o) (plain_avoids c r (Plain round) ce isr) (All-append P (43 ∷ []) o (one_avoids c 43 (not_43 c ce)) (plain_avoids c o (Plain offset) ce iso))))
  where
    P : ℕ → Type 0
    P b = (b == c) ≡ false

    not_64 : (c : ℕ) → (c ≡ 44) ⊎ (c ≡ 58) → 64 ≢ c
    not_64 c (inl e) h = omega (arith, e, h)
    not_64 c (inr e) h = omega (arith, e, h)

    not_43 : (c : ℕ) → (c ≡ 44) ⊎ (c ≡ 58) → 43 ≢ c
    not_43 c (inl e) h = omega (arith, e, h)
    not_43 c (inr e) h = omega (arith, e, h)

-- ---- vectors

-- how the addresses of a vector are read: exactly, and without a colon or a comma
pub record Exact (At : Addr → List ℕ → Type 0) (at_of : List ℕ → Option Addr) : Type 0 where
  pub says : (word : List ℕ) (at : Addr) → at_of word ≡ Some at → At at word
  pub reads : (word : List ℕ) (at : Addr) → At at word → at_of word ≡ Some at
  pub avoids : (c : ℕ) (word : List ℕ) (at : Addr) → (c ≡ 44) ⊎ (c ≡ 58) → At at word → Avoids c word

pub plain_exact : Exact IsPlainAddress plain_address_of
plain_exact = record { says = plain_says; reads = plain_read; avoids = plain_avoids }

pub target_exact : Exact IsTargetAddress address_of
target_exact = record { says = address_says; reads = address_read; avoids = address_avoids }

module _ (At : Addr → List ℕ → Type 0) (at_of : List ℕ → Option Addr) (exact : Exact At at_of) where
  piece_says : (text : List ℕ) (piece : Piece) → piece_of at_of text ≡ Some piece → IsPieceText At piece text
  unfolding piece_of
  piece_says text piece e =
      let f = first_says at_of _ (slice_split (λ b. b == 58) text) piece e in
      let n = map_some _ (only_part number_of f.1) piece f.5 in
      let only = only_says number_of f.1 n.0 n.1 in
      let whole : f.0 ++ 58 ∷ only.0 ≡ text = subst (λ ps. join_with_byte 58 (f.0 ∷ ps) ≡ text) only.1 (subst (λ ps. join_with_byte 58 ps ≡ text) f.3 (join_with_byte-slice_split 58 text)) in
      subst (λ piece. IsPieceText At piece text) n.2 (f.0, only.0, exact.says f.0 f.2 f.4, number_says only.0 n.0 only.2, sym whole)

  piece_read : (text : List ℕ) (piece : Piece) → IsPieceText At piece text → piece_of at_of text ≡ Some piece
  unfolding piece_of
  piece_read text piece (at, len, is, isl, e) =
      rw (
        e,
        slice_split_at (λ b. b == 58) at 58 len (exact.avoids 58 at piece.at (inr refl) is) refl,
        slice_split_none (λ b. b == 58) len (number_avoids len piece.len 58 isl (inr (omega arith))),
        exact.reads at piece.at is,
        number_read len piece.len isl,
      ) refl

  piece_avoids : (text : List ℕ) (piece : Piece) → IsPieceText At piece text → Avoids 44 text
  piece_avoids text piece (at, len, is, isl, e) =
      rw e (All-append (λ b. (b == 44) ≡ false) at (58 ∷ len) (exact.avoids 44 at piece.at (inl refl) is)
      (All-append (λ b. (b == 44) ≡ false) (58 ∷ []) len (one_avoids 44 58 (λ h. omega (arith, h))) (number_avoids len piece.len 44 isl (inl (omega arith)))))

  pieces_say : (texts : List (List ℕ)) (pieces : List Piece) → pieces_of at_of texts ≡ Some pieces → AllZip (IsPieceText At) pieces texts
  pieces_say [] pieces e = subst (λ ps. AllZip (IsPieceText At) ps []) (same_Some _ _ e) tt
  pieces_say (text ∷ texts) pieces e =
      let p = then_some _ (piece_of at_of text) pieces e in
      let ps = map_some _ (pieces_of at_of texts) pieces p.2 in
      subst (λ ps. AllZip (IsPieceText At) ps (text ∷ texts)) ps.2 (piece_says text p.0 p.1, pieces_say texts ps.0 ps.1)

  pieces_read : (pieces : List Piece) (texts : List (List ℕ)) → AllZip (IsPieceText At) pieces texts → pieces_of at_of texts ≡ Some pieces
  pieces_read [] [] z = refl
  pieces_read [] (text ∷ texts) z = absurd z
  pieces_read (piece ∷ pieces) [] z = absurd z
  pieces_read (piece ∷ pieces) (text ∷ texts) z = rw (piece_read text piece z.0, pieces_read pieces texts z.1) refl

  pieces_avoid : (pieces : List Piece) (texts : List (List ℕ)) → AllZip (IsPieceText At) pieces texts → AllByRecursion (Avoids 44) texts
  pieces_avoid [] [] z = tt
  pieces_avoid [] (text ∷ texts) z = absurd z
  pieces_avoid (piece ∷ pieces) [] z = absurd z
  pieces_avoid (piece ∷ pieces) (text ∷ texts) z = (piece_avoids text piece z.0, pieces_avoid pieces texts z.1)

  zip_some : (pieces : List Piece) (texts : List (List ℕ)) (text : List ℕ) (more : List (List ℕ)) → texts ≡ text ∷ more → AllZip (IsPieceText At) pieces texts → pieces ≢ []
  zip_some pieces texts text more e z nil = subst (λ ts. AllZip (IsPieceText At) [] ts) e (subst (λ ps. AllZip (IsPieceText At) ps texts) nil z)

  listed_says : (text word : List ℕ) (v : Vector) → word ≡ 76 ∷ 58 ∷ text → listed_of at_of text ≡ Some v → IsVectorText At v word
  unfolding listed_of
  listed_says text word v is e =
      let ps = map_some _ (pieces_of at_of (slice_split (λ b. b == 44) text)) v e in
      let z = pieces_say (slice_split (λ b. b == 44) text) ps.0 ps.1 in
      let some = some_parts (λ b. b == 44) text in
      subst (λ v. IsVectorText At v word) ps.2
      (slice_split (λ b. b == 44) text, zip_some ps.0 (slice_split (λ b. b == 44) text) some.0 some.1 some.2 z, z, is ∙ ap (λ t. 76 ∷ 58 ∷ t) (sym (join_with_byte-slice_split 44 text)))

  listed_read : (pieces : List Piece) (texts : List (List ℕ)) → pieces ≢ [] → AllZip (IsPieceText At) pieces texts → listed_of at_of (join_with_byte 44 texts) ≡ Some (Vector.List pieces)
  unfolding listed_of
  listed_read [] texts some z = absurd (some refl)
  listed_read (piece ∷ pieces) [] some z = absurd z
  listed_read (piece ∷ pieces) (text ∷ texts) some z =
      let avoid = pieces_avoid (piece ∷ pieces) (text ∷ texts) z in
      rw (cut_joined 44 text texts avoid.0 avoid.1, pieces_read (piece ∷ pieces) (text ∷ texts) z) refl

  four_parts : (text word b k s c : List ℕ) (r1 r2 r3 : List (List ℕ)) → word ≡ 83 ∷ 58 ∷ text → slice_split (λ b. b == 58) text ≡ b ∷ r1 → r1 ≡ k ∷ r2 → r2 ≡ s ∷ r3 → r3 ≡ c ∷ []
      → word ≡ join_with_byte 58 (codes "S" ∷ b ∷ k ∷ s ∷ c ∷ [])
  four_parts text word b k s c r1 r2 r3 is e1 e2 e3 e4 =
      let parts : slice_split (λ b. b == 58) text ≡ b ∷ k ∷ s ∷ c ∷ [] = rw (e1, e2, e3, e4) refl in
      is ∙ ap (λ t. 83 ∷ 58 ∷ t) (sym (subst (λ ps. join_with_byte 58 ps ≡ text) parts (join_with_byte-slice_split 58 text)))

  some_pieces_says : (base : Addr) (block stride count : ℕ) (v : Vector) → some_pieces base block stride count ≡ Some v → (1 ≤ count) × (Stride base block stride count ≡ v)
  some_pieces_says base block stride count v e = at (chosen _ _ _ _ e)
    where
      at : ((nat_lt 0 count ≡ true) × (Some (Stride base block stride count) ≡ Some v)) ⊎ ((nat_lt 0 count ≡ false) × (None ≡ Some v)) → (1 ≤ count) × (Stride base block stride count ≡ v)
      at (inl h) = (ltb-true _ _ h.0, same_Some _ _ h.1)
      at (inr h) = absurd (none-some v h.1)

  stride_is : (base : Addr) (block stride count : ℕ) (b k s c word : List ℕ) (v : Vector) → At base b → IsNumber block k → IsNumber stride s → IsNumber count c → (1 ≤ count) × (Stride base block stride count ≡ v)
      → word ≡ join_with_byte 58 (codes "S" ∷ b ∷ k ∷ s ∷ c ∷ []) → IsVectorText At v word
  stride_is base block stride count b k s c word v isb isk iss isc made e = subst (λ v. IsVectorText At v word) made.1 (b, k, s, c, isb, isk, iss, isc, made.0, e)

  strided_says : (text word : List ℕ) (v : Vector) → word ≡ 83 ∷ 58 ∷ text → strided_of at_of text ≡ Some v → IsVectorText At v word
  unfolding strided_of
  strided_says text word v is e =
      let b = first_says at_of sizes_of (slice_split (λ b. b == 58) text) v e in
      let k = first_says number_of _ b.1 v b.5 in
      let s = first_says number_of _ k.1 v k.5 in
      let c = then_some _ (only_part number_of s.1) v s.5 in
      let only = only_says number_of s.1 c.0 c.1 in
      stride_is b.2 k.2 s.2 c.0 b.0 k.0 s.0 only.0 word v (exact.says b.0 b.2 b.4) (number_says k.0 k.2 k.4) (number_says s.0 s.2 s.4) (number_says only.0 c.0 only.2)
      (some_pieces_says b.2 k.2 s.2 c.0 v c.2) (four_parts text word b.0 k.0 s.0 only.0 b.1 k.1 s.1 is b.3 k.3 s.3 only.1)

  strided_read : (base : Addr) (block stride count : ℕ) (b k s c : List ℕ) → At base b → IsNumber block k → IsNumber stride s → IsNumber count c → 1 ≤ count
      → strided_of at_of (join_with_byte 58 (b ∷ k ∷ s ∷ c ∷ [])) ≡ Some (Stride base block stride count)
  unfolding strided_of
  strided_read base block stride count b k s c isb isk iss isc some =
      let high : (n : ℕ) (w : List ℕ) → IsNumber n w → Avoids 58 w = λ n w is. number_avoids w n 58 is (inr (omega arith)) in
      rw (
        cut_joined 58 b (k ∷ s ∷ c ∷ []) (exact.avoids 58 b base (inr refl) isb) (high block k isk, (high stride s iss, (high count c isc, tt))),
        exact.reads b base isb,
        number_read k block isk,
        number_read s stride iss,
        number_read c count isc,
        lt-ltb 0 count some,
      ) refl

  vector_by_says : (letter : ℕ) (text word : List ℕ) (v : Vector) → word ≡ letter ∷ 58 ∷ text → vector_by at_of letter text ≡ Some v → IsVectorText At v word
  vector_by_says letter text word v is e = at (chosen _ _ _ _ e)
    where
      named : (l : ℕ) → (letter == l) ≡ true → word ≡ l ∷ 58 ∷ text
      named l same = is ∙ ap (λ c. c ∷ 58 ∷ text) (eqb-true letter l same)

      at_s : (((letter == 83) ≡ true) × (strided_of at_of text ≡ Some v)) ⊎ (((letter == 83) ≡ false) × (None ≡ Some v)) → IsVectorText At v word
      at_s (inl h) = strided_says text word v (named 83 h.0) h.1
      at_s (inr h) = absurd (none-some v h.1)

      at : (((letter == 76) ≡ true) × (listed_of at_of text ≡ Some v)) ⊎ (((letter == 76) ≡ false) × (cond (letter == 83) (strided_of at_of text) None ≡ Some v)) → IsVectorText At v word
      at (inl h) = listed_says text word v (named 76 h.0) h.1
      at (inr h) = at_s (chosen _ _ _ _ h.1)

  pub vector_says : (word : List ℕ) (v : Vector) → vector_of at_of word ≡ Some v → IsVectorText At v word
  unfolding vector_of
  vector_says [] v e = absurd (none-some v e)
  vector_says (letter ∷ []) v e = absurd (none-some v e)
  vector_says (letter ∷ colon ∷ text) v e = at (chosen _ _ _ _ e)
    where
      at : (((colon == 58) ≡ true) × (vector_by at_of letter text ≡ Some v)) ⊎ (((colon == 58) ≡ false) × (None ≡ Some v)) → IsVectorText At v (letter ∷ colon ∷ text)
      at (inl h) = vector_by_says letter text (letter ∷ colon ∷ text) v (ap (λ c. letter ∷ c ∷ text) (eqb-true colon 58 h.0)) h.1
      at (inr h) = absurd (none-some v h.1)

  pub vector_read : (word : List ℕ) (v : Vector) → IsVectorText At v word → vector_of at_of word ≡ Some v
  unfolding vector_of
  vector_read word (Vector.List pieces) (texts, some, z, e) = rw e (listed_read pieces texts some z)
  vector_read word (Stride base block stride count) (b, k, s, c, isb, isk, iss, isc, some, e) = rw e (strided_read base block stride count b k s c isb isk iss isc some)

-- what a word is read as, it stands for
pub value_says : (kind : Kind) (word : List ℕ) (v : Value kind) → value_of kind word ≡ Some v → Stands kind v word
unfolding value_of
value_says Number word v e = number_says word v e
value_says Counter word v e = counter_says word v e
value_says Hex word v e = hex_says word v e
value_says OptionalHex word v e = optional_says word v e
value_says Address word v e = address_says word v e
value_says PlainVector word v e = vector_says IsPlainAddress plain_address_of plain_exact word v e
value_says TargetVector word v e = vector_says IsTargetAddress address_of target_exact word v e
value_says Dotted word x e = dotted_says word x e
value_says LegWord word leg e = leg_says word leg e

-- what a word stands for, it is read as
pub value_read : (kind : Kind) (word : List ℕ) (v : Value kind) → Stands kind v word → value_of kind word ≡ Some v
unfolding value_of
value_read Number word v is = number_read word v is
value_read Counter word v is = counter_read word v is
value_read Hex word v is = hex_read word v is
value_read OptionalHex word v is = optional_read word v is
value_read Address word v is = address_read word v is
value_read PlainVector word v is = vector_read IsPlainAddress plain_address_of plain_exact word v is
value_read TargetVector word v is = vector_read IsTargetAddress address_of target_exact word v is
value_read Dotted word x is = dotted_read word x is
value_read LegWord word leg is = leg_read word leg is
