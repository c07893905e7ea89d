-- The canonical text has the rows of its input.
use Rattle.std.proofs.Common.{◌≡◌, ◌≢◌, ℕ, zero, suc, ◌+◌, ◌^◌, ◌/◌, ◌%◌, ◌<◌, ◌≤◌, List, [], ◌∷◌, ◌++◌, length, map, refl, ap, ◌∙◌, Bool, true, false, cond, arith, append_assoc, nat_lt, get_or, inl, inr}
use Rattle.std.specs.Prelude.{codes, filter, IsTrue, ◌==◌, ◌&&◌, ◌⊎◌, nat_le, Some, None}
use Rattle.std.specs.List.{AllZip, AllByRecursion, All, slice_split, onto_first, join_with_byte, flat_map, list_all}
use Rattle.std.specs.Fmt.{decimal}
use Rattle.std.specs.Str.Parse.{AllDigits}
use Rattle.std.proofs.lemmas.List.{append-nil, length-append}
use Rattle.std.proofs.lemmas.List.Splits.{slice_split_none, slice_split_at}
use Rattle.std.proofs.lemmas.List.Folds.{list_all-append}
use Rattle.std.proofs.lemmas.Bool.{lt-ltb, ltb-true, le-leb, leb-true, ne_eqb}
use Rattle.std.proofs.lemmas.Str.Parse.{digit_from_value}
use Rattle.std.proofs.lemmas.Fmt.{decimal_is_IsNumeral}
use Rattle.std.proofs.Math.Dec.{eqb-suc-zero}
use Rattle.hex.specs.Hex.{encode_lower, encode_with, lower_digits, IsBytes}
use Rattle.hex.proofs.HexLemmas.{decode_of-encode_lower}
use Rattle.lapi_base.specs.declared.address.Addr.{Addr}
use Rattle.lapi_base.specs.declared.address.Addr.TheVariants.{Plain, Table}
use Rattle.lapi_base.specs.declared.piece.Piece.{Piece}
use Rattle.lapi_base.specs.declared.message.Leg.{Leg}
use Rattle.lapi_base.specs.declared.message.Leg.TheVariants.{Go, Back, Note, Echo, Join}
use Rattle.lapi_base.specs.declared.vector.Vector.{Vector}
use Rattle.lapi_base.specs.declared.vector.Vector.TheVariants.{Stride}
use Rattle.lapi_base.specs.declared.statement.Statement.{Statement}
use Rattle.lapi_base.specs.declared.statement.Statement.TheVariants.{Store, Put, Get, Putv, Getv, Rmw, Am, Wait, Set, Read, Fence, Gfence}
use Rattle.lapi_base.specs.declared.schedule.Line.{Line}
use Rattle.lapi_base.specs.declared.script.Script.{Script}
use Rattle.lapi_base.specs.declared.input.Input.{Input}
use Rattle.lapi_base.specs.Input.Lines.{lines_of, ended_lines, words_of, is_clean, is_skipped, read_words}
use Rattle.lapi_base.specs.Input.Tokens.{Kind, Number, Counter, Hex, OptionalHex, Address, PlainVector, TargetVector, Dotted, LegWord, Value, Stands, IsPlainAddress, IsTargetAddress, IsPieceText, IsVectorText, IsLegText, leg_word, offset_text, address_text, piece_text, vector_text, canonical}
use Rattle.lapi_base.specs.Packet.Layout.{is_version}
use Rattle.lapi_base.specs.Packet.Spelling.{spells_packet}
use Rattle.lapi_base.specs.Record.Valid.{IsAddress, IsPlain, IsPiece, ValidStatement, ValidScript, ValidLine}
use Rattle.lapi_base.specs.Input.AuditRows.{journal_row}
use Rattle.lapi_base.specs.Input.Rows.{Column, Word, Field, IsColumn, IsRow, head_row, sizes_row, task_row, statement_row, schedule_row, done_row, line_row, task_rows, script_rows, column_text, row_line, row_text, rows, canon, IsInputText}
use Rattle.lapi_base.proofs.LayoutLaws.{two-layouts}
use Rattle.lapi_text.proofs.Bounds.{FitVector, FitLeg, Fit, PartFits, is_bytes, both_true, statement_fits, line_fits}
use Rattle.lapi_text.proofs.Sound.{Fits, ValidList}

-- a word of canonical text: bytes from + to z
abbrev pub IsPlainWord : List ℕ → Type 0
IsPlainWord word = (0 < length word) × AllByRecursion (λ b. (43 ≤ b) × (b ≤ 122)) word

not_in : (c : ℕ) (word : List ℕ) → c < 43 → AllByRecursion (λ b. (43 ≤ b) × (b ≤ 122)) word → All (λ b. (b == c) ≡ false) word
not_in c [] low all k d lt = absurd (omega (arith, lt))
not_in c (b ∷ word) low all zero d lt = ne_eqb b c (λ e. omega (arith, e, all.0.0, low))
not_in c (b ∷ word) low all (suc k) d lt = not_in c word low all.1 k d (omega (arith, lt))

-- the words that were joined
split_joined : (word : List ℕ) (words : List (List ℕ)) → IsPlainWord word → AllByRecursion IsPlainWord words → slice_split (λ b. b == 32) (join_with_byte 32 (word ∷ words)) ≡ word ∷ words
split_joined word [] plain all = slice_split_none (λ b. b == 32) word (not_in 32 word (omega arith) plain.1)
split_joined word (next ∷ words) plain all =
    slice_split_at (λ b. b == 32) word 32 (join_with_byte 32 (next ∷ words)) (not_in 32 word (omega arith) plain.1) refl
    ∙ ap (λ ws. word ∷ ws) (split_joined next words all.0 all.1)

none_empty : (words : List (List ℕ)) → AllByRecursion IsPlainWord words → filter (λ t. nat_lt 0 (length t)) words ≡ words
none_empty [] all = refl
none_empty (word ∷ words) all = rw (lt-ltb 0 (length word) all.0.0) (ap (λ ws. word ∷ ws) (none_empty words all.1))

pub words_joined : (word : List ℕ) (words : List (List ℕ)) → IsPlainWord word → AllByRecursion IsPlainWord words → words_of (join_with_byte 32 (word ∷ words)) ≡ word ∷ words
words_joined word words plain all = ap (filter (λ t. nat_lt 0 (length t))) (split_joined word words plain all) ∙ none_empty (word ∷ words) (plain, all)

pub not_skipped : (word : List ℕ) (words : List (List ℕ)) → IsPlainWord word → is_skipped (word ∷ words) ≡ false
not_skipped [] words plain = absurd (omega (arith, plain.0))
not_skipped (b ∷ word) words plain = ne_eqb b 35 (λ e. omega (arith, e, plain.1.0.0))

clean_append : (a b : List ℕ) → is_clean a ≡ true → is_clean b ≡ true → is_clean (a ++ b) ≡ true
clean_append a b x y = list_all-append (λ c. nat_le 32 c && nat_le c 126) a b ∙ rw (x, y) refl

clean_plain : (word : List ℕ) → AllByRecursion (λ b. (43 ≤ b) × (b ≤ 122)) word → is_clean word ≡ true
clean_plain [] all = refl
clean_plain (b ∷ word) all = rw (le-leb 32 b (omega (arith, all.0.0)), le-leb b 126 (omega (arith, all.0.1)), clean_plain word all.1) refl

pub clean_joined : (word : List ℕ) (words : List (List ℕ)) → IsPlainWord word → AllByRecursion IsPlainWord words → is_clean (join_with_byte 32 (word ∷ words)) ≡ true
clean_joined word [] plain all = clean_plain word plain.1
clean_joined word (next ∷ words) plain all = clean_append word (32 ∷ join_with_byte 32 (next ∷ words)) (clean_plain word plain.1) (clean_joined next words all.0 all.1)

some_parts : (bytes : List ℕ) → (first : List ℕ) × (more : List (List ℕ)) × (slice_split (λ b. b == 10) bytes ≡ first ∷ more)
some_parts [] = ([], [], refl)
some_parts (b ∷ bytes) =
    let rest = some_parts bytes in
    elim (b == 10) as (λ v. (first : List ℕ) × (more : List (List ℕ)) × (cond v ([] ∷ slice_split (λ b. b == 10) bytes) (onto_first b (slice_split (λ b. b == 10) bytes)) ≡ first ∷ more)) [
      | true ↦ ([], slice_split (λ b. b == 10) bytes, refl)
      | false ↦ (b ∷ rest.0, rest.1, ap (onto_first b) rest.2)
    ]

ended_first : (line rest : List ℕ) → ended_lines (line ∷ slice_split (λ b. b == 10) rest) ≡ line ∷ ended_lines (slice_split (λ b. b == 10) rest)
ended_first line rest = let parts = some_parts rest in rw parts.2 refl

-- a line that has no line feed, and then others
pub line_more : (line rest : List ℕ) → All (λ b. (b == 10) ≡ false) line → lines_of (line ++ 10 ∷ rest) ≡ line ∷ lines_of rest
line_more line rest none = ap ended_lines (slice_split_at (λ b. b == 10) line 10 rest none refl) ∙ ended_first line rest

abbrev Plain' : List ℕ → Type 0
Plain' word = AllByRecursion (λ b. (43 ≤ b) × (b ≤ 122)) word

pub plain_by_test : (word : List ℕ) → list_all (λ b. nat_le 43 b && nat_le b 122) word ≡ true → Plain' word
plain_by_test [] e = tt
plain_by_test (b ∷ word) e =
    let both = both_true _ _ e in
    let here = both_true (nat_le 43 b) (nat_le b 122) both.0 in
    ((leb-true 43 b here.0, leb-true b 122 here.1), plain_by_test word both.1)

digits_plain : (ds : List ℕ) → AllDigits 10 ds → Plain' ds
digits_plain [] all = tt
digits_plain (d ∷ ds) all = let range = digit_from_value d all.0 in ((omega (arith, range.0), omega (arith, range.1)), digits_plain ds all.1)

number_plain : (n : ℕ) → n < 2 ^ 32 → IsPlainWord (decimal n)
number_plain n lt =
    let wide : n < 2 ^ 64 = omega (arith, lt) in
    let digits = decimal_is_IsNumeral n wide in
    (digits.0.0, digits_plain (decimal n) digits.0.1)

plain_append : (a b : List ℕ) → Plain' a → Plain' b → Plain' (a ++ b)
plain_append [] b x y = y
plain_append (c ∷ a) b x y = (x.0, plain_append a b x.1 y)

test_at : (test : ℕ → Bool) (xs : List ℕ) (k : ℕ) → list_all test xs ≡ true → k < length xs → test (get_or xs k 0) ≡ true
test_at test [] k all lt = absurd (omega (arith, lt))
test_at test (x ∷ xs) zero all lt = (both_true _ _ all).0
test_at test (x ∷ xs) (suc k) all lt = test_at test xs k (both_true _ _ all).1 (omega (arith, lt))

hex_digit_plain : (k : ℕ) → k < 16 → (43 ≤ get_or lower_digits k 0) × (get_or lower_digits k 0 ≤ 122)
hex_digit_plain k lt =
    let both = both_true _ _ (test_at (λ c. nat_le 43 c && nat_le c 122) lower_digits k refl lt) in
    (leb-true _ _ both.0, leb-true _ _ both.1)

hex_plain : (bytes : List ℕ) → IsBytes bytes → Plain' (encode_lower bytes)
unfolding encode_with
hex_plain [] fits = tt
hex_plain (b ∷ bytes) fits =
    let byte : b < 256 = fits 0 in
    (hex_digit_plain (b / 16) (omega (arith, byte)), (hex_digit_plain (b % 16) (omega (arith, byte)), hex_plain bytes (λ i. fits (suc i))))

hex_some : (bytes : List ℕ) → bytes ≢ [] → 0 < length (encode_lower bytes)
unfolding encode_with
hex_some [] some = absurd (some refl)
hex_some (b ∷ bytes) some = omega arith

some_bytes : (b : ℕ) (bytes : List ℕ) → b ∷ bytes ≢ []
some_bytes b bytes nil = omega (arith, ap (λ (xs : List ℕ). length xs) nil)

-- ---- values

offset_plain : (offset : ℕ) → offset < 2 ^ 32 → Plain' (offset_text offset)
offset_plain zero lt = tt
offset_plain (suc n) lt = rw (eqb-suc-zero n) ((omega arith, omega arith), (number_plain (suc n) lt).1)

address_plain : (at : Addr) → IsAddress at → IsPlainWord (address_text at)
address_plain (Plain n) fit = number_plain n fit
address_plain (Table round offset) fit = (omega arith, ((omega arith, omega arith), plain_append (decimal round) _ (number_plain round fit.0).1 (offset_plain offset fit.1)))

piece_plain : (piece : Piece) → IsPiece piece → Plain' (piece_text piece)
piece_plain piece fit = plain_append (address_text piece.at) _ (address_plain piece.at fit.0).1 ((omega arith, omega arith), (number_plain piece.len fit.1).1)

pieces_plain : (pieces : List Piece) → AllByRecursion IsPiece pieces → AllByRecursion Plain' (map piece_text pieces)
pieces_plain [] fit = tt
pieces_plain (piece ∷ pieces) fit = (piece_plain piece fit.0, pieces_plain pieces fit.1)

joined_plain : (c : ℕ) (texts : List (List ℕ)) → (43 ≤ c) × (c ≤ 122) → AllByRecursion Plain' texts → Plain' (join_with_byte c texts)
joined_plain c [] range all = tt
joined_plain c (text ∷ []) range all = all.0
joined_plain c (text ∷ next ∷ texts) range all = plain_append text _ all.0 (range, joined_plain c (next ∷ texts) range all.1)

vector_plain : (v : Vector) → FitVector v → IsPlainWord (vector_text v)
vector_plain (Vector.List pieces) fit =
    (omega arith, ((omega arith, omega arith), ((omega arith, omega arith), joined_plain 44 (map piece_text pieces) (omega arith, omega arith) (pieces_plain pieces fit.1))))
vector_plain (Stride base block stride count) fit =
    let parts = joined_plain 58 (address_text base ∷ decimal block ∷ decimal stride ∷ decimal count ∷ []) (omega arith, omega arith)
    ((address_plain base fit.2).1, ((number_plain block fit.3).1, ((number_plain stride fit.4).1, ((number_plain count fit.1).1, tt)))) in
    (omega arith, ((omega arith, omega arith), ((omega arith, omega arith), parts)))

dotted_plain : (t s : ℕ) → t < 2 ^ 32 → s < 2 ^ 32 → IsPlainWord (decimal t ++ (codes "." ++ decimal s))
dotted_plain t s small few =
    let first = number_plain t small in
    let len : length (decimal t ++ (codes "." ++ decimal s)) ≡ length (decimal t) + suc (length (decimal s)) = length-append (decimal t) (46 ∷ decimal s) in
    (omega (arith, len), plain_append (decimal t) (46 ∷ decimal s) first.1 ((omega arith, omega arith), (number_plain s few).1))

leg_plain : (leg : Leg) → FitLeg leg → IsPlainWord (leg_word leg)
leg_plain Go fit = (omega arith, plain_by_test (codes "go") refl)
leg_plain Back fit = (omega arith, plain_by_test (codes "back") refl)
leg_plain Note fit = (omega arith, plain_by_test (codes "note") refl)
leg_plain Echo fit = (omega arith, plain_by_test (codes "echo") refl)
leg_plain (Join d) fit = (omega arith, plain_append (codes "join-") (decimal d) (plain_by_test (codes "join-") refl) (number_plain d fit).1)

-- a value's text is a plain word
value_plain : (kind : Kind) (v : Value kind) → Fit kind v → IsPlainWord (canonical kind v)
value_plain Number n fit = number_plain n fit
value_plain Counter None fit = (omega arith, ((omega arith, omega arith), tt))
value_plain Counter (Some n) fit = number_plain n fit
value_plain Hex bytes fit = (hex_some bytes fit.1, hex_plain bytes (is_bytes bytes fit.0))
value_plain OptionalHex [] fit = (omega arith, ((omega arith, omega arith), tt))
value_plain OptionalHex (b ∷ bytes) fit = (hex_some (b ∷ bytes) (some_bytes b bytes), hex_plain (b ∷ bytes) (is_bytes (b ∷ bytes) fit))
value_plain Address at fit = address_plain at fit
value_plain PlainVector v fit = vector_plain v fit.0
value_plain TargetVector v fit = vector_plain v fit
value_plain Dotted x fit = dotted_plain x.0 x.1 fit.0 fit.1
value_plain LegWord leg fit = leg_plain leg fit

plain_stands : (at : Addr) → IsAddress at → IsPlain at → IsPlainAddress at (address_text at)
plain_stands (Plain n) fit plain = (refl, fit)
plain_stands (Table round offset) fit plain = absurd plain

target_stands : (at : Addr) → IsAddress at → IsTargetAddress at (address_text at)
target_stands (Plain n) fit = (refl, fit)
target_stands (Table round zero) fit = (decimal round, (refl, fit.0), inl (ap (λ d. 64 ∷ d) (append-nil (decimal round)), refl))
target_stands (Table round (suc n)) fit = (decimal round, (refl, fit.0), inr (decimal (suc n), (refl, fit.1), rw (eqb-suc-zero n) refl))

pieces_at_plain : (pieces : List Piece) → AllByRecursion IsPiece pieces → AllByRecursion (λ p. IsPlain p.at) pieces → AllByRecursion (λ p. IsPlainAddress p.at (address_text p.at)) pieces
pieces_at_plain [] fit plain = tt
pieces_at_plain (p ∷ pieces) fit plain = (plain_stands p.at fit.0.0 plain.0, pieces_at_plain pieces fit.1 plain.1)

pieces_at_target : (pieces : List Piece) → AllByRecursion IsPiece pieces → AllByRecursion (λ p. IsTargetAddress p.at (address_text p.at)) pieces
pieces_at_target [] fit = tt
pieces_at_target (p ∷ pieces) fit = (target_stands p.at fit.0.0, pieces_at_target pieces fit.1)

some_pieces : (pieces : List Piece) → 1 ≤ length pieces → pieces ≢ []
some_pieces [] some nil = absurd (omega (arith, some))
some_pieces (p ∷ pieces) some nil = omega (arith, ap (λ ps. length ps) nil)

module _ (At : Addr → List ℕ → Type 0) where
  pieces_stand : (pieces : List Piece) → AllByRecursion IsPiece pieces → AllByRecursion (λ p. At p.at (address_text p.at)) pieces → AllZip (IsPieceText At) pieces (map piece_text pieces)
  pieces_stand [] fit at = tt
  pieces_stand (p ∷ pieces) fit at = ((address_text p.at, decimal p.len, at.0, (refl, fit.0.1), refl), pieces_stand pieces fit.1 at.1)

  list_stands : (pieces : List Piece) → FitVector (Vector.List pieces) → AllByRecursion (λ p. At p.at (address_text p.at)) pieces → IsVectorText At (Vector.List pieces) (vector_text (Vector.List pieces))
  list_stands pieces fit at = (map piece_text pieces, some_pieces pieces fit.0, pieces_stand pieces fit.1 at, refl)

  stride_stands : (base : Addr) (block stride count : ℕ) → FitVector (Stride base block stride count) → At base (address_text base) → IsVectorText At (Stride base block stride count) (vector_text (Stride base block stride count))
  stride_stands base block stride count fit at =
      (address_text base, decimal block, decimal stride, decimal count, at, (refl, fit.3), (refl, fit.4), (refl, fit.1), fit.0, refl)

leg_stands : (leg : Leg) → FitLeg leg → IsLegText leg (leg_word leg)
leg_stands Go fit = refl
leg_stands Back fit = refl
leg_stands Note fit = refl
leg_stands Echo fit = refl
leg_stands (Join d) fit = (decimal d, (refl, fit), refl)

-- and stands for the value
value_stands : (kind : Kind) (v : Value kind) → Fit kind v → Stands kind v (canonical kind v)
value_stands Number n fit = (refl, fit)
value_stands Counter None fit = refl
value_stands Counter (Some n) fit = (refl, fit)
value_stands Hex bytes fit = (decode_of-encode_lower bytes (is_bytes bytes fit.0), fit.1)
value_stands OptionalHex [] fit = refl
value_stands OptionalHex (b ∷ bytes) fit = (decode_of-encode_lower (b ∷ bytes) (is_bytes (b ∷ bytes) fit), some_bytes b bytes)
value_stands Address at fit = target_stands at fit
value_stands PlainVector (Vector.List pieces) fit = list_stands IsPlainAddress pieces fit.0 (pieces_at_plain pieces fit.0.1 fit.1)
value_stands PlainVector (Stride base block stride count) fit = stride_stands IsPlainAddress base block stride count fit.0 (plain_stands base fit.0.2 fit.1)
value_stands TargetVector (Vector.List pieces) fit = list_stands IsTargetAddress pieces fit (pieces_at_target pieces fit.1)
value_stands TargetVector (Stride base block stride count) fit = stride_stands IsTargetAddress base block stride count fit (target_stands base fit.2)
value_stands Dotted x fit = (decimal x.0, decimal x.1, (refl, fit.0), (refl, fit.1), refl)
value_stands LegWord leg fit = leg_stands leg fit

part_plain : (p : Column) → PartFits p → IsPlainWord (column_text p)
part_plain (Word text) fits = let both = both_true (nat_lt 0 (length text)) _ fits in (ltb-true 0 (length text) both.0, plain_by_test text both.1)
part_plain (Field kind v) fits = value_plain kind v fits

part_stands : (p : Column) → PartFits p → IsColumn p (column_text p)
part_stands (Word text) fits = refl
part_stands (Field kind v) fits = value_stands kind v fits

-- ---- rows

-- a row of parts that can be written
abbrev pub RowFits : List Column → Type 0
RowFits row = (0 < length row) × AllByRecursion PartFits row

parts_plain : (row : List Column) → AllByRecursion PartFits row → AllByRecursion IsPlainWord (map column_text row)
parts_plain [] all = tt
parts_plain (p ∷ row) all = (part_plain p all.0, parts_plain row all.1)

parts_stand : (row : List Column) → AllByRecursion PartFits row → IsRow row (map column_text row)
parts_stand [] all = tt
parts_stand (p ∷ row) all = (part_stands p all.0, parts_stand row all.1)

no_feed : (line : List ℕ) → is_clean line ≡ true → All (λ b. (b == 10) ≡ false) line
no_feed [] clean k d lt = absurd (omega (arith, lt))
no_feed (b ∷ line) clean zero d lt = let low : 32 ≤ b = leb-true 32 b (both_true _ _ (both_true _ _ clean).0).0 in ne_eqb b 10 (λ e. omega (arith, e, low))
no_feed (b ∷ line) clean (suc k) d lt = no_feed line (both_true _ _ clean).1 k d (omega (arith, lt))

row_clean : (row : List Column) → RowFits row → is_clean (row_line row) ≡ true
row_clean [] fits = absurd (omega (arith, fits.0))
row_clean (p ∷ row) fits = clean_joined (column_text p) (map column_text row) (part_plain p fits.1.0) (parts_plain row fits.1.1)

row_words : (row : List Column) → RowFits row → (words_of (row_line row) ≡ map column_text row) × (is_skipped (map column_text row) ≡ false)
row_words [] fits = absurd (omega (arith, fits.0))
row_words (p ∷ row) fits = (words_joined (column_text p) (map column_text row) (part_plain p fits.1.0) (parts_plain row fits.1.1), not_skipped (column_text p) (map column_text row) (part_plain p fits.1.0))

-- the lines of the rows' text
pub text_lines : (rows : List (List Column)) → AllByRecursion RowFits rows → lines_of (flat_map row_text rows) ≡ map row_line rows
text_lines [] fits = refl
text_lines (row ∷ rows) fits =
    ap lines_of (append_assoc (row_line row) (10 ∷ []) (flat_map row_text rows))
    ∙ line_more (row_line row) (flat_map row_text rows) (no_feed (row_line row) (row_clean row fits.0))
    ∙ ap (λ ls. row_line row ∷ ls) (text_lines rows fits.1)

pub lines_clean : (rows : List (List Column)) → AllByRecursion RowFits rows → AllByRecursion (λ line. IsTrue (is_clean line)) (map row_line rows)
lines_clean [] fits = tt
lines_clean (row ∷ rows) fits = (row_clean row fits.0, lines_clean rows fits.1)

pub lines_stand : (rows : List (List Column)) → AllByRecursion RowFits rows → AllZip IsRow rows (read_words (map row_line rows))
lines_stand [] fits = tt
lines_stand (row ∷ rows) fits =
    let w = row_words row fits.0 in
    rw (w.0, w.1) (parts_stand row fits.0.1, lines_stand rows fits.1)

-- ---- the rows of an input

statement_some : (s : Statement) → 0 < length (statement_row s)
statement_some (Store at bytes) = omega arith
statement_some (Put target to from len tgt org cmpl) = omega arith
statement_some (Get target from to len tgt org) = omega arith
statement_some (Putv target to from tgt org cmpl) = omega arith
statement_some (Getv target from to tgt org) = omega arith
statement_some (Rmw target op at in1 in2 prev org) = omega arith
statement_some (Am target handler header from len tgt org cmpl) = omega arith
statement_some (Wait c value) = omega arith
statement_some (Set c value) = omega arith
statement_some (Read c) = omega arith
statement_some Fence = omega arith
statement_some Gfence = omega arith
statement_some (Statement.Addr at) = omega arith

pub all_append : {A : Type 0} (P : A → Type 0) (xs ys : List A) → AllByRecursion P xs → AllByRecursion P ys → AllByRecursion P (xs ++ ys)
all_append P [] ys a b = b
all_append P (x ∷ xs) ys a b = (a.0, all_append P xs ys a.1 b)

statements_fit : (list : List Statement) → AllByRecursion ValidStatement list → AllByRecursion RowFits (map statement_row list)
statements_fit [] valid = tt
statements_fit (s ∷ list) valid = ((statement_some s, statement_fits s valid.0), statements_fit list valid.1)

pub task_fits : (t : ℕ) → t < 2 ^ 32 → RowFits (task_row t)
task_fits t lt = (omega arith, (refl, (lt, tt)))

pub schedule_fits : RowFits schedule_row
schedule_fits = (omega arith, (refl, tt))

pub journal_fits : RowFits journal_row
journal_fits = (omega arith, (refl, tt))

pub done_fits : RowFits done_row
done_fits = (omega arith, (refl, tt))

pub head_fits : (layout : ℕ) → is_version layout ≡ true → RowFits (head_row layout)
head_fits layout is = (omega arith, (refl, (in_range (two-layouts layout is), tt)))
  where
    in_range : (layout ≡ 1) ⊎ (layout ≡ 2) → layout < 2 ^ 32
    in_range (inl one) = omega (arith, one)
    in_range (inr two) = omega (arith, two)

pub sizes_fits : (s : Script) → s.tasks ≤ 8 → s.memory ≤ 65536 → s.counters ≤ 64 → s.workers ≤ 4 → RowFits (sizes_row s)
sizes_fits s tasks memory counters workers = (omega arith, (refl, (omega (arith, tasks), (refl, (omega (arith, memory), (refl, (omega (arith, counters), (refl, (omega (arith, workers), tt)))))))))

tasks_fit : (k : ℕ) (lists : List (List Statement)) → k + length lists ≤ 8 → AllByRecursion ValidList lists → AllByRecursion RowFits (task_rows k lists)
tasks_fit k [] few valid = tt
tasks_fit k (list ∷ lists) few valid =
    (task_fits k (omega (arith, few)), all_append RowFits (map statement_row list) (task_rows (k + 1) lists) (statements_fit list valid.0.1) (tasks_fit (k + 1) lists (omega (arith, few)) valid.1))

lines_fit : (script : Script) (schedule : List Line) → script.tasks ≤ 8 → script.workers ≤ 4 → AllByRecursion (ValidLine script spells_packet) schedule → AllByRecursion RowFits (map line_row schedule)
lines_fit script [] tasks workers valid = tt
lines_fit script (line ∷ schedule) tasks workers valid = ((omega arith, line_fits script line tasks workers valid.0), lines_fit script schedule tasks workers valid.1)

-- the rows of a valid script can be written
pub script_fits : (s : Script) → ValidScript s → AllByRecursion RowFits (script_rows s)
script_fits s v = (
  head_fits s.layout v.layout,
  (sizes_fits s v.tasks.1 v.memory.1 v.counters v.workers.1, tasks_fit 0 s.lists (omega (arith, v.one_list_each, v.tasks.1)) v.lists),
)

rows_fit : (x : Input) → Fits x → AllByRecursion RowFits (rows x)
rows_fit x fits =
    let v = fits.script in (
      head_fits x.script.layout v.layout,
      (
        sizes_fits x.script v.tasks.1 v.memory.1 v.counters v.workers.1,
        all_append RowFits (task_rows 0 x.script.lists) (schedule_row ∷ (map line_row x.schedule ++ done_row ∷ []))
            (tasks_fit 0 x.script.lists (omega (arith, v.one_list_each, v.tasks.1)) v.lists)
            (schedule_fits, all_append RowFits (map line_row x.schedule) (done_row ∷ []) (lines_fit x.script x.schedule v.tasks.1 v.workers.1 fits.schedule.lines) (done_fits, tt)),
      ),
    )

-- the canonical text is read as its input
pub canon_reads : (x : Input) → Fits x → IsInputText x (canon x)
canon_reads x fits =
    let rs = rows_fit x fits in
    let ls = text_lines (rows x) rs in
    rw ls (record { clean = lines_clean (rows x) rs; rows = lines_stand (rows x) rs; script = fits.script; schedule = fits.schedule })
