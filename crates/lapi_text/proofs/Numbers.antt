-- A number is read from its decimal text and from no other.
use Rattle.std.proofs.Common.{◌≡◌, ℕ, zero, suc, ◌+◌, ◌-◌, ◌*◌, ◌^◌, ◌<◌, ◌≤◌, List, [], ◌∷◌, length, get_or, refl, sym, ap, ◌∙◌, Bool, true, false, cond, arith, Some, None, Option, lit<}
use Rattle.std.specs.Prelude.{◌==◌, ◌&&◌}
use Rattle.std.specs.Char.{is_ascii_digit, digit_value}
use Rattle.std.specs.Int.{IsInRange}
use Rattle.std.specs.Fmt.{decimal}
use Rattle.std.specs.Str.Parse.{AllDigits, digits_value, digits_value_after}
use Rattle.std.proofs.lemmas.Bool.{ltb-true, leb-true, le-leb, lt-ltb, ne_eqb, true≢false, false≢true}
use Rattle.std.proofs.lemmas.List.{get_or_default}
use Rattle.std.proofs.lemmas.Str.{digit_value_digit}
use Rattle.std.proofs.lemmas.Str.Parse.{IsNumeralModel, numerals_by_value, tells_digits, digit_from_value, digit_at}
use Rattle.std.proofs.lemmas.Fmt.{decimal_is_IsNumeral, decimal-digits_value, first_decimal, decimal_digit}
use Rattle.std.proofs.lemmas.Option.{none-some, same_Some}
use Rattle.lapi_base.specs.Input.Tokens.{digits_from, is_padded, number_of, IsNumber}

own : IsNumeralModel (AllDigits 10) (digits_value 10)
own = numerals_by_value (AllDigits 10) tells_digits

guarded : (c : Bool) (o : Option ℕ) (y : ℕ) → cond c o None ≡ Some y → (c ≡ true) × (o ≡ Some y)
guarded true o y e = (refl, e)
guarded false o y e = absurd (none-some y e)

both_true : (a b : Bool) → (a && b) ≡ true → (a ≡ true) × (b ≡ true)
both_true true b e = (refl, e)
both_true false b e = (e, absurd (false≢true e))

digit_range : (b : ℕ) → is_ascii_digit b ≡ true → IsInRange 48 57 b
digit_range b e = let parts = both_true _ _ e in (leb-true _ _ parts.0, leb-true _ _ parts.1)

digit_test : (b : ℕ) → IsInRange 48 57 b → is_ascii_digit b ≡ true
digit_test b range = rw (le-leb 48 b range.0, le-leb b 57 range.1) refl

digit_is : (b : ℕ) → IsInRange 48 57 b → digit_value b ≡ b - 48
digit_is b range = omega (arith, digit_value_digit b range, range.0)

-- digits are read to their value
digits_say : (word : List ℕ) (m n : ℕ) → m < 2 ^ 32 → digits_from m word ≡ Some n → AllDigits 10 word × (digits_value_after 10 m word ≡ n) × (n < 2 ^ 32)
digits_say [] m n small e = let same = same_Some m n e in (tt, same, rw (← same) small)
digits_say (b ∷ word) m n small e =
    let found = guarded _ _ _ e in
    let tests = both_true _ _ found.0 in
    let range = digit_range b tests.0 in
    let is = digit_is b range in
    let rest = digits_say word (m * 10 + (b - 48)) n (ltb-true _ _ tests.1) found.1 in
    ((omega (arith, is, range.1), rest.0), ap (λ d. digits_value_after 10 (m * 10 + d) word) is ∙ rest.1, rest.2)

value_grows : (word : List ℕ) (m : ℕ) → m ≤ digits_value_after 10 m word
value_grows [] m = omega arith
value_grows (b ∷ word) m = omega (arith, value_grows word (m * 10 + digit_value b))

digits_read : (word : List ℕ) (m : ℕ) → AllDigits 10 word → digits_value_after 10 m word < 2 ^ 32 → digits_from m word ≡ Some (digits_value_after 10 m word)
digits_read [] m all small = refl
digits_read (b ∷ word) m all small =
    let range = digit_from_value b all.0 in
    let is = digit_is b range in
    let low : m * 10 + (b - 48) < 2 ^ 32 = omega (arith, is, small, value_grows word (m * 10 + digit_value b)) in
    rw (digit_test b range, lt-ltb _ _ low) (ap (λ d. digits_from (m * 10 + d) word) (sym is) ∙ digits_read word (m * 10 + digit_value b) all.1 small)

padded_false : (word : List ℕ) → is_padded word ≡ false → (0 < length word) × (get_or word 0 0 ≡ 48 → length word ≡ 1)
padded_false [] e = absurd (true≢false e)
padded_false (b ∷ []) e = (omega arith, λ _. refl)
padded_false (b ∷ c ∷ word) e = (omega arith, λ is. absurd (true≢false (sym (ap (λ x. x == 48) is) ∙ e)))

unless : (c : Bool) (o : Option ℕ) (y : ℕ) → cond c None o ≡ Some y → (c ≡ false) × (o ≡ Some y)
unless true o y e = absurd (none-some y e)
unless false o y e = (refl, e)

-- what is read as a number is its text
pub number_says : (word : List ℕ) (n : ℕ) → number_of word ≡ Some n → IsNumber n word
unfolding number_of
number_says word n e =
    let found = unless _ _ _ e in
    let shape = padded_false word found.0 in
    let says = digits_say word 0 n (lit< tt) found.1 in
    let small : digits_value 10 word < 2 ^ 64 = omega (arith, says.1, says.2) in
    (sym (decimal-digits_value own word says.0 shape.0 shape.1 small) ∙ ap decimal says.1, says.2)

not_padded : (word : List ℕ) → 0 < length word → (get_or word 0 0 ≡ 48 → length word ≡ 1) → is_padded word ≡ false
not_padded [] some first = absurd (omega (arith, some))
not_padded (b ∷ []) some first = refl
not_padded (b ∷ c ∷ word) some first = ne_eqb b 48 (λ e. omega (arith, first e))

first_zero : (n : ℕ) → n < 2 ^ 64 → get_or (decimal n) 0 0 ≡ 48 → length (decimal n) ≡ 1
first_zero zero small first = ap length (decimal_digit 0 (lit< tt))
first_zero (suc n) small first = absurd (omega (arith, first_decimal (suc n) (omega arith) small, first))

-- a number's text is read
pub number_read : (word : List ℕ) (n : ℕ) → IsNumber n word → number_of word ≡ Some n
unfolding number_of
number_read word n is =
    let wide : n < 2 ^ 64 = omega (arith, is.1) in
    let digits = decimal_is_IsNumeral n wide in
    let plain = not_padded (decimal n) digits.0.0 (first_zero n wide) in
    let read = digits_read (decimal n) 0 digits.0.1 (rw digits.1 is.1) in
    rw (is.0, plain) (read ∙ ap (λ v. Some v) digits.1)

-- a number's text has digits alone
pub digit_at_number : (word : List ℕ) (n : ℕ) → IsNumber n word → (k d : ℕ) → k < length word → IsInRange 48 57 (get_or word k d)
digit_at_number word n is k d lt =
    let wide : n < 2 ^ 64 = omega (arith, is.1) in
    let all : AllDigits 10 word = rw is.0 (decimal_is_IsNumeral n wide).0.1 in
    rw (get_or_default word k d 0 lt) (digit_at word k all lt)
