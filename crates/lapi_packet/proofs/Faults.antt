-- The answer where bytes are cut or refused.
use Rattle.std.proofs.Common.{◌≡◌, ◌≢◌, ℕ, ◌+◌, ◌-◌, ◌<◌, ◌≤◌, ◌⊎◌, cond, List, [], ◌∷◌, ◌++◌, length, take, drop, Ok, Err, refl, sym, ap, subst, ◌∙◌, arith, inl, inr}
use Rattle.std.proofs.lemmas.Bool.{cases_lt, lt-ltb}
use Rattle.std.proofs.lemmas.List.{length-append, take_at, drop_at, take-append-drop, take-append-le, drop-append-le}
use Rattle.lapi_base.specs.declared.reply.Bad.{Bad}
use Rattle.lapi_base.specs.declared.reply.Reason.{Reason}
use Rattle.lapi_base.specs.declared.reply.Reason.TheVariants as reasons
use Rattle.lapi_base.specs.Packet.Format.{Size, byte_count, bytes_of, Format, Done, Field, IsSpelled, IsRefused, number_at, reading, whole, answer}
use Rattle.lapi_base.proofs.FormNumbers.{number_again, length-bytes_of}
use Rattle.lapi_base.proofs.FormLaws.{taken, broken, missing}

too_short : (size : Size) (bytes : List ℕ) → length bytes < byte_count size → number_at size bytes ≡ Err (0, reasons.Short)
too_short size bytes lt = rw (lt-ltb _ _ lt) refl

-- ---- cut

-- a front that reaches past a field
past : (size : Size) (n : ℕ) (rest front more : List ℕ) → front ++ more ≡ bytes_of size n ++ rest → byte_count size ≤ length front
    → (front ≡ bytes_of size n ++ drop (byte_count size) front) × (drop (byte_count size) front ++ more ≡ rest)
past size n rest front more e le =
    let k = byte_count size in
    let begun : take k front ≡ bytes_of size n = sym (take-append-le k front more le) ∙ ap (take k) e ∙ take_at (bytes_of size n) rest k (length-bytes_of size n) in
    let left : drop k front ++ more ≡ rest = sym (drop-append-le k front more le) ∙ ap (drop k) e ∙ drop_at (bytes_of size n) rest k (length-bytes_of size n) in
    (sym (take-append-drop k front) ∙ ap (λ (l : List ℕ). l ++ drop k front) begun, left)

some_left : (front more : List ℕ) → front ++ more ≡ [] → more ≢ [] → ⊥
some_left [] more e some = some e
some_left (b ∷ front) more e some = cc

pub cut_reading : {A : Type 0} (f : Format A) (x : A) (front more : List ℕ) → IsSpelled f x (front ++ more) → more ≢ [] → reading f front ≡ Err (0, reasons.Short)
cut_reading (Done a) x front more s some = absurd (some_left front more s.1 some)
cut_reading (Field size why keeps next) x front more s some =
    elim (cases_lt (length front) (byte_count size)) [
      | inl lt ↦ missing (number_at size front) (λ y. cond (keeps y.0) (reading (next y.0) y.1) (Err (length front, why))) (0, reasons.Short) (too_short size front lt)
      | inr le ↦
          let k = byte_count size in
          let p = past size s.0 s.1 front more s.4 le in
          let there : number_at size front ≡ Ok (s.0, drop k front) = ap (number_at size) p.0 ∙ number_again size s.0 (drop k front) s.2 in
          let later = subst (λ (l : List ℕ). IsSpelled (next s.0) x l) (sym p.1) s.5 in
          taken (number_at size front) keeps (λ y. reading (next y.0) y.1) (length front, why) s.0 (drop k front) there s.3 ∙ cut_reading (next s.0) x (drop k front) more later some
    ]

pub cut_answer : {A : Type 0} (f : Format A) (x : A) (front more : List ℕ) → IsSpelled f x (front ++ more) → more ≢ [] → answer f front ≡ Err (record { place = length front; reason = reasons.Short })
cut_answer f x front more s some =
    let all : length front - 0 ≡ length front = omega arith in
    ap (whole (length front)) (cut_reading f x front more s some) ∙ ap (λ (n : ℕ). Err (record { place = n; reason = reasons.Short })) all

-- ---- refused

-- how reading ends where bytes are refused
abbrev Ends : {A : Type 0} → Format A → List ℕ → ℕ → Reason → Type 0
Ends {A = A} f bytes place why =
    ((left : ℕ) × (place + left ≡ length bytes) × (reading f bytes ≡ Err (left, why)))
    ⊎ ((x : A) × (rest : List ℕ) × (0 < length rest) × (place + length rest ≡ length bytes) × (why ≡ reasons.Long) × (reading f bytes ≡ Ok (x, rest)))

refused_reading : {A : Type 0} (f : Format A) (bytes : List ℕ) (place : ℕ) (why : Reason) → IsRefused f bytes place why → Ends f bytes place why
refused_reading (Done a) bytes place why s = inr (a, bytes, s.0, omega (arith, s.1), s.2, refl)
refused_reading (Field size reason keeps next) bytes place why s =
    elim s [
      | inl short ↦ inl (
        0,
        omega (arith, short.1),
        missing (number_at size bytes) (λ y. cond (keeps y.0) (reading (next y.0) y.1) (Err (length bytes, reason))) (0, reasons.Short) (too_short size bytes short.0)
            ∙ ap (λ (r : Reason). Err (0, r)) (sym short.2),
      )
      | inr there ↦
          let n = there.0 in
          let rest = there.1 in
          let here : number_at size bytes ≡ Ok (n, rest) = ap (number_at size) there.3 ∙ number_again size n rest there.2 in
          let count : length bytes ≡ byte_count size + length rest = ap length there.3 ∙ length-append (bytes_of size n) rest ∙ ap (λ (k : ℕ). k + length rest) (length-bytes_of size n) in
          elim there.4 [
            | inl wrong ↦ inl (
              length bytes,
              omega (arith, wrong.1),
              broken (number_at size bytes) keeps (λ y. reading (next y.0) y.1) (length bytes, reason) n rest here wrong.0 ∙ ap (λ (r : Reason). Err (length bytes, r)) (sym wrong.2),
            )
            | inr later ↦
                let one_read = taken (number_at size bytes) keeps (λ y. reading (next y.0) y.1) (length bytes, reason) n rest here later.0 in
                elim (refused_reading (next n) rest later.1 why later.3) [
                  | inl e ↦ inl (e.0, omega (arith, e.1, later.2, count), one_read ∙ e.2)
                  | inr e ↦ inr (e.0, e.1, e.2, omega (arith, e.3, later.2, count), e.4, one_read ∙ e.5)
                ]
          ]
    ]

over : {A : Type 0} (size : ℕ) (x : A) (rest : List ℕ) → 0 < length rest → whole size (Ok (x, rest)) ≡ Err (record { place = size - length rest; reason = reasons.Long })
over size x [] some = absurd (omega arith)
over size x (b ∷ rest) some = refl

pub refused_answer : {A : Type 0} (f : Format A) (bytes : List ℕ) (bad : Bad) → IsRefused f bytes bad.place bad.reason → answer f bytes ≡ Err bad
refused_answer f bytes bad s =
    elim (refused_reading f bytes bad.place bad.reason s) [
      | inl e ↦
          let place : length bytes - e.0 ≡ bad.place = omega (arith, e.1) in
          ap (whole (length bytes)) e.2 ∙ ap (λ (n : ℕ). Err (record { place = n; reason = bad.reason })) place
      | inr e ↦
          let place : length bytes - length e.1 ≡ bad.place = omega (arith, e.3) in
          ap (whole (length bytes)) e.5 ∙ over (length bytes) e.0 e.1 e.2 ∙ ap (λ (n : ℕ). Err (record { place = n; reason = reasons.Long })) place
          ∙ ap (λ (r : Reason). Err (record { place = bad.place; reason = r })) (sym e.4)
    ]
