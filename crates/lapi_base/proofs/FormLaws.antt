-- What holds of every form: what is read is spelled so, what is spelled so is read, and what is neither is refused.
use Rattle.std.proofs.Common.{◌≡◌, ℕ, ◌+◌, ◌-◌, ◌^◌, ◌<◌, ◌≤◌, ◌⊎◌, Bool, true, false, cond, List, [], ◌∷◌, ◌++◌, length, Result, Ok, Err, refl, sym, ap, subst, ◌∙◌, append_assoc, arith, inl, inr}
use Rattle.std.specs.Prelude.{IsTrue}
use Rattle.std.proofs.lemmas.Bool.{cases_Bool}
use Rattle.std.proofs.lemmas.List.{append-nil, length-append}
use Rattle.lapi_base.specs.declared.reply.Bad.{Bad}
use Rattle.lapi_base.specs.declared.reply.Reason.{Reason}
use Rattle.lapi_base.specs.declared.reply.Reason.TheVariants as reasons
use Rattle.lapi_base.specs.Packet.Format.{byte_count, bytes_of, Format, Done, Field, ◌>>=◌, IsSpelled, IsRefused, and_then, number_at, reading, whole, answer}
use Rattle.lapi_base.proofs.FormNumbers.{IsBytes, number_again, number_cases, length-bytes_of}

-- ---- one field

-- a number that keeps its rule
pub taken : {B : Type 0} (r : Result (ℕ × List ℕ) (ℕ × Reason)) (keeps : ℕ → Bool) (next : ℕ × List ℕ → Result B (ℕ × Reason)) (fault : ℕ × Reason) (n : ℕ) (rest : List ℕ)
    → r ≡ Ok (n, rest) → keeps n ≡ true → and_then r (λ x. cond (keeps x.0) (next x) (Err fault)) ≡ next (n, rest)
taken r keeps next fault n rest e k = rw (e, k) refl

-- one that breaks it
pub broken : {B : Type 0} (r : Result (ℕ × List ℕ) (ℕ × Reason)) (keeps : ℕ → Bool) (next : ℕ × List ℕ → Result B (ℕ × Reason)) (fault : ℕ × Reason) (n : ℕ) (rest : List ℕ)
    → r ≡ Ok (n, rest) → keeps n ≡ false → and_then r (λ x. cond (keeps x.0) (next x) (Err fault)) ≡ Err fault
broken r keeps next fault n rest e k = rw (e, k) refl

-- none
pub missing : {B : Type 0} (r : Result (ℕ × List ℕ) (ℕ × Reason)) (next : ℕ × List ℕ → Result B (ℕ × Reason)) (fault : ℕ × Reason) → r ≡ Err fault → and_then r next ≡ Err fault
missing r next fault e = rw e refl

-- ---- one form behind another

then_more : {A B : Type 0} (r : Result (ℕ × List ℕ) (ℕ × Reason)) (keeps : ℕ → Bool) (fault : ℕ × Reason) (more : ℕ → Format A) (g : A → Format B)
    → ((n : ℕ) (rest : List ℕ) → reading (more n >>= g) rest ≡ and_then (reading (more n) rest) (λ x. reading (g x.0) x.1))
    → and_then r (λ x. cond (keeps x.0) (reading (more x.0 >>= g) x.1) (Err fault)) ≡ and_then (and_then r (λ x. cond (keeps x.0) (reading (more x.0) x.1) (Err fault))) (λ x. reading (g x.0) x.1)
then_more (Err e) keeps fault more g each = refl
then_more (Ok x) keeps fault more g each =
    elim (keeps x.0) as (λ b. cond b (reading (more x.0 >>= g) x.1) (Err fault) ≡ and_then (cond b (reading (more x.0) x.1) (Err fault)) (λ y. reading (g y.0) y.1)) [ true ↦ each x.0 x.1 | false ↦ refl ]

pub read_bind : {A B : Type 0} (f : Format A) (g : A → Format B) (bytes : List ℕ) → reading (f >>= g) bytes ≡ and_then (reading f bytes) (λ x. reading (g x.0) x.1)
read_bind (Done a) g bytes = refl
read_bind (Field size why keeps more) g bytes = then_more (number_at size bytes) keeps (length bytes, why) more g (λ n rest. read_bind (more n) g rest)

-- ---- what is spelled is read

pub read_spelled : {A : Type 0} (f : Format A) (x : A) (bytes rest : List ℕ) → IsSpelled f x bytes → reading f (bytes ++ rest) ≡ Ok (x, rest)
read_spelled (Done a) x bytes rest s = rw (s.0, s.1) refl
read_spelled (Field size why keeps more) x bytes rest s =
    let regrouped : bytes ++ rest ≡ bytes_of size s.0 ++ (s.1 ++ rest) = ap (λ (l : List ℕ). l ++ rest) s.4 ∙ append_assoc (bytes_of size s.0) s.1 rest in
    let whole_read = ap (reading (Field size why keeps more)) regrouped in
    let one_read = taken (number_at size (bytes_of size s.0 ++ (s.1 ++ rest))) keeps (λ y. reading (more y.0) y.1) (length (bytes_of size s.0 ++ (s.1 ++ rest)), why) s.0 (s.1 ++ rest) (number_again size s.0 (s.1 ++ rest) s.2) s.3 in
    whole_read ∙ one_read ∙ read_spelled (more s.0) x s.1 rest s.5

pub all_read : {A : Type 0} (f : Format A) (x : A) (bytes : List ℕ) → IsSpelled f x bytes → reading f bytes ≡ Ok (x, [])
all_read f x bytes s = ap (reading f) (sym (append-nil bytes)) ∙ read_spelled f x bytes [] s

-- what is spelled is the answer
pub answer_spelled : {A : Type 0} (f : Format A) (x : A) (bytes : List ℕ) → IsSpelled f x bytes → answer f bytes ≡ Ok x
answer_spelled f x bytes s = ap (whole (length bytes)) (all_read f x bytes s)

abbrev pub done : {A : Type 0} → A × List ℕ → Result (A × List ℕ) (ℕ × Reason)
done x = Ok x

abbrev pub failed : (A : Type 0) → ℕ × Reason → Result (A × List ℕ) (ℕ × Reason)
failed A fault = Err fault

pub pair_is : {A : Type 0} (x y : A × List ℕ) → done x ≡ done y → x ≡ y
pair_is x y e = cc

-- no spelling begins another
pub no_prefix : {A : Type 0} (f : Format A) (x y : A) (bytes more : List ℕ) → IsSpelled f x bytes → IsSpelled f y (bytes ++ more) → more ≡ []
no_prefix f x y bytes more s t = ap (λ p. p.1) (pair_is (x, more) (y, []) (sym (read_spelled f x bytes more s) ∙ all_read f y (bytes ++ more) t))

-- ---- reading ends in one of two ways

pub record Succeeds {A : Type 0} (f : Format A) (bytes : List ℕ) : Type 0 where
  pub value : A
  pub spelling : List ℕ
  pub rest : List ℕ
  pub parts : bytes ≡ spelling ++ rest
  pub spelled : IsSpelled f value spelling
  pub gives : reading f bytes ≡ Ok (value, rest)

pub record Fails {A : Type 0} (f : Format A) (bytes : List ℕ) : Type 0 where
  pub place : ℕ
  pub left : ℕ
  pub why : Reason
  pub sum : place + left ≡ length bytes
  pub refused : IsRefused f bytes place why
  pub gives : reading f bytes ≡ Err (left, why)

pub read_cases : {A : Type 0} (f : Format A) (bytes : List ℕ) → IsBytes bytes → Succeeds f bytes ⊎ Fails f bytes
read_cases (Done a) bytes fits = inl (record { value = a; spelling = []; rest = bytes; parts = refl; spelled = (refl, refl); gives = refl })
read_cases (Field size why keeps more) bytes fits =
    elim (number_cases size bytes fits) [
      | inl short ↦ inr (record {
        place = length bytes;
        left = 0;
        why = reasons.Short;
        sum = omega arith;
        refused = inl (short.0, refl, refl);
        gives = missing (number_at size bytes) (λ x. cond (keeps x.0) (reading (more x.0) x.1) (Err (length bytes, why))) (0, reasons.Short) short.1;
      })
      | inr there ↦
          let n = there.0 in
          let rest = there.1 in
          let t = there.2 in
          elim (cases_Bool (keeps n)) [
            | inl kept ↦
                let one_read = taken (number_at size bytes) keeps (λ y. reading (more y.0) y.1) (length bytes, why) n rest there.3 kept in
                elim (read_cases (more n) rest t.fits) [
                  | inl r ↦ inl (record {
                    value = r.value;
                    spelling = bytes_of size n ++ r.spelling;
                    rest = r.rest;
                    parts = t.parts ∙ ap (λ (l : List ℕ). bytes_of size n ++ l) r.parts ∙ sym (append_assoc (bytes_of size n) r.spelling r.rest);
                    spelled = (n, r.spelling, t.below, kept, refl, r.spelled);
                    gives = one_read ∙ r.gives;
                  })
                  | inr q ↦ inr (record {
                    place = byte_count size + q.place;
                    left = q.left;
                    why = q.why;
                    sum = omega (arith, t.count, q.sum);
                    refused = inr (n, rest, t.below, t.parts, inr (kept, q.place, refl, q.refused));
                    gives = one_read ∙ q.gives;
                  })
                ]
            | inr not_kept ↦ inr (record {
              place = 0;
              left = length bytes;
              why = why;
              sum = omega arith;
              refused = inr (n, rest, t.below, t.parts, inl (not_kept, refl, refl));
              gives = broken (number_at size bytes) keeps (λ y. reading (more y.0) y.1) (length bytes, why) n rest there.3 not_kept;
            })
          ]
    ]

-- bytes behind a spelling are refused where they begin
rest_refused : {A : Type 0} (f : Format A) (x : A) (bytes rest : List ℕ) → IsSpelled f x bytes → 0 < length rest → IsRefused f (bytes ++ rest) (length bytes) reasons.Long
rest_refused (Done a) x bytes rest s some = rw s.1 (some, refl, refl)
rest_refused (Field size why keeps more) x bytes rest s some =
    let regrouped : bytes ++ rest ≡ bytes_of size s.0 ++ (s.1 ++ rest) = ap (λ (l : List ℕ). l ++ rest) s.4 ∙ append_assoc (bytes_of size s.0) s.1 rest in
    let count : length bytes ≡ byte_count size + length s.1 = ap length s.4 ∙ length-append (bytes_of size s.0) s.1 ∙ ap (λ (k : ℕ). k + length s.1) (length-bytes_of size s.0) in
    inr (s.0, s.1 ++ rest, s.2, regrouped, inr (s.3, length s.1, count, rest_refused (more s.0) x s.1 rest s.5 some))

-- ---- the answer

whole_ok : {A : Type 0} (size : ℕ) (v x : A) (rest : List ℕ) → whole size (Ok (v, rest)) ≡ Ok x → (v ≡ x) × (rest ≡ [])
whole_ok size v x [] e = (cc, refl)
whole_ok size v x (b ∷ rest) e = absurd cc

whole_not_ok : {A : Type 0} (size left : ℕ) (why : Reason) (x : A) → whole size (Err (left, why)) ≡ Ok x → ⊥
whole_not_ok size left why x e = cc

pub found : {A : Type 0} (f : Format A) (x : A) (bytes : List ℕ) → IsBytes bytes → answer f bytes ≡ Ok x → IsSpelled f x bytes
found f x bytes fits e =
    elim (read_cases f bytes fits) [
      | inl r ↦
          let p = whole_ok (length bytes) r.value x r.rest (sym (ap (whole (length bytes)) r.gives) ∙ e) in
          let same : bytes ≡ r.spelling = r.parts ∙ ap (λ (l : List ℕ). r.spelling ++ l) p.1 ∙ append-nil r.spelling in
          rw (same, ← p.0) r.spelled
      | inr q ↦ absurd (whole_not_ok (length bytes) q.left q.why x (sym (ap (whole (length bytes)) q.gives) ∙ e))
    ]

abbrev fault : (A : Type 0) → Bad → Result A Bad
fault A bad = Err bad

bad_is : (A : Type 0) (a b : Bad) → fault A a ≡ fault A b → a ≡ b
bad_is A a b e = cc

-- bytes left over behind what was read
over : (A : Type 0) (f : Format A) (x : A) (spelling rest bytes : List ℕ) (bad : Bad) → bytes ≡ spelling ++ rest → IsSpelled f x spelling
    → whole (length bytes) (Ok (x, rest)) ≡ Err bad → IsRefused f bytes bad.place bad.reason
over A f x spelling [] bytes bad parts s e = absurd cc
over A f x spelling (b ∷ rest) bytes bad parts s e =
    let place : length bytes - length (b ∷ rest) ≡ length spelling = omega (arith, ap length parts ∙ length-append spelling (b ∷ rest)) in
    let here : IsRefused f bytes (length bytes - length (b ∷ rest)) reasons.Long = rw (place, parts) (rest_refused f x spelling (b ∷ rest) s (omega arith)) in
    let same = bad_is A (record { place = length bytes - length (b ∷ rest); reason = reasons.Long }) bad e in
    subst (λ (k : Bad). IsRefused f bytes k.place k.reason) same here

pub refused : (A : Type 0) (f : Format A) (bad : Bad) (bytes : List ℕ) → IsBytes bytes → answer f bytes ≡ Err bad → IsRefused f bytes bad.place bad.reason
refused A f bad bytes fits e =
    elim (read_cases f bytes fits) [
      | inl r ↦ over A f r.value r.spelling r.rest bytes bad r.parts r.spelled (sym (ap (whole (length bytes)) r.gives) ∙ e)
      | inr q ↦
          let same = bad_is A (record { place = length bytes - q.left; reason = q.why }) bad (sym (ap (whole (length bytes)) q.gives) ∙ e) in
          let place : q.place ≡ length bytes - q.left = omega (arith, q.sum) in
          subst (λ (k : Bad). IsRefused f bytes k.place k.reason) same (subst (λ (p : ℕ). IsRefused f bytes p q.why) place q.refused)
    ]

-- ---- lengths

-- no spelling has more bytes than this
abbrev pub AtMost : {A : Type 0} → ℕ → Format A → Type 0
AtMost n (Done a) = Unit {0}
AtMost n (Field size why keeps more) = (byte_count size ≤ n) × ((k : ℕ) → k < 256 ^ byte_count size → IsTrue (keeps k) → AtMost (n - byte_count size) (more k))

pub at_most_more : {A : Type 0} (f : Format A) (n m : ℕ) → n ≤ m → AtMost n f → AtMost m f
at_most_more (Done a) n m le h = tt
at_most_more (Field size why keeps more) n m le h = (omega (arith, h.0), λ k lt kept. at_most_more (more k) (n - byte_count size) (m - byte_count size) (omega arith) (h.1 k lt kept))

pub at_most_bind : {A B : Type 0} (f : Format A) (g : A → Format B) (n m : ℕ) → AtMost n f → ((x : A) (bytes : List ℕ) → IsSpelled f x bytes → AtMost m (g x)) → AtMost (n + m) (f >>= g)
at_most_bind (Done a) g n m h each = at_most_more (g a) m (n + m) (omega arith) (each a [] (refl, refl))
at_most_bind (Field size why keeps more) g n m h each = (
  omega (arith, h.0),
  λ k lt kept.
      let same : n - byte_count size + m ≡ n + m - byte_count size = omega (arith, h.0) in
      subst (λ (l : ℕ). AtMost l (more k >>= g)) same
      (at_most_bind (more k) g (n - byte_count size) m (h.1 k lt kept) (λ x bytes s. each x (bytes_of size k ++ bytes) (k, bytes, lt, kept, refl, s))),
)

pub at_most_spelling : {A : Type 0} (f : Format A) (n : ℕ) (x : A) (bytes : List ℕ) → AtMost n f → IsSpelled f x bytes → length bytes ≤ n
at_most_spelling (Done a) n x bytes h s = rw s.1 (omega arith)
at_most_spelling (Field size why keeps more) n x bytes h s =
    let ih = at_most_spelling (more s.0) (n - byte_count size) x s.1 (h.1 s.0 s.2 s.3) s.5 in
    omega (arith, ih, h.0, ap length s.4 ∙ length-append (bytes_of size s.0) s.1, length-bytes_of size s.0)

pub at_most_place : {A : Type 0} (f : Format A) (n : ℕ) (bytes : List ℕ) (place : ℕ) (why : Reason) → AtMost n f → IsRefused f bytes place why → place ≤ n
at_most_place (Done a) n bytes place why h s = omega (arith, s.1)
at_most_place (Field size reason keeps more) n bytes place why h s =
    elim s [
      | inl short ↦ omega (arith, h.0, short.0, short.1)
      | inr there ↦
          elim there.4 [
            | inl wrong ↦ omega (arith, wrong.1)
            | inr later ↦
                let ih = at_most_place (more there.0) (n - byte_count size) there.1 later.1 why (h.1 there.0 there.2 later.0) later.3 in
                omega (arith, ih, h.0, later.2)
          ]
    ]

-- ---- the one spelling

-- Written so, a value has these bytes behind a front.
abbrev pub Written : {A : Type 0} → Format A → List ℕ → (A → List ℕ) → Type 0
Written (Done a) front written = written a ≡ front
Written (Field size why keeps more) front written = (n : ℕ) → n < 256 ^ byte_count size → IsTrue (keeps n) → Written (more n) (front ++ bytes_of size n) written

pub written_spelling : {A : Type 0} (f : Format A) (front : List ℕ) (written : A → List ℕ) → Written f front written → (x : A) (bytes : List ℕ) → IsSpelled f x bytes → written x ≡ front ++ bytes
written_spelling (Done a) front written w x bytes s = rw (s.0, s.1) (w ∙ sym (append-nil front))
written_spelling (Field size why keeps more) front written w x bytes s =
    let ih = written_spelling (more s.0) (front ++ bytes_of size s.0) written (w s.0 s.2 s.3) x s.1 s.5 in
    ih ∙ append_assoc front (bytes_of size s.0) s.1 ∙ ap (λ (l : List ℕ). front ++ l) (sym s.4)

written_from : {A B : Type 0} (f : Format A) (g : A → Format B) (front begun : List ℕ) (part : A → List ℕ) (written : B → List ℕ) → Written f begun part
    → ((x : A) (bytes : List ℕ) → IsSpelled f x bytes → Written (g x) (front ++ part x) written) → Written (f >>= g) (front ++ begun) written
written_from (Done a) g front begun part written w each = subst (λ (l : List ℕ). Written (g a) (front ++ l) written) w (each a [] (refl, refl))
written_from (Field size why keeps more) g front begun part written w each = λ n lt kept.
    let grouped : front ++ (begun ++ bytes_of size n) ≡ (front ++ begun) ++ bytes_of size n = sym (append_assoc front begun (bytes_of size n)) in
    subst (λ (l : List ℕ). Written (more n >>= g) l written) grouped
    (written_from (more n) g front (begun ++ bytes_of size n) part written (w n lt kept) (λ x bytes s. each x (bytes_of size n ++ bytes) (n, bytes, lt, kept, refl, s)))

pub written_bind : {A B : Type 0} (f : Format A) (g : A → Format B) (front : List ℕ) (part : A → List ℕ) (written : B → List ℕ) → Written f [] part
    → ((x : A) (bytes : List ℕ) → IsSpelled f x bytes → Written (g x) (front ++ part x) written) → Written (f >>= g) front written
written_bind f g front part written w each = subst (λ (l : List ℕ). Written (f >>= g) l written) (append-nil front) (written_from f g front [] part written w each)

-- ---- what holds of every value that is spelled

abbrev pub Always : {A : Type 0} → (A → Type 0) → Format A → Type 0
Always P (Done a) = P a
Always P (Field size why keeps more) = (n : ℕ) → n < 256 ^ byte_count size → IsTrue (keeps n) → Always P (more n)

pub always_spelled : {A : Type 0} (P : A → Type 0) (f : Format A) (x : A) (bytes : List ℕ) → Always P f → IsSpelled f x bytes → P x
always_spelled P (Done a) x bytes h s = subst P (sym s.0) h
always_spelled P (Field size why keeps more) x bytes h s = always_spelled P (more s.0) x s.1 (h s.0 s.2 s.3) s.5

pub always_bind : {A B : Type 0} (P : B → Type 0) (f : Format A) (g : A → Format B) → ((x : A) (bytes : List ℕ) → IsSpelled f x bytes → Always P (g x)) → Always P (f >>= g)
always_bind P (Done a) g each = each a [] (refl, refl)
always_bind P (Field size why keeps more) g each = λ n lt kept. always_bind P (more n) g (λ x bytes s. each x (bytes_of size n ++ bytes) (n, bytes, lt, kept, refl, s))
