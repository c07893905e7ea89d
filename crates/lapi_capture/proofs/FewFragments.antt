-- A packet's message has few fragments.
use Rattle.std.proofs.Common.{◌≡◌, ℕ, ◌<◌, ◌≤◌, ◌==◌, ◌||◌, nat_le, Bool, true, false, cond, List, [], ◌∷◌, length, Result, Ok, Err, refl, ap, subst, arith}
use Rattle.std.specs.Prelude.{IsTrue}
use Rattle.std.proofs.lemmas.Bool.{ltb-true, leb-true, eqb-true}
use Rattle.lapi_base.specs.declared.message.Leg.{Leg}
use Rattle.lapi_base.specs.declared.message.Leg.TheVariants.{Go, Back, Note, Echo, Join}
use Rattle.lapi_base.specs.declared.packet.DataPacket.{DataPacket}
use Rattle.lapi_base.specs.declared.packet.Packet.{Packet}
use Rattle.lapi_base.specs.declared.packet.Packet.TheVariants.{Data, Ack}
use Rattle.lapi_base.specs.declared.reply.Reason.{Reason}
use Rattle.lapi_base.specs.Packet.Format.{Format, Done, Field, ◌>>=◌, and_then, bytes_form, number_at, reading, whole}
use Rattle.lapi_base.specs.Packet.Layout.{Layout, First, Second, layout_of, unit, longest, longest_active}
use Rattle.lapi_base.specs.Packet.Heads.{operation_form, head_form}
use Rattle.lapi_base.specs.Packet.Spelling.{packet_form, data_form, name_form, fragment_form, length_form, is_length, decoded, front_form, acknowledgement_form}
use Rattle.lapi_base.specs.Record.Fragments.{fragments_in}
use Rattle.lapi_base.proofs.FormLaws.{pair_is}

-- what holds of every value that is read, by the fields' rules alone
abbrev Keeps : {A : Type 0} → (A → Type 0) → Format A → Type 0
Keeps P (Done a) = P a
Keeps P (Field size why keeps more) = (n : ℕ) → IsTrue (keeps n) → Keeps P (more n)

keeps_bind : {A B : Type 0} (P : B → Type 0) (f : Format A) (g : A → Format B) → ((x : A) → Keeps P (g x)) → Keeps P (f >>= g)
keeps_bind P (Done a) g each = each a
keeps_bind P (Field size why keeps more) g each = λ n kept. keeps_bind P (more n) g each

keeps_if : {A : Type 0} (P : A → Type 0) (b : Bool) (f g : Format A) → Keeps P f → Keeps P g → Keeps P (cond b f g)
keeps_if P true f g one other = one
keeps_if P false f g one other = other

field_read : {A : Type 0} (P : A → Type 0) (r : Result (ℕ × List ℕ) (ℕ × Reason)) (keeps : ℕ → Bool) (more : ℕ → Format A) (fault : ℕ × Reason) (x : A) (rest : List ℕ)
    → ((n : ℕ) (bytes : List ℕ) → IsTrue (keeps n) → reading (more n) bytes ≡ Ok (x, rest) → P x)
    → and_then r (λ y. cond (keeps y.0) (reading (more y.0) y.1) (Err fault)) ≡ Ok (x, rest) → P x
field_read P (Err e) keeps more fault x rest each is = absurd (cc)
field_read P (Ok y) keeps more fault x rest each is =
    elim (keeps y.0) as (λ b. keeps y.0 ≡ b → cond b (reading (more y.0) y.1) (Err fault) ≡ Ok (x, rest) → P x) [
      | true ↦ λ e read. each y.0 y.1 e read
      | false ↦ λ e read. absurd (cc)
    ] refl is

keeps_read : {A : Type 0} (P : A → Type 0) (f : Format A) (bytes : List ℕ) (x : A) (rest : List ℕ) → Keeps P f → reading f bytes ≡ Ok (x, rest) → P x
keeps_read P (Done a) bytes x rest h is = subst P (ap (λ z. z.0) (pair_is (a, bytes) (x, rest) is)) h
keeps_read P (Field size why keeps more) bytes x rest h is =
    field_read P (number_at size bytes) keeps more (length bytes, why) x rest (λ n left kept read. keeps_read P (more n) left x rest (h n kept) read) is

whole_read : {A : Type 0} (size : ℕ) (r : Result (A × List ℕ) (ℕ × Reason)) (x : A) → whole size r ≡ Ok x → r ≡ Ok (x, [])
whole_read size (Ok (y, [])) x is = ap (λ z. Ok (z, [])) (let same : y ≡ x = cc in same)
whole_read size (Ok (y, b ∷ rest)) x is = absurd (cc)
whole_read size (Err (left, why)) x is = absurd (cc)

abbrev HasFew : Packet → Type 0
HasFew (Data p) = p.fragment < 64
HasFew (Ack layout from to base bits) = 0 ≤ 0

of_either : (P : Type 0) (b x y : Bool) → cond b x y ≡ true → (x ≡ true → P) → (y ≡ true → P) → P
of_either P true x y h one other = one h
of_either P false x y h one other = other h

zero_fits : (layout : Layout) (n : ℕ) → (n == 0) ≡ true → n ≤ longest layout
zero_fits layout n h = let e : n ≡ 0 = eqb-true n 0 h in omega (arith, e)

word_fits : (layout : Layout) (n : ℕ) → (n == 4) ≡ true → n ≤ longest layout
word_fits First n h = let e : n ≡ 4 = eqb-true n 4 h in omega (arith, e)
word_fits Second n h = let e : n ≡ 4 = eqb-true n 4 h in omega (arith, e)

active_fits : (layout : Layout) (n : ℕ) → nat_le n (longest_active layout) ≡ true → n ≤ longest layout
active_fits First n h = leb-true n 16384 h
active_fits Second n h = let l : n ≤ 16384 = leb-true n 16384 h in omega (arith, l)

length_fits : (layout : Layout) (leg : Leg) (op n : ℕ) → is_length layout leg op n ≡ true → n ≤ longest layout
length_fits layout Go op n h =
    of_either (n ≤ longest layout) (op == 2 || op == 4 || op == 5) (n == 0) (cond (op == 6) (nat_le n (longest_active layout)) (nat_le n (longest layout))) h (zero_fits layout n)
    (λ other. of_either (n ≤ longest layout) (op == 6) (nat_le n (longest_active layout)) (nat_le n (longest layout)) other (active_fits layout n) (leb-true n (longest layout)))
length_fits layout Back op n h = of_either (n ≤ longest layout) (op == 5) (n == 4) (nat_le n (longest layout)) h (word_fits layout n) (leb-true n (longest layout))
length_fits layout Note op n h = zero_fits layout n h
length_fits layout Echo op n h = word_fits layout n h
length_fits layout (Join d) op n h = zero_fits layout n h

few_in : (layout : Layout) (size j : ℕ) → size ≤ longest layout → j < fragments_in (unit layout) size → j < 64
few_in First size j fits lt = omega (arith, fits, lt)
few_in Second size j fits lt = omega (arith, fits, lt)

data_keeps : (layout from to : ℕ) → Keeps HasFew (data_form layout from to)
unfolding data_form length_form fragment_form
data_keeps layout from to = λ seq _.
    let l = layout_of layout in
    keeps_bind HasFew (name_form l from to) _ (λ name. keeps_bind HasFew (operation_form name.leg) _ (λ op. λ size fits. λ fragment lt.
    keeps_bind HasFew (head_form l name.leg op size) _ (λ head. keeps_bind HasFew (bytes_form _) _ (λ payload.
    few_in l size fragment (length_fits l name.leg op size fits) (ltb-true fragment (fragments_in (unit l) size) lt)))))

ack_keeps : (layout from to : ℕ) → Keeps HasFew (acknowledgement_form layout from to)
unfolding acknowledgement_form
ack_keeps layout from to = λ base _. λ bits _. omega arith

packet_keeps : Keeps HasFew packet_form
unfolding packet_form
packet_keeps =
    keeps_bind HasFew front_form _ (λ front. keeps_if HasFew (front.kind == 1) (data_form front.layout front.from front.to) (acknowledgement_form front.layout front.from front.to)
    (data_keeps front.layout front.from front.to) (ack_keeps front.layout front.from front.to))

pub few_fragments : (bytes : List ℕ) (p : DataPacket) → decoded bytes ≡ Ok (Data p) → p.fragment < 64
few_fragments bytes p is = keeps_read HasFew packet_form bytes (Data p) [] packet_keeps (whole_read (length bytes) (reading packet_form bytes) (Data p) is)
