-- What a packet that has a spelling says of its message, and of the one that follows it.
use Rattle.std.proofs.Common.{◌≡◌, ◌≢◌, ℕ, zero, suc, ◌+◌, ◌-◌, ◌%◌, ◌≤◌, ◌==◌, not, true, false, cond, ◌&&◌, ◌||◌, List, [], ◌∷◌, length, Some, None, refl, ap, subst, ⊎_elim, arith}
use Rattle.std.specs.Prelude.{nat_lt, nat_le}
use Rattle.std.specs.List.{AllByRecursion}
use Rattle.std.proofs.lemmas.Bool.{false≢true, cond_both, or_cases, and_parts, both_ways, leb-true, ltb-true, eqb-true, eqb-false}
use Rattle.std.proofs.lemmas.List.Sums.{sum_by-cons}
use Rattle.lapi_base.specs.declared.head.Head.{Head}
use Rattle.lapi_base.specs.declared.head.Head.TheVariants as heads
use Rattle.lapi_base.specs.declared.layout.TheConstants.{LONGEST_ACTIVE}
use Rattle.lapi_base.specs.declared.message.Leg.{Leg}
use Rattle.lapi_base.specs.declared.message.Leg.TheVariants.{Go, Back, Note, Echo, Join}
use Rattle.lapi_base.specs.declared.message.MsgName.{MsgName}
use Rattle.lapi_base.specs.declared.packet.Packet.{Packet}
use Rattle.lapi_base.specs.declared.packet.Packet.TheVariants.{Data, Ack}
use Rattle.lapi_base.specs.declared.span.Span.{Span}
use Rattle.lapi_base.specs.Laws.Receiving.{bytes_in}
use Rattle.lapi_base.specs.Packet.Fields.{fits, counter_form, range_form, word_form, count_form, span_form, within_form, covering_form, matching_form}
use Rattle.lapi_base.specs.Packet.Format.{bytes_form, repeated}
use Rattle.lapi_base.specs.Packet.Heads.{is_operation, put_form, get_go_form, get_back_form, putv_form, getv_go_form, getv_back_form, rmw_go_form, rmw_back_form, update_form, header_count_form, round_form, operation_form, am_form, note_form, echo_form, gfence_form, addr_form, head_form}
use Rattle.lapi_base.specs.Packet.Layout.{Layout, First, Second, layout_of, has_echo, unit, longest, longest_active}
use Rattle.lapi_base.specs.Packet.Spelling.{task_form, kind_form, front_form, is_leg, leg_of, leg_form, name_form, is_length, length_form, fragment_form, data_form, acknowledgement_form, packet_form, Spells}
use Rattle.lapi_base.specs.Record.Fragments.{fragment_length}
use Rattle.lapi_base.specs.Record.HeadSays.{is_active}
use Rattle.lapi_base.proofs.FormLaws.{Always, always_spelled, always_bind}
use Rattle.lapi_parts.proofs.SpelledParts.{IsNumbered, IsWithin, SameLengths}

-- ---- parts

counter-kept : (n : ℕ) → (nat_lt n 64 || n == 255) ≡ true → IsNumbered (cond (n == 255) None (Some n))
counter-kept n k =
    cond_both (n == 255) None (Some n) IsNumbered (λ _. tt) (λ e.
    ⊎_elim (λ (x : nat_lt n 64 ≡ true). ltb-true n 64 x) (λ (y : (n == 255) ≡ true). absurd (both_ways _ e y)) (or_cases (nat_lt n 64) (n == 255) k))

abbrev SpanKept : (least most : ℕ) → Span → Type 0
SpanKept least most s = (s.at + s.len ≤ 65536) × (least ≤ s.len) × (s.len ≤ most)

span-kept : (least most : ℕ) → Always (SpanKept least most) (span_form least most)
unfolding span_form
span-kept least most = λ at la ka len ll kl.
    let x = and_parts (fits at len && nat_le least len) (nat_le len most) kl in
    let y = and_parts (fits at len) (nat_le least len) x.0 in
    (leb-true (at + len) 65536 y.0, leb-true least len y.1, leb-true len most x.1)

abbrev WithinKept : (most count : ℕ) → List Span → Type 0
WithinKept most count xs = (length xs ≡ count) × (bytes_in xs ≤ most)

within-kept : (most count : ℕ) → Always (WithinKept most count) (within_form most count)
unfolding repeated
within-kept most zero = (refl, omega arith)
within-kept most (suc count) =
    always_bind (WithinKept most (suc count)) (span_form 0 most) _ (λ first fb f.
    always_bind (WithinKept most (suc count)) (within_form (most - first.len) count) _ (λ others ob o.
    let rest = always_spelled (WithinKept (most - first.len) count) (within_form (most - first.len) count) others ob (within-kept (most - first.len) count) o in
    let own = always_spelled (SpanKept 0 most) (span_form 0 most) first fb (span-kept 0 most) f in
    let sum : bytes_in (first ∷ others) ≡ first.len + bytes_in others = sum_by-cons (λ (s : Span). s.len) first others in
    (ap suc rest.0, (let l = rest.1 in let k = own.2 in omega (arith, sum, l, k)))))

abbrev MatchKept : List Span → List Span → Type 0
MatchKept others xs = SameLengths others xs × AllByRecursion IsWithin xs

matching-kept : (others : List Span) → Always (MatchKept others) (matching_form others)
unfolding repeated
matching-kept [] = (tt, tt)
matching-kept (o ∷ os) =
    always_bind (MatchKept (o ∷ os)) (span_form o.len o.len) _ (λ first fb f.
    always_bind (MatchKept (o ∷ os)) (matching_form os) _ (λ rest rb r.
    let own = always_spelled (SpanKept o.len o.len) (span_form o.len o.len) first fb (span-kept o.len o.len) f in
    let more = always_spelled (MatchKept os) (matching_form os) rest rb (matching-kept os) r in
    (((let l = own.1 in let k = own.2 in omega (arith, l, k)), more.0), (own.0, more.1))))

same-count : (xs ys : List Span) → SameLengths xs ys → length xs ≡ length ys
same-count [] [] h = refl
same-count (x ∷ xs) (y ∷ ys) h = ap suc (same-count xs ys h.1)
same-count [] (y ∷ ys) h = absurd h
same-count (x ∷ xs) [] h = absurd h

-- ---- heads

-- what the head of a message says of the one that follows it: a Go alone has one
abbrev pub Bears : Layout → Leg → Head → Type 0
Bears layout leg (heads.Put at tgt cmpl) = (leg ≡ Go) × IsNumbered cmpl
Bears layout leg (heads.Putv tgt cmpl pieces) = (leg ≡ Go) × IsNumbered cmpl
Bears layout leg (heads.Am handler tgt cmpl header) = (leg ≡ Go) × IsNumbered cmpl
Bears layout leg (heads.GetGo asked source dest tgt org) = (leg ≡ Go) × (asked ≤ longest layout) × (dest + asked ≤ 65536) × IsNumbered org
Bears layout leg (heads.GetvGo tgt org source dest) = (leg ≡ Go) × (1 ≤ length dest) × (length dest ≤ 16) × AllByRecursion IsWithin dest × SameLengths source dest × (bytes_in source ≤ longest layout) × IsNumbered org
Bears layout leg (heads.RmwGo op at in1 in2 prev org) = (leg ≡ Go) × (prev + 4 ≤ 65536) × (prev % 4 ≡ 0) × IsNumbered org
Bears layout leg _ = Unit {0}

-- an active message is short
abbrev IsShort : (len : ℕ) → Head → Type 0
IsShort len head = is_active head ≡ true → len ≤ LONGEST_ACTIVE

abbrev Keeps : Layout → Leg → (len : ℕ) → Head → Type 0
Keeps layout leg len head = Bears layout leg head × IsShort len head

not-active : {X : Type 0} → false ≡ true → X
not-active e = absurd (false≢true e)

active-few : (layout : Layout) (n : ℕ) → nat_le n (longest_active layout) ≡ true → n ≤ LONGEST_ACTIVE
active-few First n h = leb-true n 16384 h
active-few Second n h = leb-true n 16384 h

module _ (layout : Layout) (len : ℕ) where
  put-kept : Always (Keeps layout Go len) (put_form len)
  unfolding put_form range_form counter_form
  put-kept = λ at la ka tgt lt kt cmpl lc kc. ((refl, counter-kept cmpl kc), not-active)

  get_go-kept : Always (Keeps layout Go len) (get_go_form layout)
  unfolding get_go_form range_form counter_form
  get_go-kept = λ asked l k source ls ks dest ld kd tgt lt kt org lo ko. ((refl, leb-true asked (longest layout) k, leb-true (dest + asked) 65536 kd, counter-kept org ko), not-active)

  putv-kept : Always (Keeps layout Go len) (putv_form len)
  unfolding putv_form counter_form count_form
  putv-kept = λ tgt lt kt cmpl lc kc count ln kn. always_bind (Keeps layout Go len) (covering_form len count) _ (λ pieces bytes s. ((refl, counter-kept cmpl kc), not-active))

  getv_go-kept : Always (Keeps layout Go len) (getv_go_form layout)
  unfolding getv_go_form counter_form count_form
  getv_go-kept = λ tgt lt kt org lo ko count ln kn.
      let most = longest layout in
      always_bind (Keeps layout Go len) (within_form most count) _ (λ source sb s.
      always_bind (Keeps layout Go len) (matching_form source) _ (λ dest db d.
      let w = always_spelled (WithinKept most count) (within_form most count) source sb (within-kept most count) s in
      let m = always_spelled (MatchKept source) (matching_form source) dest db (matching-kept source) d in
      let few = and_parts (nat_le 1 count) (nat_le count 16) kn in
      let low = leb-true 1 count few.0 in
      let high = leb-true count 16 few.1 in
      let same = same-count source dest m.0 in
      let size = w.0 in
      ((refl, omega (arith, low, same, size), omega (arith, high, same, size), m.1, m.0, w.1, counter-kept org ko), not-active)))

  rmw_go-kept : Always (Keeps layout Go len) rmw_go_form
  unfolding rmw_go_form update_form word_form counter_form
  rmw_go-kept = λ op lo ko at la ka in1 l1 k1 in2 l2 k2 prev lp kp org lorg korg.
      let both = and_parts (prev % 4 == 0) (nat_le prev 65532) kp in
      ((refl, (let l = leb-true prev 65532 both.1 in omega (arith, l)), eqb-true (prev % 4) 0 both.0, counter-kept org korg), not-active)

  am-kept : len ≤ LONGEST_ACTIVE → Always (Keeps layout Go len) am_form
  unfolding am_form counter_form header_count_form
  am-kept short = λ handler lh kh tgt lt kt cmpl lc kc count ln kn. always_bind (Keeps layout Go len) (bytes_form count) _ (λ header bytes s. ((refl, counter-kept cmpl kc), λ _. short))

  get_back-kept : Always (Keeps layout Back len) (get_back_form len)
  unfolding get_back_form range_form counter_form
  get_back-kept = λ dest _ _ org _ _. (tt, not-active)

  getv_back-kept : Always (Keeps layout Back len) (getv_back_form len)
  unfolding getv_back_form counter_form count_form
  getv_back-kept = λ org _ _ count _ _. always_bind (Keeps layout Back len) (covering_form len count) _ (λ dest bytes s. (tt, not-active))

  rmw_back-kept : Always (Keeps layout Back len) rmw_back_form
  unfolding rmw_back_form word_form counter_form
  rmw_back-kept = λ dest _ _ org _ _. (tt, not-active)

  -- the operation of an active message is the last one
  last-operation : (op : ℕ) → is_operation Go op ≡ true → (op == 1) ≡ false → (op == 2) ≡ false → (op == 3) ≡ false → (op == 4) ≡ false → (op == 5) ≡ false → op ≡ 6
  last-operation op k n1 n2 n3 n4 n5 =
      let both = and_parts (nat_le 1 op) (nat_le op 6) k in
      let low = leb-true 1 op both.0 in
      let high = leb-true op 6 both.1 in
      let one : op ≢ 1 = eqb-false op 1 n1 in
      let two : op ≢ 2 = eqb-false op 2 n2 in
      let three : op ≢ 3 = eqb-false op 3 n3 in
      let four : op ≢ 4 = eqb-false op 4 n4 in
      let five : op ≢ 5 = eqb-false op 5 n5 in
      omega (arith, low, high, one, two, three, four, five)

  head-kept : (leg : Leg) (op : ℕ) → is_operation leg op ≡ true → is_length layout leg op len ≡ true → Always (Keeps layout leg len) (head_form layout leg op len)
  unfolding head_form note_form echo_form word_form counter_form gfence_form addr_form round_form
  head-kept Go op known size =
      cond_both (op == 1) (put_form len) _ (Always (Keeps layout Go len)) (λ _. put-kept) (λ n1.
      cond_both (op == 2) (get_go_form layout) _ (Always (Keeps layout Go len)) (λ _. get_go-kept) (λ n2.
      cond_both (op == 3) (putv_form len) _ (Always (Keeps layout Go len)) (λ _. putv-kept) (λ n3.
      cond_both (op == 4) (getv_go_form layout) _ (Always (Keeps layout Go len)) (λ _. getv_go-kept) (λ n4.
      cond_both (op == 5) rmw_go_form am_form (Always (Keeps layout Go len)) (λ _. rmw_go-kept) (λ n5.
      am-kept (active-few layout len (subst (λ n. is_length layout Go n len ≡ true) (last-operation op known n1 n2 n3 n4 n5) size)))))))
  head-kept Back op known size =
      cond_both (op == 2) (get_back_form len) _ (Always (Keeps layout Back len)) (λ _. get_back-kept) (λ _.
      cond_both (op == 4) (getv_back_form len) rmw_back_form (Always (Keeps layout Back len)) (λ _. getv_back-kept) (λ _. rmw_back-kept))
  head-kept Note op known size = λ cmpl _ _. (tt, not-active)
  head-kept Echo op known size = λ dest _ _ cmpl _ _. (tt, not-active)
  head-kept (Join d) op known size = cond_both (op == 7) gfence_form addr_form (Always (Keeps layout (Join d) len)) (λ _. (λ round _ _. (tt, not-active))) (λ _. (λ round _ _ at _ _. (tt, not-active)))

-- ---- packets

abbrev NameKept : (from : ℕ) → MsgName → Type 0
NameKept from m = (m.statement ≤ 511) × (m.leg ≡ Go → m.origin ≡ from) × (m.origin ≤ 7)

one-of-two : (from to origin : ℕ) → from ≤ 7 → to ≤ 7 → (origin == from || origin == to) ≡ true → origin ≤ 7
one-of-two from to origin f t k = ⊎_elim (λ (x : (origin == from) ≡ true). let e = eqb-true origin from x in omega (arith, e, f)) (λ (y : (origin == to) ≡ true). let e = eqb-true origin to y in omega (arith, e, t)) (or_cases (origin == from) (origin == to) k)

not-go : (to n : ℕ) → cond (n == 2) Back (cond (n == 3) Note (cond (n == 5) Echo (Join to))) ≡ Go → ⊥
not-go to n =
    cond_both (n == 2) Back _ (λ l. l ≡ Go → ⊥) (λ _ e. (let x : Back ≡ Go = e in cc)) (λ _.
    cond_both (n == 3) Note _ (λ l. l ≡ Go → ⊥) (λ _ e. (let x : Note ≡ Go = e in cc)) (λ _.
    cond_both (n == 5) Echo (Join to) (λ l. l ≡ Go → ⊥) (λ _ e. (let x : Echo ≡ Go = e in cc)) (λ _ e. (let x : Join to ≡ Go = e in cc))))

goes-from : (layout : Layout) (from to origin n : ℕ) → is_leg layout from to origin n ≡ true → leg_of to n ≡ Go → origin ≡ from
goes-from layout from to origin n =
    elim (n == 1) as (λ b. (n == 1) ≡ b → cond b (origin == from) (cond (n == 2) (origin == to) (cond (n == 3) (origin == to) (cond (n == 5) (has_echo layout && origin == to) (n == 4 && origin == from && not (from == to))))) ≡ true → cond b Go (cond (n == 2) Back (cond (n == 3) Note (cond (n == 5) Echo (Join to)))) ≡ Go → origin ≡ from) [
      | true ↦ λ e k g. eqb-true origin from k
      | false ↦ λ e k g. absurd (not-go to n g)
    ] refl

name-kept : (layout : Layout) (from to : ℕ) → from ≤ 7 → to ≤ 7 → Always (NameKept from) (name_form layout from to)
unfolding name_form leg_form
name-kept layout from to f t = λ origin lo ko statement ls ks n ln kn. (leb-true statement 511 ks, goes-from layout from to origin n kn, one-of-two from to origin f t ko)

-- what a packet says of its message, and of the one that follows it
abbrev pub SaysOfMessages : Packet → Type 0
SaysOfMessages (Data p) = (p.name.statement ≤ 511) × (p.name.leg ≡ Go → p.name.origin ≡ p.from) × (p.name.origin ≤ 7) × IsShort p.length p.head × Bears (layout_of p.layout) p.name.leg p.head
SaysOfMessages (Ack layout from to base bits) = Unit {0}

data-kept : (layout from to : ℕ) → from ≤ 7 → to ≤ 7 → Always SaysOfMessages (data_form layout from to)
unfolding data_form operation_form length_form fragment_form
data-kept layout from to f t = λ seq ls ks.
    let by = layout_of layout in
    always_bind SaysOfMessages (name_form by from to) _ (λ name nb sn. λ op lo ko size lz kz fragment lf kf.
    always_bind SaysOfMessages (head_form by name.leg op size) _ (λ head hb sh.
    always_bind SaysOfMessages (bytes_form (fragment_length (unit by) size fragment)) _ (λ payload pb sp.
    let n = always_spelled (NameKept from) (name_form by from to) name nb (name-kept by from to f t) sn in
    let h = always_spelled (Keeps by name.leg size) (head_form by name.leg op size) head hb (head-kept by size name.leg op ko kz) sh in
    (n.0, n.1, n.2, h.1, h.0))))

packet-kept : Always SaysOfMessages packet_form
unfolding packet_form front_form kind_form task_form acknowledgement_form
packet-kept = λ magic lm km version lv kv kind lk kk from lf kf to lt kt.
    cond_both (kind == 1) (data_form version from to) _ (Always SaysOfMessages)
    (λ _. data-kept version from to (leb-true from 7 kf) (leb-true to 7 kt))
    (λ _. (λ base _ _ bits _ _. tt))

-- Every packet that has a spelling says so much.
pub says-of-messages : (p : Packet) (bytes : List ℕ) → Spells p bytes → SaysOfMessages p
says-of-messages p bytes s = always_spelled SaysOfMessages packet_form p bytes packet-kept s
