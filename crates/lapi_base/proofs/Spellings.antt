-- The bytes that are written for a packet are its spelling, where it has one.
use Rattle.std.proofs.Common.{◌≡◌, ℕ, ◌%◌, ◌^◌, ◌≤◌, true, false, cond, List, [], ◌∷◌, length, Some, None, refl, sym, subst, arith, inl, inr, ◌∙◌}
use Rattle.std.specs.Prelude.{◌==◌, ◌&&◌, ◌||◌, not, nat_le, unwrap_or, Result, Ok}
use Rattle.std.proofs.lemmas.Bool.{cases_Bool, eqb-true, eqb-false, leb-true, and_parts, or_cases}
use Rattle.std.proofs.lemmas.List.Concat.{flat_map-cons}
use Rattle.lapi_base.specs.declared.span.Span.{Span}
use Rattle.lapi_base.specs.declared.head.Head.{Head}
use Rattle.lapi_base.specs.declared.head.NoteOp.{NoteOp}
use Rattle.lapi_base.specs.declared.packet.Packet.{Packet}
use Rattle.lapi_base.specs.declared.message.Leg.{Leg}
use Rattle.lapi_base.specs.declared.message.Leg.TheVariants.{Go, Back, Note, Echo, Join}
use Rattle.lapi_base.specs.Packet.Format.{Format, Done, ◌>>=◌, bytes_form}
use Rattle.lapi_base.specs.Record.Fragments.{fragment_length}
use Rattle.lapi_base.specs.Packet.Layout.{Layout, layout_of, longest, unit}
use Rattle.lapi_base.specs.Packet.Fields.{counter_form, range_form, word_form, count_form, span_form, within_span, covering_span, matching_span, left_behind, behind, within_form, covering_form, matching_form}
use Rattle.lapi_base.specs.Packet.Heads.{put_form, get_go_form, get_back_form, putv_form, getv_go_form, getv_back_form, update_of, update_form, rmw_go_form, rmw_back_form, header_count_form, am_form, note_op_of, note_form, echo_form, round_form, gfence_form, addr_form, is_operation, operation_form, head_form}
use Rattle.lapi_base.specs.Packet.Spelling.{task_form, kind_form, front_form, acknowledgement_form, is_leg, leg_of, leg_form, name_form, length_form, fragment_form, data_form, packet_form, Spells}
use Rattle.lapi_base.specs.Packet.PacketBytes.{leg_number, head_number, note_number, update_number}
use Rattle.lapi_base.specs.declared.reply.Bad.{Bad}
use Rattle.lapi_base.specs.Packet.PacketBytes as written
use Rattle.lapi_base.proofs.FormLaws.{answer_spelled, Written, written_bind, written_spelling, Always, always_bind, always_spelled}
use Rattle.lapi_base.proofs.FormLists.{as_is, written_bytes, count_bytes, written_repeated, count_repeated}
use Rattle.lapi_base.proofs.FormChoices.{written_if, always_if}

-- ---- parts

-- what stands for a counter
counter_number : (n : ℕ) → unwrap_or (cond (n == 255) None (Some n)) 255 ≡ n
counter_number n =
    elim (cases_Bool (n == 255)) [
      | inl none ↦ rw none (sym (eqb-true n 255 none))
      | inr some ↦ rw some refl
    ]

written_span : (least most : ℕ) → Written (span_form least most) [] written.span
unfolding span_form
written_span least most = λ at lt _ len lt' _. let e : at % 2 ^ 32 ≡ at = omega arith in rw e refl

written_matching_span : (others : List Span) (following : ℕ) → Written (matching_span others following) [] written.span
written_matching_span [] following = written_span 0 0
written_matching_span (other ∷ others) following = written_span other.len other.len

written_within : (most count : ℕ) → Written (within_form most count) [] written.spans
written_within most count = written_repeated within_span left_behind written.span written.spans refl (λ x xs. flat_map-cons written.span x xs) (λ left following. written_span 0 left) most count

written_covering : (total count : ℕ) → Written (covering_form total count) [] written.spans
written_covering total count = written_repeated covering_span left_behind written.span written.spans refl (λ x xs. flat_map-cons written.span x xs) (λ left following. written_span (cond (following == 0) left 0) left) total count

written_matching : (others : List Span) → Written (matching_form others) [] written.spans
written_matching others = written_repeated matching_span behind written.span written.spans refl (λ x xs. flat_map-cons written.span x xs) written_matching_span others (length others)

-- ---- heads

written_put : (size : ℕ) → Written (put_form size) [] written.head
unfolding put_form range_form counter_form
written_put size = λ at _ _ tgt _ _ cmpl _ _. rw (counter_number tgt, counter_number cmpl) refl

written_get_go : (layout : Layout) → Written (get_go_form layout) [] written.head
unfolding get_go_form range_form counter_form
written_get_go layout = λ asked _ _ source _ _ dest _ _ tgt _ _ org _ _. rw (counter_number tgt, counter_number org) refl

written_get_back : (size : ℕ) → Written (get_back_form size) [] written.head
unfolding get_back_form range_form counter_form
written_get_back size = λ dest _ _ org _ _. rw (counter_number org) refl

written_putv : (size : ℕ) → Written (putv_form size) [] written.head
unfolding putv_form counter_form count_form
written_putv size = λ tgt _ _ cmpl _ _ count _ _.
    written_bind (covering_form size count) (λ pieces. Done _) _ written.spans written.head (written_covering size count)
    (λ pieces bytes s.
    let len : length pieces ≡ count = always_spelled (λ xs. length xs ≡ count) (covering_form size count) pieces bytes (count_repeated covering_span left_behind size count) s in
    rw (counter_number tgt, counter_number cmpl, len) refl)

written_getv_go : (layout : Layout) → Written (getv_go_form layout) [] written.head
unfolding getv_go_form counter_form count_form
written_getv_go layout = λ tgt _ _ org _ _ count _ _.
    written_bind (within_form (longest layout) count) (λ source. matching_form source >>= λ dest. Done _) _ written.spans written.head (written_within (longest layout) count)
    (λ source bytes s. written_bind (matching_form source) (λ dest. Done _) _ written.spans written.head (written_matching source)
    (λ dest bytes' s'.
    let len : length source ≡ count = always_spelled (λ xs. length xs ≡ count) (within_form (longest layout) count) source bytes (count_repeated within_span left_behind (longest layout) count) s in
    rw (counter_number tgt, counter_number org, len) refl))

written_getv_back : (size : ℕ) → Written (getv_back_form size) [] written.head
unfolding getv_back_form counter_form count_form
written_getv_back size = λ org _ _ count _ _.
    written_bind (covering_form size count) (λ dest. Done _) _ written.spans written.head (written_covering size count)
    (λ dest bytes s.
    let len : length dest ≡ count = always_spelled (λ xs. length xs ≡ count) (covering_form size count) dest bytes (count_repeated covering_span left_behind size count) s in
    rw (counter_number org, len) refl)

update_is : (op : ℕ) → (nat_le 1 op && nat_le op 4) ≡ true → update_number (update_of op) ≡ op
update_is op e =
    let p = and_parts (nat_le 1 op) (nat_le op 4) e in
    let low : 1 ≤ op = leb-true 1 op p.0 in
    let high : op ≤ 4 = leb-true op 4 p.1 in
    elim (cases_Bool (op == 1)) [
      | inl a ↦ rw a (sym (eqb-true op 1 a))
      | inr a ↦ elim (cases_Bool (op == 2)) [
        | inl b ↦ rw (a, b) (sym (eqb-true op 2 b))
        | inr b ↦ elim (cases_Bool (op == 3)) [
          | inl d ↦ rw (a, b, d) (sym (eqb-true op 3 d))
          | inr d ↦
              let not_one = eqb-false op 1 a in
              let not_two = eqb-false op 2 b in
              let not_three = eqb-false op 3 d in
              let last : 4 ≡ op = omega arith in
              rw (a, b, d) last
        ]
      ]
    ]

written_rmw_go : Written rmw_go_form [] written.head
unfolding rmw_go_form update_form word_form counter_form
written_rmw_go = λ op _ known at _ _ in1 _ _ in2 _ _ prev _ _ org _ _. rw (update_is op known, counter_number org) refl

written_rmw_back : Written rmw_back_form [] written.head
unfolding rmw_back_form word_form counter_form
written_rmw_back = λ dest _ _ org _ _. rw (counter_number org) refl

written_am : Written am_form [] written.head
unfolding am_form counter_form header_count_form
written_am = λ handler _ _ tgt _ _ cmpl _ _ count _ _.
    written_bind (bytes_form count) (λ header. Done _) _ as_is written.head (written_bytes count)
    (λ header bytes s.
    let len : length header ≡ count = always_spelled (λ (l : List ℕ). length l ≡ count) (bytes_form count) header bytes (count_bytes count) s in
    rw (counter_number tgt, counter_number cmpl, len) refl)

written_note : (op : NoteOp) → Written (note_form op) [] written.head
unfolding note_form
written_note op = λ cmpl _ _. refl

written_echo : Written echo_form [] written.head
unfolding echo_form word_form counter_form
written_echo = λ dest _ _ cmpl _ _. rw (counter_number cmpl) refl

written_gfence : Written gfence_form [] written.head
unfolding gfence_form round_form
written_gfence = λ round _ _. refl

written_addr : Written addr_form [] written.head
unfolding addr_form round_form
written_addr = λ round _ _ address _ _. refl

written_head : (layout : Layout) (leg : Leg) (op size : ℕ) → Written (head_form layout leg op size) [] written.head
unfolding head_form
written_head layout Go op size =
    written_if (op == 1) _ _ [] written.head (λ _. written_put size)
    (λ _. written_if (op == 2) _ _ [] written.head (λ _. written_get_go layout)
    (λ _. written_if (op == 3) _ _ [] written.head (λ _. written_putv size)
    (λ _. written_if (op == 4) _ _ [] written.head (λ _. written_getv_go layout)
    (λ _. written_if (op == 5) _ _ [] written.head (λ _. written_rmw_go) (λ _. written_am)))))
written_head layout Back op size =
    written_if (op == 2) _ _ [] written.head (λ _. written_get_back size) (λ _. written_if (op == 4) _ _ [] written.head (λ _. written_getv_back size) (λ _. written_rmw_back))
written_head layout Note op size = written_note (note_op_of op)
written_head layout Echo op size = written_echo
written_head layout (Join _) op size = written_if (op == 7) _ _ [] written.head (λ _. written_gfence) (λ _. written_addr)

-- ---- the operation of a head

-- a head of this operation
abbrev IsOf : ℕ → Head → Type 0
IsOf op head = head_number head ≡ op

put_is : (size : ℕ) → Always (IsOf 1) (put_form size)
unfolding put_form range_form counter_form
put_is size = λ at _ _ tgt _ _ cmpl _ _. refl

get_go_is : (layout : Layout) → Always (IsOf 2) (get_go_form layout)
unfolding get_go_form range_form counter_form
get_go_is layout = λ asked _ _ source _ _ dest _ _ tgt _ _ org _ _. refl

get_back_is : (size : ℕ) → Always (IsOf 2) (get_back_form size)
unfolding get_back_form range_form counter_form
get_back_is size = λ dest _ _ org _ _. refl

putv_is : (size : ℕ) → Always (IsOf 3) (putv_form size)
unfolding putv_form counter_form count_form
putv_is size = λ tgt _ _ cmpl _ _ count _ _. always_bind (IsOf 3) (covering_form size count) (λ pieces. Done _) (λ pieces bytes s. refl)

getv_go_is : (layout : Layout) → Always (IsOf 4) (getv_go_form layout)
unfolding getv_go_form counter_form count_form
getv_go_is layout = λ tgt _ _ org _ _ count _ _.
    always_bind (IsOf 4) (within_form (longest layout) count) (λ source. matching_form source >>= λ dest. Done _)
    (λ source bytes s. always_bind (IsOf 4) (matching_form source) (λ dest. Done _) (λ dest bytes' s'. refl))

getv_back_is : (size : ℕ) → Always (IsOf 4) (getv_back_form size)
unfolding getv_back_form counter_form count_form
getv_back_is size = λ org _ _ count _ _. always_bind (IsOf 4) (covering_form size count) (λ dest. Done _) (λ dest bytes s. refl)

rmw_go_is : Always (IsOf 5) rmw_go_form
unfolding rmw_go_form update_form word_form counter_form
rmw_go_is = λ op _ _ at _ _ in1 _ _ in2 _ _ prev _ _ org _ _. refl

rmw_back_is : Always (IsOf 5) rmw_back_form
unfolding rmw_back_form word_form counter_form
rmw_back_is = λ dest _ _ org _ _. refl

am_is : Always (IsOf 6) am_form
unfolding am_form counter_form header_count_form
am_is = λ handler _ _ tgt _ _ cmpl _ _ count _ _. always_bind (IsOf 6) (bytes_form count) (λ header. Done _) (λ header bytes s. refl)

note_is : (op : NoteOp) → Always (IsOf (note_number op)) (note_form op)
unfolding note_form
note_is op = λ cmpl _ _. refl

echo_is : Always (IsOf 6) echo_form
unfolding echo_form word_form counter_form
echo_is = λ dest _ _ cmpl _ _. refl

gfence_is : Always (IsOf 7) gfence_form
unfolding gfence_form round_form
gfence_is = λ round _ _. refl

addr_is : Always (IsOf 8) addr_form
unfolding addr_form round_form
addr_is = λ round _ _ address _ _. refl

-- the same of a number that is equal
same_is : (f : Format Head) (a b : ℕ) → a ≡ b → Always (IsOf a) f → Always (IsOf b) f
same_is f a b e h = subst (λ (n : ℕ). Always (IsOf n) f) e h

-- a test of a number that didn't hold
other : (op n : ℕ) → (op == n) ≡ false → op ≡ n → ⊥
other op n e = eqb-false op n e

go_is : (layout : Layout) (op size : ℕ) → is_operation Go op ≡ true → Always (IsOf op) (head_form layout Go op size)
unfolding head_form
go_is layout op size e =
    let p = and_parts (nat_le 1 op) (nat_le op 6) e in
    let low : 1 ≤ op = leb-true 1 op p.0 in
    let high : op ≤ 6 = leb-true op 6 p.1 in
    always_if (IsOf op) (op == 1) _ _ (λ a. same_is (put_form size) 1 op (sym (eqb-true op 1 a)) (put_is size))
    (λ a. always_if (IsOf op) (op == 2) _ _ (λ b. same_is (get_go_form layout) 2 op (sym (eqb-true op 2 b)) (get_go_is layout))
    (λ b. always_if (IsOf op) (op == 3) _ _ (λ d. same_is (putv_form size) 3 op (sym (eqb-true op 3 d)) (putv_is size))
    (λ d. always_if (IsOf op) (op == 4) _ _ (λ f. same_is (getv_go_form layout) 4 op (sym (eqb-true op 4 f)) (getv_go_is layout))
    (λ f. always_if (IsOf op) (op == 5) _ _ (λ h. same_is rmw_go_form 5 op (sym (eqb-true op 5 h)) rmw_go_is)
    (λ h.
    let last : 6 ≡ op = omega (arith, other op 1 a, other op 2 b, other op 3 d, other op 4 f, other op 5 h) in
    same_is am_form 6 op last am_is)))))

-- one of three numbers
one_of_three : (op a b c : ℕ) → (op == a || op == b || op == c) ≡ true → (op ≡ a → ⊥) → (op ≡ b → ⊥) → op ≡ c
one_of_three op a b c e na nb =
    elim (or_cases (op == a || op == b) (op == c) e) [
      | inl ab ↦ elim (or_cases (op == a) (op == b) ab) [
        | inl ea ↦ absurd (na (eqb-true op a ea))
        | inr eb ↦ absurd (nb (eqb-true op b eb))
      ]
      | inr ec ↦ eqb-true op c ec
    ]

back_is : (layout : Layout) (op size : ℕ) → is_operation Back op ≡ true → Always (IsOf op) (head_form layout Back op size)
unfolding head_form
back_is layout op size e =
    always_if (IsOf op) (op == 2) _ _ (λ a. same_is (get_back_form size) 2 op (sym (eqb-true op 2 a)) (get_back_is size))
    (λ a. always_if (IsOf op) (op == 4) _ _ (λ b. same_is (getv_back_form size) 4 op (sym (eqb-true op 4 b)) (getv_back_is size))
    (λ b. same_is rmw_back_form 5 op (sym (one_of_three op 2 4 5 e (other op 2 a) (other op 4 b))) rmw_back_is))

noted : (op : ℕ) → (op == 1 || op == 3 || op == 6) ≡ true → note_number (note_op_of op) ≡ op
noted op e =
    elim (cases_Bool (op == 1)) [
      | inl a ↦ rw a (sym (eqb-true op 1 a))
      | inr a ↦ elim (cases_Bool (op == 3)) [
        | inl b ↦ rw (a, b) (sym (eqb-true op 3 b))
        | inr b ↦ let last = one_of_three op 1 3 6 e (other op 1 a) (other op 3 b) in rw (a, b) (sym last)
      ]
    ]

head_is : (layout : Layout) (leg : Leg) (op size : ℕ) → is_operation leg op ≡ true → Always (IsOf op) (head_form layout leg op size)
unfolding head_form
head_is layout Go op size e = go_is layout op size e
head_is layout Back op size e = back_is layout op size e
head_is layout Note op size e = same_is (note_form (note_op_of op)) (note_number (note_op_of op)) op (noted op e) (note_is (note_op_of op))
head_is layout Echo op size e = same_is echo_form 6 op (sym (eqb-true op 6 e)) echo_is
head_is layout (Join _) op size e =
    always_if (IsOf op) (op == 7) _ _ (λ a. same_is gfence_form 7 op (sym (eqb-true op 7 a)) gfence_is)
    (λ a. elim (or_cases (op == 7) (op == 8) e) [
      | inl b ↦ absurd (other op 7 a (eqb-true op 7 b))
      | inr b ↦ same_is addr_form 8 op (sym (eqb-true op 8 b)) addr_is
    ])

-- ---- packets

leg_is : (layout : Layout) (from to origin n : ℕ) → is_leg layout from to origin n ≡ true → leg_number (leg_of to n) ≡ n
leg_is layout from to origin n e =
    elim (cases_Bool (n == 1)) [
      | inl a ↦ rw a (sym (eqb-true n 1 a))
      | inr a ↦ elim (cases_Bool (n == 2)) [
        | inl b ↦ rw (a, b) (sym (eqb-true n 2 b))
        | inr b ↦ elim (cases_Bool (n == 3)) [
          | inl d ↦ rw (a, b, d) (sym (eqb-true n 3 d))
          | inr d ↦ elim (cases_Bool (n == 5)) [
            | inl f ↦ rw (a, b, d, f) (sym (eqb-true n 5 f))
            | inr f ↦
                let last : (n == 4 && origin == from && not (from == to)) ≡ true = rw (a, b, d, f) at e in
                let p = and_parts (n == 4 && origin == from) (not (from == to)) last in
                let q = and_parts (n == 4) (origin == from) p.0 in
                rw (eqb-true n 4 q.0) refl
          ]
        ]
      ]
    ]

written_name : (layout : Layout) (from to : ℕ) → Written (name_form layout from to) [] written.name
unfolding name_form leg_form
written_name layout from to = λ origin _ _ statement _ _ leg _ known. rw (leg_is layout from to origin leg known) refl

written_data : (layout from to : ℕ) (front : List ℕ) → written.front layout 1 from to ≡ front → Written (data_form layout from to) front written.packet
unfolding data_form operation_form length_form fragment_form
written_data layout from to front e = λ seq _ _.
    let l = layout_of layout in
    written_bind (name_form l from to) (λ name. _) _ written.name written.packet (written_name l from to)
    (λ name bytes s. λ op _ known size _ _ fragment _ _.
    let count = fragment_length (unit l) size fragment in
    written_bind (head_form l name.leg op size) (λ head. bytes_form count >>= λ payload. Done _) _ written.head written.packet (written_head l name.leg op size)
    (λ head bytes' s'. written_bind (bytes_form count) (λ payload. Done _) _ as_is written.packet (written_bytes count)
    (λ payload bytes'' s''.
    let same : head_number head ≡ op = always_spelled (IsOf op) (head_form l name.leg op size) head bytes' (head_is l name.leg op size known) s' in
    rw (same, ← e) refl)))

written_acknowledgement : (layout from to : ℕ) (front : List ℕ) → written.front layout 2 from to ≡ front → Written (acknowledgement_form layout from to) front written.packet
unfolding acknowledgement_form
written_acknowledgement layout from to front e = λ base _ _ bits _ _. rw (← e) refl

fronted : (magic version kind from to n : ℕ) → (magic == 76) ≡ true → kind ≡ n
    → written.front version n from to ≡ magic % 256 ∷ version % 256 ∷ kind % 256 ∷ from % 256 ∷ to % 256 ∷ []
fronted magic version kind from to n m k = rw (eqb-true magic 76 m, k) refl

pub written_packet : Written packet_form [] written.packet
unfolding packet_form front_form kind_form task_form
written_packet = λ magic _ m version _ _ kind _ known from _ _ to _ _.
    written_if (kind == 1) (data_form version from to) (acknowledgement_form version from to) _ written.packet
    (λ a. written_data version from to _ (fronted magic version kind from to 1 m (eqb-true kind 1 a)))
    (λ a. elim (or_cases (kind == 1) (kind == 2) known) [
      | inl b ↦ absurd (other kind 1 a (eqb-true kind 1 b))
      | inr b ↦ written_acknowledgement version from to _ (fronted magic version kind from to 2 m (eqb-true kind 2 b))
    ])

-- what is written for a packet that has a spelling
pub spelling_is : (packet : Packet) (bytes : List ℕ) → Spells packet bytes → written.packet packet ≡ bytes
spelling_is packet bytes s = written_spelling packet_form [] written.packet written_packet packet bytes s

abbrev pub ok : Packet → Result Packet Bad
ok p = Ok p

pub ok_is : (p q : Packet) → ok p ≡ ok q → p ≡ q
ok_is p q e = cc

-- no bytes spell two packets
pub one_packet : (p q : Packet) (bytes : List ℕ) → Spells p bytes → Spells q bytes → p ≡ q
one_packet p q bytes s t = ok_is p q (sym (answer_spelled packet_form p bytes s) ∙ answer_spelled packet_form q bytes t)
