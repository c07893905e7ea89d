-- How long each part of a packet is at most.
use Rattle.std.proofs.Common.{◌≡◌, ℕ, suc, Ok, Err, length, ◌%◌, ◌+◌, ◌*◌, ◌≤◌, true, List, [], ◌∷◌, refl, sym, ap, subst, ◌∙◌, arith, inl, inr}
use Rattle.std.specs.Prelude.{Bool, ◌==◌, nat_le, nat_lt, ◌||◌, ◌&&◌, if◌then◌else◌}
use Rattle.std.proofs.lemmas.Bool.{cases_Bool, eqb-true, leb-true, and_parts}
use Rattle.std.proofs.lemmas.List.{length-append}
use Rattle.lapi_base.specs.declared.span.Span.{Span}
use Rattle.lapi_base.specs.declared.packet.Packet.{Packet}
use Rattle.lapi_base.specs.declared.reply.Reason.{Reason}
use Rattle.lapi_base.specs.declared.reply.Reason.TheVariants as reasons
use Rattle.lapi_base.specs.declared.message.Leg.{Leg}
use Rattle.lapi_base.specs.declared.message.Leg.TheVariants.{Go, Back, Note, Echo, Join}
use Rattle.lapi_base.specs.declared.head.NoteOp.{NoteOp}
use Rattle.lapi_base.specs.Laws.Entries.{layout_in}
use Rattle.lapi_base.specs.Packet.Format.{Size, One, Two, Four, byte_count, Format, Done, ◌>>=◌, field, any, bytes_form, IsSpelled, reading}
use Rattle.lapi_base.specs.Record.Fragments.{fragments_in, fragment_length}
use Rattle.lapi_base.specs.Packet.Layout.{Layout, First, Second, layout_of, longest, longest_packet, unit}
use Rattle.lapi_base.specs.Packet.Fields.{counter_form, range_form, word_form, count_form, span_form, within_span, covering_span, matching_span, left_behind, behind, within_form, covering_form, matching_form}
use Rattle.lapi_base.specs.Packet.Heads.{put_form, get_go_form, get_back_form, putv_form, getv_go_form, getv_back_form, update_form, rmw_go_form, rmw_back_form, header_count_form, am_form, note_op_of, note_form, echo_form, round_form, gfence_form, addr_form, is_operation, operation_form, head_form}
use Rattle.lapi_base.specs.Packet.Spelling.{task_form, kind_form, front_form, acknowledgement_form, leg_form, name_form, is_length, length_form, fragment_form, data_form, packet_form, Spells}
use Rattle.lapi_base.proofs.FormLaws.{AtMost, at_most_more, at_most_bind, at_most_spelling, at_most_place, Always, always_bind, always_spelled, read_cases, done, failed, pair_is}
use Rattle.lapi_base.proofs.FormNumbers.{IsBytes}
use Rattle.lapi_base.proofs.FormLists.{at_most_bytes, at_most_repeated, count_repeated}
use Rattle.lapi_base.proofs.FormChoices.{at_most_if, always_if}
use Rattle.lapi_base.proofs.LayoutLaws.{unit-most, unit-least}
use Rattle.lapi_packet.proofs.BitsSizes.{bits-most}

-- ---- spans

at_most_span : (least most : ℕ) → AtMost 8 (span_form least most)
unfolding span_form
at_most_span least most = (omega arith, λ n l k. (omega arith, λ n l k. tt))

at_most_matching : (others : List Span) (following : ℕ) → AtMost 8 (matching_span others following)
at_most_matching [] following = at_most_span 0 0
at_most_matching (other ∷ others) following = at_most_span other.len other.len

-- a form behind a list of at most 16 spans
at_most_spans : {A : Type 0} (f : Format (List Span)) (g : List Span → Format A) (count m : ℕ) → AtMost (count * 8) f → count ≤ 16
    → ((spans : List Span) (bytes : List ℕ) → IsSpelled f spans bytes → AtMost m (g spans)) → AtMost (128 + m) (f >>= g)
at_most_spans f g count m h le each = at_most_more (f >>= g) (count * 8 + m) (128 + m) (omega arith) (at_most_bind f g (count * 8) m h each)

matching_length : (others : List Span) → AtMost (length others * 8) (matching_form others)
matching_length others = at_most_repeated matching_span behind 8 at_most_matching others (length others)

covering_length : (total count : ℕ) → AtMost (count * 8) (covering_form total count)
covering_length total count = at_most_repeated covering_span left_behind 8 (λ left following. at_most_span (if following == 0 then left else 0) left) total count

within_length : (most count : ℕ) → AtMost (count * 8) (within_form most count)
within_length most count = at_most_repeated within_span left_behind 8 (λ left following. at_most_span 0 left) most count

-- the count of a list of spans
counted : (count : ℕ) → (nat_le 1 count && nat_le count 16) ≡ true → count ≤ 16
counted count e = leb-true count 16 (and_parts (nat_le 1 count) (nat_le count 16) e).1

-- ---- heads

at_most_put : (size : ℕ) → AtMost 131 (put_form size)
unfolding put_form range_form counter_form
at_most_put size = (omega arith, λ n l k. (omega arith, λ n l k. (omega arith, λ n l k. tt)))

at_most_get_go : (layout : Layout) → AtMost 131 (get_go_form layout)
unfolding get_go_form range_form counter_form
at_most_get_go layout = (omega arith, λ n l k. (omega arith, λ n l k. (omega arith, λ n l k. (omega arith, λ n l k. (omega arith, λ n l k. tt)))))

at_most_get_back : (size : ℕ) → AtMost 131 (get_back_form size)
unfolding get_back_form range_form counter_form
at_most_get_back size = (omega arith, λ n l k. (omega arith, λ n l k. tt))

at_most_putv : (size : ℕ) → AtMost 131 (putv_form size)
unfolding putv_form counter_form count_form
at_most_putv size = (
  omega arith,
  λ n l k. (
    omega arith,
    λ n l k. (
      omega arith,
      λ count l kept.
          at_most_spans (covering_form size count) (λ pieces. Done _) count 0 (covering_length size count) (counted count kept) (λ pieces bytes s. tt),
    ),
  ),
)

at_most_getv_go : (layout : Layout) → AtMost 259 (getv_go_form layout)
unfolding getv_go_form counter_form count_form
at_most_getv_go layout = (
  omega arith,
  λ n l k. (
    omega arith,
    λ n l k. (
      omega arith,
      λ count l kept.
          at_most_spans (within_form (longest layout) count) (λ source. matching_form source >>= λ dest. Done _) count 128 (within_length (longest layout) count) (counted count kept)
          (λ source bytes s.
          let len : length source ≡ count = always_spelled (λ xs. length xs ≡ count) (within_form (longest layout) count) source bytes (count_repeated within_span left_behind (longest layout) count) s in
          let le : length source ≤ 16 = omega (arith, counted count kept) in
          at_most_spans (matching_form source) (λ dest. Done _) (length source) 0 (matching_length source) le (λ dest bytes' s'. tt)),
    ),
  ),
)

at_most_getv_back : (size : ℕ) → AtMost 131 (getv_back_form size)
unfolding getv_back_form counter_form count_form
at_most_getv_back size = (
  omega arith,
  λ n l k. (
    omega arith,
    λ count l kept.
        at_most_more (covering_form size count >>= λ dest. Done _) 128 129 (omega arith)
        (at_most_spans (covering_form size count) (λ dest. Done _) count 0 (covering_length size count) (counted count kept) (λ dest bytes s. tt)),
  ),
)

at_most_rmw_go : AtMost 131 rmw_go_form
unfolding rmw_go_form update_form word_form counter_form
at_most_rmw_go = (omega arith, λ n l k. (omega arith, λ n l k. (omega arith, λ n l k. (omega arith, λ n l k. (omega arith, λ n l k. (omega arith, λ n l k. tt))))))

at_most_rmw_back : AtMost 131 rmw_back_form
unfolding rmw_back_form word_form counter_form
at_most_rmw_back = (omega arith, λ n l k. (omega arith, λ n l k. tt))

header_counted : (count : ℕ) → (count % 4 == 0 && nat_le count 64) ≡ true → count ≤ 64
header_counted count e = leb-true count 64 (and_parts (count % 4 == 0) (nat_le count 64) e).1

at_most_am : AtMost 131 am_form
unfolding am_form counter_form header_count_form
at_most_am = (
  omega arith,
  λ n l k. (
    omega arith,
    λ n l k. (
      omega arith,
      λ n l k. (
        omega arith,
        λ count l kept.
            at_most_more (bytes_form count >>= λ header. Done _) (count + 0) 127 (omega (arith, header_counted count kept))
            (at_most_bind (bytes_form count) (λ header. Done _) count 0 (at_most_bytes count) (λ header bytes s. tt)),
      ),
    ),
  ),
)

at_most_note : (op : NoteOp) → AtMost 131 (note_form op)
unfolding note_form
at_most_note op = (omega arith, λ n l k. tt)

at_most_echo : AtMost 131 echo_form
unfolding echo_form word_form counter_form
at_most_echo = (omega arith, λ n l k. (omega arith, λ n l k. tt))

at_most_gfence : AtMost 131 gfence_form
unfolding gfence_form round_form
at_most_gfence = (omega arith, λ n l k. tt)

at_most_addr : AtMost 131 addr_form
unfolding addr_form round_form
at_most_addr = (omega arith, λ n l k. (omega arith, λ n l k. tt))

-- the longest head of a leg and an operation
abbrev head_most : Leg → ℕ → ℕ
head_most Go op = if op == 4 then 259 else 131
head_most Back op = 131
head_most Note op = 131
head_most Echo op = 131
head_most (Join _) op = 131

at_most_go : (layout : Layout) (op size : ℕ) → AtMost (head_most Go op) (head_form layout Go op size)
unfolding head_form
at_most_go layout op size =
    elim (cases_Bool (op == 4)) [
      | inl is_four ↦
          let e : op ≡ 4 = eqb-true op 4 is_four in
          subst (λ (n : ℕ). AtMost (head_most Go n) (head_form layout Go n size)) (sym e) (at_most_getv_go layout)
      | inr not_four ↦
          rw not_four (at_most_if 131 (op == 1) _ _ (at_most_put size)
          (at_most_if 131 (op == 2) _ _ (at_most_get_go layout)
          (at_most_if 131 (op == 3) _ _ (at_most_putv size)
          (at_most_if 131 (op == 5) _ _ at_most_rmw_go at_most_am))))
    ]

at_most_head : (layout : Layout) (leg : Leg) (op size : ℕ) → AtMost (head_most leg op) (head_form layout leg op size)
unfolding head_form
at_most_head layout Go op size = at_most_go layout op size
at_most_head layout Back op size = at_most_if 131 (op == 2) _ _ (at_most_get_back size) (at_most_if 131 (op == 4) _ _ (at_most_getv_back size) at_most_rmw_back)
at_most_head layout Note op size = at_most_note (note_op_of op)
at_most_head layout Echo op size = at_most_echo
at_most_head layout (Join _) op size = at_most_if 131 (op == 7) _ _ at_most_gfence at_most_addr

-- ---- packets

at_most_name : (layout : Layout) (from to : ℕ) → AtMost 4 (name_form layout from to)
unfolding name_form leg_form
at_most_name layout from to = (omega arith, λ n l k. (omega arith, λ n l k. (omega arith, λ n l k. tt)))

-- The longest head has no payload behind it.
head_and_payload : (layout : Layout) (leg : Leg) (op size fragment : ℕ) → is_length layout leg op size ≡ true → head_most leg op + (fragment_length (unit layout) size fragment + 0) ≤ 131 + unit layout
head_and_payload layout Go op size fragment e =
    elim (cases_Bool (op == 4)) [
      | inl is_four ↦
          let four : op ≡ 4 = eqb-true op 4 is_four in
          let empty : (size == 0) ≡ true = subst (λ (n : ℕ). is_length layout Go n size ≡ true) four e in
          let none : size ≡ 0 = eqb-true size 0 empty in
          rw (is_four, none) (omega (arith, unit-least layout))
      | inr not_four ↦ rw not_four (omega arith)
    ]
head_and_payload layout Back op size fragment e = omega arith
head_and_payload layout Note op size fragment e = omega arith
head_and_payload layout Echo op size fragment e = omega arith
head_and_payload layout (Join _) op size fragment e = omega arith

one_field : (size : Size) (why : Reason) (keeps : ℕ → Bool) → AtMost (byte_count size) (field size why keeps)
one_field size why keeps = (omega arith, λ n l k. tt)

at_most_operation : (leg : Leg) → AtMost 1 (operation_form leg)
unfolding operation_form
at_most_operation leg = one_field One reasons.Kind (is_operation leg)

at_most_length : (layout : Layout) (leg : Leg) (op : ℕ) → AtMost 4 (length_form layout leg op)
unfolding length_form
at_most_length layout leg op = one_field Four reasons.Field (is_length layout leg op)

length_kept : (layout : Layout) (leg : Leg) (op : ℕ) → Always (λ size. is_length layout leg op size ≡ true) (length_form layout leg op)
unfolding length_form
length_kept layout leg op = λ n l kept. kept

at_most_fragment : (layout : Layout) (size : ℕ) → AtMost 2 (fragment_form layout size)
unfolding fragment_form
at_most_fragment layout size = one_field Two reasons.Field (λ n. nat_lt n (fragments_in (unit layout) size))

-- behind the front: the number, the name, the operation, the length, the fragment, and head and payload
abbrev data_most : Layout → ℕ
data_most layout = 4 + (4 + (1 + (4 + (2 + (131 + unit layout)))))

at_most_data : (layout from to : ℕ) → AtMost (data_most (layout_of layout)) (data_form layout from to)
unfolding data_form
at_most_data layout from to =
    let l = layout_of layout in
    at_most_bind (any Four) (λ seq. _) 4 _ (one_field Four reasons.Field (λ _. true))
    (λ seq _ _. at_most_bind (name_form l from to) (λ name. _) 4 _ (at_most_name l from to)
    (λ name _ _. at_most_bind (operation_form name.leg) (λ op. _) 1 _ (at_most_operation name.leg)
    (λ op _ _. at_most_bind (length_form l name.leg op) (λ size. _) 4 _ (at_most_length l name.leg op)
    (λ size bytes s. at_most_bind (fragment_form l size) (λ fragment. _) 2 _ (at_most_fragment l size)
    (λ fragment _ _.
    let most = head_most name.leg op in
    let count = fragment_length (unit l) size fragment in
    let sized = always_spelled (λ size. is_length l name.leg op size ≡ true) (length_form l name.leg op) size bytes (length_kept l name.leg op) s in
    at_most_more (head_form l name.leg op size >>= λ head. bytes_form count >>= λ payload. Done _) (most + (count + 0)) (131 + unit l) (head_and_payload l name.leg op size fragment sized)
    (at_most_bind (head_form l name.leg op size) (λ head. bytes_form count >>= λ payload. Done _) most (count + 0) (at_most_head l name.leg op size)
    (λ head _ _. at_most_bind (bytes_form count) (λ payload. Done _) count 0 (at_most_bytes count) (λ payload _ _. tt))))))))

at_most_acknowledgement : (layout from to : ℕ) → AtMost 12 (acknowledgement_form layout from to)
unfolding acknowledgement_form
at_most_acknowledgement layout from to = (omega arith, λ n l k. (bits-most (layout_of layout), λ n l k. tt))

-- what stands behind the version
abbrev behind_version : ℕ → Format Packet
behind_version version = do
  kind ← kind_form
  from ← task_form
  to ← task_form
  if kind == 1 then data_form version from to else acknowledgement_form version from to

at_most_kind : AtMost 1 kind_form
unfolding kind_form
at_most_kind = one_field One reasons.Kind (λ n. n == 1 || n == 2)

at_most_task : AtMost 1 task_form
unfolding task_form
at_most_task = one_field One reasons.Task (λ n. nat_le n 7)

at_most_behind : (version : ℕ) → AtMost (1 + (1 + (1 + data_most (layout_of version)))) (behind_version version)
at_most_behind version =
    let most = data_most (layout_of version) in
    at_most_bind kind_form (λ kind. _) 1 _ at_most_kind
    (λ kind _ _. at_most_bind task_form (λ from. _) 1 _ at_most_task
    (λ from _ _. at_most_bind task_form (λ to. _) 1 _ at_most_task
    (λ to _ _. at_most_if most (kind == 1) (data_form version from to) (acknowledgement_form version from to) (at_most_data version from to)
    (at_most_more (acknowledgement_form version from to) 12 most (omega arith) (at_most_acknowledgement version from to)))))

pub at_most_packet : AtMost 1175 packet_form
unfolding packet_form front_form kind_form task_form
at_most_packet = (
  omega arith,
  λ n l k. (
    omega arith,
    λ version l v. at_most_more (behind_version version) _ 1173 (omega (arith, unit-most (layout_of version))) (at_most_behind version),
  ),
)

-- ---- the layout of what is spelled

abbrev HasLayout : ℕ → Packet → Type 0
HasLayout version p = layout_in p ≡ version

data_layout : (layout from to : ℕ) → Always (HasLayout layout) (data_form layout from to)
unfolding data_form operation_form length_form fragment_form
data_layout layout from to = λ seq _ _.
    let l = layout_of layout in
    always_bind (HasLayout layout) (name_form l from to) (λ name. _)
    (λ name bytes s. λ op _ _ size _ _ fragment _ _.
    let count = fragment_length (unit l) size fragment in
    always_bind (HasLayout layout) (head_form l name.leg op size) (λ head. bytes_form count >>= λ payload. Done _)
    (λ head bytes' s'. always_bind (HasLayout layout) (bytes_form count) (λ payload. Done _) (λ payload bytes'' s''. refl)))

acknowledgement_layout : (layout from to : ℕ) → Always (HasLayout layout) (acknowledgement_form layout from to)
unfolding acknowledgement_form
acknowledgement_layout layout from to = λ base _ _ bits _ _. refl

layout_behind : (version : ℕ) → Always (HasLayout version) (behind_version version)
unfolding kind_form task_form
layout_behind version = λ kind _ _ from _ _ to _ _.
    always_if (HasLayout version) (kind == 1) (data_form version from to) (acknowledgement_form version from to) (λ a. data_layout version from to) (λ a. acknowledgement_layout version from to)

longest_is : (layout : Layout) → longest_packet layout ≡ 151 + unit layout
longest_is First = refl
longest_is Second = refl

pub longest_of_layout : (p : Packet) (bytes : List ℕ) → Spells p bytes → length bytes ≤ longest_packet (layout_of (layout_in p))
unfolding packet_form front_form kind_form task_form
longest_of_layout p bytes s =
    let version = s.5.0 in
    let rest = s.5.1 in
    let spelled : IsSpelled (behind_version version) p rest = s.5.5 in
    let same : layout_in p ≡ version = always_spelled (HasLayout version) (behind_version version) p rest (layout_behind version) spelled in
    let behind = at_most_spelling (behind_version version) _ p rest (at_most_behind version) spelled in
    let magic : length bytes ≡ suc (length s.1) = ap length s.4 in
    let number : length s.1 ≡ suc (length rest) = ap length s.5.4 in
    rw same (omega (arith, behind, magic, number, longest_is (layout_of version)))

-- ---- where reading ends

failed_is : (A : Type 0) (a b : ℕ × Reason) → failed A a ≡ failed A b → a ≡ b
failed_is A a b e = cc

other_way : {A : Type 0} (x : A × List ℕ) (fault : ℕ × Reason) → done x ≡ failed A fault → ⊥
other_way x fault e = cc

pub fault_near : (bytes : List ℕ) (left : ℕ) (why : Reason) → IsBytes bytes → reading packet_form bytes ≡ Err (left, why) → (left ≤ length bytes) × (length bytes ≤ left + 1175)
fault_near bytes left why fits e =
    elim (read_cases packet_form bytes fits) [
      | inl r ↦ absurd (other_way (r.value, r.rest) (left, why) (sym r.gives ∙ e))
      | inr q ↦
          let same : q.left ≡ left = ap (λ p. p.0) (failed_is Packet (q.left, q.why) (left, why) (sym q.gives ∙ e)) in
          let near = at_most_place packet_form 1175 bytes q.place q.why at_most_packet q.refused in
          (omega (arith, q.sum, same), omega (arith, q.sum, same, near))
    ]

pub rest_near : (bytes : List ℕ) (x : Packet) (rest : List ℕ) → IsBytes bytes → reading packet_form bytes ≡ Ok (x, rest) → (length rest ≤ length bytes) × (length bytes ≤ length rest + 1175)
rest_near bytes x rest fits e =
    elim (read_cases packet_form bytes fits) [
      | inl r ↦
          let same : r.rest ≡ rest = ap (λ p. p.1) (pair_is (r.value, r.rest) (x, rest) (sym r.gives ∙ e)) in
          let near = at_most_spelling packet_form 1175 r.value r.spelling at_most_packet r.spelled in
          let parts = ap length r.parts ∙ length-append r.spelling r.rest in
          (omega (arith, parts, ap length same), omega (arith, parts, ap length same, near))
      | inr q ↦ absurd (other_way (x, rest) (q.left, q.why) (sym e ∙ q.gives))
    ]
