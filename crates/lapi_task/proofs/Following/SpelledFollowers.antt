-- What follows the landing of a packet that has a spelling may leave.
use Rattle.std.proofs.Common.{◌≡◌, ℕ, ◌+◌, ◌-◌, ◌*◌, ◌^◌, ◌<◌, ◌≤◌, ◌==◌, ◌||◌, min, Bool, true, List, [], ◌∷◌, length, drop, Option, Some, None, refl, sym, ap, ◌∙◌, subst, arith}
use Rattle.std.specs.Prelude.{option_map}
use Rattle.std.specs.Option.{option_or}
use Rattle.std.specs.List.{AllByRecursion, flat_map}
use Rattle.std.proofs.lemmas.Bool.{or_right, eq-eqb, le-leb}
use Rattle.std.proofs.lemmas.List.{length-take, length-drop, length-append}
use Rattle.std.proofs.lemmas.List.Sums.{sum_by-cons}
use Rattle.lapi_base.specs.declared.head.Head.{Head}
use Rattle.lapi_base.specs.declared.head.Head.TheVariants as heads
use Rattle.lapi_base.specs.declared.head.NoteOp.{NoteOp}
use Rattle.lapi_base.specs.declared.head.NoteOp.TheVariants as notes
use Rattle.lapi_base.specs.declared.message.Leg.{Leg}
use Rattle.lapi_base.specs.declared.message.Leg.TheVariants.{Go, Back, Note}
use Rattle.lapi_base.specs.declared.message.MsgName.{MsgName}
use Rattle.lapi_base.specs.declared.packet.DataPacket.{DataPacket}
use Rattle.lapi_base.specs.declared.packet.Packet.TheVariants.{Data}
use Rattle.lapi_base.specs.declared.span.Span.{Span}
use Rattle.lapi_base.specs.Laws.Receiving.{bytes_in}
use Rattle.lapi_base.specs.Packet.Format.{IsSpelled}
use Rattle.lapi_base.specs.Packet.Heads.{is_operation, note_op_of, note_form, get_back_form, head_form}
use Rattle.lapi_base.specs.Packet.Layout.{Layout, First, Second, is_version, layout_of, unit, longest}
use Rattle.lapi_base.specs.Packet.PacketBytes as written
use Rattle.lapi_base.specs.Packet.Spelling.{is_leg, leg_of, is_length}
use Rattle.lapi_base.specs.Record.Fragments.{fragments_in, fragment_bytes}
use Rattle.lapi_base.specs.Record.HeadSays.{back_head, note_head, asked_pieces}
use Rattle.lapi_base.specs.Record.Names.{message}
use Rattle.lapi_base.specs.Record.Valid.{IsByte}
use Rattle.lapi_base.proofs.LayoutLaws.{longest-most, longest-fragments}
use Rattle.lapi_base.proofs.ListLaws.{all-append, some-same}
use Rattle.lapi_memory.specs.TaskMemory.{bytes_at}
use Rattle.lapi_parts.proofs.SmallBytes.{AllBytes, all-take, all-drop}
use Rattle.lapi_parts.proofs.SpelledHeads.{get_back-spelled, getv_back-spelled, rmw_back-spelled, note-spelled}
use Rattle.lapi_parts.proofs.SpelledPackets.{name-spelled, data-spelled}
use Rattle.lapi_parts.proofs.MessageHeads.{same-total}
use Rattle.lapi_task.specs.Landed.{Follower, follower_packet, note_of, back_of, note_now, follower, MayLeave}
use Rattle.lapi_task.specs.Outgoing.{AreSpelled}
use Rattle.lapi_task.proofs.Following.KeptHeads.{Bears}
use Rattle.lapi_task.proofs.Following.FollowerParts.{noted-now}

-- ---- what stands at pieces of a memory

picked-length : (pieces : List Span) (memory : List ℕ) → AllByRecursion (λ (p : Span). p.at + p.len ≤ length memory) pieces → length (flat_map (λ p. bytes_at memory p.at p.len) pieces) ≡ bytes_in pieces
picked-length [] memory h = refl
picked-length (p ∷ ps) memory h =
    let own : length (bytes_at memory p.at p.len) ≡ p.len = length-take p.len (drop p.at memory) ∙ (let d = length-drop p.at memory in let l = h.0 in omega (arith, d, l)) in
    let rest = picked-length ps memory h.1 in
    length-append (bytes_at memory p.at p.len) (flat_map (λ q. bytes_at memory q.at q.len) ps)
    ∙ (λ i. own i + rest i)
    ∙ sym (sum_by-cons (λ (s : Span). s.len) p ps)

picked-bytes : (pieces : List Span) (memory : List ℕ) → AllBytes memory → AllBytes (flat_map (λ p. bytes_at memory p.at p.len) pieces)
picked-bytes [] memory h = tt
picked-bytes (p ∷ ps) memory h = all-append IsByte (bytes_at memory p.at p.len) (flat_map (λ q. bytes_at memory q.at q.len) ps) (all-take IsByte p.len (drop p.at memory) (all-drop IsByte p.at memory h)) (picked-bytes ps memory h)

fragments-few : (layout : Layout) (len j : ℕ) → len ≤ longest layout → j < fragments_in (unit layout) len → j < 2 ^ 16
fragments-few First len j l lj = omega arith
fragments-few Second len j l lj = omega arith

-- a word is no longer than the longest message
word-short : (layout : Layout) → 4 ≤ longest layout
word-short First = omega arith
word-short Second = omega arith

-- a message that another one follows is a Go
pub go-of : (by : Layout) (leg : Leg) (h : Head) → Bears by leg h → (layout t a : ℕ) (m : MsgName) (c : Bool) (memory : List ℕ) (x : Follower) → follower layout t a m h c memory ≡ Some x → leg ≡ Go
go-of by leg (heads.Put at tgt cmpl) b layout t a m c memory x e = b.0
go-of by leg (heads.Putv tgt cmpl pieces) b layout t a m c memory x e = b.0
go-of by leg (heads.Am handler tgt cmpl header) b layout t a m c memory x e = b.0
go-of by leg (heads.GetGo asked source dest tgt org) b layout t a m c memory x e = b.0
go-of by leg (heads.GetvGo tgt org source dest) b layout t a m c memory x e = b.0
go-of by leg (heads.RmwGo op at in1 in2 prev org) b layout t a m c memory x e = b.0
go-of by leg _ b layout t a m c memory x e = absurd (let q : None ≡ Some x = e in cc)

-- ---- the packets of what goes from task t to task a, which sent the message

module _ (layout : ℕ) (known : is_version layout ≡ true) (t a : ℕ) (own : t ≤ 7) (other : a ≤ 7) (m : MsgName) (from : m.origin ≡ a) (few : m.statement ≤ 511) where
  abbrev by : Layout
  by = layout_of layout

  abbrev room : ℕ
  room = unit by

  parts-spelled : (leg : Leg) (head : Head) (len : ℕ) (bytes : List ℕ) →
      is_leg by t a m.origin (written.leg_number leg) ≡ true → leg_of a (written.leg_number leg) ≡ leg → written.leg_number leg < 256 →
      is_operation leg (written.head_number head) ≡ true → written.head_number head < 256 →
      is_length by leg (written.head_number head) len ≡ true → len ≤ longest by →
      IsSpelled (head_form by leg (written.head_number head) len) head (written.head head) →
      length bytes ≡ len → AllBytes bytes → AreSpelled room (follower_packet layout t a m leg head len) bytes
  parts-spelled leg head len bytes is read leg-small op op-small size short spelled long all = λ n j ln lj.
      let d : DataPacket = record (follower_packet layout t a m leg head len) { seq = n; fragment = j; payload = fragment_bytes room j bytes } in
      let origin : (m.origin == t || m.origin == a) ≡ true = or_right (m.origin == t) (m.origin == a) (eq-eqb m.origin a from) in
      let part : length (fragment_bytes room j bytes) ≡ min room (len - room * j) = length-take room (drop (room * j) bytes) ∙ ap (λ k. min room k) (length-drop (room * j) bytes ∙ ap (λ k. k - room * j) long) in (
        written.packet (Data d),
        data-spelled d known own other ln
            (name-spelled by t a (message m.origin m.statement leg) own other few origin is read leg-small (omega (arith, from, other)))
            op op-small size (omega (arith, short, longest-most by)) lj (fragments-few by len j short lj) spelled part
            (all-take IsByte room (drop (room * j) bytes) (all-drop IsByte (room * j) bytes all)),
      )

  -- a notice
  note-op : (op : NoteOp) → (is_operation Note (written.note_number op) ≡ true) × (written.note_number op < 256) × (note_op_of (written.note_number op) ≡ op)
  note-op notes.Put = (refl, omega arith, refl)
  note-op notes.Putv = (refl, omega arith, refl)
  note-op notes.Am = (refl, omega arith, refl)

  note-leaves : (op : NoteOp) (c : ℕ) → c < 64 → MayLeave room (note_of layout t a m (heads.Note op c))
  unfolding head_form
  note-leaves op c l =
      let n = note-op op in
      record {
        size = refl;
        short = omega arith;
        spelled = parts-spelled Note (heads.Note op c) 0 [] (eq-eqb m.origin a from) refl (omega arith) n.0 n.1 refl (omega arith) (subst (λ o. IsSpelled (note_form o) (heads.Note op c) (written.head (heads.Note op c))) (sym n.2) (note-spelled op c l)) refl tt;
      }

  note-by : (h : Head) → Bears by m.leg h → (head : Head) → note_head h ≡ Some head → MayLeave room (note_of layout t a m head)
  note-by (heads.Put at tgt (Some c)) b head e = subst (λ x. MayLeave room (note_of layout t a m x)) (some-same _ _ e) (note-leaves notes.Put c b.1)
  note-by (heads.Putv tgt (Some c) pieces) b head e = subst (λ x. MayLeave room (note_of layout t a m x)) (some-same _ _ e) (note-leaves notes.Putv c b.1)
  note-by (heads.Am handler tgt (Some c) header) b head e = subst (λ x. MayLeave room (note_of layout t a m x)) (some-same _ _ e) (note-leaves notes.Am c b.1)
  note-by (heads.Put at tgt None) b head e = absurd (let q : None ≡ Some head = e in cc)
  note-by (heads.Putv tgt None pieces) b head e = absurd (let q : None ≡ Some head = e in cc)
  note-by (heads.Am handler tgt None header) b head e = absurd (let q : None ≡ Some head = e in cc)
  note-by _ b head e = absurd (let q : None ≡ Some head = e in cc)

  -- an answer
  module _ (memory : List ℕ) (small : AllBytes memory) where
    back-leaves : (pieces : List Span) (head : Head) → AllByRecursion (λ (p : Span). p.at + p.len ≤ length memory) pieces → bytes_in pieces ≤ longest by →
        is_operation Back (written.head_number head) ≡ true → written.head_number head < 256 → is_length by Back (written.head_number head) (bytes_in pieces) ≡ true →
        IsSpelled (head_form by Back (written.head_number head) (bytes_in pieces)) head (written.head head) → MayLeave room (back_of layout t a m pieces memory head)
    back-leaves pieces head within short op op-small size spelled =
        let bytes = flat_map (λ (p : Span). bytes_at memory p.at p.len) pieces in
        let long = picked-length pieces memory within in
        record {
          size = long;
          short = omega (arith, short, longest-fragments by);
          spelled = parts-spelled Back head (bytes_in pieces) bytes (eq-eqb m.origin a from) refl (omega arith) op op-small size short spelled long (picked-bytes pieces memory small);
        }

    one-sum : (at len : ℕ) → bytes_in (record { at = at; len = len } ∷ []) ≡ len
    one-sum at len = sum_by-cons (λ (s : Span). s.len) (record { at = at; len = len }) [] ∙ (let q : len + 0 ≡ len = omega arith in q)

    back-by : (h : Head) → Bears by m.leg h → AllByRecursion (λ (p : Span). p.at + p.len ≤ length memory) (asked_pieces h) → (back : Head) → back_head h ≡ Some back → MayLeave room (back_of layout t a m (asked_pieces h) memory back)
    unfolding head_form
    back-by (heads.GetGo asked source dest tgt org) b within back e =
        let sum = one-sum source asked in
        let short : bytes_in (record { at = source; len = asked } ∷ []) ≤ longest by = (let l = b.1 in omega (arith, sum, l)) in
        subst (λ x. MayLeave room (back_of layout t a m (asked_pieces (heads.GetGo asked source dest tgt org)) memory x)) (some-same _ _ e)
        (back-leaves (record { at = source; len = asked } ∷ []) (heads.GetBack dest org) within short refl (omega arith) (le-leb (bytes_in (record { at = source; len = asked } ∷ [])) (longest by) short)
        (subst (λ n. IsSpelled (get_back_form n) (heads.GetBack dest org) (written.head (heads.GetBack dest org))) (sym sum) (get_back-spelled asked dest org b.2 b.3)))
    back-by (heads.GetvGo tgt org source dest) b within back e =
        let sum = same-total source dest b.4 in
        let l : bytes_in source ≤ longest by = b.5 in
        subst (λ x. MayLeave room (back_of layout t a m source memory x)) (some-same _ _ e)
        (back-leaves source (heads.GetvBack org dest) within l refl (omega arith) (le-leb (bytes_in source) (longest by) l)
        (getv_back-spelled (bytes_in source) org dest b.6 b.1 b.2 b.3 (sym sum)))
    back-by (heads.RmwGo op at in1 in2 prev org) b within back e =
        let sum = one-sum at 4 in
        subst (λ x. MayLeave room (back_of layout t a m (asked_pieces (heads.RmwGo op at in1 in2 prev org)) memory x)) (some-same _ _ e)
        (back-leaves (record { at = at; len = 4 } ∷ []) (heads.RmwBack prev org) within (omega (arith, sum, word-short by)) refl (omega arith) (eq-eqb (bytes_in (record { at = at; len = 4 } ∷ [])) 4 sum)
        (rmw_back-spelled prev org b.1 b.2 b.3))
    back-by _ b within back e = absurd (let q : None ≡ Some back = e in cc)

    leaves-by : (h : Head) (c : Bool) → Bears by m.leg h → AllByRecursion (λ (p : Span). p.at + p.len ≤ length memory) (asked_pieces h) → (ob on : Option Head) → back_head h ≡ ob → note_now h c ≡ on → (x : Follower) → option_or (option_map (back_of layout t a m (asked_pieces h) memory) ob) (option_map (note_of layout t a m) on) ≡ Some x → MayLeave room x
    leaves-by h c b within (Some head) on eb en x e = subst (MayLeave room) (some-same _ _ e) (back-by h b within head eb)
    leaves-by h c b within None (Some head) eb en x e = subst (MayLeave room) (some-same _ _ e) (note-by h b head (noted-now h c head en))
    leaves-by h c b within None None eb en x e = absurd (let q : None ≡ Some x = e in cc)

    -- What follows may leave, whatever was answered to the header.
    pub leaves : (h : Head) (c : Bool) → Bears by m.leg h → AllByRecursion (λ (p : Span). p.at + p.len ≤ length memory) (asked_pieces h) → (x : Follower) → follower layout t a m h c memory ≡ Some x → MayLeave room x
    leaves h c b within x e = leaves-by h c b within (back_head h) (note_now h c) refl refl x e
