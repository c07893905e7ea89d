-- Every packet on a wire of a valid script has a spelling.
use Rattle.std.proofs.Common.{◌≡◌, ℕ, ◌-◌, ◌*◌, ◌%◌, ◌^◌, ◌<◌, ◌≤◌, ◌==◌, min, Bool, true, false, ◌&&◌, ◌||◌, not, List, [], ◌++◌, length, take, drop, refl, sym, ap, ◌∙◌, subst, arith, inl, inr}
use Rattle.std.specs.Prelude.{nat_lt, nat_le}
use Rattle.std.proofs.lemmas.Bool.{false≢true, and_parts, and_from, or_left, or_right, lt-ltb, le-leb, eq-eqb, ltb-true, eqb-false, ne_eqb}
use Rattle.std.proofs.lemmas.List.{append-nil, length-take, length-drop}
use Rattle.std.proofs.lemmas.Option.{slice_get_within}
use Rattle.lapi_base.specs.declared.script.Script.{Script}
use Rattle.lapi_base.specs.declared.rule.Rules.{Rules}
use Rattle.lapi_base.specs.declared.statement.Statement.{Statement}
use Rattle.lapi_base.specs.declared.message.Leg.{Leg}
use Rattle.lapi_base.specs.declared.message.Leg.TheVariants.{Go, Back, Note, Echo, Join}
use Rattle.lapi_base.specs.declared.message.MsgName.{MsgName}
use Rattle.lapi_base.specs.declared.head.Head.{Head}
use Rattle.lapi_base.specs.declared.packet.Packet.{Packet}
use Rattle.lapi_base.specs.declared.packet.Packet.TheVariants.{Data, Ack}
use Rattle.lapi_base.specs.declared.packet.DataPacket.{DataPacket}
use Rattle.lapi_base.specs.declared.head.Head.TheVariants as heads
use Rattle.lapi_base.specs.declared.head.NoteOp.TheVariants as notes
use Rattle.lapi_base.specs.declared.event.Event.{Event}
use Rattle.lapi_base.specs.Packet.Format.{Size, One, Two, Four, Eight, byte_count, bytes_of, Done, ◌>>=◌, bytes_form, IsSpelled}
use Rattle.lapi_base.specs.Record.Fragments.{fragments_in, fragment_length}
use Rattle.lapi_base.specs.Packet.Layout.{Layout, is_version, layout_of, bits_size, has_echo, unit, unit_of, window_of, longest_of}
use Rattle.lapi_base.specs.Packet.Heads.{is_operation, operation_form, head_form}
use Rattle.lapi_base.specs.Packet.Spelling.{task_form, kind_form, front_form, acknowledgement_form, is_leg, leg_of, leg_form, name_form, is_length, length_form, fragment_form, data_form, packet_form, Spells}
use Rattle.lapi_base.specs.Packet.PacketBytes as written
use Rattle.lapi_base.specs.Record.Names.{Copied, happened}
use Rattle.lapi_base.specs.Record.Operations.{statements, statement, target, from_by, to_by, sender, receiver, has_join, has_leg, message_length, fragment_count}
use Rattle.lapi_base.specs.Record.Refusals.{round_of}
use Rattle.lapi_base.specs.Record.Packets.{head_by, data_packet}
use Rattle.lapi_base.specs.Record.Wires.{Run, numbered}
use Rattle.lapi_base.specs.Record.Atomic.{Atomic}
use Rattle.lapi_base.specs.Record.Valid.{IsByte, ValidScript, ValidRules, ValidStatement}
use Rattle.lapi_base.specs.Record.WorldView.{HoldsOfRecords}
use Rattle.lapi_base.specs.Laws.Entries.{GoesFrom, layout_in, carried, IsOfNumber, PacketsArePlaced, PacketsHaveLayout, PacketsAreSpelled, PacketsAreWritten}
use Rattle.lapi_base.specs.Record.Handlers.{answers}
use Rattle.lapi_base.proofs.LayoutLaws.{two-layouts, window-bits, longest-most}
use Rattle.lapi_base.proofs.ListLaws.{all-get}
use Rattle.lapi_base.proofs.TestLaws.{eqb-refl}
use Rattle.lapi_laws.proofs.Still.{copied-ends}
use Rattle.lapi_laws.proofs.Out.{numbered-copied}
use Rattle.lapi_laws.proofs.Backward.{there}
use Rattle.lapi_laws.proofs.Lines.{SoundRun}
use Rattle.lapi_laws.proofs.Shorts.{statements-few, numbers-few, copied-short, copied-few}
use Rattle.lapi_parts.proofs.Records.{record-sound}
use Rattle.lapi_parts.proofs.ExactBytes.{put-of-number}
use Rattle.lapi_parts.proofs.CarriedLengths.{carried-length}
use Rattle.lapi_parts.proofs.SmallBytes.{AllBytes, all-take, all-drop, statement-valid, values-small}
use Rattle.lapi_parts.proofs.Accepted.{Accepted, copied-accepted}
use Rattle.lapi_parts.proofs.SpelledParts.{spelled-bind, spelled-last, bytes-spelled}
use Rattle.lapi_parts.proofs.MessageHeads.{round-small, answer-layout, head-spelled, operation-kept, length-kept}
use Rattle.lapi_parts.proofs.Acknowledgements.{IsTold, record-told}
use Rattle.lapi_parts.proofs.HandedPackets.{numbered-below}

-- ---- packets of any kind

-- the fields at the front of a packet
front-kept : (kind from to : ℕ) → from ≤ 7 → to ≤ 7 → (nat_le from 7 ≡ true) × (nat_le to 7 ≡ true)
front-kept kind from to f t = (le-leb from 7 f, le-leb to 7 t)

-- the version of a layout is a byte
version-small : (n : ℕ) → is_version n ≡ true → n < 256
version-small n h = elim (two-layouts n h) [ inl one ↦ omega arith | inr two ↦ omega arith ]

-- as many bits as a layout's field has bytes for
field-bits : (size : Size) (n : ℕ) → n < 2 ^ (8 * byte_count size) → n < 256 ^ byte_count size
field-bits One n h = h
field-bits Two n h = h
field-bits Four n h = h
field-bits Eight n h = h

pub acknowledgement-spelled : (layout from to base bits : ℕ) → is_version layout ≡ true → from ≤ 7 → to ≤ 7 → base < 2 ^ 32 → bits < 2 ^ (8 * byte_count (bits_size (layout_of layout))) → bits % 2 ≡ 0 → Spells (Ack layout from to base bits) (written.packet (Ack layout from to base bits))
unfolding packet_form front_form kind_form task_form acknowledgement_form
acknowledgement-spelled layout from to base bits v f t b c even = let size = bits_size (layout_of layout) in (
  76,
  _,
  omega arith,
  refl,
  refl,
  (
    layout,
    _,
    version-small layout v,
    v,
    refl,
    (
      2,
      _,
      omega arith,
      refl,
      refl,
      (
        from,
        _,
        omega arith,
        le-leb from 7 f,
        refl,
        (
          to,
          _,
          omega arith,
          le-leb to 7 t,
          refl,
          (base, bytes_of size bits, b, refl, refl, (bits, [], field-bits size bits c, eq-eqb (bits % 2) 0 even, sym (append-nil (bytes_of size bits)), (refl, refl))),
        ),
      ),
    ),
  ),
)

-- a name between two tasks
pub name-spelled : (layout : Layout) (from to : ℕ) (m : MsgName) → from ≤ 7 → to ≤ 7 → m.statement ≤ 511 → (m.origin == from || m.origin == to) ≡ true → is_leg layout from to m.origin (written.leg_number m.leg) ≡ true → leg_of to (written.leg_number m.leg) ≡ m.leg → written.leg_number m.leg < 256 → m.origin < 256 → IsSpelled (name_form layout from to) m (written.name m)
unfolding name_form leg_form
name-spelled layout from to m f t s one leg is small low = (
  m.origin,
  _,
  low,
  one,
  refl,
  (
    m.statement,
    _,
    omega arith,
    le-leb m.statement 511 s,
    refl,
    (
      written.leg_number m.leg,
      [],
      small,
      leg,
      refl,
      (λ i. record { origin = m.origin; statement = m.statement; leg = sym is i }, refl),
    ),
  ),
)

pub data-spelled : (d : DataPacket) → is_version d.layout ≡ true → d.from ≤ 7 → d.to ≤ 7 → d.seq < 2 ^ 32 → IsSpelled (name_form (layout_of d.layout) d.from d.to) d.name (written.name d.name) → is_operation d.name.leg (written.head_number d.head) ≡ true → written.head_number d.head < 256 → is_length (layout_of d.layout) d.name.leg (written.head_number d.head) d.length ≡ true → d.length < 2 ^ 32 → d.fragment < fragments_in (unit (layout_of d.layout)) d.length → d.fragment < 2 ^ 16 → IsSpelled (head_form (layout_of d.layout) d.name.leg (written.head_number d.head) d.length) d.head (written.head d.head) → length d.payload ≡ fragment_length (unit (layout_of d.layout)) d.length d.fragment → AllBytes d.payload → Spells (Data d) (written.packet (Data d))
unfolding packet_form front_form kind_form task_form data_form operation_form length_form fragment_form
data-spelled d v f t n name op op-small size size-small j j-small head count bytes =
    let number = written.head_number d.head in (
      76,
      _,
      omega arith,
      refl,
      refl,
      (
        d.layout,
        _,
        version-small d.layout v,
        v,
        refl,
        (
          1,
          _,
          omega arith,
          refl,
          refl,
          (
            d.from,
            _,
            omega arith,
            le-leb d.from 7 f,
            refl,
            (
              d.to,
              _,
              omega arith,
              le-leb d.to 7 t,
              refl,
              (
                d.seq,
                written.name d.name ++ (written.one number ++ (written.four d.length ++ (written.two d.fragment ++ (written.head d.head ++ d.payload)))),
                n,
                refl,
                refl,
                spelled-bind (name_form (layout_of d.layout) d.from d.to) _ d.name (Data d) (written.name d.name) (written.one number ++ (written.four d.length ++ (written.two d.fragment ++ (written.head d.head ++ d.payload)))) name (
                  number,
                  _,
                  op-small,
                  op,
                  refl,
                  (
                    d.length,
                    _,
                    size-small,
                    size,
                    refl,
                    (
                      d.fragment,
                      written.head d.head ++ d.payload,
                      j-small,
                      lt-ltb d.fragment (fragments_in (unit (layout_of d.layout)) d.length) j,
                      refl,
                      spelled-bind (head_form (layout_of d.layout) d.name.leg number d.length) (λ head. bytes_form (fragment_length (unit (layout_of d.layout)) d.length d.fragment) >>= λ payload. Done (Data (record { layout = d.layout; from = d.from; to = d.to; seq = d.seq; name = d.name; head = head; length = d.length; fragment = d.fragment; payload = payload }))) d.head (Data d) (written.head d.head) d.payload head
                          (spelled-last (bytes_form (fragment_length (unit (layout_of d.layout)) d.length d.fragment)) (λ payload. Data (record { layout = d.layout; from = d.from; to = d.to; seq = d.seq; name = d.name; head = d.head; length = d.length; fragment = d.fragment; payload = payload })) d.payload d.payload
                          (subst (λ (k : ℕ). IsSpelled (bytes_form k) d.payload d.payload) count (bytes-spelled d.payload bytes))),
                    ),
                  ),
                ),
              ),
            ),
          ),
        ),
      ),
    )

-- ---- packets of a record

-- what stands for a leg, between its ends
leg-small : (leg : Leg) → written.leg_number leg < 256
leg-small Go = omega arith
leg-small Back = omega arith
leg-small Note = omega arith
leg-small Echo = omega arith
leg-small (Join d) = omega arith

leg-kept : (script : Script) (echoes : Bool) → (echoes ≡ true → has_echo (layout_of script.layout) ≡ true) → (a d : ℕ) (leg : Leg) (s : Statement) → has_leg script echoes a leg s ≡ true → is_leg (layout_of script.layout) (from_by a d leg) (to_by a d leg) a (written.leg_number leg) ≡ true
leg-kept script echoes may a d Go s h = eqb-refl a
leg-kept script echoes may a d Back s h = eqb-refl a
leg-kept script echoes may a d Note s h = eqb-refl a
leg-kept script echoes may a d Echo s h = and_from (has_echo (layout_of script.layout)) (a == a) (may h) (eqb-refl a)
leg-kept script echoes may a d (Join e) s h =
    let apart = (and_parts (nat_lt e script.tasks) (not (e == a)) (and_parts (has_join s) (nat_lt e script.tasks && not (e == a)) h).1).1 in
    and_from (a == a) (not (a == e)) (eqb-refl a) (ap not (ne_eqb a e (λ same. eqb-false e a (not-true (e == a) apart) (sym same))))
  where
    not-true : (b : Bool) → not b ≡ true → b ≡ false
    not-true false g = refl
    not-true true g = absurd (false≢true g)

leg-read : (a d : ℕ) (leg : Leg) → leg_of (to_by a d leg) (written.leg_number leg) ≡ leg
leg-read a d Go = refl
leg-read a d Back = refl
leg-read a d Note = refl
leg-read a d Echo = refl
leg-read a d (Join e) = refl

origin-kept : (a d : ℕ) (leg : Leg) → (a == from_by a d leg || a == to_by a d leg) ≡ true
origin-kept a d Go = or_left (a == a) (a == d) (eqb-refl a)
origin-kept a d Back = or_right (a == d) (a == a) (eqb-refl a)
origin-kept a d Note = or_right (a == d) (a == a) (eqb-refl a)
origin-kept a d Echo = or_right (a == d) (a == a) (eqb-refl a)
origin-kept a d (Join e) = or_left (a == a) (a == e) (eqb-refl a)

operation-small : (h : Head) → written.head_number h < 256
operation-small (heads.Put at tgt cmpl) = omega arith
operation-small (heads.GetGo asked source dest tgt org) = omega arith
operation-small (heads.GetBack dest org) = omega arith
operation-small (heads.Putv tgt cmpl pieces) = omega arith
operation-small (heads.GetvGo tgt org source dest) = omega arith
operation-small (heads.GetvBack org dest) = omega arith
operation-small (heads.RmwGo op at in1 in2 prev org) = omega arith
operation-small (heads.RmwBack dest org) = omega arith
operation-small (heads.Am handler tgt cmpl header) = omega arith
operation-small (heads.Echo dest cmpl) = omega arith
operation-small (heads.Note notes.Put cmpl) = omega arith
operation-small (heads.Note notes.Putv cmpl) = omega arith
operation-small (heads.Note notes.Am cmpl) = omega arith
operation-small (heads.Gfence round) = omega arith
operation-small (heads.Addr round at) = omega arith

module _ (script : Script) (rules : Rules) where
  -- a packet of a wire goes between its ends
  packet-from : Packet → ℕ
  packet-from (Data p) = p.from
  packet-from (Ack layout from to base bits) = from

  packet-to : Packet → ℕ
  packet-to (Data p) = p.to
  packet-to (Ack layout from to base bits) = to

  wire-placed : (r : Run) (a b : ℕ) (p : Packet) → SoundRun script rules r → IsOfNumber script rules r.journal a b p → IsTold script rules a b p → (a < script.tasks) × (b < script.tasks) × GoesFrom a b p
  unfolding data_packet packet-from packet-to
  wire-placed r a b (Data p) s of told =
      let copied = numbered-copied script r.journal a b p.seq (p.name, p.fragment) of.0 in
      let ends = copied-ends script rules r.journal p.name s.atomic copied.0 in
      (subst (λ (n : ℕ). n < script.tasks) copied.1 ends.0, subst (λ (n : ℕ). n < script.tasks) copied.2 ends.1, (ap packet-from of.1 ∙ copied.1, ap packet-to of.1 ∙ copied.2))
  wire-placed r a b (Ack layout from to base bits) s of told = (told.3, told.4, (told.1, told.2))

  -- and has the script's layout
  wire-layout : (r : Run) (a b : ℕ) (p : Packet) → IsOfNumber script rules r.journal a b p → IsTold script rules a b p → layout_in p ≡ script.layout
  unfolding data_packet
  wire-layout r a b (Data p) of told = ap layout_in of.1
  wire-layout r a b (Ack layout from to base bits) of told = told.0

module _ (script : Script) (rules : Rules) (valid : ValidScript script) (few : ValidRules rules) where
  -- a message's length and its head keep their rules
  size-kept : (m : MsgName) (echoes : Bool) → has_leg script echoes m.origin m.leg (statement script m.origin m.statement) ≡ true → Accepted script rules (target script m.origin m.statement) (statement script m.origin m.statement) → is_length (layout_of script.layout) m.leg (written.head_number (head_by script m m.leg (statement script m.origin m.statement))) (message_length script m) ≡ true
  unfolding message_length
  size-kept m echoes g f = length-kept script rules valid few m echoes m.leg (statement script m.origin m.statement) g f

  head-kept : (m : MsgName) (echoes : Bool) → (echoes ≡ true → answers script rules m.origin m.statement ≡ true) → has_leg script echoes m.origin m.leg (statement script m.origin m.statement) ≡ true → Accepted script rules (target script m.origin m.statement) (statement script m.origin m.statement) → ValidStatement (statement script m.origin m.statement) → round_of script m.origin m.statement ≤ 511 → IsSpelled (head_form (layout_of script.layout) m.leg (written.head_number (head_by script m m.leg (statement script m.origin m.statement))) (message_length script m)) (head_by script m m.leg (statement script m.origin m.statement)) (written.head (head_by script m m.leg (statement script m.origin m.statement)))
  unfolding message_length
  head-kept m echoes may g f v r = head-spelled script rules valid few m echoes may m.leg (statement script m.origin m.statement) g f v r

  -- and its packets have spellings, whatever bytes it has; a statement has an Echo only where it answers
  pub packet-spelled : (m : MsgName) (n j : ℕ) (bytes : List ℕ) (echoes : Bool) → (echoes ≡ true → answers script rules m.origin m.statement ≡ true) →
      m.origin < script.tasks → m.statement < length (statements script m.origin) → sender script m < script.tasks → receiver script m < script.tasks →
      has_leg script echoes m.origin m.leg (statement script m.origin m.statement) ≡ true →
      Accepted script rules (target script m.origin m.statement) (statement script m.origin m.statement) →
      message_length script m ≤ longest_of script → fragment_count script m ≤ 64 → length bytes ≡ message_length script m → AllBytes bytes →
      n < 2 ^ 32 → j < fragment_count script m → Spells (data_packet script m n j bytes) (written.packet (data_packet script m n j bytes))
  unfolding data_packet fragment_count unit_of longest_of
  packet-spelled m n j bytes echoes may own at from to leg fine short count long all ln lj =
      let a = m.origin in
      let i = m.statement in
      let s = statement script a i in
      let d = target script a i in
      let size = message_length script m in
      let head = head_by script m m.leg s in
      let tasks : script.tasks ≤ 8 = valid.tasks.1 in
      let most = statements-few script rules valid a in
      let unit = unit_of script in
      let layout = layout_of script.layout in
      let part : length (take unit (drop (unit * j) bytes)) ≡ min unit (size - unit * j) = length-take unit (drop (unit * j) bytes) ∙ ap (λ k. min unit k) (length-drop (unit * j) bytes ∙ ap (λ k. k - unit * j) long) in
      data-spelled (record { layout = script.layout; from = sender script m; to = receiver script m; seq = n; name = m; head = head; length = size; fragment = j; payload = take unit (drop (unit * j) bytes) })
      valid.layout (omega arith) (omega arith) ln
      (name-spelled layout (sender script m) (receiver script m) m (omega arith) (omega arith) (omega arith) (origin-kept a d m.leg) (leg-kept script echoes (λ e. answer-layout script rules m (may e)) a d m.leg s leg) (leg-read a d m.leg) (leg-small m.leg) (omega arith))
      (operation-kept script rules valid few m echoes m.leg s leg) (operation-small head)
      (size-kept m echoes leg fine) (omega (arith, short, longest-most layout))
      lj (omega arith)
      (head-kept m echoes may leg fine (statement-valid script valid a i) (round-small script a i (omega arith)))
      part
      (all-take IsByte unit (drop (unit * j) bytes) (all-drop IsByte (unit * j) bytes all))

  pub message-spelled : (J : List Event) (m : MsgName) (n j : ℕ) → Atomic script rules J → happened (Copied m) J ≡ true → n < 2 ^ 32 → j < fragment_count script m → Spells (data_packet script m n j (carried script rules J m)) (written.packet (data_packet script m n j (carried script rules J m)))
  message-spelled J m n j h c ln lj =
      let is = and_parts _ _ (there script rules (Copied m) J h c) in
      let place = and_parts (nat_lt m.origin script.tasks) (nat_lt m.statement (length (statements script m.origin))) is.0 in
      let ends = copied-ends script rules J m h c in
      packet-spelled m n j (carried script rules J m) (answers script rules m.origin m.statement) (λ e. e)
      (ltb-true m.origin script.tasks place.0) (ltb-true m.statement (length (statements script m.origin)) place.1)
      ends.0 ends.1 is.1
      (copied-accepted script rules J m h c)
      (copied-short script rules J m h c)
      (copied-few script rules J m h c)
      (carried-length script rules J m h c)
      ((values-small script rules valid J).bytes m)
      ln lj

  -- a bit for each packet of the window fits in the layout's field
  bits-room : {bits : ℕ} → bits < 2 ^ window_of script → bits < 2 ^ (8 * byte_count (bits_size (layout_of script.layout)))
  unfolding window_of
  bits-room {bits} h = subst (λ w. bits < 2 ^ w) (window-bits (layout_of script.layout)) h

  -- a packet of a wire
  wire-spelled : (r : Run) (a b : ℕ) (p : Packet) → SoundRun script rules r → IsOfNumber script rules r.journal a b p → IsTold script rules a b p → Spells p (written.packet p)
  wire-spelled r a b (Data p) s of told =
      let copied = numbered-copied script r.journal a b p.seq (p.name, p.fragment) of.0 in
      let room = slice_get_within (numbered script r.journal a b) p.seq (p.name, p.fragment) of.0 in
      let few-numbers = numbers-few script rules valid r.journal a b s.atomic (λ m d. copied-few script rules r.journal m s.atomic d) in
      let fragment = numbered-below script r.journal a b p.seq (p.name, p.fragment) of.0 in
      subst (λ (q : Packet). Spells q (written.packet q)) (sym of.1) (message-spelled r.journal p.name p.seq p.fragment s.atomic copied.0 (omega arith) fragment)
  wire-spelled r a b (Ack layout from to base bits) s of told =
      let tasks : script.tasks ≤ 8 = valid.tasks.1 in
      let own : layout ≡ script.layout = told.0 in
      let x : from ≡ a = told.1 in
      let y : to ≡ b = told.2 in
      let la : a < script.tasks = told.3 in
      let lb : b < script.tasks = told.4 in
      acknowledgement-spelled layout from to base bits (subst (λ n. is_version n ≡ true) (sym own) valid.layout) (omega arith) (omega arith) (told.5 valid) (subst (λ n. bits < 2 ^ (8 * byte_count (bits_size (layout_of n)))) (sym own) (bits-room told.6)) told.7

pub packets-placed : HoldsOfRecords PacketsArePlaced
packets-placed script rules r is = λ a b k p at.
    wire-placed script rules r a b p (record-sound script rules r is) (all-get (IsOfNumber script rules r.journal a b) (r.wire a b) k p (put-of-number script rules r is a b) at) (all-get (IsTold script rules a b) (r.wire a b) k p (record-told script rules r is a b) at)

pub packets-have-layout : HoldsOfRecords PacketsHaveLayout
packets-have-layout script rules r is = λ a b k p at.
    wire-layout script rules r a b p (all-get (IsOfNumber script rules r.journal a b) (r.wire a b) k p (put-of-number script rules r is a b) at) (all-get (IsTold script rules a b) (r.wire a b) k p (record-told script rules r is a b) at)

pub packets-written : HoldsOfRecords PacketsAreWritten
packets-written script rules r is = λ valid few a b k p at.
    wire-spelled script rules valid few r a b p (record-sound script rules r is) (all-get (IsOfNumber script rules r.journal a b) (r.wire a b) k p (put-of-number script rules r is a b) at) (all-get (IsTold script rules a b) (r.wire a b) k p (record-told script rules r is a b) at)

pub packets-spelled : HoldsOfRecords PacketsAreSpelled
packets-spelled script rules r is = λ valid few a b k p at. (written.packet p, packets-written script rules r is valid few a b k p at)
