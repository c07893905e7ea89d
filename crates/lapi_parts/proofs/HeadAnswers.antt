-- What follows a landing, and what handlers answer, by the head of the packet that came.
use Rattle.std.proofs.Common.{◌≡◌, ℕ, ◌+◌, ◌==◌, Bool, true, false, cond, ◌&&◌, not, List, [], ◌∷◌, length, Option, Some, None, refl, sym, ap, ◌∙◌, arith, unwrap_or}
use Rattle.std.specs.Prelude.{is_some}
use Rattle.std.proofs.lemmas.Bool.{false≢true, and_parts, cond-true, cond_both, not-true, eqb-true}
use Rattle.std.proofs.lemmas.List.Sums.{sum_by-cons}
use Rattle.lapi_base.specs.declared.script.Script.{Script}
use Rattle.lapi_base.specs.declared.span.Span.{Span}
use Rattle.lapi_base.specs.declared.statement.Statement.{Statement}
use Rattle.lapi_base.specs.declared.statement.Statement.TheVariants.{Put, Get, Putv, Getv, Rmw, Am, Gfence}
use Rattle.lapi_base.specs.declared.rule.Rules.{Rules}
use Rattle.lapi_base.specs.declared.message.Leg.{Leg}
use Rattle.lapi_base.specs.declared.message.Leg.TheVariants.{Go, Back, Note, Echo, Join}
use Rattle.lapi_base.specs.declared.message.MsgName.{MsgName}
use Rattle.lapi_base.specs.declared.handler.HeaderIn.{HeaderIn}
use Rattle.lapi_base.specs.declared.event.Event.{Event}
use Rattle.lapi_base.specs.declared.event.Event.TheVariants.{Copy, Head, Land}
use Rattle.lapi_base.specs.declared.head.Head.{Head as PacketHead}
use Rattle.lapi_base.specs.declared.head.Head.TheVariants as heads
use Rattle.lapi_base.specs.declared.packet.Packet.TheVariants.{Data}
use Rattle.lapi_base.specs.declared.packet.DataPacket.{DataPacket}
use Rattle.lapi_base.specs.Packet.Layout.{unit_of}
use Rattle.lapi_base.specs.Record.Fragments.{fragment_bytes}
use Rattle.lapi_base.specs.Record.Names.{message, name_eq, leg_eq}
use Rattle.lapi_base.specs.Record.Operations.{one_span, statement, target, target_pieces, pieces_of, spans, is_am, is_rmw, has_back, has_leg, length_by, message_length, to_by, from_by, sender, receiver, address, tgt_counter, cmpl_counter}
use Rattle.lapi_base.specs.Record.Handlers.{handler_of, user_header, header_answer, header_rule, header_out, kept_choice, completion, has_completion, user, user_by, buffer, kept_place}
use Rattle.lapi_base.specs.Record.Values.{Memories, Values, values, gathered, byte_after, at_target, with_bytes, source_by, land_writes}
use Rattle.lapi_base.specs.Record.Packets.{head_by, data_packet}
use Rattle.lapi_base.specs.Record.Wires.{Run, is_delivered}
use Rattle.lapi_base.specs.Record.Acts.{followed, first_delivery, after_land, note_of}
use Rattle.lapi_base.specs.Record.Arrived.{has_some, whole_by, count_of}
use Rattle.lapi_base.specs.Record.HeadSays.{is_active, back_head, asked_pieces, note_head}
use Rattle.lapi_base.specs.Record.WorldView.{HoldsOfRecords}
use Rattle.lapi_base.specs.Laws.Entries.{carried}
use Rattle.lapi_base.specs.Laws.Receiving.{bytes_in}
use Rattle.lapi_base.specs.Laws.Landing.{completes}
use Rattle.lapi_base.specs.Laws.Answering.{IsSentAs, BacksFollowHeads, BacksBringOld, NotesFollowHeads, IsAnswered, HandlersAnswerHeads, ActivesNameCounters, EndsFollowJobs, HoldsOfJobs}
use Rattle.lapi_base.proofs.ListLaws.{some-same}
use Rattle.lapi_base.proofs.NameLaws.{name_eq-refl, leg_eq-true}
use Rattle.lapi_parts.proofs.LocalQuestions.{by_points}
use Rattle.lapi_parts.proofs.MessageHeads.{spans-total}
use Rattle.lapi_parts.proofs.Deliveries.{Facts, facts, delivered, arriving, head-values}
use Rattle.lapi_base.specs.declared.head.NoteOp.{NoteOp}
use Rattle.lapi_base.specs.Record.Jobs.{is_job}

one-total : (at n : ℕ) → n ≡ bytes_in (one_span at n)
one-total at n = let e : n ≡ n + 0 = omega arith in e ∙ sym (sum_by-cons (λ (s : Span). s.len) (record { at = at; len = n }) [])

module _ (script : Script) (rules : Rules) where
  -- ---- the heads of what follows

  record IsBackOf (m : MsgName) (leg : Leg) (s : Statement) (answer : PacketHead) : Type 0 where
    pub go : leg ≡ Go
    pub back : has_back s ≡ true
    pub head : head_by script (message m.origin m.statement Back) Back s ≡ answer
    pub length : length_by Back s ≡ bytes_in (asked_pieces (head_by script m leg s))
    pub pieces : spans script (target script m.origin m.statement) (target_pieces s) ≡ asked_pieces (head_by script m leg s)

  back-by : (answers : Bool) (m : MsgName) (leg : Leg) (s : Statement) (head : PacketHead) → has_leg script answers m.origin leg s ≡ true → back_head (head_by script m leg s) ≡ Some head → IsBackOf m leg s head
  back-by ans m Go (Get task from to len tgt org) head h e = record { go = refl; back = refl; head = some-same _ _ e; length = one-total (address script (target script m.origin m.statement) from) len; pieces = refl }
  back-by ans m Go (Getv task from to tgt org) head h e = record { go = refl; back = refl; head = some-same _ _ e; length = sym (spans-total script (target script m.origin m.statement) (pieces_of from)); pieces = refl }
  back-by ans m Go (Rmw task op at in1 in2 prev org) head h e = record { go = refl; back = refl; head = some-same _ _ e; length = one-total (address script (target script m.origin m.statement) at) 4; pieces = refl }
  back-by ans m Go (Put task to from len tgt org cmpl) head h e = absurd (cc)
  back-by ans m Go (Putv task to from tgt org cmpl) head h e = absurd (cc)
  back-by ans m Go (Am task handler header from len tgt org cmpl) head h e = absurd (cc)
  back-by ans m Back (Get task from to len tgt org) head h e = absurd (cc)
  back-by ans m Back (Getv task from to tgt org) head h e = absurd (cc)
  back-by ans m Back (Rmw task op at in1 in2 prev org) head h e = absurd (cc)
  back-by ans m Note s head h e = absurd (cc)
  back-by ans m Echo s head h e = absurd (cc)
  back-by ans m (Join d) Gfence head h e = absurd (cc)
  back-by ans m (Join d) (Statement.Addr at) head h e = absurd (cc)
  back-by ans m _ s head h e = absurd (false≢true h)

  abbrev IsNoteOf : MsgName → Leg → Statement → PacketHead → Type 0
  IsNoteOf m leg s head = (leg ≡ Go) × (head_by script (message m.origin m.statement Note) Note s ≡ head)

  note-by : (answers : Bool) (m : MsgName) (leg : Leg) (s : Statement) (head : PacketHead) → has_leg script answers m.origin leg s ≡ true → note_head (head_by script m leg s) ≡ Some head → IsNoteOf m leg s head
  note-by ans m Go (Put task to from len tgt org (Some c)) head h e = (refl, some-same _ _ e)
  note-by ans m Go (Putv task to from tgt org (Some c)) head h e = (refl, some-same _ _ e)
  note-by ans m Go (Am task handler header from len tgt org (Some c)) head h e = (refl, some-same _ _ e)
  note-by ans m Go (Put task to from len tgt org None) head h e = absurd (cc)
  note-by ans m Go (Putv task to from tgt org None) head h e = absurd (cc)
  note-by ans m Go (Am task handler header from len tgt org None) head h e = absurd (cc)
  note-by ans m Go (Get task from to len tgt org) head h e = absurd (cc)
  note-by ans m Go (Getv task from to tgt org) head h e = absurd (cc)
  note-by ans m Go (Rmw task op at in1 in2 prev org) head h e = absurd (cc)
  note-by ans m Back (Get task from to len tgt org) head h e = absurd (cc)
  note-by ans m Back (Getv task from to tgt org) head h e = absurd (cc)
  note-by ans m Back (Rmw task op at in1 in2 prev org) head h e = absurd (cc)
  note-by ans m Note s head h e = absurd (cc)
  note-by ans m Echo s head h e = absurd (cc)
  note-by ans m (Join d) Gfence head h e = absurd (cc)
  note-by ans m (Join d) (Statement.Addr at) head h e = absurd (cc)
  note-by ans m _ s head h e = absurd (false≢true h)

  -- the packets of a message with these ends, head and length
  sent-as : (m : MsgName) (a b : ℕ) (head : PacketHead) (len : ℕ) → sender script m ≡ a → receiver script m ≡ b → head_by script m m.leg (statement script m.origin m.statement) ≡ head → message_length script m ≡ len → IsSentAs script rules m a b head len
  unfolding data_packet
  sent-as m a b head len f t h l = λ n j bytes.
      λ i. Data (record { layout = script.layout; from = f i; to = t i; seq = n; name = m; head = h i; length = l i; fragment = j; payload = fragment_bytes (unit_of script) j bytes })

  -- ---- what a Back brings

  abbrev back_of : ℕ → ℕ → MsgName
  back_of a i = message a i Back

  -- the landing of a Go whose data come back writes nothing, unless it changes a word
  no-writes : (v : Values) (m : MsgName) (s : Statement) → has_back s ≡ true → is_rmw s ≡ false → land_writes script rules v m Go s ≡ []
  no-writes v m (Get task from to len tgt org) h r = refl
  no-writes v m (Getv task from to tgt org) h r = refl
  no-writes v m _ h r = absurd (cc)

  memory-stays : (K : List Event) (a i : ℕ) → has_back (statement script a i) ≡ true → is_rmw (statement script a i) ≡ false → (values script rules (Land (message a i Go) ∷ K)).memory ≡ (values script rules K).memory
  unfolding values byte_after
  memory-stays K a i h r =
      let v = values script rules K in
      let m = message a i Go in
      by_points _ _ (λ t. by_points _ _ (λ x.
      cond_both (t == receiver script m) (byte_after (land_writes script rules v m Go (statement script a i)) x (v.memory t x)) (v.memory t x) (λ n. n ≡ v.memory t x)
      (λ _. ap (λ ws. byte_after ws x (v.memory t x)) (no-writes v m (statement script a i) h r))
      (λ _. refl)))

  abbrev old_bytes : List Event → ℕ → ℕ → List ℕ
  old_bytes K a i = gathered (values script rules K).memory (target script a i) (at_target script rules a i)

  word-read : (K : List Event) (a i : ℕ) → is_rmw (statement script a i) ≡ true → carried script rules (Land (message a i Go) ∷ K) (back_of a i) ≡ old_bytes K a i
  unfolding values
  word-read K a i r =
      let v = values script rules K in
      ap (λ (f : MsgName → List ℕ). f (back_of a i)) (cond-true (is_rmw (statement script a i)) (with_bytes script rules v (back_of a i) (old_bytes K a i)) v.bytes r)
      ∙ cond-true (name_eq (back_of a i) (back_of a i)) (old_bytes K a i) (v.bytes (back_of a i)) (name_eq-refl (back_of a i))

  copied-bytes : (L : List Event) (a i : ℕ) → carried script rules (Copy (back_of a i) ∷ L) (back_of a i) ≡ cond (is_rmw (statement script a i)) (carried script rules L (back_of a i)) (gathered (values script rules L).memory (target script a i) (at_target script rules a i))
  unfolding values
  copied-bytes L a i = cond-true (name_eq (back_of a i) (back_of a i)) (source_by script rules (values script rules L) (back_of a i) Back (statement script a i)) (carried script rules L (back_of a i)) (name_eq-refl (back_of a i))

  back-brings : (K : List Event) (a i : ℕ) → has_back (statement script a i) ≡ true → carried script rules (Copy (back_of a i) ∷ Land (message a i Go) ∷ K) (back_of a i) ≡ old_bytes K a i
  back-brings K a i h =
      let L = Land (message a i Go) ∷ K in
      let s = statement script a i in
      let pieces = at_target script rules a i in
      let d = target script a i in
      copied-bytes L a i
      ∙ elim (is_rmw s) as (λ b. is_rmw s ≡ b → cond b (carried script rules L (back_of a i)) (gathered (values script rules L).memory d pieces) ≡ old_bytes K a i) [
        | true ↦ λ r. word-read K a i r
        | false ↦ λ r. ap (λ (memory : Memories). gathered memory d pieces) (memory-stays K a i h r)
      ] refl

  -- so does a delivery that makes a Go whole
  arriving-brings : (J : List Event) (first : Bool) (a i : ℕ) → has_back (statement script a i) ≡ true →
      carried script rules (followed J (arriving script rules first true (message a i Go) (after_land script rules (message a i Go)))) (back_of a i) ≡ old_bytes J a i
  unfolding followed
  arriving-brings J first a i h =
      let m = message a i Go in
      let after = cond-true (has_back (statement script a i)) (Copy (back_of a i) ∷ []) (cond (has_completion script rules a i) [] (note_of script rules m)) h in
      elim first as (λ b. carried script rules (followed J (arriving script rules b true m (after_land script rules m))) (back_of a i) ≡ old_bytes J a i) [
        | true ↦
            ap (λ es. carried script rules (followed (Land m ∷ Head m ∷ J) es) (back_of a i)) after
            ∙ back-brings (Head m ∷ J) a i h
            ∙ ap (λ (v : Values). gathered v.memory (target script a i) (at_target script rules a i)) (head-values script rules m J)
        | false ↦ ap (λ es. carried script rules (followed (Land m ∷ J) es) (back_of a i)) after ∙ back-brings J a i h
      ]

  -- ---- what handlers answer

  abbrev IsActiveOf : Leg → Statement → (handler : ℕ) → List ℕ → Type 0
  IsActiveOf leg s handler header = (leg ≡ Go) × (is_am s ≡ true) × (handler_of s ≡ handler) × (user_header s ≡ header)

  tgt_in : PacketHead → Option ℕ
  tgt_in (heads.Am handler tgt cmpl header) = tgt
  tgt_in _ = None

  cmpl_in : PacketHead → Option ℕ
  cmpl_in (heads.Am handler tgt cmpl header) = cmpl
  cmpl_in _ = None

  active-counters : (m : MsgName) (s : Statement) (handler : ℕ) (tgt cmpl : Option ℕ) (header : List ℕ) → is_am s ≡ true → head_by script m Go s ≡ heads.Am handler tgt cmpl header → (tgt_counter s ≡ tgt) × (cmpl_counter s ≡ cmpl)
  unfolding tgt_in cmpl_in
  active-counters m (Am task named head from len t o c) handler tgt cmpl header h e = (ap tgt_in e, ap cmpl_in e)
  active-counters m _ handler tgt cmpl header h e = absurd (false≢true h)

  -- what goes out when a job ends
  am-note : (m : MsgName) (s : Statement) (c : ℕ) → is_am s ≡ true → cmpl_counter s ≡ Some c → head_by script (message m.origin m.statement Note) Note s ≡ heads.Note NoteOp.Am c
  am-note m (Am task handler header from len tgt org cmpl) c h e = ap (λ o. heads.Note NoteOp.Am (unwrap_or o 0)) e
  am-note m _ c h e = absurd (false≢true h)

  ends-follow : (t : ℕ) (m : MsgName) → EndsFollowJobs script rules t m
  unfolding is_job has_completion message_length user
  ends-follow t m = λ job.
      let s = statement script m.origin m.statement in
      let both = and_parts (leg_eq m.leg Go) (has_completion script rules m.origin m.statement && receiver script m == t) job in
      let ends = and_parts (has_completion script rules m.origin m.statement) (receiver script m == t) both.1 in
      let go = leg_eq-true m.leg Go both.0 in
      let is = (and_parts _ _ ends.0).0 in
      let at : target script m.origin m.statement ≡ t = ap (λ leg. to_by m.origin (target script m.origin m.statement) leg) (sym go) ∙ eqb-true (receiver script m) t ends.1 in (
        λ c e. sent-as (message m.origin m.statement Note) t m.origin (heads.Note NoteOp.Am c) 0 at refl (am-note m s c is e) refl,
        sent-as (message m.origin m.statement Echo) t m.origin (heads.Echo (user script m) (cmpl_counter s)) 4 at refl refl refl,
      )

  handler_in : PacketHead → ℕ
  handler_in (heads.Am handler tgt cmpl header) = handler
  handler_in _ = 0

  header_in_head : PacketHead → List ℕ
  header_in_head (heads.Am handler tgt cmpl header) = header
  header_in_head _ = []

  active-by : (answers : Bool) (m : MsgName) (leg : Leg) (s : Statement) (handler : ℕ) (tgt cmpl : Option ℕ) (header : List ℕ) → has_leg script answers m.origin leg s ≡ true → head_by script m leg s ≡ heads.Am handler tgt cmpl header → IsActiveOf leg s handler header
  unfolding handler_in header_in_head
  active-by ans m Go (Am task named head from len t o c) handler tgt cmpl header h e = (refl, refl, ap handler_in e, ap header_in_head e)
  active-by ans m Go (Put task to from len t o c) handler tgt cmpl header h e = absurd (cc)
  active-by ans m Go (Putv task to from t o c) handler tgt cmpl header h e = absurd (cc)
  active-by ans m Go (Get task from to len t o) handler tgt cmpl header h e = absurd (cc)
  active-by ans m Go (Getv task from to t o) handler tgt cmpl header h e = absurd (cc)
  active-by ans m Go (Rmw task op at in1 in2 prev o) handler tgt cmpl header h e = absurd (cc)
  active-by ans m Back (Get task from to len t o) handler tgt cmpl header h e = absurd (cc)
  active-by ans m Back (Getv task from to t o) handler tgt cmpl header h e = absurd (cc)
  active-by ans m Back (Rmw task op at in1 in2 prev o) handler tgt cmpl header h e = absurd (cc)
  active-by ans m Note s handler tgt cmpl header h e = absurd (cc)
  active-by ans m Echo s handler tgt cmpl header h e = absurd (cc)
  active-by ans m (Join d) Gfence handler tgt cmpl header h e = absurd (cc)
  active-by ans m (Join d) (Statement.Addr at) handler tgt cmpl header h e = absurd (cc)
  active-by ans m _ s handler tgt cmpl header h e = absurd (false≢true h)

  answered-by : (m : MsgName) (len handler : ℕ) (header : List ℕ) → IsActiveOf m.leg (statement script m.origin m.statement) handler header → len ≡ message_length script m →
      IsAnswered script rules m len (header_answer (header_rule rules handler) (record { origin = m.origin; header = header; length = len }))
  unfolding buffer completion user has_completion
  answered-by m len handler header is size =
      let s = statement script m.origin m.statement in
      let given = λ (bytes : List ℕ) (n : ℕ). let x : HeaderIn = record { origin = m.origin; header = bytes; length = n } in x in
      let out : header_out script rules m ≡ header_answer (header_rule rules handler) (given header len) =
      ap (λ h. header_answer (header_rule rules h) (given (user_header s) (message_length script m))) is.2
      ∙ ap (λ bytes. header_answer (header_rule rules handler) (given bytes (message_length script m))) is.3
      ∙ ap (λ n. header_answer (header_rule rules handler) (given header n)) (sym size)
      in
      let go : message m.origin m.statement Go ≡ m = λ i. record { origin = m.origin; statement = m.statement; leg = sym is.0 i } in
      let chosen : completion script rules m ≡ kept_choice (length rules.completions) (header_answer (header_rule rules handler) (given header len)).completion = ap (λ o. kept_choice (length rules.completions) o.completion) out in
      record {
        buffer = ap (λ n. kept_place script.memory n (header_out script rules m).place) (sym size) ∙ ap (λ o. kept_place script.memory len o.place) out;
        completion = chosen;
        user = ap user_by is.3;
        completes = ap (λ b. b && is_some (completion script rules (message m.origin m.statement Go))) is.1 ∙ ap (λ (k : MsgName). is_some (completion script rules k)) go ∙ ap (λ o. is_some o) chosen;
      }

-- the laws
module _ (script : Script) (rules : Rules) (r : Run) (a b : ℕ) (p : DataPacket) (f : Facts script rules r a b p) where
  abbrev own : Statement
  own = statement script p.name.origin p.name.statement

  abbrev ends_at : Leg → ℕ
  ends_at leg = to_by p.name.origin (target script p.name.origin p.name.statement) leg

  comes-to : p.name.leg ≡ Go → target script p.name.origin p.name.statement ≡ b
  comes-to go = ap ends_at (sym go) ∙ f.place

  comes-from : p.name.leg ≡ Go → p.name.origin ≡ a
  comes-from go = ap (λ leg. from_by p.name.origin (target script p.name.origin p.name.statement) leg) (sym go) ∙ f.sent

  back-is : (head : PacketHead) → back_head p.head ≡ Some head → IsBackOf script rules p.name p.name.leg own head
  back-is head e = back-by script rules _ p.name p.name.leg own head f.leg (ap back_head (sym f.head) ∙ e)

  back-sent : (head : PacketHead) → back_head p.head ≡ Some head → IsSentAs script rules (message p.name.origin p.name.statement Back) b a head (bytes_in (asked_pieces p.head))
  unfolding message_length
  back-sent head e =
      let x = back-is head e in
      sent-as script rules (message p.name.origin p.name.statement Back) b a head (bytes_in (asked_pieces p.head)) (comes-to x.go) (comes-from x.go) x.head (x.length ∙ ap (λ h. bytes_in (asked_pieces h)) (sym f.head))

  note-sent : (head : PacketHead) → note_head p.head ≡ Some head → IsSentAs script rules (message p.name.origin p.name.statement Note) b a head 0
  unfolding message_length
  note-sent head e =
      let x = note-by script rules _ p.name p.name.leg own head f.leg (ap note_head (sym f.head) ∙ e) in
      sent-as script rules (message p.name.origin p.name.statement Note) b a head 0 (comes-to x.0) (comes-from x.0) x.1 refl

  back-old : (head : PacketHead) → back_head p.head ≡ Some head → completes script rules r a b p ≡ true →
      carried script rules (followed r.journal (cond (is_delivered r a b p.seq) [] (first_delivery script rules r a b p.name p.seq))) (message p.name.origin p.name.statement Back) ≡ gathered (values script rules r.journal).memory b (asked_pieces p.head)
  back-old head e whole =
      let x = back-is head e in
      let both = and_parts (not (is_delivered r a b p.seq)) (whole_by (count_of script p.length) (Data p ∷ r.handed a b) p.name) whole in
      let m = p.name in
      let first = is_active p.head && not (has_some (r.handed a b) m) in
      let go : m ≡ message m.origin m.statement Go = λ i. record { origin = m.origin; statement = m.statement; leg = x.go i } in
      let es = λ (w : Bool) (k : MsgName). arriving script rules first w k (after_land script rules k) in
      let back = message m.origin m.statement Back in
      ap (λ d. carried script rules (followed r.journal (cond d [] (first_delivery script rules r a b m p.seq))) back) (not-true _ both.0)
      ∙ ap (λ events. carried script rules (followed r.journal events) back) (f.events ∙ ap (λ w. es w m) both.1 ∙ ap (es true) go)
      ∙ arriving-brings script rules r.journal first m.origin m.statement x.back
      ∙ ap (λ t. gathered (values script rules r.journal).memory t (at_target script rules m.origin m.statement)) (comes-to x.go)
      ∙ ap (gathered (values script rules r.journal).memory b) (x.pieces ∙ ap asked_pieces (sym f.head))

pub backs-follow : HoldsOfRecords BacksFollowHeads
backs-follow script rules r is = λ a b k p head at e. back-sent script rules r a b p (facts script rules r is a b k p at) head e

pub backs-bring : HoldsOfRecords BacksBringOld
backs-bring script rules r is = λ a b k p head at e whole.
    ap (λ J. carried script rules J (message p.name.origin p.name.statement Back)) (delivered script rules r a b k p at)
    ∙ back-old script rules r a b p (facts script rules r is a b k p at) head e whole

pub notes-follow : HoldsOfRecords NotesFollowHeads
notes-follow script rules r is = λ a b k p head at e. note-sent script rules r a b p (facts script rules r is a b k p at) head e

pub handlers-answer : HoldsOfRecords HandlersAnswerHeads
handlers-answer script rules r is = λ a b k handler p tgt cmpl header at e.
    let f = facts script rules r is a b k p at in
    answered-by script rules p.name p.length handler header (active-by script rules _ p.name p.name.leg (statement script p.name.origin p.name.statement) handler tgt cmpl header f.leg (sym f.head ∙ e)) f.size

pub actives-name : HoldsOfRecords ActivesNameCounters
actives-name script rules r is = λ a b k handler p tgt cmpl header at e.
    let f = facts script rules r is a b k p at in
    let s = statement script p.name.origin p.name.statement in
    let x = active-by script rules _ p.name p.name.leg s handler tgt cmpl header f.leg (sym f.head ∙ e) in
    let c = active-counters script rules p.name s handler tgt cmpl header x.1 (ap (λ leg. head_by script p.name leg s) (sym x.0) ∙ sym f.head ∙ e) in
    (x.1, c.0, c.1)

pub jobs-followed : HoldsOfJobs EndsFollowJobs
jobs-followed script rules t m = ends-follow script rules t m
