-- What each line of a schedule adds to the record: events, replies and entries on wires. The calls are those of the
-- RSCT LAPI Programming Guide, SA22-7936, in outline; the rest is this project's own.
use Rattle.std.specs.Prelude.{ℕ, ◌==◌, nat_le, nat_lt, Bool, true, false, cond, ◌&&◌, ◌||◌, not, List, [], ◌∷◌, ◌++◌, length, map, filter, slice_get, Option, Some, None, is_some, option_to_list}
use Rattle.std.specs.List.{list_any, flat_map, zip}
use Rattle.lapi_base.specs.declared.statement.Statement.{Statement}
use Rattle.lapi_base.specs.declared.statement.Statement.TheVariants.{Wait, Fence, Gfence}
use Rattle.lapi_base.specs.declared.script.Script.{Script}
use Rattle.lapi_base.specs.declared.rule.Rules.{Rules}
use Rattle.lapi_base.specs.declared.message.Leg.TheVariants.{Go, Back, Note, Echo, Join}
use Rattle.lapi_base.specs.declared.message.MsgName.{MsgName}
use Rattle.lapi_base.specs.declared.event.Event.{Event}
use Rattle.lapi_base.specs.declared.event.Event.TheVariants.{Issue, Refuse, Enter, Pass, Copy, Head, Land}
use Rattle.lapi_base.specs.declared.schedule.Act.{Act}
use Rattle.lapi_base.specs.declared.schedule.Act.TheVariants.{Step, Poll, Tick, Deliver, Cut, Inject}
use Rattle.lapi_base.specs.declared.reply.Reason.TheVariants.{Short}
use Rattle.lapi_base.specs.declared.refusal.Refusal.{Refusal}
use Rattle.lapi_base.specs.declared.reply.Bad.{Bad}
use Rattle.lapi_base.specs.declared.reply.Reply.{Reply}
use Rattle.lapi_base.specs.declared.reply.Reply.TheVariants.{Did, Blocked, Absent, Idle, Busy}
use Rattle.lapi_base.specs.declared.packet.Packet.{Packet}
use Rattle.lapi_base.specs.declared.packet.Packet.TheVariants.{Data, Ack}
use Rattle.lapi_base.specs.Packet.Layout.{holds_back}
use Rattle.lapi_base.specs.Record.Names.{message, leg_eq, Issued, Entered, Copied, happened}
use Rattle.lapi_base.specs.Record.Operations.{numbers_below, statements, statement, is_data, is_am, has_back, has_join, cmpl_counter}
use Rattle.lapi_base.specs.Record.Handlers.{has_completion, answers}
use Rattle.lapi_base.specs.Record.Counters.{count}
use Rattle.lapi_base.specs.Record.Refusals.{next, joined, refusal_of}
use Rattle.lapi_base.specs.Record.Jobs.{queue, runs}
use Rattle.lapi_base.specs.Record.Wires.{Run, start, numbered, is_delivered, base, all_numbers, some_number, data_clear, packets, to_resend, ack, sends}

module _ (script : Script) where
  -- What a Poll copies: in statement order, and of one statement by the target.
  abbrev pub joins : ℕ → ℕ → List MsgName
  joins a i = map (λ d. message a i (Join d)) (filter (λ d. not (d == a)) (numbers_below script.tasks))

  abbrev pub to_copy_of : List Event → ℕ → ℕ → List MsgName
  to_copy_of J t i =
      cond (is_data (statement script t i) && happened (Issued t i) J)
      (message t i Go ∷ [])
      (cond (has_join (statement script t i) && happened (Entered t i) J) (joins t i) [])

  -- the messages of t that may be copied, whether they were or not
  unfoldable pub ready : List Event → ℕ → List MsgName
  ready J t = flat_map (to_copy_of J t) (numbers_below (length (statements script t)))

-- a Copy of each of these messages that has none, in order
unfoldable pub copy_each : List Event → List MsgName → List Event
copy_each J [] = J
copy_each J (m ∷ ms) = copy_each (cond (happened (Copied m) J) J (Copy m ∷ J)) ms

-- a journal with these events after it, in order
unfoldable pub followed : List Event → List Event → List Event
followed J [] = J
followed J (e ∷ es) = followed (e ∷ J) es

module _ (script : Script) (rules : Rules) where
  abbrev pub reply_with : Run → Reply → Run
  reply_with r reply = record r { replies = r.replies ++ reply ∷ [] }

  unfoldable pub poll : Run → ℕ → Run
  poll r t =
      let J = copy_each r.journal (ready script r.journal t) in record {
        replies = r.replies ++ Did ∷ [];
        wire = λ a b. cond (a == t) (r.wire a b ++ sends script rules r J a b) (r.wire a b);
        handed = r.handed;
        owed = λ a b. not (b == t) && r.owed a b;
        journal = J;
      }

  unfoldable pub tick : Run → ℕ → Run
  tick r t = record {
    replies = r.replies ++ Did ∷ [];
    wire = λ a b. cond (a == t) (r.wire a b ++ packets script rules r.journal a b (to_resend script rules r a b)) (r.wire a b);
    handed = r.handed;
    owed = r.owed;
    journal = r.journal;
  }

  -- Deliver: what follows the Land of a message.
  abbrev pub note_of : MsgName → List Event
  note_of m = cond (is_some (cmpl_counter (statement script m.origin m.statement))) (Copy (message m.origin m.statement Note) ∷ []) []

  abbrev pub after_land : MsgName → List Event
  after_land m =
      cond (leg_eq m.leg Go)
      (cond (has_back (statement script m.origin m.statement))
      (Copy (message m.origin m.statement Back) ∷ [])
      (cond (has_completion script rules m.origin m.statement) [] (note_of m)))
      []

  -- the events of the first delivery of number n, which is of message m; r is before it
  unfoldable pub first_delivery : Run → (from to : ℕ) → MsgName → ℕ → List Event
  first_delivery r a b m n =
      let pairs = numbered script r.journal a b in
      cond (is_am (statement script m.origin m.statement) && leg_eq m.leg Go && not (some_number script pairs m (is_delivered r a b))) (Head m ∷ []) []
      ++ cond (all_numbers script pairs m (λ k. k == n || is_delivered r a b k)) (Land m ∷ after_land m) []

  abbrev pub with_handed : Run → (from to : ℕ) → Packet → Run
  with_handed r a b p = record r { handed = λ x y. cond (x == a && y == b) (p ∷ r.handed x y) (r.handed x y) }

  -- by the layout an acknowledgement goes numbered at once, or is owed until the receiver's next Poll
  unfoldable pub at_once : Packet → List Packet
  at_once told = cond (holds_back script) [] (told ∷ [])

  abbrev pub with_ack : Run → (from to : ℕ) → Packet → Run
  with_ack r a b told = record r {
    wire = λ x y. cond (x == b && y == a) (r.wire x y ++ at_once told) (r.wire x y);
    owed = λ x y. (holds_back script && (x == a && y == b)) || r.owed x y;
  }

  abbrev pub with_events : Run → List Event → Run
  with_events r es = record r { journal = followed r.journal es }

  unfoldable pub hand_over : Run → (from to : ℕ) → Packet → Run
  hand_over r a b (Ack layout from to least bits) = with_handed r a b (Ack layout from to least bits)
  hand_over r a b (Data p) =
      let s = with_handed r a b (Data p) in
      let t = with_events s (cond (is_delivered r a b p.seq) [] (first_delivery r a b p.name p.seq)) in
      with_ack t a b (ack script rules s a b)

  abbrev pub deliver_entry : Run → (from to : ℕ) → Option Packet → Run
  deliver_entry r a b None = reply_with r Absent
  deliver_entry r a b (Some p) = reply_with (hand_over r a b p) Did

  unfoldable pub deliver : Run → (from to : ℕ) → ℕ → Run
  deliver r a b k = deliver_entry r a b (slice_get (r.wire a b) k)

  -- Step: the event of the next statement, if its condition holds.
  abbrev pub event_if : Bool → Event → Option Event
  event_if b e = cond b (Some e) None

  abbrev pub proposed : Run → ℕ → ℕ → Statement → Option Event
  proposed r a i (Wait counter value) = event_if (nat_le value (count script rules r.journal a counter)) (Pass a i)
  proposed r a i Fence = event_if (data_clear script r a i) (Pass a i)
  proposed r a i Gfence =
      cond (happened (Entered a i) r.journal)
      (event_if (joined script r.journal a i) (Pass a i))
      (event_if (data_clear script r a i) (Enter a i))
  proposed r a i (Statement.Addr at) =
      cond (happened (Entered a i) r.journal)
      (event_if (joined script r.journal a i) (Pass a i))
      (Some (Enter a i))
  proposed r a i s = Some (Issue a i)

  abbrev pub unless_refused : Run → ℕ → ℕ → Option Refusal → Option Event
  unless_refused r a i (Some reason) = Some (Refuse a i reason)
  unless_refused r a i None = proposed r a i (statement script a i)

  abbrev pub add_event : Run → Option Event → Run
  add_event r None = reply_with r Blocked
  add_event r (Some e) = reply_with (with_events r (e ∷ [])) Did

  unfoldable pub step : Run → ℕ → Run
  step r a =
      let i = next r.journal a in
      cond (nat_lt i (length (statements script a)))
      (add_event r (unless_refused r a i (refusal_of script rules r.journal a i)))
      (reply_with r Idle)

  -- Begin and End.
  abbrev pub begin_first : Run → (task worker : ℕ) → List MsgName → Run
  begin_first r t w [] = reply_with r Idle
  begin_first r t w (m ∷ ms) = reply_with (with_events r (Event.Begin m t w ∷ [])) Did

  abbrev pub begin_at : Run → (task worker : ℕ) → Option MsgName → Run
  begin_at r t w (Some m) = reply_with r Busy
  begin_at r t w None = begin_first r t w (queue script rules r.journal t)

  unfoldable pub begin : Run → (task worker : ℕ) → Run
  begin r t w = begin_at r t w (runs r.journal t w)

  -- what follows the end of a job: the answer, if there is one, or the notice
  abbrev pub after_end : MsgName → List Event
  after_end m = cond (answers script rules m.origin m.statement) (Copy (message m.origin m.statement Echo) ∷ []) (note_of m)

  abbrev pub end_at : Run → (task worker : ℕ) → Option MsgName → Run
  end_at r t w None = reply_with r Idle
  end_at r t w (Some m) = reply_with (with_events r (Event.End m t w ∷ after_end m)) Did

  unfoldable pub end : Run → (task worker : ℕ) → Run
  end r t w = end_at r t w (runs r.journal t w)

  -- Cut and Inject add nothing. `size` is the length of a packet's spelling, `refusal` refusal_of bytes spell none.
  abbrev pub cut_entry : (size : Packet → ℕ) → Run → (n : ℕ) → Option Packet → Run
  cut_entry size r n None = reply_with r Absent
  cut_entry size r n (Some p) = reply_with r (cond (nat_lt n (size p)) (Reply.Bad (record { place = n; reason = Short })) Absent)

  module _ (size : Packet → ℕ) (refusal : List ℕ → Bad) where
    unfoldable pub perform : Run → Act → Run
    perform r (Step t) = step r t
    perform r (Poll t) = poll r t
    perform r (Tick t) = tick r t
    perform r (Deliver a b k) = deliver r a b k
    perform r (Cut a b k n) = cut_entry size r n (slice_get (r.wire a b) k)
    perform r (Inject a b bytes) = reply_with r (Reply.Bad (refusal bytes))
    perform r (Act.Begin t w) = begin r t w
    perform r (Act.End t w) = end r t w

    -- the run of these lines, from r on
    unfoldable pub after : Run → List Act → Run
    after r [] = r
    after r (act ∷ acts) = after (perform r act) acts

    unfoldable pub run_of : List Act → Run
    run_of acts = after start acts

-- What was handed over on the wire from a to b: the entry that a line delivers, where its reply was Did.
abbrev pub is_did : Reply → Bool
is_did Did = true
is_did _ = false

abbrev pub handed_by : (wire : List Packet) → (from to : ℕ) → Act → Reply → List Packet
handed_by wire a b (Deliver x y k) reply = cond (is_did reply && (a == x && b == y)) (option_to_list (slice_get wire k)) []
handed_by wire a b _ reply = []

-- and of all lines, in order
unfoldable pub deliveries : (wire : List Packet) → (from to : ℕ) → List Act → List Reply → List Packet
deliveries wire a b acts replies = flat_map (λ (line : Act × Reply). handed_by wire a b line.0 line.1) (zip acts replies)

-- Whether b owes an acknowledgement to a: it was handed a data packet from a, and hasn't polled since.
abbrev pub is_numbered : Packet → Bool
is_numbered (Data p) = true
is_numbered (Ack layout from to base bits) = false

abbrev pub owes_by : (wire : List Packet) → (from to : ℕ) → Act → Reply → (before : Bool) → Bool
owes_by wire a b (Poll t) reply before = not (b == t) && before
owes_by wire a b act reply before = list_any is_numbered (handed_by wire a b act reply) || before

-- and after all lines, in order
unfoldable pub owes : (wire : List Packet) → (from to : ℕ) → List (Act × Reply) → (before : Bool) → Bool
owes wire a b [] before = before
owes wire a b (line ∷ lines) before = owes wire a b lines (owes_by wire a b line.0 line.1 before)
