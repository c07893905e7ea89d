-- What a task may rely on of the messages that follow a landing, and of the handlers of an active message, by the
-- packet that came. These are words of this project for its laws.
use Rattle.std.specs.Prelude.{◌≡◌, ℕ, true, List, length, Option, Some, is_some}
use Rattle.lapi_base.specs.declared.script.Script.{Script}
use Rattle.lapi_base.specs.declared.rule.Rules.{Rules}
use Rattle.lapi_base.specs.declared.message.Leg.TheVariants.{Back, Note, Echo}
use Rattle.lapi_base.specs.declared.message.MsgName.{MsgName}
use Rattle.lapi_base.specs.declared.handler.HeaderIn.{HeaderIn}
use Rattle.lapi_base.specs.declared.handler.HeaderOut.{HeaderOut}
use Rattle.lapi_base.specs.declared.schedule.Act.TheVariants.{Deliver}
use Rattle.lapi_base.specs.declared.head.Head.{Head}
use Rattle.lapi_base.specs.declared.head.Head.TheVariants as heads
use Rattle.lapi_base.specs.declared.packet.Packet.TheVariants.{Data}
use Rattle.lapi_base.specs.declared.packet.DataPacket.{DataPacket}
use Rattle.lapi_base.specs.Packet.Layout.{unit_of}
use Rattle.lapi_base.specs.Record.Fragments.{fragment_bytes}
use Rattle.lapi_base.specs.Record.Names.{message}
use Rattle.lapi_base.specs.Record.Handlers.{header_rule, header_answer, kept_place, kept_choice, buffer, completion, user, has_completion}
use Rattle.lapi_base.specs.Record.HeadSays.{back_head, asked_pieces, note_head}
use Rattle.lapi_base.specs.Record.Values.{values, gathered}
use Rattle.lapi_base.specs.Record.Packets.{data_packet}
use Rattle.lapi_base.specs.Record.Wires.{Run, IsEntry}
use Rattle.lapi_base.specs.Record.WorldView.{performed}
use Rattle.lapi_base.specs.Laws.Entries.{carried}
use Rattle.lapi_base.specs.Laws.Receiving.{bytes_in}
use Rattle.lapi_base.specs.Laws.Landing.{completes}
use Rattle.lapi_base.specs.Record.Operations.{statement, is_am, tgt_counter, cmpl_counter}
use Rattle.lapi_base.specs.Record.Jobs.{is_job}
use Rattle.lapi_base.specs.declared.head.NoteOp.{NoteOp}

module _ (script : Script) (rules : Rules) where
  -- every packet of the message goes from a to b with this head and length, whatever its number, fragment and bytes
  abbrev pub IsSentAs : MsgName → (from to : ℕ) → Head → (length : ℕ) → Type 0
  IsSentAs m a b head len = (n j : ℕ) (bytes : List ℕ) →
      data_packet script m n j bytes
      ≡ Data (record { layout = script.layout; from = a; to = b; seq = n; name = m; head = head; length = len; fragment = j; payload = fragment_bytes (unit_of script) j bytes })

  -- A Back goes to where its Go came from, with head and length by the head of that;
  abbrev pub BacksFollowHeads : Run → Type 0
  BacksFollowHeads r = (a b k : ℕ) (p : DataPacket) (head : Head) →
      IsEntry r a b k (Data p) → back_head p.head ≡ Some head →
      IsSentAs (message p.name.origin p.name.statement Back) b a head (bytes_in (asked_pieces p.head))

  -- it brings what stood at the pieces asked for before the delivery that lands its Go, also of a word that this changes;
  abbrev pub BacksBringOld : Run → Type 0
  BacksBringOld r = (a b k : ℕ) (p : DataPacket) (head : Head) →
      IsEntry r a b k (Data p) → back_head p.head ≡ Some head → completes script rules r a b p ≡ true →
      carried script rules (performed script rules r (Deliver a b k)).journal (message p.name.origin p.name.statement Back)
      ≡ gathered (values script rules r.journal).memory b (asked_pieces p.head)

  -- and a Note goes there with the kind and the counter of the head.
  abbrev pub NotesFollowHeads : Run → Type 0
  NotesFollowHeads r = (a b k : ℕ) (p : DataPacket) (head : Head) →
      IsEntry r a b k (Data p) → note_head p.head ≡ Some head →
      IsSentAs (message p.name.origin p.name.statement Note) b a head 0

  -- This was answered for the header of message m, which has so many bytes: its buffer, its completion handler and its
  -- user value are those of the answer.
  pub record IsAnswered (m : MsgName) (len : ℕ) (out : HeaderOut) : Type 0 where
    pub buffer : buffer script rules m ≡ kept_place script.memory len out.place
    pub completion : completion script rules m ≡ kept_choice (length rules.completions) out.completion
    pub user : user script m ≡ out.user
    pub completes : has_completion script rules m.origin m.statement ≡ is_some (kept_choice (length rules.completions) out.completion)

  -- The header handler of an active message answers by what each of its packets says,
  abbrev pub HandlersAnswerHeads : Run → Type 0
  HandlersAnswerHeads r = (a b k handler : ℕ) (p : DataPacket) (tgt cmpl : Option ℕ) (header : List ℕ) →
      IsEntry r a b k (Data p) → p.head ≡ heads.Am handler tgt cmpl header →
      let given : HeaderIn = record { origin = p.name.origin; header = header; length = p.length } in
      IsAnswered p.name p.length (header_answer (header_rule rules handler) given)

  -- and its statement names the counters of the head.
  abbrev pub ActivesNameCounters : Run → Type 0
  ActivesNameCounters r = (a b k handler : ℕ) (p : DataPacket) (tgt cmpl : Option ℕ) (header : List ℕ) →
      IsEntry r a b k (Data p) → p.head ≡ heads.Am handler tgt cmpl header →
      let s = statement script p.name.origin p.name.statement in
      (is_am s ≡ true) × (tgt_counter s ≡ tgt) × (cmpl_counter s ≡ cmpl)

  -- When a job of task t ends, its Note or its Echo goes to the origin, with the counter that the statement names and the user value.
  abbrev pub EndsFollowJobs : (task : ℕ) → MsgName → Type 0
  EndsFollowJobs t m = is_job script rules t m ≡ true →
      let s = statement script m.origin m.statement in
      ((c : ℕ) → cmpl_counter s ≡ Some c → IsSentAs (message m.origin m.statement Note) t m.origin (heads.Note NoteOp.Am c) 0)
      × IsSentAs (message m.origin m.statement Echo) t m.origin (heads.Echo (user script m) (cmpl_counter s)) 4

-- this holds of every job
abbrev pub HoldsOfJobs : (Script → Rules → ℕ → MsgName → Type 0) → Type 0
HoldsOfJobs P = (script : Script) (rules : Rules) (t : ℕ) (m : MsgName) → P script rules t m
