-- What a task may rely on of a packet that comes in. These are words of this project for its laws.
use Rattle.std.specs.Prelude.{◌≡◌, ℕ, ◌+◌, ◌%◌, ◌^◌, ◌<◌, ◌≤◌, true, false, List, length, slice_get, Option, Some, None, ◌∷◌, cond}
use Rattle.std.specs.List.{AllByRecursion, IsDistinct, sum_by}
use Rattle.lapi_base.specs.declared.script.Script.{Script}
use Rattle.lapi_base.specs.declared.rule.Rules.{Rules}
use Rattle.lapi_base.specs.declared.span.Span.{Span}
use Rattle.lapi_base.specs.declared.message.MsgName.{MsgName}
use Rattle.lapi_base.specs.declared.head.Head.{Head}
use Rattle.lapi_base.specs.declared.head.Head.TheVariants as heads
use Rattle.lapi_base.specs.declared.packet.Packet.{Packet}
use Rattle.lapi_base.specs.declared.packet.Packet.TheVariants.{Data}
use Rattle.lapi_base.specs.declared.packet.DataPacket.{DataPacket}
use Rattle.lapi_base.specs.Record.Fragments.{IsPayload}
use Rattle.lapi_base.specs.Packet.Layout.{unit_of, window_of, longest_of, longest_active_of}
use Rattle.lapi_base.specs.Record.Names.{name_eq, Landed, happened}
use Rattle.lapi_base.specs.Record.Operations.{statements}
use Rattle.lapi_base.specs.Record.Counters.{count}
use Rattle.lapi_base.specs.Record.Wires.{Run, covers, is_sent, is_delivered, packets, ack, IsEntry}
use Rattle.lapi_base.specs.Record.Acts.{first_delivery, with_handed}
use Rattle.lapi_base.specs.Record.Valid.{ValidScript, ValidRules}
use Rattle.lapi_base.specs.Record.Arrived.{has_some, has_fragment, count_of, is_whole, least_number, ack_of, comes, IsKnown}
use Rattle.lapi_base.specs.Record.HeadSays.{is_active}

-- how many bytes spans have together
abbrev pub bytes_in : List Span → ℕ
bytes_in spans = sum_by (λ (s : Span). s.len) spans

module _ (script : Script) where
  -- a counter that is named is one that there is
  abbrev pub NamesCounter : Option ℕ → Type 0
  NamesCounter None = Unit {0}
  NamesCounter (Some c) = c < script.counters

  -- so many bytes from an address on lie within a task's memory
  abbrev pub IsInMemory : (at count : ℕ) → Type 0
  IsInMemory at count = at + count ≤ script.memory

  abbrev pub SpansAreInMemory : List Span → Type 0
  SpansAreInMemory spans = AllByRecursion (λ (s : Span). IsInMemory s.at s.len) spans

  -- the address of a word
  abbrev pub IsWord : ℕ → Type 0
  IsWord at = IsInMemory at 4 × (at % 4 ≡ 0)

  -- The head of a message with so many bytes keeps to the script: its ranges lie within the memory, its counters and its handler are there.
  abbrev pub HeadFits : Rules → (length : ℕ) → Head → Type 0
  HeadFits rules n (heads.Put at tgt cmpl) = IsInMemory at n × NamesCounter tgt × NamesCounter cmpl
  HeadFits rules n (heads.GetGo asked source dest tgt org) = IsInMemory source asked × IsInMemory dest asked × NamesCounter tgt × NamesCounter org
  HeadFits rules n (heads.GetBack dest org) = IsInMemory dest n × NamesCounter org
  HeadFits rules n (heads.Putv tgt cmpl pieces) = SpansAreInMemory pieces × (bytes_in pieces ≡ n) × NamesCounter tgt × NamesCounter cmpl
  HeadFits rules n (heads.GetvGo tgt org source dest) = SpansAreInMemory source × SpansAreInMemory dest × (bytes_in source ≡ bytes_in dest) × NamesCounter tgt × NamesCounter org
  HeadFits rules n (heads.GetvBack org dest) = SpansAreInMemory dest × (bytes_in dest ≡ n) × NamesCounter org
  HeadFits rules n (heads.RmwGo op at in1 in2 prev org) = IsWord at × IsWord prev × NamesCounter org
  HeadFits rules n (heads.RmwBack dest org) = IsWord dest × NamesCounter org
  HeadFits rules n (heads.Am handler tgt cmpl header) = (handler < length rules.headers) × NamesCounter tgt × NamesCounter cmpl
  HeadFits rules n (heads.Echo dest cmpl) = IsWord dest × NamesCounter cmpl
  HeadFits rules n (heads.Note op cmpl) = cmpl < script.counters
  HeadFits rules n (heads.Gfence round) = round ≤ 511
  HeadFits rules n (heads.Addr round address) = (round ≤ 511) × (address ≤ script.memory)

-- how long a message with this head may be
abbrev pub longest_with : Script → Head → ℕ
longest_with script head = cond (is_active head) (longest_active_of script) (longest_of script)

module _ (script : Script) (rules : Rules) where
  -- The acknowledgement on a link, now and with one packet more, is told by the packets handed over;
  abbrev pub AcksAreTold : Run → Type 0
  AcksAreTold r = (a b : ℕ) → ack script rules r a b ≡ ack_of script (r.handed a b) a b

  abbrev pub NextAcksAreTold : Run → Type 0
  NextAcksAreTold r = (a b k : ℕ) (p : DataPacket) → IsEntry r a b k (Data p) →
      ack script rules (with_handed script rules r a b (Data p)) a b ≡ ack_of script (Data p ∷ r.handed a b) a b

  -- so are the events of a packet with a new number, with the packet itself;
  abbrev pub ArrivalsAreTold : Run → Type 0
  ArrivalsAreTold r = (a b k : ℕ) (p : DataPacket) → IsEntry r a b k (Data p) →
      first_delivery script rules r a b p.name p.seq ≡ comes script rules (r.handed a b) p

  -- and a packet whose number was handed over was itself handed over.
  abbrev pub RepeatsAreKnown : Run → Type 0
  RepeatsAreKnown r = (a b k : ℕ) (p : DataPacket) → IsEntry r a b k (Data p) → IsKnown p (r.handed a b)

  -- The number of a packet on a wire is below the least that wasn't handed over, plus the window;
  abbrev pub PacketsAreInReach : Run → Type 0
  PacketsAreInReach r = (a b k : ℕ) (p : DataPacket) → IsEntry r a b k (Data p) → p.seq < least_number (r.handed a b) + window_of script

  -- and at most as many different messages as the window has numbers are there in part: some packet of each, and not all.
  abbrev pub IsThereInPart : List Packet → MsgName → Type 0
  IsThereInPart packets m = (has_some packets m ≡ true) × (is_whole script packets m ≡ false)

  abbrev pub FewAreThereInPart : Run → Type 0
  FewAreThereInPart r = (a b : ℕ) (ms : List MsgName) →
      IsDistinct name_eq ms → AllByRecursion (IsThereInPart (r.handed a b)) ms → length ms ≤ window_of script

  -- An acknowledgement covers numbers alone that were sent.
  abbrev pub AcksCoverSent : Run → Type 0
  AcksCoverSent r = (a b k n : ℕ) (p : Packet) → IsEntry r a b k p → covers n p ≡ true → is_sent r b a n ≡ true

  -- A packet names a message of the script between its tasks, which is not too long, its head keeps to the script, and it
  -- has the fragment's bytes.
  pub record FitsScript (p : DataPacket) : Type 0 where
    pub number : p.seq < 2 ^ 22
    pub origin : p.name.origin < script.tasks
    pub statement : p.name.statement < length (statements script p.name.origin)
    pub head : HeadFits script rules p.length p.head
    pub short : p.length ≤ longest_with script p.head
    pub fragment : p.fragment < count_of script p.length
    pub payload : IsPayload (unit_of script) p.length p.fragment p.payload

  abbrev pub PacketsFitScript : Run → Type 0
  PacketsFitScript r = ValidScript script → ValidRules rules → (a b k : ℕ) (p : DataPacket) → IsEntry r a b k (Data p) → FitsScript p

  -- Its head and length are those of all packets of its message that were handed over.
  abbrev pub HeadsAgree : Run → Type 0
  HeadsAgree r = (a b k j : ℕ) (p q : DataPacket) →
      IsEntry r a b k (Data p) → slice_get (r.handed a b) j ≡ Some (Data q) → q.name ≡ p.name → (q.head ≡ p.head) × (q.length ≡ p.length)

  -- Where its number wasn't handed over, its message hasn't landed and its fragment isn't there;
  abbrev pub NewAreOpen : Run → Type 0
  NewAreOpen r = (a b k : ℕ) (p : DataPacket) → IsEntry r a b k (Data p) → is_delivered r a b p.seq ≡ false →
      (happened (Landed p.name) r.journal ≡ false) × (has_fragment (r.handed a b) p.name p.fragment ≡ false)

  -- and where nothing of its message is there, fewer messages than the window has numbers are there in part.
  abbrev pub NewHaveRoom : Run → Type 0
  NewHaveRoom r = (a b k : ℕ) (p : DataPacket) (ms : List MsgName) →
      IsEntry r a b k (Data p) → is_delivered r a b p.seq ≡ false → has_some (r.handed a b) p.name ≡ false →
      IsDistinct name_eq ms → AllByRecursion (IsThereInPart (r.handed a b)) ms → length ms < window_of script
