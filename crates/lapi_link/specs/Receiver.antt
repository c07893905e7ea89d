-- What the receiving end of a link stands for: the packets that were handed over on it, the latest first.
use Rattle.std.specs.Prelude.{◌≡◌, ◌≢◌, ◌⊎◌, ℕ, ◌+◌, ◌-◌, ◌*◌, ◌^◌, ◌<◌, ◌≤◌, ◌==◌, ◌||◌, min, Bool, true, false, cond, List, [], ◌∷◌, length, map, slice_get, Option, Some, None, option_map}
use Rattle.std.specs.List.{AllByRecursion, IsDistinct}
use Rattle.lapi_base.specs.declared.script.Script.{Script}
use Rattle.lapi_base.specs.declared.handler.HeaderOut.{HeaderOut}
use Rattle.lapi_base.specs.declared.message.MsgName.{MsgName}
use Rattle.lapi_base.specs.declared.packet.Packet.{Packet}
use Rattle.lapi_base.specs.declared.packet.Packet.TheVariants.{Data}
use Rattle.lapi_base.specs.declared.packet.DataPacket.{DataPacket}
use Rattle.lapi_base.specs.Packet.Layout.{unit_of, window_of}
use Rattle.lapi_base.specs.Record.Names.{name_eq}
use Rattle.lapi_base.specs.Record.Operations.{numbers_below}
use Rattle.lapi_base.specs.Record.Fragments.{fragments_in, IsPayload}
use Rattle.lapi_base.specs.Record.Wires.{has_number}
use Rattle.lapi_base.specs.Record.Arrived.{has_fragment, has_some, some_packet, whole_by, payload_of, assembled, least_number, count_of, IsKnown}
use Rattle.lapi_window.specs.RecvWindow.{Receiving, is_taken, base_of}
use Rattle.lapi_reassembly.specs.Partial.{Gathered, is_whole, message}
use Rattle.lapi_reassembly.specs.Partials.{Gathering, partial, is_there, HasRoom, Agrees, IsMissing, gathered, kept_of}
use Rattle.lapi_reassembly.specs.declared.message.Message.{Message}
use Rattle.lapi_reassembly.specs.declared.put.Put.{Put}
use Rattle.lapi_reassembly.specs.declared.put.Put.TheVariants as puts
use Rattle.lapi_link.specs.declared.arrival.Arrival.{Arrival}
use Rattle.lapi_link.specs.declared.arrival.Arrival.TheVariants.{Repeat, First, More, Whole, FirstWhole}

-- the numbers taken, and the messages of which some fragments have come and some are missing
pub record ReceivingEnd : Type 0 where
  pub window : Receiving
  pub partials : Gathering

-- some fragments of the message have come, and some are missing
abbrev pub is_partial : ReceivingEnd → MsgName → Bool
is_partial s m = is_there s.partials m

-- the answer that was kept for the header of a message
abbrev pub kept_answer : Option Gathered → Option HeaderOut
kept_answer None = None
kept_answer (Some g) = g.out

abbrev pub answer_of : ReceivingEnd → MsgName → Option HeaderOut
answer_of s m = kept_answer (partial s.partials m)

-- no answer is kept for any message
abbrev pub IsUnanswered : ReceivingEnd → Type 0
IsUnanswered s = (m : MsgName) → answer_of s m ≡ None

-- what has come of a message, but for the answer to its header
abbrev pub unanswered : Gathered → Gathered
unanswered g = record g { out = None }

-- what comes of a packet with a new number: by whether some of its message came before, and whether all has come now
abbrev pub came : (some whole : Bool) → Message → Arrival
came some whole m = cond whole (cond some (Whole m) (FirstWhole m)) (cond some More First)

-- The packet brings a fragment of its message that is missing: its head and length are those of what has come of the
-- message, it has the fragment's payload, and a message of which nothing has come finds room.
pub record MayBring (s : Gathering) (p : DataPacket) : Type 0 where
  pub message : Agrees s p.name p.head p.length
  pub size : p.length ≤ 64 * s.unit
  pub fragment : p.fragment < fragments_in s.unit p.length
  pub missing : IsMissing s p.name p.fragment
  pub payload : IsPayload s.unit p.length p.fragment p.payload
  pub room : (is_there s p.name ≡ true) ⊎ HasRoom s

-- The end may take the packet: its number is below 2 ^ 32 - 1 and below the end of the window, and a new number brings a
-- missing fragment.
pub record MayTake (end : ReceivingEnd) (p : DataPacket) : Type 0 where
  pub number : p.seq < 4294967295
  pub reach : p.seq < base_of end.window + end.window.window
  pub fresh : is_taken end.window p.seq ≡ false → MayBring end.partials p

module _ (script : Script) where
  -- all fragments of a message with so many bytes are among these packets
  abbrev pub is_complete : List Packet → MsgName → (length : ℕ) → Bool
  is_complete ps m len = whole_by (count_of script len) ps m

  -- the payload of fragment j of m, where it has come
  abbrev pub fragment_at : List Packet → MsgName → ℕ → Option (List ℕ)
  fragment_at ps m j = cond (has_fragment ps m j) (Some (payload_of ps m j)) None

  -- what has come of a message of which this is a packet
  abbrev pub gathered_by : List Packet → MsgName → DataPacket → Gathered
  gathered_by ps m p = record { name = m; head = p.head; unit = unit_of script; length = p.length; fragments = map (fragment_at ps m) (numbers_below (fragments_in (unit_of script) p.length)); out = None }

  -- what has come of m and is kept: nothing where no packet of it came, and nothing once it is complete
  abbrev pub partial_by : List Packet → MsgName → Option DataPacket → Option Gathered
  partial_by ps m None = None
  partial_by ps m (Some p) = cond (is_complete ps m p.length) None (Some (gathered_by ps m p))

  unfoldable pub partial_of : List Packet → MsgName → Option Gathered
  partial_of ps m = partial_by ps m (some_packet ps m)

  -- The end is that of a link on which these packets were handed over, with numbers that are small enough for a least one that is missing, whatever was answered to headers.
  pub record ReceivesFor (s : ReceivingEnd) (ps : List Packet) : Type 0 where
    pub window : s.window.window ≡ window_of script
    pub sizes : (s.partials.names ≡ window_of script) × (s.partials.unit ≡ unit_of script)
    pub taken : (n : ℕ) → is_taken s.window n ≡ has_number ps n
    pub numbers : (n : ℕ) → has_number ps n ≡ true → n < 2 ^ 22
    pub partials : (m : MsgName) → option_map unanswered (partial s.partials m) ≡ partial_of ps m

  -- some packet of the message is there, and not all
  abbrev pub IsPartOnly : List Packet → MsgName → Type 0
  IsPartOnly ps m = (p : DataPacket) × (some_packet ps m ≡ Some p) × (is_complete ps m p.length ≡ false)

  -- A packet may come to these: its fragment is one of its message, and its head and length are those of the message's packets that came before, and its payload that of those with its fragment;
  pub record MayArrive (ps : List Packet) (p : DataPacket) : Type 0 where
    pub number : p.seq < 2 ^ 22
    pub reach : p.seq < least_number ps + window_of script
    pub size : p.length ≤ 64 * unit_of script
    pub fragment : p.fragment < count_of script p.length
    pub payload : length p.payload ≡ min (unit_of script) (p.length - unit_of script * p.fragment)
    pub heads : (k : ℕ) (q : DataPacket) → slice_get ps k ≡ Some (Data q) → q.name ≡ p.name → (q.head ≡ p.head) × (q.length ≡ p.length)
    pub payloads : (k : ℕ) (q : DataPacket) → slice_get ps k ≡ Some (Data q) → q.name ≡ p.name → q.fragment ≡ p.fragment → q.payload ≡ p.payload
    -- with a known number it is one of them; with a new one its message is open, its fragment hasn't come, and where it is the first of its message, there is room for one more.
    pub known : IsKnown p ps
    pub open_message : has_number ps p.seq ≡ false → is_complete ps p.name p.length ≡ false
    pub missing : has_number ps p.seq ≡ false → has_fragment ps p.name p.fragment ≡ false
    pub room : has_number ps p.seq ≡ false → has_some ps p.name ≡ false → (ms : List MsgName) → IsDistinct name_eq ms → AllByRecursion (IsPartOnly ps) ms → length ms < window_of script

  -- what comes of the packet, where this was answered to its message's header
  abbrev pub message_of : List Packet → DataPacket → Option HeaderOut → Message
  message_of ps p out = record { name = p.name; head = p.head; bytes = assembled (count_of script p.length) (Data p ∷ ps) p.name; out = out }

  unfoldable pub arrival_of : List Packet → DataPacket → Option HeaderOut → Arrival
  arrival_of ps p out = cond (has_number ps p.seq) Repeat (came (has_some ps p.name) (is_complete (Data p ∷ ps) p.name p.length) (message_of ps p out))

-- An end that stands for these packets may take each one that may come to them.
abbrev pub WhatArrivesMayBeTaken : Type 0
WhatArrivesMayBeTaken = (script : Script) (end : ReceivingEnd) (ps : List Packet) (p : DataPacket) → ReceivesFor script end ps → MayArrive script ps p → MayTake end p

-- Nothing was handed over on a link with this window and this unit.
abbrev pub IsNewReceiver : (window unit : ℕ) → ReceivingEnd → Type 0
IsNewReceiver window unit s = (script : Script) → window_of script ≡ window → unit_of script ≡ unit → ReceivesFor script s []

-- What comes of a packet, by what has come of its message with it, and by what came of its fragment.
abbrev pub gathered_with : Gathering → DataPacket → Gathered
gathered_with s p = gathered s p.name p.head p.length p.fragment p.payload

-- With a new number an end has all of a message exactly where all its fragments are among the packets that the end stands
-- for and this one.
abbrev pub WholeIsComplete : Type 0
WholeIsComplete = (script : Script) (end : ReceivingEnd) (ps : List Packet) (p : DataPacket) → ReceivesFor script end ps → MayArrive script ps p → is_taken end.window p.seq ≡ false → is_whole (gathered_with end.partials p) ≡ is_complete script (Data p ∷ ps) p.name p.length

abbrev pub arrival_with : (some : Bool) → Gathered → Arrival
arrival_with some g = came some (is_whole g) (message g)

abbrev pub arrival_by : Put → Arrival
arrival_by puts.First = First
arrival_by puts.More = More
arrival_by (puts.Whole m) = Whole m
arrival_by (puts.FirstWhole m) = FirstWhole m

-- the message that came whole, if one did
abbrev pub whole_message : Arrival → Option Message
whole_message Repeat = None
whole_message First = None
whole_message More = None
whole_message (Whole m) = Some m
whole_message (FirstWhole m) = Some m

-- the end has the packet's number too, and its fragment has been put to its message
pub record HasTaken (old new : ReceivingEnd) (p : DataPacket) : Type 0 where
  pub numbers : (n : ℕ) → is_taken new.window n ≡ (n == p.seq || is_taken old.window n)
  pub message : partial new.partials p.name ≡ kept_of (gathered_with old.partials p)
  pub others : (m : MsgName) → m ≢ p.name → partial new.partials m ≡ partial old.partials m
  pub sizes : (new.window.window ≡ old.window.window) × (new.partials.names ≡ old.partials.names) × (new.partials.unit ≡ old.partials.unit)

-- A number is taken once: one that was taken before is a repeat, and changes nothing; with a new one comes what its
-- fragment makes of its message.
pub record TakesOnce (old new : ReceivingEnd) (p : DataPacket) (arrival : Arrival) : Type 0 where
  pub repeat : is_taken old.window p.seq ≡ true → (arrival ≡ Repeat) × (new ≡ old)
  pub fresh : is_taken old.window p.seq ≡ false → (arrival ≡ arrival_with (is_there old.partials p.name) (gathered_with old.partials p)) × HasTaken old new p
