-- The bytes that come to a task: that they come whole, what each event writes into its memory, and that the delivery of
-- a packet writes and announces what the packet's head says. These are words of this project for its laws.
use Rattle.std.specs.Prelude.{◌≡◌, ℕ, ◌+◌, ◌==◌, Bool, cond, ◌&&◌, not, List, ◌∷◌, true, false, ◌++◌, length}
use Rattle.std.specs.List.{AllByRecursion}
use Rattle.lapi_base.specs.declared.script.Script.{Script}
use Rattle.lapi_base.specs.declared.message.MsgName.{MsgName}
use Rattle.lapi_base.specs.declared.schedule.Act.TheVariants.{Deliver}
use Rattle.lapi_base.specs.declared.rule.Rules.{Rules}
use Rattle.lapi_base.specs.declared.packet.Packet.TheVariants.{Data}
use Rattle.lapi_base.specs.declared.packet.DataPacket.{DataPacket}
use Rattle.lapi_base.specs.declared.event.Event.{Event}
use Rattle.lapi_base.specs.declared.event.Event.TheVariants.{Issue, Land, Begin, End}
use Rattle.lapi_base.specs.declared.packet.Packet.{Packet}
use Rattle.lapi_base.specs.Record.Names.{Copied, Landed}
use Rattle.lapi_base.specs.Record.Operations.{statement, sender, receiver, message_length, fragment_count}
use Rattle.lapi_base.specs.Record.Handlers.{buffer, has_completion}
use Rattle.lapi_base.specs.Record.Values.{gathered, byte_after, values, land_writes, store_writes, writes}
use Rattle.lapi_base.specs.Record.Counters.{count}
use Rattle.lapi_base.specs.Record.Refusals.{option_any}
use Rattle.lapi_base.specs.Record.Wires.{Run, is_delivered, IsEntry}
use Rattle.lapi_base.specs.Record.Valid.{IsByte, ValidScript}
use Rattle.lapi_base.specs.Laws.Headline.{Happened}
use Rattle.lapi_base.specs.Record.WorldView.{performed}
use Rattle.lapi_base.specs.Laws.Entries.{carried, IsOfNumber}
use Rattle.lapi_base.specs.Record.TaskPart.{place_of}
use Rattle.lapi_base.specs.Record.Arrived.{whole_by, assembled, count_of, is_whole}
use Rattle.lapi_base.specs.Record.HeadSays.{announces, lands}

module _ (script : Script) (rules : Rules) where
  -- What a message carries, where all its fragments are among packets that are those of their numbers: their payloads in
  -- order.
  abbrev pub BytesComeWhole : List Event → Type 0
  BytesComeWhole J = (m : MsgName) (a b : ℕ) (ps : List Packet) →
      Happened (Copied m) J → AllByRecursion (IsOfNumber script rules J a b) ps → is_whole script ps m ≡ true →
      assembled (fragment_count script m) ps m ≡ carried script rules J m

  -- what has landed came whole
  abbrev pub LandedAreWhole : Run → Type 0
  LandedAreWhole r = (m : MsgName) → Happened (Landed m) r.journal → is_whole script (r.handed (sender script m) (receiver script m)) m ≡ true

  -- The memory of a task is written by its own events alone:
  abbrev pub memory_at : List Event → (task place : ℕ) → ℕ
  memory_at J t x = (values script rules J).memory t x

  abbrev pub OthersWriteNothing : List Event → Type 0
  OthersWriteNothing J = (t x : ℕ) (e : Event) (K : List Event) → J ≡ e ∷ K → (place_of script e == t) ≡ false →
      memory_at J t x ≡ memory_at K t x

  -- a store writes its bytes,
  abbrev pub StoresWrite : List Event → Type 0
  StoresWrite J = (a i x : ℕ) (K : List Event) → J ≡ Issue a i ∷ K →
      memory_at J a x ≡ byte_after (store_writes script rules (statement script a i)) x (memory_at K a x)

  -- a landing writes what came in, whatever the kind of message,
  abbrev pub LandingsWrite : List Event → Type 0
  LandingsWrite J = (m : MsgName) (a b x : ℕ) (ps : List Packet) (K : List Event) →
      J ≡ Land m ∷ K → AllByRecursion (IsOfNumber script rules K a b) ps → is_whole script ps m ≡ true →
      let t = receiver script m in
      let came = record (values script rules K) { bytes = λ n. assembled (fragment_count script m) ps m } in
      memory_at J t x ≡ byte_after (land_writes script rules came m m.leg (statement script m.origin m.statement)) x (memory_at K t x)

  -- and the end of a job its effect on the buffer as it stood when the job began.
  abbrev pub EndsWrite : List Event → Type 0
  EndsWrite J = (m : MsgName) (t w x : ℕ) (K : List Event) → J ≡ End m t w ∷ K →
      memory_at J t x ≡ byte_after (writes script rules (values script rules K) (End m t w)) x (memory_at K t x)

  -- What a message carries is as long as its statement says;
  abbrev pub CarriedHaveLength : List Event → Type 0
  CarriedHaveLength J = (m : MsgName) → Happened (Copied m) J → length (carried script rules J m) ≡ message_length script m

  -- all that memories, messages and buffers of a valid script hold are bytes;
  abbrev pub AllAreBytes : List Event → Type 0
  AllAreBytes J = ValidScript script →
      ((t x : ℕ) → IsByte (memory_at J t x))
      × ((m : MsgName) → AllByRecursion IsByte (carried script rules J m))
      × ((m : MsgName) → AllByRecursion IsByte ((values script rules J).held m))

  -- and a job holds its buffer as it stood when the job began.
  abbrev pub BuffersAreHeld : List Event → Type 0
  BuffersAreHeld J = (m : MsgName) (t w : ℕ) (later before : List Event) → J ≡ later ++ Begin m t w ∷ before →
      (values script rules J).held m ≡ gathered (values script rules before).memory t (buffer script rules m)

  -- a packet makes its message whole: its number is new, and with it all fragments are there
  abbrev pub completes : Run → (from to : ℕ) → DataPacket → Bool
  completes r a b p = not (is_delivered r a b p.seq) && whole_by (count_of script p.length) (Data p ∷ r.handed a b) p.name

  -- A delivery writes, where it makes the message whole, the bytes that came as the packet's head says, and else nothing;
  abbrev pub DeliveriesWrite : Run → Type 0
  DeliveriesWrite r = (a b k x : ℕ) (p : DataPacket) → IsEntry r a b k (Data p) →
      let v = values script rules r.journal in
      let bytes = assembled (count_of script p.length) (Data p ∷ r.handed a b) p.name in
      (values script rules (performed script rules r (Deliver a b k)).journal).memory b x
      ≡ cond (completes r a b p) (byte_after (lands script rules v.memory b p.name p.head p.length bytes) x (v.memory b x)) (v.memory b x)

  -- and it announces the counter that the head names.
  abbrev pub DeliveriesAnnounce : Run → Type 0
  DeliveriesAnnounce r = (a b k c : ℕ) (p : DataPacket) → IsEntry r a b k (Data p) →
      let named = announces p.head (has_completion script rules p.name.origin p.name.statement) in
      count script rules (performed script rules r (Deliver a b k)).journal b c
      ≡ count script rules r.journal b c + cond (completes r a b p && option_any (λ d. d == c) named) 1 0
