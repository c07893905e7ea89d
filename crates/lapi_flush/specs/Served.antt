-- A served part of a schedule: it delivers some entries of a wire, and then the last acknowledgement that they added to
-- the wire back. This is the project's own.
use Rattle.std.specs.Prelude.{◌≡◌, ◌⊎◌, ℕ, zero, suc, ◌+◌, ◌<◌, ◌≤◌, true, false, List, [], ◌∷◌, ◌++◌, length, slice_get, Some}
use Rattle.std.specs.List.{AllByRecursion}
use Rattle.lapi_base.specs.declared.script.Script.{Script}
use Rattle.lapi_base.specs.declared.rule.Rules.{Rules}
use Rattle.lapi_base.specs.declared.message.MsgName.{MsgName}
use Rattle.lapi_base.specs.declared.event.Event.{Event}
use Rattle.lapi_base.specs.declared.event.Event.TheVariants.{Issue, Refuse, Enter, Pass}
use Rattle.lapi_base.specs.declared.schedule.Act.{Act}
use Rattle.lapi_base.specs.declared.schedule.Act.TheVariants.{Step, Poll, Deliver}
use Rattle.lapi_base.specs.declared.packet.DataPacket.{DataPacket}
use Rattle.lapi_base.specs.declared.packet.Packet.{Packet}
use Rattle.lapi_base.specs.declared.packet.Packet.TheVariants.{Data, Ack}
use Rattle.lapi_base.specs.Packet.Layout.{holds_back}
use Rattle.lapi_base.specs.Record.Names.{Copied, Landed}
use Rattle.lapi_base.specs.Record.Operations.{sender, receiver}
use Rattle.lapi_base.specs.Packet.Spelling.{refusal}
use Rattle.lapi_base.specs.Packet.PacketBytes.{packet_size}
use Rattle.lapi_base.specs.Record.Wires.{Run, numbered, is_sent, is_acked, IsEntry}
use Rattle.lapi_base.specs.Record.Acts.{perform, after}
use Rattle.lapi_base.specs.Laws.Headline.{Happened}

-- so many lines that deliver entries first, first + 1 .. of the wire from a to b
unfoldable pub delivers : (a b first count : ℕ) → List Act
delivers a b first zero = []
delivers a b first (suc n) = delivers a b first n ++ Deliver a b (first + n) ∷ []

-- lines that deliver entries first to first + last, and the acknowledgement that the last of them adds
abbrev pub served : Run → (a b first last : ℕ) → List Act
served r a b first last = delivers a b first (suc last) ++ Deliver b a (length (r.wire b a) + last) ∷ []

-- a packet that acknowledges
abbrev pub IsAck : Packet → Type 0
IsAck (Data p) = ⊥
IsAck (Ack layout from to base bits) = Unit {0}

-- a wire has acknowledgements more
abbrev pub AddsAcks : List Packet → List Packet → Type 0
AddsAcks old new = (acks : List Packet) × (new ≡ old ++ acks) × AllByRecursion IsAck acks

-- an event of a message, and not of a statement
abbrev pub IsOfMessage : Event → Type 0
IsOfMessage (Issue a i) = ⊥
IsOfMessage (Refuse a i reason) = ⊥
IsOfMessage (Enter a i) = ⊥
IsOfMessage (Pass a i) = ⊥
IsOfMessage _ = Unit {0}

-- a journal has events of messages more
abbrev pub AddsEvents : List Event → List Event → Type 0
AddsEvents old new = (later : List Event) × (new ≡ later ++ old) × AllByRecursion IsOfMessage later

-- Entries first to first + last of the wire from a to b are data packets; each number below `top`, and all that were
-- sent are such, was acknowledged before or is one of theirs.
pub record IsPart (r : Run) (a b first last top : ℕ) : Type 0 where
  pub entries : (i : ℕ) → i ≤ last → (p : DataPacket) × IsEntry r a b (first + i) (Data p)
  pub numbers : (m : ℕ) → m < top
      → (is_acked r a b m ≡ true)
      ⊎ ((i : ℕ) × (i ≤ last) × (p : DataPacket) × IsEntry r a b (first + i) (Data p) × (p.seq ≡ m))
  pub sent : (m : ℕ) → is_sent r a b m ≡ true → m < top

module _ (script : Script) (rules : Rules) where
  -- After it, all numbers that were sent on the link are acknowledged, as are those of other links that were before;
  -- each message all of whose numbers were sent has landed; and no wire has a data packet more.
  pub record IsServed (r s : Run) (a b : ℕ) : Type 0 where
    pub acked : (m : ℕ) → is_sent s a b m ≡ true → is_acked s a b m ≡ true
    pub stays : (x y m : ℕ) → is_acked r x y m ≡ true → is_acked s x y m ≡ true
    pub landed : (m : MsgName) → sender script m ≡ a → receiver script m ≡ b → Happened (Copied m) r.journal
        → ((n j : ℕ) → slice_get (numbered script r.journal a b) n ≡ Some (m, j) → is_sent r a b n ≡ true)
        → Happened (Landed m) s.journal
    pub wires : (x y : ℕ) → AddsAcks (r.wire x y) (s.wire x y)
    pub events : AddsEvents r.journal s.journal

  -- a step or a poll of a task, or the delivery of an entry that is there
  abbrev pub IsNamed : Run → Act → Type 0
  IsNamed r (Step t) = t < script.tasks
  IsNamed r (Poll t) = t < script.tasks
  IsNamed r (Deliver a b k) = (a < script.tasks) × (b < script.tasks) × (k < length (r.wire a b))
  IsNamed r _ = ⊥

  -- each of these lines is such, at the record that it comes to
  abbrev pub AllNamed : Run → List Act → Type 0
  AllNamed r [] = Unit {0}
  AllNamed r (act ∷ acts) = IsNamed r act × AllNamed (perform script rules packet_size refusal r act) acts

  -- where acknowledgements go numbered at once, a part that keeps what `IsPart` says leaves what `IsServed` says
  abbrev pub PartsAreServed : Run → Type 0
  PartsAreServed r =
      holds_back script ≡ false → (a b first last top : ℕ) → IsPart r a b first last top
      → IsServed r (after script rules packet_size refusal r (served r a b first last)) a b
