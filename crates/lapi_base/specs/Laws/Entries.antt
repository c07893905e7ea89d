-- What the entries of wires are: each data packet is that of its number and has a spelling. These are words of this
-- project for its laws.
use Rattle.std.specs.Prelude.{◌≡◌, ℕ, ◌<◌, List, ◌++◌, slice_get, Some}
use Rattle.std.specs.List.{AllByRecursion}
use Rattle.lapi_base.specs.declared.script.Script.{Script}
use Rattle.lapi_base.specs.declared.rule.Rules.{Rules}
use Rattle.lapi_base.specs.declared.message.MsgName.{MsgName}
use Rattle.lapi_base.specs.declared.event.Event.{Event}
use Rattle.lapi_base.specs.declared.packet.Packet.{Packet}
use Rattle.lapi_base.specs.declared.packet.Packet.TheVariants.{Data, Ack}
use Rattle.lapi_base.specs.Packet.Spelling.{Spells, HasSpelling}
use Rattle.lapi_base.specs.Packet.PacketBytes as written
use Rattle.lapi_base.specs.Record.Names.{Copied}
use Rattle.lapi_base.specs.Record.Values.{values}
use Rattle.lapi_base.specs.Record.Packets.{data_packet}
use Rattle.lapi_base.specs.Record.Wires.{Run, numbered, IsEntry}
use Rattle.lapi_base.specs.Record.Valid.{ValidScript, ValidRules}
use Rattle.lapi_base.specs.Laws.Headline.{Happened}

-- the packet goes from task a to task b
abbrev pub GoesFrom : (a b : ℕ) → Packet → Type 0
GoesFrom a b (Data p) = (p.from ≡ a) × (p.to ≡ b)
GoesFrom a b (Ack layout from to base bits) = (from ≡ a) × (to ≡ b)

-- the layout that a packet is spelled in
abbrev pub layout_in : Packet → ℕ
layout_in (Data p) = p.layout
layout_in (Ack layout from to base bits) = layout

module _ (script : Script) (rules : Rules) where
  -- what a message carries, after a journal in which it was copied
  abbrev pub carried : List Event → MsgName → List ℕ
  carried J m = (values script rules J).bytes m

  -- what a message carries is fixed by its Copy
  abbrev pub CarriedIsFixed : List Event → Type 0
  CarriedIsFixed J = (m : MsgName) (later before : List Event) → J ≡ later ++ before → Happened (Copied m) before → carried J m ≡ carried before m

  -- A data packet's number is that of its message and fragment, and it is the packet of that number, with the bytes that its message carries by this journal.
  abbrev pub IsOfNumber : List Event → (from to : ℕ) → Packet → Type 0
  IsOfNumber J a b (Data p) = (slice_get (numbered script J a b) p.seq ≡ Some (p.name, p.fragment)) × (Data p ≡ data_packet script p.name p.seq p.fragment (carried J p.name))
  IsOfNumber J a b (Ack layout from to base bits) = Unit {0}

  -- all that was put on a wire, and all that was handed over, is the packet of its number by the journal as it is now
  abbrev pub PutAreOfNumber : Run → Type 0
  PutAreOfNumber r = (a b : ℕ) → AllByRecursion (IsOfNumber r.journal a b) (r.wire a b)

  abbrev pub HandedAreOfNumber : Run → Type 0
  HandedAreOfNumber r = (a b : ℕ) → AllByRecursion (IsOfNumber r.journal a b) (r.handed a b)

  -- every packet on a wire goes between tasks that there are, and from the wire's one end to its other
  abbrev pub PacketsArePlaced : Run → Type 0
  PacketsArePlaced r = (a b k : ℕ) (p : Packet) → IsEntry r a b k p → (a < script.tasks) × (b < script.tasks) × GoesFrom a b p

  -- every packet on a wire has the script's layout
  abbrev pub PacketsHaveLayout : Run → Type 0
  PacketsHaveLayout r = (a b k : ℕ) (p : Packet) → IsEntry r a b k p → layout_in p ≡ script.layout

  -- every packet on a wire has a spelling
  abbrev pub PacketsAreSpelled : Run → Type 0
  PacketsAreSpelled r = ValidScript script → ValidRules rules → (a b k : ℕ) (p : Packet) → IsEntry r a b k p → HasSpelling p

  -- and it is what is written for it
  abbrev pub PacketsAreWritten : Run → Type 0
  PacketsAreWritten r = ValidScript script → ValidRules rules → (a b k : ℕ) (p : Packet) → IsEntry r a b k p → Spells p (written.packet p)
