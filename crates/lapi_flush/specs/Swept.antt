-- A sweep: a flush of every task, one after another. This is the project's own.
use Rattle.std.specs.Prelude.{◌≡◌, ℕ, zero, suc, ◌+◌, ◌<◌, ◌≤◌, false, List, [], ◌++◌, length}
use Rattle.std.specs.List.{AllByRecursion}
use Rattle.lapi_base.specs.declared.script.Script.{Script}
use Rattle.lapi_base.specs.declared.rule.Rules.{Rules}
use Rattle.lapi_base.specs.declared.message.MsgName.{MsgName}
use Rattle.lapi_base.specs.declared.event.Event.{Event}
use Rattle.lapi_base.specs.declared.schedule.Act.{Act}
use Rattle.lapi_base.specs.Packet.Layout.{window_of, holds_back}
use Rattle.lapi_base.specs.Record.Names.{Copied, Landed}
use Rattle.lapi_base.specs.Record.Operations.{sender, receiver}
use Rattle.lapi_base.specs.Packet.Spelling.{refusal}
use Rattle.lapi_base.specs.Packet.PacketBytes.{packet_size}
use Rattle.lapi_base.specs.Record.Wires.{Run, numbered}
use Rattle.lapi_base.specs.Record.Acts.{ready, after}
use Rattle.lapi_base.specs.Record.Atomic.{Atomic}
use Rattle.lapi_base.specs.Laws.Headline.{Happened}
use Rattle.lapi_flush.specs.Served.{AddsEvents}
use Rattle.lapi_flush.specs.Flushed.{IsCalm, flush}

module _ (script : Script) (rules : Rules) where
  -- flushes of the first n tasks
  unfoldable pub sweep_to : Run → (n : ℕ) → List Act
  sweep_to r zero = []
  sweep_to r (suc t) = sweep_to r t ++ flush script rules (after script rules packet_size refusal r (sweep_to r t)) t

  -- the lines of a sweep
  abbrev pub sweep : Run → List Act
  sweep r = sweep_to r script.tasks

  -- however messages go on, no link gets more new numbers than the window has
  abbrev pub HasRoom : Run → (tops : ℕ → ℕ → ℕ) → Type 0
  HasRoom r tops =
      (K : List Event) → Atomic script rules K → AddsEvents r.journal K
      → (a b : ℕ) → a < script.tasks → b < script.tasks
      → length (numbered script K a b) ≤ tops a b + window_of script

  -- What a sweep leaves of task a: by some time in it all messages that were ready at a were copied; they, and all
  -- others that a had copied by then, have landed, and the links of a are calm with all numbers that they had then.
  pub record IsSweptAt (r s : Run) (a : ℕ) : Type 0 where
    pub then_journal : List Event
    pub since : AddsEvents r.journal then_journal
    pub until : AddsEvents then_journal s.journal
    pub copied : AllByRecursion (λ m. Happened (Copied m) then_journal) (ready script r.journal a)
    pub landed : (m : MsgName) → sender script m ≡ a → receiver script m < script.tasks
        → Happened (Copied m) then_journal → Happened (Landed m) s.journal
    pub calm : (b : ℕ) → b < script.tasks → IsCalm s a b (length (numbered script then_journal a b))

  -- where acknowledgements go numbered at once, all links are calm, and there is room
  abbrev pub SweepsAreSwept : Run → Type 0
  SweepsAreSwept r = holds_back script ≡ false → (tops : ℕ → ℕ → ℕ)
      → ((a b : ℕ) → a < script.tasks → b < script.tasks → IsCalm r a b (tops a b))
      → HasRoom r tops
      → (a : ℕ) → a < script.tasks → IsSweptAt r (after script rules packet_size refusal r (sweep r)) a
