-- Records in which nothing is under way, and two sweeps that lead to one. This is the project's own.
use Rattle.std.specs.Prelude.{◌≡◌, ℕ, ◌<◌, ◌≤◌, false, None, List, ◌++◌, length}
use Rattle.std.specs.List.{AllByRecursion}
use Rattle.lapi_base.specs.declared.script.Script.{Script}
use Rattle.lapi_base.specs.declared.rule.Rules.{Rules}
use Rattle.lapi_base.specs.declared.message.MsgName.{MsgName}
use Rattle.lapi_base.specs.declared.schedule.Act.{Act}
use Rattle.lapi_base.specs.Packet.Layout.{holds_back}
use Rattle.lapi_base.specs.Record.Names.{Copied, Landed}
use Rattle.lapi_base.specs.Record.Operations.{statement, cmpl_counter}
use Rattle.lapi_base.specs.Record.Handlers.{answers}
use Rattle.lapi_base.specs.Packet.Spelling.{refusal}
use Rattle.lapi_base.specs.Packet.PacketBytes.{packet_size}
use Rattle.lapi_base.specs.Record.Wires.{Run, numbered}
use Rattle.lapi_base.specs.Record.Acts.{ready, after}
use Rattle.lapi_base.specs.Laws.Headline.{Happened}
use Rattle.lapi_epochs.specs.Epochs.{Has}
use Rattle.lapi_flush.specs.Flushed.{IsCalm}
use Rattle.lapi_flush.specs.Swept.{sweep, HasRoom}

module _ (script : Script) (rules : Rules) where
  -- nothing is under way: all that is ready was copied, all that was copied has landed, and all numbers of all links
  -- are acknowledged
  pub record IsSettled (r : Run) : Type 0 where
    pub copied : (a : ℕ) → a < script.tasks
        → AllByRecursion (λ m. Happened (Copied m) r.journal) (ready script r.journal a)
    pub landed : (m : MsgName) → Happened (Copied m) r.journal → Happened (Landed m) r.journal
    pub calm : (a b : ℕ) → a < script.tasks → b < script.tasks
        → IsCalm r a b (length (numbered script r.journal a b))

  -- no statement names a completion counter, and none answers
  abbrev pub HasNoNotes : Type 0
  HasNoNotes =
      (a i : ℕ) → Has script a i
      → (cmpl_counter (statement script a i) ≡ None) × (answers script rules a i ≡ false)

  -- one sweep, and then one more
  abbrev pub two_sweeps : Run → List Act
  two_sweeps r =
      let first = sweep script rules r in
      first ++ sweep script rules (after script rules packet_size refusal r first)

  -- where acknowledgements go numbered at once, nothing notifies, all links are calm, and there is room
  abbrev pub TwoSweepsSettle : Run → Type 0
  TwoSweepsSettle r = holds_back script ≡ false → HasNoNotes → (tops : ℕ → ℕ → ℕ)
      → ((a b : ℕ) → a < script.tasks → b < script.tasks
      → IsCalm r a b (tops a b) × (tops a b ≤ length (numbered script r.journal a b)))
      → HasRoom script rules r tops
      → IsSettled (after script rules packet_size refusal r (two_sweeps r))
