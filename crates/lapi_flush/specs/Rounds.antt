-- Rounds: a script's tasks call stores, puts and gets, and then a global fence, again and again; and lines that lead
-- from one round to the next. This is the project's own.
use Rattle.std.specs.Prelude.{◌≡◌, ◌⊎◌, ℕ, zero, suc, ◌+◌, ◌-◌, ◌<◌, ◌≤◌, true, false, ◌||◌, List, [], ◌∷◌, ◌++◌, length, None}
use Rattle.lapi_base.specs.declared.script.Script.{Script}
use Rattle.lapi_base.specs.declared.rule.Rules.{Rules}
use Rattle.lapi_base.specs.declared.statement.Statement.TheVariants.{Gfence}
use Rattle.lapi_base.specs.declared.message.MsgName.{MsgName}
use Rattle.lapi_base.specs.declared.event.Event.{Event}
use Rattle.lapi_base.specs.declared.schedule.Act.{Act}
use Rattle.lapi_base.specs.declared.schedule.Act.TheVariants.{Step}
use Rattle.lapi_base.specs.Packet.Layout.{window_of, holds_back}
use Rattle.lapi_base.specs.Record.Names.{Entered}
use Rattle.lapi_base.specs.Record.Operations.{statements, statement, sender, receiver, fragment_count, has_leg}
use Rattle.lapi_base.specs.Record.Handlers.{answers}
use Rattle.lapi_base.specs.Packet.Spelling.{refusal}
use Rattle.lapi_base.specs.Packet.PacketBytes.{packet_size}
use Rattle.lapi_base.specs.Record.Refusals.{next, refusal_of}
use Rattle.lapi_base.specs.Record.Wires.{Run}
use Rattle.lapi_base.specs.Record.Acts.{after}
use Rattle.lapi_base.specs.Laws.Headline.{Happened}
use Rattle.lapi_epochs.specs.Epochs.{epoch, Has}
use Rattle.lapi_epochs.specs.Stages.{is_store, goes, comes}
use Rattle.lapi_flush.specs.Settled.{HasNoNotes, IsSettled, two_sweeps}

-- one of these is this message
abbrev pub In : List MsgName → MsgName → Type 0
In [] m = ⊥
In (n ∷ ns) m = (n ≡ m) ⊎ In ns m

-- how many numbers these have
unfoldable pub weigh : Script → List MsgName → ℕ
weigh script [] = 0
weigh script (m ∷ ms) = fragment_count script m + weigh script ms

module _ (script : Script) (rules : Rules) where
  -- In round k of so many, task a calls its statements from `begin k a` on, stores, puts and gets, and then the global
  -- fence `fence k a`, which ends epoch k. None is refused, none notifies, and on each link the messages of a round
  -- have no more numbers than the window.
  pub record IsFenced (rounds : ℕ) (begin fence : (round task : ℕ) → ℕ) : Type 0 where
    pub no_notes : HasNoNotes script rules
    pub none_refused : (J : List Event) (a i : ℕ) → Has script a i → refusal_of script rules J a i ≡ None
    pub first : (a : ℕ) → a < script.tasks → begin 0 a ≡ 0
    pub order : (k a : ℕ) → k < rounds → a < script.tasks
        → (begin k a ≤ fence k a) × (fence k a < length (statements script a)) × (begin (suc k) a ≡ suc (fence k a))
    pub issues : (k a i : ℕ) → k < rounds → a < script.tasks → begin k a ≤ i → i < fence k a
        → (is_store (statement script a i) || (goes (statement script a i) || comes (statement script a i))) ≡ true
    pub fences : (k a : ℕ) → k < rounds → a < script.tasks
        → (statement script a (fence k a) ≡ Gfence) × (epoch script a (fence k a) ≡ k)
    pub few : (k a b : ℕ) → k < rounds → a < script.tasks → b < script.tasks →
        (ms : List MsgName)
        × ((m : MsgName) → Has script m.origin m.statement
        → has_leg script (answers script rules m.origin m.statement) m.origin m.leg
        (statement script m.origin m.statement) ≡ true
        → begin k m.origin ≤ m.statement → m.statement ≤ fence k m.origin
        → sender script m ≡ a → receiver script m ≡ b
        → In ms m)
        × (weigh script ms ≤ window_of script)

  -- the record is at the beginning of round k: nothing is under way, and every fence that was entered was passed
  pub record IsAtRound (begin : (round task : ℕ) → ℕ) (k : ℕ) (r : Run) : Type 0 where
    pub settled : IsSettled script rules r
    pub place : (a : ℕ) → a < script.tasks → next r.journal a ≡ begin k a
    pub passed : (a i : ℕ) → Happened (Entered a i) r.journal → i < next r.journal a

  -- so many lines `step a`
  unfoldable pub steps_of : (a count : ℕ) → List Act
  steps_of a zero = []
  steps_of a (suc n) = steps_of a n ++ Step a ∷ []

  -- one for each of the first n tasks
  unfoldable pub steps_to : (n : ℕ) → List Act
  steps_to zero = []
  steps_to (suc a) = steps_to a ++ Step a ∷ []

  -- for each of the first n tasks as many as it calls statements in round k before its fence
  unfoldable pub calls_to : (begin fence : (round task : ℕ) → ℕ) → (k n : ℕ) → List Act
  calls_to begin fence k zero = []
  calls_to begin fence k (suc a) = calls_to begin fence k a ++ steps_of a (fence k a - begin k a)

  -- lines, and then those that hang on the record after them
  abbrev pub and_after : Run → List Act → (Run → List Act) → List Act
  and_after r acts more = acts ++ more (after script rules packet_size refusal r acts)

  -- a round: all calls, two sweeps, all fences are entered, two sweeps, and all are passed
  abbrev pub round_acts : (begin fence : (round task : ℕ) → ℕ) → (k : ℕ) → Run → List Act
  round_acts begin fence k r =
      and_after r
      (and_after r
      (and_after r
      (and_after r (calls_to begin fence k script.tasks) (two_sweeps script rules))
      (λ s. steps_to script.tasks))
      (two_sweeps script rules))
      (λ s. steps_to script.tasks)

  -- where acknowledgements go out at once, the lines of round k lead from its beginning to that of the next
  abbrev pub RoundsGoOn : Run → Type 0
  RoundsGoOn r =
      holds_back script ≡ false → (rounds : ℕ) (begin fence : (round task : ℕ) → ℕ) → IsFenced rounds begin fence
      → (k : ℕ) → k < rounds → IsAtRound begin k r
      → IsAtRound begin (suc k) (after script rules packet_size refusal r (round_acts begin fence k r))
