-- What a statement changes in its task.
use Rattle.std.specs.Prelude.{◌≡◌, ℕ, ◌+◌, ◌-◌, ◌<◌, ◌≤◌, nat_lt, false, true, cond, List, [], ◌∷◌, ◌++◌, length, slice_index, slice_set}
use Rattle.lapi_base.specs.declared.statement.Statement.{Statement}
use Rattle.lapi_base.specs.declared.statement.Statement.TheVariants.{Store, Wait, Set, Read}
use Rattle.lapi_base.specs.declared.event.Event.{Event}
use Rattle.lapi_base.specs.declared.event.Event.TheVariants.{Issue, Refuse, Pass, Enter}
use Rattle.lapi_base.specs.declared.head.Head.{Head}
use Rattle.lapi_base.specs.declared.refusal.Refusal.{Refusal}
use Rattle.lapi_base.specs.Record.Operations.{is_data}
use Rattle.lapi_memory.specs.TaskMemory.{written, IsWithin}
use Rattle.lapi_task.specs.HasRounds.{JoinsBy}
use Rattle.lapi_task.specs.declared.state.State.{State}

-- the places and the counter that the statement names are there
abbrev pub MayStep : Statement → (memory counters : List ℕ) → Type 0
MayStep (Store at bytes) memory counters = IsWithin memory at (length bytes)
MayStep (Wait counter value) memory counters = counter < length counters
MayStep (Set counter value) memory counters = counter < length counters
MayStep (Read counter) memory counters = counter < length counters
MayStep _ memory counters = Unit {0}

-- what the issue of a statement makes of a memory and of counters; what was read, and what is to be copied, with statement i
abbrev pub stored : Statement → (memory : List ℕ) → List ℕ
stored (Store at bytes) memory = written memory at bytes
stored _ memory = memory

abbrev pub counters_set : Statement → (counters : List ℕ) → List ℕ
counters_set (Set counter value) counters = slice_set counters counter value
counters_set _ counters = counters

abbrev pub with_read : Statement → (counters : List ℕ) → (i : ℕ) → List (ℕ × ℕ) → List (ℕ × ℕ)
with_read (Read counter) counters i before = before ++ (i, slice_index counters counter) ∷ []
with_read _ counters i before = before

abbrev pub with_uncopied : Statement → (i : ℕ) → List ℕ → List ℕ
with_uncopied s i before = cond (is_data s) (before ++ i ∷ []) before

-- an event was added, and the task is past a statement
pub record Advances (e : Event) (before after : State) (old new : List Event) : Type 0 where
  pub number : after.number ≡ before.number
  pub next : after.next ≡ before.next + 1
  pub events : new ≡ old ++ e ∷ []

-- the statement was refused, issued, or passed
pub record IsRefused (why : Refusal) (before after : State) (old new : List Event) : Type 0 where
  pub past : Advances (Refuse before.number before.next why) before after old new
  pub memory : after.memory ≡ before.memory
  pub counters : after.counters ≡ before.counters
  pub reads : after.reads.items ≡ before.reads.items
  pub refusals : after.refusals.items ≡ before.refusals.items ++ (before.next, why) ∷ []
  pub uncopied : after.uncopied.items ≡ before.uncopied.items
  pub jobs : after.jobs ≡ before.jobs
  pub collective : after.collective ≡ before.collective

pub record IsIssued (s : Statement) (before after : State) (old new : List Event) : Type 0 where
  pub past : Advances (Issue before.number before.next) before after old new
  pub memory : after.memory ≡ stored s before.memory
  pub counters : after.counters ≡ counters_set s before.counters
  pub reads : after.reads.items ≡ with_read s before.counters before.next before.reads.items
  pub refusals : after.refusals.items ≡ before.refusals.items
  pub uncopied : after.uncopied.items ≡ with_uncopied s before.next before.uncopied.items
  pub jobs : after.jobs ≡ before.jobs
  pub collective : after.collective ≡ before.collective

pub record PassesWait (counter value : ℕ) (before after : State) (old new : List Event) : Type 0 where
  pub enough : value ≤ slice_index before.counters counter
  pub past : Advances (Pass before.number before.next) before after old new
  pub memory : after.memory ≡ before.memory
  pub counters : after.counters ≡ slice_set before.counters counter (slice_index before.counters counter - value)
  pub reads : after.reads.items ≡ before.reads.items
  pub refusals : after.refusals.items ≡ before.refusals.items
  pub uncopied : after.uncopied.items ≡ before.uncopied.items
  pub jobs : after.jobs ≡ before.jobs
  pub collective : after.collective ≡ before.collective

-- it was passed, the one after it was not entered, and nothing else was changed
pub record IsPassed (before after : State) (old new : List Event) : Type 0 where
  pub past : Advances (Pass before.number before.next) before after old new
  pub rest : after ≡ record before { next = after.next; collective = record before.collective { entered = false } }

-- It was entered, as one of so many tasks: the task joined the round of this head, and where there are others, they are
-- to be told.
pub record IsEntered (head : Head) (tasks : ℕ) (before after : State) (old new : List Event) : Type 0 where
  pub events : new ≡ old ++ Enter before.number before.next ∷ []
  pub joins : JoinsBy before.number head (record before.collective { entered = true }) after.collective
  pub uncopied : after.uncopied.items ≡ cond (nat_lt 1 tasks) (before.uncopied.items ++ before.next ∷ []) before.uncopied.items
  pub rest : after ≡ record before { collective = after.collective; uncopied = after.uncopied }

-- the counter has less than the value, and nothing was changed
pub record IsBlocked (counter value : ℕ) (before after : State) (old new : List Event) : Type 0 where
  pub less : slice_index before.counters counter < value
  pub state : after ≡ before
  pub events : new ≡ old
