-- What a task knows of the rounds of collective calls: which tasks joined them.
use Rattle.std.specs.Prelude.{◌≡◌, ℕ, ◌<◌, ◌==◌, ◌&&◌, Bool, false, cond, List, length, slice_get, Option, None, Some}
use Rattle.lapi_base.specs.declared.event.Event.{Event}
use Rattle.lapi_base.specs.declared.head.Head.{Head}
use Rattle.lapi_base.specs.declared.head.Head.TheVariants as heads
use Rattle.lapi_base.specs.declared.script.Script.{Script}
use Rattle.lapi_collect.specs.declared.rounds.TheConstants.{MOST_ROUNDS}
use Rattle.lapi_base.specs.Record.Names.{happened, Entered}
use Rattle.lapi_base.specs.declared.statement.Statement.{Statement}
use Rattle.lapi_base.specs.Record.Operations.{entry, is_gfence, table_rounds}
use Rattle.lapi_base.specs.Record.Refusals.{gfence_rounds, join_landed, next}
use Rattle.lapi_collect.specs.Rounds.{Joins, joined}
use Rattle.lapi_task.specs.declared.collective.Collective.{Collective}

-- Task t knows that task d joined with this statement: with its own once it was entered, with another's once the Join has
-- landed.
abbrev pub has_entered : List Event → (task : ℕ) → Option ℕ → Bool
has_entered J t None = false
has_entered J t (Some i) = happened (Entered t i) J

abbrev pub knows_join : List Event → (t d : ℕ) → Option ℕ → Bool
knows_join J t d i = cond (d == t) (has_entered J t i) (join_landed J t d i)

-- Of each task it has the rounds of one kind that the task is known to have joined, each with its value.
pub record AreJoined (script : Script) (t : ℕ) (rounds : (task : ℕ) → List ℕ) (value : (round task : ℕ) → ℕ) (joins : Joins) (J : List Event) : Type 0 where
  pub tasks : joins.tasks ≡ script.tasks
  pub size : length joins.rounds ≡ MOST_ROUNDS
  pub joined : (d round : ℕ) → joined joins d round ≡ cond (knows_join J t d (slice_get (rounds d) round)) (Some (value round d)) None

-- What a task knows of collective calls: whether its next statement was entered, and who joined which fence and gave which
-- address.
pub record HasRounds (script : Script) (t : ℕ) (c : Collective) (J : List Event) : Type 0 where
  pub entered : c.entered ≡ happened (Entered t (next J t)) J
  pub fences : AreJoined script t (gfence_rounds script) (λ _ _. 0) c.fences J
  pub tables : AreJoined script t (table_rounds script) (entry script) c.tables J

-- what is known of the rounds of a collective call's kind
abbrev pub joins_like : Collective → Statement → Joins
joins_like c s = cond (is_gfence s) c.fences c.tables

-- before the first line
pub record AreNewRounds (count : ℕ) (joins : Joins) : Type 0 where
  pub tasks : joins.tasks ≡ count
  pub size : length joins.rounds ≡ MOST_ROUNDS
  pub none : (d round : ℕ) → joined joins d round ≡ None

pub record IsNewCollective (tasks : ℕ) (c : Collective) : Type 0 where
  pub entered : c.entered ≡ false
  pub fences : AreNewRounds tasks c.fences
  pub tables : AreNewRounds tasks c.tables

-- a task has not joined this round, of those that there are, and may;
pub record MayJoinRound (task round : ℕ) (joins : Joins) : Type 0 where
  pub task_known : task < joins.tasks
  pub round_known : round < length joins.rounds
  pub first : joined joins task round ≡ None

-- and it joined it with this value.
pub record HasJoined (task round value : ℕ) (before after : Joins) : Type 0 where
  pub joined : (d r : ℕ) → joined after d r ≡ cond (d == task && r == round) (Some value) (joined before d r)
  pub tasks : after.tasks ≡ before.tasks
  pub size : length after.rounds ≡ length before.rounds

-- The same of the round that a head names, if it names one.
abbrev pub MayJoin : (task : ℕ) → Head → Collective → Type 0
MayJoin d (heads.Gfence round) c = MayJoinRound d round c.fences
MayJoin d (heads.Addr round at) c = MayJoinRound d round c.tables
MayJoin d _ c = Unit {0}

abbrev pub JoinsBy : (task : ℕ) → Head → (before after : Collective) → Type 0
JoinsBy d (heads.Gfence round) before after = HasJoined d round 0 before.fences after.fences × (after ≡ record before { fences = after.fences })
JoinsBy d (heads.Addr round at) before after = HasJoined d round at before.tables after.tables × (after ≡ record before { tables = after.tables })
JoinsBy d _ before after = after ≡ before
