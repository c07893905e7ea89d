-- What Rounds stand for: which task joined which round, and with which value.
use Rattle.std.specs.Prelude.{◌≡◌, ℕ, ◌^◌, ◌<◌, ◌≤◌, Bool, cond, List, [], length, map, Option, Some, None, is_some, slice_index, slice_index_or}
use Rattle.std.specs.List.{All}
use Rattle.lapi_base.specs.Record.Below.{has_bit, every_below}
use Rattle.lapi_base.specs.Record.Operations.{numbers_below}
use Rattle.lapi_collect.specs.declared.rounds.Round.{Round}

-- for each round, the value of each task that joined it
pub record Joins : Type 0 where
  pub tasks : ℕ
  pub rounds : List (List (Option ℕ))

-- the value with which a task joined a round, if it did
abbrev pub joined : Joins → (task round : ℕ) → Option ℕ
joined joins task round = slice_index_or (slice_index_or joins.rounds round []) task None

-- every task joined the round
abbrev pub is_complete : Joins → ℕ → Bool
is_complete joins round = every_below joins.tasks (λ task. is_some (joined joins task round))

abbrev pub joined_in : Round → (task : ℕ) → Option ℕ
joined_in round task = cond (has_bit round.joined task) (Some (slice_index round.values task)) None

unfoldable pub joins_of : (tasks : ℕ) → List Round → Joins
joins_of tasks rounds = record { tasks = tasks; rounds = map (λ r. map (joined_in r) (numbers_below tasks)) rounds }

-- only tasks joined, and there is room for the value of each
abbrev pub IsRound : (tasks : ℕ) → Round → Type 0
IsRound tasks round = (round.joined < 2 ^ tasks) × (length round.values ≡ 8)

pub record AreRounds (tasks : ℕ) (rounds : List Round) : Type 0 where
  pub few : tasks ≤ 8
  pub each : All (IsRound tasks) rounds
