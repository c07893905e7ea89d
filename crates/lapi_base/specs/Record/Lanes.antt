-- The lanes of a schedule: lines of different lanes may be taken in any order, those of one lane in theirs.
use Rattle.std.specs.Prelude.{◌≡◌, ◌≢◌, ℕ, ◌<◌, ◌==◌, Bool, false, nat_lt, cond, List, [], ◌∷◌, length, filter, slice_get, IsTrue, option_map, unwrap_or}
use Rattle.std.specs.List.{AllByRecursion}
use Rattle.lapi_base.specs.declared.schedule.Line.{Line}
use Rattle.lapi_base.specs.Laws.Working.{works_at}
use Rattle.lapi_base.specs.Record.WorldView.{act_at}

-- each number is below all that follow it
abbrev pub Rises : List ℕ → Type 0
Rises [] = Unit {0}
Rises (n ∷ ns) = AllByRecursion (λ k. n < k) ns × Rises ns

module _ (schedule : List Line) where
  -- the lane of line n
  abbrev pub lane_of : ℕ → ℕ
  lane_of n = unwrap_or (option_map (λ (line : Line). line.lane) (slice_get schedule n)) 0

  -- those of these lines that are of the lane
  abbrev pub lane_lines : (lane : ℕ) → List ℕ → List ℕ
  lane_lines lane lines = filter (λ n. lane_of n == lane) lines

  -- each line was taken once, and nothing else, and those of each lane in order
  pub record IsInterleaving (taken : List ℕ) : Type 0 where
    pub once : (n : ℕ) → length (filter (λ k. k == n) taken) ≡ cond (nat_lt n (length schedule)) 1 0
    pub in_order : (lane : ℕ) → Rises (lane_lines lane taken)

  -- line n is a Begin or an End of worker w of task t
  abbrev pub is_work_of : (t w n : ℕ) → Bool
  is_work_of t w n = unwrap_or (option_map (works_at t w) (act_at schedule n)) false

  -- the lines of each worker stand in one lane
  abbrev pub WorkersKeepLanes : Type 0
  WorkersKeepLanes = (t w n k : ℕ) → IsTrue (is_work_of t w n) → IsTrue (is_work_of t w k) → lane_of n ≡ lane_of k

  -- line n is of this worker, and has another lane than an earlier line of it
  abbrev pub Clashes : (t w n : ℕ) → Type 0
  Clashes t w n = IsTrue (is_work_of t w n) × (k : ℕ) × (k < n) × IsTrue (is_work_of t w k) × (lane_of k ≢ lane_of n)

  -- it is the first such line of all workers
  pub record IsFirstClash (t w n : ℕ) : Type 0 where
    pub known : n < length schedule
    pub clashes : Clashes t w n
    pub first : (u v k : ℕ) → k < n → Clashes u v k → ⊥
