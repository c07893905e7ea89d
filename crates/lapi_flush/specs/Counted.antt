-- How many entries each wire has after a flush, by how many data packets its Poll adds; and the lines of a flush, which
-- these counts determine. The same of sweeps and of rounds. This is the project's own.
use Rattle.std.specs.Prelude.{◌≡◌, ℕ, zero, suc, ◌+◌, ◌-◌, ◌==◌, ◌<◌, ◌≤◌, cond, false, List, [], ◌∷◌, ◌++◌, length}
use Rattle.lapi_base.specs.declared.script.Script.{Script}
use Rattle.lapi_base.specs.declared.rule.Rules.{Rules}
use Rattle.lapi_base.specs.declared.schedule.Act.{Act}
use Rattle.lapi_base.specs.declared.schedule.Act.TheVariants.{Step, Poll, Deliver}
use Rattle.lapi_base.specs.Packet.Layout.{window_of, holds_back}
use Rattle.lapi_base.specs.Packet.Spelling.{refusal}
use Rattle.lapi_base.specs.Packet.PacketBytes.{packet_size}
use Rattle.lapi_base.specs.Record.Wires.{Run, numbered}
use Rattle.lapi_base.specs.Record.Acts.{after}
use Rattle.lapi_flush.specs.Served.{delivers}
use Rattle.lapi_flush.specs.Flushed.{IsCalm, polled, flush}

-- how many entries each wire has
abbrev pub Counts : Type 0
Counts = (from to : ℕ) → ℕ

abbrev pub counts_of : Run → Counts
counts_of r x y = length (r.wire x y)

-- after a flush of t whose Poll adds so many data packets for each task: each of them was acknowledged
abbrev pub flushed_counts : Counts → (t : ℕ) (new : ℕ → ℕ) → Counts
flushed_counts counts t new x y = (counts x y + cond (x == t) (new y) 0) + cond (y == t) (new x) 0

-- so many entries of the wire from a to b, from `first` on, and the last of the acknowledgements that they add to the
-- wire back behind `back` entries
abbrev pub counted_part : (a b first back count : ℕ) → List Act
counted_part a b first back zero = []
counted_part a b first back (suc last) = delivers a b first (suc last) ++ Deliver b a (back + last) ∷ []

-- such a part for each of the first n tasks
unfoldable pub counted_links : Counts → (t : ℕ) (new : ℕ → ℕ) (n : ℕ) → List Act
counted_links counts t new zero = []
counted_links counts t new (suc b) =
    counted_links counts t new b
    ++ counted_part t b (counts t b) (counts b t + cond (b == t) (new b) 0) (new b)

-- the lines of a flush between so many tasks
abbrev pub counted_flush : (tasks : ℕ) → Counts → (t : ℕ) (new : ℕ → ℕ) → List Act
counted_flush tasks counts t new = Poll t ∷ counted_links counts t new tasks

-- after flushes of the first n tasks, where the Poll of each adds so many data packets for each other
unfoldable pub swept_counts : Counts → (new : (from to : ℕ) → ℕ) → (n : ℕ) → Counts
swept_counts counts new zero = counts
swept_counts counts new (suc t) = flushed_counts (swept_counts counts new t) t (new t)

-- the lines of these flushes
unfoldable pub counted_sweep : (tasks : ℕ) → Counts → (new : (from to : ℕ) → ℕ) → (n : ℕ) → List Act
counted_sweep tasks counts new zero = []
counted_sweep tasks counts new (suc t) =
    counted_sweep tasks counts new t ++ counted_flush tasks (swept_counts counts new t) t (new t)

-- after the first n sweeps, where the Polls of each sweep add so many
unfoldable pub sweeps_counts : (tasks : ℕ) → Counts → (new : (sweep from to : ℕ) → ℕ) → (n : ℕ) → Counts
sweeps_counts tasks counts new zero = counts
sweeps_counts tasks counts new (suc s) = swept_counts (sweeps_counts tasks counts new s) (new s) tasks

-- the lines of sweep s
abbrev pub sweep_lines : (tasks : ℕ) → Counts → (new : (sweep from to : ℕ) → ℕ) → (s : ℕ) → List Act
sweep_lines tasks counts new s = counted_sweep tasks (sweeps_counts tasks counts new s) (new s) tasks

-- so many lines `step a`
unfoldable pub some_steps : (a count : ℕ) → List Act
some_steps a zero = []
some_steps a (suc n) = some_steps a n ++ Step a ∷ []

-- some for each of the first n tasks
unfoldable pub steps_each : (many : ℕ → ℕ) → (n : ℕ) → List Act
steps_each many zero = []
steps_each many (suc a) = steps_each many a ++ some_steps a (many a)

-- a round: all calls, two sweeps, all fences are entered, two sweeps, and all are passed
abbrev pub counted_round :
    (tasks : ℕ) → Counts → (calls : ℕ → ℕ) → (new : (sweep from to : ℕ) → ℕ) → List Act
counted_round tasks counts calls new =
    let lines = sweep_lines tasks counts new in
    let fences = steps_each (λ a. 1) tasks in
    (((steps_each calls tasks ++ (lines 0 ++ lines 1)) ++ fences) ++ (lines 2 ++ lines 3)) ++ fences

module _ (script : Script) (rules : Rules) where
  -- where the links of t are calm, a Poll of t adds what its links have more numbers then,
  abbrev pub new_numbers : Run → (t : ℕ) (tops : ℕ → ℕ) → ℕ → ℕ
  new_numbers r t tops b = length (numbered script (polled script rules r t) t b) - tops b

  -- and the lines of the flush and the counts after it are told by that
  pub record IsCounted (r s : Run) (t : ℕ) (new : ℕ → ℕ) : Type 0 where
    pub lines : flush script rules r t ≡ counted_flush script.tasks (counts_of r) t new
    pub counts : (x y : ℕ) → x < script.tasks → y < script.tasks → counts_of s x y ≡ flushed_counts (counts_of r) t new x y

  -- where acknowledgements go numbered at once and the window has room
  abbrev pub FlushesAreCounted : Run → Type 0
  FlushesAreCounted r = holds_back script ≡ false → (t : ℕ) (tops : ℕ → ℕ)
      → t < script.tasks
      → ((b : ℕ) → b < script.tasks → IsCalm r t b (tops b))
      → ((b : ℕ) → b < script.tasks → length (numbered script (polled script rules r t) t b) ≤ tops b + window_of script)
      → IsCounted r (after script rules packet_size refusal r (flush script rules r t)) t (new_numbers r t tops)
