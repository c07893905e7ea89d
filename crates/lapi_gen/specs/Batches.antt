-- The batches of calls: what is drawn for each, and what follows from it. This is the project's own.
use Rattle.std.specs.Prelude.{◌≡◌, ℕ, ◌+◌, ◌-◌, ◌*◌, ◌%◌, ◌==◌, ◌<◌, ◌≤◌, cond, List, map, length}
use Rattle.std.specs.List.{AllByRecursion}
use Rattle.lapi_base.specs.declared.layout.TheConstants.{FIRST_UNIT}
use Rattle.lapi_base.specs.Record.Operations.{numbers_below}
use Rattle.lapi_base.specs.Record.Fragments.{fragments_in}
use Rattle.lapi_gen.specs.declared.form.TheConstants.{TASKS, STORES, STORED, BATCHES, KINDS, LONGEST, LOSS}
use Rattle.lapi_gen.specs.declared.kind.Kind.{Kind}
use Rattle.lapi_gen.specs.declared.kind.Kind.TheVariants.{Put, Get, Rmw, Am}
use Rattle.lapi_gen.specs.declared.batch.Batch.{Batch}
use Rattle.lapi_gen.specs.Draws.{pick}

abbrev pub kind_of : ℕ → Kind
kind_of n = cond (n == 0) Put (cond (n == 1) Get (cond (n == 2) Rmw Am))

-- how many packets carry so many bytes
abbrev pub packets : (len : ℕ) → ℕ
packets len = fragments_in FIRST_UNIT len

-- what a request has at most, and an answer
abbrev pub most_packets : ℕ
most_packets = packets LONGEST

-- how many packets a request of the kind has, and its answer
abbrev pub requests_of : Kind → (len : ℕ) → ℕ
requests_of Put len = packets len
requests_of Get len = 1
requests_of Rmw len = 1
requests_of Am len = packets len

abbrev pub answers_of : Kind → (len : ℕ) → ℕ
answers_of Put len = 1
answers_of Get len = packets len
answers_of Rmw len = 1
answers_of Am len = 1

-- the draw of the first turn in a batch, after its distance, kind, length and loss
abbrev pub first_turn : ℕ
first_turn = 4

-- the first draw of batch b: the stores take one for each byte, and then each batch one for each task and those before
abbrev pub first_draw : (b : ℕ) → ℕ
first_draw b = TASKS * STORES * STORED + (first_turn + TASKS) * b

module _ (number b : ℕ) where
  -- draw i of batch b
  abbrev pub drawn : (i bound : ℕ) → ℕ
  drawn i bound = pick number (first_draw b + i) bound

  unfoldable pub batch_of : Batch
  batch_of =
      let kind = kind_of (drawn 1 KINDS) in
      let len = drawn 2 (LONGEST + 1) in
      record {
        distance = 1 + drawn 0 (TASKS - 1);
        kind = kind;
        len = len;
        lost = drawn 3 LOSS;
        turns = map (λ a. drawn (first_turn + a) (requests_of kind len)) (numbers_below TASKS);
      }

abbrev pub batches_of : (number : ℕ) → List Batch
batches_of number = map (batch_of number) (numbers_below BATCHES)

-- the task that task a calls
abbrev pub target : Batch → (a : ℕ) → ℕ
target batch a = (a + batch.distance) % TASKS

-- how many packets each request has, how many of these the switch doesn't lose, and how many each answer has
abbrev pub requests : Batch → ℕ
requests batch = requests_of batch.kind batch.len

abbrev pub kept : Batch → ℕ
kept batch = requests batch - batch.lost

abbrev pub answers : Batch → ℕ
answers batch = answers_of batch.kind batch.len

-- the bounds of a drawn batch
pub record IsBatch (batch : Batch) : Type 0 where
  pub distance : batch.distance < TASKS
  pub len : batch.len ≤ LONGEST
  pub lost : batch.lost < LOSS
  pub turns : AllByRecursion (λ turn. turn < requests batch) batch.turns
  pub one_turn_each : length batch.turns ≡ TASKS
