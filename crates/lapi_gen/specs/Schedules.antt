-- The generated schedule. This is the project's own.
use Rattle.std.specs.Prelude.{ℕ, ◌+◌, ◌*◌, ◌%◌, ◌==◌, ◌<◌, ◌≤◌, cond, List, [], ◌∷◌, ◌++◌, map, replicate, slice_index}
use Rattle.std.specs.List.{flat_map, sum_by}
use Rattle.lapi_base.specs.declared.schedule.Act.TheVariants as Act
use Rattle.lapi_base.specs.declared.schedule.Line.{Line}
use Rattle.lapi_base.specs.Record.Operations.{numbers_below}
use Rattle.lapi_gen.specs.declared.form.TheConstants.{TASKS, STORES, BATCHES, WORKER}
use Rattle.lapi_gen.specs.declared.kind.Kind.{Kind}
use Rattle.lapi_gen.specs.declared.kind.Kind.TheVariants.{Put, Get, Rmw, Am}
use Rattle.lapi_gen.specs.declared.batch.Batch.{Batch}
use Rattle.lapi_gen.specs.declared.link.Link.{Link}
use Rattle.lapi_gen.specs.declared.part.Part.{Part}
use Rattle.lapi_gen.specs.declared.part.Part.TheVariants.{Steps, Polls, Requests, Acknowledgements, Again, Jobs, Answers, Returns}
use Rattle.lapi_gen.specs.Batches.{most_packets, batch_of, target, requests, kept, answers}

-- A line's lane is the first task that it names.
abbrev pub step : (a : ℕ) → Line
step a = record { lane = a; act = Act.Step a }

abbrev pub poll : (a : ℕ) → Line
poll a = record { lane = a; act = Act.Poll a }

abbrev pub tick : (a : ℕ) → Line
tick a = record { lane = a; act = Act.Tick a }

abbrev pub deliver : (a b k : ℕ) → Line
deliver a b k = record { lane = a; act = Act.Deliver a b k }

abbrev pub begin : (t : ℕ) → Line
begin t = record { lane = t; act = Act.Begin t WORKER }

abbrev pub end : (t : ℕ) → Line
end t = record { lane = t; act = Act.End t WORKER }

-- so many entries of wire (a, b), from one on
abbrev pub deliveries : (a b first count : ℕ) → List Line
deliveries a b first count = map (λ j. deliver a b (first + j)) (numbers_below count)

-- A batch adds to the wire of each link its requests, then what is sent again, and then what acknowledges the answers;
-- to the wire back what acknowledges the requests, which may come late, and then the answers.
abbrev pub adds_there : Batch → ℕ
adds_there batch = requests batch + batch.lost + answers batch

abbrev pub adds_back : Batch → ℕ
adds_back batch = requests batch + answers batch

-- how many entries a batch adds to wire (x, y), which is the wire of a link, a wire back, or none of them; never both,
-- since twice the distance is no multiple of the number of tasks
abbrev pub adds : Batch → (x y : ℕ) → ℕ
adds batch x y = cond (y == target batch x) (adds_there batch) (cond (x == target batch y) (adds_back batch) 0)

-- how many entries the batches before batch b have added to it
unfoldable pub entries : (number b x y : ℕ) → ℕ
entries number b x y = sum_by (λ c. adds (batch_of number c) x y) (numbers_below b)

-- the link of task a in batch b, with how many entries its wire has then, and the wire back
abbrev pub link_of : (number b a : ℕ) → Link
link_of number b a =
    let t = target (batch_of number b) a in
    record {
      from = a;
      to = t;
      there = entries number b a t;
      back = entries number b t a;
      turn = slice_index (batch_of number b).turns a;
    }

-- the links of all tasks
abbrev pub links_of : (number b : ℕ) → List Link
links_of number b = map (link_of number b) (numbers_below TASKS)

-- what a batch adds to a wire at most: a request, what is sent again, and an answer
abbrev pub most_added : ℕ
most_added = 3 * most_packets

-- the bounds of a link
pub record IsLink (link : Link) : Type 0 where
  pub from : link.from < TASKS
  pub to : link.to < TASKS
  pub there : link.there ≤ most_added * BATCHES
  pub back : link.back ≤ most_added * BATCHES
  pub turn : link.turn < most_packets

-- a worker takes the job of an active message and ends it
abbrev pub jobs : Kind → (t : ℕ) → List Line
jobs Am t = begin t ∷ end t ∷ []
jobs Put t = []
jobs Get t = []
jobs Rmw t = []

-- so many packets of a request that has more, from the link's turn on and from the first one again
abbrev pub deliveries_from_turn : Link → (packets count : ℕ) → List Line
deliveries_from_turn link packets count = map (λ j. deliver link.from link.to (link.there + (link.turn + j) % packets)) (numbers_below count)

-- what was lost is sent again, handed over and acknowledged
abbrev pub again : Batch → Link → List Line
again batch link =
    tick link.from ∷ deliver link.from link.to (link.there + requests batch) ∷ deliver link.to link.from (link.back + kept batch) ∷ []

-- the answer is handed over, and what acknowledges it
abbrev pub returns : Batch → Link → List Line
returns batch link =
    deliveries link.to link.from (link.back + requests batch) (answers batch)
    ++ deliveries link.from link.to (link.there + requests batch + batch.lost) (answers batch)

-- the lines of each part of a batch on one link
abbrev pub link_lines : Batch → Link → Part → List Line
link_lines batch link Steps = step link.from ∷ []
link_lines batch link Polls = poll link.from ∷ []
link_lines batch link Requests = deliveries_from_turn link (requests batch) (kept batch)
link_lines batch link Acknowledgements = deliveries link.to link.from link.back (kept batch)
link_lines batch link Again = cond (batch.lost == 1) (again batch link) []
link_lines batch link Jobs = jobs batch.kind link.to
link_lines batch link Answers = poll link.to ∷ []
link_lines batch link Returns = returns batch link

abbrev pub parts : List Part
parts = Steps ∷ Polls ∷ Requests ∷ Acknowledgements ∷ Again ∷ Jobs ∷ Answers ∷ Returns ∷ []

-- a part of batch b, for each task
abbrev pub part_lines : (number b : ℕ) → Part → List Line
part_lines number b part = flat_map (λ a. link_lines (batch_of number b) (link_of number b a) part) (numbers_below TASKS)

unfoldable pub batch_lines : (number b : ℕ) → List Line
batch_lines number b = flat_map (part_lines number b) parts

-- all batches
abbrev pub all_batch_lines : (number : ℕ) → List Line
all_batch_lines number = flat_map (batch_lines number) (numbers_below BATCHES)

-- the steps of a task's stores, and of all stores
abbrev pub store_steps : (a : ℕ) → List Line
store_steps a = replicate STORES (step a)

abbrev pub all_store_steps : List Line
all_store_steps = flat_map store_steps (numbers_below TASKS)

unfoldable pub schedule_of : (number : ℕ) → List Line
schedule_of number = all_store_steps ++ all_batch_lines number
