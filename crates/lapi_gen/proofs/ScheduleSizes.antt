-- How many entries wires have, and how many lines the parts of the generated schedule.
use Rattle.std.proofs.Common.{ℕ, ◌+◌, ◌*◌, ◌%◌, ◌<◌, ◌≤◌, Bool, true, false, cond, List, [], ◌∷◌, length, arith}
use Rattle.std.specs.Prelude.{◌==◌}
use Rattle.std.specs.List.{flat_map, sum_by}
use Rattle.std.proofs.lemmas.List.{length-append}
use Rattle.std.proofs.lemmas.List.Sums.{sum_by-cons}
use Rattle.lapi_base.specs.Record.Operations.{numbers_below}
use Rattle.lapi_base.proofs.ListLaws.{all-or}
use Rattle.lapi_base.proofs.UptoLaws.{length-over}
use Rattle.lapi_gen.specs.declared.form.TheConstants.{TASKS, STORES, BATCHES}
use Rattle.lapi_gen.specs.declared.kind.Kind.{Kind}
use Rattle.lapi_gen.specs.declared.kind.Kind.TheVariants.{Put, Get, Rmw, Am}
use Rattle.lapi_gen.specs.declared.batch.Batch.{Batch}
use Rattle.lapi_gen.specs.declared.link.Link.{Link}
use Rattle.lapi_gen.specs.declared.part.Part.{Part}
use Rattle.lapi_gen.specs.declared.part.Part.TheVariants.{Steps, Polls, Requests, Acknowledgements, Again, Jobs, Answers, Returns}
use Rattle.lapi_gen.specs.Batches.{most_packets, requests, kept, answers, target, batch_of, IsBatch}
use Rattle.lapi_gen.specs.Schedules.{most_added, IsLink, parts, adds_there, adds_back, adds, entries, link_of, deliveries, deliver, step, jobs, link_lines, part_lines, batch_lines, store_steps, schedule_of}
use Rattle.lapi_gen.proofs.Numbered.{length_flat, sum_few}
use Rattle.lapi_gen.proofs.Drawn.{batch_bounds, some_requests, few_requests, few_answers}

cond_few : (b : Bool) (x y m : ℕ) → x ≤ m → y ≤ m → cond b x y ≤ m
cond_few true x y m h g = h
cond_few false x y m h g = g

-- what a batch adds to a wire
few_adds : (drawn : Batch) (x y : ℕ) → IsBatch drawn → adds drawn x y ≤ most_added
few_adds drawn x y h =
    let s = few_requests drawn.kind drawn.len h.len in
    let a = few_answers drawn.kind drawn.len h.len in
    let l = h.lost in
    cond_few (y == target drawn x) (adds_there drawn) _ most_added (omega (arith, s, a, l)) (cond_few (x == target drawn y) (adds_back drawn) 0 most_added (omega (arith, s, a)) (omega arith))

few_entries : (number b x y : ℕ) → entries number b x y ≤ most_added * b
unfolding entries
few_entries number b x y = sum_few (λ c. adds (batch_of number c) x y) b most_added (λ c. few_adds (batch_of number c) x y (batch_bounds number c))

pub link_bounds : (number b a : ℕ) → b < BATCHES → a < TASKS → IsLink (link_of number b a)
link_bounds number b a lb la =
    let drawn = batch_of number b in
    let t = target drawn a in
    let bounds = batch_bounds number b in
    let turn = all-or (λ turn. turn < requests drawn) drawn.turns a 0 bounds.turns (some_requests drawn.kind drawn.len) in
    record {
      from = la;
      to = omega arith;
      there = omega (arith, few_entries number b a t);
      back = omega (arith, few_entries number b t a);
      turn = omega (arith, turn, few_requests drawn.kind drawn.len bounds.len);
    }

-- the most lines that a part has on a link
size : Part → ℕ
size Steps = 1
size Polls = 1
size Requests = most_packets
size Acknowledgements = most_packets
size Again = 3
size Jobs = 2
size Answers = 1
size Returns = 2 * most_packets

few_jobs : (kind : Kind) (t : ℕ) → length (jobs kind t) ≤ 2
few_jobs Put t = omega arith
few_jobs Get t = omega arith
few_jobs Rmw t = omega arith
few_jobs Am t = omega arith

few_if : {A : Type 0} (b : Bool) (xs : List A) (m : ℕ) → length xs ≤ m → length (cond b xs []) ≤ m
few_if true xs m h = h
few_if false xs m h = omega arith

few_lines : (drawn : Batch) (link : Link) (part : Part) → IsBatch drawn → length (link_lines drawn link part) ≤ size part
unfolding size
few_lines drawn link Steps h = omega arith
few_lines drawn link Polls h = omega arith
few_lines drawn link Requests h = omega (arith, length-over (λ j. deliver link.from link.to (link.there + (link.turn + j) % requests drawn)) (kept drawn), few_requests drawn.kind drawn.len h.len)
few_lines drawn link Acknowledgements h = omega (arith, length-over (λ j. deliver link.to link.from (link.back + j)) (kept drawn), few_requests drawn.kind drawn.len h.len)
few_lines drawn link Again h = few_if (drawn.lost == 1) _ 3 (omega arith)
few_lines drawn link Jobs h = few_jobs drawn.kind link.to
few_lines drawn link Answers h = omega arith
few_lines drawn link Returns h =
    let there = length-over (λ j. deliver link.to link.from (link.back + requests drawn + j)) (answers drawn) in
    let back = length-over (λ j. deliver link.from link.to (link.there + requests drawn + drawn.lost + j)) (answers drawn) in
    let both = length-append (deliveries link.to link.from (link.back + requests drawn) (answers drawn)) (deliveries link.from link.to (link.there + requests drawn + drawn.lost) (answers drawn)) in
    omega (arith, there, back, both, few_answers drawn.kind drawn.len h.len)

few_part : (number b : ℕ) (part : Part) → length (part_lines number b part) ≤ TASKS * size part
few_part number b part = length_flat (λ a. link_lines (batch_of number b) (link_of number b a) part) TASKS (size part) (λ a _. few_lines (batch_of number b) (link_of number b a) part (batch_bounds number b))

few_parts : (number b : ℕ) (ps : List Part) → length (flat_map (part_lines number b) ps) ≤ TASKS * sum_by size ps
few_parts number b [] = omega arith
few_parts number b (p ∷ ps) =
    let own = few_part number b p in
    let rest = few_parts number b ps in
    let both = length-append (part_lines number b p) (flat_map (part_lines number b) ps) in
    let sizes = sum_by-cons size p ps in
    omega (arith, own, rest, both, sizes)

few_batch : (number b : ℕ) → length (batch_lines number b) ≤ 360
unfolding size batch_lines
few_batch number b = few_parts number b parts

few_stores : (a : ℕ) → length (store_steps a) ≤ STORES
few_stores a = omega (arith, length-over (λ (_ : ℕ). step a) STORES)

pub few_in_schedule : (number : ℕ) → length (schedule_of number) ≤ 20000
unfolding schedule_of
few_in_schedule number =
    omega (arith, length_flat store_steps TASKS STORES (λ a _. few_stores a), length_flat (batch_lines number) BATCHES 360 (λ b _. few_batch number b), length-append (flat_map store_steps (numbers_below TASKS)) (flat_map (batch_lines number) (numbers_below BATCHES)))
