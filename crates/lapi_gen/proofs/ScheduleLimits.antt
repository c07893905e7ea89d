-- The generated schedule is valid.
use Rattle.std.proofs.Common.{◌≡◌, ℕ, ◌+◌, ◌%◌, ◌<◌, ◌≤◌, Bool, true, false, cond, List, [], ◌∷◌, length, refl, sym, subst, arith}
use Rattle.std.specs.Prelude.{◌==◌}
use Rattle.std.specs.List.{AllByRecursion, flat_map}
use Rattle.lapi_base.specs.declared.script.Script.{Script}
use Rattle.lapi_base.specs.declared.schedule.Line.{Line}
use Rattle.lapi_base.specs.Packet.Layout.{layout_of, most_lines}
use Rattle.lapi_base.specs.Packet.Spelling.{spells_packet}
use Rattle.lapi_base.specs.Record.Operations.{numbers_below}
use Rattle.lapi_base.specs.Record.Valid.{ValidLine, ValidSchedule}
use Rattle.lapi_base.proofs.ListLaws.{all-append}
use Rattle.lapi_gen.specs.declared.form.TheConstants.{LAYOUT, TASKS, WORKERS, BATCHES}
use Rattle.lapi_gen.specs.declared.kind.Kind.{Kind}
use Rattle.lapi_gen.specs.declared.kind.Kind.TheVariants.{Put, Get, Rmw, Am}
use Rattle.lapi_gen.specs.declared.batch.Batch.{Batch}
use Rattle.lapi_gen.specs.declared.link.Link.{Link}
use Rattle.lapi_gen.specs.declared.part.Part.{Part}
use Rattle.lapi_gen.specs.declared.part.Part.TheVariants.{Steps, Polls, Requests, Acknowledgements, Again, Jobs, Answers, Returns}
use Rattle.lapi_gen.specs.Batches.{requests, kept, answers, batch_of, IsBatch}
use Rattle.lapi_gen.specs.Scripts.{script_of}
use Rattle.lapi_gen.specs.Schedules.{IsLink, link_of, deliveries, deliver, step, jobs, link_lines, part_lines, batch_lines, store_steps, schedule_of}
use Rattle.lapi_gen.proofs.Numbered.{all_map, all_flat}
use Rattle.lapi_gen.proofs.Drawn.{batch_bounds, few_requests, few_answers, some_requests}
use Rattle.lapi_gen.proofs.ScheduleSizes.{link_bounds, few_in_schedule}

module _ (script : Script) (spells : List ℕ → Bool) (layout : script.layout ≡ LAYOUT) (tasks : script.tasks ≡ TASKS) (workers : script.workers ≡ WORKERS) where
  if_valid : (b : Bool) (xs : List Line) → AllByRecursion (ValidLine script spells) xs → AllByRecursion (ValidLine script spells) (cond b xs [])
  if_valid true xs h = h
  if_valid false xs h = tt

  deliver_valid : (a b k : ℕ) → a < TASKS → b < TASKS → k < 3000 → ValidLine script spells (deliver a b k)
  deliver_valid a b k la lb lk = (omega arith, (omega (arith, tasks), omega (arith, tasks), omega arith))

  deliveries_valid : (a b first many : ℕ) → a < TASKS → b < TASKS → first + many < 3000 → AllByRecursion (ValidLine script spells) (deliveries a b first many)
  deliveries_valid a b first many la lb l = all_map (ValidLine script spells) (λ j. deliver a b (first + j)) many (λ j lt. deliver_valid a b (first + j) la lb (omega arith))

  jobs_valid : (kind : Kind) (t : ℕ) → t < TASKS → AllByRecursion (ValidLine script spells) (jobs kind t)
  jobs_valid Put t l = tt
  jobs_valid Get t l = tt
  jobs_valid Rmw t l = tt
  jobs_valid Am t l = ((omega arith, (omega (arith, tasks), omega (arith, workers))), ((omega arith, (omega (arith, tasks), omega (arith, workers))), tt))

  part_valid_on_link : (drawn : Batch) (link : Link) (part : Part) → IsBatch drawn → IsLink link → 0 < requests drawn → AllByRecursion (ValidLine script spells) (link_lines drawn link part)
  part_valid_on_link drawn link Steps h l some = ((omega (arith, l.from), omega (arith, l.from, tasks)), tt)
  part_valid_on_link drawn link Polls h l some = ((omega (arith, l.from), omega (arith, l.from, tasks)), tt)
  part_valid_on_link drawn link Requests h l some =
      let few = few_requests drawn.kind drawn.len h.len in
      all_map (ValidLine script spells) (λ j. deliver link.from link.to (link.there + (link.turn + j) % requests drawn)) (kept drawn)
      (λ j lt. deliver_valid link.from link.to (link.there + (link.turn + j) % requests drawn) l.from l.to (let m : (link.turn + j) % requests drawn < requests drawn = omega (arith, some) in omega (arith, m, few, l.there)))
  part_valid_on_link drawn link Acknowledgements h l some = deliveries_valid link.to link.from link.back (kept drawn) l.to l.from (omega (arith, few_requests drawn.kind drawn.len h.len, l.back))
  part_valid_on_link drawn link Again h l some =
      let few = few_requests drawn.kind drawn.len h.len in
      if_valid (drawn.lost == 1) _ (
        (omega (arith, l.from), omega (arith, l.from, tasks)),
        (
          deliver_valid link.from link.to (link.there + requests drawn) l.from l.to (omega (arith, few, l.there)),
          (deliver_valid link.to link.from (link.back + kept drawn) l.to l.from (omega (arith, few, l.back)), tt),
        ),
      )
  part_valid_on_link drawn link Jobs h l some = jobs_valid drawn.kind link.to l.to
  part_valid_on_link drawn link Answers h l some = ((omega (arith, l.to), omega (arith, l.to, tasks)), tt)
  part_valid_on_link drawn link Returns h l some =
      let few = few_requests drawn.kind drawn.len h.len in
      let more = few_answers drawn.kind drawn.len h.len in
      all-append (ValidLine script spells) (deliveries link.to link.from (link.back + requests drawn) (answers drawn)) _
      (deliveries_valid link.to link.from (link.back + requests drawn) (answers drawn) l.to l.from (omega (arith, few, more, l.back)))
      (deliveries_valid link.from link.to (link.there + requests drawn + drawn.lost) (answers drawn) l.from l.to (omega (arith, few, more, l.there, h.lost)))

  part_valid : (number b : ℕ) (part : Part) → b < BATCHES → AllByRecursion (ValidLine script spells) (part_lines number b part)
  part_valid number b part lb =
      all_flat (ValidLine script spells) (λ a. link_lines (batch_of number b) (link_of number b a) part) TASKS
      (λ a la. part_valid_on_link (batch_of number b) (link_of number b a) part (batch_bounds number b) (link_bounds number b a lb la) (some_requests (batch_of number b).kind (batch_of number b).len))

  parts_valid : (number b : ℕ) (parts : List Part) → b < BATCHES → AllByRecursion (ValidLine script spells) (flat_map (part_lines number b) parts)
  parts_valid number b [] lb = tt
  parts_valid number b (part ∷ parts) lb = all-append (ValidLine script spells) (part_lines number b part) (flat_map (part_lines number b) parts) (part_valid number b part lb) (parts_valid number b parts lb)

  batch_valid : (number b : ℕ) → b < BATCHES → AllByRecursion (ValidLine script spells) (batch_lines number b)
  unfolding batch_lines
  batch_valid number b lb = parts_valid number b (Steps ∷ Polls ∷ Requests ∷ Acknowledgements ∷ Again ∷ Jobs ∷ Answers ∷ Returns ∷ []) lb

  stores_valid : (a : ℕ) → a < TASKS → AllByRecursion (ValidLine script spells) (store_steps a)
  stores_valid a la =
      let one : ValidLine script spells (step a) = (omega (arith, la), omega (arith, la, tasks)) in
      (one, (one, (one, (one, tt))))

  lines_valid : (number : ℕ) → AllByRecursion (ValidLine script spells) (schedule_of number)
  unfolding schedule_of
  lines_valid number =
      all-append (ValidLine script spells) (flat_map store_steps (numbers_below TASKS)) (flat_map (batch_lines number) (numbers_below BATCHES))
      (all_flat (ValidLine script spells) store_steps TASKS stores_valid)
      (all_flat (ValidLine script spells) (batch_lines number) BATCHES (λ b lb. batch_valid number b lb))

  valid_for : (number : ℕ) → ValidSchedule script spells (schedule_of number)
  valid_for number = record { count = subst (λ n. length (schedule_of number) ≤ most_lines (layout_of n)) (sym layout) (few_in_schedule number); lines = lines_valid number }

pub valid_schedule : (number : ℕ) → ValidSchedule (script_of number) spells_packet (schedule_of number)
unfolding script_of
valid_schedule number = valid_for (script_of number) spells_packet refl refl refl number
