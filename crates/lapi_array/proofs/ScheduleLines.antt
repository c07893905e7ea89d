-- The lines of a plan's schedule, as they grow.
use Rattle.std.proofs.Common.{◌≡◌, ℕ, zero, suc, ◌+◌, ◌-◌, ◌<◌, ◌==◌, Bool, true, false, cond, List, [], ◌∷◌, ◌++◌, length, slice_get, Some, refl, sym, ap, ◌∙◌, append_assoc, arith}
use Rattle.std.proofs.lemmas.Bool.{cond-true, cond-false, eq-eqb, ne_eqb}
use Rattle.std.proofs.lemmas.List.{append-nil, length-append, length-map, length_push}
use Rattle.lapi_base.specs.declared.schedule.Act.{Act}
use Rattle.lapi_base.specs.declared.schedule.Act.TheVariants.{Step, Poll, Deliver}
use Rattle.lapi_base.specs.Record.Below.{below}
use Rattle.lapi_flush.specs.Served.{delivers}
use Rattle.lapi_flush.specs.Counted.{Counts, counted_part, counted_links, counted_sweep, sweeps_counts, some_steps, steps_each}
use Rattle.lapi_blocks.specs.declared.plan.Op.{Op}
use Rattle.lapi_blocks.specs.declared.plan.Plan.{Plan}
use Rattle.lapi_blocks.specs.Plans.{patch_of, tasks_of, part_of, is_nonempty, stores, owners, own_statements, op_statements}
use Rattle.lapi_blocks.specs.PlanCounts.{counted_acts, plan_counts}
use Rattle.lapi_array.specs.Counting.{new_of, calls_of, counts_at, flush_lines, lines_of_sweep, lines_of_round}

next : (n : ℕ) → n + 1 ≡ suc n
next n = omega arith

-- steps
pub no_steps : (front : List Act) (a : ℕ) → front ≡ front ++ some_steps a 0
unfolding some_steps
no_steps front a = sym (append-nil front)

pub one_step : (front : List Act) (a n : ℕ) → (front ++ some_steps a n) ++ Step a ∷ [] ≡ front ++ some_steps a (n + 1)
unfolding some_steps
one_step front a n = append_assoc front (some_steps a n) (Step a ∷ []) ∙ ap (λ m. front ++ some_steps a m) (sym (next n))

pub no_tasks : (front : List Act) (many : ℕ → ℕ) → front ≡ front ++ steps_each many 0
unfolding steps_each
no_tasks front many = sym (append-nil front)

pub one_task : (front : List Act) (many : ℕ → ℕ) (a : ℕ) → (front ++ steps_each many a) ++ some_steps a (many a) ≡ front ++ steps_each many (a + 1)
unfolding steps_each
one_task front many a = append_assoc front (steps_each many a) (some_steps a (many a)) ∙ ap (λ m. front ++ steps_each many m) (sym (next a))

-- deliveries
pub none_delivered : (front : List Act) (a b first : ℕ) → front ≡ front ++ delivers a b first 0
unfolding delivers
none_delivered front a b first = sym (append-nil front)

pub one_delivered : (front : List Act) (a b first n : ℕ) → (front ++ delivers a b first n) ++ Deliver a b (first + n) ∷ [] ≡ front ++ delivers a b first (n + 1)
unfolding delivers
one_delivered front a b first n = append_assoc front (delivers a b first n) (Deliver a b (first + n) ∷ []) ∙ ap (λ m. front ++ delivers a b first m) (sym (next n))

pub empty_part : (front : List Act) (a b first back : ℕ) → front ≡ front ++ counted_part a b first back 0
empty_part front a b first back = sym (append-nil front)

pub whole_part : (front : List Act) (a b first back count : ℕ) → 0 < count → (front ++ delivers a b first count) ++ Deliver b a (back + (count - 1)) ∷ [] ≡ front ++ counted_part a b first back count
whole_part front a b first back zero l = absurd (omega arith)
whole_part front a b first back (suc last) l =
    let e : suc last - 1 ≡ last = omega arith in
    append_assoc front (delivers a b first (suc last)) (Deliver b a (back + (suc last - 1)) ∷ [])
    ∙ ap (λ n. front ++ (delivers a b first (suc last) ++ Deliver b a (back + n) ∷ [])) e

-- links
pub polled_first : (front : List Act) (counts : Counts) (t : ℕ) (new : ℕ → ℕ) → front ++ Poll t ∷ [] ≡ front ++ (Poll t ∷ counted_links counts t new 0)
unfolding counted_links
polled_first front counts t new = refl

pub one_link : (front : List Act) (counts : Counts) (t : ℕ) (new : ℕ → ℕ) (b : ℕ)
    → (front ++ (Poll t ∷ counted_links counts t new b)) ++ counted_part t b (counts t b) (counts b t + cond (b == t) (new b) 0) (new b)
    ≡ front ++ (Poll t ∷ counted_links counts t new (b + 1))
unfolding counted_links
one_link front counts t new b =
    append_assoc front (Poll t ∷ counted_links counts t new b) (counted_part t b (counts t b) (counts b t + cond (b == t) (new b) 0) (new b))
    ∙ ap (λ m. front ++ (Poll t ∷ counted_links counts t new m)) (sym (next b))

-- flushes
pub no_flush : (front : List Act) (plan : Plan) (k s : ℕ) → front ≡ front ++ counted_sweep (tasks_of plan) (sweeps_counts (tasks_of plan) (plan_counts plan k) (new_of plan k) s) (new_of plan k s) 0
unfolding counted_sweep
no_flush front plan k s = sym (append-nil front)

pub one_flush : (front : List Act) (plan : Plan) (k s t : ℕ)
    → (front ++ counted_sweep (tasks_of plan) (sweeps_counts (tasks_of plan) (plan_counts plan k) (new_of plan k) s) (new_of plan k s) t) ++ flush_lines plan k s t
    ≡ front ++ counted_sweep (tasks_of plan) (sweeps_counts (tasks_of plan) (plan_counts plan k) (new_of plan k) s) (new_of plan k s) (t + 1)
unfolding counted_sweep flush_lines counts_at
one_flush front plan k s t =
    let c = sweeps_counts (tasks_of plan) (plan_counts plan k) (new_of plan k) s in
    append_assoc front (counted_sweep (tasks_of plan) c (new_of plan k s) t) _
    ∙ ap (λ m. front ++ counted_sweep (tasks_of plan) c (new_of plan k s) m) (sym (next t))

-- a round
pub whole_round : (front a b c d e f g : List Act) (plan : Plan) (k : ℕ)
    → a ≡ front ++ steps_each (calls_of plan k) (tasks_of plan) → b ≡ a ++ lines_of_sweep plan k 0 → c ≡ b ++ lines_of_sweep plan k 1
    → d ≡ c ++ steps_each (λ t. 1) (tasks_of plan) → e ≡ d ++ lines_of_sweep plan k 2 → f ≡ e ++ lines_of_sweep plan k 3
    → g ≡ f ++ steps_each (λ t. 1) (tasks_of plan) → g ≡ front ++ lines_of_round plan k
unfolding lines_of_round lines_of_sweep
whole_round front a b c d e f g plan k ea eb ec ed ee ef eg =
    let calls = steps_each (calls_of plan k) (tasks_of plan) in
    let fences = steps_each (λ t. 1) (tasks_of plan) in
    let s0 = lines_of_sweep plan k 0 in
    let s1 = lines_of_sweep plan k 1 in
    let s2 = lines_of_sweep plan k 2 in
    let s3 = lines_of_sweep plan k 3 in
    let ab : c ≡ front ++ (calls ++ (s0 ++ s1)) = ec ∙ ap (λ x. x ++ s1) (eb ∙ ap (λ x. x ++ s0) ea ∙ append_assoc front calls s0) ∙ append_assoc front (calls ++ s0) s1 ∙ ap (λ x. front ++ x) (append_assoc calls s0 s1) in
    let two = calls ++ (s0 ++ s1) in
    let cd : d ≡ front ++ (two ++ fences) = ed ∙ ap (λ x. x ++ fences) ab ∙ append_assoc front two fences in
    let three = two ++ fences in
    let ef' : f ≡ front ++ (three ++ (s2 ++ s3)) = ef ∙ ap (λ x. x ++ s3) (ee ∙ ap (λ x. x ++ s2) cd ∙ append_assoc front three s2) ∙ append_assoc front (three ++ s2) s3 ∙ ap (λ x. front ++ x) (append_assoc three s2 s3) in
    eg ∙ ap (λ x. x ++ fences) ef' ∙ append_assoc front (three ++ (s2 ++ s3)) fences

pub no_rounds : (plan : Plan) → [] ≡ counted_acts plan 0
unfolding counted_acts
no_rounds plan = refl

pub one_round : (plan : Plan) (k : ℕ) → counted_acts plan k ++ lines_of_round plan k ≡ counted_acts plan (k + 1)
unfolding counted_acts lines_of_round calls_of
one_round plan k = ap (counted_acts plan) (sym (next k))

-- calls
pub own_calls : (plan : Plan) (k : ℕ) (op : Op) (t n : ℕ) → slice_get plan.ops k ≡ Some op → (patch_of op).task ≡ t → n ≡ length (own_statements plan k op) → n ≡ calls_of plan k t
unfolding calls_of
own_calls plan k op t n there is e =
    e ∙ ap length (sym (ap (λ o. op_statements plan k o t) there ∙ cond-true (t == (patch_of op).task) (own_statements plan k op) [] (eq-eqb t (patch_of op).task (sym is))))

pub other_calls : (plan : Plan) (k : ℕ) (op : Op) (t : ℕ) → slice_get plan.ops k ≡ Some op → ((patch_of op).task ≡ t → ⊥) → 0 ≡ calls_of plan k t
unfolding calls_of
other_calls plan k op t there no_op =
    ap length (sym (ap (λ o. op_statements plan k o t) there ∙ cond-false (t == (patch_of op).task) (own_statements plan k op) [] (ne_eqb t (patch_of op).task (λ e. no_op (sym e)))))

-- how many parts the first tasks own
module _ (plan : Plan) (op : Op) where
  owns : ℕ → Bool
  owns t = is_nonempty (part_of plan (patch_of op) t)

  unfoldable pub parts_below : ℕ → ℕ
  parts_below n = length (below n (λ t. is_nonempty (part_of plan (patch_of op) t)))

  pub no_part : parts_below 0 ≡ 0
  unfolding parts_below below
  no_part = refl

  pub part_owned : (n : ℕ) → is_nonempty (part_of plan (patch_of op) n) ≡ true → parts_below (n + 1) ≡ parts_below n + 1
  unfolding parts_below below owns
  part_owned n some =
      ap parts_below (next n) ∙ ap length (cond-true (owns n) (below n owns ++ n ∷ []) (below n owns) some) ∙ length_push (below n owns) n

  pub part_not_owned : (n : ℕ) → is_nonempty (part_of plan (patch_of op) n) ≡ false → parts_below (n + 1) ≡ parts_below n
  unfolding parts_below below owns
  part_not_owned n none = ap parts_below (next n) ∙ ap length (cond-false (owns n) (below n owns ++ n ∷ []) (below n owns) none)

  pub all_counted : (k : ℕ) → length (own_statements plan k op) ≡ length (stores k op) + parts_below (tasks_of plan)
  unfolding parts_below owners
  all_counted k = length-append (stores k op) _ ∙ ap (λ n. length (stores k op) + n) (length-map (owners plan (patch_of op)) _)

-- ---- what the code adds, by what it has at hand

pub link_added : (front lines new_lines : List Act) (counts : Counts) (t : ℕ) (new : ℕ → ℕ) (b first behind n : ℕ)
    → lines ≡ front ++ (Poll t ∷ counted_links counts t new b) → first ≡ counts t b → behind ≡ counts b t + cond (b == t) n 0 → n ≡ new b
    → new_lines ≡ lines ++ counted_part t b first behind n
    → new_lines ≡ front ++ (Poll t ∷ counted_links counts t new (b + 1))
link_added front lines new_lines counts t new b first behind n e ef eb en added =
    added
    ∙ (λ i. e i ++ counted_part t b (ef i) ((eb ∙ ap (λ m. counts b t + cond (b == t) m 0) en) i) (en i))
    ∙ one_link front counts t new b

pub whole_flush : (front lines : List Act) (plan : Plan) (k s t : ℕ) → lines ≡ front ++ (Poll t ∷ counted_links (counts_at plan k s t) t (new_of plan k s t) (tasks_of plan)) → lines ≡ front ++ flush_lines plan k s t
unfolding flush_lines
whole_flush front lines plan k s t e = e

pub whole_sweep : (front lines : List Act) (plan : Plan) (k s : ℕ) → lines ≡ front ++ counted_sweep (tasks_of plan) (sweeps_counts (tasks_of plan) (plan_counts plan k) (new_of plan k) s) (new_of plan k s) (tasks_of plan) → lines ≡ front ++ lines_of_sweep plan k s
unfolding lines_of_sweep
whole_sweep front lines plan k s e = e
