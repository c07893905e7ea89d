-- How many entries the wires have where a plan's schedule has come to: as many as are counted, and few.
use Rattle.std.proofs.Common.{◌≡◌, ℕ, zero, suc, ◌+◌, ◌-◌, ◌*◌, ◌/◌, ◌<◌, ◌≤◌, ◌==◌, Bool, true, false, cond, ◌&&◌, length, refl, sym, ap, ◌∙◌, subst, ⊎_elim, arith, ◌^◌}
use Rattle.std.specs.Prelude.{nat_lt, min, max}
use Rattle.std.proofs.lemmas.Bool.{cases_lt, lt-ltb, le-ltb, eq-eqb, ne_eqb}
use Rattle.std.proofs.lemmas.Nat.{mul-le}
use Rattle.lapi_base.specs.Packet.Layout.{First, unit}
use Rattle.lapi_base.specs.Record.Fragments.{fragments_in}
use Rattle.lapi_base.proofs.ListLaws.{get-some}
use Rattle.lapi_flush.specs.Counted.{Counts, flushed_counts, swept_counts, sweeps_counts}
use Rattle.lapi_blocks.specs.declared.plan.Op.{Op}
use Rattle.lapi_blocks.specs.declared.plan.Op.TheVariants.{Set, Get}
use Rattle.lapi_blocks.specs.declared.plan.Plan.{Plan}
use Rattle.lapi_blocks.specs.declared.patch.Patch.{Patch}
use Rattle.lapi_blocks.specs.Plans.{ValidPlan, patch_of, tasks_of, part_of, is_nonempty, block_row, block_col}
use Rattle.lapi_blocks.specs.PlanCounts.{part_numbers, call_numbers, answer_numbers, going, coming, added_by, added, plan_counts}
use Rattle.lapi_array.specs.Counting.{new_of, counts_at, Stand, IsAt}
use Rattle.lapi_array.specs.Parts.{IsOp}
use Rattle.lapi_array.proofs.PartPlaces.{op_lies}

next : (n : ℕ) → n + 1 ≡ suc n
next n = omega arith

-- ---- few numbers

less : (row rows low size : ℕ) → min (row + rows) (low + size) - max row low ≤ rows
less row rows low size = omega arith

pub few_words : (plan : Plan) (k : ℕ) (op : Op) (w : ℕ) → IsOp plan k op → (part_of plan (patch_of op) w).rows * (part_of plan (patch_of op) w).cols ≤ 256
few_words plan k op w is =
    let p = patch_of op in
    let part = part_of plan p w in
    let less_words = mul-le part.rows part.cols p.rows p.cols (less p.row p.rows (block_row plan w) plan.height) (less p.col p.cols (block_col plan w) plan.width) in
    omega (arith, less_words, (op_lies plan k op is).words.1)

few_part : (part : Patch) → part.rows * part.cols ≤ 256 → part_numbers part ≤ 4
few_part part l = four (part.rows * part.cols) l
  where
    four : (n : ℕ) → n ≤ 256 → max 1 ((4 * n + (256 - 1)) / 256) ≤ 4
    four n l = omega arith

few_call : (op : Op) (part : Patch) → part.rows * part.cols ≤ 256 → call_numbers op part ≤ 4
few_call (Set task row col rows cols values) part l = few_part part l
few_call (Get task row col rows cols) part l = omega arith

few_answer : (op : Op) (part : Patch) → part.rows * part.cols ≤ 256 → answer_numbers op part ≤ 4
few_answer (Set task row col rows cols values) part l = omega arith
few_answer (Get task row col rows cols) part l = few_part part l

pub only_few : (c : Bool) (n m : ℕ) → n ≤ m → cond c n 0 ≤ m
only_few true n m l = l
only_few false n m l = omega arith

few_going : (plan : Plan) (k : ℕ) (op : Op) (a b : ℕ) → IsOp plan k op → going plan op a b ≤ 4
few_going plan k op a b is = only_few (a == (patch_of op).task && is_nonempty (part_of plan (patch_of op) b)) _ 4 (few_call op (part_of plan (patch_of op) b) (few_words plan k op b is))

few_coming : (plan : Plan) (k : ℕ) (op : Op) (a b : ℕ) → IsOp plan k op → coming plan op a b ≤ 4
few_coming plan k op a b is = only_few (b == (patch_of op).task && is_nonempty (part_of plan (patch_of op) a)) _ 4 (few_answer op (part_of plan (patch_of op) a) (few_words plan k op a is))

few_by : (plan : Plan) (k : ℕ) (op : Op) (s a b : ℕ) → IsOp plan k op → added_by plan op s a b ≤ 8
few_by plan k op zero a b is = let g = few_going plan k op a b is in let c = only_few (nat_lt (patch_of op).task a) (coming plan op a b) 4 (few_coming plan k op a b is) in omega (arith, g, c)
few_by plan k op (suc zero) a b is = turned (nat_lt (patch_of op).task a) (coming plan op a b) (few_coming plan k op a b is)
  where
    turned : (c : Bool) (n : ℕ) → n ≤ 4 → cond c 0 n ≤ 8
    turned true n l = omega arith
    turned false n l = omega arith
few_by plan k op (suc (suc zero)) a b is = turned (b == a)
  where
    turned : (c : Bool) → cond c 0 (fragments_in (unit First) 0) ≤ 8
    turned true = omega arith
    turned false = omega arith
few_by plan k op (suc (suc (suc s))) a b is = omega arith

pub few_new : (plan : Plan) (k s a b : ℕ) → ValidPlan plan → k < length plan.ops → new_of plan k s a b ≤ 8
few_new plan k s a b valid lk =
    let got = get-some plan.ops k lk in
    subst (λ o. added plan o s a b ≤ 8) (sym got.1) (few_by plan k got.0 s a b (record { valid = valid; there = got.1 }))

-- ---- few entries

swept_few : (counts : Counts) (new : ℕ → ℕ → ℕ) → ((a b : ℕ) → new a b ≤ 8) → (n x y : ℕ) → swept_counts counts new n x y ≤ counts x y + 16 * n
unfolding swept_counts
swept_few counts new h zero x y = omega arith
swept_few counts new h (suc t) x y =
    let old = swept_few counts new h t x y in
    let a = only_few (x == t) (new t y) 8 (h t y) in
    let b = only_few (y == t) (new t x) 8 (h t x) in
    omega (arith, old, a, b)

sweeps_few : (tasks : ℕ) (counts : Counts) (new : ℕ → ℕ → ℕ → ℕ) → tasks ≤ 8 → ((s a b : ℕ) → new s a b ≤ 8) → (n x y : ℕ) → sweeps_counts tasks counts new n x y ≤ counts x y + 128 * n
unfolding sweeps_counts
sweeps_few tasks counts new lt h zero x y = omega arith
sweeps_few tasks counts new lt h (suc s) x y =
    let old = sweeps_few tasks counts new lt h s x y in
    let one = swept_few (sweeps_counts tasks counts new s) (new s) (h s) tasks x y in
    omega (arith, old, one, lt)

plan_few : (plan : Plan) → ValidPlan plan → (n x y : ℕ) → n ≤ length plan.ops → plan_counts plan n x y ≤ 512 * n
unfolding plan_counts
plan_few plan valid zero x y l = omega arith
plan_few plan valid (suc k) x y l =
    let lk : k < length plan.ops = omega (arith, l) in
    let old = plan_few plan valid k x y (omega (arith, l)) in
    let one = sweeps_few (tasks_of plan) (plan_counts plan k) (new_of plan k) valid.tasks.1 (λ s a b. few_new plan k s a b valid lk) 4 x y in
    omega (arith, old, one)

pub few_counts : (plan : Plan) (k s t x y : ℕ) (counts : Counts) → IsAt plan k s t counts → counts_at plan k s t x y ≤ 32768
unfolding counts_at
few_counts plan k s t x y counts is =
    let lk = is.round in
    let base = plan_few plan is.valid k x y (omega (arith, lk)) in
    let sweeps = sweeps_few (tasks_of plan) (plan_counts plan k) (new_of plan k) is.valid.tasks.1 (λ s a b. few_new plan k s a b is.valid lk) s x y in
    let flushes = swept_few (sweeps_counts (tasks_of plan) (plan_counts plan k) (new_of plan k) s) (new_of plan k s) (λ a b. few_new plan k s a b is.valid lk) t x y in
    omega (arith, base, sweeps, flushes, lk, is.valid.count, is.sweep, is.task, is.valid.tasks.1)

pub few_entries : (plan : Plan) (k s t x y : ℕ) (counts : Counts) → IsAt plan k s t counts → x < tasks_of plan → y < tasks_of plan → counts x y ≤ 32768
few_entries plan k s t x y counts is lx ly = subst (λ n. n ≤ 32768) (sym (is.stand x y lx ly)) (few_counts plan k s t x y counts is)

-- ---- where a flush was counted for some of its links

unfoldable pub partly : Counts → (t : ℕ) (new : ℕ → ℕ) (n : ℕ) → Counts
partly counts t new n x y = (counts x y + cond (x == t && nat_lt y n) (new y) 0) + cond (y == t && nat_lt x n) (new x) 0

without : (c : Bool) (y : ℕ) (m : ℕ) → cond (c && nat_lt y 0) m 0 ≡ 0
without true y m = ap (λ d. cond d m 0) (le-ltb y 0 (let q : 0 ≤ y = omega arith in q))
without false y m = refl

pub partly_none : (counts : Counts) (t : ℕ) (new : ℕ → ℕ) (x y : ℕ) → partly counts t new 0 x y ≡ counts x y
unfolding partly
partly_none counts t new x y = let a = without (x == t) y (new y) in let b = without (y == t) x (new x) in omega (arith, a, b)

one_more : (c : Bool) (y n : ℕ) (new : ℕ → ℕ) → cond (c && nat_lt y n) (new y) 0 + cond (c && y == n) (new n) 0 ≡ cond (c && nat_lt y (n + 1)) (new y) 0
one_more false y n new = let q : 0 + 0 ≡ 0 = omega arith in q
one_more true y n new =
    ⊎_elim
    (λ (lt : y < n). rw (lt-ltb y n lt, lt-ltb y (n + 1) (omega (arith, lt)), ne_eqb y n (λ e. omega (arith, e, lt))) (omega arith))
    (λ (ge : n ≤ y).
    ⊎_elim
    (λ (le : y < n + 1). let is : y ≡ n = omega (arith, le, ge) in rw (le-ltb y n ge, lt-ltb y (n + 1) le, eq-eqb y n is) (let z = ap new is in omega (arith, z)))
    (λ (gt : n + 1 ≤ y). rw (le-ltb y n ge, le-ltb y (n + 1) gt, ne_eqb y n (λ e. omega (arith, e, gt))) (omega arith))
    (cases_lt y (n + 1)))
    (cases_lt y n)

and-swap : (a b : Bool) → (a && b) ≡ (b && a)
and-swap true true = refl
and-swap true false = refl
and-swap false true = refl
and-swap false false = refl

pub partly_more : (counts : Counts) (t : ℕ) (new : ℕ → ℕ) (n x y old mid now m : ℕ) → old ≡ partly counts t new n x y → m ≡ new n
    → mid ≡ old + cond (x == t && y == n) m 0 → now ≡ mid + cond (x == n && y == t) m 0 → now ≡ partly counts t new (n + 1) x y
unfolding partly
partly_more counts t new n x y old mid now m eo em e1 e2 =
    let a = one_more (x == t) y n new in
    let b = one_more (y == t) x n new in
    let f = ap (λ v. cond (x == t && y == n) v 0) em in
    let g = ap (λ v. cond (x == n && y == t) v 0) em ∙ ap (λ c. cond c (new n) 0) (and-swap (x == n) (y == t)) in
    sums _ _ _ _ _ _ _ _ _ _ _ eo e1 e2 f g a b
  where
    sums : (c p q old mid now u v u' v' p' : ℕ) {q' : ℕ} → old ≡ (c + p) + q → mid ≡ old + u → now ≡ mid + v → u ≡ u' → v ≡ v' → p + u' ≡ p' → q + v' ≡ q' → now ≡ (c + p') + q'
    sums c p q old mid now u v u' v' p' a b d e f g h = omega arith

and-true : (c : Bool) → (c && true) ≡ c
and-true true = refl
and-true false = refl

pub partly_all : (counts : Counts) (t : ℕ) (new : ℕ → ℕ) (n x y : ℕ) → x < n → y < n → partly counts t new n x y ≡ flushed_counts counts t new x y
unfolding partly
partly_all counts t new n x y lx ly =
    let a = ap (λ d. x == t && d) (lt-ltb y n ly) ∙ and-true (x == t) in
    let b = ap (λ d. y == t && d) (lt-ltb x n lx) ∙ and-true (y == t) in
    λ i. (counts x y + cond (a i) (new y) 0) + cond (b i) (new x) 0

pub few_partly : (counts : Counts) (t : ℕ) (new : ℕ → ℕ) (n x y : ℕ) → ((b : ℕ) → new b ≤ 8) → counts x y ≤ 32768 → partly counts t new n x y ≤ 32784
unfolding partly
few_partly counts t new n x y h l =
    let a = only_few (x == t && nat_lt y n) (new y) 8 (h y) in
    let b = only_few (y == t && nat_lt x n) (new x) 8 (h x) in
    omega (arith, a, b, l)

-- ---- from place to place

pub next_task : (plan : Plan) (k s t x y : ℕ) → flushed_counts (counts_at plan k s t) t (new_of plan k s t) x y ≡ counts_at plan k s (t + 1) x y
unfolding counts_at swept_counts
next_task plan k s t x y = ap (λ n. swept_counts (sweeps_counts (tasks_of plan) (plan_counts plan k) (new_of plan k) s) (new_of plan k s) n x y) (sym (next t))

pub next_sweep : (plan : Plan) (k s x y : ℕ) → counts_at plan k s (tasks_of plan) x y ≡ counts_at plan k (s + 1) 0 x y
unfolding counts_at sweeps_counts swept_counts
next_sweep plan k s x y = ap (λ n. sweeps_counts (tasks_of plan) (plan_counts plan k) (new_of plan k) n x y) (sym (next s))

pub next_round : (plan : Plan) (k x y : ℕ) → counts_at plan k 4 0 x y ≡ counts_at plan (k + 1) 0 0 x y
unfolding counts_at sweeps_counts swept_counts plan_counts
next_round plan k x y = ap (λ n. plan_counts plan n x y) (sym (next k))

pub at_start : (plan : Plan) (x y : ℕ) → counts_at plan 0 0 0 x y ≡ 0
unfolding counts_at sweeps_counts swept_counts plan_counts
at_start plan x y = refl

-- ---- room for what a flush adds

module _ (plan : Plan) (k s t : ℕ) (counts entries : Counts) (is : IsAt plan k s t counts) (lt : t < tasks_of plan) (o : ℕ) (lo : o < tasks_of plan)
    (now : (x y : ℕ) → x < tasks_of plan → y < tasks_of plan → entries x y ≡ partly (counts_at plan k s t) t (new_of plan k s t) o x y) where
  few_now : (x y : ℕ) → x < tasks_of plan → y < tasks_of plan → entries x y ≤ 32784
  few_now x y lx ly =
      subst (λ n. n ≤ 32784) (sym (now x y lx ly))
      (few_partly (counts_at plan k s t) t (new_of plan k s t) o x y (λ b. few_new plan k s t b is.valid is.round) (few_counts plan k s t x y counts is))

  pub room_to : (m : ℕ) → m ≤ 8 → entries t o + m < 2 ^ 32
  room_to m l = let few = few_now t o lt lo in omega (arith, few, l)

  pub room_back : (m : ℕ) (c : Bool) (later : ℕ) → m ≤ 8 → later ≡ entries o t + cond c m 0 → later + m < 2 ^ 32
  room_back m c later l e = let few = few_now o t lo lt in let add = only_few c m 8 l in omega (arith, few, l, e, add)

-- the counts of a flush, once all its links were counted
pub flush_counted : (plan : Plan) (k s t : ℕ) (entries : Counts)
    → ((x y : ℕ) → x < tasks_of plan → y < tasks_of plan → entries x y ≡ partly (counts_at plan k s t) t (new_of plan k s t) (tasks_of plan) x y)
    → Stand plan k s (t + 1) entries
flush_counted plan k s t entries now x y lx ly =
    now x y lx ly ∙ partly_all (counts_at plan k s t) t (new_of plan k s t) (tasks_of plan) x y lx ly ∙ next_task plan k s t x y

pub link_counted : (plan : Plan) (k s t : ℕ) (old mid entries : Counts) (o m : ℕ) → tasks_of plan ≤ 8
    → ((x y : ℕ) → x < tasks_of plan → y < tasks_of plan → old x y ≡ partly (counts_at plan k s t) t (new_of plan k s t) o x y)
    → m ≡ new_of plan k s t o
    → ((x y : ℕ) → x < 8 → y < 8 → mid x y ≡ old x y + cond (x == t && y == o) m 0)
    → ((x y : ℕ) → x < 8 → y < 8 → entries x y ≡ mid x y + cond (x == o && y == t) m 0)
    → (x y : ℕ) → x < tasks_of plan → y < tasks_of plan → entries x y ≡ partly (counts_at plan k s t) t (new_of plan k s t) (o + 1) x y
link_counted plan k s t old mid entries o m few eo em e1 e2 x y lx ly =
    partly_more (counts_at plan k s t) t (new_of plan k s t) o x y (old x y) (mid x y) (entries x y) m (eo x y lx ly) em
    (e1 x y (omega (arith, lx, few)) (omega (arith, ly, few))) (e2 x y (omega (arith, lx, few)) (omega (arith, ly, few)))

pub few_tasks : (plan : Plan) (x : ℕ) → ValidPlan plan → x < tasks_of plan → x < 8
few_tasks plan x valid l = omega (arith, l, valid.tasks.1)
