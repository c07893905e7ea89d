-- Which task joined which round, as a table of rows, when a task joins and when a round is judged.
use Rattle.std.proofs.Common.{◌≡◌, ℕ, ◌*◌, ◌-◌, ◌%◌, ◌^◌, ◌<◌, ◌≤◌, ◌==◌, Bool, true, false, cond, ◌&&◌, ◌||◌, List, [], length, map, get_or, set, replicate, Some, None, refl, sym, subst, ap, ◌∙◌, ⊎_elim, arith, bit_or}
use Rattle.std.specs.Prelude.{is_some}
use Rattle.std.specs.Int.{w8}
use Rattle.std.proofs.Math.Pow.{pow-lt}
use Rattle.std.proofs.Math.Nat.{mod-eq_of_lt, pow-le-pow_right}
use Rattle.std.proofs.lemmas.Nat.{or_lt, pow_pos}
use Rattle.std.proofs.lemmas.Bool.{cases_lt, cases_eq, eq-eqb, ne_eqb, and_left, and_right}
use Rattle.std.proofs.lemmas.List.{length-map, length-set, get_or-map, get_or_past, get_or-set_same, get_or-set_other, get_or-replicate, length-replicate}
use Rattle.std.proofs.lemmas.List.Elements.{All-set, All-replicate}
use Rattle.lapi_base.specs.Record.Below.{has_bit}
use Rattle.lapi_base.specs.Record.Operations.{numbers_below}
use Rattle.lapi_base.proofs.BelowLaws.{every_below-at, every_below-same}
use Rattle.lapi_base.proofs.BitLaws.{all_bits, has_bit-set, has_bit-zero}
use Rattle.lapi_base.proofs.UptoLaws.{length-over, over-at}
use Rattle.lapi_collect.specs.declared.rounds.Round.{Round}
use Rattle.lapi_collect.specs.Rounds.{Joins, joined, is_complete, joined_in, joins_of, IsRound, AreRounds}

pub length-joins : (tasks : ℕ) (rows : List Round) → length (joins_of tasks rows).rounds ≡ length rows
unfolding joins_of
length-joins tasks rows = length-map rows (λ r. map (joined_in r) (numbers_below tasks))

row_at : (tasks : ℕ) (rows : List Round) (r : ℕ) (row : Round) → r < length rows → get_or (joins_of tasks rows).rounds r [] ≡ map (joined_in (get_or rows r row)) (numbers_below tasks)
unfolding joins_of
row_at tasks rows r row lt = get_or-map (λ x. map (joined_in x) (numbers_below tasks)) rows r row [] lt

pub joined_at : (tasks : ℕ) (rows : List Round) (t r : ℕ) (row : Round) → t < tasks → r < length rows → joined (joins_of tasks rows) t r ≡ joined_in (get_or rows r row) t
joined_at tasks rows t r row known lt =
    ap (λ xs. get_or xs t None) (row_at tasks rows r row lt) ∙ over-at (joined_in (get_or rows r row)) tasks t None known

pub joined_past : (tasks : ℕ) (rows : List Round) (t r : ℕ) → length rows ≤ r → joined (joins_of tasks rows) t r ≡ None
joined_past tasks rows t r ge =
    ap (λ xs. get_or xs t None) (get_or_past (joins_of tasks rows).rounds r [] (let e = length-joins tasks rows in omega arith))

pub joined_unknown : (tasks : ℕ) (rows : List Round) (t r : ℕ) (row : Round) → tasks ≤ t → joined (joins_of tasks rows) t r ≡ None
joined_unknown tasks rows t r row ge =
    ⊎_elim
    (λ (lt : r < length rows).
    ap (λ xs. get_or xs t None) (row_at tasks rows r row lt)
    ∙ get_or_past (map (joined_in (get_or rows r row)) (numbers_below tasks)) t None (let e = length-over (joined_in (get_or rows r row)) tasks in omega arith))
    (λ (past : length rows ≤ r). joined_past tasks rows t r past)
    (cases_lt r (length rows))

-- A task joins.
abbrev pub with_join : Round → (task value : ℕ) → Round
with_join row task value = record { joined = bit_or row.joined (1 * 2 ^ task % 256); values = set row.values task value }

joined_row : (row : Round) (task value t : ℕ) → task < 8 → task < length row.values → joined_in (with_join row task value) t ≡ cond (t == task) (Some value) (joined_in row t)
joined_row row task value t small room =
    ap (λ b. cond b (Some (get_or (set row.values task value) t 0)) None) (has_bit-set w8 row.joined task t small)
    ∙ ⊎_elim
    (λ (e : t ≡ task).
    ap (λ b. cond (b || has_bit row.joined t) (Some (get_or (set row.values task value) t 0)) None) (eq-eqb t task e)
    ∙ ap (λ i. Some (get_or (set row.values task value) i 0)) e
    ∙ ap Some (get_or-set_same row.values task value 0 room)
    ∙ sym (ap (λ b. cond b (Some value) (joined_in row t)) (eq-eqb t task e)))
    (λ (ne : t ≡ task → ⊥).
    ap (λ b. cond (b || has_bit row.joined t) (Some (get_or (set row.values task value) t 0)) None) (ne_eqb t task ne)
    ∙ ap (λ x. cond (has_bit row.joined t) (Some x) None) (get_or-set_other row.values task t value 0 ne)
    ∙ sym (ap (λ b. cond b (Some value) (joined_in row t)) (ne_eqb t task ne)))
    (cases_eq t task)

not_this : {A : Type 0} (a b : Bool) (x y : A) → (a ≡ false) → cond (a && b) x y ≡ y
not_this a b x y e = ap (λ c. cond c x y) (and_left a b e)

nor_that : {A : Type 0} (a b : Bool) (x y : A) → (b ≡ false) → cond (a && b) x y ≡ y
nor_that a b x y e = ap (λ c. cond c x y) (and_right a b e)

this_one : {A : Type 0} (a b : Bool) (x y : A) → (b ≡ true) → cond (a && b) x y ≡ cond a x y
this_one true b x y e = ap (λ c. cond c x y) e
this_one false b x y e = refl

pub joined_more : (tasks task round value : ℕ) (rows : List Round) (row : Round) → AreRounds tasks rows → task < tasks → round < length rows → row ≡ get_or rows round row → (t r : ℕ) → joined (joins_of tasks (set rows round (with_join row task value))) t r ≡ cond (t == task && r == round) (Some value) (joined (joins_of tasks rows) t r)
joined_more tasks task round value rows row kept known lt read t r =
    let few = kept.few in
    let was : IsRound tasks row = subst (IsRound tasks) (sym read) (kept.each round row lt) in
    let room : task < length row.values = let eight = was.1 in omega arith in
    let after : List Round = set rows round (with_join row task value) in
    let len : length after ≡ length rows = length-set rows round (with_join row task value) in
    ⊎_elim
    (λ (inside : t < tasks).
    ⊎_elim
    (λ (here : r ≡ round).
    joined_at tasks after t r row inside (omega arith)
    ∙ ap (λ i. joined_in (get_or after i row) t) here
    ∙ ap (λ x. joined_in x t) (get_or-set_same rows round (with_join row task value) row lt)
    ∙ joined_row row task value t (omega arith) room
    ∙ ap (λ x. cond (t == task) (Some value) (joined_in x t)) read
    ∙ ap (λ i. cond (t == task) (Some value) (joined_in (get_or rows i row) t)) (sym here)
    ∙ ap (cond (t == task) (Some value)) (sym (joined_at tasks rows t r row inside (omega arith)))
    ∙ sym (this_one (t == task) (r == round) (Some value) (joined (joins_of tasks rows) t r) (eq-eqb r round here)))
    (λ (ne : r ≡ round → ⊥).
    ⊎_elim
    (λ (there : r < length rows).
    joined_at tasks after t r row inside (omega arith)
    ∙ ap (λ x. joined_in x t) (get_or-set_other rows round r (with_join row task value) row ne)
    ∙ sym (joined_at tasks rows t r row inside there))
    (λ (past : length rows ≤ r). joined_past tasks after t r (omega arith) ∙ sym (joined_past tasks rows t r past))
    (cases_lt r (length rows))
    ∙ sym (nor_that (t == task) (r == round) (Some value) (joined (joins_of tasks rows) t r) (ne_eqb r round ne)))
    (cases_eq r round))
    (λ (outside : tasks ≤ t).
    joined_unknown tasks after t r row outside
    ∙ sym (joined_unknown tasks rows t r row outside)
    ∙ sym (not_this (t == task) (r == round) (Some value) (joined (joins_of tasks rows) t r) (ne_eqb t task (λ e. omega arith))))
    (cases_lt t tasks)

pub still_rounds : (tasks task round value : ℕ) (rows : List Round) (row : Round) → AreRounds tasks rows → task < tasks → round < length rows → row ≡ get_or rows round row → AreRounds tasks (set rows round (with_join row task value))
still_rounds tasks task round value rows row kept known lt read =
    let few = kept.few in
    let was : IsRound tasks row = subst (IsRound tasks) (sym read) (kept.each round row lt) in
    let bit : 2 ^ task < 2 ^ tasks = pow-lt known in
    let byte : 2 ^ tasks ≤ 2 ^ 8 = pow-le-pow_right {n = 2} (let q : 0 < 2 = omega arith in q) few in
    let e : 1 * 2 ^ task % 256 ≡ 2 ^ task = let l : 1 * 2 ^ task < 256 = omega arith in mod-eq_of_lt l ∙ omega arith in
    record {
      few = few;
      each = All-set (IsRound tasks) rows round (with_join row task value) (rw e (or_lt tasks row.joined (2 ^ task) was.0 bit), length-set row.values task value ∙ was.1) kept.each;
    }

-- No task joined yet.
pub none_joined : (tasks count : ℕ) (row : Round) → row.joined ≡ 0 → (t r : ℕ) → joined (joins_of tasks (replicate count row)) t r ≡ None
none_joined tasks count row e t r =
    ⊎_elim
    (λ (inside : t < tasks).
    ⊎_elim
    (λ (lt : r < count).
    joined_at tasks (replicate count row) t r row inside (let len = length-replicate count row in omega arith)
    ∙ ap (λ x. joined_in x t) (get_or-replicate count r row row lt)
    ∙ ap (λ b. cond b (Some (get_or row.values t 0)) None) (ap (λ x. has_bit x t) e ∙ has_bit-zero t))
    (λ (past : count ≤ r). joined_past tasks (replicate count row) t r (let len = length-replicate count row in omega arith))
    (cases_lt r count))
    (λ (outside : tasks ≤ t). joined_unknown tasks (replicate count row) t r row outside)
    (cases_lt t tasks)

is_joined : (b : Bool) (value : ℕ) → is_some (cond b (Some value) None) ≡ b
is_joined true value = refl
is_joined false value = refl

-- A round is judged by one byte.
pub complete_byte : (tasks round : ℕ) (rows : List Round) (row : Round) → AreRounds tasks rows → row ≡ get_or rows round row → round < length rows → (row.joined == 1 * 2 ^ tasks % 2 ^ 32 - 1) ≡ is_complete (joins_of tasks rows) round
unfolding joins_of
complete_byte tasks round rows row kept read lt =
    let few = kept.few in
    let small : row.joined < 2 ^ tasks = (subst (IsRound tasks) (sym read) (kept.each round row lt)).0 in
    let byte : 2 ^ tasks ≤ 2 ^ 8 = pow-le-pow_right {n = 2} (let q : 0 < 2 = omega arith in q) few in
    let e : 1 * 2 ^ tasks % 2 ^ 32 ≡ 2 ^ tasks = let l : 1 * 2 ^ tasks < 2 ^ 32 = omega arith in mod-eq_of_lt l ∙ omega arith in
    ap (λ x. row.joined == x - 1) e
    ∙ all_bits tasks row.joined small
    ∙ every_below-same tasks (has_bit row.joined) (λ t. is_some (joined (joins_of tasks rows) t round)) (λ t inside.
    sym (ap is_some (joined_at tasks rows t round row inside lt ∙ ap (λ x. joined_in x t) (sym read)) ∙ is_joined (has_bit row.joined t) (get_or row.values t 0)))

pub no_rounds : (tasks count : ℕ) (row : Round) → tasks ≤ 8 → row.joined ≡ 0 → length row.values ≡ 8 → AreRounds tasks (replicate count row)
no_rounds tasks count row few e room = record {
  few = few;
  each = All-replicate (IsRound tasks) count row (omega (arith, pow_pos tasks), room);
}

-- where a round's row stands
pub in_table : (tasks : ℕ) (rows : List Round) (joins : Joins) → joins_of tasks rows ≡ joins → (joins.tasks ≡ tasks) × (length joins.rounds ≡ length rows)
unfolding joins_of
in_table tasks rows joins e =
    (sym (ap (λ (j : Joins). j.tasks) e), sym (ap (λ (j : Joins). length j.rounds) e) ∙ length-joins tasks rows)

-- the value that a task gave, once its round is complete
pub entry_there : (tasks task round : ℕ) (rows : List Round) (row : Round) → row ≡ get_or rows round row → task < tasks → round < length rows → is_complete (joins_of tasks rows) round ≡ true → Some (get_or row.values task 0) ≡ joined (joins_of tasks rows) task round
unfolding joins_of
entry_there tasks task round rows row read known lt complete =
    let there = joined_at tasks rows task round row known lt ∙ ap (λ x. joined_in x task) (sym read) in
    let bit : has_bit row.joined task ≡ true =
    sym (is_joined (has_bit row.joined task) (get_or row.values task 0)) ∙ sym (ap is_some there) ∙ every_below-at tasks (λ t. is_some (joined (joins_of tasks rows) t round)) task complete known in
    sym (there ∙ ap (λ b. cond b (Some (get_or row.values task 0)) None) bit)
