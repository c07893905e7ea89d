-- A plan's script runs to its end.
use Rattle.std.proofs.Common.{◌≡◌, ◌⊎◌, ℕ, zero, suc, ◌+◌, ◌-◌, ◌*◌, ◌/◌, ◌<◌, ◌≤◌, ◌==◌, Bool, true, false, cond, ◌&&◌, ◌||◌, not, List, [], ◌∷◌, length, get_or, Option, Some, None, refl, sym, ap, ◌∙◌, subst, ⊎_elim, inl, inr, arith, ◌++◌, ◌^◌}
use Rattle.std.specs.Prelude.{nat_lt, slice_get, is_some, unwrap_or, filter, max, min}
use Rattle.std.specs.List.{AllByRecursion}
use Rattle.std.proofs.lemmas.Bool.{or_parts, false≢true, and_parts, both_ways, cond_both, cond-true, cond-false, ne_eqb, cases_eq, eqb-true, eq-eqb, cases_lt, le-ltb, lt-ltb}
use Rattle.std.proofs.lemmas.Nat.{mul-le}
use Rattle.std.proofs.lemmas.List.{length-append, get_or-map, length-map, get_or_past}
use Rattle.lapi_base.specs.declared.rule.Rules.{Rules}
use Rattle.lapi_base.specs.declared.statement.Statement.{Statement}
use Rattle.lapi_base.specs.declared.statement.Statement.TheVariants.{Store, Fence, Gfence}
use Rattle.lapi_base.specs.declared.message.Leg.{Leg}
use Rattle.lapi_base.specs.declared.message.Leg.TheVariants.{Go, Back, Note, Echo, Join}
use Rattle.lapi_base.specs.declared.message.MsgName.{MsgName}
use Rattle.lapi_base.specs.Packet.Layout.{unit_of, window_of, holds_back, may_answer}
use Rattle.lapi_base.specs.Record.Handlers.{answers}
use Rattle.lapi_base.specs.Record.Names.{message, Issued, Entered, Copied, Landed, Ended, happened}
use Rattle.lapi_base.specs.Packet.Spelling.{refusal}
use Rattle.lapi_base.specs.Packet.PacketBytes.{packet_size}
use Rattle.lapi_base.specs.Record.Refusals.{next}
use Rattle.lapi_base.specs.Record.Wires.{Run, start, numbered, has_number}
use Rattle.lapi_base.specs.Record.Acts.{joins, to_copy_of, ready, after, run_of}
use Rattle.lapi_base.proofs.NameLaws.{happened-nil}
use Rattle.lapi_base.proofs.BelowLaws.{below-all}
use Rattle.lapi_laws.proofs.Lines.{SoundRun}
use Rattle.lapi_base.proofs.ListLaws.{all-flat_map, all-any, get-some}
use Rattle.lapi_laws.proofs.Runs.{start-sound}
use Rattle.lapi_laws.proofs.Follows.{Owes, after-owes}
use Rattle.lapi_base.specs.Record.Operations.{numbers_below, statements, statement, is_am, target_of, sender, receiver, is_data, has_join, has_leg, cmpl_counter, length_by, message_length, fragment_count}
use Rattle.lapi_laws.proofs.Places.{place-below}
use Rattle.lapi_laws.proofs.Still.{back-data}
use Rattle.lapi_blocks.specs.declared.plan.Op.{Op}
use Rattle.lapi_blocks.specs.declared.plan.Op.TheVariants.{Set, Get}
use Rattle.lapi_blocks.specs.declared.plan.Plan.{Plan}
use Rattle.lapi_epochs.specs.Epochs.{Has}
use Rattle.lapi_epochs.specs.Stages.{is_store, goes, comes}
use Rattle.lapi_blocks.specs.declared.patch.Patch.{Patch}
use Rattle.lapi_blocks.specs.Plans.{patch_of, tasks_of, ValidPlan, block_row, block_col, part_of, is_nonempty, moves, owners, own_statements, op_statements, compiled}
use Rattle.lapi_flush.specs.Rounds.{In, weigh, IsFenced, IsAtRound, round_acts}
use Rattle.lapi_flush.specs.Flushed.{IsCalm, data_count, sum_to, all_data}
use Rattle.lapi_base.specs.declared.schedule.Act.{Act}
use Rattle.lapi_flush.specs.Served.{AllNamed}
use Rattle.lapi_flush.proofs.NoneOwed.{IsPaid, after-paid}
use Rattle.lapi_flush.proofs.ServedParts.{named-append}
use Rattle.lapi_flush.proofs.FlushedTasks.{sum-le, after-join}
use Rattle.lapi_flush.proofs.CalledRounds.{round-done}
use Rattle.lapi_blocks.specs.PlanRuns.{op_begin, op_fence, plan_acts, PlansRun, PlansAreShort, PlansAreValid}
use Rattle.lapi_blocks.proofs.CompiledStatements.{own-few, is_set, all-nth, nth-of_get, all-map, body, begin, round, count, begin-more, begin-zero, round-length, at-place, in-body, at-fence, epoch-is, statements-are, stand, IsStored, IsMoved}
use Rattle.lapi_blocks.proofs.ArrayStages.{back, within}
use Rattle.lapi_blocks.proofs.PlainArrays.{all-plain}
use Rattle.lapi_flush.proofs.ValidLines.{all-exceeds, named-valid}
use Rattle.lapi_flush.proofs.QuietRecords.{settled-quiet}
use Rattle.lapi_blocks.proofs.NeverRefused.{never-refused, stride-total}

-- a list without one place
pub get-some_nth : (xs : List ℕ) (i : ℕ) → i < length xs → slice_get xs i ≡ Some (get_or xs i 0)
get-some_nth [] i l = absurd (omega arith)
get-some_nth (x ∷ xs) zero l = refl
get-some_nth (x ∷ xs) (suc i) l = get-some_nth xs i (omega arith)

-- kinds of the statements of an operation
unfoldable pub is_call : Statement → Bool
is_call s = is_store s || (goes s || comes s)

moves-call : (plan : Plan) (k : ℕ) (op : Op) (part : Patch) → is_call (moves plan k op part) ≡ true
unfolding is_call
moves-call plan k (Set task row col rows cols values) part = refl
moves-call plan k (Get task row col rows cols) part = refl

moves-no_note : (plan : Plan) (k : ℕ) (op : Op) (part : Patch) → cmpl_counter (moves plan k op part) ≡ None
moves-no_note plan k (Set task row col rows cols values) part = refl
moves-no_note plan k (Get task row col rows cols) part = refl

pub moves-target : (plan : Plan) (k : ℕ) (op : Op) (part : Patch) → target_of (moves plan k op part) ≡ Some part.task
moves-target plan k (Set task row col rows cols values) part = refl
moves-target plan k (Get task row col rows cols) part = refl

own-calls : (plan : Plan) (k : ℕ) (op : Op) → AllByRecursion (λ s. is_call s ≡ true) (own_statements plan k op)
unfolding is_call
own-calls plan k (Set task row col rows cols values) = let op = Set task row col rows cols values in (refl, all-map (λ s. is_call s ≡ true) (λ t. moves plan k op (part_of plan (patch_of op) t)) (owners plan (patch_of op)) (λ t. moves-call plan k op (part_of plan (patch_of op) t)))
own-calls plan k (Get task row col rows cols) = let op = Get task row col rows cols in all-map (λ s. is_call s ≡ true) (λ t. moves plan k op (part_of plan (patch_of op) t)) (owners plan (patch_of op)) (λ t. moves-call plan k op (part_of plan (patch_of op) t))

op-calls : (plan : Plan) (k : ℕ) (o : Option Op) (t : ℕ) → AllByRecursion (λ s. is_call s ≡ true) (op_statements plan k o t)
op-calls plan k None t = tt
op-calls plan k (Some op) t = cond_both (t == (patch_of op).task) (own_statements plan k op) [] (AllByRecursion (λ s. is_call s ≡ true)) (λ _. own-calls plan k op) (λ _. tt)

pub call-no_join : (s : Statement) → is_call s ≡ true → has_join s ≡ false
unfolding is_call
call-no_join Gfence h = absurd (false≢true h)
call-no_join (Statement.Addr at) h = absurd (false≢true h)
call-no_join _ h = refl

spike : (n t c y : ℕ) (f : ℕ → ℕ) → ((k : ℕ) → k < n → f k ≤ y + cond (k == t) c 0) → sum_to n f ≤ n * y + cond (nat_lt t n) c 0
unfolding sum_to
spike zero t c y f h = omega arith
spike (suc n) t c y f h =
    let old = spike n t c y f (λ k l. h k (omega arith)) in
    let now = h n (omega arith) in
    let e : suc n * y ≡ n * y + y = grind arith in
    ⊎_elim
    (λ (same : n ≡ t).
    let a : cond (n == t) c 0 ≡ c = cond-true (n == t) c 0 (eq-eqb n t same) in
    let b : cond (nat_lt t n) c 0 ≡ 0 = cond-false (nat_lt t n) c 0 (le-ltb t n (omega arith)) in
    let d : cond (nat_lt t (suc n)) c 0 ≡ c = cond-true (nat_lt t (suc n)) c 0 (lt-ltb t (suc n) (omega arith)) in
    omega arith)
    (λ (apart : n ≡ t → ⊥).
    let a : cond (n == t) c 0 ≡ 0 = cond-false (n == t) c 0 (ne_eqb n t apart) in
    ⊎_elim
    (λ (lt : t < n).
    let b : cond (nat_lt t n) c 0 ≡ c = cond-true (nat_lt t n) c 0 (lt-ltb t n lt) in
    let d : cond (nat_lt t (suc n)) c 0 ≡ c = cond-true (nat_lt t (suc n)) c 0 (lt-ltb t (suc n) (omega arith)) in
    omega arith)
    (λ (ge : n ≤ t).
    let b : cond (nat_lt t n) c 0 ≡ 0 = cond-false (nat_lt t n) c 0 (le-ltb t n ge) in
    let low : suc n ≤ t = ⊎_elim (λ (q : n < t). q) (λ (q : t ≤ n). absurd (apart (omega arith))) (cases_lt n t) in
    let d : cond (nat_lt t (suc n)) c 0 ≡ 0 = cond-false (nat_lt t (suc n)) c 0 (le-ltb t (suc n) low) in
    omega arith)
    (cases_lt t n))
    (cases_eq n t)

sum-grow : (n : ℕ) (f g h : ℕ → ℕ) → ((k : ℕ) → k < n → g k ≤ f k + h k) → sum_to n g ≤ sum_to n f + sum_to n h
unfolding sum_to
sum-grow zero f g h e = omega arith
sum-grow (suc n) f g h e = let old = sum-grow n f g h (λ k l. e k (omega arith)) in let now = e n (omega arith) in omega arith

-- a sum of which one term is larger
spike-sum : (n t c y : ℕ) (f : ℕ → ℕ) → ((k : ℕ) → k < n → f k ≤ y + cond (k == t) c 0) → sum_to n f ≤ n * y + c
spike-sum n t c y f h = let s = spike n t c y f h in let q = small (nat_lt t n) c in omega arith
  where
    small : (b : Bool) (c : ℕ) → cond b c 0 ≤ c
    small true c = omega arith
    small false c = omega arith

-- how many stand before the moves
unfoldable pub before_moves : Op → ℕ
before_moves op = cond (is_set op) 1 0

module _ (plan : Plan) (valid : ValidPlan plan) (rules : Rules) where
  -- the place of the move to owner w
  unfoldable pub move_place : (k : ℕ) (op : Op) (w : ℕ) → ℕ
  move_place k op w = begin plan k (patch_of op).task + (before_moves op + length (filter (λ x. nat_lt x w) (owners plan (patch_of op))))

  owner-index : (p : Patch) (j : ℕ) → j < length (owners plan p) → length (filter (λ x. nat_lt x (get_or (owners plan p) j 0)) (owners plan p)) ≡ j
  unfolding owners
  owner-index p j l = place-below (tasks_of plan) (λ t. is_nonempty (part_of plan p t)) j (get_or (owners plan p) j 0) (get-some_nth (owners plan p) j l)

  -- a statement of an operation that moves data stands at its owner's place
  own-index : (k : ℕ) (op : Op) (o : ℕ) → o < length (own_statements plan k op) → is_data (get_or (own_statements plan k op) o Fence) ≡ true →
      (j : ℕ) × (j < length (owners plan (patch_of op))) × (o ≡ before_moves op + j) × (get_or (own_statements plan k op) o Fence ≡ moves plan k op (part_of plan (patch_of op) (get_or (owners plan (patch_of op)) j 0)))
  unfolding before_moves
  own-index k (Set task row col rows cols values) zero l d = absurd (false≢true d)
  own-index k (Set task row col rows cols values) (suc o) l d =
      let op = Set task row col rows cols values in
      let g = λ (t : ℕ). moves plan k op (part_of plan (patch_of op) t) in
      let len = length-map (owners plan (patch_of op)) g in
      let lj : o < length (owners plan (patch_of op)) = omega arith in
      (o, lj, (let q : suc o ≡ 1 + o = omega arith in q), get_or-map g (owners plan (patch_of op)) o 0 Fence lj)
  own-index k (Get task row col rows cols) o l d =
      let op = Get task row col rows cols in
      let g = λ (t : ℕ). moves plan k op (part_of plan (patch_of op) t) in
      let len = length-map (owners plan (patch_of op)) g in
      let lj : o < length (owners plan (patch_of op)) = omega arith in
      (o, lj, (let q : o ≡ 0 + o = omega arith in q), get_or-map g (owners plan (patch_of op)) o 0 Fence lj)

  -- so an operation's data statement is known by its owner
  pub data-place : (k : ℕ) (op : Op) (a i : ℕ) → slice_get plan.ops k ≡ Some op → a < tasks_of plan → begin plan k a ≤ i → i ≤ begin plan k a + length (body plan k a) → is_data (statement (compiled plan) a i) ≡ true →
      (w : ℕ) × (a ≡ (patch_of op).task) × (i ≡ move_place k op w) × (statement (compiled plan) a i ≡ moves plan k op (part_of plan (patch_of op) w)) × (is_nonempty (part_of plan (patch_of op) w) ≡ true)
  unfolding move_place owners
  data-place k op a i e la low high d =
      let lk = (nth-of_get plan.ops k op op e).1 in
      let o = i - begin plan k a in
      let size = round-length plan k a in
      let here : begin plan k a + o ≡ i = omega arith in
      let at = at-place plan k a o la lk (omega arith) in
      ⊎_elim
      (λ (lt : o < length (body plan k a)).
      let is : statement (compiled plan) a i ≡ get_or (body plan k a) o Fence = ap (statement (compiled plan) a) (sym here) ∙ at.1 ∙ in-body plan k a o lt in
      let same = ap (λ x. op_statements plan k x a) e in
      elim (a == (patch_of op).task) as (λ b. (a == (patch_of op).task) ≡ b → o < length (cond b (own_statements plan k op) []) → statement (compiled plan) a i ≡ get_or (cond b (own_statements plan k op) []) o Fence → (w : ℕ) × (a ≡ (patch_of op).task) × (i ≡ move_place k op w) × (statement (compiled plan) a i ≡ moves plan k op (part_of plan (patch_of op) w)) × (is_nonempty (part_of plan (patch_of op) w) ≡ true)) [
        | true ↦ λ mine lo is'.
            let task = eqb-true a (patch_of op).task mine in
            let r = own-index k op o lo (ap is_data (sym is') ∙ d) in
            let w = get_or (owners plan (patch_of op)) r.0 0 in
            let place : i ≡ move_place k op w = sym here ∙ ap (λ n. begin plan k a + n) (r.2 ∙ ap (λ n. before_moves op + n) (sym (owner-index (patch_of op) r.0 r.1))) ∙ ap (λ t. begin plan k t + (before_moves op + length (filter (λ x. nat_lt x w) (owners plan (patch_of op))))) task in
            (w, task, place, is' ∙ r.3, (all-nth (λ t. (t < tasks_of plan) × (is_nonempty (part_of plan (patch_of op) t) ≡ true)) (owners plan (patch_of op)) r.0 0 (below-all (tasks_of plan) (λ t. is_nonempty (part_of plan (patch_of op) t))) r.1).1)
        | false ↦ λ other lo is'. absurd (omega arith)
      ] refl (subst (λ xs. o < length xs) same lt) (is ∙ ap (λ xs. get_or xs o Fence) same))
      (λ (ge : length (body plan k a) ≤ o).
      let last : o ≡ length (body plan k a) = omega arith in
      let is : statement (compiled plan) a i ≡ Gfence = ap (statement (compiled plan) a) (sym here) ∙ at.1 ∙ ap (λ n. get_or (round plan k a) n Fence) last ∙ at-fence plan k a in
      absurd (false≢true (ap is_data (sym is) ∙ d)))
      (cases_lt o (length (body plan k a)))

  -- ---- how long messages are

  piece-words : (rows cols n m : ℕ) → rows * cols ≤ n → n ≤ 256 → m ≡ rows * (4 * cols) → m ≤ 1024
  piece-words rows cols n m h l e = let q : rows * (4 * cols) ≡ 4 * (rows * cols) = grind arith in omega arith

  part-less : (row rows low size : ℕ) → min (row + rows) (low + size) - max row low ≤ rows
  part-less row rows low size = omega arith

  part-words : (k : ℕ) (op : Op) (w : ℕ) → slice_get plan.ops k ≡ Some op → (part_of plan (patch_of op) w).rows * (part_of plan (patch_of op) w).cols ≤ (patch_of op).rows * (patch_of op).cols
  part-words k op w e =
      let p = patch_of op in
      let part = part_of plan p w in
      mul-le part.rows part.cols p.rows p.cols (part-less p.row p.rows (block_row plan w) plan.height) (part-less p.col p.cols (block_col plan w) plan.width)

  none-long : (leg : Leg) (s : Statement) → (s ≡ Gfence) ⊎ ((at : ℕ) × (bytes : List ℕ) × (s ≡ Store at bytes)) → length_by leg s ≤ 1024
  none-long leg s h =
      ⊎_elim
      (λ (x : s ≡ Gfence). subst (λ y. length_by leg y ≤ 1024) (sym x) (fence-zero leg))
      (λ (x : (at : ℕ) × (bytes : List ℕ) × (s ≡ Store at bytes)). subst (λ y. length_by leg y ≤ 1024) (sym x.2) (store-zero leg x.0 x.1))
      h
    where
      fence-zero : (leg : Leg) → length_by leg Gfence ≤ 1024
      fence-zero Go = omega arith
      fence-zero Back = omega arith
      fence-zero Note = omega arith
      fence-zero Echo = omega arith
      fence-zero (Join d) = omega arith

      store-zero : (leg : Leg) (at : ℕ) (bytes : List ℕ) → length_by leg (Store at bytes) ≤ 1024
      store-zero Go at bytes = omega arith
      store-zero Back at bytes = omega arith
      store-zero Note at bytes = omega arith
      store-zero Echo at bytes = omega arith
      store-zero (Join d) at bytes = omega arith

  moves-long : (k : ℕ) (op : Op) (w : ℕ) (leg : Leg) → slice_get plan.ops k ≡ Some op → length_by leg (moves plan k op (part_of plan (patch_of op) w)) ≤ 1024
  moves-long k (Set task row col rows cols values) w Go e = let op = Set task row col rows cols values in let part = part_of plan (patch_of op) w in piece-words part.rows part.cols _ _ (part-words k op w e) (within plan valid k op e).words.1 (stride-total _ (4 * part.cols) (4 * cols) part.rows)
  moves-long k (Set task row col rows cols values) w Back e = omega arith
  moves-long k (Set task row col rows cols values) w Note e = omega arith
  moves-long k (Set task row col rows cols values) w Echo e = omega arith
  moves-long k (Set task row col rows cols values) w (Join d) e = omega arith
  moves-long k (Get task row col rows cols) w Back e = let op = Get task row col rows cols in let part = part_of plan (patch_of op) w in piece-words part.rows part.cols _ _ (part-words k op w e) (within plan valid k op e).words.1 (stride-total _ (4 * part.cols) (4 * plan.width) part.rows)
  moves-long k (Get task row col rows cols) w Go e = omega arith
  moves-long k (Get task row col rows cols) w Note e = omega arith
  moves-long k (Get task row col rows cols) w Echo e = omega arith
  moves-long k (Get task row col rows cols) w (Join d) e = omega arith

  past-long : (leg : Leg) → length_by leg Fence ≤ 1024
  past-long Go = omega arith
  past-long Back = omega arith
  past-long Note = omega arith
  past-long Echo = omega arith
  past-long (Join d) = omega arith

  all-short : (a i : ℕ) (leg : Leg) → a < tasks_of plan → length_by leg (statement (compiled plan) a i) ≤ 1024
  unfolding statement
  all-short a i leg la =
      ⊎_elim
      (λ (inside : i < length (statements (compiled plan) a)).
      let s = stand plan a i (la, inside) in
      ⊎_elim
      (λ (x : statement (compiled plan) a i ≡ Gfence). none-long leg (statement (compiled plan) a i) (inl x))
      (λ (x : (a ≡ (patch_of s.op).task) × (IsStored plan s.k s.op s.o (statement (compiled plan) a i) ⊎ IsMoved plan s.k s.op s.o (statement (compiled plan) a i))).
      ⊎_elim
      (λ (y : IsStored plan s.k s.op s.o (statement (compiled plan) a i)). none-long leg (statement (compiled plan) a i) (inr (_, _, y.2)))
      (λ (y : IsMoved plan s.k s.op s.o (statement (compiled plan) a i)). subst (λ z. length_by leg z ≤ 1024) (sym y.3) (moves-long s.k s.op y.0 leg s.is_op))
      x.1)
      s.kind)
      (λ (past : length (statements (compiled plan) a) ≤ i). subst (λ z. length_by leg z ≤ 1024) (sym (get_or_past (statements (compiled plan) a) i Fence past)) (past-long leg))
      (cases_lt i (length (statements (compiled plan) a)))

  few-fragments : (m : MsgName) → m.origin < tasks_of plan → fragment_count (compiled plan) m ≤ 4
  unfolding fragment_count message_length unit_of
  few-fragments m l = let h = all-short m.origin m.statement m.leg l in four (length_by m.leg (statement (compiled plan) m.origin m.statement)) h
    where
      four : (n : ℕ) → n ≤ 1024 → max 1 ((n + (256 - 1)) / 256) ≤ 4
      four n h = omega arith

  one-join : (a i d : ℕ) → fragment_count (compiled plan) (message a i (Join d)) ≤ 1
  unfolding fragment_count message_length unit_of
  one-join a i d = omega arith

  -- ---- a plan's script is one of rounds

  pub no-notes : (a i : ℕ) → Has (compiled plan) a i → cmpl_counter (statement (compiled plan) a i) ≡ None
  no-notes a i has =
      let s = stand plan a i has in
      ⊎_elim
      (λ (x : statement (compiled plan) a i ≡ Gfence). ap cmpl_counter x)
      (λ (x : (a ≡ (patch_of s.op).task) × (IsStored plan s.k s.op s.o (statement (compiled plan) a i) ⊎ IsMoved plan s.k s.op s.o (statement (compiled plan) a i))).
      ⊎_elim
      (λ (y : IsStored plan s.k s.op s.o (statement (compiled plan) a i)). ap cmpl_counter y.2)
      (λ (y : IsMoved plan s.k s.op s.o (statement (compiled plan) a i)). ap cmpl_counter y.3 ∙ moves-no_note plan s.k s.op (part_of plan (patch_of s.op) y.0))
      x.1)
      s.kind

  pub no-answers : (a i : ℕ) → answers (compiled plan) rules a i ≡ false
  unfolding answers may_answer
  no-answers a i = refl

  pub calls-are : (k a i : ℕ) → k < count plan → a < tasks_of plan → begin plan k a ≤ i → i < op_fence plan k a → is_call (statement (compiled plan) a i) ≡ true
  calls-are k a i lk la low high =
      let o = i - begin plan k a in
      let size = round-length plan k a in
      let here : begin plan k a + o ≡ i = omega arith in
      let lt : o < length (body plan k a) = omega arith in
      let at = at-place plan k a o la lk (omega arith) in
      ap (λ n. is_call (statement (compiled plan) a n)) (sym here) ∙ ap is_call (at.1 ∙ in-body plan k a o lt) ∙ all-nth (λ s. is_call s ≡ true) (body plan k a) o Fence (op-calls plan k (slice_get plan.ops k) a) lt

  -- the messages of operation k on a link
  link_messages : (k : ℕ) (op : Op) (a b : ℕ) → List MsgName
  link_messages k op a b =
      let t = (patch_of op).task in
      let joins = message a (op_fence plan k a) (Join b) ∷ [] in
      let backs = cond (b == t) (message t (move_place k op a) Back ∷ joins) joins in
      cond (a == t) (message t (move_place k op b) Go ∷ backs) backs

  in-link : (k : ℕ) (op : Op) (a b o i : ℕ) (leg : Leg) → slice_get plan.ops k ≡ Some op → Has (compiled plan) o i → has_leg (compiled plan) (answers (compiled plan) rules o i) o leg (statement (compiled plan) o i) ≡ true → begin plan k o ≤ i → i ≤ op_fence plan k o → sender (compiled plan) (message o i leg) ≡ a → receiver (compiled plan) (message o i leg) ≡ b → In (link_messages k op a b) (message o i leg)
  unfolding link_messages
  in-link k op a b o i Go e has leg low high from to =
      let r = data-place k op o i e has.0 low high leg in
      let w : r.0 ≡ b = sym (ap (λ s. unwrap_or (target_of s) o) r.3 ∙ ap (λ x. unwrap_or x o) (moves-target plan k op (part_of plan (patch_of op) r.0))) ∙ to in
      let place : i ≡ move_place k op b = r.2 ∙ ap (move_place k op) w in
      let t = (patch_of op).task in
      let joins = message a (op_fence plan k a) (Join b) ∷ [] in
      let backs = cond (b == t) (message t (move_place k op a) Back ∷ joins) joins in
      let own : a ≡ t = sym from ∙ r.1 in
      subst (λ ms. In ms (message o i Go)) (sym (cond-true (a == t) (message t (move_place k op b) Go ∷ backs) backs (eq-eqb a t own))) (inl (λ j. message (sym r.1 j) (sym place j) Go))
  in-link k op a b o i Back e has leg low high from to =
      let r = data-place k op o i e has.0 low high (back-data (statement (compiled plan) o i) leg) in
      let w : r.0 ≡ a = sym (ap (λ s. unwrap_or (target_of s) o) r.3 ∙ ap (λ x. unwrap_or x o) (moves-target plan k op (part_of plan (patch_of op) r.0))) ∙ from in
      let place : i ≡ move_place k op a = r.2 ∙ ap (move_place k op) w in
      let t = (patch_of op).task in
      let joins = message a (op_fence plan k a) (Join b) ∷ [] in
      let backs = cond (b == t) (message t (move_place k op a) Back ∷ joins) joins in
      let own : b ≡ t = sym to ∙ r.1 in
      let there : In backs (message o i Back) = subst (λ ms. In ms (message o i Back)) (sym (cond-true (b == t) (message t (move_place k op a) Back ∷ joins) joins (eq-eqb b t own))) (inl (λ j. message (sym r.1 j) (sym place j) Back)) in
      cond_both (a == t) (message t (move_place k op b) Go ∷ backs) backs (λ ms. In ms (message o i Back)) (λ _. inr there) (λ _. there)
  in-link k op a b o i Note e has leg low high from to = absurd (false≢true (ap is_some (sym (no-notes o i has)) ∙ (and_parts (is_some (cmpl_counter (statement (compiled plan) o i))) (not (answers (compiled plan) rules o i)) leg).0))
  in-link k op a b o i Echo e has leg low high from to = absurd (both_ways _ (no-answers o i) leg)
  in-link k op a b o i (Join d) e has leg low high from to =
      let lk = (nth-of_get plan.ops k op op e).1 in
      let joins = (and_parts (has_join (statement (compiled plan) o i)) (nat_lt d (tasks_of plan) && not (d == o)) leg).0 in
      ⊎_elim
      (λ (lt : i < op_fence plan k o). absurd (both_ways _ (call-no_join (statement (compiled plan) o i) (calls-are k o i lk has.0 low lt)) joins))
      (λ (ge : op_fence plan k o ≤ i).
      let last : i ≡ op_fence plan k o = omega arith in
      let place : i ≡ op_fence plan k a = last ∙ ap (op_fence plan k) from in
      let t = (patch_of op).task in
      let joins = message a (op_fence plan k a) (Join b) ∷ [] in
      let backs = cond (b == t) (message t (move_place k op a) Back ∷ joins) joins in
      let there : In joins (message o i (Join d)) = inl (λ j. message (sym from j) (sym place j) (Join (sym to j))) in
      let later : In backs (message o i (Join d)) = cond_both (b == t) (message t (move_place k op a) Back ∷ joins) joins (λ ms. In ms (message o i (Join d))) (λ _. inr there) (λ _. there) in
      cond_both (a == t) (message t (move_place k op b) Go ∷ backs) backs (λ ms. In ms (message o i (Join d))) (λ _. inr later) (λ _. later))
      (cases_lt i (op_fence plan k o))

  -- how many numbers they have
  link-weight : (k : ℕ) (op : Op) (a b : ℕ) → (patch_of op).task < tasks_of plan → weigh (compiled plan) (link_messages k op a b) ≤ cond (a == (patch_of op).task) 4 0 + cond (b == (patch_of op).task) 4 0 + 1
  unfolding weigh link_messages
  link-weight k op a b lt =
      let t = (patch_of op).task in
      let go = few-fragments (message t (move_place k op b) Go) lt in
      let back = few-fragments (message t (move_place k op a) Back) lt in
      let join = one-join a (op_fence plan k a) b in
      let w = weigh (compiled plan) in
      let joins = message a (op_fence plan k a) (Join b) ∷ [] in
      elim (a == t) as (λ x. w (cond x (message t (move_place k op b) Go ∷ cond (b == t) (message t (move_place k op a) Back ∷ joins) joins) (cond (b == t) (message t (move_place k op a) Back ∷ joins) joins)) ≤ cond x 4 0 + cond (b == t) 4 0 + 1) [
        | true ↦ elim (b == t) as (λ y. w (message t (move_place k op b) Go ∷ cond y (message t (move_place k op a) Back ∷ joins) joins) ≤ 4 + cond y 4 0 + 1) [ true ↦ omega arith | false ↦ omega arith ]
        | false ↦ elim (b == t) as (λ y. w (cond y (message t (move_place k op a) Back ∷ joins) joins) ≤ 0 + cond y 4 0 + 1) [ true ↦ omega arith | false ↦ omega arith ]
      ]

  in-window : (w : ℕ) (x y : Bool) → w ≤ cond x 4 0 + cond y 4 0 + 1 → w ≤ window_of (compiled plan)
  unfolding window_of
  in-window w true true h = omega arith
  in-window w true false h = omega arith
  in-window w false true h = omega arith
  in-window w false false h = omega arith

  pub plan-fenced : IsFenced (compiled plan) rules (count plan) (op_begin plan) (op_fence plan)
  unfolding is_call link_messages
  plan-fenced = record {
    no_notes = λ a i has. (no-notes a i has, no-answers a i);
    none_refused = λ J a i has. never-refused plan valid rules J a i has;
    first = λ a la. begin-zero plan a;
    order = λ k a lk la.
        let size = round-length plan k a in
        let at = at-place plan k a (length (body plan k a)) la lk (omega arith) in
        let more = begin-more plan k a in
        (omega arith, at.0.1, omega arith);
    issues = λ k a i lk la low high. calls-are k a i lk la low high;
    fences = λ k a lk la.
        let size = round-length plan k a in
        let room : length (body plan k a) < length (round plan k a) = omega arith in
        let at = at-place plan k a (length (body plan k a)) la lk room in
        (at.1 ∙ at-fence plan k a, epoch-is plan k a (length (body plan k a)) la lk room);
    few = λ k a b lk la lb.
        let got = get-some plan.ops k lk in
        let op = got.0 in
        let t = (within plan valid k op got.1).task in (
          link_messages k op a b,
          λ m has leg low high from to. in-link k op a b m.origin m.statement m.leg got.1 has leg low high from to,
          in-window (weigh (compiled plan) (link_messages k op a b)) (a == (patch_of op).task) (b == (patch_of op).task) (link-weight k op a b t),
        );
  }

  -- ---- round after round

  none-ready : (a : ℕ) → AllByRecursion (λ m. happened (Copied m) [] ≡ true) (ready (compiled plan) [] a)
  unfolding ready
  none-ready a =
      all-flat_map (λ _. Unit {0}) (λ m. happened (Copied m) [] ≡ true) (to_copy_of (compiled plan) [] a) (numbers_below (length (statements (compiled plan) a))) (all-any _) (λ i _.
      cond_both (is_data (statement (compiled plan) a i) && happened (Issued a i) []) (message a i Go ∷ []) (cond (has_join (statement (compiled plan) a i) && happened (Entered a i) []) (joins (compiled plan) a i) []) (AllByRecursion (λ m. happened (Copied m) [] ≡ true))
      (λ h. absurd (both_ways _ (happened-nil (Issued a i)) (and_parts (is_data (statement (compiled plan) a i)) (happened (Issued a i) []) h).1))
      (λ _. cond_both (has_join (statement (compiled plan) a i) && happened (Entered a i) []) (joins (compiled plan) a i) [] (AllByRecursion (λ m. happened (Copied m) [] ≡ true))
      (λ h. absurd (both_ways _ (happened-nil (Entered a i)) (and_parts (has_join (statement (compiled plan) a i)) (happened (Entered a i) []) h).1))
      (λ _. tt)))

  pub at-start : IsAtRound (compiled plan) rules (op_begin plan) 0 start
  unfolding next numbered has_number data_count
  at-start = record {
    settled = record {
      copied = λ a la. none-ready a;
      landed = λ m h. absurd (both_ways _ (happened-nil (Copied m)) h);
      calm = λ a b la lb. record { sent = λ m. sym (le-ltb m 0 (let q : 0 ≤ m = omega arith in q)); acked = λ m l. absurd (omega arith); once = let q : 0 ≤ 0 = omega arith in q };
    };
    place = λ a la. sym (begin-zero plan a);
    passed = λ a i h. absurd (both_ways _ (happened-nil (Entered a i)) h);
  }

  pub start-owes : Owes (compiled plan) rules start.journal
  start-owes = record { lands = λ m h. absurd (both_ways _ (happened-nil (Landed m)) h); ends = λ m h. absurd (both_ways _ (happened-nil (Ended m)) h) }

  -- a plan's script is of the first layout
  pub start-paid : IsPaid (compiled plan) rules start
  unfolding holds_back
  start-paid = (refl, λ a b. refl)

  -- ---- how many lines there are

  links_of : Run → ℕ
  links_of r = sum_to (tasks_of plan) (λ a. sum_to (tasks_of plan) (λ b. length (numbered (compiled plan) r.journal a b)))

  calls-few : (k : ℕ) → k < count plan → sum_to (tasks_of plan) (λ a. op_fence plan k a - op_begin plan k a) ≤ 9
  calls-few k lk =
      let got = get-some plan.ops k lk in
      let op = got.0 in
      let t = (patch_of op).task in
      let T = tasks_of plan in
      let most = valid.tasks.1 in
      let sum = spike-sum T t 9 0 (λ a. op_fence plan k a - op_begin plan k a) (λ a la.
      let same : op_fence plan k a - op_begin plan k a ≡ length (op_statements plan k (slice_get plan.ops k) a) = back (op_begin plan k a) (length (op_statements plan k (slice_get plan.ops k) a)) in
      let e = ap (λ x. length (op_statements plan k x a)) got.1 in
      let own = own-few plan k op in
      let most_own : length (own_statements plan k op) ≤ 9 = omega arith in
      let here : length (op_statements plan k (Some op) a) ≤ 0 + cond (a == t) 9 0 = one-task (a == t) (own_statements plan k op) most_own in
      omega arith) in
      omega arith
    where
      one-task : (x : Bool) (ss : List Statement) → length ss ≤ 9 → length (cond x ss []) ≤ 0 + cond x 9 0
      one-task true ss l = omega arith
      one-task false ss l = omega arith

  -- on all links together a round brings at most 128 numbers
  round-weight : (k : ℕ) (lk : k < count plan) (w : ℕ → ℕ → ℕ) → ((a b : ℕ) (la : a < tasks_of plan) (lb : b < tasks_of plan) → w a b ≤ weigh (compiled plan) (plan-fenced.few k a b lk la lb).0) → sum_to (tasks_of plan) (λ a. sum_to (tasks_of plan) (w a)) ≤ 128
  unfolding plan-fenced
  round-weight k lk w h =
      let got = get-some plan.ops k lk in
      let op = got.0 in
      let t = (patch_of op).task in
      let T = tasks_of plan in
      let lt = (within plan valid k op got.1).task in
      let rows = λ (a : ℕ) (la : a < T). spike-sum T t 4 (cond (a == t) 4 0 + 1) (w a) (λ b lb. let x = h a b la lb in let y = link-weight k op a b lt in turned (w a b) (weigh (compiled plan) (link_messages k op a b)) (cond (a == t) 4 0) (cond (b == t) 4 0) x y) in
      let whole = spike-sum T t (4 * T) (T + 4) (λ a. sum_to T (w a)) (λ a la. wide T (sum_to T (w a)) (a == t) (rows a la)) in
      square T (sum_to T (λ a. sum_to T (w a))) valid.tasks.1 whole
    where
      turned : (w m x y : ℕ) → w ≤ m → m ≤ x + y + 1 → w ≤ x + 1 + y
      turned w m x y a b = omega arith

      wide : (T s : ℕ) (c : Bool) → s ≤ T * (cond c 4 0 + 1) + 4 → s ≤ T + 4 + cond c (4 * T) 0
      wide T s true h = omega arith
      wide T s false h = omega arith

      square : (T s : ℕ) → T ≤ 8 → s ≤ T * (T + 4) + 4 * T → s ≤ 128
      square T s l h = let q = mul-le T (T + 4) 8 12 l (let z : T + 4 ≤ 12 = omega arith in z) in omega arith

  data-links : (r : Run) → ((a b : ℕ) → a < tasks_of plan → b < tasks_of plan → IsCalm r a b (length (numbered (compiled plan) r.journal a b))) → all_data (tasks_of plan) r ≤ links_of r
  unfolding links_of
  data-links r calm = sum-le (tasks_of plan) _ _ (λ a la. sum-le (tasks_of plan) _ _ (λ b lb. (calm a b la lb).once))

  start-links : links_of start ≤ 0
  unfolding links_of numbered
  start-links =
      let T = tasks_of plan in
      let rows = λ (a : ℕ). spike-sum T 0 0 0 (λ b. 0) (λ b lb. omega arith) in
      let sum = spike-sum T 0 0 0 (λ a. sum_to T (λ b. 0)) (λ a la. let x = rows a in let z = times-none T in omega arith) in
      let z = times-none T in
      omega arith
    where
      times-none : (n : ℕ) → n * 0 ≡ 0
      times-none n = grind arith

  links-grow : (r s : Run) (k : ℕ) (lk : k < count plan) → links_of r ≤ 128 * k → ((a b : ℕ) → (la : a < tasks_of plan) → (lb : b < tasks_of plan) → length (numbered (compiled plan) s.journal a b) ≤ length (numbered (compiled plan) r.journal a b) + weigh (compiled plan) (plan-fenced.few k a b lk la lb).0) → links_of s ≤ 128 * suc k
  unfolding links_of
  links-grow r s k lk old h =
      let T = tasks_of plan in
      let f = λ (a b : ℕ). length (numbered (compiled plan) r.journal a b) in
      let g = λ (a b : ℕ). length (numbered (compiled plan) s.journal a b) in
      let w = λ (a b : ℕ). g a b - f a b in
      let most = round-weight k lk w (λ a b la lb. less (g a b) (f a b) (weigh (compiled plan) (plan-fenced.few k a b lk la lb).0) (h a b la lb)) in
      let rows = λ (a : ℕ). sum-grow T (f a) (g a) (w a) (λ b lb. over (g a b) (f a b)) in
      let whole = sum-grow T (λ a. sum_to T (f a)) (λ a. sum_to T (g a)) (λ a. sum_to T (w a)) (λ a la. rows a) in
      next_bound (sum_to T (λ a. sum_to T (g a))) (sum_to T (λ a. sum_to T (f a))) (sum_to T (λ a. sum_to T (w a))) k whole most old
    where
      less : (g f w : ℕ) → g ≤ f + w → g - f ≤ w
      less g f w h = omega arith

      over : (g f : ℕ) → g ≤ f + (g - f)
      over g f = omega arith

      next_bound : (g f w k : ℕ) → g ≤ f + w → w ≤ 128 → f ≤ 128 * k → g ≤ 128 * suc k
      next_bound g f w k a b c = omega arith

  pub record Reached (n : ℕ) (r : Run) (acts : List Act) : Type 0 where
    pub at_round : IsAtRound (compiled plan) rules (op_begin plan) n r
    pub is_sound : SoundRun (compiled plan) rules r
    lines : length acts ≤ 57 * n + 2 * all_data (tasks_of plan) r
    links : links_of r ≤ 128 * n
    named : AllNamed (compiled plan) rules start acts

  pub all-rounds : (n : ℕ) → n ≤ count plan → Reached n (after (compiled plan) rules packet_size refusal start (plan_acts plan rules n)) (plan_acts plan rules n)
  unfolding plan_acts after
  all-rounds zero l = record { at_round = at-start; is_sound = start-sound (compiled plan) rules; lines = omega arith; links = start-links; named = tt }
  all-rounds (suc k) l =
      let acts = plan_acts plan rules k in
      let r = after (compiled plan) rules packet_size refusal start acts in
      let old = all-rounds k (omega arith) in
      let lk : k < count plan = omega arith in
      let owes = after-owes (compiled plan) rules packet_size refusal acts start start-owes in
      let d = round-done (compiled plan) rules (count plan) (op_begin plan) (op_fence plan) plan-fenced k lk r old.is_sound (after-paid (compiled plan) rules acts start start-paid) owes old.at_round in
      let more = round_acts (compiled plan) rules (op_begin plan) (op_fence plan) k r in
      let s = after (compiled plan) rules packet_size refusal r more in
      let len = length-append acts more in
      subst (λ u. Reached (suc k) u (acts ++ more)) (sym (after-join (compiled plan) rules acts more start))
      (record {
        at_round = d.begins_next;
        is_sound = d.r_sound;
        lines = sums (length (acts ++ more)) (length acts) (length more) k (all_data (tasks_of plan) r) (all_data (tasks_of plan) s) (sum_to (tasks_of plan) (λ a. op_fence plan k a - op_begin plan k a)) (tasks_of plan) len old.lines d.lines (calls-few k lk) valid.tasks.1;
        links = links-grow r s k lk old.links d.grown;
        named = named-append (compiled plan) rules acts more start old.named d.named;
      })
    where
      sums : (all x y k f g c t : ℕ) → all ≡ x + y → x ≤ 57 * k + 2 * f → y + 2 * f ≤ c + 6 * t + 2 * g → c ≤ 9 → t ≤ 8 → all ≤ 57 * suc k + 2 * g
      sums all x y k f g c t a b d e h = omega arith

-- the laws, of every valid plan
pub plans-run : PlansRun
unfolding run_of
plans-run plan valid rules =
    let z = all-rounds plan valid rules (count plan) (omega arith) in
    let r = after (compiled plan) rules packet_size refusal start (plan_acts plan rules (count plan)) in (
      λ a la. z.at_round.place a la ∙ sym (ap length (statements-are plan a la)),
      settled-quiet (compiled plan) rules (λ a i has. (or_parts (is_am (statement (compiled plan) a i)) _ (all-plain plan valid rules a i has)).0) (plan-fenced plan valid rules).no_notes r z.is_sound (after-paid (compiled plan) rules (plan_acts plan rules (count plan)) start (start-paid plan valid rules)) z.at_round.settled,
    )

pub plans-short : PlansAreShort
plans-short plan valid rules =
    let z = all-rounds plan valid rules (count plan) (omega arith) in
    let r = after (compiled plan) rules packet_size refusal start (plan_acts plan rules (count plan)) in
    let data_few = data-links plan valid rules r z.at_round.settled.calm in
    let links = z.links in
    let lines = z.lines in
    total (length (plan_acts plan rules (count plan))) (all_data (tasks_of plan) r) (links_of plan valid rules r) (count plan) lines data_few links
  where
    total : (l d o n : ℕ) → l ≤ 57 * n + 2 * d → d ≤ o → o ≤ 128 * n → l ≤ 313 * n
    total l d o n a b c = omega arith

term-below : (n : ℕ) (f : ℕ → ℕ) (k : ℕ) → k < n → f k ≤ sum_to n f
unfolding sum_to
term-below zero f k l = absurd (omega arith)
term-below (suc n) f k l =
    ⊎_elim
    (λ (lt : k < n). let h = term-below n f k lt in omega arith)
    (λ (ge : n ≤ k). let e : k ≡ n = omega arith in let h = ap f e in omega arith)
    (cases_lt k n)

link-below : (plan : Plan) (valid : ValidPlan plan) (rules : Rules) (r : Run) (a b : ℕ) → a < tasks_of plan → b < tasks_of plan → length (numbered (compiled plan) r.journal a b) ≤ links_of plan valid rules r
unfolding links_of
link-below plan valid rules r a b la lb =
    let row = term-below (tasks_of plan) (λ y. length (numbered (compiled plan) r.journal a y)) b lb in
    let whole = term-below (tasks_of plan) (λ x. sum_to (tasks_of plan) (λ y. length (numbered (compiled plan) r.journal x y))) a la in
    omega arith

empty-wire : (a b : ℕ) → length (start.wire a b) ≤ data_count (start.wire a b) + 0
unfolding data_count
empty-wire a b = omega arith

big : (w : ℕ) → w ≤ 100000 → w < 2 ^ 32
big w h = omega arith

pub plans-valid : PlansAreValid
plans-valid plan valid rules spells =
    let z = all-rounds plan valid rules (count plan) (omega arith) in
    let acts = plan_acts plan rules (count plan) in
    let r = after (compiled plan) rules packet_size refusal start acts in
    named-valid (compiled plan) rules spells acts start z.named (λ a b la lb.
    let long = all-exceeds (compiled plan) rules acts start a b 0 z.named (empty-wire a b) in
    let once = (z.at_round.settled.calm a b la lb).once in
    let link = link-below plan valid rules r a b la lb in
    let links = z.links in
    let lines = plans-short plan valid rules in
    short (length (r.wire a b)) (data_count (r.wire a b)) (length acts) (length (numbered (compiled plan) r.journal a b)) (links_of plan valid rules r) (count plan) long once link links lines valid.count)
  where
    short : (w d l o s n : ℕ) → w ≤ d + (0 + l) → d ≤ o → o ≤ s → s ≤ 128 * n → l ≤ 313 * n → n ≤ 48 → w < 2 ^ 32
    short w d l o s n a b c e f g = let q : w ≤ 100000 = omega arith in big w q
