-- The script of a valid plan is valid: its statements are, and there are few of them.
use Rattle.std.proofs.Common.{◌≡◌, ◌⊎◌, ℕ, zero, suc, ◌+◌, ◌-◌, ◌*◌, ◌<◌, ◌≤◌, ◌==◌, true, [], ◌∷◌, ◌++◌, List, length, map, get_or, Option, Some, None, refl, sym, ◌∙◌, subst, ⊎_elim, arith}
use Rattle.std.specs.Prelude.{slice_get, nat_lt}
use Rattle.std.specs.List.{AllByRecursion}
use Rattle.std.proofs.lemmas.Bool.{and_parts, cond_both, ltb-true}
use Rattle.std.proofs.lemmas.List.{length-append, length-map, length_push}
use Rattle.lapi_base.specs.declared.address.Addr.TheVariants.{Plain}
use Rattle.lapi_base.specs.declared.vector.Vector.TheVariants.{Stride}
use Rattle.lapi_base.specs.declared.statement.Statement.{Statement}
use Rattle.lapi_base.specs.declared.statement.Statement.TheVariants.{Gfence}
use Rattle.lapi_base.specs.Record.Operations.{numbers_below, statements, statement}
use Rattle.lapi_base.specs.Record.Valid.{IsU32, IsByte, ValidVector, ValidStatement, ValidScript}
use Rattle.lapi_base.proofs.BelowLaws.{below-all}
use Rattle.lapi_base.proofs.UptoLaws.{numbers_below-length}
use Rattle.lapi_blocks.specs.declared.plan.Op.{Op}
use Rattle.lapi_blocks.specs.declared.plan.Op.TheVariants.{Set, Get}
use Rattle.lapi_blocks.specs.declared.plan.Plan.{Plan}
use Rattle.lapi_epochs.specs.Epochs.{Has}
use Rattle.lapi_blocks.specs.Plans.{patch_of, tasks_of, ValidPlan, HasValues, byte_at, block_row, block_col, area, part_of, is_nonempty, moves, own_statements, op_statements, first_statements, compiled, ScriptsAreValid, ScriptsAreShort}
use Rattle.lapi_blocks.proofs.CompiledStatements.{own-few, is_set, values_of, nth-of_get, statements-are, stand, IsStored, IsMoved}
use Rattle.lapi_blocks.proofs.ArrayStages.{within, has-values}
use Rattle.lapi_blocks.proofs.StagesAreMade.{set-length}
use Rattle.lapi_blocks.proofs.NeverRefused.{good, part-less}

-- ---- numbers and lists

u32 : (n : ℕ) → n ≤ 65536 → IsU32 n
u32 n l = omega arith

stride-valid : (base block stride count : ℕ) → 1 ≤ count → count ≤ 16 → stride ≤ 65536 → ((k : ℕ) → k < count → base + k * stride + block ≤ 65536) → ValidVector (Stride (Plain base) block stride count)
stride-valid base block stride count some few wide h =
    let z = h 0 (omega arith) in (some, few, u32 base (omega arith), u32 block (omega arith), u32 stride wide)

-- what each place keeps, all keep
all-of_nth : {X : Type 0} (P : X → Type 0) (xs : List X) (d : X) → ((i : ℕ) → i < length xs → P (get_or xs i d)) → AllByRecursion P xs
all-of_nth P [] d h = tt
all-of_nth P (x ∷ xs) d h = (h 0 (omega arith), all-of_nth P xs d (λ i l. h (suc i) (omega arith)))

rows-some : (rows cols : ℕ) → 1 ≤ rows * cols → 1 ≤ rows
rows-some zero cols l = absurd (omega arith)
rows-some (suc r) cols l = omega arith

-- columns of a patch with few words
cols-few : (rows cols : ℕ) → 1 ≤ rows * cols → rows * cols ≤ 256 → 4 * cols ≤ 65536
cols-few zero cols l m = absurd (omega arith)
cols-few (suc r) cols l m = let e : suc r * cols ≡ cols + r * cols = grind arith in omega arith

module _ (plan : Plan) (valid : ValidPlan plan) where
  -- ---- how many

  op-few : (k : ℕ) (o : Option Op) (t : ℕ) → length (op_statements plan k o t) ≤ 9
  op-few k None t = omega arith
  op-few k (Some op) t = cond_both (t == (patch_of op).task) (own_statements plan k op) [] (λ xs. length xs ≤ 9) (λ _. let own = own-few plan k op in let most = valid.tasks.1 in omega arith) (λ _. omega arith)

  first-few : (n t : ℕ) → length (first_statements plan n t) ≤ 10 * n
  unfolding first_statements
  first-few zero t = omega arith
  first-few (suc k) t =
      let body = op_statements plan k (slice_get plan.ops k) t in
      let whole = length-append (first_statements plan k t) (body ++ Gfence ∷ []) in
      let one = length_push body Gfence in
      let few = op-few k (slice_get plan.ops k) t in
      let old = first-few k t in
      sums (length (first_statements plan k t ++ (body ++ Gfence ∷ []))) (length (first_statements plan k t)) (length (body ++ Gfence ∷ [])) (length body) k whole one few old
    where
      sums : (all f m b k : ℕ) → all ≡ f + m → m ≡ b + 1 → b ≤ 9 → f ≤ 10 * k → all ≤ 10 * suc k
      sums all f m b k p q r s = omega arith

  -- ---- each statement

  bytes-of : (op : Op) → HasValues op → is_set op ≡ true → AllByRecursion IsByte (values_of op)
  bytes-of (Set task row col rows cols values) h s = h.1
  bytes-of (Get task row col rows cols) h s = tt

  store-valid : (k : ℕ) (op : Op) → slice_get plan.ops k ≡ Some op → is_set op ≡ true → ValidStatement (Statement.Store (area k) (values_of op))
  store-valid k op e set =
      let len = set-length plan valid op (has-values plan valid k op e) set in
      let words = (within plan valid k op e).words in
      let room = (nth-of_get plan.ops k op op e).1 in
      (u32 (area k) (low k (length plan.ops) room valid.count), some _ _ len words.0, few _ _ len words.1, bytes-of op (has-values plan valid k op e) set)
    where
      low : (k n : ℕ) → k < n → n ≤ 48 → 16384 + 1024 * k ≤ 65536
      low k n a b = omega arith

      some : (l m : ℕ) → l ≡ 4 * m → 1 ≤ m → 1 ≤ l
      some l m a b = omega arith

      few : (l m : ℕ) → l ≡ 4 * m → m ≤ 256 → l ≤ 1024
      few l m a b = omega arith

  -- both sides of a move
  sides-valid : (k : ℕ) (op : Op) (w : ℕ) → slice_get plan.ops k ≡ Some op → w < tasks_of plan → is_nonempty (part_of plan (patch_of op) w) ≡ true →
      let p = patch_of op in
      let part = part_of plan p w in
      IsU32 w
      × ValidVector (Stride (Plain (byte_at plan.width (part.row - block_row plan w) (part.col - block_col plan w) 0)) (4 * part.cols) (4 * plan.width) part.rows)
      × ValidVector (Stride (Plain (area k + byte_at p.cols (part.row - p.row) (part.col - p.col) 0)) (4 * part.cols) (4 * p.cols) part.rows)
  sides-valid k op w e l full =
      let p = patch_of op in
      let part = part_of plan p w in
      let g = good plan valid k op w e l full in
      let words = (within plan valid k op e).words in
      let some = ltb-true 0 part.rows (and_parts (nat_lt 0 part.rows) (nat_lt 0 part.cols) full).0 in
      let few = (part-less plan valid p.row p.rows (block_row plan w) plan.height).1 in (
        u32 w (task w _ l valid.tasks.1),
        stride-valid _ _ _ _ some (high _ _ few valid.height.1) (wide plan.width valid.width.1) g.first,
        stride-valid _ _ _ _ some (high _ _ few valid.height.1) (cols-few p.rows p.cols words.0 words.1) g.second,
      )
    where
      task : (w n : ℕ) → w < n → n ≤ 8 → w ≤ 65536
      task w n a b = omega arith

      high : (r h : ℕ) → r ≤ h → h ≤ 16 → r ≤ 16
      high r h a b = omega arith

      wide : (w : ℕ) → w ≤ 256 → 4 * w ≤ 65536
      wide w a = omega arith

  move-valid : (k : ℕ) (op : Op) (w : ℕ) → slice_get plan.ops k ≡ Some op → w < tasks_of plan → is_nonempty (part_of plan (patch_of op) w) ≡ true → ValidStatement (moves plan k op (part_of plan (patch_of op) w))
  move-valid k (Set task row col rows cols values) w e l full = let s = sides-valid k (Set task row col rows cols values) w e l full in (s.0, s.1, s.2, tt, tt, tt, tt)
  move-valid k (Get task row col rows cols) w e l full = let s = sides-valid k (Get task row col rows cols) w e l full in (s.0, s.1, s.2, tt, tt, tt)

  statement-valid : (a i : ℕ) → Has (compiled plan) a i → ValidStatement (statement (compiled plan) a i)
  statement-valid a i has =
      let s = stand plan a i has in
      ⊎_elim
      (λ (f : statement (compiled plan) a i ≡ Gfence). subst ValidStatement (sym f) tt)
      (λ (r : (a ≡ (patch_of s.op).task) × (IsStored plan s.k s.op s.o (statement (compiled plan) a i) ⊎ IsMoved plan s.k s.op s.o (statement (compiled plan) a i))).
      ⊎_elim
      (λ (st : IsStored plan s.k s.op s.o (statement (compiled plan) a i)). subst ValidStatement (sym st.2) (store-valid s.k s.op s.is_op st.0))
      (λ (m : IsMoved plan s.k s.op s.o (statement (compiled plan) a i)). subst ValidStatement (sym m.3) (move-valid s.k s.op m.0 s.is_op m.1 m.2))
      r.1)
      s.kind

  -- ---- all lists

  list-valid : (a : ℕ) → a < tasks_of plan → (length (first_statements plan (length plan.ops) a) ≤ 512) × AllByRecursion ValidStatement (first_statements plan (length plan.ops) a)
  unfolding statement
  list-valid a l = (
    small _ _ (first-few (length plan.ops) a) valid.count,
    subst (AllByRecursion ValidStatement) (statements-are plan a l) (all-of_nth ValidStatement (statements (compiled plan) a) Statement.Fence (λ i li. statement-valid a i (l, li))),
  )
    where
      small : (l n : ℕ) → l ≤ 10 * n → n ≤ 48 → l ≤ 512
      small l n a b = omega arith

  lists-valid : (ts : List ℕ) → AllByRecursion (λ t. (t < tasks_of plan) × (true ≡ true)) ts → AllByRecursion (λ (xs : List Statement). (length xs ≤ 512) × AllByRecursion ValidStatement xs) (map (first_statements plan (length plan.ops)) ts)
  lists-valid [] h = tt
  lists-valid (t ∷ ts) h = (list-valid t h.0.0, lists-valid ts h.1)

  script-valid : ValidScript (compiled plan)
  unfolding numbers_below
  script-valid = record {
    layout = refl;
    tasks = valid.tasks;
    memory = (omega arith, omega arith, refl);
    counters = omega arith;
    workers = (omega arith, omega arith);
    one_list_each = length-map (numbers_below (tasks_of plan)) (first_statements plan (length plan.ops)) ∙ numbers_below-length (tasks_of plan);
    lists = lists-valid (numbers_below (tasks_of plan)) (below-all (tasks_of plan) (λ _. true));
  }

-- the laws
pub scripts-valid : ScriptsAreValid
scripts-valid plan valid = script-valid plan valid

pub scripts-short : ScriptsAreShort
scripts-short plan valid t l = subst (λ xs. length xs ≤ 10 * length plan.ops) (sym (statements-are plan t l)) (first-few plan valid (length plan.ops) t)
