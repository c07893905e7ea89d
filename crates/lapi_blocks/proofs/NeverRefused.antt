-- No statement of a compiled plan is refused.
use Rattle.std.proofs.Common.{◌≡◌, ◌⊎◌, ℕ, suc, ◌+◌, ◌-◌, ◌*◌, ◌/◌, ◌%◌, ◌<◌, ◌≤◌, ◌==◌, Bool, true, false, not, cond, ◌||◌, List, [], ◌∷◌, length, map, Some, None, refl, sym, ap, ◌∙◌, subst, ⊎_elim, arith}
use Rattle.std.specs.Prelude.{nat_lt, nat_le, slice_get, max, min}
use Rattle.std.specs.List.{AllByRecursion, list_any, zip}
use Rattle.std.proofs.lemmas.Bool.{or_from, lt-ltb, le-ltb, le-leb, ltb-true, and_parts}
use Rattle.std.proofs.lemmas.Nat.{mul-le}
use Rattle.std.proofs.lemmas.List.{length-map}
use Rattle.lapi_base.specs.declared.address.Addr.TheVariants.{Plain}
use Rattle.lapi_base.specs.declared.piece.Piece.{Piece}
use Rattle.lapi_base.specs.declared.vector.Vector.TheVariants.{Stride}
use Rattle.lapi_base.specs.declared.script.Script.{Script}
use Rattle.lapi_base.specs.declared.rule.Rules.{Rules}
use Rattle.lapi_base.specs.declared.statement.Statement.TheVariants.{Store, Putv, Getv, Gfence}
use Rattle.lapi_base.specs.declared.refusal.Refusal.{Refusal}
use Rattle.lapi_base.specs.declared.event.Event.{Event}
use Rattle.lapi_base.specs.Packet.Layout.{Layout, First, Second, layout_of, longest, longest_of}
use Rattle.lapi_base.specs.Record.Operations.{numbers_below, address, pieces_of, total, statement, is_gfence}
use Rattle.lapi_base.specs.Record.Refusals.{first_reason, refusal_by, refusal_of}
use Rattle.std.proofs.lemmas.List.Sums.{sum_by-cons}
use Rattle.lapi_base.proofs.BelowLaws.{below-all}
use Rattle.lapi_base.proofs.UptoLaws.{numbers_below-length}
use Rattle.lapi_base.proofs.TestLaws.{eqb-refl}
use Rattle.lapi_blocks.specs.declared.plan.Op.{Op}
use Rattle.lapi_blocks.specs.declared.plan.Op.TheVariants.{Set, Get}
use Rattle.lapi_blocks.specs.declared.plan.Plan.{Plan}
use Rattle.lapi_epochs.specs.Epochs.{Has}
use Rattle.lapi_epochs.specs.Stages.{covers}
use Rattle.lapi_blocks.specs.Plans.{patch_of, tasks_of, ValidPlan, byte_at, block_row, block_col, area, part_of, is_nonempty, moves, compiled}
use Rattle.lapi_epochs.proofs.EpochOrder.{fence-kept}
use Rattle.lapi_blocks.proofs.StridedPieces.{strided, strided-covers, covers-strided, place-below}
use Rattle.lapi_blocks.proofs.CompiledStatements.{is_set, values_of, nth-of_get, stand, IsStored, IsMoved}
use Rattle.lapi_blocks.proofs.ArrayStages.{part-lies, words-below, within, has-values, area_spans, block-low, area-place, word-lies, byte-lies}
use Rattle.lapi_blocks.proofs.StagesAreMade.{set-length}

none-of : (lines : List (Bool × Refusal)) → AllByRecursion (λ (l : Bool × Refusal). l.0 ≡ false) lines → first_reason lines ≡ None
unfolding first_reason
none-of [] h = refl
none-of (l ∷ lines) h = ap (λ b. cond b (Some l.1) (first_reason lines)) h.0 ∙ none-of lines h.1

-- ---- tests over the pieces of a stride

any-map : {X Y : Type 0} (t : Y → Bool) (f : X → Y) (P : X → Type 0) (xs : List X) → AllByRecursion P xs → ((x : X) → P x → t (f x) ≡ false) → list_any t (map f xs) ≡ false
any-map t f P [] h g = refl
any-map t f P (x ∷ xs) h g = ap (λ b. b || list_any t (map f xs)) (g x h.0) ∙ any-map t f P xs h.1 g

any-zip : {X Y : Type 0} (t : Y × Y → Bool) (f g : X → Y) (xs : List X) → ((x : X) → t (f x, g x) ≡ false) → list_any t (zip (map f xs) (map g xs)) ≡ false
any-zip t f g [] h = refl
any-zip t f g (x ∷ xs) h = ap (λ b. b || list_any t (zip (map f xs) (map g xs))) (h x) ∙ any-zip t f g xs h

stride-none : (t : Piece → Bool) (base block stride n : ℕ) → ((k : ℕ) → k < n → t (record { at = Plain (base + k * stride); len = block }) ≡ false) → list_any t (pieces_of (Stride (Plain base) block stride n)) ≡ false
unfolding pieces_of numbers_below
stride-none t base block stride n h = any-map t (λ (k : ℕ). let p : Piece = record { at = Plain (base + k * stride); len = block } in p) (λ k. (k < n) × (true ≡ true)) (numbers_below n) (below-all n (λ _. true)) (λ k l. h k l.0)

stride-lens : (b c block s r n : ℕ) → list_any (λ (pq : Piece × Piece). not (pq.0.len == pq.1.len)) (zip (pieces_of (Stride (Plain b) block s n)) (pieces_of (Stride (Plain c) block r n))) ≡ false
unfolding pieces_of
stride-lens b c block s r n = any-zip (λ (pq : Piece × Piece). not (pq.0.len == pq.1.len)) (λ (k : ℕ). let p : Piece = record { at = Plain (b + k * s); len = block } in p) (λ (k : ℕ). let p : Piece = record { at = Plain (c + k * r); len = block } in p) (numbers_below n) (λ k. ap not (eqb-refl block))

stride-count : (b block s n : ℕ) → length (pieces_of (Stride (Plain b) block s n)) ≡ length (numbers_below n)
unfolding pieces_of
stride-count b block s n = length-map (numbers_below n) (λ (k : ℕ). let p : Piece = record { at = Plain (b + k * s); len = block } in p)

total-of : (f : ℕ → Piece) (block : ℕ) (xs : List ℕ) → ((x : ℕ) → (f x).len ≡ block) → total (map f xs) ≡ length xs * block
total-of f block [] h = let z : 0 ≡ 0 * block = omega arith in z
total-of f block (x ∷ xs) h =
    sum_by-cons (λ (y : ℕ). y) (f x).len (map (λ p. p.len) (map f xs))
    ∙ ap (λ n. n + total (map f xs)) (h x)
    ∙ ap (λ n. block + n) (total-of f block xs h)
    ∙ more (length xs) block
  where
    more : (n b : ℕ) → b + n * b ≡ suc n * b
    more n b = grind arith

pub stride-total : (b block s n : ℕ) → total (pieces_of (Stride (Plain b) block s n)) ≡ n * block
unfolding pieces_of
stride-total b block s n = total-of (λ (k : ℕ). let p : Piece = record { at = Plain (b + k * s); len = block } in p) block (numbers_below n) (λ _. refl) ∙ ap (λ m. m * block) (numbers_below-length n)

-- ---- statements that the table passes

-- two strides of the same pieces that lie within the memory
pub record Good (script : Script) (w b1 s1 b2 s2 block n : ℕ) : Type 0 where
  pub task : w < script.tasks
  pub first : (k : ℕ) → k < n → b1 + k * s1 + block ≤ script.memory
  pub second : (k : ℕ) → k < n → b2 + k * s2 + block ≤ script.memory
  pub short : n * block ≤ 16384
  pub apart1 : block ≤ s1
  pub apart2 : block ≤ s2

not-below : (a b : ℕ) → a < b → not (nat_lt a b) ≡ false
not-below a b l = ap not (lt-ltb a b l)

not-within : (a b : ℕ) → a ≤ b → not (nat_le a b) ≡ false
not-within a b l = ap not (le-leb a b l)

same-lengths : (m n : ℕ) → m ≡ n → not (m == n) ≡ false
same-lengths m n e = ap (λ k. not (k == n)) e ∙ ap not (eqb-refl n)

long-by : (layout : Layout) (n : ℕ) → n ≤ 16384 → nat_lt (longest layout) n ≡ false
long-by First n l = le-ltb 16384 n l
long-by Second n l = le-ltb 65536 n (omega arith)

long-none : (script : Script) (n : ℕ) → n ≤ 16384 → nat_lt (longest_of script) n ≡ false
unfolding longest_of
long-none script n l = long-by (layout_of script.layout) n l

putv-kept : (script : Script) (rules : Rules) (J : List Event) (a i w b1 s1 b2 s2 block n : ℕ) → Good script w b1 s1 b2 s2 block n →
    statement script a i ≡ Putv w (Stride (Plain b1) block s1 n) (Stride (Plain b2) block s2 n) None None None → refusal_of script rules J a i ≡ None
unfolding refusal_of refusal_by address
putv-kept script rules J a i w b1 s1 b2 s2 block n g e =
    let long1 = long-none script _ (subst (λ m. m ≤ 16384) (sym (stride-total b1 block s1 n)) g.short) in
    let long2 = long-none script _ (subst (λ m. m ≤ 16384) (sym (stride-total b2 block s2 n)) g.short) in
    rw e
    (none-of _ (
      not-below w script.tasks g.task,
      (
        stride-none _ b1 block s1 n (λ k l. not-within (b1 + k * s1 + block) script.memory (g.first k l)),
        (
          stride-none _ b2 block s2 n (λ k l. not-within (b2 + k * s2 + block) script.memory (g.second k l)),
          (
            refl,
            (
              or_from _ _ long1 long2,
              (
                stride-none _ b1 block s1 n (λ k l. refl),
                (
                  refl,
                  (
                    refl,
                    (same-lengths _ _ (stride-count b1 block s1 n ∙ sym (stride-count b2 block s2 n)), (stride-lens b1 b2 block s1 s2 n, (or_from _ _ (le-ltb s1 block g.apart1) (le-ltb s2 block g.apart2), (refl, tt)))),
                  ),
                ),
              ),
            ),
          ),
        ),
      ),
    ))

getv-kept : (script : Script) (rules : Rules) (J : List Event) (a i w b1 s1 b2 s2 block n : ℕ) → Good script w b1 s1 b2 s2 block n →
    statement script a i ≡ Getv w (Stride (Plain b1) block s1 n) (Stride (Plain b2) block s2 n) None None → refusal_of script rules J a i ≡ None
unfolding refusal_of refusal_by address
getv-kept script rules J a i w b1 s1 b2 s2 block n g e =
    let long1 = long-none script _ (subst (λ m. m ≤ 16384) (sym (stride-total b1 block s1 n)) g.short) in
    let long2 = long-none script _ (subst (λ m. m ≤ 16384) (sym (stride-total b2 block s2 n)) g.short) in
    rw e
    (none-of _ (
      not-below w script.tasks g.task,
      (
        stride-none _ b1 block s1 n (λ k l. not-within (b1 + k * s1 + block) script.memory (g.first k l)),
        (
          stride-none _ b2 block s2 n (λ k l. not-within (b2 + k * s2 + block) script.memory (g.second k l)),
          (
            refl,
            (
              or_from _ _ long1 long2,
              (
                stride-none _ b1 block s1 n (λ k l. refl),
                (
                  refl,
                  (
                    refl,
                    (same-lengths _ _ (stride-count b1 block s1 n ∙ sym (stride-count b2 block s2 n)), (stride-lens b1 b2 block s1 s2 n, (or_from _ _ (le-ltb s2 block g.apart2) (le-ltb s1 block g.apart1), (refl, tt)))),
                  ),
                ),
              ),
            ),
          ),
        ),
      ),
    ))

store-kept : (script : Script) (rules : Rules) (J : List Event) (a i at : ℕ) (bytes : List ℕ) → at + length bytes ≤ script.memory → statement script a i ≡ Store at bytes → refusal_of script rules J a i ≡ None
unfolding refusal_of refusal_by address
store-kept script rules J a i at bytes l e =
    rw e
    (none-of _
    (refl, (refl, (or_from _ _ (not-within (at + length bytes) script.memory l) refl, (refl, (refl, (refl, (refl, (refl, (refl, (refl, (refl, (refl, tt)))))))))))))

module _ (plan : Plan) (valid : ValidPlan plan) where
  -- ---- where the two sides of a move lie

  area-low : (k : ℕ) (op : Op) (w y : ℕ) → slice_get plan.ops k ≡ Some op → covers (area_spans plan valid k (patch_of op) (part_of plan (patch_of op) w)) y ≡ true → y < 65536
  area-low k op w y e c =
      let p = patch_of op in
      let part = part_of plan p w in
      let r = strided-covers (area k + byte_at p.cols (part.row - p.row) (part.col - p.col) 0) (4 * part.cols) (4 * p.cols) part.rows y c in
      let rows = part-lies p.row p.rows (block_row plan w) plan.height r.0 r.2 in
      let cols = part-lies p.col p.cols (block_col plan w) plan.width (r.1 / 4) (word-lies plan valid part.cols r.1 r.3) in
      let low = place-below p.cols p.rows (part.row - p.row + r.0) (part.col - p.col + r.1 / 4) (r.1 % 4) rows.0 cols.0 (byte-lies plan valid r.1) in
      let size = words-below p.rows p.cols (within plan valid k op e).words.1 in
      let room = (nth-of_get plan.ops k op op e).1 in
      less k y _ _ (length plan.ops) (r.4 ∙ area-place plan valid k p part r.0 r.1) low size room valid.count
    where
      less : (k y b s n : ℕ) → y ≡ 16384 + 1024 * k + b → b < s → s ≤ 1024 → k < n → n ≤ 48 → y < 65536
      less k y b s n e l m q o = omega arith

  -- the last byte of a piece shows where the piece ends
  ends-within : (base block stride n top : ℕ) → 0 < block → ((y : ℕ) → covers (strided base block stride n) y ≡ true → y < top) → (k : ℕ) → k < n → base + k * stride + block ≤ top
  ends-within base block stride n top pos h k l =
      let last = h (base + k * stride + (block - 1)) (covers-strided base block stride n k (block - 1) l (omega arith)) in
      omega arith

  pub part-less : (row rows low size : ℕ) → (min (row + rows) (low + size) - max row low ≤ rows) × (min (row + rows) (low + size) - max row low ≤ size)
  part-less row rows low size = (omega arith, omega arith)

  four : (a b : ℕ) → a ≤ b → 4 * a ≤ 4 * b
  four a b l = omega arith

  positive : (c : ℕ) → 0 < c → 0 < 4 * c
  positive c l = omega arith

  up-to : (n m : ℕ) → n ≤ 16384 → n ≤ 65536
  up-to n m l = omega arith

  pub good : (k : ℕ) (op : Op) (w : ℕ) → slice_get plan.ops k ≡ Some op → w < tasks_of plan → is_nonempty (part_of plan (patch_of op) w) ≡ true →
      let p = patch_of op in
      let part = part_of plan p w in
      Good (compiled plan) w (byte_at plan.width (part.row - block_row plan w) (part.col - block_col plan w) 0) (4 * plan.width) (area k + byte_at p.cols (part.row - p.row) (part.col - p.col) 0) (4 * p.cols) (4 * part.cols) part.rows
  good k op w e l full =
      let p = patch_of op in
      let part = part_of plan p w in
      let inside = within plan valid k op e in
      let pos = positive part.cols (ltb-true 0 part.cols (and_parts (nat_lt 0 part.rows) (nat_lt 0 part.cols) full).1) in
      let rows = part-less p.row p.rows (block_row plan w) plan.height in
      let cols = part-less p.col p.cols (block_col plan w) plan.width in
      let words = mul-le part.rows part.cols p.rows p.cols rows.0 cols.0 in record {
        task = l;
        first = λ j lj. ends-within (byte_at plan.width (part.row - block_row plan w) (part.col - block_col plan w) 0) (4 * part.cols) (4 * plan.width) part.rows 65536 pos (λ y c. wide y (block-low plan valid p w y c)) j lj;
        second = λ j lj. ends-within (area k + byte_at p.cols (part.row - p.row) (part.col - p.col) 0) (4 * part.cols) (4 * p.cols) part.rows 65536 pos (λ y c. area-low k op w y e c) j lj;
        short = fewer part.rows part.cols (p.rows * p.cols) words inside.words.1;
        apart1 = four part.cols plan.width cols.1;
        apart2 = four part.cols p.cols cols.0;
      }
    where
      wide : (y : ℕ) → y < 16384 → y < 65536
      wide y h = omega arith

      fewer : (r c n : ℕ) → r * c ≤ n → n ≤ 256 → r * (4 * c) ≤ 16384
      fewer r c n h m = let e : r * (4 * c) ≡ 4 * (r * c) = grind arith in omega arith

  move-kept : (rules : Rules) (J : List Event) (a i k : ℕ) (op : Op) (w : ℕ) → slice_get plan.ops k ≡ Some op → w < tasks_of plan → is_nonempty (part_of plan (patch_of op) w) ≡ true → statement (compiled plan) a i ≡ moves plan k op (part_of plan (patch_of op) w) → refusal_of (compiled plan) rules J a i ≡ None
  move-kept rules J a i k (Set task row col rows cols values) w e l full s = putv-kept (compiled plan) rules J a i w _ _ _ _ _ _ (good k (Set task row col rows cols values) w e l full) s
  move-kept rules J a i k (Get task row col rows cols) w e l full s = getv-kept (compiled plan) rules J a i w _ _ _ _ _ _ (good k (Get task row col rows cols) w e l full) s

  set-kept : (rules : Rules) (J : List Event) (a i k : ℕ) (op : Op) → slice_get plan.ops k ≡ Some op → is_set op ≡ true → statement (compiled plan) a i ≡ Store (area k) (values_of op) → refusal_of (compiled plan) rules J a i ≡ None
  set-kept rules J a i k op e set s =
      let len = set-length plan valid op (has-values plan valid k op e) set in
      let room = (nth-of_get plan.ops k op op e).1 in
      store-kept (compiled plan) rules J a i (area k) (values_of op) (fits k (length (values_of op)) _ (length plan.ops) len (within plan valid k op e).words.1 room valid.count) s
    where
      fits : (k n m q : ℕ) → n ≡ 4 * m → m ≤ 256 → k < q → q ≤ 48 → 16384 + 1024 * k + n ≤ 65536
      fits k n m q e l a b = omega arith

  pub never-refused : (rules : Rules) (J : List Event) (a i : ℕ) → Has (compiled plan) a i → refusal_of (compiled plan) rules J a i ≡ None
  never-refused rules J a i has =
      let s = stand plan a i has in
      ⊎_elim
      (λ (f : statement (compiled plan) a i ≡ Gfence). fence-kept (compiled plan) rules J a i (ap is_gfence f))
      (λ (r : (a ≡ (patch_of s.op).task) × (IsStored plan s.k s.op s.o (statement (compiled plan) a i) ⊎ IsMoved plan s.k s.op s.o (statement (compiled plan) a i))).
      ⊎_elim
      (λ (st : IsStored plan s.k s.op s.o (statement (compiled plan) a i)). set-kept rules J a i s.k s.op s.is_op st.0 st.2)
      (λ (m : IsMoved plan s.k s.op s.o (statement (compiled plan) a i)). move-kept rules J a i s.k s.op m.0 s.is_op m.1 m.2 m.3)
      r.1)
      s.kind
