-- What the memories of a compiled plan's tasks hold after each operation.
use Rattle.std.proofs.Common.{◌≡◌, ℕ, suc, ◌+◌, ◌-◌, ◌*◌, ◌/◌, ◌%◌, ◌<◌, ◌≤◌, ◌==◌, Bool, true, false, cond, ◌&&◌, List, length, Option, Some, None, refl, sym, ap, ◌∙◌, subst, arith}
use Rattle.std.specs.Prelude.{nat_lt, nat_le, slice_get, slice_index, max, min, unwrap_or}
use Rattle.std.proofs.lemmas.Bool.{false≢true, and_parts, and_from, cond-true, cond-false, ltb-true, lt-ltb, le-ltb, le-leb, leb-true}
use Rattle.std.proofs.lemmas.Nat.{mul-le, mul-add-lt, div-mul-add, mod-mul-add, div_below, div-add-mod', mod_below}
use Rattle.lapi_base.specs.declared.span.Span.{Span}
use Rattle.lapi_base.specs.declared.statement.Statement.TheVariants.{Store, Gfence}
use Rattle.lapi_base.specs.Record.Operations.{address, target_of, statement, spans, target, is_data, one_span}
use Rattle.lapi_base.specs.Record.Values.{Memories, gathered}
use Rattle.lapi_base.proofs.TestLaws.{eqb-refl}
use Rattle.lapi_base.proofs.ListLaws.{all-get}
use Rattle.lapi_blocks.specs.declared.plan.Op.{Op}
use Rattle.lapi_blocks.specs.declared.plan.Op.TheVariants.{Set, Get}
use Rattle.lapi_blocks.specs.declared.plan.Plan.{Plan}
use Rattle.lapi_epochs.specs.Stages.{is_store, read_pieces, written_pieces, goes, comes, covers, reads_from, reads_at, writes_to, writes_at}
use Rattle.lapi_blocks.specs.declared.patch.Patch.{Patch}
use Rattle.lapi_blocks.specs.Plans.{patch_of, tasks_of, IsWithin, ValidPlan, HasValues, byte_at, in_patch, after_op, plain, block_row, block_col, owner, area, part_of, is_nonempty, moves, compiled}
use Rattle.lapi_epochs.proofs.GatheredPieces.{covers-none}
use Rattle.lapi_blocks.proofs.StridedPieces.{strided, stride-spans, strided-covers, covers-strided, strided-same, by_rows, by_rows-at, place-below, place-shift}
use Rattle.lapi_blocks.proofs.CompiledStatements.{is_set, values_of}

-- ---- numbers

pub back : (a b : ℕ) → a + b - a ≡ b
back a b = omega arith

-- a part's rows, or its columns, lie in the patch and in the block
pub part-lies : (row rows low size k : ℕ) → k < min (row + rows) (low + size) - max row low →
    (max row low - row + k < rows) × (max row low - low + k < size) × (row + (max row low - row + k) ≡ max row low + k) × (low + (max row low - low + k) ≡ max row low + k)
part-lies row rows low size k l = (omega arith, omega arith, omega arith, omega arith)

-- and what lies in both lies in the part
pub in-part : (row rows low size r : ℕ) → row ≤ r → r < row + rows → low ≤ r → r < low + size → (max row low ≤ r) × (r - max row low < min (row + rows) (low + size) - max row low)
in-part row rows low size r a b c d = (omega arith, omega arith)

pub words-below : (rows cols : ℕ) → rows * cols ≤ 256 → 4 * (cols * rows) ≤ 1024
words-below rows cols h = let e : cols * rows ≡ rows * cols = grind arith in omega arith

module _ (plan : Plan) where
  -- byte y of the area of operation n, and byte x of a block
  abbrev pub area_byte : (k n : ℕ) → Option Op → (t y : ℕ) → ℕ
  area_byte k n None t y = 0
  area_byte k n (Some op) t y =
      cond (nat_lt n k && (t == (patch_of op).task && nat_lt y (4 * ((patch_of op).cols * (patch_of op).rows))))
      (by_rows (patch_of op).cols (λ u v b. plain plan.ops (suc n) ((patch_of op).row + u) ((patch_of op).col + v) b) y) 0

  abbrev pub block_byte : (k t x : ℕ) → ℕ
  block_byte k t x = cond (nat_lt t (tasks_of plan) && nat_lt x (4 * (plan.width * plan.height))) (by_rows plan.width (λ u v b. plain plan.ops k (block_row plan t + u) (block_col plan t + v) b) x) 0

  pub stage : ℕ → Memories
  stage k t x = cond (nat_lt x 16384) (block_byte k t x) (area_byte k ((x - 16384) / 1024) (slice_get plan.ops ((x - 16384) / 1024)) t ((x - 16384) % 1024))

  pub stage-block : (k t x : ℕ) → x < 16384 → stage k t x ≡ block_byte k t x
  unfolding stage
  stage-block k t x l = cond-true (nat_lt x 16384) _ _ (lt-ltb x 16384 l)

  pub stage-area : (k n t y : ℕ) → y < 1024 → stage k t (area n + y) ≡ area_byte k n (slice_get plan.ops n) t y
  unfolding stage
  stage-area k n t y l =
      let x = area n + y in
      let high : 16384 ≤ x = omega arith in
      let e : (x - 16384) / 1024 ≡ n = omega arith in
      let f : (x - 16384) % 1024 ≡ y = omega arith in
      cond-false (nat_lt x 16384) _ _ (le-ltb x 16384 high)
      ∙ ap (λ m. area_byte k m (slice_get plan.ops m) t ((x - 16384) % 1024)) e
      ∙ ap (area_byte k n (slice_get plan.ops n) t) f

  module _ (valid : ValidPlan plan) where
    pub block-size : 4 * (plan.width * plan.height) ≤ 16384
    block-size = let h = mul-le plan.width plan.height 256 16 valid.width.1 valid.height.1 in omega arith

    pub within : (k : ℕ) (op : Op) → slice_get plan.ops k ≡ Some op → IsWithin plan (patch_of op)
    within k op e = all-get (λ x. IsWithin plan (patch_of x)) plan.ops k op valid.patches e

    pub has-values : (k : ℕ) (op : Op) → slice_get plan.ops k ≡ Some op → HasValues op
    has-values k op e = all-get HasValues plan.ops k op valid.values e

    -- the words of a block
    pub at-block : (k t u v b : ℕ) → t < tasks_of plan → u < plan.height → v < plan.width → b < 4 → stage k t (byte_at plan.width u v b) ≡ plain plan.ops k (block_row plan t + u) (block_col plan t + v) b
    at-block k t u v b lt lu lv lb =
        let x = byte_at plan.width u v b in
        let size = block-size in
        let low = place-below plan.width plan.height u v b lu lv lb in
        stage-block k t x (omega arith)
        ∙ cond-true (nat_lt t (tasks_of plan) && nat_lt x (4 * (plan.width * plan.height))) _ 0 (and_from _ _ (lt-ltb t (tasks_of plan) lt) (lt-ltb x (4 * (plan.width * plan.height)) low))
        ∙ by_rows-at plan.width (λ u v b. plain plan.ops k (block_row plan t + u) (block_col plan t + v) b) u v b lv lb

    -- the words of an area
    pub at-area : (k n : ℕ) (op : Op) (u v b : ℕ) → slice_get plan.ops n ≡ Some op → n < k → u < (patch_of op).rows → v < (patch_of op).cols → b < 4 →
        stage k (patch_of op).task (area n + byte_at (patch_of op).cols u v b) ≡ plain plan.ops (suc n) ((patch_of op).row + u) ((patch_of op).col + v) b
    at-area k n op u v b e l lu lv lb =
        let p = patch_of op in
        let y = byte_at p.cols u v b in
        let size = words-below p.rows p.cols (within n op e).words.1 in
        let low = place-below p.cols p.rows u v b lu lv lb in
        stage-area k n p.task y (omega arith)
        ∙ ap (λ o. area_byte k n o p.task y) e
        ∙ cond-true (nat_lt n k && (p.task == p.task && nat_lt y (4 * (p.cols * p.rows)))) _ 0 (and_from _ _ (lt-ltb n k l) (and_from _ _ (eqb-refl p.task) (lt-ltb y (4 * (p.cols * p.rows)) low)))
        ∙ by_rows-at p.cols (λ u v b. plain plan.ops (suc n) (p.row + u) (p.col + v) b) u v b lv lb

    -- ---- the two sides of a move

    abbrev pub area_spans : (k : ℕ) → (p part : Patch) → List Span
    area_spans k p part = strided (area k + byte_at p.cols (part.row - p.row) (part.col - p.col) 0) (4 * part.cols) (4 * p.cols) part.rows

    abbrev pub block_spans : (part : Patch) → List Span
    block_spans part = strided (byte_at plan.width (part.row - block_row plan part.task) (part.col - block_col plan part.task) 0) (4 * part.cols) (4 * plan.width) part.rows

    pub area-place : (k : ℕ) (p part : Patch) (j z : ℕ) → area k + byte_at p.cols (part.row - p.row) (part.col - p.col) 0 + j * (4 * p.cols) + z ≡ area k + byte_at p.cols (part.row - p.row + j) (part.col - p.col + z / 4) (z % 4)
    area-place k p part j z =
        let s = place-shift p.cols (part.row - p.row) (part.col - p.col) j (z / 4) (z % 4) in
        let e : z ≡ 4 * (z / 4) + z % 4 = omega arith in
        let q = byte_at p.cols (part.row - p.row) (part.col - p.col) 0 in
        let m = j * (4 * p.cols) in
        let whole : byte_at p.cols (part.row - p.row + j) (part.col - p.col + z / 4) (z % 4) ≡ q + m + z = s ∙ ap (λ n. q + m + n) (sym e) in
        regroup (area k) q m z ∙ ap (λ n. area k + n) (sym whole)
      where
        regroup : (a q m z : ℕ) → a + q + m + z ≡ a + (q + m + z)
        regroup a q m z = omega arith

    block-place : (part : Patch) (j z : ℕ) → byte_at plan.width (part.row - block_row plan part.task) (part.col - block_col plan part.task) 0 + j * (4 * plan.width) + z ≡ byte_at plan.width (part.row - block_row plan part.task + j) (part.col - block_col plan part.task + z / 4) (z % 4)
    block-place part j z =
        let e : 4 * (z / 4) + z % 4 ≡ z = omega arith in
        sym (place-shift plan.width (part.row - block_row plan part.task) (part.col - block_col plan part.task) j (z / 4) (z % 4) ∙ ap (λ n. byte_at plan.width (part.row - block_row plan part.task) (part.col - block_col plan part.task) 0 + j * (4 * plan.width) + n) e)

    pub word-lies : (c z : ℕ) → z < 4 * c → z / 4 < c
    word-lies c z l = omega arith

    pub byte-lies : (z : ℕ) → z % 4 < 4
    byte-lies z = omega arith

    -- after its operation both sides hold the same words of the array
    pub sides-agree : (k : ℕ) (op : Op) (w : ℕ) → slice_get plan.ops k ≡ Some op → w < tasks_of plan →
        gathered (stage (suc k)) (patch_of op).task (area_spans k (patch_of op) (part_of plan (patch_of op) w)) ≡ gathered (stage (suc k)) w (block_spans (part_of plan (patch_of op) w))
    sides-agree k op w e l =
        let p = patch_of op in
        let part = part_of plan p w in
        strided-same (stage (suc k)) (stage (suc k)) p.task w
        (area k + byte_at p.cols (part.row - p.row) (part.col - p.col) 0) (byte_at plan.width (part.row - block_row plan w) (part.col - block_col plan w) 0)
        (4 * part.cols) (4 * p.cols) (4 * plan.width) part.rows
        (λ j z lj lz.
        let rows = part-lies p.row p.rows (block_row plan w) plan.height j lj in
        let cols = part-lies p.col p.cols (block_col plan w) plan.width (z / 4) (word-lies part.cols z lz) in
        ap (stage (suc k) p.task) (area-place k p part j z)
        ∙ at-area (suc k) k op (part.row - p.row + j) (part.col - p.col + z / 4) (z % 4) e (omega arith) rows.0 cols.0 (byte-lies z)
        ∙ ap (λ r. plain plan.ops (suc k) r (p.col + (part.col - p.col + z / 4)) (z % 4)) (rows.2 ∙ sym rows.3)
        ∙ ap (λ c. plain plan.ops (suc k) (block_row plan w + (part.row - block_row plan w + j)) c (z % 4)) (cols.2 ∙ sym cols.3)
        ∙ sym (at-block (suc k) w (part.row - block_row plan w + j) (part.col - block_col plan w + z / 4) (z % 4) l rows.1 cols.1 (byte-lies z))
        ∙ ap (stage (suc k) w) (sym (block-place part j z)))

    -- an area lies above all blocks, and a block below
    pub area-high : (k : ℕ) (p part : Patch) (y : ℕ) → covers (area_spans k p part) y ≡ true → 16384 ≤ y
    area-high k p part y c =
        let r = strided-covers (area k + byte_at p.cols (part.row - p.row) (part.col - p.col) 0) (4 * part.cols) (4 * p.cols) part.rows y c in
        at-least k (byte_at p.cols (part.row - p.row) (part.col - p.col) 0) (r.0 * (4 * p.cols)) r.1 y r.4
      where
        at-least : (k q m z y : ℕ) → y ≡ 16384 + 1024 * k + q + m + z → 16384 ≤ y
        at-least k q m z y e = omega arith

    pub block-low : (p : Patch) (w y : ℕ) → covers (block_spans (part_of plan p w)) y ≡ true → y < 16384
    block-low p w y c =
        let part = part_of plan p w in
        let r = strided-covers (byte_at plan.width (part.row - block_row plan w) (part.col - block_col plan w) 0) (4 * part.cols) (4 * plan.width) part.rows y c in
        let rows = part-lies p.row p.rows (block_row plan w) plan.height r.0 r.2 in
        let cols = part-lies p.col p.cols (block_col plan w) plan.width (r.1 / 4) (word-lies part.cols r.1 r.3) in
        let low = place-below plan.width plan.height (part.row - block_row plan w + r.0) (part.col - block_col plan w + r.1 / 4) (r.1 % 4) rows.1 cols.1 (byte-lies r.1) in
        let size = block-size in
        let e = r.4 ∙ block-place part r.0 r.1 in
        less y _ _ e low size
      where
        less : (y b s : ℕ) → y ≡ b → b < s → s ≤ 16384 → y < 16384
        less y b s e l m = omega arith

    -- ---- statements of the script

    pub record Sides (a i k : ℕ) (p part : Patch) (set : Bool) : Type 0 where
      pub operates : is_data (statement (compiled plan) a i) ≡ true
      pub from : reads_from (compiled plan) a i ≡ cond set a part.task
      pub read : reads_at (compiled plan) a i ≡ cond set (area_spans k p part) (block_spans part)
      pub to : writes_to (compiled plan) a i ≡ cond set part.task a
      pub wrote : writes_at (compiled plan) a i ≡ cond set (block_spans part) (area_spans k p part)

    pub sides : (a i k : ℕ) (op : Op) (part : Patch) → statement (compiled plan) a i ≡ moves plan k op part → Sides a i k (patch_of op) part (is_set op)
    sides a i k (Set task row col rows cols values) part e =
        let script = compiled plan in
        let p = patch_of (Set task row col rows cols values) in record {
          operates = ap is_data e;
          from = ap (λ s. cond (comes s) (target script a i) a) e;
          read = ap (λ s. spans script (target script a i) (read_pieces s)) e ∙ stride-spans script (target script a i) (area k + byte_at p.cols (part.row - p.row) (part.col - p.col) 0) (4 * part.cols) (4 * p.cols) part.rows;
          to = ap (λ s. cond (goes s) (unwrap_or (target_of s) a) a) e;
          wrote = ap (λ s. spans script (target script a i) (written_pieces s)) e ∙ stride-spans script (target script a i) (byte_at plan.width (part.row - block_row plan part.task) (part.col - block_col plan part.task) 0) (4 * part.cols) (4 * plan.width) part.rows;
        }
    sides a i k (Get task row col rows cols) part e =
        let script = compiled plan in
        let p = patch_of (Get task row col rows cols) in record {
          operates = ap is_data e;
          from = ap (λ s. cond (comes s) (unwrap_or (target_of s) a) a) e;
          read = ap (λ s. spans script (target script a i) (read_pieces s)) e ∙ stride-spans script (target script a i) (byte_at plan.width (part.row - block_row plan part.task) (part.col - block_col plan part.task) 0) (4 * part.cols) (4 * plan.width) part.rows;
          to = ap (λ s. cond (goes s) (target script a i) a) e;
          wrote = ap (λ s. spans script (target script a i) (written_pieces s)) e ∙ stride-spans script (target script a i) (area k + byte_at p.cols (part.row - p.row) (part.col - p.col) 0) (4 * part.cols) (4 * p.cols) part.rows;
        }

    pub store-sides : (a i at : ℕ) (bytes : List ℕ) → statement (compiled plan) a i ≡ Store at bytes → (writes_to (compiled plan) a i ≡ a) × (writes_at (compiled plan) a i ≡ one_span at (length bytes))
    unfolding address
    store-sides a i at bytes e = let script = compiled plan in (ap (λ s. cond (goes s) (target script a i) a) e, ap (λ s. spans script (target script a i) (written_pieces s)) e)

    pub fence-writes : (a i x : ℕ) → statement (compiled plan) a i ≡ Gfence → covers (writes_at (compiled plan) a i) x ≡ false
    fence-writes a i x e = ap (λ s. covers (spans (compiled plan) (target (compiled plan) a i) (written_pieces s)) x) e ∙ covers-none x

    pub moves-no_store : (k : ℕ) (op : Op) (part : Patch) → is_store (moves plan k op part) ≡ false
    moves-no_store k (Set task row col rows cols values) part = refl
    moves-no_store k (Get task row col rows cols) part = refl

    -- ---- the array after one operation more

    pub plain-none : (k r c b : ℕ) → slice_get plan.ops k ≡ None → plain plan.ops (suc k) r c b ≡ plain plan.ops k r c b
    unfolding plain
    plain-none k r c b e = ap (λ o. after_op o (plain plan.ops k) r c b) e

    pub plain-get : (k : ℕ) (op : Op) (r c b : ℕ) → slice_get plan.ops k ≡ Some op → is_set op ≡ false → plain plan.ops (suc k) r c b ≡ plain plan.ops k r c b
    unfolding plain
    plain-get k (Set task row col rows cols values) r c b e h = absurd (false≢true (sym h))
    plain-get k (Get task row col rows cols) r c b e h = ap (λ o. after_op o (plain plan.ops k) r c b) e

    pub plain-other : (k : ℕ) (op : Op) (r c b : ℕ) → slice_get plan.ops k ≡ Some op → in_patch (patch_of op) r c ≡ false → plain plan.ops (suc k) r c b ≡ plain plan.ops k r c b
    unfolding plain
    plain-other k (Set task row col rows cols values) r c b e h = ap (λ o. after_op o (plain plan.ops k) r c b) e ∙ cond-false (in_patch (patch_of (Set task row col rows cols values)) r c) _ _ h
    plain-other k (Get task row col rows cols) r c b e h = ap (λ o. after_op o (plain plan.ops k) r c b) e

    pub plain-set : (k : ℕ) (op : Op) (r c b : ℕ) → slice_get plan.ops k ≡ Some op → is_set op ≡ true → in_patch (patch_of op) r c ≡ true → plain plan.ops (suc k) r c b ≡ slice_index (values_of op) (byte_at (patch_of op).cols (r - (patch_of op).row) (c - (patch_of op).col) b)
    unfolding plain
    plain-set k (Set task row col rows cols values) r c b e s h = ap (λ o. after_op o (plain plan.ops k) r c b) e ∙ cond-true (in_patch (patch_of (Set task row col rows cols values)) r c) _ _ h
    plain-set k (Get task row col rows cols) r c b e s h = absurd (false≢true s)

    pub in_patch-at : (p : Patch) (u v : ℕ) → u < p.rows → v < p.cols → in_patch p (p.row + u) (p.col + v) ≡ true
    in_patch-at p u v lu lv = and_from _ _ (and_from _ _ (le-leb p.row (p.row + u) (omega arith)) (lt-ltb (p.row + u) (p.row + p.rows) (omega arith))) (and_from _ _ (le-leb p.col (p.col + v) (omega arith)) (lt-ltb (p.col + v) (p.col + p.cols) (omega arith)))

    pub in_patch-of : (p : Patch) (r c : ℕ) → in_patch p r c ≡ true → (p.row ≤ r) × (r < p.row + p.rows) × (p.col ≤ c) × (c < p.col + p.cols)
    in_patch-of p r c h =
        let a = and_parts (nat_le p.row r && nat_lt r (p.row + p.rows)) (nat_le p.col c && nat_lt c (p.col + p.cols)) h in
        let b = and_parts (nat_le p.row r) (nat_lt r (p.row + p.rows)) a.0 in
        let d = and_parts (nat_le p.col c) (nat_lt c (p.col + p.cols)) a.1 in
        (leb-true p.row r b.0, ltb-true r (p.row + p.rows) b.1, leb-true p.col c d.0, ltb-true c (p.col + p.cols) d.1)

    -- ---- what moves cover

    offset : (first low r : ℕ) → low ≤ first → first ≤ r → first - low + (r - first) ≡ r - low
    offset first low r a b = omega arith

    low-max : (row low : ℕ) → (row ≤ max row low) × (low ≤ max row low)
    low-max row low = (omega arith, omega arith)

    nonempty-from : (part : Patch) (i j : ℕ) → i < part.rows → j < part.cols → is_nonempty part ≡ true
    nonempty-from part i j a b = and_from _ _ (lt-ltb 0 part.rows (omega arith)) (lt-ltb 0 part.cols (omega arith))

    -- word (r, c) lies in the patch and in the block of w
    pub record Lies (p : Patch) (w r c : ℕ) : Type 0 where
      pub above : p.row ≤ r
      pub over : r < p.row + p.rows
      pub left : p.col ≤ c
      pub right : c < p.col + p.cols
      pub row_from : block_row plan w ≤ r
      pub row_to : r < block_row plan w + plan.height
      pub col_from : block_col plan w ≤ c
      pub col_to : c < block_col plan w + plan.width

    pub lies-nonempty : (p : Patch) (w r c : ℕ) → Lies p w r c → is_nonempty (part_of plan p w) ≡ true
    lies-nonempty p w r c h =
        let rows = in-part p.row p.rows (block_row plan w) plan.height r h.above h.over h.row_from h.row_to in
        let cols = in-part p.col p.cols (block_col plan w) plan.width c h.left h.right h.col_from h.col_to in
        nonempty-from (part_of plan p w) _ _ rows.1 cols.1

    pub block-covered : (p : Patch) (w r c b : ℕ) → Lies p w r c → b < 4 → covers (block_spans (part_of plan p w)) (byte_at plan.width (r - block_row plan w) (c - block_col plan w) b) ≡ true
    block-covered p w r c b h lb =
        let part = part_of plan p w in
        let rows = in-part p.row p.rows (block_row plan w) plan.height r h.above h.over h.row_from h.row_to in
        let cols = in-part p.col p.cols (block_col plan w) plan.width c h.left h.right h.col_from h.col_to in
        let j = r - part.row in
        let z = 4 * (c - part.col) + b in
        let zl : z < 4 * part.cols = below-row (c - part.col) part.cols b cols.1 lb in
        let word : z / 4 ≡ c - part.col = word-at (c - part.col) b lb in
        let byte : z % 4 ≡ b = byte-in (c - part.col) b lb in
        let ru = offset part.row (block_row plan w) r (low-max p.row (block_row plan w)).1 rows.0 in
        let cu = offset part.col (block_col plan w) c (low-max p.col (block_col plan w)).1 cols.0 in
        subst (λ x. covers (block_spans part) x ≡ true)
        (block-place part j z
        ∙ ap (λ u. byte_at plan.width u (part.col - block_col plan w + z / 4) (z % 4)) ru
        ∙ ap (λ v. byte_at plan.width (r - block_row plan w) v (z % 4)) (ap (λ n. part.col - block_col plan w + n) word ∙ cu)
        ∙ ap (byte_at plan.width (r - block_row plan w) (c - block_col plan w)) byte)
        (covers-strided (byte_at plan.width (part.row - block_row plan w) (part.col - block_col plan w) 0) (4 * part.cols) (4 * plan.width) part.rows j z rows.1 zl)
      where
        below-row : (v n b : ℕ) → v < n → b < 4 → 4 * v + b < 4 * n
        below-row v n b l m = omega arith

        word-at : (v b : ℕ) → b < 4 → (4 * v + b) / 4 ≡ v
        word-at v b l = omega arith

        byte-in : (v b : ℕ) → b < 4 → (4 * v + b) % 4 ≡ b
        byte-in v b l = omega arith

    pub area-covered : (k : ℕ) (p : Patch) (w r c b : ℕ) → Lies p w r c → b < 4 → covers (area_spans k p (part_of plan p w)) (area k + byte_at p.cols (r - p.row) (c - p.col) b) ≡ true
    area-covered k p w r c b h lb =
        let part = part_of plan p w in
        let rows = in-part p.row p.rows (block_row plan w) plan.height r h.above h.over h.row_from h.row_to in
        let cols = in-part p.col p.cols (block_col plan w) plan.width c h.left h.right h.col_from h.col_to in
        let j = r - part.row in
        let z = 4 * (c - part.col) + b in
        let zl : z < 4 * part.cols = below-row (c - part.col) part.cols b cols.1 lb in
        let word : z / 4 ≡ c - part.col = word-at (c - part.col) b lb in
        let byte : z % 4 ≡ b = byte-in (c - part.col) b lb in
        let ru = offset part.row p.row r (low-max p.row (block_row plan w)).0 rows.0 in
        let cu = offset part.col p.col c (low-max p.col (block_col plan w)).0 cols.0 in
        subst (λ x. covers (area_spans k p part) x ≡ true)
        (area-place k p part j z
        ∙ ap (λ u. area k + byte_at p.cols u (part.col - p.col + z / 4) (z % 4)) ru
        ∙ ap (λ v. area k + byte_at p.cols (r - p.row) v (z % 4)) (ap (λ n. part.col - p.col + n) word ∙ cu)
        ∙ ap (λ n. area k + byte_at p.cols (r - p.row) (c - p.col) n) byte)
        (covers-strided (area k + byte_at p.cols (part.row - p.row) (part.col - p.col) 0) (4 * part.cols) (4 * p.cols) part.rows j z rows.1 zl)
      where
        below-row : (v n b : ℕ) → v < n → b < 4 → 4 * v + b < 4 * n
        below-row v n b l m = omega arith

        word-at : (v b : ℕ) → b < 4 → (4 * v + b) / 4 ≡ v
        word-at v b l = omega arith

        byte-in : (v b : ℕ) → b < 4 → (4 * v + b) % 4 ≡ b
        byte-in v b l = omega arith

    -- each word has an owner
    pub owned : (r c : ℕ) → r < plan.p * plan.height → c < plan.q * plan.width →
        let w = owner plan r c in
        (w < tasks_of plan) × (block_row plan w ≤ r) × (r < block_row plan w + plan.height) × (block_col plan w ≤ c) × (c < block_col plan w + plan.width)
    owned r c lr lc =
        let w = owner plan r c in
        let i = r / plan.height in
        let j = c / plan.width in
        let hi : i < plan.p = div_below r plan.height plan.p valid.height.0 lr in
        let hj : j < plan.q = div_below c plan.width plan.q valid.width.0 lc in
        let wi : w / plan.q ≡ i = div-mul-add i plan.q j hj in
        let wj : w % plan.q ≡ j = mod-mul-add i plan.q j hj in
        let er : block_row plan w ≡ i * plan.height = ap (λ n. n * plan.height) wi in
        let ec : block_col plan w ≡ j * plan.width = ap (λ n. n * plan.width) wj in
        let r1 : i * plan.height + r % plan.height ≡ r = div-add-mod' r plan.height in
        let r2 : r % plan.height < plan.height = mod_below r plan.height valid.height.0 in
        let c1 : j * plan.width + c % plan.width ≡ c = div-add-mod' c plan.width in
        let c2 : c % plan.width < plan.width = mod_below c plan.width valid.width.0 in
        let t1 : i * plan.q + j < plan.q * plan.p = mul-add-lt i plan.q j plan.p hi hj in
        let t2 : plan.q * plan.p ≡ plan.p * plan.q = grind arith in
        let t3 : w < tasks_of plan = lower-by w (plan.q * plan.p) (tasks_of plan) t1 t2 in
        let a = between (block_row plan w) (i * plan.height) (r % plan.height) r plan.height er r1 r2 in
        let b = between (block_col plan w) (j * plan.width) (c % plan.width) c plan.width ec c1 c2 in
        (t3, a.0, a.1, b.0, b.1)
      where
        lower-by : (w m n : ℕ) → w < m → m ≡ n → w < n
        lower-by w m n l e = omega arith

        between : (low m d r h : ℕ) → low ≡ m → m + d ≡ r → d < h → (low ≤ r) × (r < low + h)
        between low m d r h a b c = (omega arith, omega arith)
