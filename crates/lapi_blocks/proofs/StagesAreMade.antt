-- The stages of a compiled plan are what its statements make of the memories.
use Rattle.std.proofs.Common.{◌≡◌, ◌⊎◌, ℕ, zero, suc, ◌+◌, ◌-◌, ◌*◌, ◌/◌, ◌%◌, ◌<◌, ◌≤◌, ◌==◌, Bool, true, false, ◌&&◌, List, [], ◌∷◌, ◌++◌, length, map, take, Option, Some, None, refl, sym, ap, ◌∙◌, subst, ⊎_elim, arith}
use Rattle.std.specs.Prelude.{nat_lt, slice_get, slice_index}
use Rattle.std.proofs.Math.Seq.{take-length}
use Rattle.std.proofs.lemmas.Bool.{false≢true, and_parts, both_ways, cond_both, cases_lt, ltb-true}
use Rattle.std.proofs.lemmas.Nat.{div_below, mod_below}
use Rattle.std.proofs.lemmas.List.{map-append, append-nil, take_more}
use Rattle.lapi_base.specs.declared.statement.Statement.{Statement}
use Rattle.lapi_base.specs.declared.statement.Statement.TheVariants.{Store, Gfence}
use Rattle.lapi_base.specs.Record.Below.{below}
use Rattle.lapi_base.specs.Record.Operations.{numbers_below, statement, is_data, one_span}
use Rattle.lapi_base.specs.Record.Values.{gathered}
use Rattle.lapi_base.proofs.ListLaws.{some-same}
use Rattle.lapi_blocks.specs.declared.plan.Op.{Op}
use Rattle.lapi_blocks.specs.declared.plan.Op.TheVariants.{Set, Get}
use Rattle.lapi_blocks.specs.declared.plan.Plan.{Plan}
use Rattle.lapi_epochs.specs.Epochs.{epoch, Has}
use Rattle.lapi_epochs.specs.Stages.{is_store, covers, reads_from, reads_at, writes_to, writes_at, is_written}
use Rattle.lapi_blocks.specs.Plans.{patch_of, tasks_of, ValidPlan, HasValues, byte_at, plain, area, part_of, compiled}
use Rattle.lapi_epochs.proofs.GatheredPieces.{line-same}
use Rattle.lapi_blocks.proofs.StridedPieces.{place-split}
use Rattle.lapi_blocks.proofs.CompiledStatements.{is_set, values_of, begin, stand, IsStored, IsMoved}
use Rattle.lapi_blocks.proofs.ArrayStages.{back, area_byte, stage, stage-block, stage-area, within, has-values, at-area, sides-agree, area-high, block-low, Sides, sides, fence-writes, moves-no_store, plain-set, in_patch-at, byte-lies}

list-again : (xs : List ℕ) (n : ℕ) → n ≤ length xs → map (λ z. slice_index xs z) (numbers_below n) ≡ take n xs
unfolding numbers_below below
list-again xs zero l = refl
list-again xs (suc n) l =
    let e : n + 1 ≡ suc n = omega arith in
    map-append (λ z. slice_index xs z) (numbers_below n) (n ∷ [])
    ∙ ap (λ ys. ys ++ slice_index xs n ∷ []) (list-again xs n (omega arith))
    ∙ sym (take_more xs n 0 (omega arith))
    ∙ ap (λ k. take k xs) e

zeros : (k r c b : ℕ) (plan : Plan) → plain plan.ops 0 r c b ≡ 0
unfolding plain
zeros k r c b plan = refl

module _ (plan : Plan) (valid : ValidPlan plan) where
  -- ---- at first

  area-start : (n : ℕ) (o : Option Op) (t y : ℕ) → area_byte plan 0 n o t y ≡ 0
  area-start n None t y = refl
  area-start n (Some op) t y =
      let p = patch_of op in
      cond_both (nat_lt n 0 && (t == p.task && nat_lt y (4 * (p.cols * p.rows)))) _ 0 (λ x. x ≡ 0)
      (λ h. absurd (let l = ltb-true n 0 (and_parts (nat_lt n 0) _ h).0 in omega arith))
      (λ _. refl)

  pub starts : (t x : ℕ) → stage plan 0 t x ≡ 0
  unfolding plain
  starts t x =
      ⊎_elim
      (λ (low : x < 16384). stage-block plan 0 t x low ∙ cond_both (nat_lt t (tasks_of plan) && nat_lt x (4 * (plan.width * plan.height))) _ 0 (λ y. y ≡ 0) (λ _. refl) (λ _. refl))
      (λ (high : 16384 ≤ x).
      let n = (x - 16384) / 1024 in
      let y = (x - 16384) % 1024 in
      let small : y < 1024 = omega arith in
      let e : x ≡ area n + y = omega arith in
      ap (stage plan 0 t) e ∙ stage-area plan 0 n t y small ∙ area-start n (slice_get plan.ops n) t y)
      (cases_lt x 16384)

  -- ---- what a set stores

  pub set-length : (op : Op) → HasValues op → is_set op ≡ true → length (values_of op) ≡ 4 * ((patch_of op).rows * (patch_of op).cols)
  set-length (Set task row col rows cols values) h s = h.0
  set-length (Get task row col rows cols) h s = absurd (false≢true s)

  -- byte z of a patch lies in one of its words
  pub in-words : (rows cols z : ℕ) → 1 ≤ rows * cols → z < 4 * (rows * cols) → (0 < cols) × (z / 4 / cols < rows) × ((z / 4) % cols < cols) × (z ≡ byte_at cols (z / 4 / cols) ((z / 4) % cols) (z % 4))
  in-words rows zero z h l = absurd (let e : rows * 0 ≡ 0 = grind arith in omega arith)
  in-words rows (suc c) z h l =
      let w : z / 4 < rows * suc c = omega arith in
      let pos : 0 < suc c = omega arith in
      (pos, div_below (z / 4) (suc c) rows pos w, mod_below (z / 4) (suc c) pos, place-split (suc c) z pos)

  stored-byte : (k : ℕ) (op : Op) → slice_get plan.ops k ≡ Some op → is_set op ≡ true → (z : ℕ) → z < length (values_of op) → stage plan (suc k) (patch_of op).task (area k + z) ≡ slice_index (values_of op) z
  stored-byte k op e s z l =
      let p = patch_of op in
      let len = set-length op (has-values plan valid k op e) s in
      let w = in-words p.rows p.cols z (within plan valid k op e).words.0 (omega arith) in
      let u = z / 4 / p.cols in
      let v = (z / 4) % p.cols in
      let b = z % 4 in
      ap (λ y. stage plan (suc k) p.task (area k + y)) w.3
      ∙ at-area plan valid (suc k) k op u v b e (omega arith) w.1 w.2 (byte-lies plan valid z)
      ∙ plain-set plan valid k op (p.row + u) (p.col + v) b e s (in_patch-at plan valid p u v w.1 w.2)
      ∙ ap (λ i. slice_index (values_of op) (byte_at p.cols i (p.col + v - p.col) b)) (back p.row u)
      ∙ ap (λ j. slice_index (values_of op) (byte_at p.cols u j b)) (back p.col v)
      ∙ ap (slice_index (values_of op)) (sym w.3)

  stored-bytes : (k : ℕ) (op : Op) → slice_get plan.ops k ≡ Some op → is_set op ≡ true → gathered (stage plan (suc k)) (patch_of op).task (one_span (area k) (length (values_of op))) ≡ values_of op
  unfolding gathered
  stored-bytes k op e s =
      let bytes = values_of op in
      append-nil _
      ∙ line-same (λ z. stage plan (suc k) (patch_of op).task (area k + z)) (λ z. slice_index bytes z) (length bytes) (stored-byte k op e s)
      ∙ list-again bytes (length bytes) (omega arith)
      ∙ take-length bytes

  pub stores-hold : (a i at : ℕ) (bytes : List ℕ) → Has (compiled plan) a i → statement (compiled plan) a i ≡ Store at bytes → gathered (stage plan (suc (epoch (compiled plan) a i))) a (one_span at (length bytes)) ≡ bytes
  stores-hold a i at bytes has e =
      let s = stand plan a i has in
      ⊎_elim
      (λ (f : statement (compiled plan) a i ≡ Gfence). let q = sym f ∙ e in absurd (cc))
      (λ (r : (a ≡ (patch_of s.op).task) × (IsStored plan s.k s.op s.o (statement (compiled plan) a i) ⊎ IsMoved plan s.k s.op s.o (statement (compiled plan) a i))).
      ⊎_elim
      (λ (st : IsStored plan s.k s.op s.o (statement (compiled plan) a i)).
      let same : Store (area s.k) (values_of s.op) ≡ Store at bytes = sym st.2 ∙ e in
      let at-is : area s.k ≡ at = cc in
      let bytes-is : values_of s.op ≡ bytes = cc in
      subst (λ x. gathered (stage plan (suc (epoch (compiled plan) a i))) a (one_span x (length bytes)) ≡ bytes) at-is
      (subst (λ xs. gathered (stage plan (suc (epoch (compiled plan) a i))) a (one_span (area s.k) (length xs)) ≡ xs) bytes-is
      (subst (λ t. gathered (stage plan (suc (epoch (compiled plan) a i))) t (one_span (area s.k) (length (values_of s.op))) ≡ values_of s.op) (sym r.0)
      (subst (λ k. gathered (stage plan (suc k)) (patch_of s.op).task (one_span (area s.k) (length (values_of s.op))) ≡ values_of s.op) (sym s.epoch_is)
      (stored-bytes s.k s.op s.is_op st.0)))))
      (λ (m : IsMoved plan s.k s.op s.o (statement (compiled plan) a i)). absurd (both_ways _ (moves-no_store plan valid s.k s.op (part_of plan (patch_of s.op) m.0)) (ap is_store (sym m.3 ∙ e))))
      r.1)
      s.kind

  -- ---- what the moves carry

  sides-hold : (a i k w : ℕ) (op : Op) (set : Bool) → Sides plan valid a i k (patch_of op) (part_of plan (patch_of op) w) set → a ≡ (patch_of op).task → slice_get plan.ops k ≡ Some op → w < tasks_of plan →
      gathered (stage plan (suc k)) (reads_from (compiled plan) a i) (reads_at (compiled plan) a i) ≡ gathered (stage plan (suc k)) (writes_to (compiled plan) a i) (writes_at (compiled plan) a i)
  sides-hold a i k w op true s t e l =
      let M = stage plan (suc k) in
      ap (λ u. gathered M u (reads_at (compiled plan) a i)) (s.from ∙ t) ∙ ap (gathered M (patch_of op).task) s.read ∙ sides-agree plan valid k op w e l ∙ ap (gathered M w) (sym s.wrote) ∙ ap (λ u. gathered M u (writes_at (compiled plan) a i)) (sym s.to)
  sides-hold a i k w op false s t e l =
      let M = stage plan (suc k) in
      ap (λ u. gathered M u (reads_at (compiled plan) a i)) s.from ∙ ap (gathered M w) s.read ∙ sym (sides-agree plan valid k op w e l) ∙ ap (gathered M (patch_of op).task) (sym s.wrote) ∙ ap (λ u. gathered M u (writes_at (compiled plan) a i)) (sym (s.to ∙ t))

  fence-no_data : (s : Statement) → s ≡ Gfence → is_data s ≡ false
  fence-no_data s e = ap is_data e

  store-no_data : (s : Statement) (at : ℕ) (bytes : List ℕ) → s ≡ Store at bytes → is_data s ≡ false
  store-no_data s at bytes e = ap is_data e

  -- an operation that moves data is a move
  moved-of : (a i : ℕ) (has : Has (compiled plan) a i) → is_data (statement (compiled plan) a i) ≡ true →
      let s = stand plan a i has in
      (a ≡ (patch_of s.op).task) × IsMoved plan s.k s.op s.o (statement (compiled plan) a i)
  moved-of a i has d =
      let s = stand plan a i has in
      ⊎_elim
      (λ (f : statement (compiled plan) a i ≡ Gfence). absurd (both_ways _ (fence-no_data _ f) d))
      (λ (r : (a ≡ (patch_of s.op).task) × (IsStored plan s.k s.op s.o (statement (compiled plan) a i) ⊎ IsMoved plan s.k s.op s.o (statement (compiled plan) a i))).
      ⊎_elim
      (λ (st : IsStored plan s.k s.op s.o (statement (compiled plan) a i)). absurd (both_ways _ (store-no_data _ _ _ st.2) d))
      (λ (m : IsMoved plan s.k s.op s.o (statement (compiled plan) a i)). (r.0, m))
      r.1)
      s.kind

  pub moves-hold : (a i : ℕ) → Has (compiled plan) a i → is_data (statement (compiled plan) a i) ≡ true →
      gathered (stage plan (suc (epoch (compiled plan) a i))) (reads_from (compiled plan) a i) (reads_at (compiled plan) a i) ≡ gathered (stage plan (suc (epoch (compiled plan) a i))) (writes_to (compiled plan) a i) (writes_at (compiled plan) a i)
  moves-hold a i has d =
      let s = stand plan a i has in
      let m = moved-of a i has d in
      subst (λ k. gathered (stage plan (suc k)) (reads_from (compiled plan) a i) (reads_at (compiled plan) a i) ≡ gathered (stage plan (suc k)) (writes_to (compiled plan) a i) (writes_at (compiled plan) a i)) (sym s.epoch_is)
      (sides-hold a i s.k m.1.0 s.op (is_set s.op) (sides plan valid a i s.k s.op (part_of plan (patch_of s.op) m.1.0) m.1.3) m.0 s.is_op m.1.1)

  -- ---- no move reads what another writes

  high-or-low : (set : Bool) (a i b j k l w v : ℕ) (op other : Op) (y : ℕ) → Sides plan valid a i k (patch_of op) (part_of plan (patch_of op) w) set → Sides plan valid b j l (patch_of other) (part_of plan (patch_of other) v) set →
      covers (reads_at (compiled plan) a i) y ≡ true → covers (writes_at (compiled plan) b j) y ≡ true → ⊥
  high-or-low true a i b j k l w v op other y s z r c =
      let high = area-high plan valid k (patch_of op) (part_of plan (patch_of op) w) y (ap (λ ps. covers ps y) (sym s.read) ∙ r) in
      let low = block-low plan valid (patch_of other) v y (ap (λ ps. covers ps y) (sym z.wrote) ∙ c) in
      absurd (omega arith)
  high-or-low false a i b j k l w v op other y s z r c =
      let low = block-low plan valid (patch_of op) w y (ap (λ ps. covers ps y) (sym s.read) ∙ r) in
      let high = area-high plan valid l (patch_of other) (part_of plan (patch_of other) v) y (ap (λ ps. covers ps y) (sym z.wrote) ∙ c) in
      absurd (omega arith)

  pub moves-apart : (a i b j y : ℕ) → Has (compiled plan) a i → Has (compiled plan) b j → is_data (statement (compiled plan) a i) ≡ true → covers (reads_at (compiled plan) a i) y ≡ true → is_written (compiled plan) b j (reads_from (compiled plan) a i) y ≡ true → epoch (compiled plan) b j ≡ epoch (compiled plan) a i →
      (is_store (statement (compiled plan) b j) ≡ true) × (b ≡ a) × (j < i)
  moves-apart a i b j y hasa hasb d c w e =
      let s = stand plan a i hasa in
      let z = stand plan b j hasb in
      let m = moved-of a i hasa d in
      let ks : z.k ≡ s.k = sym z.epoch_is ∙ e ∙ s.epoch_is in
      let ops : z.op ≡ s.op = some-same z.op s.op (sym z.is_op ∙ ap (slice_get plan.ops) ks ∙ s.is_op) in
      let covered = (and_parts _ (covers (writes_at (compiled plan) b j) y) w).1 in
      let Sa = sides plan valid a i s.k s.op (part_of plan (patch_of s.op) m.1.0) m.1.3 in
      ⊎_elim
      (λ (f : statement (compiled plan) b j ≡ Gfence). absurd (both_ways _ (fence-writes plan valid b j y f) covered))
      (λ (r : (b ≡ (patch_of z.op).task) × (IsStored plan z.k z.op z.o (statement (compiled plan) b j) ⊎ IsMoved plan z.k z.op z.o (statement (compiled plan) b j))).
      let tasks : b ≡ a = r.0 ∙ ap (λ o. (patch_of o).task) ops ∙ sym m.0 in
      ⊎_elim
      (λ (st : IsStored plan z.k z.op z.o (statement (compiled plan) b j)).
      let later : 0 < s.o = m.1.4 (ap is_set (sym ops) ∙ st.0) in
      let first : begin plan z.k b ≡ begin plan s.k a = λ n. begin plan (ks n) (tasks n) in
      let pj = z.place in
      let pi = s.place in
      let zo = st.1 in
      (ap is_store st.2, tasks, before j i (begin plan z.k b) (begin plan s.k a) z.o s.o pj pi first zo later))
      (λ (n : IsMoved plan z.k z.op z.o (statement (compiled plan) b j)).
      let Sb = sides plan valid b j z.k z.op (part_of plan (patch_of z.op) n.0) n.3 in
      absurd (high-or-low (is_set s.op) a i b j s.k z.k m.1.0 n.0 s.op z.op y Sa (subst (λ x. Sides plan valid b j z.k (patch_of z.op) (part_of plan (patch_of z.op) n.0) x) (ap is_set ops) Sb) c covered))
      r.1)
      z.kind
    where
      before : (j i x y o q : ℕ) → j ≡ x + o → i ≡ y + q → x ≡ y → o ≡ 0 → 0 < q → j < i
      before j i x y o q a b c d e = omega arith
