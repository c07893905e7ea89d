-- What an operation of a plan writes nowhere stays.
use Rattle.std.proofs.Common.{◌≡◌, ℕ, suc, ◌+◌, ◌-◌, ◌*◌, ◌/◌, ◌%◌, ◌<◌, ◌≤◌, ◌==◌, true, false, cond, ◌&&◌, List, [], ◌∷◌, length, Option, Some, None, refl, sym, ap, ◌∙◌, subst, ⊎_elim, arith}
use Rattle.std.specs.Prelude.{nat_lt, slice_get}
use Rattle.std.proofs.lemmas.Bool.{and_parts, and_from, both_ways, cond_both, eqb-true, cases_lt, cases_eq, cases_Bool, ltb-true, lt-ltb, le-ltb, or_left}
use Rattle.std.proofs.lemmas.Nat.{div_below, mod_below}
use Rattle.lapi_base.specs.declared.span.Span.{Span}
use Rattle.lapi_base.proofs.TestLaws.{eqb-refl}
use Rattle.lapi_blocks.specs.declared.plan.Op.{Op}
use Rattle.lapi_blocks.specs.declared.plan.Plan.{Plan}
use Rattle.lapi_epochs.specs.Epochs.{epoch, Has}
use Rattle.lapi_epochs.specs.Stages.{covers, writes_to, writes_at, is_written}
use Rattle.lapi_blocks.specs.Plans.{patch_of, tasks_of, ValidPlan, byte_at, in_patch, plain, block_row, block_col, owner, area, part_of, compiled}
use Rattle.lapi_epochs.proofs.GatheredPieces.{in_piece-at, covers-cons}
use Rattle.lapi_blocks.proofs.StridedPieces.{by_rows, place-split}
use Rattle.lapi_blocks.proofs.CompiledStatements.{is_set, values_of, begin, store-there, move-there}
use Rattle.lapi_blocks.proofs.ArrayStages.{back, area_byte, block_byte, stage, stage-block, stage-area, within, has-values, area_spans, block_spans, Sides, sides, store-sides, plain-none, plain-get, plain-other, in_patch-of, Lies, lies-nonempty, block-covered, area-covered, byte-lies, owned}
use Rattle.lapi_blocks.proofs.StagesAreMade.{set-length, in-words}

from : (a u : ℕ) → a ≤ a + u
from a u = omega arith

to : (a u h : ℕ) → u < h → a + u < a + h
to a u h l = omega arith

module _ (plan : Plan) (valid : ValidPlan plan) where
  -- no statement of operation k writes byte x of task t
  abbrev IsUnwritten : (k t x : ℕ) → Type 0
  IsUnwritten k t x = (a i : ℕ) → Has (compiled plan) a i → epoch (compiled plan) a i ≡ k → is_written (compiled plan) a i t x ≡ false

  written-from : (a i t x u : ℕ) (spans : List Span) → writes_to (compiled plan) a i ≡ u → writes_at (compiled plan) a i ≡ spans → t ≡ u → covers spans x ≡ true → is_written (compiled plan) a i t x ≡ true
  written-from a i t x u spans to at same c = and_from (t == writes_to (compiled plan) a i) (covers (writes_at (compiled plan) a i) x) (ap (λ y. t == y) (to ∙ sym same) ∙ eqb-refl t) (ap (λ ps. covers ps x) at ∙ c)

  -- a set writes its words into their blocks
  set-writes : (k t r c b : ℕ) (op : Op) → slice_get plan.ops k ≡ Some op → is_set op ≡ true → t < tasks_of plan → Lies plan valid (patch_of op) t r c → b < 4 → IsUnwritten k t (byte_at plan.width (r - block_row plan t) (c - block_col plan t) b) → ⊥
  set-writes k t r c b op e s lt lies lb none =
      let p = patch_of op in
      let there = move-there plan k op t e (within plan valid k op e).task lt (lies-nonempty plan valid p t r c lies) in
      let S = subst (λ x. Sides plan valid p.task there.0 k p (part_of plan p t) x) s (sides plan valid p.task there.0 k op (part_of plan p t) there.3) in
      both_ways _ (none p.task there.0 there.1 there.2) (written-from p.task there.0 t _ t (block_spans plan valid (part_of plan p t)) S.to S.wrote refl (block-covered plan valid p t r c b lies lb))

  -- the array's word of a block changes only where its byte is written
  word-stays : (k t u v b : ℕ) → t < tasks_of plan → u < plan.height → v < plan.width → b < 4 → IsUnwritten k t (byte_at plan.width u v b) →
      plain plan.ops (suc k) (block_row plan t + u) (block_col plan t + v) b ≡ plain plan.ops k (block_row plan t + u) (block_col plan t + v) b
  word-stays k t u v b lt lu lv lb none =
      let r = block_row plan t + u in
      let c = block_col plan t + v in
      elim (slice_get plan.ops k) as (λ o. slice_get plan.ops k ≡ o → plain plan.ops (suc k) r c b ≡ plain plan.ops k r c b) [
        | None ↦ λ e. plain-none plan valid k r c b e
        | Some op ↦ λ e.
            ⊎_elim
            (λ (inside : in_patch (patch_of op) r c ≡ true).
            ⊎_elim
            (λ (s : is_set op ≡ true).
            let f = in_patch-of plan valid (patch_of op) r c inside in
            let lies : Lies plan valid (patch_of op) t r c = record { above = f.0; over = f.1; left = f.2; right = f.3; row_from = from (block_row plan t) u; row_to = to (block_row plan t) u plan.height lu; col_from = from (block_col plan t) v; col_to = to (block_col plan t) v plan.width lv } in
            absurd (set-writes k t r c b op e s lt lies lb (subst (λ y. IsUnwritten k t (byte_at plan.width y (c - block_col plan t) b)) (sym (back (block_row plan t) u)) (subst (λ y. IsUnwritten k t (byte_at plan.width u y b)) (sym (back (block_col plan t) v)) none))))
            (λ (s : is_set op ≡ false). plain-get plan valid k op r c b e s)
            (cases_Bool (is_set op)))
            (λ (outside : in_patch (patch_of op) r c ≡ false). plain-other plan valid k op r c b e outside)
            (cases_Bool (in_patch (patch_of op) r c))
      ] refl

  block-stays : (k t x : ℕ) → IsUnwritten k t x → block_byte plan (suc k) t x ≡ block_byte plan k t x
  block-stays k t x none =
      elim (nat_lt t (tasks_of plan) && nat_lt x (4 * (plan.width * plan.height))) as (λ b. (nat_lt t (tasks_of plan) && nat_lt x (4 * (plan.width * plan.height))) ≡ b →
      cond b (by_rows plan.width (λ u v b. plain plan.ops (suc k) (block_row plan t + u) (block_col plan t + v) b) x) 0 ≡ cond b (by_rows plan.width (λ u v b. plain plan.ops k (block_row plan t + u) (block_col plan t + v) b) x) 0) [
        | true ↦ λ h.
            let parts = and_parts (nat_lt t (tasks_of plan)) (nat_lt x (4 * (plan.width * plan.height))) h in
            let lx = ltb-true x (4 * (plan.width * plan.height)) parts.1 in
            let w : x / 4 < plan.height * plan.width = turned x plan.width plan.height lx in
            let pos : 0 < plan.width = valid.width.0 in
            let e = place-split plan.width x pos in
            word-stays k t (x / 4 / plan.width) ((x / 4) % plan.width) (x % 4) (ltb-true t (tasks_of plan) parts.0) (div_below (x / 4) plan.width plan.height pos w) (mod_below (x / 4) plan.width pos) (byte-lies plan valid x) (subst (IsUnwritten k t) e none)
        | false ↦ λ h. refl
      ] refl
    where
      turned : (x w h : ℕ) → x < 4 * (w * h) → x / 4 < h * w
      turned x w h l = let e : w * h ≡ h * w = grind arith in omega arith

  -- ---- areas

  lt-suc : (n k : ℕ) → (n ≡ k → ⊥) → nat_lt n (suc k) ≡ nat_lt n k
  lt-suc n k h =
      ⊎_elim
      (λ (l : n < k). lt-ltb n (suc k) (omega arith) ∙ sym (lt-ltb n k l))
      (λ (g : k ≤ n). let more : suc k ≤ n = ⊎_elim (λ (e : n ≡ k). absurd (h e)) (λ (q : n ≡ k → ⊥). strict n k g q) (cases_eq n k) in le-ltb n (suc k) more ∙ sym (le-ltb n k g))
      (cases_lt n k)
    where
      strict : (n k : ℕ) → k ≤ n → (n ≡ k → ⊥) → suc k ≤ n
      strict n k g q = ⊎_elim (λ (l : k < n). l) (λ (m : n ≤ k). absurd (q (omega arith))) (cases_lt k n)

  -- a set writes all of its area
  store-writes : (k y : ℕ) (op : Op) → slice_get plan.ops k ≡ Some op → is_set op ≡ true → y < 4 * ((patch_of op).cols * (patch_of op).rows) → IsUnwritten k (patch_of op).task (area k + y) → ⊥
  store-writes k y op e s l none =
      let p = patch_of op in
      let there = store-there plan k op e (within plan valid k op e).task s in
      let side = store-sides plan valid p.task (begin plan k p.task + 0) (area k) (values_of op) there.2 in
      let len = set-length plan valid op (has-values plan valid k op e) s in
      let piece : Span = record { at = area k; len = length (values_of op) } in
      let inside : y < length (values_of op) = turned y p.cols p.rows _ l len in
      both_ways _ (none p.task (begin plan k p.task + 0) there.0 there.1)
      (written-from p.task (begin plan k p.task + 0) p.task (area k + y) p.task (piece ∷ []) side.0 side.1 refl (covers-cons piece [] (area k + y) ∙ or_left _ _ (in_piece-at piece y inside)))
    where
      turned : (y w h n : ℕ) → y < 4 * (w * h) → n ≡ 4 * (h * w) → y < n
      turned y w h n l e = let q : w * h ≡ h * w = grind arith in omega arith

  -- and so does a get
  get-writes : (k y : ℕ) (op : Op) → slice_get plan.ops k ≡ Some op → is_set op ≡ false → y < 4 * ((patch_of op).cols * (patch_of op).rows) → IsUnwritten k (patch_of op).task (area k + y) → ⊥
  get-writes k y op e s l none =
      let p = patch_of op in
      let inside = within plan valid k op e in
      let words = in-words plan valid p.rows p.cols y inside.words.0 (turned y p.cols p.rows l) in
      let u = y / 4 / p.cols in
      let v = (y / 4) % p.cols in
      let r = p.row + u in
      let c = p.col + v in
      let lr = inside.lower in
      let lc = inside.right in
      let lu = words.1 in
      let lv = words.2 in
      let w = owner plan r c in
      let own = owned plan valid r c (fits p.row u p.rows (plan.p * plan.height) lu lr) (fits p.col v p.cols (plan.q * plan.width) lv lc) in
      let lies : Lies plan valid p w r c = record { above = from p.row u; over = to p.row u p.rows lu; left = from p.col v; right = to p.col v p.cols lv; row_from = own.1; row_to = own.2; col_from = own.3; col_to = own.4 } in
      let there = move-there plan k op w e inside.task own.0 (lies-nonempty plan valid p w r c lies) in
      let S = subst (λ x. Sides plan valid p.task there.0 k p (part_of plan p w) x) s (sides plan valid p.task there.0 k op (part_of plan p w) there.3) in
      let place : area k + byte_at p.cols (r - p.row) (c - p.col) (y % 4) ≡ area k + y =
      ap (λ i. area k + byte_at p.cols i (c - p.col) (y % 4)) (back p.row u) ∙ ap (λ j. area k + byte_at p.cols u j (y % 4)) (back p.col v) ∙ ap (λ n. area k + n) (sym words.3) in
      both_ways (is_written (compiled plan) p.task there.0 p.task (area k + y)) (none p.task there.0 there.1 there.2)
      (written-from p.task there.0 p.task (area k + y) p.task (area_spans plan valid k p (part_of plan p w)) S.to S.wrote refl (subst (λ x. covers (area_spans plan valid k p (part_of plan p w)) x ≡ true) place (area-covered plan valid k p w r c (y % 4) lies (byte-lies plan valid y))))
    where
      turned : (y w h : ℕ) → y < 4 * (w * h) → y < 4 * (h * w)
      turned y w h l = let q : w * h ≡ h * w = grind arith in omega arith

      fits : (a u n m : ℕ) → u < n → a + n ≤ m → a + u < m
      fits a u n m l h = omega arith

  area-stays : (k n t y : ℕ) (o : Option Op) → slice_get plan.ops n ≡ o → IsUnwritten k t (area n + y) → area_byte plan (suc k) n o t y ≡ area_byte plan k n o t y
  area-stays k n t y None e none = refl
  area-stays k n t y (Some op) e none =
      let p = patch_of op in
      let rest = t == p.task && nat_lt y (4 * (p.cols * p.rows)) in
      let byte = by_rows p.cols (λ u v b. plain plan.ops (suc n) (p.row + u) (p.col + v) b) y in
      ⊎_elim
      (λ (same : n ≡ k).
      cond_both (nat_lt n (suc k) && rest) byte 0 (λ x. x ≡ cond (nat_lt n k && rest) byte 0)
      (λ h.
      let parts = and_parts (t == p.task) (nat_lt y (4 * (p.cols * p.rows))) (and_parts (nat_lt n (suc k)) rest h).1 in
      let task = eqb-true t p.task parts.0 in
      let l = ltb-true y (4 * (p.cols * p.rows)) parts.1 in
      let unwritten = subst (λ j. IsUnwritten j p.task (area n + y)) (sym same) (subst (λ a. IsUnwritten k a (area n + y)) task none) in
      ⊎_elim
      (λ (s : is_set op ≡ true). absurd (store-writes n y op e s l unwritten))
      (λ (s : is_set op ≡ false). absurd (get-writes n y op e s l unwritten))
      (cases_Bool (is_set op)))
      (λ _. sym (cond_both (nat_lt n k && rest) byte 0 (λ x. x ≡ 0) (λ h. absurd (let l = ltb-true n k (and_parts (nat_lt n k) rest h).0 in omega arith)) (λ _. refl))))
      (λ (apart : n ≡ k → ⊥). ap (λ b. cond (b && rest) byte 0) (lt-suc n k apart))
      (cases_eq n k)

  pub stays : (k t x : ℕ) → IsUnwritten k t x → stage plan (suc k) t x ≡ stage plan k t x
  stays k t x none =
      ⊎_elim
      (λ (low : x < 16384). stage-block plan (suc k) t x low ∙ block-stays k t x none ∙ sym (stage-block plan k t x low))
      (λ (high : 16384 ≤ x).
      let n = (x - 16384) / 1024 in
      let y = (x - 16384) % 1024 in
      let small : y < 1024 = omega arith in
      let e : x ≡ area n + y = omega arith in
      ap (stage plan (suc k) t) e ∙ stage-area plan (suc k) n t y small ∙ area-stays k n t y (slice_get plan.ops n) refl (subst (IsUnwritten k t) e none) ∙ sym (stage-area plan k n t y small) ∙ ap (stage plan k t) (sym e))
      (cases_lt x 16384)
