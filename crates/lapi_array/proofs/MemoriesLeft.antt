-- What stands in the memories that a plan's script leaves.
use Rattle.std.proofs.Common.{◌≡◌, ℕ, ◌+◌, ◌-◌, ◌*◌, ◌/◌, ◌%◌, ◌<◌, ◌≤◌, List, length, map, take, drop, slice_get, Some, refl, sym, ap, ◌∙◌, subst, ⊎_elim, arith}
use Rattle.std.proofs.lemmas.List.{append-nil}
use Rattle.std.proofs.lemmas.Nat.{mul-le, div-mul-add, mod-mul-add, div-add-mod'}
use Rattle.std.proofs.lemmas.Bool.{cases_lt}
use Rattle.std.proofs.Math.Nat.{div-mul-le_self, mod-lt}
use Rattle.lapi_base.specs.Record.Operations.{numbers_below}
use Rattle.lapi_base.specs.Record.Values.{gathered, memory_bytes}
use Rattle.lapi_base.specs.Laws.Landing.{memory_at}
use Rattle.lapi_base.proofs.UptoLaws.{length-over, over-at, is-over}
use Rattle.lapi_blocks.specs.declared.plan.Op.{Op}
use Rattle.lapi_blocks.specs.declared.plan.Op.TheVariants.{Get}
use Rattle.lapi_blocks.specs.declared.plan.Plan.{Plan}
use Rattle.lapi_blocks.specs.declared.patch.Patch.{Patch}
use Rattle.lapi_blocks.specs.Plans.{patch_of, tasks_of, IsWithin, ValidPlan, byte_at, plain, block_row, block_col, owner, area, compiled}
use Rattle.lapi_blocks.specs.Arrays.{patch_bytes}
use Rattle.lapi_blocks.proofs.ArrayStages.{within}
use Rattle.lapi_blocks.proofs.PlainArrays.{got-bytes-plain, blocks-plain}
use Rattle.lapi_array.specs.ArrayText.{AreLeft, HasBytes, part_bytes}
use Rattle.lapi_array.specs.Parts.{IsOp}
use Rattle.lapi_array.proofs.PartPlaces.{area_fits}
use Rattle.lapi_array.proofs.Stretches.{over_get, stretch}

module _ (plan : Plan) (valid : ValidPlan plan) (memories : List (List ℕ)) (left : AreLeft plan memories) where
  byte : (t x : ℕ) → ℕ
  byte t x = memory_at (compiled plan) left.rules left.journal t x

  memory : (t : ℕ) → List ℕ
  memory t = memory_bytes (compiled plan) left.rules left.journal t

  memory-is : (t : ℕ) → memory t ≡ map (byte t) (numbers_below 65536)
  unfolding memory memory_bytes byte
  memory-is t = refl

  there : (t : ℕ) → t < tasks_of plan → slice_get memories t ≡ Some (memory t)
  unfolding memory
  there t l = ap (λ ms. slice_get ms t) left.all ∙ over_get memory (tasks_of plan) t l

  pub has_bytes : (t n : ℕ) → t < tasks_of plan → n ≤ 65536 → HasBytes memories t n
  has_bytes t n l few =
      let len : length (memory t) ≡ 65536 = ap length (memory-is t) ∙ length-over (byte t) 65536 in
      (memory t, there t l, omega (arith, len, few))

  -- the bytes of a memory from a place on
  slice : (t at len : ℕ) (bytes : List ℕ) → t < tasks_of plan → at + len ≤ 65536 → ((m : List ℕ) → slice_get memories t ≡ Some m → bytes ≡ take len (drop at m))
      → bytes ≡ map (λ j. byte t (at + j)) (numbers_below len)
  slice t at len bytes l fits is =
      is (memory t) (there t l) ∙ ap (λ xs. take len (drop at xs)) (memory-is t) ∙ stretch (byte t) 65536 at len fits

  -- what a get got
  got : (k task row col rows cols : ℕ) (bytes : List ℕ) → slice_get plan.ops k ≡ Some (Get task row col rows cols) → task < tasks_of plan → area k + 4 * (rows * cols) ≤ 65536
      → ((m : List ℕ) → slice_get memories task ≡ Some m → bytes ≡ take (4 * (rows * cols)) (drop (area k) m))
      → bytes ≡ patch_bytes (plain plan.ops k) (patch_of (Get task row col rows cols))
  unfolding gathered byte
  got k task row col rows cols bytes there task_there fits is =
      slice task (area k) (4 * (rows * cols)) bytes task_there fits is
      ∙ sym (append-nil (map (λ j. byte task (area k + j)) (numbers_below (4 * (rows * cols)))))
      ∙ got-bytes-plain plan valid left.rules left.journal left.atomic left.past k task row col rows cols there

  -- what the code takes of a memory for operation k
  pub got_bytes : (k : ℕ) (op : Op) (p : Patch) (at : ℕ) (bytes : List ℕ) → IsOp plan k op → p ≡ patch_of op → at ≡ area k
      → ((m : List ℕ) → slice_get memories p.task ≡ Some m → bytes ≡ take (4 * (p.rows * p.cols)) (drop at m))
      → (task row col rows cols : ℕ) → op ≡ Get task row col rows cols → bytes ≡ patch_bytes (plain plan.ops k) (patch_of op)
  got_bytes k op p at bytes is_op same place is task row col rows cols a_get =
      let patch : p ≡ patch_of (Get task row col rows cols) = same ∙ ap patch_of a_get in
      let get_there : slice_get plan.ops k ≡ Some (Get task row col rows cols) = is_op.there ∙ ap (λ o. Some o) a_get in
      let lies : IsWithin plan (patch_of (Get task row col rows cols)) = within plan valid k (Get task row col rows cols) get_there in
      let fits = area_fits plan k (Get task row col rows cols) (record { valid = valid; there = get_there }) in
      subst (λ o. bytes ≡ patch_bytes (plain plan.ops k) (patch_of o)) (sym a_get)
      (got k task row col rows cols bytes get_there lies.task fits
      (λ m e.
      is m (subst (λ (q : Patch). slice_get memories q.task ≡ Some m) (sym patch) e)
      ∙ ap (λ (q : Patch). take (4 * (q.rows * q.cols)) (drop at m)) patch
      ∙ ap (λ a. take (4 * (rows * cols)) (drop a m)) place))

  -- ---- a row

  -- a row of the array, in the blocks of one column of the grid
  module _ (r j : ℕ) (low : r < plan.p * plan.height) (col : j < plan.q) where
    i : ℕ
    i = r / plan.height

    u : ℕ
    u = r % plan.height

    task : ℕ
    task = i * plan.q + j

    row-split : i * plan.height + u ≡ r
    unfolding i u
    row-split = div-add-mod' r plan.height

    task-row : block_row plan task ≡ i * plan.height
    unfolding task
    task-row = ap (λ n. n * plan.height) (div-mul-add i plan.q j col)

    task-col : block_col plan task ≡ j * plan.width
    unfolding task
    task-col = ap (λ n. n * plan.width) (mod-mul-add i plan.q j col)

    owned : (z : ℕ) → z < 4 * plan.width → owner plan r (j * plan.width + z / 4) ≡ task
    unfolding task i
    owned z l = ap (λ n. (r / plan.height) * plan.q + n) (div-mul-add j plan.width (z / 4) (omega (arith, l)))

    in-row : (z : ℕ) → z < 4 * plan.width → j * plan.width + z / 4 < plan.q * plan.width
    in-row z l =
        let step : (j + 1) * plan.width ≤ plan.q * plan.width = mul-le (j + 1) plan.width plan.q plan.width (omega (arith, col)) (omega arith) in
        let e : (j + 1) * plan.width ≡ j * plan.width + plan.width = grind arith in
        below (j * plan.width) plan.width (plan.q * plan.width) z l (subst (λ n. n ≤ plan.q * plan.width) e step)
      where
        below : (a w b z : ℕ) → z < 4 * w → a + w ≤ b → a + z / 4 < b
        below a w b z l h = omega arith

    place : (z : ℕ) → byte_at plan.width u (z / 4) (z % 4) ≡ 4 * (u * plan.width) + z
    place z = sums (u * plan.width) z
      where
        sums : (a z : ℕ) → 4 * (a + z / 4) + z % 4 ≡ 4 * a + z
        sums a z = omega arith

    one-byte : (z : ℕ) → z < 4 * plan.width → byte task (4 * (u * plan.width) + z) ≡ plain plan.ops (length plan.ops) r (j * plan.width + z / 4) (z % 4)
    unfolding byte
    one-byte z l =
        let c = j * plan.width + z / 4 in
        let is = blocks-plain plan valid left.rules left.journal left.atomic left.past r c (z % 4) low (in-row z l) (omega arith) in
        let row : r - block_row plan task ≡ u = rest (i * plan.height) u r (block_row plan task) row-split task-row in
        let column : c - block_col plan task ≡ z / 4 = rest (j * plan.width) (z / 4) c (block_col plan task) refl task-col in
        sym (ap (λ w. memory_at (compiled plan) left.rules left.journal w (byte_at plan.width (r - block_row plan w) (c - block_col plan w) (z % 4))) (owned z l)
        ∙ ap (λ v. memory_at (compiled plan) left.rules left.journal task (byte_at plan.width v (c - block_col plan task) (z % 4))) row
        ∙ ap (λ v. memory_at (compiled plan) left.rules left.journal task (byte_at plan.width u v (z % 4))) column
        ∙ ap (memory_at (compiled plan) left.rules left.journal task) (place z))
        ∙ is
      where
        rest : (a b r s : ℕ) → a + b ≡ r → s ≡ a → r - s ≡ b
        rest a b r s e f = omega arith

    pub task_there : (r / plan.height) * plan.q + j < tasks_of plan
    task_there =
        let i_low : r / plan.height < plan.p = quotient r plan.height plan.p (div-mul-le_self r plan.height) low in
        let step : (r / plan.height + 1) * plan.q ≤ plan.p * plan.q = mul-le (r / plan.height + 1) plan.q plan.p plan.q (omega (arith, i_low)) (omega arith) in
        let e : (r / plan.height + 1) * plan.q ≡ r / plan.height * plan.q + plan.q = grind arith in
        omega (arith, step, e, col)
      where
        quotient : (r h p : ℕ) → r / h * h ≤ r → r < p * h → r / h < p
        quotient r h p whole l =
            ⊎_elim
            (λ (lt : r / h < p). lt)
            (λ (ge : p ≤ r / h). let more : p * h ≤ r / h * h = mul-le p h (r / h) h ge (omega arith) in absurd (omega (arith, more, whole, l)))
            (cases_lt (r / h) p)

    pub part_fits : 4 * (r % plan.height * plan.width) + 4 * plan.width ≤ 65536
    part_fits =
        let few : r % plan.height < plan.height = mod-lt r valid.height.0 in
        let area_few : r % plan.height * plan.width ≤ 15 * 256 = mul-le (r % plan.height) plan.width 15 256 (omega (arith, few, valid.height.1)) valid.width.1 in
        omega (arith, area_few, valid.width.1)

    -- what the code takes of a memory for this part
    pub part_is : (bytes : List ℕ) → ((m : List ℕ) → slice_get memories ((r / plan.height) * plan.q + j) ≡ Some m → bytes ≡ take (4 * plan.width) (drop (4 * (r % plan.height * plan.width)) m))
        → bytes ≡ part_bytes (plain plan.ops (length plan.ops)) plan.width j r
    unfolding task i u
    part_is bytes is =
        let at = 4 * (r % plan.height * plan.width) in
        let w = (r / plan.height) * plan.q + j in
        let f : ℕ → ℕ = λ z. byte w (at + z) in
        let g : ℕ → ℕ = λ z. plain plan.ops (length plan.ops) r (j * plan.width + z / 4) (z % 4) in
        slice w at (4 * plan.width) bytes task_there part_fits is
        ∙ is-over (map f (numbers_below (4 * plan.width))) g (4 * plan.width) (length-over f (4 * plan.width)) (λ z d l. over-at f (4 * plan.width) z d l ∙ one-byte z l)
