-- Where parts of a patch stand: their places are small.
use Rattle.std.proofs.Common.{◌≡◌, ℕ, zero, suc, ◌+◌, ◌-◌, ◌*◌, ◌<◌, ◌≤◌, true, sym, subst, arith}
use Rattle.std.specs.Prelude.{nat_lt}
use Rattle.std.proofs.lemmas.Bool.{and_parts, ltb-true}
use Rattle.lapi_blocks.specs.declared.plan.Op.{Op}
use Rattle.lapi_blocks.specs.declared.plan.Plan.{Plan}
use Rattle.lapi_blocks.specs.declared.patch.Patch.{Patch}
use Rattle.lapi_blocks.specs.Plans.{patch_of, IsWithin, byte_at, area, part_of, is_nonempty}
use Rattle.lapi_blocks.proofs.CompiledStatements.{nth-of_get}
use Rattle.lapi_blocks.proofs.ArrayStages.{within}
use Rattle.lapi_blocks.proofs.NeverRefused.{good}
use Rattle.lapi_array.specs.Parts.{IsOp, IsPart}

module _ (plan : Plan) (k : ℕ) (op : Op) where
  pub op_few : IsOp plan k op → k < 48
  op_few is = let low = (nth-of_get plan.ops k op op is.there).1 in omega (arith, low, is.valid.count)

  pub op_lies : IsOp plan k op → IsWithin plan (patch_of op)
  op_lies is = within plan is.valid k op is.there

  pub cols_few : IsOp plan k op → (patch_of op).cols ≤ 256
  cols_few is = let words = (op_lies is).words in few (patch_of op).rows (patch_of op).cols words.0 words.1
    where
      few : (m n : ℕ) → 1 ≤ m * n → m * n ≤ 256 → n ≤ 256
      few zero n a b = let e : zero * n ≡ 0 = grind arith in absurd (omega (arith, e, a))
      few (suc m) n a b = let e : suc m * n ≡ n + m * n = grind arith in omega (arith, e, b)

  pub area_fits : IsOp plan k op → area k + 4 * ((patch_of op).rows * (patch_of op).cols) ≤ 65536
  area_fits is = let words = (op_lies is).words in let low = op_few is in omega (arith, words.1, low)

  -- the first byte of a part, in its area
  pub area_place : (part : Patch) → IsPart plan k op part → area k + byte_at (patch_of op).cols (part.row - (patch_of op).row) (part.col - (patch_of op).col) 0 ≤ 65536
  area_place part is =
      let whole = patch_of op in
      let lies = good plan is.is_op.valid k op part.task is.is_op.there is.task (subst (λ p. is_nonempty p ≡ true) is.same is.some) in
      let high : 0 < (part_of plan whole part.task).rows = subst (λ (p : Patch). 0 < p.rows) is.same (ltb-true 0 part.rows (and_parts (nat_lt 0 part.rows) (nat_lt 0 part.cols) is.some).0) in
      subst (λ (p : Patch). area k + byte_at whole.cols (p.row - whole.row) (p.col - whole.col) 0 ≤ 65536) (sym is.same)
      (first _ _ _ (lies.second 0 high))
    where
      first : (base stride block : ℕ) → base + 0 * stride + block ≤ 65536 → base ≤ 65536
      first base stride block h = let e : 0 * stride ≡ 0 = grind arith in omega (arith, e, h)
