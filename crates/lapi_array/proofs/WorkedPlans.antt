-- A small plan's text, what it reads to, and what is written of it, computed by the definitions alone.
use Rattle.std.proofs.Common.{◌≡◌, ℕ, List, [], ◌∷◌, ◌++◌, refl, Result, Ok, Err}
use Rattle.std.specs.Prelude.{codes}
use Rattle.std.specs.List.{flat_map}
use Rattle.std.specs.Fmt.{digits}
use Rattle.hex.specs.Hex.{decode_pairs, encode_with}
use Rattle.lapi_base.specs.declared.input.Which.TheVariants as which
use Rattle.lapi_base.specs.declared.input.LineError.TheVariants.{Syntax, Limit}
use Rattle.lapi_base.specs.Record.Below.{below}
use Rattle.lapi_base.specs.Record.Operations.{numbers_below}
use Rattle.lapi_base.specs.Input.Tokens.{number_of, hex_of, value_of}
use Rattle.lapi_base.specs.Input.Reading.{Fault}
use Rattle.lapi_blocks.specs.declared.plan.Op.TheVariants.{Set, Get}
use Rattle.lapi_blocks.specs.declared.plan.Plan.{Plan}
use Rattle.lapi_blocks.specs.Plans.{plain}
use Rattle.lapi_array.specs.PlanReading.{head_form, grid_form, set_form, get_form, has_values, plan_step, plan_after, read_plan}
use Rattle.lapi_array.specs.ArrayText.{array_text}

-- What the lines read to. A proof with the line `unfolding reading` computes with all definitions.
unfoldable reading : List (List ℕ) → Result Plan Fault
unfolding decode_pairs number_of hex_of value_of head_form grid_form set_form get_form has_values plan_step plan_after
reading lines = read_plan (flat_map (λ line. line ++ 10 ∷ []) lines)

-- a set of four words by task 0, and a get of two of them by task 1
abbrev small : Plan
small = record {
  p = 1;
  q = 2;
  height = 2;
  width = 2;
  ops =
      Set 0 0 1 2 2 (0 ∷ 0 ∷ 0 ∷ 1 ∷ 0 ∷ 0 ∷ 0 ∷ 2 ∷ 0 ∷ 0 ∷ 0 ∷ 3 ∷ 0 ∷ 0 ∷ 0 ∷ 4 ∷ [])
      ∷ Get 1 1 1 1 2 ∷ [];
}

small_reads : reading (
    codes "array 1"
    ∷ codes "grid 1 2 block 2 2"
    ∷ codes "# a remark"
    ∷ codes "set 0 0 1 2 2 00000001000000020000000300000004"
    ∷ codes "  get 1 1  1 1 2"
    ∷ codes "done"
    ∷ []) ≡ Ok small
unfolding reading
small_reads = refl

small_written : array_text small
    ≡ codes "get 1 1 1 1 2 0000000300000004\n"
    ++ codes "row 0 00000000000000010000000200000000\n"
    ++ codes "row 1 00000000000000030000000400000000\n"
unfolding numbers_below below plain encode_with digits
small_written = refl

-- ---- faults

abbrev after_sizes : List (List ℕ) → List (List ℕ)
after_sizes lines = codes "array 1" ∷ codes "grid 1 2 block 2 2" ∷ lines

-- the patch ends behind the array's last column
beyond : reading (after_sizes (codes "get 0 1 3 1 2" ∷ codes "done" ∷ [])) ≡ Err (Limit which.Range, 3)
unfolding reading
beyond = refl

-- no such task, before all limits
no_task : reading (after_sizes (codes "get 2 1 3 1 2" ∷ [])) ≡ Err (Syntax, 3)
unfolding reading
no_task = refl

-- a byte too few
too_short : reading (after_sizes (codes "set 0 0 0 1 1 000000" ∷ [])) ≡ Err (Syntax, 3)
unfolding reading
too_short = refl

empty_patch : reading (after_sizes (codes "get 0 9 9 0 5" ∷ [])) ≡ Err (Limit which.Patch, 3)
unfolding reading
empty_patch = refl

one_task : reading (codes "array 1" ∷ codes "grid 1 1 block 17 2" ∷ []) ≡ Err (Limit which.Grid, 2)
unfolding reading
one_task = refl

high_block : reading (codes "array 1" ∷ codes "grid 2 4 block 17 2" ∷ []) ≡ Err (Limit which.Block, 2)
unfolding reading
high_block = refl

no_end : reading (after_sizes (codes "get 0 0 0 1 1" ∷ [])) ≡ Err (Syntax, 4)
unfolding reading
no_end = refl
