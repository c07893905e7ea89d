-- A small plan, computed by the definitions alone.
use Rattle.std.proofs.Common.{◌≡◌, true, [], ◌∷◌, map, take, refl, None}
use Rattle.lapi_base.specs.declared.address.Addr.TheVariants.{Plain}
use Rattle.lapi_base.specs.declared.vector.Vector.TheVariants.{Stride}
use Rattle.lapi_base.specs.declared.statement.Statement.TheVariants.{Store, Putv, Getv, Gfence}
use Rattle.lapi_base.specs.Record.Below.{below}
use Rattle.lapi_base.specs.Record.Operations.{numbers_below}
use Rattle.lapi_base.specs.declared.schedule.Act.TheVariants.{Step, Poll, Deliver}
use Rattle.lapi_base.specs.Record.Refusals.{next}
use Rattle.lapi_base.specs.Record.Final.{is_settled, is_idle, is_quiet}
use Rattle.lapi_laws.proofs.WorkedRuns.{Row, builtin, run, bytes_of}
use Rattle.lapi_blocks.specs.declared.plan.Op.TheVariants.{Set, Get}
use Rattle.lapi_blocks.specs.declared.plan.Plan.{Plan}
use Rattle.lapi_flush.specs.Served.{delivers}
use Rattle.lapi_flush.specs.Flushed.{link_acts}
use Rattle.lapi_flush.specs.Swept.{sweep_to}
use Rattle.lapi_flush.specs.Rounds.{steps_of, steps_to, calls_to}
use Rattle.lapi_blocks.specs.Plans.{plain, block_row, block_col, owner, owners, first_statements, compiled}
use Rattle.lapi_blocks.specs.PlanRuns.{plan_acts}

unfoldable pub small : Plan
small = record { p = 1; q = 2; height = 2; width = 2; ops = Set 0 0 1 2 2 (0 ∷ 0 ∷ 0 ∷ 1 ∷ 0 ∷ 0 ∷ 0 ∷ 2 ∷ 0 ∷ 0 ∷ 0 ∷ 3 ∷ 0 ∷ 0 ∷ 0 ∷ 4 ∷ []) ∷ Get 1 1 1 1 2 ∷ [] }

-- the statements of both tasks
small-compiled : (compiled small).lists
    ≡ (Store 16384 (0 ∷ 0 ∷ 0 ∷ 1 ∷ 0 ∷ 0 ∷ 0 ∷ 2 ∷ 0 ∷ 0 ∷ 0 ∷ 3 ∷ 0 ∷ 0 ∷ 0 ∷ 4 ∷ [])
    ∷ Putv 0 (Stride (Plain 4) 4 8 2) (Stride (Plain 16384) 4 8 2) None None None
    ∷ Putv 1 (Stride (Plain 0) 4 8 2) (Stride (Plain 16388) 4 8 2) None None None
    ∷ Gfence
    ∷ Gfence
    ∷ [])
    ∷ (Gfence
    ∷ Getv 0 (Stride (Plain 12) 4 8 1) (Stride (Plain 17408) 4 8 1) None None
    ∷ Getv 1 (Stride (Plain 8) 4 8 1) (Stride (Plain 17412) 4 8 1) None None
    ∷ Gfence
    ∷ [])
    ∷ []
unfolding small owners first_statements below numbers_below
small-compiled = refl

-- who owns what in a grid of two by three blocks of two by four words
abbrev wide : Plan
wide = record { p = 2; q = 3; height = 2; width = 4; ops = [] }

wide-owners : map (λ r. map (owner wide r) (0 ∷ 3 ∷ 4 ∷ 8 ∷ 11 ∷ [])) (0 ∷ 1 ∷ 2 ∷ 3 ∷ [])
    ≡ (0 ∷ 0 ∷ 1 ∷ 2 ∷ 2 ∷ []) ∷ (0 ∷ 0 ∷ 1 ∷ 2 ∷ 2 ∷ []) ∷ (3 ∷ 3 ∷ 4 ∷ 5 ∷ 5 ∷ []) ∷ (3 ∷ 3 ∷ 4 ∷ 5 ∷ 5 ∷ []) ∷ []
wide-owners = refl

wide-rows : map (block_row wide) (0 ∷ 1 ∷ 2 ∷ 3 ∷ 4 ∷ 5 ∷ []) ≡ 0 ∷ 0 ∷ 0 ∷ 2 ∷ 2 ∷ 2 ∷ []
wide-rows = refl

wide-cols : map (block_col wide) (0 ∷ 1 ∷ 2 ∷ 3 ∷ 4 ∷ 5 ∷ []) ≡ 0 ∷ 4 ∷ 8 ∷ 0 ∷ 4 ∷ 8 ∷ []
wide-cols = refl

-- the last byte of each word of the array
small-plain : map (λ r. map (λ c. plain small.ops 2 r c 3) (0 ∷ 1 ∷ 2 ∷ 3 ∷ [])) (0 ∷ 1 ∷ []) ≡ (0 ∷ 1 ∷ 2 ∷ 0 ∷ []) ∷ (0 ∷ 3 ∷ 4 ∷ 0 ∷ []) ∷ []
unfolding small plain
small-plain = refl

-- a run of it: each operation is issued, polled and served, the tasks enter the fence, their joins are served, and they pass
abbrev small-row : Row
unfolding small
small-row = record {
  script = compiled small;
  lines =
      Step 0 ∷ Step 0 ∷ Step 0 ∷ Poll 0 ∷ Deliver 0 0 0 ∷ Deliver 0 0 1 ∷ Deliver 0 1 0 ∷ Deliver 1 0 0
      ∷ Step 0 ∷ Step 1 ∷ Poll 0 ∷ Poll 1 ∷ Deliver 0 1 1 ∷ Deliver 1 0 2 ∷ Deliver 1 0 1 ∷ Deliver 0 1 2 ∷ Step 0 ∷ Step 1
      ∷ Step 1 ∷ Step 1 ∷ Poll 1 ∷ Deliver 1 0 3 ∷ Deliver 0 1 3 ∷ Deliver 1 1 0 ∷ Deliver 1 1 1
      ∷ Poll 0 ∷ Poll 1 ∷ Deliver 0 1 4 ∷ Deliver 1 0 4 ∷ Deliver 1 1 2 ∷ Deliver 1 1 3
      ∷ Step 0 ∷ Step 1 ∷ Poll 0 ∷ Poll 1 ∷ Deliver 0 1 5 ∷ Deliver 1 0 6 ∷ Deliver 1 0 5 ∷ Deliver 0 1 6 ∷ Step 0 ∷ Step 1 ∷ [];
}

-- every task is past its last statement,
small-past : map (next (run small-row).journal) (0 ∷ 1 ∷ []) ≡ 5 ∷ 4 ∷ []
unfolding run next small owners first_statements below numbers_below
small-past = refl

-- nothing is under way,
small-quiet : is_quiet (compiled small) builtin (run small-row) ≡ true
unfolding run is_quiet is_settled is_idle small owners first_statements
small-quiet = refl

-- the blocks hold the array, row after row, and the area of the get its two words
small-blocks : map (λ t. bytes_of small-row t 0) (0 ∷ 1 ∷ []) ≡ (0 ∷ 0 ∷ 0 ∷ 0 ∷ 0 ∷ 0 ∷ 0 ∷ 1 ∷ 0 ∷ 0 ∷ 0 ∷ 0 ∷ 0 ∷ 0 ∷ 0 ∷ 3 ∷ []) ∷ (0 ∷ 0 ∷ 0 ∷ 2 ∷ 0 ∷ 0 ∷ 0 ∷ 0 ∷ 0 ∷ 0 ∷ 0 ∷ 4 ∷ 0 ∷ 0 ∷ 0 ∷ 0 ∷ []) ∷ []
unfolding run small owners first_statements
small-blocks = refl

small-got : take 8 (bytes_of small-row 1 17408) ≡ 0 ∷ 0 ∷ 0 ∷ 3 ∷ 0 ∷ 0 ∷ 0 ∷ 4 ∷ []
unfolding run small owners first_statements
small-got = refl

-- The lines of its two operations: for each the calls, sweeps that bring all parts home, and the fence. The answers of
-- the get go out in the second sweep.
small-lines : plan_acts small builtin 2
    ≡ Step 0 ∷ Step 0 ∷ Step 0
    ∷ Poll 0 ∷ Deliver 0 0 0 ∷ Deliver 0 0 1 ∷ Deliver 0 1 0 ∷ Deliver 1 0 0 ∷ Poll 1 ∷ Poll 0 ∷ Poll 1
    ∷ Step 0 ∷ Step 1
    ∷ Poll 0 ∷ Deliver 0 1 1 ∷ Deliver 1 0 1 ∷ Poll 1 ∷ Deliver 1 0 2 ∷ Deliver 0 1 2 ∷ Poll 0 ∷ Poll 1
    ∷ Step 0 ∷ Step 1
    ∷ Step 1 ∷ Step 1
    ∷ Poll 0 ∷ Poll 1 ∷ Deliver 1 0 3 ∷ Deliver 0 1 3 ∷ Deliver 1 1 0 ∷ Deliver 1 1 1
    ∷ Poll 0 ∷ Deliver 0 1 4 ∷ Deliver 1 0 4 ∷ Poll 1 ∷ Deliver 1 1 2 ∷ Deliver 1 1 3
    ∷ Step 0 ∷ Step 1
    ∷ Poll 0 ∷ Deliver 0 1 5 ∷ Deliver 1 0 5 ∷ Poll 1 ∷ Deliver 1 0 6 ∷ Deliver 0 1 6 ∷ Poll 0 ∷ Poll 1
    ∷ Step 0 ∷ Step 1
    ∷ []
unfolding run small owners first_statements plan_acts calls_to steps_of steps_to sweep_to link_acts delivers
small-lines = refl
