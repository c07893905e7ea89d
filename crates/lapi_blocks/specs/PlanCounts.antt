-- How many numbers each Poll of a plan's lines adds to each link, and so how many entries each wire has; and the lines
-- as these counts tell them. This is the project's own.
use Rattle.std.specs.Prelude.{◌≡◌, ℕ, zero, suc, ◌+◌, ◌*◌, ◌==◌, nat_lt, cond, ◌&&◌, List, [], ◌++◌, length, slice_get, Option, Some, None}
use Rattle.lapi_base.specs.declared.rule.Rules.{Rules}
use Rattle.lapi_base.specs.declared.schedule.Act.{Act}
use Rattle.lapi_base.specs.Packet.Layout.{First, unit}
use Rattle.lapi_base.specs.Record.Fragments.{fragments_in}
use Rattle.lapi_flush.specs.Counted.{Counts, sweeps_counts, counted_round}
use Rattle.lapi_blocks.specs.declared.plan.Op.{Op}
use Rattle.lapi_blocks.specs.declared.plan.Op.TheVariants.{Set, Get}
use Rattle.lapi_blocks.specs.declared.plan.Plan.{Plan}
use Rattle.lapi_blocks.specs.declared.patch.Patch.{Patch}
use Rattle.lapi_blocks.specs.Plans.{ValidPlan, patch_of, tasks_of, part_of, is_nonempty, op_statements}
use Rattle.lapi_blocks.specs.PlanRuns.{plan_acts}

-- a message with the words of a part has so many numbers
abbrev pub part_numbers : Patch → ℕ
part_numbers part = fragments_in (unit First) (4 * (part.rows * part.cols))

-- the message to the owner of a part: a set's has its words, and a get's has none
abbrev pub call_numbers : Op → (part : Patch) → ℕ
call_numbers (Set task row col rows cols values) part = part_numbers part
call_numbers (Get task row col rows cols) part = fragments_in (unit First) 0

-- and the one back: a get's has the words, and a set has none
abbrev pub answer_numbers : Op → (part : Patch) → ℕ
answer_numbers (Set task row col rows cols values) part = 0
answer_numbers (Get task row col rows cols) part = part_numbers part

-- what the operation's task sends to the owners of its parts,
abbrev pub going : Plan → Op → (from to : ℕ) → ℕ
going plan op a b =
    let part = part_of plan (patch_of op) b in
    cond (a == (patch_of op).task && is_nonempty part) (call_numbers op part) 0

-- what they send back,
abbrev pub coming : Plan → Op → (from to : ℕ) → ℕ
coming plan op a b =
    let part = part_of plan (patch_of op) a in
    cond (b == (patch_of op).task && is_nonempty part) (answer_numbers op part) 0

-- and what a task that enters a global fence sends to each other
abbrev pub joining : (from to : ℕ) → ℕ
joining a b = cond (b == a) 0 (fragments_in (unit First) 0)

-- How many numbers the Poll of a task in sweep s of its round adds to each of its links. The first sweep after the calls
-- brings what they send, and what comes back to a task that was flushed before; the second brings the rest; the third,
-- after the fences were entered, brings what they send; the fourth brings nothing.
abbrev pub added_by : Plan → Op → (s from to : ℕ) → ℕ
added_by plan op zero a b = going plan op a b + cond (nat_lt (patch_of op).task a) (coming plan op a b) 0
added_by plan op (suc zero) a b = cond (nat_lt (patch_of op).task a) 0 (coming plan op a b)
added_by plan op (suc (suc zero)) a b = joining a b
added_by plan op (suc (suc (suc s))) a b = 0

abbrev pub added : Plan → Option Op → (s from to : ℕ) → ℕ
added plan None s a b = 0
added plan (Some op) s a b = added_by plan op s a b

-- how many entries each wire has after the lines of the first n operations
unfoldable pub plan_counts : Plan → (n : ℕ) → Counts
plan_counts plan zero x y = 0
plan_counts plan (suc k) x y = sweeps_counts (tasks_of plan) (plan_counts plan k) (added plan (slice_get plan.ops k)) 4 x y

-- and these lines
unfoldable pub counted_acts : Plan → (n : ℕ) → List Act
counted_acts plan zero = []
counted_acts plan (suc k) =
    counted_acts plan k
    ++ counted_round (tasks_of plan) (plan_counts plan k)
    (λ a. length (op_statements plan k (slice_get plan.ops k) a)) (added plan (slice_get plan.ops k))

-- they are the lines of the plan
abbrev pub PlansAreCounted : Type 0
PlansAreCounted =
    (plan : Plan) → ValidPlan plan → (rules : Rules)
    → plan_acts plan rules (length plan.ops) ≡ counted_acts plan (length plan.ops)
