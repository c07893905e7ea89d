-- The lines by which a plan's script is run to its end. This is the project's own.
use Rattle.std.specs.Prelude.{ℕ, zero, suc, ◌+◌, ◌*◌, ◌≤◌, Bool, List, [], ◌++◌, length, slice_get}
use Rattle.std.specs.List.{AllByRecursion}
use Rattle.lapi_base.specs.Record.Valid.{ValidAct}
use Rattle.lapi_base.specs.declared.rule.Rules.{Rules}
use Rattle.lapi_base.specs.declared.schedule.Act.{Act}
use Rattle.lapi_base.specs.Packet.Spelling.{refusal}
use Rattle.lapi_base.specs.Packet.PacketBytes.{packet_size}
use Rattle.lapi_base.specs.Record.Wires.{Run, start}
use Rattle.lapi_base.specs.Record.Acts.{after, run_of}
use Rattle.lapi_base.specs.Record.Final.{Quiet}
use Rattle.lapi_flush.specs.Rounds.{round_acts}
use Rattle.lapi_blocks.specs.declared.plan.Plan.{Plan}
use Rattle.lapi_blocks.specs.Plans.{ValidPlan, op_statements, first_statements, compiled}
use Rattle.lapi_blocks.specs.Arrays.{IsPast}

-- the number of the statement with which operation k of a plan begins at a task
abbrev pub op_begin : Plan → (k task : ℕ) → ℕ
op_begin plan k t = length (first_statements plan k t)

-- and that of the global fence after it
abbrev pub op_fence : Plan → (k task : ℕ) → ℕ
op_fence plan k t = op_begin plan k t + length (op_statements plan k (slice_get plan.ops k) t)

-- the lines of the first n operations: a round for each
unfoldable pub plan_acts : Plan → Rules → (n : ℕ) → List Act
plan_acts plan rules zero = []
plan_acts plan rules (suc k) =
    let acts = plan_acts plan rules k in
    acts
    ++ round_acts (compiled plan) rules (op_begin plan) (op_fence plan) k
    (after (compiled plan) rules packet_size refusal start acts)

-- the end of a plan: every task is past its last statement, and the record is quiet
abbrev pub PlansEnd : Plan → Rules → Run → Type 0
PlansEnd plan rules r = IsPast (compiled plan) r.journal × Quiet (compiled plan) rules r

-- the lines of all operations lead there
abbrev pub PlansRun : Type 0
PlansRun =
    (plan : Plan) → ValidPlan plan → (rules : Rules)
    → PlansEnd plan rules (run_of (compiled plan) rules packet_size refusal (plan_acts plan rules (length plan.ops)))

-- they are few: at most 313 for each operation
abbrev pub PlansAreShort : Type 0
PlansAreShort =
    (plan : Plan) → ValidPlan plan → (rules : Rules)
    → length (plan_acts plan rules (length plan.ops)) ≤ 313 * length plan.ops

-- and they are valid, whatever bytes spell a packet
abbrev pub PlansAreValid : Type 0
PlansAreValid =
    (plan : Plan) → ValidPlan plan → (rules : Rules) (spells : List ℕ → Bool)
    → AllByRecursion (ValidAct (compiled plan) spells) (plan_acts plan rules (length plan.ops))
