-- In the end the blocks of a compiled plan hold the plain array, and the areas of gets the patches that they got.
use Rattle.std.proofs.Common.{◌≡◌, ◌⊎◌, ℕ, ◌+◌, ◌-◌, ◌<◌, ◌≤◌, true, false, ◌||◌, List, length, refl, ap, ◌∙◌, ⊎_elim, arith, ◌*◌, ◌/◌, ◌%◌}
use Rattle.std.proofs.lemmas.List.{append-nil}
use Rattle.lapi_base.specs.Record.Values.{gathered}
use Rattle.lapi_epochs.proofs.GatheredPieces.{line-same}
use Rattle.lapi_base.specs.declared.rule.Rules.{Rules}
use Rattle.lapi_base.specs.declared.event.Event.{Event}
use Rattle.lapi_base.specs.declared.statement.Statement.TheVariants.{Gfence}
use Rattle.lapi_base.specs.Record.Operations.{statements, statement, is_am, is_rmw}
use Rattle.lapi_base.specs.Record.Atomic.{Atomic}
use Rattle.lapi_base.specs.Laws.Landing.{memory_at}
use Rattle.lapi_laws.proofs.Runs.{run-sound}
use Rattle.lapi_blocks.specs.declared.plan.Op.{Op}
use Rattle.lapi_blocks.specs.declared.plan.Op.TheVariants.{Set, Get}
use Rattle.lapi_blocks.specs.declared.plan.Plan.{Plan}
use Rattle.lapi_epochs.specs.Epochs.{epoch, Has}
use Rattle.lapi_epochs.specs.Stages.{is_written, AreStages}
use Rattle.lapi_blocks.specs.declared.patch.Patch.{Patch}
use Rattle.lapi_blocks.specs.Plans.{patch_of, tasks_of, ValidPlan, byte_at, plain, block_row, block_col, owner, area, part_of, moves, compiled}
use Rattle.lapi_blocks.specs.Arrays.{IsPast, BlocksArePlain, GotArePlain, GotBytesArePlain, HoldsOfPlans, HoldsOfPlanRuns}
use Rattle.lapi_epochs.proofs.StagedBytes.{ends-are}
use Rattle.lapi_blocks.proofs.CompiledStatements.{nth-of_get, count, statements-are, epoch-begin, stand, IsStored, IsMoved}
use Rattle.lapi_blocks.proofs.ArrayStages.{within, byte-lies, stage, at-block, at-area, plain-get, owned}
use Rattle.lapi_blocks.proofs.StagesAreMade.{in-words, starts, stores-hold, moves-hold, moves-apart}
use Rattle.lapi_blocks.proofs.UnwrittenStays.{stays}
use Rattle.lapi_blocks.proofs.NeverRefused.{never-refused}

moves-plain : (plan : Plan) (k : ℕ) (op : Op) (part : Patch) → (is_am (moves plan k op part) || is_rmw (moves plan k op part)) ≡ false
moves-plain plan k (Set task row col rows cols values) part = refl
moves-plain plan k (Get task row col rows cols) part = refl

module _ (plan : Plan) (valid : ValidPlan plan) (rules : Rules) where
  pub all-plain : (a i : ℕ) → Has (compiled plan) a i → (is_am (statement (compiled plan) a i) || is_rmw (statement (compiled plan) a i)) ≡ false
  all-plain a i has =
      let s = stand plan a i has in
      ⊎_elim
      (λ (f : statement (compiled plan) a i ≡ Gfence). ap (λ x. is_am x || is_rmw x) f)
      (λ (r : (a ≡ (patch_of s.op).task) × (IsStored plan s.k s.op s.o (statement (compiled plan) a i) ⊎ IsMoved plan s.k s.op s.o (statement (compiled plan) a i))).
      ⊎_elim
      (λ (st : IsStored plan s.k s.op s.o (statement (compiled plan) a i)). ap (λ x. is_am x || is_rmw x) st.2)
      (λ (m : IsMoved plan s.k s.op s.o (statement (compiled plan) a i)). ap (λ x. is_am x || is_rmw x) m.3 ∙ moves-plain plan s.k s.op (part_of plan (patch_of s.op) m.0))
      r.1)
      s.kind

  pub are-stages : AreStages (compiled plan) rules (stage plan)
  are-stages = record {
    only_moves = all-plain;
    none_refused = λ J a i has. never-refused plan valid rules J a i has;
    start = starts plan valid;
    stays = stays plan valid;
    stored = stores-hold plan valid;
    carried = moves-hold plan valid;
    apart = moves-apart plan valid;
  }

  epoch-end : (a : ℕ) → a < tasks_of plan → epoch (compiled plan) a (length (statements (compiled plan) a)) ≡ length plan.ops
  epoch-end a l = ap (λ xs. epoch (compiled plan) a (length xs)) (statements-are plan a l) ∙ epoch-begin plan (count plan) a l (let q : count plan ≤ count plan = omega arith in q)

  epoch-inside : (a i t x : ℕ) → Has (compiled plan) a i → is_written (compiled plan) a i t x ≡ true → epoch (compiled plan) a i < length plan.ops
  epoch-inside a i t x has w = let s = stand plan a i has in let r = s.room in let e = s.epoch_is in omega arith

  -- in the end all memories are those of the last stage
  ended : (J : List Event) → Atomic (compiled plan) rules J → IsPast (compiled plan) J → (t x : ℕ) → memory_at (compiled plan) rules J t x ≡ stage plan (length plan.ops) t x
  ended J h past t x = ends-are (compiled plan) rules J h (stage plan) are-stages (length plan.ops) epoch-end epoch-inside past t x

  blocks : (J : List Event) → Atomic (compiled plan) rules J → IsPast (compiled plan) J → BlocksArePlain plan rules J
  blocks J h past r c b lr lc lb =
      let w = owner plan r c in
      let own = owned plan valid r c lr lc in
      let u = r - block_row plan w in
      let v = c - block_col plan w in
      ended J h past w (byte_at plan.width u v b)
      ∙ at-block plan valid (length plan.ops) w u v b own.0 (inside (block_row plan w) r plan.height own.1 own.2) (inside (block_col plan w) c plan.width own.3 own.4) lb
      ∙ ap (λ i. plain plan.ops (length plan.ops) i (block_col plan w + v) b) (again (block_row plan w) r own.1)
      ∙ ap (λ j. plain plan.ops (length plan.ops) r j b) (again (block_col plan w) c own.3)
    where
      inside : (low r h : ℕ) → low ≤ r → r < low + h → r - low < h
      inside low r h a b = omega arith

      again : (low r : ℕ) → low ≤ r → low + (r - low) ≡ r
      again low r a = omega arith

  got : (J : List Event) → Atomic (compiled plan) rules J → IsPast (compiled plan) J → GotArePlain plan rules J
  got J h past k task row col rows cols u v b e lu lv lb =
      let op = Get task row col rows cols in
      ended J h past task (area k + byte_at cols u v b)
      ∙ at-area plan valid (length plan.ops) k op u v b e (nth-of_get plan.ops k op op e).1 lu lv lb
      ∙ plain-get plan valid k op (row + u) (col + v) b e refl

  got-bytes : (J : List Event) → Atomic (compiled plan) rules J → IsPast (compiled plan) J → GotBytesArePlain plan rules J
  unfolding gathered
  got-bytes J h past k task row col rows cols e =
      let p = patch_of (Get task row col rows cols) in
      append-nil _
      ∙ line-same (λ z. memory_at (compiled plan) rules J task (area k + z)) (λ z. plain plan.ops k (row + z / 4 / cols) (col + (z / 4) % cols) (z % 4)) (4 * (rows * cols)) (λ z l.
      let w = in-words plan valid rows cols z (within plan valid k (Get task row col rows cols) e).words.0 l in
      ap (λ y. memory_at (compiled plan) rules J task (area k + y)) w.3 ∙ got J h past k task row col rows cols (z / 4 / cols) ((z / 4) % cols) (z % 4) e w.1 w.2 (byte-lies plan valid z))

-- the laws
pub got-bytes-plain : HoldsOfPlans GotBytesArePlain
got-bytes-plain plan valid rules J h past = got-bytes plan valid rules J h past

pub blocks-plain : HoldsOfPlans BlocksArePlain
blocks-plain plan valid rules J h past = blocks plan valid rules J h past

pub got-plain : HoldsOfPlans GotArePlain
got-plain plan valid rules J h past = got plan valid rules J h past

pub of-plan_runs : (P : Plan → Rules → List Event → Type 0) → HoldsOfPlans P → HoldsOfPlanRuns P
of-plan_runs P h plan valid rules spells size refusal acts v = λ past. h plan valid rules _ (run-sound (compiled plan) rules spells size refusal acts v).atomic past
