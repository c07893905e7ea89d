-- The next statement of a task, the round of a collective call, and the reason for which a statement is
-- refused, after a journal. That calls are refused follows the RSCT LAPI Programming Guide, SA22-7936, in
-- outline; the reasons, their order and the rounds are this project's own.
use Rattle.std.specs.Prelude.{ℕ, suc, ◌+◌, ◌%◌, ◌==◌, nat_le, nat_lt, not, Bool, true, false, cond, ◌&&◌, ◌||◌, List, [], ◌∷◌, ◌++◌, length, filter, slice_get, Option, Some, None, option_to_list}
use Rattle.std.specs.List.{list_any, zip}
use Rattle.lapi_base.specs.declared.address.Addr.{Addr}
use Rattle.lapi_base.specs.declared.address.Addr.TheVariants.{Plain, Table}
use Rattle.lapi_base.specs.declared.piece.Piece.{Piece}
use Rattle.lapi_base.specs.declared.vector.Vector.{Vector}
use Rattle.lapi_base.specs.declared.vector.Vector.TheVariants.{Stride}
use Rattle.lapi_base.specs.declared.statement.Statement.{Statement}
use Rattle.lapi_base.specs.declared.statement.Statement.TheVariants.{Put, Get, Putv, Getv, Am}
use Rattle.lapi_base.specs.declared.script.Script.{Script}
use Rattle.lapi_base.specs.declared.rule.Rules.{Rules}
use Rattle.lapi_base.specs.declared.message.Leg.TheVariants.{Join}
use Rattle.lapi_base.specs.declared.event.Event.{Event}
use Rattle.lapi_base.specs.declared.event.Event.TheVariants.{Issue, Refuse, Pass}
use Rattle.lapi_base.specs.declared.refusal.Refusal.{Refusal}
use Rattle.lapi_base.specs.declared.refusal.Refusal.TheVariants.{BadTask, BadTargetRange, BadOriginRange, BadCounter, TooLong, NoTable, BadHandler, BadUserHeader, VecCount, VecLength, StrideBelowBlock, Misaligned}
use Rattle.lapi_base.specs.Packet.Layout.{longest_of, longest_active_of}
use Rattle.lapi_base.specs.Record.Below.{below, every_below}
use Rattle.lapi_base.specs.Record.Names.{message, Passed, Landed, happened}
use Rattle.lapi_base.specs.Record.Operations.{statements, statement, is_gfence, table_rounds, address, target_pieces, origin_pieces, total, is_rmw, target_of, target, tgt_counter, org_counter, cmpl_counter, own_counter, is_am}
use Rattle.lapi_base.specs.Record.Handlers.{handler_of, user_header}

abbrev pub option_any : {X : Type 0} → (X → Bool) → Option X → Bool
option_any p None = false
option_any p (Some x) = p x

-- how many statements of task a were issued, refused or passed: the number of its next one
unfoldable pub next : List Event → ℕ → ℕ
next [] a = 0
next (Issue b i ∷ J) a = cond (a == b) (suc (next J a)) (next J a)
next (Refuse b i refusal_of ∷ J) a = cond (a == b) (suc (next J a)) (next J a)
next (Pass b i ∷ J) a = cond (a == b) (suc (next J a)) (next J a)
next (e ∷ J) a = next J a

-- Rounds: the fences over all tasks, and apart from them the address rounds, each in the order of a task's statements.
unfoldable pub gfence_rounds : Script → ℕ → List ℕ
gfence_rounds script a = below (length (statements script a)) (λ i. is_gfence (statement script a i))

-- the rounds of a task of the kind of this statement
abbrev pub rounds_like : Script → Statement → ℕ → List ℕ
rounds_like script s a = cond (is_gfence s) (gfence_rounds script a) (table_rounds script a)

-- the number of the round of statement i of task a
unfoldable pub round_of : Script → ℕ → ℕ → ℕ
round_of script a i = length (filter (λ j. nat_lt j i) (rounds_like script (statement script a i) a))

-- the statement of task d in the same round
unfoldable pub partner : Script → (a i d : ℕ) → Option ℕ
partner script a i d = slice_get (rounds_like script (statement script a i) d) (round_of script a i)

abbrev pub join_landed : List Event → (a d : ℕ) → Option ℕ → Bool
join_landed J a d None = false
join_landed J a d (Some j) = happened (Landed (message d j (Join a))) J

-- the Join of this round from every other task has landed
unfoldable pub joined : Script → List Event → ℕ → ℕ → Bool
joined script J a i = every_below script.tasks (λ d. d == a || join_landed J a d (partner script a i d))

-- Refusals.
abbrev pub round_passed : Script → List Event → ℕ → ℕ → Bool
round_passed script J a round = option_any (λ i. happened (Passed a i) J) (slice_get (table_rounds script a) round)

abbrev pub is_known : Script → List Event → ℕ → Addr → Bool
is_known script J a (Plain x) = true
is_known script J a (Table round offset) = round_passed script J a round

abbrev pub lies_within : Script → ℕ → Piece → Bool
lies_within script d p = nat_le (address script d p.at + p.len) script.memory

abbrev pub counters_of : Statement → List ℕ
counters_of s = option_to_list (own_counter s) ++ option_to_list (tgt_counter s) ++ option_to_list (org_counter s) ++ option_to_list (cmpl_counter s)

abbrev pub is_vector : Statement → Bool
is_vector (Putv target to from tgt org cmpl) = true
is_vector (Getv target from to tgt org) = true
is_vector _ = false

abbrev pub is_long : Script → List Piece → Bool
is_long script pieces = nat_lt (longest_of script) (total pieces)

abbrev pub too_long : Script → Statement → Bool
too_long script (Put target to from len tgt org cmpl) = nat_lt (longest_of script) len
too_long script (Get target from to len tgt org) = nat_lt (longest_of script) len
too_long script (Am target handler header from len tgt org cmpl) = nat_lt (longest_active_of script) len
too_long script s = is_vector s && (is_long script (target_pieces s) || is_long script (origin_pieces s))

abbrev pub below_block : Vector → Bool
below_block (Vector.List pieces) = false
below_block (Stride base block stride count) = nat_lt stride block

abbrev pub stride_below_block : Statement → Bool
stride_below_block (Putv target to from tgt org cmpl) = below_block to || below_block from
stride_below_block (Getv target from to tgt org) = below_block to || below_block from
stride_below_block _ = false

abbrev pub is_misaligned : Script → ℕ → Piece → Bool
is_misaligned script d p = not (address script d p.at % 4 == 0)

-- the first reason whose test holds
unfoldable pub first_reason : List (Bool × Refusal) → Option Refusal
first_reason [] = None
first_reason (line ∷ lines) = cond line.0 (Some line.1) (first_reason lines)

-- refusal_of statement i of task a is refused, if it is, where these addresses are known
unfoldable pub refusal_by : Script → Rules → (Addr → Bool) → ℕ → ℕ → Option Refusal
refusal_by script rules known a i =
    let s = statement script a i in
    let d = target script a i in
    let to = target_pieces s in
    let from = origin_pieces s in
    first_reason (
    (option_any (λ t. not (nat_lt t script.tasks)) (target_of s), BadTask)
    ∷ (list_any (λ (p : Piece). known p.at && not (lies_within script d p)) to, BadTargetRange)
    ∷ (list_any (λ p. not (lies_within script d p)) from, BadOriginRange)
    ∷ (list_any (λ c. not (nat_lt c script.counters)) (counters_of s), BadCounter)
    ∷ (too_long script s, TooLong)
    ∷ (list_any (λ (p : Piece). not (known p.at)) to, NoTable)
    ∷ (is_am s && not (nat_lt (handler_of s) (length rules.headers)), BadHandler)
    ∷ (is_am s && (nat_lt 64 (length (user_header s)) || not (length (user_header s) % 4 == 0)), BadUserHeader)
    ∷ (is_vector s && not (length to == length from), VecCount)
    ∷ (is_vector s && list_any (λ (pq : Piece × Piece). not (pq.0.len == pq.1.len)) (zip to from), VecLength)
    ∷ (stride_below_block s, StrideBelowBlock)
    ∷ (is_rmw s && (list_any (is_misaligned script d) to || list_any (is_misaligned script d) from), Misaligned)
    ∷ [])

-- and after this journal
unfoldable pub refusal_of : Script → Rules → List Event → ℕ → ℕ → Option Refusal
refusal_of script rules J a i = refusal_by script rules (is_known script J a) a i

-- what was refused of a task: the number of each statement, and the reason, in order
unfoldable pub refusals : List Event → (task : ℕ) → List (ℕ × Refusal)
refusals [] t = []
refusals (Refuse a i reason ∷ J) t = refusals J t ++ cond (a == t) ((i, reason) ∷ []) []
refusals (e ∷ J) t = refusals J t
