-- Why a statement is refused, by the statement.
use Rattle.std.specs.Prelude.{◌≡◌, ℕ, ◌+◌, ◌%◌, ◌==◌, nat_le, nat_lt, Bool, ◌&&◌, ◌||◌, not, List, [], ◌∷◌, length, map, Option}
use Rattle.std.specs.List.{list_any, zip}
use Rattle.lapi_base.specs.declared.address.Addr.{Addr}
use Rattle.lapi_base.specs.declared.piece.Piece.{Piece}
use Rattle.lapi_base.specs.declared.statement.Statement.{Statement}
use Rattle.lapi_base.specs.declared.script.Script.{Script}
use Rattle.lapi_base.specs.declared.rule.Rules.{Rules}
use Rattle.lapi_base.specs.declared.refusal.Refusal.{Refusal}
use Rattle.lapi_base.specs.declared.refusal.Refusal.TheVariants.{BadTask, BadTargetRange, BadOriginRange, BadCounter, TooLong, NoTable, BadHandler, BadUserHeader, VecCount, VecLength, StrideBelowBlock, Misaligned}
use Rattle.lapi_base.specs.Record.Operations.{target_pieces, origin_pieces, is_rmw, target_of, is_am}
use Rattle.lapi_base.specs.Record.Refusals.{option_any, lies_within, counters_of, too_long, is_vector, stride_below_block, is_misaligned, first_reason, refusal_by, refusal_of}
use Rattle.lapi_base.specs.Record.Handlers.{handler_of, user_header}
use Rattle.lapi_base.specs.declared.statement.Statement.TheVariants.{Put, Get, Am}
use Rattle.lapi_calls.specs.declared.setting.Setting.{Setting}
use Rattle.lapi_base.specs.declared.event.Event.{Event}
use Rattle.lapi_calls.specs.Calls.{IsCall, KnowsPassed, peer_of}
use Rattle.lapi_calls.specs.Entries.{is_told}
use Rattle.lapi_calls.specs.Limits.{limits_of}
use Rattle.lapi_calls.specs.Setting.{rules_of}
use Rattle.lapi_calls.specs.declared.limits.Limits.{Limits}
use Rattle.lapi_calls.specs.declared.reach.Reach.{Reach}
use Rattle.lapi_calls.specs.Reaches.{total_of, reach_of}

module _ (script : Script) (rules : Rules) (known : Addr → Bool) (d : ℕ) where
  -- a piece whose address is known lies outside of the memory
  abbrev pub is_outside : Piece → Bool
  is_outside p = known p.at && not (lies_within script d p)

  abbrev pub is_missing : ℕ → Bool
  is_missing c = not (nat_lt c script.counters)

  -- the tests of all reasons, in their order
  abbrev pub reason_tests : Statement → List (Bool × Refusal)
  reason_tests s =
      (option_any (λ t. not (nat_lt t script.tasks)) (target_of s), BadTask)
      ∷ (list_any is_outside (target_pieces s), BadTargetRange)
      ∷ (list_any (λ p. not (lies_within script d p)) (origin_pieces s), BadOriginRange)
      ∷ (list_any is_missing (counters_of s), BadCounter)
      ∷ (too_long script s, TooLong)
      ∷ (list_any (λ (p : Piece). not (known p.at)) (target_pieces s), NoTable)
      ∷ (is_am s && not (nat_lt (handler_of s) (length rules.headers)), BadHandler)
      ∷ (is_am s && (nat_lt 64 (length (user_header s)) || not (length (user_header s) % 4 == 0)), BadUserHeader)
      ∷ (is_vector s && not (length (target_pieces s) == length (origin_pieces s)), VecCount)
      ∷ (is_vector s && list_any (λ (pq : Piece × Piece). not (pq.0.len == pq.1.len)) (zip (target_pieces s) (origin_pieces s)), VecLength)
      ∷ (stride_below_block s, StrideBelowBlock)
      ∷ (is_rmw s && (list_any (is_misaligned script d) (target_pieces s) || list_any (is_misaligned script d) (origin_pieces s)), Misaligned)
      ∷ []

-- The same where the pieces at the target and at the origin lie so.
abbrev pub long_reaches : Limits → List Reach → Bool
long_reaches limits rs = nat_lt limits.longest (total_of rs)

abbrev pub long_by : Limits → (to from : List Reach) → Statement → Bool
long_by limits to from (Put target at origin len tgt org cmpl) = nat_lt limits.longest len
long_by limits to from (Get target at origin len tgt org) = nat_lt limits.longest len
long_by limits to from (Am target handler header origin len tgt org cmpl) = nat_lt limits.longest_active len
long_by limits to from s = is_vector s && (long_reaches limits to || long_reaches limits from)

abbrev pub handler_missing : (headers : ℕ) → Statement → Bool
handler_missing headers s = is_am s && not (nat_lt (handler_of s) headers)

abbrev pub header_is_bad : Statement → Bool
header_is_bad s = is_am s && (nat_lt 64 (length (user_header s)) || not (length (user_header s) % 4 == 0))

abbrev pub lengths_differ : (to from : List Reach) → Statement → Bool
lengths_differ to from s = is_vector s && list_any (λ (pq : Reach × Reach). not (pq.0.len == pq.1.len)) (zip to from)

abbrev pub is_askew : List Reach → Bool
is_askew reaches = list_any (λ (r : Reach). not (r.at % 4 == 0)) reaches

abbrev pub is_misplaced : (to from : List Reach) → Statement → Bool
is_misplaced to from s = is_rmw s && (is_askew to || is_askew from)

-- the reasons after NoTable
abbrev pub late_tests : (headers : ℕ) → (to from : List Reach) → Statement → List (Bool × Refusal)
late_tests headers to from s =
    (handler_missing headers s, BadHandler)
    ∷ (header_is_bad s, BadUserHeader)
    ∷ (is_vector s && not (length to == length from), VecCount)
    ∷ (lengths_differ to from s, VecLength)
    ∷ (stride_below_block s, StrideBelowBlock)
    ∷ (is_misplaced to from s, Misaligned)
    ∷ []

abbrev pub reach_tests : Limits → (to from : List Reach) → Statement → List (Bool × Refusal)
reach_tests limits to from s =
    (option_any (λ t. not (nat_lt t limits.tasks)) (target_of s), BadTask)
    ∷ (list_any (λ (r : Reach). r.known && not (nat_le (r.at + r.len) limits.memory)) to, BadTargetRange)
    ∷ (list_any (λ (r : Reach). not (nat_le (r.at + r.len) limits.memory)) from, BadOriginRange)
    ∷ (list_any (λ c. not (nat_lt c limits.counters)) (counters_of s), BadCounter)
    ∷ (long_by limits to from s, TooLong)
    ∷ (list_any (λ (r : Reach). not r.known) to, NoTable)
    ∷ late_tests limits.headers to from s

-- the first reason that applies to a call of a task, by where its pieces lie
abbrev pub reason_by_reach : Limits → (known : ℕ → Bool) → (given : ℕ → ℕ → ℕ) → (task : ℕ) → Statement → Option Refusal
reason_by_reach limits known given a s =
    first_reason (reach_tests limits (map (reach_of known given (peer_of a s)) (target_pieces s)) (map (reach_of known given (peer_of a s)) (origin_pieces s)) s)

-- why a statement is refused, if it is, where these rounds are known
abbrev pub why_told : Setting → (known : ℕ → Bool) → (task i : ℕ) → Option Refusal
why_told setting known a i = refusal_by setting.script.now (rules_of setting) (is_told known) a i

-- this is the record's reason, in every script with these limits in which the call is a statement of the task
abbrev pub IsRefusal : Limits → (known : ℕ → Bool) → (given : ℕ → ℕ → ℕ) → (task : ℕ) → Statement → Option Refusal → Type 0
IsRefusal limits known given a s found =
    (script : Script) (rules : Rules) (i : ℕ) → limits ≡ limits_of script (length rules.headers) → IsCall script known given a i s → found ≡ refusal_by script rules (is_told known) a i

-- and after every journal by which the task has passed the rounds that are known
abbrev pub IsRefusalAfter : Limits → (known : ℕ → Bool) → (given : ℕ → ℕ → ℕ) → (task : ℕ) → Statement → Option Refusal → Type 0
IsRefusalAfter limits known given a s found =
    (script : Script) (rules : Rules) (J : List Event) (i : ℕ)
    → limits ≡ limits_of script (length rules.headers)
    → IsCall script known given a i s
    → KnowsPassed script J a known
    → found ≡ refusal_of script rules J a i
