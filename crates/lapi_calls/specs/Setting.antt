-- What a script and its handlers' rules say of one statement.
use Rattle.std.specs.Prelude.{◌≡◌, ℕ, ◌+◌, ◌%◌, ◌==◌, nat_lt, nat_le, Bool, true, false, ◌&&◌, List, length, Option, is_some, unwrap_or}
use Rattle.lapi_base.specs.declared.script.Script.{Script}
use Rattle.lapi_base.specs.declared.statement.Statement.{Statement}
use Rattle.lapi_base.specs.declared.rule.Rules.{Rules}
use Rattle.lapi_base.specs.declared.message.Leg.{Leg}
use Rattle.lapi_base.specs.declared.message.Leg.TheVariants.{Go}
use Rattle.lapi_base.specs.declared.message.MsgName.{MsgName}
use Rattle.lapi_base.specs.declared.event.Event.{Event}
use Rattle.lapi_base.specs.declared.event.Event.TheVariants.{Issue, Refuse, Enter, Pass, Copy, Head, Land, Begin, End}
use Rattle.lapi_base.specs.Record.Names.{leg_eq, key_of}
use Rattle.lapi_base.specs.Record.Operations.{statement, has_leg, is_am, target_of, to_by, has_join}
use Rattle.lapi_base.specs.Packet.Layout.{may_answer}
use Rattle.lapi_base.specs.Record.Handlers.{header_rule, choice_by, user_by, kept_choice, completion_rule, is_answer, handler_of, user_header}
use Rattle.lapi_base.specs.Record.Atomic.{has_statement, is_there, is_issued, is_passed}
use Rattle.lapi_calls.specs.Places.{task_of, statement_of}
use Rattle.lapi_calls.specs.declared.setting.Setting.{Setting}

abbrev pub rules_of : Setting → Rules
rules_of setting = record { headers = setting.headers.now; completions = setting.completions.now }

-- a task has this statement; and which it is
abbrev pub HasStatement : Setting → (task i : ℕ) → Type 0
HasStatement setting a i = has_statement setting.script.now (rules_of setting) a i ≡ true

abbrev pub LacksStatement : Setting → (task i : ℕ) → Type 0
LacksStatement setting a i = has_statement setting.script.now (rules_of setting) a i ≡ false

abbrev pub IsStatement : Setting → (task i : ℕ) → Statement → Type 0
IsStatement setting a i s = HasStatement setting a i × (s ≡ statement setting.script.now a i)

-- the event is there; and the statement at which an event lies
abbrev pub IsThere : Setting → Event → Type 0
IsThere setting e = is_there setting.script.now (rules_of setting) e ≡ true

abbrev pub lies_at : Script → Event → Statement
lies_at script e = statement script (task_of (key_of e)) (statement_of (key_of e))

abbrev pub named_choice : Rules → ℕ → List ℕ → Option ℕ
named_choice rules handler header = choice_by (header_rule rules handler).choice header

abbrev pub kept : Rules → ℕ → List ℕ → Option ℕ
kept rules handler header = kept_choice (length rules.completions) (named_choice rules handler header)

-- the message of this statement has a completion
abbrev pub completes : Rules → Statement → Bool
completes rules s = is_am s && is_some (kept rules (handler_of s) (user_header s))

-- and an answer, which has a place at the origin
abbrev pub has_place : Script → (user : ℕ) → Bool
has_place script user = user % 4 == 0 && nat_le (user + 4) script.memory

abbrev pub is_answered : Script → Rules → (handler : ℕ) → (header : List ℕ) → Bool
is_answered script rules handler header = is_some (kept rules handler header) && (is_answer (completion_rule rules (unwrap_or (kept rules handler header) 0)) && has_place script (user_by header))

abbrev pub answers_by : Script → Rules → Statement → Bool
answers_by script rules s = is_am s && (may_answer script && is_answered script rules (handler_of s) (user_header s))

abbrev pub target_by : MsgName → Statement → ℕ
target_by m s = unwrap_or (target_of s) m.origin

abbrev pub receiver_by : MsgName → Statement → ℕ
receiver_by m s = to_by m.origin (target_by m s) m.leg

abbrev pub has_leg_by : Script → Rules → MsgName → Statement → Bool
has_leg_by script rules m s = has_leg script (answers_by script rules s) m.origin m.leg s

-- a task has a message of this leg by its statement
abbrev pub leg_is_there : Setting → (task : ℕ) → Leg → Statement → Bool
leg_is_there setting a leg s = has_leg setting.script.now (answers_by setting.script.now (rules_of setting) s) a leg s

abbrev pub has_head : Script → Rules → MsgName → Statement → Bool
has_head script rules m s = has_leg_by script rules m s && (leg_eq m.leg Go && is_am s)

abbrev pub has_job_at : Script → Rules → MsgName → (task worker : ℕ) → Statement → Bool
has_job_at script rules m t w s = has_head script rules m s && (receiver_by m s == t && (nat_lt t script.tasks && nat_lt w script.workers))

-- the statement has such an event
abbrev pub has_event : Script → Rules → Event → Statement → Bool
has_event script rules (Issue a i) s = is_issued s
has_event script rules (Refuse a i why) s = true
has_event script rules (Enter a i) s = has_join s
has_event script rules (Pass a i) s = is_passed s
has_event script rules (Copy m) s = has_leg_by script rules m s
has_event script rules (Head m) s = has_head script rules m s
has_event script rules (Land m) s = has_leg_by script rules m s
has_event script rules (Begin m t w) s = has_job_at script rules m t w s
has_event script rules (End m t w) s = has_job_at script rules m t w s
