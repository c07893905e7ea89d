-- The counters, as they are kept: a list for each task.
use Rattle.std.specs.Prelude.{◌≡◌, ℕ, ◌+◌, ◌-◌, ◌<◌, nat_le, Bool, cond, ◌||◌, List, [], length, replicate, slice_index_or, slice_set, Option, None, Some}
use Rattle.lapi_base.specs.declared.script.Script.{Script}
use Rattle.lapi_base.specs.declared.statement.Statement.{Statement}
use Rattle.lapi_base.specs.declared.statement.Statement.TheVariants.{Wait, Set}
use Rattle.lapi_base.specs.declared.rule.Rules.{Rules}
use Rattle.lapi_base.specs.declared.message.Leg.{Leg}
use Rattle.lapi_base.specs.declared.message.Leg.TheVariants.{Go, Back, Note, Echo}
use Rattle.lapi_base.specs.declared.message.MsgName.{MsgName}
use Rattle.lapi_base.specs.declared.event.Event.{Event}
use Rattle.lapi_base.specs.declared.event.Event.TheVariants.{Issue, Pass, Copy, Land, End}
use Rattle.lapi_base.specs.Record.Operations.{has_back, tgt_counter, org_counter, cmpl_counter}
use Rattle.lapi_base.specs.Record.Counters.{count}
use Rattle.lapi_audit.specs.declared.counts.Counts.{Counts}
use Rattle.lapi_calls.specs.Setting.{completes, target_by}

abbrev pub value : List (List ℕ) → (task counter : ℕ) → ℕ
value tasks t c = slice_index_or (slice_index_or tasks t []) c 0

-- all counters are 0
abbrev pub zeros : Script → List (List ℕ)
zeros script = replicate script.tasks (replicate script.counters 0)

abbrev pub with_value : List (List ℕ) → (task counter value : ℕ) → List (List ℕ)
with_value tasks t c n = slice_set tasks t (slice_set (slice_index_or tasks t []) c n)

-- what a wait leaves, where there is as much
abbrev pub less : ℕ → ℕ → ℕ
less n m = cond (nat_le m n) (n - m) n

abbrev pub with_less : List ℕ → (counter value : ℕ) → List ℕ
with_less counters c m = slice_set counters c (less (slice_index_or counters c 0) m)

abbrev pub taken : List (List ℕ) → (task counter value : ℕ) → List (List ℕ)
taken tasks t c m = with_value tasks t c (less (value tasks t c) m)

abbrev pub announced : List (List ℕ) → ℕ → Option ℕ → List (List ℕ)
announced tasks t None = tasks
announced tasks t (Some c) = with_value tasks t c (value tasks t c + 1)

-- the task and the counter that an event tells
abbrev pub told_copy : MsgName → Leg → Statement → ℕ × Option ℕ
told_copy m Go s = (m.origin, cond (has_back s) None (org_counter s))
told_copy m Back s = (target_by m s, tgt_counter s)
told_copy m leg s = (m.origin, None)

abbrev pub told_go : MsgName → Statement → Bool → ℕ × Option ℕ
told_go m s later = cond later (m.origin, None) (target_by m s, tgt_counter s)

abbrev pub told_land : Rules → MsgName → Leg → Statement → ℕ × Option ℕ
told_land rules m Go s = told_go m s (has_back s || completes rules s)
told_land rules m Back s = (m.origin, org_counter s)
told_land rules m Note s = (m.origin, cmpl_counter s)
told_land rules m Echo s = (m.origin, cmpl_counter s)
told_land rules m leg s = (m.origin, None)

abbrev pub told : Rules → Event → Statement → ℕ × Option ℕ
told rules (Copy m) s = told_copy m m.leg s
told rules (Land m) s = told_land rules m m.leg s
told rules (End m t w) s = (t, tgt_counter s)
told rules _ s = (0, None)

abbrev pub announced_at : List (List ℕ) → ℕ × Option ℕ → List (List ℕ)
announced_at tasks at = announced tasks at.0 at.1

abbrev pub issued : ℕ → Statement → List (List ℕ) → List (List ℕ)
issued t (Set c n) tasks = with_value tasks t c n
issued t _ tasks = tasks

abbrev pub passed : ℕ → Statement → List (List ℕ) → List (List ℕ)
passed t (Wait c n) tasks = taken tasks t c n
passed t _ tasks = tasks

abbrev pub after : Rules → Event → Statement → List (List ℕ) → List (List ℕ)
after rules (Issue a i) s tasks = issued a s tasks
after rules (Pass a i) s tasks = passed a s tasks
after rules e s tasks = announced_at tasks (told rules e s)

-- a counter is there
abbrev pub HasCounter : List (List ℕ) → (task counter : ℕ) → Type 0
HasCounter tasks t c = (t < length tasks) × (c < length (slice_index_or tasks t []))

-- and so is one that may be named
abbrev pub HasNamed : List (List ℕ) → (task : ℕ) → Option ℕ → Type 0
HasNamed tasks t None = Unit {0}
HasNamed tasks t (Some c) = HasCounter tasks t c

abbrev pub HasIssued : List (List ℕ) → ℕ → Statement → Type 0
HasIssued tasks a (Set c n) = HasCounter tasks a c
HasIssued tasks a _ = Unit {0}

abbrev pub HasPassed : List (List ℕ) → ℕ → Statement → Type 0
HasPassed tasks a (Wait c n) = HasCounter tasks a c
HasPassed tasks a _ = Unit {0}

-- the counter that an event sets, takes from or tells is there
abbrev pub IsWithin : Rules → Event → Statement → List (List ℕ) → Type 0
IsWithin rules (Issue a i) s tasks = HasIssued tasks a s
IsWithin rules (Pass a i) s tasks = HasPassed tasks a s
IsWithin rules e s tasks = HasNamed tasks (told rules e s).0 (told rules e s).1

-- the counters are what an event makes of them
abbrev pub AreCounted : Rules → Event → Statement → (old new : Counts) → Type 0
AreCounted rules e s old new = new.tasks.items ≡ after rules e s old.tasks.items

-- they stand for the events so far
pub record CountsStand (script : Script) (rules : Rules) (tasks : List (List ℕ)) (J : List Event) : Type 0 where
  pub task_count : length tasks ≡ script.tasks
  pub counter_count : (t : ℕ) → t < script.tasks → length (slice_index_or tasks t []) ≡ script.counters
  pub values : (t c : ℕ) → t < script.tasks → c < script.counters → value tasks t c ≡ count script rules J t c
