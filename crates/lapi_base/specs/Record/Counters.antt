-- Counters: the last value that was set, or 0, and the announcements after it, less what waits took after it.
-- Which events announce a counter follows the RSCT LAPI Programming Guide, SA22-7936, in outline.
use Rattle.std.specs.Prelude.{ℕ, ◌+◌, ◌-◌, ◌==◌, Bool, false, cond, ◌&&◌, not, List, [], ◌∷◌, ◌++◌, Option, Some, None}
use Rattle.lapi_base.specs.declared.statement.Statement.{Statement}
use Rattle.lapi_base.specs.declared.statement.Statement.TheVariants.{Wait, Set, Read}
use Rattle.lapi_base.specs.declared.script.Script.{Script}
use Rattle.lapi_base.specs.declared.rule.Rules.{Rules}
use Rattle.lapi_base.specs.declared.message.Leg.{Leg}
use Rattle.lapi_base.specs.declared.message.Leg.TheVariants.{Go, Back, Note, Echo, Join}
use Rattle.lapi_base.specs.declared.message.MsgName.{MsgName}
use Rattle.lapi_base.specs.declared.event.Event.{Event}
use Rattle.lapi_base.specs.declared.event.Event.TheVariants.{Issue, Pass, Copy, Land, End}
use Rattle.lapi_base.specs.Record.Operations.{statement, target, has_back, tgt_counter, org_counter, cmpl_counter}
use Rattle.lapi_base.specs.Record.Handlers.{has_completion}

-- this counter of this task
abbrev pub is_counter : Option ℕ → (task : ℕ) → (t c : ℕ) → Bool
is_counter None a t c = false
is_counter (Some d) a t c = a == t && d == c

module _ (script : Script) (rules : Rules) where
  -- Which event tells which counter, and where.
  abbrev pub copy_tells : MsgName → Leg → Statement → (t c : ℕ) → Bool
  copy_tells m Go s t c = not (has_back s) && is_counter (org_counter s) m.origin t c
  copy_tells m Back s t c = is_counter (tgt_counter s) (target script m.origin m.statement) t c
  copy_tells m _ s t c = false

  abbrev pub land_tells : MsgName → Leg → Statement → (t c : ℕ) → Bool
  land_tells m Go s t c = (not (has_back s) && not (has_completion script rules m.origin m.statement)) && is_counter (tgt_counter s) (target script m.origin m.statement) t c
  land_tells m Back s t c = is_counter (org_counter s) m.origin t c
  land_tells m Note s t c = is_counter (cmpl_counter s) m.origin t c
  land_tells m Echo s t c = is_counter (cmpl_counter s) m.origin t c
  land_tells m (Join d) s t c = false

  unfoldable pub tells : Event → (t c : ℕ) → Bool
  tells (Copy m) t c = copy_tells m m.leg (statement script m.origin m.statement) t c
  tells (Land m) t c = land_tells m m.leg (statement script m.origin m.statement) t c
  tells (End m b w) t c = is_counter (tgt_counter (statement script m.origin m.statement)) b t c
  tells _ t c = false

  abbrev pub issued_count : Statement → (task t c before : ℕ) → ℕ
  issued_count (Set counter value) a t c before = cond (a == t && counter == c) value before
  issued_count _ a t c before = before

  abbrev pub passed_count : Statement → (task t c before : ℕ) → ℕ
  passed_count (Wait counter value) a t c before = cond (a == t && counter == c) (before - value) before
  passed_count _ a t c before = before

  unfoldable pub count : List Event → (t c : ℕ) → ℕ
  count [] t c = 0
  count (Issue a i ∷ J) t c = issued_count (statement script a i) a t c (count J t c)
  count (Pass a i ∷ J) t c = passed_count (statement script a i) a t c (count J t c)
  count (e ∷ J) t c = count J t c + cond (tells e t c) 1 0

  -- What reads answer: the number of the statement and the counter's value before it, in order.
  abbrev pub read_by : List Event → (task statement : ℕ) → Statement → List (ℕ × ℕ)
  read_by J a i (Read counter) = (i, count J a counter) ∷ []
  read_by J a i _ = []

  unfoldable pub reads : List Event → (task : ℕ) → List (ℕ × ℕ)
  reads [] t = []
  reads (Issue a i ∷ J) t = reads J t ++ cond (a == t) (read_by J a i (statement script a i)) []
  reads (e ∷ J) t = reads J t
