-- Whether a record is quiet, task by task.
use Rattle.std.proofs.Common.{◌≡◌, ℕ, ◌<◌, Bool, true, false, ◌&&◌, not, sym}
use Rattle.std.proofs.lemmas.Bool.{and_from, and_parts, both_ways, false_from_ne_true}
use Rattle.lapi_base.specs.declared.script.Script.{Script}
use Rattle.lapi_base.specs.declared.rule.Rules.{Rules}
use Rattle.lapi_base.specs.Record.Below.{every_below}
use Rattle.lapi_base.specs.Record.Final.{is_idle, is_settled, is_quiet}
use Rattle.lapi_base.specs.Record.Wires.{Run}
use Rattle.lapi_base.proofs.BelowLaws.{every_below-at, every_below-from}
use Rattle.lapi_task.specs.Still.{is_heard, is_still}

module _ (script : Script) (rules : Rules) (r : Run) where
  heard_parts : (a b : ℕ) → is_settled script rules r a b ≡ true → (is_heard script rules r a b ≡ true) × (not (r.owed a b) ≡ true)
  unfolding is_settled
  heard_parts a b h = and_parts (is_heard script rules r a b) (not (r.owed a b)) h

  from_parts : (a b : ℕ) → is_heard script rules r a b ≡ true → not (r.owed a b) ≡ true → is_settled script rules r a b ≡ true
  unfolding is_settled
  from_parts a b h none = and_from (is_heard script rules r a b) (not (r.owed a b)) h none

  abbrev idle : (t : ℕ) → Bool
  idle t = is_idle script rules r t

  abbrev heard : (t : ℕ) → Bool
  heard t = every_below script.tasks (is_heard script rules r t)

  abbrev pays : (t : ℕ) → Bool
  pays t = every_below script.tasks (λ a. not (r.owed a t))

  still_parts : (t : ℕ) → is_still script rules r t ≡ true → (idle t ≡ true) × (heard t ≡ true) × (pays t ≡ true)
  still_parts t h =
      let both = and_parts (idle t && heard t) (pays t) h in
      let front = and_parts (idle t) (heard t) both.0 in
      (front.0, front.1, both.1)

  abbrev settled : (a : ℕ) → Bool
  settled a = every_below script.tasks (is_settled script rules r a)

  -- what a task can't know of a link, whether it is owed, the task at its other end does
  pub all-still : every_below script.tasks (is_still script rules r) ≡ true → true ≡ is_quiet script rules r
  unfolding is_quiet
  all-still h =
      let still = λ (t : ℕ) (l : t < script.tasks). still_parts t (every_below-at script.tasks (is_still script rules r) t h l) in
      sym (and_from (every_below script.tasks idle) (every_below script.tasks settled)
      (every_below-from script.tasks idle (λ t l. (still t l).0))
      (every_below-from script.tasks settled (λ a l. every_below-from script.tasks (is_settled script rules r a)
      (λ b k. from_parts a b
      (every_below-at script.tasks (is_heard script rules r a) b (still a l).1 k)
      (every_below-at script.tasks (λ c. not (r.owed c b)) a (still b k).2 l)))))

  quiet-still : (t : ℕ) → t < script.tasks → is_quiet script rules r ≡ true → is_still script rules r t ≡ true
  unfolding is_quiet
  quiet-still t l h =
      let both = and_parts (every_below script.tasks idle) (every_below script.tasks settled) h in
      let parts = λ (a b : ℕ) (k : a < script.tasks) (j : b < script.tasks). heard_parts a b
      (every_below-at script.tasks (is_settled script rules r a) b (every_below-at script.tasks settled a both.1 k) j) in
      and_from (idle t && heard t) (pays t)
      (and_from (idle t) (heard t)
      (every_below-at script.tasks idle t both.0 l)
      (every_below-from script.tasks (is_heard script rules r t) (λ b k. (parts t b l k).0)))
      (every_below-from script.tasks (λ a. not (r.owed a t)) (λ a k. (parts a t k l).1))

  pub one-busy : (t : ℕ) → t < script.tasks → is_still script rules r t ≡ false → false ≡ is_quiet script rules r
  one-busy t l e = sym (false_from_ne_true _ (λ h. both_ways (is_still script rules r t) e (quiet-still t l h)))
