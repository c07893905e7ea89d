-- What is there, by its statement.
use Rattle.std.proofs.Common.{◌≡◌, ℕ, ◌<◌, ◌≤◌, ◌==◌, Bool, true, false, ◌&&◌, [], length, Some, None, refl, sym, ap, ◌∙◌, ⊎_elim, arith}
use Rattle.std.specs.Prelude.{nat_lt, slice_get, is_some, unwrap_or}
use Rattle.std.proofs.Math.Bool.{and_assoc}
use Rattle.std.proofs.lemmas.Bool.{and_from, and_parts, cases_lt, lt-ltb, ltb-true, false_from_ne_true}
use Rattle.std.proofs.lemmas.List.{get_or_past}
use Rattle.std.proofs.lemmas.Option.{slice_get_within, get_or_from_slice_get, slice_get-get_or}
use Rattle.lapi_base.specs.declared.message.MsgName.{MsgName}
use Rattle.lapi_base.specs.declared.message.Leg.TheVariants.{Go}
use Rattle.lapi_base.specs.declared.statement.Statement.{Statement}
use Rattle.lapi_base.specs.declared.statement.Statement.TheVariants.{Fence}
use Rattle.lapi_base.specs.declared.script.Script.{Script}
use Rattle.lapi_base.specs.declared.rule.Rules.{Rules}
use Rattle.lapi_base.specs.declared.event.Event.{Event}
use Rattle.lapi_base.specs.declared.event.Event.TheVariants.{Issue, Refuse, Enter, Pass, Copy, Head, Land, Begin, End}
use Rattle.lapi_base.specs.Record.Names.{key_of, leg_eq}
use Rattle.lapi_base.specs.Record.Operations.{statements, statement, has_leg, is_am, receiver}
use Rattle.lapi_base.specs.Packet.Layout.{may_answer}
use Rattle.lapi_base.specs.Record.Handlers.{has_completion, completion, rule_named, user, user_by, completion_rule, is_answer, answers, handler_of, user_header}
use Rattle.lapi_base.specs.Record.Atomic.{is_there, has_statement, has_job}
use Rattle.lapi_calls.specs.Setting.{kept, has_place, answers_by, has_leg_by, has_event, has_job_at}
use Rattle.lapi_calls.specs.Places.{task_of, statement_of}

grouped-3 : (x y z u : Bool) → (((x && y) && z) && u) ≡ (x && ((y && z) && u))
grouped-3 true y z u = refl
grouped-3 false y z u = refl

alone : (x : Bool) → x ≡ (x && true)
alone true = refl
alone false = refl

regrouped : (x y z u v : Bool) → (((x && (y && z)) && u) && v) ≡ (y && (x && (z && (u && v))))
regrouped true true true u v = refl
regrouped true true false u v = refl
regrouped true false z u v = refl
regrouped false true z u v = refl
regrouped false false z u v = refl

module _ (script : Script) (rules : Rules) where
  -- whether an operation answers, by its statement
  pub answered_by : (a i : ℕ) → answers script rules a i ≡ answers_by script rules (statement script a i)
  unfolding answers has_completion completion rule_named user
  answered_by a i =
      let s = statement script a i in
      let k = kept rules (handler_of s) (user_header s) in
      regrouped (may_answer script) (is_am s) (is_some k) (is_answer (completion_rule rules (unwrap_or k 0))) (has_place script (user_by (user_header s)))

  leg : (m : MsgName) → has_leg script (answers script rules m.origin m.statement) m.origin m.leg (statement script m.origin m.statement) ≡ has_leg_by script rules m (statement script m.origin m.statement)
  leg m = ap (λ x. has_leg script x m.origin m.leg (statement script m.origin m.statement)) (answered_by m.origin m.statement)

  head : (m : MsgName) → is_there script rules (Head m) ≡ (has_statement script rules m.origin m.statement && has_event script rules (Head m) (statement script m.origin m.statement))
  head m =
      and_assoc (has_statement script rules m.origin m.statement) (has_leg script (answers script rules m.origin m.statement) m.origin m.leg (statement script m.origin m.statement)) (leg_eq m.leg Go && is_am (statement script m.origin m.statement))
      ∙ ap (λ x. has_statement script rules m.origin m.statement && (x && (leg_eq m.leg Go && is_am (statement script m.origin m.statement)))) (leg m)

  job : (m : MsgName) (t w : ℕ) → has_job script rules m t w ≡ (has_statement script rules m.origin m.statement && has_job_at script rules m t w (statement script m.origin m.statement))
  job m t w =
      grouped-3 (has_statement script rules m.origin m.statement) (has_leg script (answers script rules m.origin m.statement) m.origin m.leg (statement script m.origin m.statement)) (leg_eq m.leg Go && is_am (statement script m.origin m.statement))
      (receiver script m == t && (nat_lt t script.tasks && nat_lt w script.workers))
      ∙ ap (λ x. has_statement script rules m.origin m.statement && ((x && (leg_eq m.leg Go && is_am (statement script m.origin m.statement))) && (receiver script m == t && (nat_lt t script.tasks && nat_lt w script.workers)))) (leg m)

  pub there_by : (e : Event) → is_there script rules e ≡ (has_statement script rules (task_of (key_of e)) (statement_of (key_of e)) && has_event script rules e (statement script (task_of (key_of e)) (statement_of (key_of e))))
  there_by (Issue a i) = refl
  there_by (Refuse a i y) = alone (has_statement script rules a i)
  there_by (Enter a i) = refl
  there_by (Pass a i) = refl
  there_by (Copy m) = ap (λ x. has_statement script rules m.origin m.statement && x) (leg m)
  there_by (Head m) = head m
  there_by (Land m) = ap (λ x. has_statement script rules m.origin m.statement && x) (leg m)
  there_by (Begin m t w) = job m t w
  there_by (End m t w) = job m t w

  -- a statement that is there, and one that isn't
  pub there_at : (a i : ℕ) (s : Statement) → length script.lists ≡ script.tasks → slice_get (statements script a) i ≡ Some s → (has_statement script rules a i ≡ true) × (s ≡ statement script a i)
  unfolding statement
  there_at a i s count at =
      let li = slice_get_within (statements script a) i s at in
      let la : a < script.tasks = ⊎_elim (λ (x : a < length script.lists). let q : a < script.tasks = omega arith in q)
      (λ (x : length script.lists ≤ a). absurd (past li (get_or_past script.lists a [] x))) (cases_lt a (length script.lists)) in
      (and_from (nat_lt a script.tasks) (nat_lt i (length (statements script a))) (lt-ltb a script.tasks la) (lt-ltb i (length (statements script a)) li), sym (get_or_from_slice_get (statements script a) i s Fence at))
    where
      past : i < length (statements script a) → statements script a ≡ [] → ⊥
      past l e = let z : length (statements script a) ≡ 0 = ap length e in omega arith

  pub absent_at : (a i : ℕ) → slice_get (statements script a) i ≡ None → has_statement script rules a i ≡ false
  absent_at a i none =
      false_from_ne_true (has_statement script rules a i) (λ yes.
      let li = ltb-true i (length (statements script a)) (and_parts (nat_lt a script.tasks) (nat_lt i (length (statements script a))) yes).1 in
      let some = slice_get-get_or (statements script a) i Fence li in
      let q : ⊥ = cc in q)
