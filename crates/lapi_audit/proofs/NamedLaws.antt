-- What an event that keeps the rules sets, takes from, tells or queues is there.
use Rattle.std.proofs.Common.{◌≡◌, ℕ, ◌<◌, ◌==◌, Bool, true, false, cond, ◌&&◌, List, length, [], ◌∷◌, ◌||◌, Option, None, Some, refl, sym, subst, get_or, arith}
use Rattle.std.specs.Prelude.{nat_lt, unwrap_or}
use Rattle.std.specs.List.{AllByRecursion}
use Rattle.std.proofs.lemmas.Bool.{and_parts, ltb-true}
use Rattle.lapi_base.specs.declared.script.Script.{Script}
use Rattle.lapi_base.specs.declared.rule.Rules.{Rules}
use Rattle.lapi_base.specs.declared.statement.Statement.{Statement}
use Rattle.lapi_base.specs.declared.statement.Statement.TheVariants.{Wait, Set}
use Rattle.lapi_base.specs.declared.message.Leg.{Leg}
use Rattle.lapi_base.specs.declared.message.Leg.TheVariants.{Go, Back, Note, Echo, Join}
use Rattle.lapi_base.specs.declared.message.MsgName.{MsgName}
use Rattle.lapi_base.specs.declared.event.Event.{Event}
use Rattle.lapi_base.specs.declared.event.Event.TheVariants.{Issue, Refuse, Enter, Pass, Copy, Head, Land, Begin, End}
use Rattle.lapi_base.specs.Record.Names.{Landed, Begun, Ended, key_of, happened, leg_eq}
use Rattle.lapi_base.specs.Record.Operations.{statement, statements, receiver, to_by, is_am, has_back, target_of, tgt_counter, org_counter, cmpl_counter, has_join}
use Rattle.lapi_base.specs.Record.Handlers.{has_completion}
use Rattle.lapi_base.specs.Record.Refusals.{refusal_of}
use Rattle.lapi_base.specs.Record.Atomic.{Atomic, Keeps, is_there, has_message, needs, copy_needs, land_needs, to_land, only_if}
use Rattle.lapi_base.specs.Record.Valid.{ValidScript}
use Rattle.lapi_base.proofs.ListLaws.{list_all-each}
use Rattle.lapi_laws.proofs.Shorts.{last-of}
use Rattle.lapi_calls.specs.Places.{task_of, statement_of}
use Rattle.lapi_calls.specs.Setting.{completes, target_by}
use Rattle.lapi_audit.specs.Counts.{HasNamed, HasIssued, HasPassed, IsWithin, CountsStand, told_copy, told_go, told_land}
use Rattle.lapi_audit.specs.Jobs.{HasQueue}
use Rattle.lapi_audit.proofs.KnownLaws.{IsThere, IsTask, AllThere, why-counters, known, follows-issued}
use Rattle.lapi_audit.proofs.NotedLaws.{there-place}

module _ (script : Script) (rules : Rules) where
  pub task-there : (e : Event) → ValidScript script → is_there script rules e ≡ true → task_of (key_of e) < script.tasks
  task-there e valid h = ltb-true (task_of (key_of e)) script.tasks (and_parts (nat_lt (task_of (key_of e)) script.tasks) (nat_lt (statement_of (key_of e)) (length (statements script (task_of (key_of e))))) (there-place script rules valid e h)).0

  -- an operation that works at another task has that task
  target-there : (o : Option ℕ) (a : ℕ) → IsTask script rules o → a < script.tasks → unwrap_or o a < script.tasks
  target-there None a h la = la
  target-there (Some d) a h la = h

  module _ (tasks : List (List ℕ)) (J : List Event) (h : Atomic script rules J) (s : CountsStand script rules tasks J) where
    named : (o : Option ℕ) (t : ℕ) → IsThere script rules o → t < script.tasks → HasNamed tasks t o
    named None t there lt = tt
    named (Some c) t there lt =
        let n = s.task_count in
        let m = s.counter_count t lt in
        ((let q : t < length tasks = omega arith in q), (let q : c < length (get_or tasks t []) = omega arith in q))

    unless : (b : Bool) (o : Option ℕ) (t : ℕ) → HasNamed tasks t o → HasNamed tasks t (cond b None o)
    unless true o t there = tt
    unless false o t there = there

    unless-later : (m : MsgName) (x : Statement) (later : Bool) → HasNamed tasks (target_by m x) (tgt_counter x) → HasNamed tasks (told_go m x later).0 (told_go m x later).1
    unless-later m x true there = tt
    unless-later m x false there = there

    issued : (x : Statement) (a : ℕ) → AllThere script rules x → a < script.tasks → HasIssued tasks a x
    issued (Set c n) a all la = named (Some c) a all.0 la
    issued _ a all la = tt

    passed : (x : Statement) (a : ℕ) (J : List Event) (E : Type 0) (i : ℕ) → (refusal_of script rules J a i ≡ None → AllThere script rules x) → cond (has_join x) E (refusal_of script rules J a i ≡ None) → a < script.tasks → HasPassed tasks a x
    passed (Wait c n) a J E i all h la = named (Some c) a (all h).0 la
    passed _ a J E i all h la = tt

    copied : (m : MsgName) (leg : Leg) → m.origin < script.tasks → AllByRecursion (λ d. happened d J ≡ true) (copy_needs script rules m.origin m.statement leg) → HasNamed tasks (told_copy m leg (statement script m.origin m.statement)).0 (told_copy m leg (statement script m.origin m.statement)).1
    copied m Go la n =
        let x = statement script m.origin m.statement in
        unless (has_back x) (org_counter x) m.origin (named (org_counter x) m.origin (known script rules J m.origin m.statement h n.0).2 la)
    copied m Back la n =
        let x = statement script m.origin m.statement in
        let all = known script rules J m.origin m.statement h (follows-issued script rules J m.origin m.statement n) in
        named (tgt_counter x) (target_by m x) all.1 (target-there (target_of x) m.origin all.4 la)
    copied m Note la n = tt
    copied m Echo la n = tt
    copied m (Join d) la n = tt

    landed : (m : MsgName) (leg : Leg) → m.origin < script.tasks → AllByRecursion (λ d. happened d J ≡ true) (land_needs script rules m.origin m.statement leg) → HasNamed tasks (told_land rules m leg (statement script m.origin m.statement)).0 (told_land rules m leg (statement script m.origin m.statement)).1
    landed m Go la n =
        let x = statement script m.origin m.statement in
        let all = known script rules J m.origin m.statement h n.0 in
        unless-later m x (has_back x || completes rules x) (named (tgt_counter x) (target_by m x) all.1 (target-there (target_of x) m.origin all.4 la))
    landed m Back la n = named (org_counter (statement script m.origin m.statement)) m.origin (known script rules J m.origin m.statement h (follows-issued script rules J m.origin m.statement n.1)).2 la
    landed m Note la n = named (cmpl_counter (statement script m.origin m.statement)) m.origin (known script rules J m.origin m.statement h (follows-issued script rules J m.origin m.statement n.1)).3 la
    landed m Echo la n = named (cmpl_counter (statement script m.origin m.statement)) m.origin (known script rules J m.origin m.statement h (follows-issued script rules J m.origin m.statement n.1)).3 la
    landed m (Join d) la n = tt

    ended : (m : MsgName) (t w : ℕ) → is_there script rules (End m t w) ≡ true → AllByRecursion (λ d. happened d J ≡ true) (needs script rules (Ended m)) → HasNamed tasks t (tgt_counter (statement script m.origin m.statement))
    unfolding has_completion needs
    ended m t w there n =
        let x = statement script m.origin m.statement in
        let at = and_parts (has_message script rules m && (leg_eq m.leg Go && is_am x)) (receiver script m == t && (nat_lt t script.tasks && nat_lt w script.workers)) there in
        let ends = and_parts (nat_lt t script.tasks) (nat_lt w script.workers) (and_parts (receiver script m == t) (nat_lt t script.tasks && nat_lt w script.workers) at.1).1 in
        let issued = (last-of script rules (λ d. happened d J ≡ true) (only_if (has_completion script rules m.origin m.statement) (Begun m ∷ [])) (Landed m ∷ to_land script rules m.origin m.statement) n).1.0 in
        named (tgt_counter x) t (known script rules J m.origin m.statement h issued).1 (ltb-true t script.tasks ends.0)

    pub counts-within : ValidScript script → (e : Event) → Keeps script rules J e → IsWithin rules e (statement script (task_of (key_of e)) (statement_of (key_of e))) tasks
    unfolding needs
    counts-within valid (Issue a i) k = issued (statement script a i) a (why-counters script rules J a i k.order.1) (task-there (Issue a i) valid k.there)
    counts-within valid (Refuse a i y) k = tt
    counts-within valid (Enter a i) k = tt
    counts-within valid (Pass a i) k = passed (statement script a i) a J _ i (why-counters script rules J a i) k.order.1 (task-there (Pass a i) valid k.there)
    counts-within valid (Copy m) k = copied m m.leg (task-there (Copy m) valid k.there) (list_all-each (λ d. happened d J) (copy_needs script rules m.origin m.statement m.leg) k.after)
    counts-within valid (Head m) k = tt
    counts-within valid (Land m) k = landed m m.leg (task-there (Land m) valid k.there) (list_all-each (λ d. happened d J) (land_needs script rules m.origin m.statement m.leg) k.after)
    counts-within valid (Begin m t w) k = tt
    counts-within valid (End m t w) k = ended m t w k.there (list_all-each (λ d. happened d J) (needs script rules (Ended m)) k.after)

  -- and so is the queue of a job that lands
  pub queue-within : ValidScript script → (queues : List (List MsgName)) (J : List Event) (e : Event) → Atomic script rules J → Keeps script rules J e → length queues ≡ script.tasks → HasQueue rules (statement script (task_of (key_of e)) (statement_of (key_of e))) e queues
  unfolding needs
  queue-within valid queues J (Land m) h k n = λ job.
      let x = statement script m.origin m.statement in
      let la = task-there (Land m) valid k.there in
      let go = leg-go m.leg (and_parts (leg_eq m.leg Go) (completes rules x) job).0 in
      let all = list_all-each (λ d. happened d J) (land_needs script rules m.origin m.statement m.leg) k.after in
      let issued = (subst (λ l. AllByRecursion (λ d. happened d J ≡ true) (land_needs script rules m.origin m.statement l)) go all).0 in
      let lt = target-there (target_of x) m.origin (known script rules J m.origin m.statement h issued).4 la in
      let q : target_by m x < length queues = omega arith in
      subst (λ l. to_by m.origin (target_by m x) l < length queues) (sym go) q
    where
      leg-go : (l : Leg) → leg_eq l Go ≡ true → l ≡ Go
      leg-go Go h = refl
      leg-go Back h = absurd (let x : ⊥ = cc in x)
      leg-go Note h = absurd (let x : ⊥ = cc in x)
      leg-go Echo h = absurd (let x : ⊥ = cc in x)
      leg-go (Join d) h = absurd (let x : ⊥ = cc in x)
  queue-within valid queues J (Issue a i) h k n = tt
  queue-within valid queues J (Refuse a i y) h k n = tt
  queue-within valid queues J (Enter a i) h k n = tt
  queue-within valid queues J (Pass a i) h k n = tt
  queue-within valid queues J (Copy m) h k n = tt
  queue-within valid queues J (Head m) h k n = tt
  queue-within valid queues J (Begin m t w) h k n = tt
  queue-within valid queues J (End m t w) h k n = tt
