-- What is network before the first line.
use Rattle.std.proofs.Common.{◌≡◌, ℕ, zero, suc, ◌+◌, ◌*◌, ◌<◌, ◌≤◌, List, [], ◌∷◌, ◌++◌, length, replicate, Some, sym, ap, ◌∙◌, subst, ⊎_elim, arith}
use Rattle.std.specs.Prelude.{slice_get}
use Rattle.std.proofs.lemmas.Bool.{cases_lt}
use Rattle.std.proofs.lemmas.List.{length_push, length-replicate}
use Rattle.std.proofs.lemmas.Nat.{mul-add-lt}
use Rattle.lapi_base.specs.declared.script.Script.{Script}
use Rattle.lapi_base.specs.declared.rule.Rules.{Rules}
use Rattle.lapi_base.specs.Record.Wires.{start}
use Rattle.lapi_base.proofs.ListLaws.{get-before, get-push, get-some}
use Rattle.lapi_task.specs.declared.task.Task.{Task}
use Rattle.lapi_task.specs.StandsFor.{StandsFor}
use Rattle.lapi_world.specs.declared.network.Network.{Network}
use Rattle.lapi_world.specs.Stands.{TaskAt, TasksStand, Stands}

pub task-count : (tasks : List Task) (task : Task) (n : ℕ) → length tasks ≡ n → length (tasks ++ task ∷ []) ≡ n + 1
task-count tasks task n e = length_push tasks task ∙ ap (λ k. k + 1) e

module _ (script : Script) (rules : Rules) where
  -- one task more
  pub task-more : (tasks : List Task) (task : Task) (n : ℕ) → length tasks ≡ n → ((t : ℕ) → t < n → TaskAt script rules start t (slice_get tasks t)) → StandsFor script rules n task start → (t : ℕ) → t < n + 1 → TaskAt script rules start t (slice_get (tasks ++ task ∷ []) t)
  task-more tasks task n e h new t l =
      ⊎_elim
      (λ (lt : t < n). subst (TaskAt script rules start t) (sym (get-before tasks (task ∷ []) t (omega (arith, lt, e)))) (h t lt))
      (λ (ge : n ≤ t).
      let last : n ≡ t = omega arith in
      subst (λ k. TaskAt script rules start k (slice_get (tasks ++ task ∷ []) k)) last (subst (TaskAt script rules start n) (sym (get-push tasks task n e)) new))
      (cases_lt t n)

  same-item : {X : Type 0} (n k : ℕ) (x : X) → k < n → slice_get (replicate n x) k ≡ Some x
  same-item n k x l = let some = get-some (replicate n x) k (let e = length-replicate n x in omega (arith, e)) in some.1 ∙ ap Some (all-same n k x some.0 some.1)
    where
      all-same : {X : Type 0} (n k : ℕ) (x y : X) → slice_get (replicate n x) k ≡ Some y → y ≡ x
      all-same zero k x y e = absurd (cc)
      all-same (suc n) zero x y e = let q : x ≡ y = cc in sym q
      all-same (suc n) (suc k) x y e = all-same n k x y e

  pub begins : (network : Network) → network.journal ≡ [] → (length network.tasks.items ≡ script.tasks) × TasksStand script rules start network.tasks.items → network.wires.items ≡ replicate (script.tasks * script.tasks) [] → Stands script rules network start
  begins network e ts ws = record {
    journal = e;
    task_count = ts.0;
    wire_count = ap length ws ∙ length-replicate (script.tasks * script.tasks) [];
    tasks = ts.1;
    wires = λ a b la lb. ap (λ (xs : List (List (List ℕ))). slice_get xs (a * script.tasks + b)) ws ∙ same-item (script.tasks * script.tasks) (a * script.tasks + b) [] (mul-add-lt a script.tasks b script.tasks la lb);
  }
