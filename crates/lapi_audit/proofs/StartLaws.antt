-- Before the first event everything that is kept stands for the empty journal.
use Rattle.std.proofs.Common.{◌≡◌, ℕ, ◌<◌, ◌≤◌, Bool, true, false, ◌&&◌, List, [], length, map, replicate, None, refl, sym, ap, ◌∙◌, subst, ⊎_elim, get_or, arith}
use Rattle.std.proofs.lemmas.Bool.{cases_lt}
use Rattle.std.proofs.lemmas.List.{get_or-replicate, get_or_past, length-replicate, length-map}
use Rattle.lapi_base.specs.declared.script.Script.{Script}
use Rattle.lapi_base.specs.declared.rule.Rules.{Rules}
use Rattle.lapi_base.specs.declared.statement.Statement.{Statement}
use Rattle.lapi_base.specs.declared.message.Leg.{Leg}
use Rattle.lapi_base.specs.declared.message.Leg.TheVariants.{Go, Back, Note, Echo, Join}
use Rattle.lapi_base.specs.Record.Names.{leg_eq, EventKey, Issued, Refused, Entered, Passed, Copied, Headed, Landed, Begun, Ended}
use Rattle.lapi_base.specs.Record.Operations.{statements}
use Rattle.lapi_base.specs.Record.Counters.{count}
use Rattle.lapi_base.specs.Record.Jobs.{landed_jobs, queue, runs}
use Rattle.lapi_base.specs.Record.Refusals.{next}
use Rattle.lapi_base.specs.Record.Valid.{ValidScript}
use Rattle.lapi_base.proofs.NameLaws.{happened-nil}
use Rattle.lapi_audit.specs.declared.operation.Operation.{Operation}
use Rattle.lapi_audit.specs.declared.operation.Transit.{Transit}
use Rattle.lapi_audit.specs.Counts.{CountsStand}
use Rattle.lapi_audit.specs.Jobs.{JobsStand}
use Rattle.lapi_audit.specs.Noted.{still, blank, fresh, transit_of, noted, operation, stood, OperationsStand}
use Rattle.lapi_calls.specs.Places.{task_of, statement_of}
use Rattle.lapi_audit.specs.Turns.{TurnsStand}
use Rattle.lapi_laws.proofs.CellLaws.{get-mapped}

-- what stands in a list of one thing
same-or : {X : Type 0} (P : X → Type 0) (n i : ℕ) (x d : X) → P x → P d → P (get_or (replicate n x) i d)
same-or P n i x d px pd =
    ⊎_elim
    (λ (l : i < n). subst P (sym (get_or-replicate n i x d l)) px)
    (λ (g : n ≤ i). subst P (sym (get_or_past (replicate n x) i d (let e = length-replicate n x in let q : length (replicate n x) ≤ i = omega arith in q))) pd)
    (cases_lt i n)

abbrev IsBlank : Operation → Type 0
IsBlank o = (d : EventKey) → noted o d ≡ false

never : (b : Bool) → (b && false) ≡ false
never true = refl
never false = refl

blank-leg : (n : ℕ) (l : Leg) → transit_of (blank (replicate n still)) l ≡ still
blank-leg n Go = refl
blank-leg n Back = refl
blank-leg n Note = refl
blank-leg n Echo = refl
blank-leg n (Join d) = same-or (λ (x : Transit). x ≡ still) n d still still refl refl

blank-is : (n : ℕ) → IsBlank (blank (replicate n still))
blank-is n (Issued a i) = refl
blank-is n (Refused a i) = refl
blank-is n (Entered a i) = refl
blank-is n (Passed a i) = refl
blank-is n (Copied m) = ap (λ (x : Transit). x.copied) (blank-leg n m.leg)
blank-is n (Headed m) = never (leg_eq m.leg Go)
blank-is n (Landed m) = ap (λ (x : Transit). x.landed) (blank-leg n m.leg)
blank-is n (Begun m) = never (leg_eq m.leg Go)
blank-is n (Ended m) = never (leg_eq m.leg Go)

abbrev states : Script → List (List Operation)
states script = map (λ (list : List Statement). replicate (length list) fresh) script.lists

state-of : (script : Script) (a i : ℕ) → operation (states script) a i ≡ get_or (replicate (length (statements script a)) fresh) i (blank [])
state-of script a i = ap (λ (row : List Operation). get_or row i (blank [])) (get-mapped (λ (list : List Statement). replicate (length list) fresh) script.lists a [])

pub operations-start : (script : Script) → ValidScript script → OperationsStand script (states script) []
unfolding stood
operations-start script valid = record {
  fits =
      record {
        tasks = length-map script.lists (λ (list : List Statement). replicate (length list) fresh) ∙ valid.one_list_each;
        lists = λ a l. ap length (get-mapped (λ (list : List Statement). replicate (length list) fresh) script.lists a []) ∙ length-replicate (length (statements script a)) fresh;
        joins = λ a i la li. ap (λ (o : Operation). length o.joins) (state-of script a i ∙ get_or-replicate (length (statements script a)) i fresh (blank []) li) ∙ length-replicate 8 still;
      };
  deeds = λ d.
      ap (λ (o : Operation). noted o d) (state-of script (task_of d) (statement_of d))
      ∙ same-or IsBlank (length (statements script (task_of d))) (statement_of d) fresh (blank []) (blank-is 8) (blank-is 0) d
      ∙ sym (happened-nil d);
}

pub counts-start : (script : Script) (rules : Rules) → CountsStand script rules (replicate script.tasks (replicate script.counters 0)) []
unfolding count
counts-start script rules = record {
  task_count = length-replicate script.tasks (replicate script.counters 0);
  counter_count = λ t l. ap length (get_or-replicate script.tasks t (replicate script.counters 0) [] l) ∙ length-replicate script.counters 0;
  values = λ t c lt lc. ap (λ (row : List ℕ). get_or row c 0) (get_or-replicate script.tasks t (replicate script.counters 0) [] lt) ∙ get_or-replicate script.counters c 0 0 lc;
}

pub jobs-start : (script : Script) (rules : Rules) → JobsStand script rules (replicate script.tasks []) (replicate script.tasks (replicate script.workers None)) []
unfolding queue landed_jobs runs
jobs-start script rules = record {
  queue_count = length-replicate script.tasks [];
  work_count = length-replicate script.tasks (replicate script.workers None);
  worker_count = λ t l. ap length (get_or-replicate script.tasks t (replicate script.workers None) [] l) ∙ length-replicate script.workers None;
  queued = λ t l. get_or-replicate script.tasks t [] [] l;
  run = λ t w lt lw. ap (λ row. get_or row w None) (get_or-replicate script.tasks t (replicate script.workers None) [] lt) ∙ get_or-replicate script.workers w None None lw;
}

pub turns-start : (script : Script) → TurnsStand script (replicate script.tasks 0) []
unfolding next
turns-start script = record { count = length-replicate script.tasks 0; nexts = λ a l. get_or-replicate script.tasks a 0 0 l }
