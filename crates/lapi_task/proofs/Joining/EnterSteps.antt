-- What a task holds after it has entered a collective call.
use Rattle.std.proofs.Common.{◌≡◌, ℕ, ◌<◌, ◌≤◌, ◌==◌, true, false, List, [], ◌∷◌, ◌++◌, length, refl, sym, ap, ◌∙◌, subst, arith, add-zero}
use Rattle.std.specs.Prelude.{slice_index, nat_lt}
use Rattle.std.proofs.lemmas.Bool.{both_ways, cond-true, and_right, ne_eqb, lt-ltb, false_from_ne_true}
use Rattle.lapi_base.specs.declared.script.Script.{Script}
use Rattle.lapi_base.specs.declared.rule.Rules.{Rules}
use Rattle.lapi_base.specs.declared.head.Head.{Head}
use Rattle.lapi_base.specs.declared.message.Leg.TheVariants.{Join}
use Rattle.lapi_base.specs.declared.statement.Statement.{Statement}
use Rattle.lapi_base.specs.declared.event.Event.{Event}
use Rattle.lapi_base.specs.declared.event.Event.TheVariants.{Enter}
use Rattle.lapi_base.specs.Laws.Rounds.{HasRound}
use Rattle.lapi_base.specs.Record.Atomic.{Atomic, needs}
use Rattle.lapi_base.specs.Record.Below.{below}
use Rattle.lapi_base.specs.Record.Counters.{count, reads, tells}
use Rattle.lapi_base.specs.Record.Names.{message, happened, Issued, Entered, Copied}
use Rattle.lapi_base.specs.Record.Operations.{statement, has_join}
use Rattle.lapi_base.specs.Record.Operations as operations
use Rattle.lapi_base.specs.Record.Refusals.{next, refusals}
use Rattle.lapi_base.proofs.NameLaws.{happened-other}
use Rattle.lapi_laws.proofs.Backward.{closed}
use Rattle.lapi_task.specs.declared.state.State.{State}
use Rattle.lapi_task.specs.HasRounds.{JoinsBy}
use Rattle.lapi_task.specs.Joining.{IsHeadOfJoins}
use Rattle.lapi_task.specs.StandsFor.{HoldsFor, is_uncopied}
use Rattle.lapi_task.specs.Steps.{IsEntered}
use Rattle.lapi_task.proofs.Joining.EnterFields.{entered-rounds}
use Rattle.lapi_task.proofs.Working.JobsStay.{jobs-stay}
use Rattle.lapi_task.proofs.Stepping.StepFields.{below-more, unentered-on}
use Rattle.lapi_task.proofs.Stepping.StepMemories.{memory-none}
use Rattle.lapi_task.proofs.Copying.UncopiedLaws.{nothing-yet, enter-other, enter-many}

module _ (script : Script) (rules : Rules) (t : ℕ) (J : List Event) (atomic : Atomic script rules J) (before : State) (h : HoldsFor script rules t before J) (unentered : happened (Entered t before.next) J ≡ false) where
  abbrev i : ℕ
  i = before.next

  abbrev K : List Event
  K = Enter t before.next ∷ J

  next-enter : next K t ≡ next J t
  unfolding next
  next-enter = refl

  refusals-enter : refusals K t ≡ refusals J t
  unfolding refusals
  refusals-enter = refl

  reads-enter : reads script rules K t ≡ reads script rules J t
  unfolding reads
  reads-enter = refl

  count-enter : (c : ℕ) → count script rules K t c ≡ count script rules J t c
  unfolding count tells
  count-enter c = add-zero (count script rules J t c)

  -- its messages to the others wait, and no other's do that did not
  uncopied-entered : has_join (statement script t i) ≡ true → 2 ≤ script.tasks → i < length (operations.statements script t) → before.uncopied.items ++ i ∷ [] ≡ below (length (operations.statements script t)) (is_uncopied script K t)
  unfolding needs
  uncopied-entered joins many within =
      ap (λ xs. xs ++ i ∷ []) h.uncopied
      ∙ below-more _ i (is_uncopied script J t) (is_uncopied script K t) within
      (λ k l. enter-other script t J i k (λ x. let y = x in omega (arith, l, y)))
      (λ k l. nothing-yet script t J k (h.ahead k l) (unentered-on script rules t J before h atomic unentered k l))
      (enter-many script t J i joins (omega (arith, many)) (λ d. false_from_ne_true _ (λ copied. both_ways _ unentered (closed script rules (Copied (message t i (Join d))) J atomic copied).0)))
      (λ k l. nothing-yet script t K k (happened-other (Issued t k) (Enter t i) J refl ∙ h.ahead k (omega (arith, l)))
      (happened-other (Entered t k) (Enter t i) J (and_right (t == t) (k == i) (ne_eqb k i (λ e. let x = e in omega (arith, l, x)))) ∙ unentered-on script rules t J before h atomic unentered k (omega (arith, l))))

  pub entered-holds : (s : Statement) → statement script t i ≡ s → has_join s ≡ true → HasRound script t i → (head : Head) → IsHeadOfJoins script t i head → 2 ≤ script.tasks → (tasks : ℕ) → tasks ≡ script.tasks → (after : State) (old new : List Event) → IsEntered head tasks before after old new → HoldsFor script rules t after K
  entered-holds s e joins has head is many tasks count after old new g =
      let few : nat_lt 1 tasks ≡ true = lt-ltb 1 tasks (omega (arith, many, count)) in
      record {
        number = ap (λ (x : State). x.number) g.rest ∙ h.number;
        next = ap (λ (x : State). x.next) g.rest ∙ h.next ∙ sym next-enter;
        ahead = λ k l. happened-other (Issued t k) (Enter t i) J refl ∙ h.ahead k (subst (λ n. n ≤ k) (ap (λ (x : State). x.next) g.rest) l);
        reads = ap (λ (x : State). x.reads.items) g.rest ∙ h.reads ∙ sym reads-enter;
        refusals = ap (λ (x : State). x.refusals.items) g.rest ∙ h.refusals ∙ sym refusals-enter;
        memory = ap (λ (x : State). x.memory) g.rest ∙ h.memory ∙ sym (memory-none script rules (Enter t i) J t refl);
        counter_count = ap (λ (x : State). length x.counters) g.rest ∙ h.counter_count;
        counters = λ c l. ap (λ (x : State). slice_index x.counters c) g.rest ∙ h.counters c l ∙ sym (count-enter c);
        uncopied = g.uncopied ∙ cond-true (nat_lt 1 tasks) (before.uncopied.items ++ i ∷ []) before.uncopied.items few ∙ uncopied-entered (ap has_join e ∙ joins) many has.0;
        jobs = jobs-stay script rules t (Enter t i) J before.jobs after.jobs tt (ap (λ (x : State). x.jobs) g.rest) h.jobs;
        rounds = entered-rounds script t J i has s e joins head is h.next before.collective after.collective (subst (λ n. JoinsBy n head (record before.collective { entered = true }) after.collective) h.number g.joins) h.rounds;
      }
