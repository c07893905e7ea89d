use Rattle.std.proofs.Common.{◌≡◌, ℕ, suc, ◌<◌, ◌==◌, true, List, ◌∙◌, subst, sym, arith, add-one}
use Rattle.std.proofs.lemmas.Bool.{ne_eqb}
use Rattle.lapi_base.specs.declared.event.Event.{Event}
use Rattle.lapi_base.proofs.TestLaws.{eqb-refl}
use Rattle.lapi_task.specs.declared.task.Task.{Task}
use Rattle.lapi_task.proofs.Copying.CopyJoins.{SomeTold, none-told, may-tell, one-told, own-told, all-told, tasks-here, number-here}
use Rattle.lapi_task.proofs.task.Task.copy_joins.Goals as goal
use Rattle.lapi_task.proofs.task.Task.copy_joins.Goals.{then-d-self+in_ok-copy_join, else-d-self}

pub loop-d-init : goal.loop-d-init
loop-d-init c = λ script rules t r rest now join. none-told script rules t c.args.i r rest c.args.self.now now join c.args.events.now

pub copy_join-requires : goal.copy_join-requires
copy_join-requires c =
    let x = c.requires in
    let first = c.args.self.now in
    let events = c.args.events.now in
    let h = c.loop-d.invariant x.0 x.1 x.2 x.3 x.4 x.5 x.6 in
    let tasks = tasks-here x.0 x.1 x.2 c.args.i x.3 x.4 first x.5 x.6 first events events 0 (none-told x.0 x.1 x.2 c.args.i x.3 x.4 first x.5 x.6 events) in
    let number = number-here x.0 x.1 x.2 c.args.i x.3 x.4 first x.5 x.6 c.loop-d.self events c.loop-d.events c.loop-d.d h in
    (x.0, x.1, x.2, _, may-tell x.0 x.1 x.2 c.args.i x.3 x.4 first x.5 x.6 c.loop-d.self events c.loop-d.events c.loop-d.d h (let lt = c.loop-d-test.true in omega (arith, lt, tasks)) (ne_eqb c.loop-d.d x.2 (λ same. c.if-d-self.true (same ∙ sym number))))

pub loop-d-preserved : goal.loop-d-preserved
loop-d-preserved c = λ script rules t r rest now join.
    let first = c.args.self.now in
    let events = c.args.events.now in
    let d = c.loop-d.d in
    let h = c.loop-d.invariant script rules t r rest now join in
    let tasks = tasks-here script rules t c.args.i r rest first now join first events events 0 (none-told script rules t c.args.i r rest first now join events) in
    let number = number-here script rules t c.args.i r rest first now join c.loop-d.self events c.loop-d.events d h in
    let known : d < script.tasks = (let lt = c.loop-d-test.true in omega (arith, lt, tasks)) in
    let Told = SomeTold script rules t c.args.i r first in
    elim c.if-d-self.branch [
      | then-d-self+in_ok-copy_join w ↦
          let apart = ne_eqb d t (λ same. w.if-d-self.true (same ∙ sym number)) in
          let may = may-tell script rules t c.args.i r rest first now join c.loop-d.self events c.loop-d.events d h known apart in
          let did = w.in_ok-copy_join.ensures in
          subst (λ (n : ℕ). Told c.if-d-self.self events c.if-d-self.events n) (sym (add-one d))
          (subst (λ (es : List Event). Told c.if-d-self.self events es (suc d)) (sym w.events-is)
          (subst (λ (x : Task). Told x events w.copy_join.new.events (suc d)) (sym w.self-is)
          (one-told script rules t c.args.i r rest first now join c.loop-d.self events c.loop-d.events d h w.copy_join.new.self w.copy_join.new.events known apart (did.senders script rules t _ may) did.event did.rest)))
      | else-d-self w ↦
          let own = subst (λ (n : ℕ). (d == n) ≡ true) (w.if-d-self.false ∙ number) (eqb-refl d) in
          subst (λ (n : ℕ). Told c.if-d-self.self events c.if-d-self.events n) (sym (add-one d))
          (subst (λ (es : List Event). Told c.if-d-self.self events es (suc d)) (sym w.events-is)
          (subst (λ (x : Task). Told x events c.loop-d.events (suc d)) (sym w.self-is)
          (own-told script rules t c.args.i r rest first now join c.loop-d.self events c.loop-d.events d h own)))
    ]

pub returns : goal.returns
returns c = λ script rules t r rest now join.
    let first = c.args.self.now in
    let events = c.args.events.now in
    let h = c.loop-d.invariant script rules t r rest now join in
    let tasks = tasks-here script rules t c.args.i r rest first now join first events events 0 (none-told script rules t c.args.i r rest first now join events) in
    let end : c.loop-d.d ≡ script.tasks = (let no = c.loop-d-test.false in let bound = c.loop-d.auto.d-end in omega (arith, no, bound, tasks)) in
    all-told script rules t c.args.i r rest first now join c.loop-d.self events c.loop-d.events
    (subst (λ n. SomeTold script rules t c.args.i r first c.loop-d.self events c.loop-d.events n) end h)
