use Rattle.std.proofs.Common.{◌<◌, length, refl, ap, ◌∙◌, subst, sym}
use Rattle.lapi_base.specs.Record.Operations.{statements, has_join}
use Rattle.lapi_base.proofs.Results.{on-ok}
use Rattle.lapi_task.specs.Copies.{CopiesNext, HasCopied}
use Rattle.lapi_task.proofs.Copying.CopyFirst.{first-is, popped-is, no-statement, found}
use Rattle.lapi_task.proofs.task.Task.copy_next.Goals as goal

pub unreachable-requires-in_default-statement_at : goal.unreachable-requires-in_default-statement_at
unreachable-requires-in_default-statement_at c =
    let x = c.requires in
    let task = c.args.self.now in
    let pop = popped-is c.pop_front.result task.state.uncopied.items c.pop_front.new.self.items x.5 c.in-Some.i x.4 c.pop_front.ensures.items c.in-Some.is x.6.first in
    let within = subst (λ n. n < length (statements x.0 x.2)) (sym pop.0) (first-is x.0 x.1 x.2 task x.3 x.4 x.5 x.6).0 in
    no-statement x.0 x.2 c.in-Some.i task.statements x.6.stands.calls.statements within _ c.in_default-statement_at.ensures refl

pub copy_joins-requires : goal.copy_joins-requires
copy_joins-requires c =
    let x = c.requires in
    let task = c.args.self.now in
    let pop = popped-is c.pop_front.result task.state.uncopied.items c.pop_front.new.self.items x.5 c.in-Some.i x.4 c.pop_front.ensures.items c.in-Some.is x.6.first in
    let next = subst (λ n. CopiesNext x.0 x.1 x.2 task x.3 n x.5) (sym pop.0) x.6 in
    let is = found x.0 x.2 c.in-Some.i task.statements next.stands.calls.statements (first-is x.0 x.1 x.2 task x.3 c.in-Some.i x.5 next).0 c.in-Some-statement_at.statement.now c.in-Some-statement_at.ensures in
    (x.0, x.1, x.2, x.3, x.5, record { before = task; next = next; popped = record { list = pop.1; others = refl } }, ap has_join (sym is) ∙ sym c.is_entered.ensures.entered ∙ c.if-is_entered.true)

pub copy_data-requires : goal.copy_data-requires
copy_data-requires c =
    let x = c.requires in
    let task = c.args.self.now in
    let pop = popped-is c.pop_front.result task.state.uncopied.items c.pop_front.new.self.items x.5 c.in-Some.i x.4 c.pop_front.ensures.items c.in-Some.is x.6.first in
    let next = subst (λ n. CopiesNext x.0 x.1 x.2 task x.3 n x.5) (sym pop.0) x.6 in
    let is = found x.0 x.2 c.in-Some.i task.statements next.stands.calls.statements (first-is x.0 x.1 x.2 task x.3 c.in-Some.i x.5 next).0 c.in-Some-statement_at.statement.now c.in-Some-statement_at.ensures in
    (x.0, x.1, x.2, x.3, x.5, record { before = task; next = next; popped = record { list = pop.1; others = refl } }, ap has_join (sym is) ∙ sym c.is_entered.ensures.entered ∙ c.if-is_entered.false)

pub returns-then-is_entered : goal.returns-then-is_entered
returns-then-is_entered c = on-ok _ _ c.copy_joins.result (λ copied. λ script rules t r i rest h.
    let task = c.args.self.now in
    let pop = popped-is c.pop_front.result task.state.uncopied.items c.pop_front.new.self.items rest c.in-Some.i i c.pop_front.ensures.items c.in-Some.is h.first in
    let next = subst (λ n. CopiesNext script rules t task r n rest) (sym pop.0) h in
    let is = found script t c.in-Some.i task.statements next.stands.calls.statements (first-is script rules t task r c.in-Some.i rest next).0 c.in-Some-statement_at.statement.now c.in-Some-statement_at.ensures in
    subst (λ n. HasCopied script rules t r n rest c.copy_joins.new.self c.args.events.now c.copy_joins.new.events) pop.0
    (copied script rules t r rest (record { before = task; next = next; popped = record { list = pop.1; others = refl } }) (ap has_join (sym is) ∙ sym c.is_entered.ensures.entered ∙ c.if-is_entered.true))) c.copy_joins.ensures

pub returns : goal.returns
returns c = on-ok _ _ c.copy_data.result (λ copied. λ script rules t r i rest h.
    let task = c.args.self.now in
    let pop = popped-is c.pop_front.result task.state.uncopied.items c.pop_front.new.self.items rest c.in-Some.i i c.pop_front.ensures.items c.in-Some.is h.first in
    let next = subst (λ n. CopiesNext script rules t task r n rest) (sym pop.0) h in
    let is = found script t c.in-Some.i task.statements next.stands.calls.statements (first-is script rules t task r c.in-Some.i rest next).0 c.in-Some-statement_at.statement.now c.in-Some-statement_at.ensures in
    subst (λ n. HasCopied script rules t r n rest c.copy_data.new.self c.args.events.now c.copy_data.new.events) pop.0
    (copied script rules t r rest (record { before = task; next = next; popped = record { list = pop.1; others = refl } }) (ap has_join (sym is) ∙ sym c.is_entered.ensures.entered ∙ c.if-is_entered.false))) c.copy_data.ensures
