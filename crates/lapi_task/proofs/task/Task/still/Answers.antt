use Rattle.std.proofs.Common.{rules, ◌≡◌, ◌&&◌, not, sym, ap, ◌∙◌}
use Rattle.std.specs.List.{list_all}
use Rattle.std.proofs.lemmas.Iterator.{YieldsList-from_slice}
use Rattle.std.proofs.lemmas.Iterator.Search.{all_from_yields_List}
use borrow.Author.Tests.{tests}
use Rattle.lapi_task.specs.HasJobs.{is_free}
use Rattle.lapi_task.proofs.Standing.StillLaws.{settled, none-set, still-is}
use Rattle.lapi_task.proofs.task.Task.still.Goals.{then-is_free, else-is_free}
use Rattle.lapi_task.proofs.task.Task.still.Goals as goal

pub returns-then-all : goal.returns-then-all
returns-then-all c = λ script named t r at.
    let ends = c.args.self.now.senders.items in
    let flags = c.args.self.now.owed.items in
    let both : c.if-is_free.value ≡ (is_free c.args.self.now.state && list_all settled ends) = elim c.if-is_free.branch [
      | then-is_free w ↦ w.value-is ∙ all_from_yields_List settled _ _ w.all.result w.all.ensures.ran (YieldsList-from_slice ends cc) (λ x b q k. search (rules, tests)) ∙ ap (λ b. b && list_all settled ends) (sym w.if-is_free.true ∙ c.is_free.ensures)
      | else-is_free w ↦ w.value-is ∙ w.if-is_free.false ∙ ap (λ b. b && list_all settled ends) (sym w.if-is_free.false ∙ c.is_free.ensures)
    ] in
    ap not c.contains.ensures.value
    ∙ none-set c.deref-then-all.result.now
    ∙ ap (list_all not) c.deref-then-all.ensures.value
    ∙ ap (λ b. b && list_all not flags) (sym c.if-all.true ∙ both)
    ∙ still-is script named t c.args.self.now r at

pub returns-else-all : goal.returns-else-all
returns-else-all c = λ script named t r at.
    let ends = c.args.self.now.senders.items in
    let both : c.if-is_free.value ≡ (is_free c.args.self.now.state && list_all settled ends) = elim c.if-is_free.branch [
      | then-is_free w ↦ w.value-is ∙ all_from_yields_List settled _ _ w.all.result w.all.ensures.ran (YieldsList-from_slice ends cc) (λ x b q k. search (rules, tests)) ∙ ap (λ b. b && list_all settled ends) (sym w.if-is_free.true ∙ c.is_free.ensures)
      | else-is_free w ↦ w.value-is ∙ w.if-is_free.false ∙ ap (λ b. b && list_all settled ends) (sym w.if-is_free.false ∙ c.is_free.ensures)
    ] in
    c.if-all.false
    ∙ ap (λ b. b && list_all not c.args.self.now.owed.items) (sym c.if-all.false ∙ both)
    ∙ still-is script named t c.args.self.now r at
