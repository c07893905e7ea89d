use Rattle.std.proofs.Common.{◌≡◌, ℕ, ◌+◌, cond, List, [], ◌∷◌, ◌++◌, Some, sym, ap, ◌∙◌, subst}
use Rattle.std.specs.Prelude.{slice_get}
use mir.Val.{bool_byte}
use Rattle.lapi_base.specs.declared.statement.Statement.{Statement}
use Rattle.lapi_base.proofs.ListLaws.{found-at}
use Rattle.lapi_task.proofs.Joining.RoundNumbers.{AreNumbered, byte-is, numbered-none, numbered-more}
use Rattle.lapi_task.proofs.rounds.rounds_of.Goals as goal
use Rattle.lapi_task.proofs.rounds.rounds_of.Goals.{then-is_fence, else-is_fence}

pub loop-statement-init : goal.loop-statement-init
loop-statement-init c =
    subst (λ (xs : List ℕ). AreNumbered c.args.statements.now c.args.memory 0 xs 0 0) (sym c.new-rounds.ensures.items) (numbered-none c.args.statements.now c.args.memory)

pub loop-statement-preserved : goal.loop-statement-preserved
loop-statement-preserved c =
    let statements = c.args.statements.now in
    let memory = c.args.memory in
    let n = c.loop-statement.statement-index in
    let made = c.loop-statement.rounds.items in
    let fences = c.loop-statement.fences in
    let tables = c.loop-statement.tables in
    let fence = c.is_gfence-is_fence.result in
    let table = c.gives_address.result in
    let s = c.statement-item.result in
    let items = c.as_slice-statement-items in
    let at : slice_get statements n ≡ Some s = ap (λ (xs : List Statement). slice_get xs n) (sym items.ensures) ∙ found-at items.result.now n s c.loop-statement-test.true c.statement-item.is in
    let round : c.if-is_fence.push ≡ cond fence fences tables =
    elim c.if-is_fence.branch [
      | then-is_fence w ↦ w.push-is ∙ sym (ap (λ b. cond b fences tables) w.if-is_fence.true)
      | else-is_fence w ↦ w.push-is ∙ sym (ap (λ b. cond b fences tables) w.if-is_fence.false)
    ] in
    let pushed : c.push.new.self.items ≡ made ++ cond fence fences tables ∷ [] = c.in_ok-push.ensures.items ∙ ap (λ (r : ℕ). made ++ r ∷ []) round in
    let more = numbered-more statements memory n made fences tables s at c.loop-statement.invariant fence table c.is_gfence-is_fence.ensures c.gives_address.ensures in
    subst (λ (xs : List ℕ). AreNumbered statements memory (n + 1) xs (fences + bool_byte fence) (tables + bool_byte table)) (sym pushed)
    (subst (λ (k : ℕ). AreNumbered statements memory (n + 1) (made ++ cond fence fences tables ∷ []) (fences + k) (tables + bool_byte table)) (sym (byte-is fence))
    (subst (λ (k : ℕ). AreNumbered statements memory (n + 1) (made ++ cond fence fences tables ∷ []) (fences + cond fence 1 0) (tables + k)) (sym (byte-is table)) more))
