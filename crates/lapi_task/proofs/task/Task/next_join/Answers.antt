use Rattle.std.proofs.Common.{ℕ, sym, ◌∙◌, subst, arith}
use Rattle.lapi_base.specs.declared.statement.Statement.{Statement}
use Rattle.lapi_base.proofs.ListLaws.{some-same}
use Rattle.lapi_calls.specs.Heads.{IsJoinHead}
use Rattle.lapi_task.proofs.Joining.CompleteRounds.{round-within, round-read, next-head}
use Rattle.lapi_task.proofs.task.Task.next_join.Goals as goal

pub index-requires : goal.index-requires
index-requires c = let l = round-within c.args.self.now c.requires in let ok = c.args.self.now.rounds.ok.0 in omega (arith, l, ok)

pub returns : goal.returns
returns c = λ script rules t r at.
    let same = some-same _ _ (sym c.requires.there ∙ sym c.in-Some.ensures) in
    next-head c.args.self.now c.requires script rules t r at c.join_head.result
    (subst (λ (n : ℕ). IsJoinHead n c.requires.call c.join_head.result) (round-read c.args.self.now c.requires c.index.result.now c.index.ensures)
    (subst (λ (s : Statement). IsJoinHead c.index.result.now s c.join_head.result) (sym same) c.join_head.ensures))
