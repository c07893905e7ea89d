use Rattle.std.proofs.Common.{ℕ, ◌<◌, length, sym, ap, ◌∙◌, subst, arith}
use Rattle.std.specs.Prelude.{slice_index}
use Rattle.lapi_base.specs.declared.statement.Statement.{Statement}
use Rattle.lapi_base.proofs.ListLaws.{some-same}
use Rattle.lapi_collect.specs.Rounds.{is_complete}
use Rattle.lapi_task.specs.HasRounds.{joins_like}
use Rattle.lapi_task.proofs.Joining.CompleteRounds.{round-within, round-read, next-small, next-joined}
use Rattle.lapi_task.proofs.task.Task.is_joined.Goals as goal

pub index-round-requires : goal.index-round-requires
index-round-requires c = let l = round-within c.args.self.now c.requires.call in let ok = c.args.self.now.rounds.ok.0 in omega (arith, l, ok)

pub is_complete-requires-clause-round : goal.is_complete-requires-clause-round
is_complete-requires-clause-round c =
    let task = c.args.self.now in
    let same = some-same _ _ (sym c.requires.call.there ∙ sym c.in-Some.ensures) in
    subst (λ (n : ℕ). n < length (joins_like task.state.collective c.in-Some.statement.now).rounds) (sym (round-read task c.requires.call c.index-round.result.now c.index-round.ensures))
    (subst (λ (s : Statement). slice_index task.rounds.items task.state.next < length (joins_like task.state.collective s).rounds) same (next-small task c.requires.call))

pub returns : goal.returns
returns c = λ script rules t r at.
    let task = c.args.self.now in
    let same = some-same _ _ (sym c.requires.call.there ∙ sym c.in-Some.ensures) in
    c.is_complete.ensures
    ∙ ap (is_complete (joins_like task.state.collective c.in-Some.statement.now)) (round-read task c.requires.call c.index-round.result.now c.index-round.ensures)
    ∙ ap (λ (s : Statement). is_complete (joins_like task.state.collective s) (slice_index task.rounds.items task.state.next)) (sym same)
    ∙ next-joined task c.requires.call script rules t r at c.requires.entered
