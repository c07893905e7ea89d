use Rattle.std.proofs.Common.{rules, ◌≡◌, replicate, length, subst, sym, ap, ◌∙◌, refl}
use Rattle.std.proofs.lemmas.List.{length-replicate}
use Rattle.lapi_collect.specs.declared.rounds.Round.{Round}
use Rattle.lapi_collect.specs.Rounds.{joins_of, joined, AreRounds}
use Rattle.lapi_collect.proofs.Joining.{length-joins, none_joined, no_rounds}
use Rattle.lapi_collect.proofs.rounds.Rounds.new.Goals as goal

unjoined : Round
unjoined = record { joined = 0; values = replicate 8 0 }

pub invariant_of-result : goal.invariant_of-result
unfolding unjoined
invariant_of-result c =
    let made : c.in_ok-rounds.rounds.items ≡ replicate c.args.rounds unjoined = search rules in
    subst (AreRounds c.args.tasks) (sym made) (no_rounds c.args.tasks c.args.rounds unjoined c.requires refl refl)

pub returns-clause-size : goal.returns-clause-size
unfolding unjoined joins_of
returns-clause-size c =
    let made : c.in_ok-rounds.rounds.items ≡ replicate c.args.rounds unjoined = search rules in
    (refl, length-joins c.args.tasks c.in_ok-rounds.rounds.items ∙ ap length made ∙ length-replicate c.args.rounds unjoined)

pub returns-clause-none : goal.returns-clause-none
unfolding unjoined
returns-clause-none c = λ task round.
    let made : c.in_ok-rounds.rounds.items ≡ replicate c.args.rounds unjoined = search rules in
    ap (λ rows. joined (joins_of c.args.tasks rows) task round) made ∙ none_joined c.args.tasks c.args.rounds unjoined refl task round
