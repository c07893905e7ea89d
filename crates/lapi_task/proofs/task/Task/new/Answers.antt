use Rattle.std.proofs.Common.{List, length, replicate, false, refl, sym, ap, ◌∙◌, subst, arith}
use Rattle.lapi_base.specs.declared.sizes.Sizes.{Sizes}
use Rattle.lapi_calls.specs.Limits.{limits_of}
use Rattle.lapi_task.specs.StandsFor.{IsNewState}
use Rattle.lapi_task.proofs.Standing.NewStands.{new-stands}
use Rattle.lapi_task.proofs.Stepping.ReasonForms.{few-statements}
use Rattle.lapi_task.proofs.task.Task.new.Goals as goal
use Rattle.lapi_base.specs.declared.statement.Statement.{Statement}

pub rounds_of-requires : goal.rounds_of-requires
rounds_of-requires c =
    let few = few-statements c.args.script.now c.requires.script c.args.task in
    let same = ap (λ (xs : List Statement). length xs) c.in_ok-statements.ensures in
    omega (arith, few, same)

pub returns : goal.returns
returns c = λ rules valid count. new-stands c.args.script.now rules c.args.task _ (record {
  calls = record {
    valid = c.requires.script;
    rules_valid = valid;
    sizes = c.sizes-sizes.ensures;
    statements = c.in_ok-statements.ensures;
    limits = c.of-limits.ensures ∙ ap (limits_of c.args.script.now) (sym count);
    rounds = c.in_ok-rounds.ensures c.args.script.now c.args.task c.in_ok-statements.ensures refl;
  };
  state = subst (λ (z : Sizes). IsNewState z c.args.task c.in_ok-state.state) c.sizes-sizes.ensures c.in_ok-state.ensures;
  unfinished =
      let all = c.as_slice.ensures ∙ c.in_ok-statements.ensures in
      (c.in_ok-unfinished.ensures.0 ∙ ap (λ (xs : List Statement). replicate (length xs) false) all, c.in_ok-unfinished.ensures.1 ∙ ap (λ (xs : List Statement). replicate (length xs) 0) all);
  senders = (c.in_ok-senders.ensures.count, c.in_ok-senders.ensures.new);
  receivers = (c.in_ok-receivers.ensures.count, c.in_ok-receivers.ensures.new);
  owed = c.in_ok-owed.ensures;
})
