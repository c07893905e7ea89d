use Rattle.lapi_laws.proofs.Shorts.{links-few, numbers-small}
use Rattle.lapi_laws.proofs.window.numbers_are_small.Goals as goal

pub returns-clause-few : goal.returns-clause-few
returns-clause-few c = links-few

pub returns-clause-small : goal.returns-clause-small
returns-clause-small c = numbers-small
