use Rattle.lapi_laws.proofs.Laws.{quiet, complete}
use Rattle.lapi_laws.proofs.Runs.{run-sound}
use Rattle.lapi_laws.proofs.Still.{after-still}
use Rattle.lapi_laws.proofs.finality.delivered_is_final.Goals as goal

pub returns-clause-quiet : goal.returns-clause-quiet
returns-clause-quiet c = λ script rules spells size refusal acts v d. quiet script rules size refusal spells acts v d

pub returns-clause-complete : goal.returns-clause-complete
returns-clause-complete c = λ script rules spells size refusal acts v q. complete script rules size refusal spells acts v q

pub returns-clause-still : goal.returns-clause-still
returns-clause-still c =
    λ script rules spells size refusal acts v q spells' size' refusal' more w n. after-still script rules spells' size' refusal' more _ w n (run-sound script rules spells size refusal acts v) q
