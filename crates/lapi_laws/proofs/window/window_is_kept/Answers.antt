use Rattle.lapi_laws.proofs.Laws.{window}
use Rattle.lapi_laws.proofs.Reach.{sent-reach}
use Rattle.lapi_laws.proofs.Runs.{run-sound}
use Rattle.lapi_laws.proofs.Sound.{acked-delivered}
use Rattle.lapi_laws.proofs.window.window_is_kept.Goals as goal

pub returns-clause-delivered : goal.returns-clause-delivered
returns-clause-delivered c = λ script rules spells size refusal acts v a b n h. acked-delivered script rules _ _ _ (run-sound script rules spells size refusal acts v) a b n h

pub returns-clause-sent : goal.returns-clause-sent
returns-clause-sent c = λ script rules spells size refusal acts v a b n h. window script rules size refusal acts a b n h

pub returns-clause-reach : goal.returns-clause-reach
returns-clause-reach c = sent-reach
