use Rattle.std.proofs.Common.{◌∙◌}
use Rattle.lapi_window.proofs.BitLaws.{shr_or_none}
use Rattle.lapi_window.proofs.number_set.shifted.Goals as goal

pub returns : goal.returns
returns c = c.unwrap_or.ensures ∙ shr_or_none c.args.word c.args.places c.checked_shr.result c.ranges.word.fits c.checked_shr.ensures
