use Rattle.std.proofs.Common.{sym, ◌∙◌}
use Rattle.lapi_window.proofs.Covered.{is_in-of}
use Rattle.lapi_window.proofs.number_set.NumberSet.contains.Goals as goal

pub returns : goal.returns
returns c = c.covers.ensures ∙ sym (is_in-of c.self.inside.base c.self.inside.above c.args.self c.self.view_is c.self.invariant.0 c.args.n)
