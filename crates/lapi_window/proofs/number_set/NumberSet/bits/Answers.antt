use Rattle.std.proofs.Common.{◌+◌, sym, ap, ◌∙◌}
use Rattle.lapi_window.specs.NumberSet.{Members, is_covered}
use Rattle.lapi_window.proofs.Covered.{is_in-of, is_covered-at}
use Rattle.lapi_window.proofs.number_set.NumberSet.bits.Goals as goal

pub returns : goal.returns
returns c = λ i.
    let base = ap (λ (m : Members). m.base) c.self.view_is in
    sym (is_in-of c.self.inside.base c.self.inside.above c.args.self c.self.view_is c.self.invariant.0 (c.args.self.base + i)
    ∙ sym (ap (λ b. is_covered c.self.inside.base c.self.inside.above (b + i)) base)
    ∙ is_covered-at c.self.inside.base c.self.inside.above i)
