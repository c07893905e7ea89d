use Rattle.std.proofs.Common.{◌≡◌, ◌+◌, arith, ap, ◌∙◌}
use Rattle.lapi_window.specs.NumberSet.{is_covered}
use Rattle.lapi_window.proofs.Covered.{is_in-of, is_covered-at}
use Rattle.lapi_window.proofs.number_set.NumberSet.least_absent.Goals as goal

pub returns-clause-absent : goal.returns-clause-absent
returns-clause-absent c =
    let base = c.self.inside.base in
    let word = c.self.inside.above in
    is_in-of base word c.args.self c.self.view_is c.self.invariant.0 base
    ∙ ap (λ n. is_covered base word n) (let q : base ≡ base + 0 = omega arith in q)
    ∙ is_covered-at base word 0
    ∙ c.self.invariant.1
