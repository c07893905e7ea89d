use Rattle.std.proofs.Common.{◌≤◌, ◌<◌, ◌+◌, ◌||◌, ◌==◌, sym, ap, ◌∙◌, arith}
use Rattle.lapi_window.specs.NumberSet.{Members}
use Rattle.lapi_window.proofs.Covered.{is_in-of, with-covers, with-small}
use Rattle.lapi_window.proofs.number_set.NumberSet.with.Goals as goal

pub settled-requires : goal.settled-requires
settled-requires c = λ i e.
    let base = ap (λ (m : Members). m.base) c.self.view_is in
    let near = c.requires.near in
    let low : c.self.inside.base ≤ c.args.n = omega (arith, base, near) in
    let high : c.args.n < c.self.inside.base + 64 = omega (arith, base, near) in
    with-small c.self.inside.base c.self.inside.above c.args.n i low high c.requires.small c.self.invariant.2 e

pub returns-clause-set : goal.returns-clause-set
returns-clause-set c = λ k.
    let base = ap (λ (m : Members). m.base) c.self.view_is in
    let near = c.requires.near in
    let low : c.self.inside.base ≤ c.args.n = omega (arith, base, near) in
    let high : c.args.n < c.self.inside.base + 64 = omega (arith, base, near) in
    c.settled.ensures.set k
    ∙ with-covers c.self.inside.base c.self.inside.above c.args.n k low high
    ∙ ap (λ b. (k == c.args.n) || b) (sym (is_in-of c.self.inside.base c.self.inside.above c.args.self c.self.view_is c.self.invariant.0 k))
