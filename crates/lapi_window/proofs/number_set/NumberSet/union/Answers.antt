use Rattle.std.proofs.Common.{◌≡◌, ◌/◌, ◌-◌, ◌^◌, ◌||◌, bit_or, sym, ap, ◌∙◌, arith}
use Rattle.lapi_base.specs.Record.Below.{has_bit}
use Rattle.lapi_window.specs.NumberSet.{is_covered}
use Rattle.lapi_window.proofs.Covered.{is_in-of, union-covers, union-small}
use Rattle.lapi_window.proofs.number_set.NumberSet.union.Goals as goal

pub settled-requires : goal.settled-requires
settled-requires c = λ i e.
    let word : bit_or c.shifted.result c.shifted-2.result ≡ bit_or (c.self.inside.above / 2 ^ (c.max-start.result - c.self.inside.base)) (c.args.bits / 2 ^ (c.max-start.result - c.args.base)) =
    ap (λ x. bit_or x c.shifted-2.result) c.shifted.ensures ∙ ap (λ x. bit_or (c.self.inside.above / 2 ^ (c.max-start.result - c.self.inside.base)) x) c.shifted-2.ensures in
    union-small c.self.inside.base c.self.inside.above c.args.base c.args.bits c.max-start.result i c.max-start.ensures (omega arith) c.self.invariant.2 c.requires.small (sym (ap (λ x. has_bit x i) word) ∙ e)

pub returns-clause-set : goal.returns-clause-set
returns-clause-set c = λ n.
    let word : bit_or c.shifted.result c.shifted-2.result ≡ bit_or (c.self.inside.above / 2 ^ (c.max-start.result - c.self.inside.base)) (c.args.bits / 2 ^ (c.max-start.result - c.args.base)) =
    ap (λ x. bit_or x c.shifted-2.result) c.shifted.ensures ∙ ap (λ x. bit_or (c.self.inside.above / 2 ^ (c.max-start.result - c.self.inside.base)) x) c.shifted-2.ensures in
    c.settled.ensures.set n
    ∙ ap (λ x. is_covered c.max-start.result x n) word
    ∙ union-covers c.self.inside.base c.self.inside.above c.args.base c.args.bits c.max-start.result n c.max-start.ensures
    ∙ ap (λ b. b || is_covered c.args.base c.args.bits n) (sym (is_in-of c.self.inside.base c.self.inside.above c.args.self c.self.view_is c.self.invariant.0 n))
