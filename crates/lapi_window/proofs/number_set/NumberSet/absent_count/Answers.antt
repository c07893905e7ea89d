use Rattle.std.proofs.Common.{not, length, ap, ◌∙◌, arith}
use Rattle.lapi_base.proofs.BelowLaws.{below-same}
use Rattle.lapi_window.specs.NumberSet.{is_in, is_covered}
use Rattle.lapi_window.proofs.Covered.{is_in-of, base_le_end, uncovered_count}
use Rattle.lapi_window.proofs.number_set.NumberSet.absent_count.Goals as goal

pub overflow_sub-result : goal.overflow_sub-result
overflow_sub-result c =
    let is = is_in-of c.self.inside.base c.self.inside.above c.args.self c.self.view_is c.self.invariant.0 in
    base_le_end c.self.inside.base c.self.inside.above c.args.end (λ n e. c.requires n (is n ∙ e))

pub overflow_sub-result-2 : goal.overflow_sub-result-2
overflow_sub-result-2 c =
    let is = is_in-of c.self.inside.base c.self.inside.above c.args.self c.self.view_is c.self.invariant.0 in
    let e = uncovered_count c.self.inside.base c.self.inside.above c.args.end (λ n f. c.requires n (is n ∙ f)) in
    omega (arith, e)

pub returns : goal.returns
returns c =
    let base = c.self.inside.base in
    let word = c.self.inside.above in
    let is = is_in-of base word c.args.self c.self.view_is c.self.invariant.0 in
    let e = uncovered_count base word c.args.end (λ n f. c.requires n (is n ∙ f)) in
    let same = ap length (below-same c.args.end (λ n. not (is_in c.args.self n)) (λ n. not (is_covered base word n)) (λ k l. ap not (is k))) in
    omega (arith, e, same)
