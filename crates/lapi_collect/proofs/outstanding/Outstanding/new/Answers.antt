use Rattle.std.proofs.Common.{rules, ◌≡◌, ℕ, List, subst, sym, ap, ◌∙◌, arith, replicate, None}
use Rattle.lapi_collect.specs.Outstanding.{flags_of, IsOutstanding}
use Rattle.lapi_collect.proofs.Open.{none_begun, flags_none}
use Rattle.lapi_collect.proofs.outstanding.Outstanding.new.Goals as goal

pub invariant_of-result : goal.invariant_of-result
invariant_of-result c =
    let made : c.in_ok-words.words.items ≡ replicate c.div_ceil.result 0 = search rules in
    subst (λ (words : List ℕ). IsOutstanding c.args.statements words 0 None) (sym made) (none_begun c.args.statements c.div_ceil.result (omega (arith, c.div_ceil.ensures)) (omega (arith, c.div_ceil.ensures)))

pub returns : goal.returns
returns c =
    let made : c.in_ok-words.words.items ≡ replicate c.div_ceil.result 0 = search rules in
    ap (flags_of c.args.statements) made ∙ flags_none c.args.statements c.div_ceil.result
