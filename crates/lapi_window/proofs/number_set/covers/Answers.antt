use Rattle.std.proofs.Common.{◌%◌, ◌==◌, sym, ap, ◌∙◌}
use Rattle.std.proofs.lemmas.Bool.{lt-ltb}
use Rattle.lapi_window.proofs.Covered.{is_covered-low, first_bit}
use Rattle.lapi_window.proofs.number_set.covers.Goals as goal

pub returns-then-n-base : goal.returns-then-n-base
returns-then-n-base c = lt-ltb c.args.n c.args.base c.if-n-base.true ∙ sym (is_covered-low c.args.base c.args.bits c.args.n c.if-n-base.true)

pub returns-else-n-base : goal.returns-else-n-base
returns-else-n-base c = ap (λ x. x % 2 == 1) c.shifted.ensures ∙ first_bit c.args.base c.args.bits c.args.n c.if-n-base.false
