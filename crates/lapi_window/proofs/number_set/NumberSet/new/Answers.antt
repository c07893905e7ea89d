use Rattle.std.proofs.Common.{◌-◌, lit<, arith, ◌∙◌}
use Rattle.std.proofs.lemmas.Bool.{both_ways}
use Rattle.lapi_base.specs.Record.Below.{has_bit}
use Rattle.lapi_base.proofs.BitLaws.{has_bit-zero}
use Rattle.lapi_window.proofs.Flags.{is_in-view}
use Rattle.lapi_window.proofs.Covered.{is_covered-high}
use Rattle.lapi_window.proofs.number_set.NumberSet.new.Goals as goal

pub invariant_of-result : goal.invariant_of-result
invariant_of-result c = (lit< tt, has_bit-zero 0, λ i e. absurd (both_ways (has_bit 0 i) (has_bit-zero i) e))

pub returns-clause-none : goal.returns-clause-none
returns-clause-none c = λ n.
    is_in-view 0 0 n (lit< tt) ∙ is_covered-high 0 0 n (omega arith) ∙ has_bit-zero (n - 0)
