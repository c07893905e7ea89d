use Rattle.std.proofs.Common.{◌≡◌, ◌+◌, sym, ap, ◌∙◌, subst, arith}
use Rattle.lapi_base.specs.Record.Below.{has_bit}
use Rattle.lapi_base.proofs.BitLaws.{IsRun, run_of}
use Rattle.lapi_window.specs.NumberSet.{is_covered}
use Rattle.lapi_window.proofs.Flags.{is_in-view}
use Rattle.lapi_window.proofs.Covered.{is_covered-at, settled-fits, settled-clear, settled-small, settled-covers}
use Rattle.lapi_window.proofs.number_set.settled.Goals as goal

pub overflow_add-result : goal.overflow_add-result
overflow_add-result c =
    let run : IsRun c.args.word c.trailing_ones-run.result = subst (λ t. IsRun c.args.word t) (sym c.trailing_ones-run.ensures) (run_of c.args.word c.ranges.word.fits) in
    record { fits = settled-fits c.args.start c.args.word c.trailing_ones-run.result run c.ranges.start.fits c.requires }

pub invariant_of-result : goal.invariant_of-result
invariant_of-result c =
    let run : IsRun c.args.word c.trailing_ones-run.result = subst (λ t. IsRun c.args.word t) (sym c.trailing_ones-run.ensures) (run_of c.args.word c.ranges.word.fits) in (
      c.shifted.type_inv,
      ap (λ x. has_bit x 0) c.shifted.ensures ∙ settled-clear c.args.word c.trailing_ones-run.result run,
      λ i e. settled-small c.args.start c.args.word c.trailing_ones-run.result i c.requires (sym (ap (λ x. has_bit x i) c.shifted.ensures) ∙ e),
    )

pub returns-clause-set : goal.returns-clause-set
returns-clause-set c = λ n.
    let run : IsRun c.args.word c.trailing_ones-run.result = subst (λ t. IsRun c.args.word t) (sym c.trailing_ones-run.ensures) (run_of c.args.word c.ranges.word.fits) in
    is_in-view (c.args.start + c.trailing_ones-run.result) c.shifted.result n c.shifted.type_inv
    ∙ ap (λ x. is_covered (c.args.start + c.trailing_ones-run.result) x n) c.shifted.ensures
    ∙ settled-covers c.args.start c.args.word c.trailing_ones-run.result n run

pub returns-clause-absent : goal.returns-clause-absent
returns-clause-absent c =
    let run : IsRun c.args.word c.trailing_ones-run.result = subst (λ t. IsRun c.args.word t) (sym c.trailing_ones-run.ensures) (run_of c.args.word c.ranges.word.fits) in
    let base = c.args.start + c.trailing_ones-run.result in
    is_in-view base c.shifted.result base c.shifted.type_inv
    ∙ ap (λ k. is_covered base c.shifted.result k) (let q : base ≡ base + 0 = omega arith in q)
    ∙ is_covered-at base c.shifted.result 0
    ∙ ap (λ x. has_bit x 0) c.shifted.ensures
    ∙ settled-clear c.args.word c.trailing_ones-run.result run
