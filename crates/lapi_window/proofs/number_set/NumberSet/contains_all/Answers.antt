use Rattle.std.proofs.Common.{◌≡◌, ◌-◌, ◌/◌, ◌^◌, max, sym, ap, ◌∙◌, subst, arith}
use Rattle.std.proofs.lemmas.Bool.{leb-true, le-leb}
use Rattle.lapi_base.proofs.BitLaws.{IsRun, run_of}
use Rattle.lapi_window.proofs.Covered.{is_in-of, is_covered-low, range-covered, range-short}
use Rattle.lapi_window.proofs.number_set.NumberSet.contains_all.Goals as goal

pub returns-then-first-to : goal.returns-then-first-to
returns-then-first-to c =
    let e = c.max-first.ensures in
    let le = c.if-first-to.true in (
      λ _ n f l. is_in-of c.self.inside.base c.self.inside.above c.args.self c.self.view_is c.self.invariant.0 n ∙ is_covered-low c.self.inside.base c.self.inside.above n (omega (arith, e, le)),
      λ _. le-leb c.args.to c.max-first.result le,
    )

pub returns-else-first-to : goal.returns-else-first-to
returns-else-first-to c =
    let base = c.self.inside.base in
    let word = c.self.inside.above in
    let at : c.shifted.result ≡ word / 2 ^ (max c.args.from base - base) = c.shifted.ensures ∙ ap (λ k. word / 2 ^ (k - base)) c.max-first.ensures in
    let run : IsRun (word / 2 ^ (max c.args.from base - base)) c.trailing_ones.result = subst (λ x. IsRun x c.trailing_ones.result) at (subst (λ t. IsRun c.shifted.result t) (sym c.trailing_ones.ensures) (run_of c.shifted.result c.shifted.type_inv)) in
    let is = is_in-of base word c.args.self c.self.view_is c.self.invariant.0 in
    let e = c.max-first.ensures in (
      λ t n f l. is n ∙ range-covered base word c.args.from c.args.to c.trailing_ones.result run (let q = leb-true (c.args.to - c.max-first.result) c.trailing_ones.result t in omega (arith, q, e)) n f l,
      λ all. le-leb (c.args.to - c.max-first.result) c.trailing_ones.result (let q = range-short base word c.args.from c.args.to c.trailing_ones.result run (λ n f l. sym (is n) ∙ all n f l) in omega (arith, q, e)),
    )
