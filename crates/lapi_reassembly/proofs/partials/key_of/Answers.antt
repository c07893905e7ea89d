use Rattle.std.proofs.Common.{ap, sym, inl, inr, refl, ◌∙◌, Contains, arith}
use Rattle.std.proofs.lemmas.Bool.{true≢false}
use Rattle.slab.proofs.SlabLemmas.{Contains-cons, Contains-cons_cases, Contains-entries}
use Rattle.lapi_reassembly.proofs.partials.key_of.Goals as goal

pub loop-key-init : goal.loop-key-init
loop-key-init c =
    let left = c.into_iter-key-iterator.ensures.into_iter_gives ∙ c.iter-key-items.ensures.rest in (
      tt,
      tt,
      λ key g found named. rw left ((Contains-entries c.args.partials.now key g).1 found),
      λ key g there. (Contains-entries c.args.partials.now key g).0 (rw left at there),
    )

pub loop-key-preserved : goal.loop-key-preserved
loop-key-preserved c =
    let at = c.in-Some.ensures.steps in (
      tt,
      tt,
      λ key g found named. elim (Contains-cons_cases _ _ _ (rw at at (c.loop-key.invariant.2 key g found named))) [
        | inl same ↦ absurd (true≢false (sym (c.is_of.ensures.1 (ap (λ e. e.1.name) same ∙ named)) ∙ c.if-is_of.false))
        | inr rest ↦ rest
      ],
      λ key g there. c.loop-key.invariant.3 key g (rw at (Contains-cons _ _ _ there)),
    )

pub returns-then-is_of-clause-found : goal.returns-then-is_of-clause-found
returns-then-is_of-clause-found c =
    let at = c.in-Some.ensures.steps in
    let there : Contains c.loop-key.key-iterator (c.in-Some.key, c.in-Some.partial.now) = rw at (0, omega arith, refl) in
    (c.in-Some.partial.now, c.loop-key.invariant.3 c.in-Some.key c.in-Some.partial.now there, c.is_of.ensures.0 c.if-is_of.true)
