use Rattle.std.proofs.Common.{◌≡◌, ℕ, ◌+◌, ◌<◌, ◌≤◌, Bool, not, true, false, length, arith, sym, ap, ◌∙◌, ⊎_elim, ◌⊎◌, inl, inr}
use Rattle.std.proofs.lemmas.Bool.{cases_lt, both_ways}
use Rattle.std.specs.List.{slice_get}
use Rattle.lapi_base.specs.Record.Below.{below}
use Rattle.lapi_base.proofs.BelowLaws.{below-place, below_goes_on, length-below-none}
use Rattle.lapi_window.specs.NumberSet.{is_in}
use Rattle.lapi_window.proofs.Covered.{is_in-of, is_covered-low}
use Rattle.lapi_window.proofs.number_set.NumberSet.absent_at.Goals as goal
use Rattle.lapi_window.proofs.number_set.NumberSet.absent_at.Goals.{then-left-gt0, else-left-gt0+then-contains, then-not-contains, else-not-contains}

pub loop-left-init : goal.loop-left-init
loop-left-init c =
    let is = is_in-of c.self.inside.base c.self.inside.above c.args.self c.self.view_is c.self.invariant.0 in
    let absent = λ (n : ℕ). not (is_in c.args.self n) in
    let low = λ (k : ℕ) (l : k < c.self.inside.base). ap not (is k ∙ is_covered-low c.self.inside.base c.self.inside.above k l) in
    let none = length-below-none c.self.inside.base absent low in
    let some = c.requires in
    record {
      within =
          ⊎_elim
          (λ (lt : c.args.end < c.self.inside.base).
          let empty = length-below-none c.args.end absent (λ k l. low k (omega arith)) in
          absurd (omega (arith, empty, some)))
          (λ (ge : c.self.inside.base ≤ c.args.end). ge)
          (cases_lt c.args.end c.self.inside.base);
      count = (let q : length (below c.self.inside.base absent) + c.args.index ≡ c.args.index = omega (arith, none) in q);
    }

-- the loop is not at the end yet
inside : (number end left index : ℕ) (absent : ℕ → Bool) → number ≤ end → length (below number absent) + left ≡ index → index < length (below end absent) → number < end
inside number end left index absent within count some =
    ⊎_elim
    (λ (lt : number < end). lt)
    (λ (ge : end ≤ number).
    let e : number ≡ end = omega arith in
    let same = ap (λ n. length (below n absent)) e in
    absurd (omega (arith, same, count, some)))
    (cases_lt number end)

pub overflow_add-number : goal.overflow_add-number
overflow_add-number c =
    let lt = inside c.loop-left.number c.args.end c.loop-left.left c.args.index (λ n. not (is_in c.args.self n)) c.loop-left.invariant.within c.loop-left.invariant.count c.requires in
    let small = c.ranges.end.fits in
    record { fits = omega (arith, lt, small) }

pub loop-left-smaller : goal.loop-left-smaller
loop-left-smaller c =
    let lt = inside c.loop-left.number c.args.end c.loop-left.left c.args.index (λ n. not (is_in c.args.self n)) c.loop-left.invariant.within c.loop-left.invariant.count c.requires in
    omega (arith, lt)

-- what one number more does to the count
step : (number left left' index : ℕ) (absent : ℕ → Bool) → length (below number absent) + left ≡ index → ((absent number ≡ true) × (left ≡ left' + 1)) ⊎ ((absent number ≡ false) × (left' ≡ left)) → length (below (number + 1) absent) + left' ≡ index
step number left left' index absent count how =
    let next = below_goes_on number absent in
    ⊎_elim
    (λ (yes : (absent number ≡ true) × (left ≡ left' + 1)). let longer = next.0 yes.0 in let less = yes.1 in omega (arith, longer, less, count))
    (λ (not_so : (absent number ≡ false) × (left' ≡ left)). let same = next.1 not_so.0 in let e = not_so.1 in omega (arith, same, e, count))
    how

pub loop-left-preserved : goal.loop-left-preserved
loop-left-preserved c =
    let absent = λ (n : ℕ). not (is_in c.args.self n) in
    let lt = inside c.loop-left.number c.args.end c.loop-left.left c.args.index absent c.loop-left.invariant.within c.loop-left.invariant.count c.requires in
    let how : ((absent c.loop-left.number ≡ true) × (c.loop-left.left ≡ c.if-not-contains.left + 1)) ⊎ ((absent c.loop-left.number ≡ false) × (c.if-not-contains.left ≡ c.loop-left.left)) =
    elim c.if-not-contains.branch [
      | then-not-contains w ↦ elim c.if-left-gt0.branch [ then-left-gt0 v ↦ inl (ap not (sym c.contains-in-loop-left.ensures ∙ w.if-not-contains.true), omega arith) | else-left-gt0+then-contains v ↦ absurd (both_ways (is_in c.args.self c.loop-left.number) (sym c.contains-in-loop-left.ensures ∙ w.if-not-contains.true) (sym v.contains.ensures ∙ v.if-contains.true)) ]
      | else-not-contains w ↦ inr (ap not (sym c.contains-in-loop-left.ensures ∙ w.if-not-contains.false), w.left-is)
    ] in
    record {
      within = omega (arith, lt);
      count = step c.loop-left.number c.loop-left.left c.if-not-contains.left c.args.index absent c.loop-left.invariant.count how;
    }

pub returns : goal.returns
returns c =
    let absent = λ (n : ℕ). not (is_in c.args.self n) in
    let lt = inside c.loop-left.number c.args.end c.loop-left.left c.args.index absent c.loop-left.invariant.within c.loop-left.invariant.count c.requires in
    let here : absent c.loop-left.number ≡ true = ap not (sym c.contains.ensures ∙ c.if-contains.false) in
    let count = c.loop-left.invariant.count in
    let done = c.if-left-gt0.false in
    let place : c.args.index ≡ length (below c.loop-left.number absent) = omega (arith, count, done) in
    ap (λ i. slice_get (below c.args.end absent) i) place ∙ below-place c.args.end c.loop-left.number absent here lt
