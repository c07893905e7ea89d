-- A world whose lines are taken in order.
use Rattle.std.proofs.Common.{◌≡◌, ℕ, suc, ◌+◌, List, [], ◌∷◌, ◌++◌, refl, sym, ap, ◌∙◌}
use Rattle.lapi_base.specs.Record.Below.{below}
use Rattle.lapi_base.specs.Record.Operations.{numbers_below}
use Rattle.lapi_base.specs.Record.WorldView.{WorldView}
use Rattle.lapi_base.proofs.UptoLaws.{numbers_below-more, numbers_below-none}

numbers_below-suc : (n : ℕ) → numbers_below (suc n) ≡ numbers_below n ++ n ∷ []
unfolding numbers_below below
numbers_below-suc n = refl

-- before any line
pub first_lines : (w : WorldView) → w.taken ≡ [] → w ≡ record w { taken = numbers_below 0 }
first_lines w h = ap (λ (numbers : List ℕ). record w { taken = numbers }) (h ∙ sym numbers_below-none)

-- and after one more
pub next_line : (w first : WorldView) (n : ℕ) (new : WorldView) → w ≡ record first { taken = numbers_below n } → new ≡ record w { taken = w.taken ++ n ∷ [] } → new ≡ record first { taken = numbers_below (n + 1) }
next_line w first n new before taken =
    taken ∙ ap (λ (v : WorldView). record v { taken = v.taken ++ n ∷ [] }) before ∙ ap (λ (numbers : List ℕ). record first { taken = numbers }) (sym (numbers_below-more n))
