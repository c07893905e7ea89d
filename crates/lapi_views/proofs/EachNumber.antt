-- A list that grows by what is said of each number below a bound.
use Rattle.std.proofs.Common.{◌≡◌, ℕ, ◌+◌, List, [], ◌∷◌, ◌++◌, map, sym, ap, ◌∙◌, append_assoc}
use Rattle.std.specs.List.{flat_map}
use Rattle.std.proofs.lemmas.List.{append-nil, map-append}
use Rattle.lapi_base.specs.Record.Operations.{numbers_below}
use Rattle.lapi_base.proofs.ListLaws.{flat_map-push}
use Rattle.lapi_base.proofs.UptoLaws.{numbers_below-none, numbers_below-more}

-- of none, and of one more
pub none_yet : {X : Type 0} (f : ℕ → List X) (old : List X) → old ≡ old ++ flat_map f (numbers_below 0)
none_yet f old = sym (ap (λ numbers. old ++ flat_map f numbers) numbers_below-none ∙ append-nil old)

pub number_added : {X : Type 0} (f : ℕ → List X) (n : ℕ) (old now next : List X) → now ≡ old ++ flat_map f (numbers_below n) → next ≡ now ++ f n → next ≡ old ++ flat_map f (numbers_below (n + 1))
number_added f n old now next e g =
    g
    ∙ ap (λ s. s ++ f n) e
    ∙ append_assoc old (flat_map f (numbers_below n)) (f n)
    ∙ ap (λ s. old ++ s) (sym (ap (λ numbers. flat_map f numbers) (numbers_below-more n) ∙ flat_map-push f (numbers_below n) n))

-- the same of one thing for each number
pub nothing_yet : {X : Type 0} (f : ℕ → X) → [] ≡ map f (numbers_below 0)
nothing_yet f = sym (ap (map f) numbers_below-none)

pub thing_added : {X : Type 0} (f : ℕ → X) (n : ℕ) (now next : List X) → now ≡ map f (numbers_below n) → next ≡ now ++ f n ∷ [] → next ≡ map f (numbers_below (n + 1))
thing_added f n now next e g = g ∙ ap (λ s. s ++ f n ∷ []) e ∙ sym (ap (map f) (numbers_below-more n) ∙ map-append f (numbers_below n) (n ∷ []))
