-- The fragments of a message as a list, by what is told of each of them.
use Rattle.std.proofs.Common.{◌≡◌, ◌≢◌, ℕ, zero, suc, ◌+◌, ◌<◌, Bool, ◌&&◌, List, [], ◌∷◌, ◌++◌, map, set, replicate, get_or, Option, Some, None, is_some, refl, sym, ap, ◌∙◌, ⊎_elim, arith}
use Rattle.std.specs.List.{range_with_len, list_all, flat_map}
use Rattle.std.specs.Option.{unwrap_or}
use Rattle.std.proofs.Math.Bool.{and-true}
use Rattle.std.proofs.lemmas.Bool.{cases_eq}
use Rattle.std.proofs.lemmas.Grind.{get_or-set_at}
use Rattle.std.proofs.lemmas.List.{map-append, get_or-set_other, length-set, length-replicate, get_or-replicate}
use Rattle.std.proofs.lemmas.List.Folds.{list_all-append}
use Rattle.std.proofs.lemmas.List.FromFn.{length-map-range_with_len, get_or-map-range_with_len, map-range_with_len_more, fill_by_all}
use Rattle.lapi_base.specs.Record.Below.{every_below, below}
use Rattle.lapi_base.specs.Record.Operations.{numbers_below}

-- none of the first n is missing
pub every-all : (n : ℕ) (there : ℕ → Bool) (f : ℕ → Option (List ℕ)) → ((j : ℕ) → is_some (f j) ≡ there j) → every_below n there ≡ list_all is_some (map f (numbers_below n))
unfolding every_below numbers_below below
every-all zero there f told = refl
every-all (suc n) there f told =
    ap (λ b. b && there n) (every-all n there f told)
    ∙ ap (λ b. list_all is_some (map f (numbers_below n)) && b) (sym (and-true (is_some (f n)) ∙ told n))
    ∙ sym (ap (list_all is_some) (map-append f (numbers_below n) (n ∷ [])) ∙ list_all-append is_some (map f (numbers_below n)) (f n ∷ []))

-- one after another
pub joined-map : (f : ℕ → Option (List ℕ)) (bytes : ℕ → List ℕ) (xs : List ℕ) → ((j : ℕ) → unwrap_or (f j) [] ≡ bytes j) → flat_map (λ payload. unwrap_or payload []) (map f xs) ≡ flat_map bytes xs
joined-map f bytes [] told = refl
joined-map f bytes (x ∷ xs) told =
    ap (λ ys. ys ++ flat_map (λ (payload : Option (List ℕ)). unwrap_or payload []) (map f xs)) (told x)
    ∙ ap (λ ys. bytes x ++ ys) (joined-map f bytes xs told)

in_range : (f : ℕ → Option (List ℕ)) (n : ℕ) → map f (numbers_below n) ≡ map f (range_with_len 0 n)
unfolding numbers_below below
in_range f zero = refl
in_range f (suc n) =
    let on : n + 1 ≡ suc n = omega arith in
    map-append f (numbers_below n) (n ∷ [])
    ∙ ap (λ xs. xs ++ f n ∷ []) (in_range f n)
    ∙ sym (map-range_with_len_more f 0 n n (omega arith))
    ∙ ap (λ k. map f (range_with_len 0 k)) on

pub told-at : (f : ℕ → Option (List ℕ)) (n j : ℕ) → j < n → get_or (map f (numbers_below n)) j None ≡ f j
told-at f n j below = ap (λ xs. get_or xs j None) (in_range f n) ∙ get_or-map-range_with_len f 0 n j j None below (omega arith)

-- before the first has come
pub none-yet : (f : ℕ → Option (List ℕ)) (n : ℕ) → ((j : ℕ) → f j ≡ None) → replicate n None ≡ map f (numbers_below n)
none-yet f n told =
    fill_by_all f (replicate n None) n None (length-replicate n None) (λ k l. get_or-replicate n k None None l ∙ sym (told k)) ∙ sym (in_range f n)

-- and after fragment j has
pub one-more : (f now : ℕ → Option (List ℕ)) (n j : ℕ) (payload : List ℕ) → j < n → now j ≡ Some payload → ((k : ℕ) → k ≢ j → now k ≡ f k) → set (map f (numbers_below n)) j (Some payload) ≡ map now (numbers_below n)
one-more f now n j payload below here others =
    let old = map f (range_with_len 0 n) in
    let long = length-map-range_with_len f 0 n in
    ap (λ xs. set xs j (Some payload)) (in_range f n)
    ∙ fill_by_all now (set old j (Some payload)) n None (length-set old j (Some payload) ∙ long) (λ k l.
    ⊎_elim
    (λ (e : k ≡ j). get_or-set_at old j k (Some payload) None e (omega (arith, below, long)) ∙ sym (ap now e ∙ here))
    (λ (ne : k ≢ j). get_or-set_other old j k (Some payload) None ne ∙ get_or-map-range_with_len f 0 n k k None l (omega arith) ∙ sym (others k ne))
    (cases_eq k j))
    ∙ sym (in_range now n)
