-- The lines of one's own lanes in a history that goes on.
use Rattle.std.proofs.Common.{◌≡◌, ℕ, ◌==◌, Bool, false, cond, List, [], ◌∷◌, ◌++◌, refl, ap, ◌∙◌, subst, arith}
use Rattle.std.specs.Prelude.{filter}
use Rattle.std.specs.Int.{bit_at}
use Rattle.std.specs.List.{AllByRecursion}
use Rattle.std.proofs.lemmas.Bool.{eqb-true, eq-eqb, ne_eqb, false_from_ne_true, cond-false, cond-true}
use Rattle.std.proofs.lemmas.List.{append-nil}
use Rattle.std.proofs.lemmas.List.Elements.{filter-append}
use Rattle.lapi_base.specs.declared.schedule.Line.{Line}
use Rattle.lapi_base.specs.Record.Lanes.{lane_of, lane_lines}
use Rattle.lapi_live.specs.Histories.{IsOwn, IsForeign, own_lines, GoesOn}

pub filter-none : (p : ℕ → Bool) (xs : List ℕ) → AllByRecursion (λ n. p n ≡ false) xs → filter p xs ≡ []
filter-none p [] h = refl
filter-none p (x ∷ xs) h = cond-false (p x) (x ∷ filter p xs) (filter p xs) h.0 ∙ filter-none p xs h.1

filter-same : (p : ℕ → Bool) (seen history rest : List ℕ) → history ≡ seen ++ rest → AllByRecursion (λ n. p n ≡ false) rest → filter p history ≡ filter p seen
filter-same p seen history rest is none = ap (filter p) is ∙ (filter-append p seen rest ∙ (ap (λ (l : List ℕ). filter p seen ++ l) (filter-none p rest none) ∙ append-nil (filter p seen)))

filter-more : (p : ℕ → Bool) (xs : List ℕ) (n : ℕ) → filter p (xs ++ n ∷ []) ≡ filter p xs ++ cond (p n) (n ∷ []) []
filter-more p xs n = filter-append p xs (n ∷ [])

module _ (schedule : List Line) where
  not-own : (lanes : ℕ) (rest : List ℕ) → AllByRecursion (IsForeign schedule lanes) rest → AllByRecursion (λ n. (bit_at lanes (lane_of schedule n) == 1) ≡ false) rest
  not-own lanes [] h = tt
  not-own lanes (n ∷ ns) h = (ne_eqb _ 1 (λ one. let zero = h.0 in absurd (omega arith)), not-own lanes ns h.1)

  not-lane : (lanes lane : ℕ) (rest : List ℕ) → bit_at lanes lane ≡ 1 → AllByRecursion (IsForeign schedule lanes) rest → AllByRecursion (λ n. (lane_of schedule n == lane) ≡ false) rest
  not-lane lanes lane [] one h = tt
  not-lane lanes lane (n ∷ ns) one h = (
    false_from_ne_true (lane_of schedule n == lane) (λ yes. let zero = subst (λ (k : ℕ). bit_at lanes k ≡ 0) (eqb-true _ lane yes) h.0 in absurd (omega arith)),
    not-lane lanes lane ns one h.1,
  )

  -- a history that goes on has no more lines of these lanes
  pub own-same : (lanes : ℕ) (seen history : List ℕ) → GoesOn schedule lanes seen history → own_lines schedule lanes history ≡ own_lines schedule lanes seen
  own-same lanes seen history g = filter-same (λ n. bit_at lanes (lane_of schedule n) == 1) seen history g.0 g.1 (not-own lanes g.0 g.2)

  pub lane-same : (lanes lane : ℕ) (seen history : List ℕ) → bit_at lanes lane ≡ 1 → GoesOn schedule lanes seen history → lane_lines schedule lane history ≡ lane_lines schedule lane seen
  lane-same lanes lane seen history one g = filter-same (λ n. lane_of schedule n == lane) seen history g.0 g.1 (not-lane lanes lane g.0 one g.2)

  -- and with an own line after it, it has that line once more
  pub own-more : (lanes n : ℕ) (seen history new : List ℕ) → IsOwn schedule lanes n → GoesOn schedule lanes seen history → new ≡ history ++ n ∷ [] → own_lines schedule lanes new ≡ own_lines schedule lanes seen ++ n ∷ []
  own-more lanes n seen history new own g is =
      ap (own_lines schedule lanes) is
      ∙ (filter-more (λ k. bit_at lanes (lane_of schedule k) == 1) history n
      ∙ (ap (λ (l : List ℕ). l ++ cond (bit_at lanes (lane_of schedule n) == 1) (n ∷ []) []) (own-same lanes seen history g)
      ∙ ap (λ (l : List ℕ). own_lines schedule lanes seen ++ l) (cond-true (bit_at lanes (lane_of schedule n) == 1) (n ∷ []) [] (eq-eqb _ 1 own))))

  pub lane-more : (lanes lane n : ℕ) (seen history new : List ℕ) → bit_at lanes lane ≡ 1 → GoesOn schedule lanes seen history → new ≡ history ++ n ∷ [] → lane_lines schedule lane new ≡ lane_lines schedule lane seen ++ cond (lane_of schedule n == lane) (n ∷ []) []
  lane-more lanes lane n seen history new one g is =
      ap (lane_lines schedule lane) is ∙ (filter-more (λ k. lane_of schedule k == lane) history n ∙ ap (λ (l : List ℕ). l ++ cond (lane_of schedule n == lane) (n ∷ []) []) (lane-same lanes lane seen history one g))
