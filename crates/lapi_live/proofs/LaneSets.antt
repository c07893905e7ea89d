-- The pass with all lanes may run all lanes, and each has its lines in the set.
use Rattle.std.proofs.Common.{◌≡◌, ℕ, zero, suc, ◌^◌, ◌<◌, ◌≤◌, ◌==◌, true, false, cond, List, [], ◌∷◌, ◌++◌, length, refl, sym, ap, ◌∙◌, subst, arith, bit_xor}
use Rattle.std.specs.List.{AllByRecursion}
use Rattle.std.proofs.lemmas.Bool.{eqb-true, eq-eqb, ne_eqb, cond-true, cond-false}
use Rattle.std.proofs.lemmas.Nat.Bits.{bit_at_ones}
use mathlib.Core.Logic.{dite}
use native.Mathlib.Decide.{ℕ_discrete}
use Rattle.lapi_base.specs.declared.schedule.Line.{Line}
use Rattle.lapi_base.specs.Record.Below.{below}
use Rattle.lapi_base.specs.Record.Operations.{numbers_below}
use Rattle.lapi_base.proofs.ListLaws.{all-append, all-weaker}
use Rattle.lapi_turn.specs.Entries.{HasRight}
use Rattle.lapi_turn.specs.TurnRule.{all_rights}
use Rattle.lapi_live.specs.declared.lane_set.OneLane.{OneLane}
use Rattle.lapi_base.specs.Record.Lanes.{lane_of, lane_lines}
use Rattle.lapi_live.specs.Lanes.{if_any, lanes_below, lane_set}
use Rattle.lapi_live.specs.Running.{IsLineOf, AreOwn, lines_at}
use Rattle.lapi_live.proofs.Splitting.{others-have}

pub all-small : (n : ℕ) → AllByRecursion (λ k. k < n) (numbers_below n)
unfolding numbers_below below
all-small zero = tt
all-small (suc n) = all-append (λ k. k < suc n) (below n (λ _. true)) (n ∷ []) (all-weaker (λ k. k < n) (λ k. k < suc n) (λ k lt. omega arith) (below n (λ _. true)) (all-small n)) (omega arith, tt)

all-lines : (schedule : List Line) (lane : ℕ) (xs : List ℕ) → AllByRecursion (λ k. k < length schedule) xs → AllByRecursion (IsLineOf schedule lane) (lane_lines schedule lane xs)
all-lines schedule lane [] h = tt
all-lines schedule lane (x ∷ xs) h =
    elim (lane_of schedule x == lane) as (λ b. (lane_of schedule x == lane) ≡ b → AllByRecursion (IsLineOf schedule lane) (cond b (x ∷ lane_lines schedule lane xs) (lane_lines schedule lane xs))) [
      | true ↦ λ e. ((h.0, eqb-true _ lane e), all-lines schedule lane xs h.1)
      | false ↦ λ e. all-lines schedule lane xs h.1
    ] refl

-- the rights that are left once these lanes were handed over
left : ℕ → List OneLane → ℕ
left lanes [] = lanes
left lanes (one ∷ set) = left (bit_xor lanes (2 ^ one.lane)) set

own-append : (schedule : List Line) (lanes : ℕ) (xs ys : List OneLane) → AreOwn schedule lanes xs → AreOwn schedule (left lanes xs) ys → AreOwn schedule lanes (xs ++ ys)
unfolding left
own-append schedule lanes [] ys a b = b
own-append schedule lanes (x ∷ xs) ys a b = (a.0, a.1, a.2, own-append schedule (bit_xor lanes (2 ^ x.lane)) xs ys a.3 b)

left-has : (lanes : ℕ) (xs : List OneLane) (r : ℕ) → AllByRecursion (λ (one : OneLane). one.lane < r) xs → HasRight lanes r → HasRight (left lanes xs) r
unfolding left
left-has lanes [] r h one = one
left-has lanes (x ∷ xs) r h one = let lt = h.0 in left-has (bit_xor lanes (2 ^ x.lane)) xs r h.1 (others-have lanes x.lane r one (λ e. absurd (omega arith)))

any-below : (lane k : ℕ) (lines : List ℕ) → lane < k → AllByRecursion (λ (one : OneLane). one.lane < k) (if_any lane lines)
any-below lane k [] lt = tt
any-below lane k (n ∷ ns) lt = (lt, tt)

all-below : (schedule : List Line) (k : ℕ) → AllByRecursion (λ (one : OneLane). one.lane < k) (lanes_below schedule k)
all-below schedule zero = tt
all-below schedule (suc k) =
    all-append (λ (one : OneLane). one.lane < suc k) (lanes_below schedule k) (if_any k (lane_lines schedule k (numbers_below (length schedule))))
    (all-weaker (λ (one : OneLane). one.lane < k) (λ (one : OneLane). one.lane < suc k) (λ one lt. omega arith) (lanes_below schedule k) (all-below schedule k))
    (any-below k (suc k) (lane_lines schedule k (numbers_below (length schedule))) (omega arith))

any-own : (schedule : List Line) (lanes lane : ℕ) (lines : List ℕ) → HasRight lanes lane → lane < 16 → AllByRecursion (IsLineOf schedule lane) lines → AreOwn schedule lanes (if_any lane lines)
any-own schedule lanes lane [] one lt all = tt
any-own schedule lanes lane (n ∷ ns) one lt all = (one, lt, all, tt)

below-own : (schedule : List Line) (k : ℕ) → k ≤ 16 → AreOwn schedule all_rights (lanes_below schedule k)
below-own schedule zero le = tt
below-own schedule (suc k) le =
    own-append schedule all_rights (lanes_below schedule k) (if_any k (lane_lines schedule k (numbers_below (length schedule)))) (below-own schedule k (omega arith))
    (any-own schedule (left all_rights (lanes_below schedule k)) k (lane_lines schedule k (numbers_below (length schedule))) (left-has all_rights (lanes_below schedule k) k (all-below schedule k) (bit_at_ones 16 k (omega arith))) (omega arith) (all-lines schedule k (numbers_below (length schedule)) (all-small (length schedule))))

pub set_own : (schedule : List Line) → AreOwn schedule all_rights (lane_set schedule)
set_own schedule = below-own schedule 16 (omega arith)

-- the lines of a lane in the set
at-none : (xs : List OneLane) (lane : ℕ) → AllByRecursion (λ (one : OneLane). one.lane < lane) xs → (ys : List OneLane) → lines_at (xs ++ ys) lane ≡ lines_at ys lane
at-none [] lane h ys = refl
at-none (x ∷ xs) lane h ys = let lt = h.0 in cond-false (x.lane == lane) x.lines (lines_at (xs ++ ys) lane) (ne_eqb x.lane lane (λ e. absurd (omega arith))) ∙ at-none xs lane h.1 ys

any-at : (lane : ℕ) (lines : List ℕ) → lines_at (if_any lane lines) lane ≡ lines
any-at lane [] = refl
any-at lane (n ∷ ns) = cond-true (lane == lane) (n ∷ ns) [] (eq-eqb lane lane refl)

any-other : (lane other : ℕ) (lines : List ℕ) → (other ≡ lane → ⊥) → (xs : List OneLane) → lines_at (xs ++ if_any other lines) lane ≡ lines_at xs lane
any-other lane other [] ne [] = refl
any-other lane other (n ∷ ns) ne [] = cond-false (other == lane) (n ∷ ns) [] (ne_eqb other lane ne)
any-other lane other lines ne (x ∷ xs) = ap (λ (l : List ℕ). cond (x.lane == lane) x.lines l) (any-other lane other lines ne xs)

below-at : (schedule : List Line) (k lane : ℕ) → lane < k → lines_at (lanes_below schedule k) lane ≡ lane_lines schedule lane (numbers_below (length schedule))
below-at schedule zero lane lt = absurd (omega arith)
below-at schedule (suc k) lane lt =
    dite (ℕ_discrete lane k)
    (λ e. subst (λ (j : ℕ). lines_at (lanes_below schedule k ++ if_any k (lane_lines schedule k (numbers_below (length schedule)))) j ≡ lane_lines schedule j (numbers_below (length schedule))) (sym e)
    (at-none (lanes_below schedule k) k (all-below schedule k) (if_any k (lane_lines schedule k (numbers_below (length schedule)))) ∙ any-at k (lane_lines schedule k (numbers_below (length schedule)))))
    (λ ne. any-other lane k (lane_lines schedule k (numbers_below (length schedule))) (λ e. ne (sym e)) (lanes_below schedule k) ∙ below-at schedule k lane (omega arith))

pub set_at : (schedule : List Line) (lane : ℕ) → lane < 16 → lines_at (lane_set schedule) lane ≡ lane_lines schedule lane (numbers_below (length schedule))
set_at schedule lane lt = below-at schedule 16 lane lt

pub all_has : (lane : ℕ) → lane < 16 → HasRight all_rights lane
all_has lane lt = bit_at_ones 16 lane lt
