-- Lines that are taken lane by lane are an interleaving of the lanes.
use Rattle.std.proofs.Common.{◌≡◌, ℕ, zero, suc, ◌+◌, ◌<◌, ◌≤◌, ◌==◌, Bool, true, false, cond, List, [], ◌∷◌, ◌++◌, length, Option, Some, None, refl, sym, ap, ◌∙◌, subst, ⊎_elim, arith}
use Rattle.std.specs.Prelude.{filter, nat_lt, slice_get, option_map, unwrap_or}
use Rattle.std.specs.List.{AllByRecursion}
use Rattle.std.proofs.lemmas.Bool.{eq-eqb, ne_eqb, lt-ltb, le-ltb, ltb-true, ltb-false, cases_lt}
use Rattle.std.proofs.lemmas.List.Elements.{filter-append}
use Rattle.std.proofs.lemmas.List.{length-append}
use mathlib.Core.Logic.{dite}
use native.Mathlib.Decide.{ℕ_discrete}
use Rattle.lapi_base.specs.declared.schedule.Line.{Line}
use Rattle.lapi_base.specs.declared.script.Script.{Script}
use Rattle.lapi_base.specs.Packet.Spelling.{spells_packet}
use Rattle.lapi_base.specs.Record.Below.{below}
use Rattle.lapi_base.specs.Record.Lanes.{Rises, lane_of, lane_lines, IsInterleaving}
use Rattle.lapi_base.specs.Record.Operations.{numbers_below}
use Rattle.lapi_base.specs.Record.Valid.{ValidLine, ValidSchedule}
use Rattle.lapi_base.proofs.ListLaws.{all-get, all-weaker, all-filter, all-append}
use Rattle.lapi_live.specs.Lanes.{lines_of_lane}
use Rattle.lapi_live.proofs.LaneSets.{all-small}
use Rattle.lapi_live.proofs.OwnLanes.{filter-none}

-- how often a number stands in a list
abbrev count : ℕ → List ℕ → ℕ
count n xs = length (filter (λ k. k == n) xs)

count-one : (n m : ℕ) → count n (m ∷ []) ≡ cond (m == n) 1 0
count-one n m = elim (m == n) as (λ b. length (cond b (m ∷ []) []) ≡ cond b 1 0) [ true ↦ refl | false ↦ refl ]

count-push : (n m : ℕ) (xs : List ℕ) → count n (xs ++ m ∷ []) ≡ count n xs + cond (m == n) 1 0
count-push n m xs = ap length (filter-append (λ k. k == n) xs (m ∷ [])) ∙ length-append (filter (λ k. k == n) xs) (filter (λ k. k == n) (m ∷ [])) ∙ ap (λ (c : ℕ). count n xs + c) (count-one n m)

lt-is : (n m : ℕ) → n < m → nat_lt n m ≡ true
lt-is n m lt = lt-ltb n m lt

ge-is : (n m : ℕ) → m ≤ n → nat_lt n m ≡ false
ge-is n m le = le-ltb n m le

-- each number below a bound stands once among them
below-once : (n m : ℕ) → count n (numbers_below m) ≡ cond (nat_lt n m) 1 0
unfolding numbers_below below
below-once n zero = sym (ap (λ b. cond b 1 0) (ge-is n 0 (omega arith)))
below-once n (suc m) =
    count-push n m (below m (λ _. true))
    ∙ ap (λ (c : ℕ). c + cond (m == n) 1 0) (below-once n m)
    ∙ dite (ℕ_discrete m n)
    (λ e. ap (λ b. cond b 1 0 + cond (m == n) 1 0) (ge-is n m (omega arith)) ∙ ap (λ b. 0 + cond b 1 0) (eq-eqb m n e) ∙ sym (ap (λ b. cond b 1 0) (lt-is n (suc m) (omega arith))))
    (λ ne. ap (λ b. cond (nat_lt n m) 1 0 + cond b 1 0) (ne_eqb m n ne) ∙ none-more (nat_lt n m) refl ne)
  where
    none-more : (b : Bool) → nat_lt n m ≡ b → (m ≡ n → ⊥) → cond b 1 0 + 0 ≡ cond (nat_lt n (suc m)) 1 0
    none-more true e ne = sym (ap (λ c. cond c 1 0) (lt-is n (suc m) (let lt = ltb-true n m e in omega arith)))
    none-more false e ne = sym (ap (λ c. cond c 1 0) (ge-is n (suc m) (let le = ltb-false n m e in omega arith)))

-- it does so among the lines of its own lane
count-lane : (schedule : List Line) (n : ℕ) (xs : List ℕ) → count n (lane_lines schedule (lane_of schedule n) xs) ≡ count n xs
count-lane schedule n [] = refl
count-lane schedule n (x ∷ xs) =
    dite (ℕ_discrete x n)
    (λ e.
    ap (λ b. count n (cond b (x ∷ lane_lines schedule (lane_of schedule n) xs) (lane_lines schedule (lane_of schedule n) xs))) (eq-eqb _ _ (ap (lane_of schedule) e))
    ∙ ap (λ b. length (cond b (x ∷ filter (λ k. k == n) (lane_lines schedule (lane_of schedule n) xs)) (filter (λ k. k == n) (lane_lines schedule (lane_of schedule n) xs)))) (eq-eqb x n e)
    ∙ ap suc (count-lane schedule n xs)
    ∙ sym (ap (λ b. length (cond b (x ∷ filter (λ k. k == n) xs) (filter (λ k. k == n) xs))) (eq-eqb x n e)))
    (λ ne. skip (lane_of schedule x == lane_of schedule n) ne ∙ count-lane schedule n xs ∙ sym (ap (λ b. length (cond b (x ∷ filter (λ k. k == n) xs) (filter (λ k. k == n) xs))) (ne_eqb x n ne)))
  where
    skip : (b : Bool) → (x ≡ n → ⊥) → count n (cond b (x ∷ lane_lines schedule (lane_of schedule n) xs) (lane_lines schedule (lane_of schedule n) xs)) ≡ count n (lane_lines schedule (lane_of schedule n) xs)
    skip true ne = ap (λ b. length (cond b (x ∷ filter (λ k. k == n) (lane_lines schedule (lane_of schedule n) xs)) (filter (λ k. k == n) (lane_lines schedule (lane_of schedule n) xs)))) (ne_eqb x n ne)
    skip false ne = refl

-- the numbers below a bound rise, and so do some of them
rises-push : (xs : List ℕ) (m : ℕ) → Rises xs → AllByRecursion (λ k. k < m) xs → Rises (xs ++ m ∷ [])
rises-push [] m r small = (tt, tt)
rises-push (x ∷ xs) m r small = (all-append (λ k. x < k) xs (m ∷ []) r.0 (small.0, tt), rises-push xs m r.1 small.1)

rises-below : (m : ℕ) → Rises (numbers_below m)
unfolding numbers_below below
rises-below zero = tt
rises-below (suc m) = rises-push (below m (λ _. true)) m (rises-below m) (all-small m)

rises-filter : (p : ℕ → Bool) (xs : List ℕ) → Rises xs → Rises (filter p xs)
rises-filter p [] r = tt
rises-filter p (x ∷ xs) r =
    elim (p x) as (λ b. Rises (cond b (x ∷ filter p xs) (filter p xs))) [
      | true ↦ (all-weaker (λ k. (x < k) × (p k ≡ true)) (λ k. x < k) (λ k h. h.0) (filter p xs) (all-filter (λ k. x < k) p xs r.0), rises-filter p xs r.1)
      | false ↦ rises-filter p xs r.1
    ]

-- lanes of a valid schedule are below 16
lane-small : (script : Script) (schedule : List Line) (n : ℕ) (o : Option Line) → ValidSchedule script spells_packet schedule → slice_get schedule n ≡ o → unwrap_or (option_map (λ (line : Line). line.lane) o) 0 < 16
lane-small script schedule n None valid at = omega arith
lane-small script schedule n (Some line) valid at = let le : line.lane ≤ 15 = (all-get (ValidLine script spells_packet) schedule n line valid.lines at).0 in omega arith

no-lane : (schedule : List Line) (lane : ℕ) (xs : List ℕ) → ((n : ℕ) → lane_of schedule n < 16) → (lane < 16 → ⊥) → AllByRecursion (λ n. (lane_of schedule n == lane) ≡ false) xs
no-lane schedule lane [] small past = tt
no-lane schedule lane (x ∷ xs) small past = (ne_eqb (lane_of schedule x) lane (λ e. past (subst (λ l. l < 16) e (small x))), no-lane schedule lane xs small past)

pub interleaved : (script : Script) (schedule : List Line) (taken : List ℕ) → ValidSchedule script spells_packet schedule → ((lane : ℕ) → lane < 16 → lane_lines schedule lane taken ≡ lines_of_lane schedule lane) → IsInterleaving schedule taken
interleaved script schedule taken valid each =
    let small : (n : ℕ) → lane_of schedule n < 16 = λ n. lane-small script schedule n (slice_get schedule n) valid refl in
    record {
      once = λ n. sym (count-lane schedule n taken) ∙ ap (count n) (each (lane_of schedule n) (small n)) ∙ count-lane schedule n (numbers_below (length schedule)) ∙ below-once n (length schedule);
      in_order = λ lane. ⊎_elim
          (λ lt. subst Rises (sym (each lane lt)) (rises-filter (λ n. lane_of schedule n == lane) (numbers_below (length schedule)) (rises-below (length schedule))))
          (λ past. subst Rises (sym (filter-none (λ n. lane_of schedule n == lane) taken (no-lane schedule lane taken small (λ lt. absurd (omega arith))))) tt)
          (cases_lt lane 16);
    }
