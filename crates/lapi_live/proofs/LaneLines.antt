-- The lanes of a schedule, and which worker's lines stand in two.
use Rattle.std.proofs.Common.{◌≡◌, ℕ, zero, suc, ◌+◌, ◌<◌, ◌≤◌, ◌==◌, ◌&&◌, Bool, true, false, cond, List, [], ◌∷◌, ◌++◌, length, Option, Some, None, refl, sym, ap, ◌∙◌, subst, arith, add-one}
use Rattle.std.specs.Prelude.{slice_get, option_map, unwrap_or, filter}
use Rattle.std.proofs.lemmas.Bool.{and_parts, and_from, eqb-true, eq-eqb, ne_eqb, false≢true, both_ways, false_from_ne_true}
use Rattle.std.proofs.lemmas.List.{append-nil}
use Rattle.std.proofs.lemmas.List.Elements.{filter-append}
use mathlib.Core.Logic.{dite}
use native.Mathlib.Decide.{ℕ_discrete}
use Rattle.lapi_base.specs.declared.schedule.Act.{Act}
use Rattle.lapi_base.specs.declared.schedule.Act.TheVariants.{Step, Poll, Tick, Deliver, Cut, Inject}
use Rattle.lapi_base.specs.declared.schedule.Line.{Line}
use Rattle.lapi_base.specs.Record.Below.{below}
use Rattle.lapi_base.specs.Record.Operations.{numbers_below}
use Rattle.lapi_base.specs.Record.WorldView.{act_at}
use Rattle.lapi_base.specs.Laws.Working.{works_at}
use Rattle.lapi_base.specs.Record.Lanes.{lane_of, lane_lines, is_work_of, WorkersKeepLanes, Clashes, IsFirstClash}
use Rattle.lapi_live.specs.declared.schedule_lanes.WorkerLane.{WorkerLane}
use Rattle.lapi_live.specs.Lanes.{worker_of, lane_known, IsLaneBelow, AreKnown}

pub lane_is : (schedule : List Line) (n : ℕ) (line : Line) → slice_get schedule n ≡ Some line → lane_of schedule n ≡ line.lane
lane_is schedule n line at = ap (λ (o : Option Line). unwrap_or (option_map (λ (l : Line). l.lane) o) 0) at

pub worker_is : (schedule : List Line) (n : ℕ) (line : Line) (t w : ℕ) → slice_get schedule n ≡ Some line → is_work_of schedule t w n ≡ works_at t w line.act
worker_is schedule n line t w at = ap (λ (o : Option Line). unwrap_or (option_map (works_at t w) (option_map (λ (l : Line). l.act) o)) false) at

-- the lines of a lane among the first lines
pub no_lines : (schedule : List Line) (lane : ℕ) → [] ≡ lane_lines schedule lane (numbers_below 0)
unfolding numbers_below below
no_lines schedule lane = refl

pub more_lines : (schedule : List Line) (lane n : ℕ) (line : Line) → slice_get schedule n ≡ Some line → lane_lines schedule lane (numbers_below (suc n)) ≡ lane_lines schedule lane (numbers_below n) ++ cond (line.lane == lane) (n ∷ []) []
unfolding numbers_below below
more_lines schedule lane n line at =
    let p = λ (k : ℕ). lane_of schedule k == lane in
    let front : List ℕ = below n (λ _. true) in
    filter-append p front (n ∷ []) ∙ ap (λ (k : ℕ). filter p front ++ cond (k == lane) (n ∷ []) []) (lane_is schedule n line at)

-- the lines after one more line: they were pushed where the line is of the lane
pub pushed : (schedule : List Line) (lane n : ℕ) (line : Line) (old new : List ℕ) → slice_get schedule n ≡ Some line → old ≡ lane_lines schedule lane (numbers_below n) → new ≡ old ++ n ∷ [] → line.lane ≡ lane → new ≡ lane_lines schedule lane (numbers_below (n + 1))
pushed schedule lane n line old new at was is here =
    is ∙ ap (λ (l : List ℕ). l ++ n ∷ []) was ∙ ap (λ (b : Bool). lane_lines schedule lane (numbers_below n) ++ cond b (n ∷ []) []) (sym (eq-eqb line.lane lane here)) ∙ sym (more_lines schedule lane n line at) ∙ ap (λ (m : ℕ). lane_lines schedule lane (numbers_below m)) (sym (add-one n))

pub passed : (schedule : List Line) (lane n : ℕ) (line : Line) (old new : List ℕ) → slice_get schedule n ≡ Some line → old ≡ lane_lines schedule lane (numbers_below n) → new ≡ old → (line.lane ≡ lane → ⊥) → new ≡ lane_lines schedule lane (numbers_below (n + 1))
passed schedule lane n line old new at was is apart =
    is ∙ was ∙ sym (append-nil (lane_lines schedule lane (numbers_below n))) ∙ ap (λ (b : Bool). lane_lines schedule lane (numbers_below n) ++ cond b (n ∷ []) []) (sym (ne_eqb line.lane lane apart)) ∙ sym (more_lines schedule lane n line at) ∙ ap (λ (m : ℕ). lane_lines schedule lane (numbers_below m)) (sym (add-one n))

-- the worker of a line
of-worker : (act : Act) (t w : ℕ) → works_at t w act ≡ true → worker_of act ≡ Some (t, w)
of-worker (Act.Begin a v) t w e = let p = and_parts (a == t) (v == w) e in ap (λ (x : ℕ). Some (x, v)) (eqb-true a t p.0) ∙ ap (λ (y : ℕ). Some (t, y)) (eqb-true v w p.1)
of-worker (Act.End a v) t w e = let p = and_parts (a == t) (v == w) e in ap (λ (x : ℕ). Some (x, v)) (eqb-true a t p.0) ∙ ap (λ (y : ℕ). Some (t, y)) (eqb-true v w p.1)
of-worker (Step a) t w e = absurd (false≢true e)
of-worker (Poll a) t w e = absurd (false≢true e)
of-worker (Tick a) t w e = absurd (false≢true e)
of-worker (Deliver a b k) t w e = absurd (false≢true e)
of-worker (Cut a b k n) t w e = absurd (false≢true e)
of-worker (Inject a b bytes) t w e = absurd (false≢true e)

task_is : (p q : ℕ × ℕ) → Some p ≡ Some q → (p.0 ≡ q.0) × (p.1 ≡ q.1)
task_is p q e = (ap (λ (o : Option (ℕ × ℕ)). (unwrap_or o (0, 0)).0) e, ap (λ (o : Option (ℕ × ℕ)). (unwrap_or o (0, 0)).1) e)

same-at : (a v t w : ℕ) → (a ≡ t) × (v ≡ w) → (a == t && v == w) ≡ true
same-at a v t w e = and_from (a == t) (v == w) (eq-eqb a t e.0) (eq-eqb v w e.1)

is-worker : (act : Act) (t w : ℕ) → worker_of act ≡ Some (t, w) → works_at t w act ≡ true
is-worker (Act.Begin a v) t w e = same-at a v t w (task_is (a, v) (t, w) e)
is-worker (Act.End a v) t w e = same-at a v t w (task_is (a, v) (t, w) e)
is-worker (Step a) t w e = absurd (cc)
is-worker (Poll a) t w e = absurd (cc)
is-worker (Tick a) t w e = absurd (cc)
is-worker (Deliver a b k) t w e = absurd (cc)
is-worker (Cut a b k n) t w e = absurd (cc)
is-worker (Inject a b bytes) t w e = absurd (cc)

work-there : (t w : ℕ) (o : Option Act) (schedule : List Line) (n : ℕ) → act_at schedule n ≡ o → unwrap_or (option_map (works_at t w) o) false ≡ true → n < length schedule
work-there t w o [] n at e = let none : o ≡ None = sym at in absurd (both_ways _ (ap (λ (x : Option Act). unwrap_or (option_map (works_at t w) x) false) none) e)
work-there t w o (l ∷ ls) zero at e = omega arith
work-there t w o (l ∷ ls) (suc n) at e = let q = work-there t w o ls n at e in omega arith

-- where the lanes of workers are known, no line clashes
lanes-same : (schedule : List Line) (n t w : ℕ) (o : Option ℕ) → IsLaneBelow schedule n t w o → (i k : ℕ) → i < n → k < n → is_work_of schedule t w i ≡ true → is_work_of schedule t w k ≡ true → lane_of schedule i ≡ lane_of schedule k
lanes-same schedule n t w None h i k li lk first second = absurd (false≢true (sym (h i li) ∙ first))
lanes-same schedule n t w (Some lane) h i k li lk first second = h.0 i li first ∙ sym (h.0 k lk second)

no_clash : (schedule : List Line) (n : ℕ) (known : List WorkerLane) → AreKnown schedule n known → (t w k : ℕ) → k < n → Clashes schedule t w k → ⊥
no_clash schedule n known h t w k lt c = let earlier = c.2 in c.4 (lanes-same schedule n t w (lane_known known t w) (h t w) c.1 k (omega arith) lt c.3 c.0)

pub keep_lanes : (schedule : List Line) (end : ℕ) (known : List WorkerLane) → length schedule ≤ end → AreKnown schedule end known → WorkersKeepLanes schedule
keep_lanes schedule end known all h t w n k first second =
    let there = work-there t w (act_at schedule n) schedule n refl first in
    let there' = work-there t w (act_at schedule k) schedule k refl second in
    lanes-same schedule end t w (lane_known known t w) (h t w) n k (omega arith) (omega arith) first second

-- What is known of the workers after the first lines.
no-work : (schedule : List Line) (n : ℕ) (line : Line) → slice_get schedule n ≡ Some line → worker_of line.act ≡ None → (t w : ℕ) → is_work_of schedule t w n ≡ false
no-work schedule n line at free t w = worker_is schedule n line t w at ∙ false_from_ne_true (works_at t w line.act) (λ yes. let some = of-worker line.act t w yes in absurd (cc))

module _ (schedule : List Line) (n t w : ℕ) where
  -- a line of another worker
  stays : (o : Option ℕ) → is_work_of schedule t w n ≡ false → IsLaneBelow schedule n t w o → IsLaneBelow schedule (n + 1) t w o
  stays None other h = λ k lt. dite (ℕ_discrete k n) (λ e. ap (is_work_of schedule t w) e ∙ other) (λ ne. h k (omega arith))
  stays (Some lane) other h = (
    λ k lt yes. dite (ℕ_discrete k n) (λ e. absurd (false≢true (sym other ∙ (ap (is_work_of schedule t w) (sym e) ∙ yes)))) (λ ne. h.0 k (omega arith) yes),
    h.1,
    (let lt = h.2 in omega arith),
    h.3,
  )

  -- a line of this worker, in the lane that is known, and the first one
  again : (lane : ℕ) → lane_of schedule n ≡ lane → IsLaneBelow schedule n t w (Some lane) → IsLaneBelow schedule (n + 1) t w (Some lane)
  again lane is h = (
    λ k lt yes. dite (ℕ_discrete k n) (λ e. ap (lane_of schedule) e ∙ is) (λ ne. h.0 k (omega arith) yes),
    h.1,
    (let lt = h.2 in omega arith),
    h.3,
  )

  first : (lane : ℕ) → lane_of schedule n ≡ lane → is_work_of schedule t w n ≡ true → IsLaneBelow schedule n t w None → IsLaneBelow schedule (n + 1) t w (Some lane)
  first lane is ours h = (
    λ k lt yes. dite (ℕ_discrete k n) (λ e. ap (lane_of schedule) e ∙ is) (λ ne. absurd (false≢true (sym (h k (omega arith)) ∙ yes))),
    n,
    omega arith,
    ours,
  )

-- the lane of a worker once another is added
either_lane : Option ℕ → Option ℕ → Option ℕ
either_lane None o = o
either_lane (Some lane) o = Some lane

either-none : (o : Option ℕ) → either_lane o None ≡ o
unfolding either_lane
either-none None = refl
either-none (Some lane) = refl

found-more : (known : List WorkerLane) (e : WorkerLane) (t w : ℕ) → lane_known (known ++ e ∷ []) t w ≡ either_lane (lane_known known t w) (lane_known (e ∷ []) t w)
unfolding either_lane
found-more [] e t w = refl
found-more (k ∷ ks) e t w =
    elim (k.task == t && k.worker == w) as (λ b. cond b (Some k.lane) (lane_known (ks ++ e ∷ []) t w) ≡ either_lane (cond b (Some k.lane) (lane_known ks t w)) (lane_known (e ∷ []) t w)) [
      | true ↦ refl
      | false ↦ found-more ks e t w
    ]

pub none_known : (schedule : List Line) → AreKnown schedule 0 []
none_known schedule = λ t w k lt. absurd (omega arith)

module _ (schedule : List Line) (n : ℕ) (line : Line) (at : slice_get schedule n ≡ Some line) (known : List WorkerLane) (h : AreKnown schedule n known) where
  pub no_worker_known : worker_of line.act ≡ None → AreKnown schedule (n + 1) known
  no_worker_known free = λ t w. stays schedule n t w (lane_known known t w) (no-work schedule n line at free t w) (h t w)

  module _ (t0 w0 : ℕ) (worker : worker_of line.act ≡ Some (t0, w0)) where
    ours : is_work_of schedule t0 w0 n ≡ true
    ours = worker_is schedule n line t0 w0 at ∙ is-worker line.act t0 w0 worker

    -- a worker is that of the line, or another
    each-worker : (P : (t w : ℕ) → Type 0) → P t0 w0 → ((t w : ℕ) → is_work_of schedule t w n ≡ false → (t0 == t && w0 == w) ≡ false → P t w) → (t w : ℕ) → P t w
    each-worker P here there t w =
        elim (t0 == t && w0 == w) as (λ b. (t0 == t && w0 == w) ≡ b → P t w) [
          | true ↦ λ e. let p = and_parts (t0 == t) (w0 == w) e in subst (λ v. P t v) (eqb-true w0 w p.1) (subst (λ a. P a w0) (eqb-true t0 t p.0) here)
          | false ↦ λ e.
              there t w
              (worker_is schedule n line t w at ∙ false_from_ne_true (works_at t w line.act) (λ yes.
              let same = task_is (t0, w0) (t, w) (sym worker ∙ of-worker line.act t w yes) in
              false≢true (sym e ∙ and_from (t0 == t) (w0 == w) (eq-eqb t0 t same.0) (eq-eqb w0 w same.1))))
              e
        ] refl

    pub same_lane_known : (lane : ℕ) → lane_known known t0 w0 ≡ Some lane → lane ≡ line.lane → AreKnown schedule (n + 1) known
    same_lane_known lane found is =
        each-worker (λ t w. IsLaneBelow schedule (n + 1) t w (lane_known known t w))
        (subst (IsLaneBelow schedule (n + 1) t0 w0) (sym found) (again schedule n t0 w0 lane (lane_is schedule n line at ∙ sym is) (subst (IsLaneBelow schedule n t0 w0) found (h t0 w0))))
        (λ t w other _. stays schedule n t w (lane_known known t w) other (h t w))

    pub new_lane_known : (e : WorkerLane) → e ≡ record { task = t0; worker = w0; lane = line.lane } → lane_known known t0 w0 ≡ None → AreKnown schedule (n + 1) (known ++ e ∷ [])
    unfolding either_lane
    new_lane_known e is unknown =
        let only : (t w : ℕ) → lane_known (e ∷ []) t w ≡ cond (t0 == t && w0 == w) (Some line.lane) None = λ t w. ap (λ (x : WorkerLane). lane_known (x ∷ []) t w) is in
        each-worker (λ t w. IsLaneBelow schedule (n + 1) t w (lane_known (known ++ e ∷ []) t w))
        (subst (IsLaneBelow schedule (n + 1) t0 w0)
        (sym (found-more known e t0 w0 ∙ ap (λ o. either_lane o (lane_known (e ∷ []) t0 w0)) unknown ∙ only t0 w0 ∙ ap (λ b. cond b (Some line.lane) None) (and_from (t0 == t0) (w0 == w0) (eq-eqb t0 t0 refl) (eq-eqb w0 w0 refl))))
        (first schedule n t0 w0 line.lane (lane_is schedule n line at) ours (subst (IsLaneBelow schedule n t0 w0) unknown (h t0 w0))))
        (λ t w other apart.
        subst (IsLaneBelow schedule (n + 1) t w) (sym (found-more known e t w ∙ ap (either_lane (lane_known known t w)) (only t w ∙ ap (λ b. cond b (Some line.lane) None) apart) ∙ either-none (lane_known known t w)))
        (stays schedule n t w (lane_known known t w) other (h t w)))

    pub clash_known : (lane : ℕ) → lane_known known t0 w0 ≡ Some lane → (lane ≡ line.lane → ⊥) → IsFirstClash schedule t0 w0 n
    clash_known lane found apart =
        let before = subst (IsLaneBelow schedule n t0 w0) found (h t0 w0) in
        record {
          known = work-there t0 w0 (act_at schedule n) schedule n refl ours;
          clashes = (ours, before.1, before.2, before.3, λ same. apart (sym (before.0 before.1 before.2 before.3) ∙ same ∙ lane_is schedule n line at));
          first = λ u v k lt c. no_clash schedule n known h u v k lt c;
        }
