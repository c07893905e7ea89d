-- A plan's lines are told by how many numbers each Poll adds.
use Rattle.std.proofs.Common.{◌≡◌, ◌⊎◌, ℕ, zero, suc, ◌+◌, ◌-◌, ◌*◌, ◌<◌, ◌≤◌, ◌==◌, Bool, true, false, cond, ◌&&◌, not, List, [], ◌∷◌, ◌++◌, length, get_or, Some, refl, sym, ap, ◌∙◌, subst, ⊎_elim, inl, inr, arith}
use Rattle.std.specs.Prelude.{nat_lt, slice_get, is_some, unwrap_or, filter}
use Rattle.std.proofs.lemmas.Bool.{false≢true, and_parts, and_from, both_ways, eqb-true, eq-eqb, cases_lt, lt-ltb}
use Rattle.std.proofs.lemmas.List.{get_or-map, length-map}
use Rattle.lapi_base.specs.declared.rule.Rules.{Rules}
use Rattle.lapi_base.specs.declared.statement.Statement.TheVariants.{Fence}
use Rattle.lapi_base.specs.declared.message.Leg.{Leg}
use Rattle.lapi_base.specs.declared.message.Leg.TheVariants.{Go, Back, Note, Echo, Join}
use Rattle.lapi_base.specs.declared.message.MsgName.{MsgName}
use Rattle.lapi_base.specs.Packet.Layout.{First, unit, unit_of}
use Rattle.lapi_base.specs.Packet.Spelling.{refusal}
use Rattle.lapi_base.specs.Packet.PacketBytes.{packet_size}
use Rattle.lapi_base.specs.Record.Below.{below}
use Rattle.lapi_base.specs.Record.Fragments.{fragments_in}
use Rattle.lapi_base.specs.Record.Handlers.{answers}
use Rattle.lapi_base.specs.Record.Names.{message}
use Rattle.lapi_base.specs.Record.Operations.{statement, target_of, sender, receiver, is_data, has_back, has_join, has_leg, cmpl_counter, length_by, message_length, fragment_count}
use Rattle.lapi_base.specs.Record.Wires.{Run, start}
use Rattle.lapi_base.specs.Record.Acts.{after}
use Rattle.lapi_base.proofs.ListLaws.{get-some}
use Rattle.lapi_laws.proofs.Follows.{after-owes}
use Rattle.lapi_laws.proofs.Still.{back-data}
use Rattle.lapi_laws.proofs.Turns.{below-place}
use Rattle.lapi_epochs.specs.Epochs.{Has}
use Rattle.lapi_flush.specs.Rounds.{In, round_acts}
use Rattle.lapi_flush.specs.Counted.{counts_of, sweeps_counts, counted_round}
use Rattle.lapi_flush.proofs.NoneOwed.{after-paid}
use Rattle.lapi_flush.proofs.FlushedTasks.{after-join}
use Rattle.lapi_flush.proofs.ExactLinks.{Distinct}
use Rattle.lapi_flush.proofs.CountedSweeps.{Agree}
use Rattle.lapi_flush.proofs.CountedRounds.{stage, staged, InRound, HasLinks, counted-round}
use Rattle.lapi_blocks.specs.declared.plan.Op.{Op}
use Rattle.lapi_blocks.specs.declared.plan.Op.TheVariants.{Set, Get}
use Rattle.lapi_blocks.specs.declared.plan.Plan.{Plan}
use Rattle.lapi_blocks.specs.declared.patch.Patch.{Patch}
use Rattle.lapi_blocks.specs.Plans.{ValidPlan, patch_of, tasks_of, part_of, is_nonempty, moves, owners, own_statements, op_statements, compiled}
use Rattle.lapi_blocks.specs.PlanRuns.{op_begin, op_fence, plan_acts}
use Rattle.lapi_blocks.specs.PlanCounts.{call_numbers, answer_numbers, going, coming, joining, added_by, added, plan_counts, counted_acts, PlansAreCounted}
use Rattle.lapi_blocks.proofs.CompiledStatements.{is_set, nth-of_get, body-own, own-there, round-length, count}
use Rattle.lapi_blocks.proofs.ArrayStages.{back, within}
use Rattle.lapi_blocks.proofs.NeverRefused.{stride-total}
use Rattle.lapi_blocks.proofs.PlanLines.{moves-target, before_moves, move_place, data-place, no-notes, no-answers, calls-are, call-no_join, plan-fenced, start-owes, start-paid, all-rounds}

-- ---- at most three messages on a link

module _ (x y z : Bool) (g b j : MsgName) where
  three : List MsgName
  three = cond x (g ∷ []) [] ++ (cond y (b ∷ []) [] ++ cond z (j ∷ []) [])

three-distinct : (x y z : Bool) (g b j : MsgName) → (b ≡ g → ⊥) → (j ≡ g → ⊥) → (j ≡ b → ⊥) → Distinct (three x y z g b j)
unfolding three
three-distinct true true true g b j h i k = (λ w. ⊎_elim h (λ v. ⊎_elim i (λ e. e) v) w, (λ w. ⊎_elim k (λ e. e) w, (λ e. e, tt)))
three-distinct true true false g b j h i k = (λ w. ⊎_elim h (λ e. e) w, (λ e. e, tt))
three-distinct true false true g b j h i k = (λ w. ⊎_elim i (λ e. e) w, (λ e. e, tt))
three-distinct true false false g b j h i k = (λ e. e, tt)
three-distinct false true true g b j h i k = (λ w. ⊎_elim k (λ e. e) w, (λ e. e, tt))
three-distinct false true false g b j h i k = (λ e. e, tt)
three-distinct false false true g b j h i k = (λ e. e, tt)
three-distinct false false false g b j h i k = tt

abbrev Which : (x y z : Bool) (g b j m : MsgName) → Type 0
Which x y z g b j m = ((x ≡ true) × (g ≡ m)) ⊎ (((y ≡ true) × (b ≡ m)) ⊎ ((z ≡ true) × (j ≡ m)))

three-which : (x y z : Bool) (g b j m : MsgName) → In (three x y z g b j) m → Which x y z g b j m
unfolding three
three-which true y z g b j m w = ⊎_elim (λ (e : g ≡ m). inl (refl, e)) (λ v. inr (later y z v)) w
  where
    later : (y z : Bool) → In (cond y (b ∷ []) [] ++ cond z (j ∷ []) []) m → ((y ≡ true) × (b ≡ m)) ⊎ ((z ≡ true) × (j ≡ m))
    later true true v = ⊎_elim (λ (e : b ≡ m). inl (refl, e)) (λ u. ⊎_elim (λ (e : j ≡ m). inr (refl, e)) (λ (e : ⊥). absurd e) u) v
    later true false v = ⊎_elim (λ (e : b ≡ m). inl (refl, e)) (λ (e : ⊥). absurd e) v
    later false true v = ⊎_elim (λ (e : j ≡ m). inr (refl, e)) (λ (e : ⊥). absurd e) v
    later false false v = absurd v
three-which false true z g b j m w = ⊎_elim (λ (e : b ≡ m). inr (inl (refl, e))) (λ v. inr (inr (last z v))) w
  where
    last : (z : Bool) → In (cond z (j ∷ []) []) m → (z ≡ true) × (j ≡ m)
    last true v = ⊎_elim (λ (e : j ≡ m). (refl, e)) (λ (e : ⊥). absurd e) v
    last false v = absurd v
three-which false false true g b j m w = ⊎_elim (λ (e : j ≡ m). inr (inr (refl, e))) (λ (e : ⊥). absurd e) w
three-which false false false g b j m w = absurd w

three-first : (x y z : Bool) (g b j : MsgName) → x ≡ true → In (three x y z g b j) g
unfolding three
three-first true y z g b j h = inl refl
three-first false y z g b j h = absurd (false≢true h)

three-second : (x y z : Bool) (g b j : MsgName) → y ≡ true → In (three x y z g b j) b
unfolding three
three-second true true z g b j h = inr (inl refl)
three-second false true z g b j h = inl refl
three-second x false z g b j h = absurd (false≢true h)

three-third : (x y z : Bool) (g b j : MsgName) → z ≡ true → In (three x y z g b j) j
unfolding three
three-third true true true g b j h = inr (inr (inl refl))
three-third true false true g b j h = inr (inl refl)
three-third false true true g b j h = inr (inl refl)
three-third false false true g b j h = inl refl
three-third x y false g b j h = absurd (false≢true h)

module _ (plan : Plan) (valid : ValidPlan plan) (rules : Rules) where
  three-staged : (s t : ℕ) (x y z : Bool) (g b j : MsgName) → staged (compiled plan) rules s t (three x y z g b j)
      ≡ cond x (cond (stage s t g.origin g.leg) (fragment_count (compiled plan) g) 0) 0
      + (cond y (cond (stage s t b.origin b.leg) (fragment_count (compiled plan) b) 0) 0
      + cond z (cond (stage s t j.origin j.leg) (fragment_count (compiled plan) j) 0) 0)
  unfolding three staged
  three-staged s t true true true g b j = omega arith
  three-staged s t true true false g b j = omega arith
  three-staged s t true false true g b j = omega arith
  three-staged s t true false false g b j = omega arith
  three-staged s t false true true g b j = omega arith
  three-staged s t false true false g b j = omega arith
  three-staged s t false false true g b j = omega arith
  three-staged s t false false false g b j = omega arith

  -- ---- the move of a part stands at its place

  own-place : (k : ℕ) (op : Op) (j : ℕ) → j < length (owners plan (patch_of op)) → (before_moves op + j < length (own_statements plan k op)) × (get_or (own_statements plan k op) (before_moves op + j) Fence ≡ moves plan k op (part_of plan (patch_of op) (get_or (owners plan (patch_of op)) j 0)))
  unfolding before_moves
  own-place k (Set task row col rows cols values) j l =
      let op = Set task row col rows cols values in
      let f = λ (t : ℕ). moves plan k op (part_of plan (patch_of op) t) in
      let len = length-map (owners plan (patch_of op)) f in
      let e : 1 + j ≡ suc j = omega arith in
      (omega arith, ap (λ n. get_or (own_statements plan k op) n Fence) e ∙ get_or-map f (owners plan (patch_of op)) j 0 Fence l)
  own-place k (Get task row col rows cols) j l =
      let op = Get task row col rows cols in
      let f = λ (t : ℕ). moves plan k op (part_of plan (patch_of op) t) in
      let len = length-map (owners plan (patch_of op)) f in
      let e : 0 + j ≡ j = omega arith in
      (omega arith, ap (λ n. get_or (own_statements plan k op) n Fence) e ∙ get_or-map f (owners plan (patch_of op)) j 0 Fence l)

  abbrev IsMove : (k : ℕ) → Op → (w : ℕ) → Type 0
  IsMove k op w =
      let t = (patch_of op).task in
      let i = move_place plan valid rules k op w in
      Has (compiled plan) t i × (op_begin plan k t ≤ i) × (i < op_fence plan k t) × (statement (compiled plan) t i ≡ moves plan k op (part_of plan (patch_of op) w))

  is-move : (k : ℕ) (op : Op) (w : ℕ) → slice_get plan.ops k ≡ Some op → w < tasks_of plan → is_nonempty (part_of plan (patch_of op) w) ≡ true → IsMove k op w
  unfolding move_place owners
  is-move k op w e lw some =
      let t = (patch_of op).task in
      let lt = (within plan valid k op e).task in
      let test = λ (x : ℕ). is_nonempty (part_of plan (patch_of op) x) in
      let j = length (filter (λ x. nat_lt x w) (owners plan (patch_of op))) in
      let r = nth-of_get (below (tasks_of plan) test) j 0 w (below-place (tasks_of plan) test w lw some) in
      let o = own-place k op j r.1 in
      let h = own-there plan k (before_moves op + j) op e lt o.0 in
      let len = ap length (body-own plan k t op e refl) in
      let lo = o.0 in
      (h.0, omega arith, omega arith, h.2 ∙ o.1 ∙ ap (λ x. moves plan k op (part_of plan (patch_of op) x)) r.0)

  -- ---- the messages of operation k on a link

  has_go : Op → (a b : ℕ) → Bool
  has_go op a b = a == (patch_of op).task && is_nonempty (part_of plan (patch_of op) b)

  has_answer : Op → (a b : ℕ) → Bool
  has_answer op a b = not (is_set op) && (b == (patch_of op).task && is_nonempty (part_of plan (patch_of op) a))

  go_of : (k : ℕ) → Op → (b : ℕ) → MsgName
  go_of k op b = message (patch_of op).task (move_place plan valid rules k op b) Go

  back_of : (k : ℕ) → Op → (a : ℕ) → MsgName
  back_of k op a = message (patch_of op).task (move_place plan valid rules k op a) Back

  join_of : (k a b : ℕ) → MsgName
  join_of k a b = message a (op_fence plan k a) (Join b)

  plan_links : (k : ℕ) → Op → (a b : ℕ) → List MsgName
  plan_links k op a b = three (has_go op a b) (has_answer op a b) (not (b == a)) (go_of k op b) (back_of k op a) (join_of k a b)

  -- ---- how many numbers they have

  long-fragments : (m : MsgName) (n : ℕ) → length_by m.leg (statement (compiled plan) m.origin m.statement) ≡ n → fragment_count (compiled plan) m ≡ fragments_in (unit First) n
  unfolding fragment_count message_length unit_of
  long-fragments m n e = ap (λ x. fragments_in (unit First) x) e

  words : (rows cols : ℕ) → rows * (4 * cols) ≡ 4 * (rows * cols)
  words rows cols = grind arith

  go-long : (k : ℕ) (op : Op) (part : Patch) → fragments_in (unit First) (length_by Go (moves plan k op part)) ≡ call_numbers op part
  go-long k (Set task row col rows cols values) part = ap (λ x. fragments_in (unit First) x) (stride-total _ (4 * part.cols) (4 * cols) part.rows ∙ words part.rows part.cols)
  go-long k (Get task row col rows cols) part = refl

  back-long : (k : ℕ) (op : Op) (part : Patch) → is_set op ≡ false → fragments_in (unit First) (length_by Back (moves plan k op part)) ≡ answer_numbers op part
  back-long k (Set task row col rows cols values) part h = absurd (false≢true (sym h))
  back-long k (Get task row col rows cols) part h = ap (λ x. fragments_in (unit First) x) (stride-total _ (4 * part.cols) (4 * plan.width) part.rows ∙ words part.rows part.cols)

  go-size : (k : ℕ) (op : Op) (a b : ℕ) → slice_get plan.ops k ≡ Some op → b < tasks_of plan → cond (has_go op a b) (fragment_count (compiled plan) (go_of k op b)) 0 ≡ going plan op a b
  unfolding has_go go_of
  go-size k op a b e lb = under (has_go op a b) _ _ (λ h.
      let parts = and_parts (a == (patch_of op).task) (is_nonempty (part_of plan (patch_of op) b)) h in
      let is = is-move k op b e lb parts.1 in
      long-fragments (go_of k op b) _ (ap (length_by Go) is.3) ∙ go-long k op (part_of plan (patch_of op) b))
    where
      under : (c : Bool) (p q : ℕ) → (c ≡ true → p ≡ q) → cond c p 0 ≡ cond c q 0
      under true p q h = h refl
      under false p q h = refl

  back-size : (k : ℕ) (op : Op) (a b : ℕ) → slice_get plan.ops k ≡ Some op → a < tasks_of plan → cond (has_answer op a b) (fragment_count (compiled plan) (back_of k op a)) 0 ≡ coming plan op a b
  unfolding has_answer back_of
  back-size k (Set task row col rows cols values) a b e la = nothing (b == task && is_nonempty (part_of plan (patch_of (Set task row col rows cols values)) a)) 0
    where
      nothing : (c : Bool) (n : ℕ) → n ≡ cond c n n
      nothing true n = refl
      nothing false n = refl
  back-size k (Get task row col rows cols) a b e la =
      let op = Get task row col rows cols in
      under (b == task && is_nonempty (part_of plan (patch_of op) a)) _ _ (λ h.
      let parts = and_parts (b == task) (is_nonempty (part_of plan (patch_of op) a)) h in
      let is = is-move k op a e la parts.1 in
      long-fragments (back_of k op a) _ (ap (length_by Back) is.3) ∙ back-long k op (part_of plan (patch_of op) a) refl)
    where
      under : (c : Bool) (p q : ℕ) → (c ≡ true → p ≡ q) → cond c p 0 ≡ cond c q 0
      under true p q h = h refl
      under false p q h = refl

  join-size : (k a b : ℕ) → cond (not (b == a)) (fragment_count (compiled plan) (join_of k a b)) 0 ≡ joining a b
  unfolding join_of
  join-size k a b = ap (λ n. cond (not (b == a)) n 0) (long-fragments (message a (op_fence plan k a) (Join b)) 0 refl) ∙ turned (b == a) (fragments_in (unit First) 0)
    where
      turned : (c : Bool) (n : ℕ) → cond (not c) n 0 ≡ cond c 0 n
      turned true n = refl
      turned false n = refl

  -- ---- they are those of its round

  module _ (k : ℕ) (lk : k < count plan) (op : Op) (e : slice_get plan.ops k ≡ Some op) where
    abbrev Round : MsgName → Type 0
    Round m = InRound (compiled plan) rules (count plan) (op_begin plan) (op_fence plan) (plan-fenced plan valid rules) k lk m

    apart-leg : (m n : MsgName) → (m.leg ≡ n.leg → ⊥) → m ≡ n → ⊥
    apart-leg m n h same = h (ap (λ (x : MsgName). x.leg) same)

    distinct : (a b : ℕ) → Distinct (plan_links k op a b)
    unfolding plan_links go_of back_of join_of
    distinct a b =
        three-distinct (has_go op a b) (has_answer op a b) (not (b == a)) (go_of k op b) (back_of k op a) (join_of k a b)
        (apart-leg (back_of k op a) (go_of k op b) (λ q. absurd (cc))) (apart-leg (join_of k a b) (go_of k op b) (λ q. absurd (cc))) (apart-leg (join_of k a b) (back_of k op a) (λ q. absurd (cc)))

    -- the Go and the Back of a part, and the Joins
    go-round : (b : ℕ) → b < tasks_of plan → is_nonempty (part_of plan (patch_of op) b) ≡ true → Round (go_of k op b) × (receiver (compiled plan) (go_of k op b) ≡ b)
    unfolding go_of
    go-round b lb some =
        let is = is-move k op b e lb some in
        let t = (patch_of op).task in
        let issues : is_data (statement (compiled plan) t (move_place plan valid rules k op b)) ≡ true = ap is_data is.3 ∙ moves-data op (part_of plan (patch_of op) b) in
        let high = is.2 in
        (record { has = is.0; leg = issues; low = is.1; high = omega arith }, ap (λ s. unwrap_or (target_of s) t) is.3 ∙ ap (λ x. unwrap_or x t) (moves-target plan k op (part_of plan (patch_of op) b)))
      where
        moves-data : (o : Op) (part : Patch) → is_data (moves plan k o part) ≡ true
        moves-data (Set task row col rows cols values) part = refl
        moves-data (Get task row col rows cols) part = refl

    back-round : (a : ℕ) → a < tasks_of plan → is_nonempty (part_of plan (patch_of op) a) ≡ true → is_set op ≡ false → Round (back_of k op a) × (sender (compiled plan) (back_of k op a) ≡ a)
    unfolding back_of
    back-round a la some got =
        let is = is-move k op a e la some in
        let t = (patch_of op).task in
        let back : has_back (statement (compiled plan) t (move_place plan valid rules k op a)) ≡ true = ap has_back is.3 ∙ moves-back op (part_of plan (patch_of op) a) got in
        let high = is.2 in
        (record { has = is.0; leg = back; low = is.1; high = omega arith }, ap (λ s. unwrap_or (target_of s) t) is.3 ∙ ap (λ x. unwrap_or x t) (moves-target plan k op (part_of plan (patch_of op) a)))
      where
        moves-back : (o : Op) (part : Patch) → is_set o ≡ false → has_back (moves plan k o part) ≡ true
        moves-back (Set task row col rows cols values) part h = absurd (false≢true (sym h))
        moves-back (Get task row col rows cols) part h = refl

    join-round : (a b : ℕ) → a < tasks_of plan → b < tasks_of plan → not (b == a) ≡ true → Round (join_of k a b)
    unfolding join_of
    join-round a b la lb h =
        let o = (plan-fenced plan valid rules).order k a lk la in
        record {
          has = (la, o.1);
          leg = ap (has_leg (compiled plan) (answers (compiled plan) rules a (op_fence plan k a)) a (Join b)) ((plan-fenced plan valid rules).fences k a lk la).0 ∙ and_from (nat_lt b (tasks_of plan)) (not (b == a)) (lt-ltb b (tasks_of plan) lb) h;
          low = o.0;
          high = omega arith;
        }

    each : (a b : ℕ) → a < tasks_of plan → b < tasks_of plan → (m : MsgName) → In (plan_links k op a b) m → Round m × (sender (compiled plan) m ≡ a) × (receiver (compiled plan) m ≡ b)
    unfolding plan_links has_go has_answer go_of back_of join_of
    each a b la lb m w =
        ⊎_elim
        (λ (x : (has_go op a b ≡ true) × (go_of k op b ≡ m)).
        let parts = and_parts (a == (patch_of op).task) (is_nonempty (part_of plan (patch_of op) b)) x.0 in
        let r = go-round b lb parts.1 in
        subst (λ n. Round n × (sender (compiled plan) n ≡ a) × (receiver (compiled plan) n ≡ b)) x.1 (r.0, sym (eqb-true a (patch_of op).task parts.0), r.1))
        (λ (v : ((has_answer op a b ≡ true) × (back_of k op a ≡ m)) ⊎ ((not (b == a) ≡ true) × (join_of k a b ≡ m))).
        ⊎_elim
        (λ (x : (has_answer op a b ≡ true) × (back_of k op a ≡ m)).
        let got = and_parts (not (is_set op)) (b == (patch_of op).task && is_nonempty (part_of plan (patch_of op) a)) x.0 in
        let parts = and_parts (b == (patch_of op).task) (is_nonempty (part_of plan (patch_of op) a)) got.1 in
        let r = back-round a la parts.1 (unset (is_set op) got.0) in
        subst (λ n. Round n × (sender (compiled plan) n ≡ a) × (receiver (compiled plan) n ≡ b)) x.1 (r.0, r.1, sym (eqb-true b (patch_of op).task parts.0)))
        (λ (x : (not (b == a) ≡ true) × (join_of k a b ≡ m)).
        subst (λ n. Round n × (sender (compiled plan) n ≡ a) × (receiver (compiled plan) n ≡ b)) x.1 (join-round a b la lb x.0, refl, refl))
        v)
        (three-which (has_go op a b) (has_answer op a b) (not (b == a)) (go_of k op b) (back_of k op a) (join_of k a b) m w)
      where
        unset : (c : Bool) → not c ≡ true → c ≡ false
        unset true h = absurd (false≢true h)
        unset false h = refl

    -- and there is no other
    all : (o i : ℕ) (leg : Leg) → Round (message o i leg) → In (plan_links k op (sender (compiled plan) (message o i leg)) (receiver (compiled plan) (message o i leg))) (message o i leg)
    unfolding plan_links has_go has_answer go_of back_of join_of
    all o i Go x =
        let size = round-length plan k o in
        let r = data-place plan valid rules k op o i e x.has.0 x.low x.high x.leg in
        let to : receiver (compiled plan) (message o i Go) ≡ r.0 = ap (λ s. unwrap_or (target_of s) o) r.3 ∙ ap (λ y. unwrap_or y o) (moves-target plan k op (part_of plan (patch_of op) r.0)) in
        let place : i ≡ move_place plan valid rules k op (receiver (compiled plan) (message o i Go)) = r.2 ∙ ap (move_place plan valid rules k op) (sym to) in
        let b = receiver (compiled plan) (message o i Go) in
        let same : go_of k op b ≡ message o i Go = λ j. message (sym r.1 j) (sym place j) Go in
        subst (In (plan_links k op o b)) same
        (three-first (has_go op o b) (has_answer op o b) (not (b == o)) (go_of k op b) (back_of k op o) (join_of k o b)
        (and_from (o == (patch_of op).task) (is_nonempty (part_of plan (patch_of op) b)) (eq-eqb o (patch_of op).task r.1) (ap (λ w. is_nonempty (part_of plan (patch_of op) w)) to ∙ r.4)))
    all o i Back x =
        let size = round-length plan k o in
        let r = data-place plan valid rules k op o i e x.has.0 x.low x.high (back-data (statement (compiled plan) o i) x.leg) in
        let from : sender (compiled plan) (message o i Back) ≡ r.0 = ap (λ s. unwrap_or (target_of s) o) r.3 ∙ ap (λ y. unwrap_or y o) (moves-target plan k op (part_of plan (patch_of op) r.0)) in
        let place : i ≡ move_place plan valid rules k op (sender (compiled plan) (message o i Back)) = r.2 ∙ ap (move_place plan valid rules k op) (sym from) in
        let a = sender (compiled plan) (message o i Back) in
        let same : back_of k op a ≡ message o i Back = λ j. message (sym r.1 j) (sym place j) Back in
        let got : not (is_set op) ≡ true = back-get op (part_of plan (patch_of op) r.0) (ap has_back (sym r.3) ∙ x.leg) in
        subst (In (plan_links k op a o)) same
        (three-second (has_go op a o) (has_answer op a o) (not (o == a)) (go_of k op o) (back_of k op a) (join_of k a o)
        (and_from (not (is_set op)) (o == (patch_of op).task && is_nonempty (part_of plan (patch_of op) a)) got
        (and_from (o == (patch_of op).task) (is_nonempty (part_of plan (patch_of op) a)) (eq-eqb o (patch_of op).task r.1) (ap (λ w. is_nonempty (part_of plan (patch_of op) w)) from ∙ r.4))))
      where
        back-get : (o : Op) (part : Patch) → has_back (moves plan k o part) ≡ true → not (is_set o) ≡ true
        back-get (Set task row col rows cols values) part h = absurd (false≢true h)
        back-get (Get task row col rows cols) part h = refl
    all o i Note x = absurd (false≢true (ap is_some (sym (no-notes plan valid rules o i x.has)) ∙ (and_parts (is_some (cmpl_counter (statement (compiled plan) o i))) (not (answers (compiled plan) rules o i)) x.leg).0))
    all o i Echo x = absurd (both_ways _ (no-answers plan valid rules o i) x.leg)
    all o i (Join d) x =
        let parts = and_parts (has_join (statement (compiled plan) o i)) (nat_lt d (tasks_of plan) && not (d == o)) x.leg in
        let other = (and_parts (nat_lt d (tasks_of plan)) (not (d == o)) parts.1).1 in
        let last : i ≡ op_fence plan k o = at-last o i x.has.0 x.low x.high parts.0 in
        let same : join_of k o d ≡ message o i (Join d) = λ j. message o (sym last j) (Join d) in
        subst (In (plan_links k op o d)) same
        (three-third (has_go op o d) (has_answer op o d) (not (d == o)) (go_of k op d) (back_of k op o) (join_of k o d) other)
      where
        at-last : (o i : ℕ) → o < tasks_of plan → op_begin plan k o ≤ i → i ≤ op_fence plan k o → has_join (statement (compiled plan) o i) ≡ true → i ≡ op_fence plan k o
        at-last o i lo low high join =
            ⊎_elim
            (λ (lt : i < op_fence plan k o). absurd (both_ways _ (call-no_join (statement (compiled plan) o i) (calls-are plan valid rules k o i lk lo low lt)) join))
            (λ (ge : op_fence plan k o ≤ i). omega arith)
            (cases_lt i (op_fence plan k o))

    -- by the sweeps
    by-stage : (s a b : ℕ) → a < tasks_of plan → b < tasks_of plan → staged (compiled plan) rules s a (plan_links k op a b)
        ≡ going plan op a b + (cond (stage s a (patch_of op).task Back) (coming plan op a b) 0 + cond (stage s a a (Join b)) (joining a b) 0)
    unfolding plan_links go_of back_of join_of
    by-stage s a b la lb =
        three-staged s a (has_go op a b) (has_answer op a b) (not (b == a)) (go_of k op b) (back_of k op a) (join_of k a b)
        ∙ sums _ _ _ _ _ _ (go-size k op a b e lb)
        (swapped (has_answer op a b) (stage s a (patch_of op).task Back) (fragment_count (compiled plan) (back_of k op a)) ∙ ap (λ n. cond (stage s a (patch_of op).task Back) n 0) (back-size k op a b e la))
        (swapped (not (b == a)) (stage s a a (Join b)) (fragment_count (compiled plan) (join_of k a b)) ∙ ap (λ n. cond (stage s a a (Join b)) n 0) (join-size k a b))
      where
        sums : (x y z p q r : ℕ) → x ≡ p → y ≡ q → z ≡ r → x + (y + z) ≡ p + (q + r)
        sums x y z p q r u v w = omega arith

        swapped : (c d : Bool) (n : ℕ) → cond c (cond d n 0) 0 ≡ cond d (cond c n 0) 0
        swapped true true n = refl
        swapped true false n = refl
        swapped false true n = refl
        swapped false false n = refl

    has-links : HasLinks (compiled plan) rules (count plan) (op_begin plan) (op_fence plan) (plan-fenced plan valid rules) k lk (plan_links k op) (added_by plan op)
    has-links = record {
      distinct = λ a b la lb. distinct a b;
      each = λ a b la lb m w. each a b la lb m w;
      all = λ m x la lb. all m.origin m.statement m.leg x;
      first = λ a b la lb. by-stage 0 a b la lb ∙ none _ _;
      more = λ s a b ls la lb. by-stage (suc s) a b la lb ∙ on s a b ls ∙ ap (λ n. n + added_by plan op (suc s) a b) (sym (by-stage s a b la lb));
    }
      where
        none : (x y : ℕ) → x + (y + 0) ≡ x + y
        none x y = omega arith

        rest : (c : Bool) (g y : ℕ) → g + (y + 0) ≡ (g + (cond c y 0 + 0)) + cond c 0 y
        rest true g y = omega arith
        rest false g y = omega arith

        on : (s a b : ℕ) → s < 3 →
            going plan op a b + (cond (stage (suc s) a (patch_of op).task Back) (coming plan op a b) 0 + cond (stage (suc s) a a (Join b)) (joining a b) 0)
            ≡ (going plan op a b + (cond (stage s a (patch_of op).task Back) (coming plan op a b) 0 + cond (stage s a a (Join b)) (joining a b) 0)) + added_by plan op (suc s) a b
        on zero a b l = rest (nat_lt (patch_of op).task a) (going plan op a b) (coming plan op a b)
        on (suc zero) a b l = omega arith
        on (suc (suc zero)) a b l = omega arith
        on (suc (suc (suc s))) a b l = absurd (omega arith)

  -- ---- round after round

  record Told (n : ℕ) : Type 0 where
    same_lines : plan_acts plan rules n ≡ counted_acts plan n
    same_counts : Agree (compiled plan) rules (counts_of (after (compiled plan) rules packet_size refusal start (plan_acts plan rules n))) (plan_counts plan n)

  told : (n : ℕ) → n ≤ count plan → Told n
  unfolding plan_acts counted_acts plan_counts after
  told zero l = record { same_lines = refl; same_counts = λ x y lx ly. refl }
  told (suc k) l =
      let lk : k < count plan = omega arith in
      let acts = plan_acts plan rules k in
      let r = after (compiled plan) rules packet_size refusal start acts in
      let old = told k (omega arith) in
      let z = all-rounds plan valid rules k (omega arith) in
      let got = get-some plan.ops k lk in
      let owes = after-owes (compiled plan) rules packet_size refusal acts start (start-owes plan valid rules) in
      let c = counted-round (compiled plan) rules (count plan) (op_begin plan) (op_fence plan) (plan-fenced plan valid rules) k lk r z.is_sound (after-paid (compiled plan) rules acts start (start-paid plan valid rules)) owes z.at_round (plan_links k got.0) (added_by plan got.0) (has-links k lk got.0 got.1) (plan_counts plan k) old.same_counts in
      let calls : (a : ℕ) → op_fence plan k a - op_begin plan k a ≡ length (op_statements plan k (slice_get plan.ops k) a) = λ a. back (op_begin plan k a) (length (op_statements plan k (slice_get plan.ops k) a)) in
      let same = old.same_lines in
      let is : added_by plan got.0 ≡ added plan (slice_get plan.ops k) = ap (added plan) (sym got.1) in
      let lines = c.0 ∙ (λ i. counted_round (tasks_of plan) (plan_counts plan k) (λ a. calls a i) (is i)) in
      record {
        same_lines = λ i. same i ++ lines i;
        same_counts = λ x y lx ly.
            ap (λ (u : Run). counts_of u x y) (after-join (compiled plan) rules acts (round_acts (compiled plan) rules (op_begin plan) (op_fence plan) k r) start)
            ∙ c.1 x y lx ly
            ∙ (λ i. sweeps_counts (tasks_of plan) (plan_counts plan k) (is i) 4 x y);
      }

-- the law, of every valid plan
pub plans-counted : PlansAreCounted
plans-counted plan valid rules = (told plan valid rules (count plan) (omega arith)).same_lines
