-- A pass whose lanes are shared out, and one that has come together again.
use Rattle.std.proofs.Common.{◌≡◌, ℕ, ◌+◌, ◌*◌, ◌%◌, ◌^◌, ◌==◌, List, [], ◌∷◌, ◌++◌, refl, sym, ap, ◌∙◌, subst, arith, bit_or, bit_xor}
use Rattle.std.specs.Int.{bit_at}
use Rattle.std.proofs.lemmas.Bool.{eq-eqb, ne_eqb, cond-true, cond-false}
use Rattle.std.proofs.lemmas.List.{append-nil}
use Rattle.std.proofs.lemmas.Nat.Bits.{and_pow, bit_at-pow_same, bit_at-pow_other, bit_at_xor}
use mathlib.Core.Logic.{dite}
use native.Mathlib.Decide.{ℕ_discrete}
use Rattle.lapi_base.specs.declared.schedule.Line.{Line}
use Rattle.lapi_base.specs.Record.WorldView.{WorldView}
use Rattle.lapi_turn.specs.declared.turn.Turn.{Turn}
use Rattle.lapi_turn.specs.Entries.{HasRight, HasRights}
use Rattle.lapi_base.proofs.BitSets.{has_each, cut_has, whole_again}
use Rattle.lapi_live.specs.declared.kinds.Kind.{Kind}
use Rattle.lapi_live.specs.declared.lane_set.OneLane.{OneLane}
use Rattle.lapi_live.specs.declared.pass.Pass.{Pass}
use Rattle.lapi_live.specs.declared.room.Room.{Room}
use Rattle.lapi_base.specs.Record.Lanes.{lane_of, lane_lines}
use Rattle.lapi_live.specs.Histories.{HasWorker, NoJobs, job_after}
use Rattle.lapi_live.specs.Passes.{plan_of, seen_by, lanes_of, IsPassOf, GoesOnFrom}
use Rattle.lapi_live.specs.Running.{AreOwn, lines_at, MayRun, HasRun}
use Rattle.lapi_live.proofs.OwnLanes.{lane-same}

pub own_mask : (lanes lane : ℕ) → HasRight lanes lane → HasRights lanes (2 ^ lane)
own_mask lanes lane one = and_pow lanes lane ∙ ap (λ (b : ℕ). b * 2 ^ lane) one ∙ (let q : 1 * 2 ^ lane ≡ 2 ^ lane = omega arith in q)

pub others-have : (lanes lane r : ℕ) → HasRight lanes r → (r ≡ lane → ⊥) → HasRight (bit_xor lanes (2 ^ lane)) r
others-have lanes lane r one ne = bit_at_xor lanes (2 ^ lane) r ∙ ap (λ (b : ℕ). (b + bit_at (2 ^ lane) r) % 2) one ∙ ap (λ (b : ℕ). (1 + b) % 2) (bit_at-pow_other lane r ne)

fewer : (schedule : List Line) (lanes part t w : ℕ) → ((r : ℕ) → HasRight part r → HasRight lanes r) → HasWorker schedule part t w → HasWorker schedule lanes t w
fewer schedule lanes part t w sub has = λ n yes. sub (lane_of schedule n) (has n yes)

fewer-jobs : (plan : WorldView) (lanes part : ℕ) (seen seen' : List ℕ) → ((r : ℕ) → HasRight part r → HasRight lanes r) → seen' ≡ seen → NoJobs plan lanes seen → NoJobs plan part seen'
fewer-jobs plan lanes part seen seen' sub same idle = λ t w has. ap (λ (l : List ℕ). job_after plan l t w) same ∙ idle t w (fewer plan.schedule lanes part t w sub has)

module _ (turn : Turn Room WorldView) (kinds : List Kind) (pass : Pass) (one : OneLane) (set : List OneLane) (mask : ℕ) (may : MayRun turn kinds pass (one ∷ set)) (is : mask ≡ 2 ^ one.lane) where
  pub may_split : HasRights (lanes_of pass) mask
  may_split = subst (HasRights (lanes_of pass)) (sym is) (own_mask (lanes_of pass) one.lane may.own.0)

  pub may_first : (mine : Pass) → IsPassOf turn mine → seen_by mine ≡ seen_by pass → lanes_of mine ≡ mask → MayRun turn kinds mine (one ∷ [])
  may_first mine of seen lanes = record {
    kinds_are = may.kinds_are;
    pass_of = of;
    own = (subst (λ (m : ℕ). HasRight m one.lane) (sym (lanes ∙ is)) (bit_at-pow_same one.lane), may.own.1, may.own.2, tt);
    idle = fewer-jobs (plan_of turn) (lanes_of pass) (lanes_of mine) (seen_by pass) (seen_by mine) (λ r h. has_each (lanes_of pass) mask may_split r (subst (λ (m : ℕ). HasRight m r) lanes h)) seen may.idle;
  }

  pub may_rest : (rest : Pass) → IsPassOf turn rest → seen_by rest ≡ seen_by pass → lanes_of rest ≡ bit_xor (lanes_of pass) mask → MayRun turn kinds rest set
  may_rest rest of seen lanes = record {
    kinds_are = may.kinds_are;
    pass_of = of;
    own = subst (λ (m : ℕ). AreOwn (plan_of turn).schedule m set) (sym (lanes ∙ ap (bit_xor (lanes_of pass)) is)) may.own.3;
    idle = fewer-jobs (plan_of turn) (lanes_of pass) (lanes_of rest) (seen_by pass) (seen_by rest) (λ r h. (cut_has (lanes_of pass) mask r (has_each (lanes_of pass) mask may_split r) (subst (λ (m : ℕ). HasRight m r) lanes h)).0) seen may.idle;
  }

  module _ (mine rest a b result : Pass) (seen_mine : seen_by mine ≡ seen_by pass) (seen_rest : seen_by rest ≡ seen_by pass) (lanes_mine : lanes_of mine ≡ mask) (lanes_rest : lanes_of rest ≡ bit_xor (lanes_of pass) mask) (ran : HasRun turn (one ∷ []) mine a) (others : HasRun turn set rest b) (of : IsPassOf turn result) (lanes : lanes_of result ≡ bit_or (lanes_of b) (lanes_of a)) (on_b : GoesOnFrom turn b (seen_by result)) (on_a : GoesOnFrom turn a (seen_by result)) where
    lines-mine : (lane : ℕ) → one.lane ≡ lane → lane_lines (plan_of turn).schedule lane (seen_by result) ≡ lane_lines (plan_of turn).schedule lane (seen_by pass) ++ lines_at (one ∷ set) lane
    lines-mine lane e =
        let schedule = (plan_of turn).schedule in
        let has : HasRight (lanes_of mine) lane = subst (λ (m : ℕ). HasRight m lane) (sym (lanes_mine ∙ is)) (subst (λ (k : ℕ). bit_at (2 ^ k) lane ≡ 1) (sym e) (bit_at-pow_same lane)) in
        lane-same schedule (lanes_of a) lane (seen_by a) (seen_by result) (subst (λ (m : ℕ). HasRight m lane) (sym ran.stays.1) has) on_a
        ∙ ran.lines lane has
        ∙ ap (λ (l : List ℕ). lane_lines schedule lane l ++ lines_at (one ∷ []) lane) seen_mine
        ∙ ap (λ (l : List ℕ). lane_lines schedule lane (seen_by pass) ++ l) (cond-true (one.lane == lane) one.lines [] (eq-eqb one.lane lane e) ∙ sym (cond-true (one.lane == lane) one.lines (lines_at set lane) (eq-eqb one.lane lane e)))

    lines-others : (lane : ℕ) → HasRight (lanes_of pass) lane → (one.lane ≡ lane → ⊥) → lane_lines (plan_of turn).schedule lane (seen_by result) ≡ lane_lines (plan_of turn).schedule lane (seen_by pass) ++ lines_at (one ∷ set) lane
    lines-others lane own ne =
        let schedule = (plan_of turn).schedule in
        let has : HasRight (lanes_of rest) lane = subst (λ (m : ℕ). HasRight m lane) (sym (lanes_rest ∙ ap (bit_xor (lanes_of pass)) is)) (others-have (lanes_of pass) one.lane lane own (λ e. ne (sym e))) in
        lane-same schedule (lanes_of b) lane (seen_by b) (seen_by result) (subst (λ (m : ℕ). HasRight m lane) (sym others.stays.1) has) on_b
        ∙ others.lines lane has
        ∙ ap (λ (l : List ℕ). lane_lines schedule lane l ++ lines_at set lane) seen_rest
        ∙ ap (λ (l : List ℕ). lane_lines schedule lane (seen_by pass) ++ l) (sym (cond-false (one.lane == lane) one.lines (lines_at set lane) (ne_eqb one.lane lane ne)))

    pub has_run : HasRun turn (one ∷ set) pass result
    has_run = record {
      stays = (of, lanes ∙ ap (λ (m : ℕ). bit_or m (lanes_of a)) (others.stays.1 ∙ lanes_rest) ∙ ap (bit_or (bit_xor (lanes_of pass) mask)) (ran.stays.1 ∙ lanes_mine) ∙ whole_again (lanes_of pass) mask may_split);
      lines = λ lane own. dite (ℕ_discrete one.lane lane) (λ e. lines-mine lane e) (λ ne. lines-others lane own ne);
    }

pub ran_none : (turn : Turn Room WorldView) (pass : Pass) → IsPassOf turn pass → HasRun turn [] pass pass
ran_none turn pass of = record { stays = (of, refl); lines = λ lane own. sym (append-nil (lane_lines (plan_of turn).schedule lane (seen_by pass))) }
