-- A lane that has run some of its lines.
use Rattle.std.proofs.Common.{◌≡◌, ℕ, zero, suc, ◌+◌, ◌<◌, ◌==◌, Bool, true, false, cond, List, [], ◌∷◌, ◌++◌, length, take, get_or, Option, refl, sym, ap, ◌∙◌, subst, append_assoc, arith}
use Rattle.std.specs.List.{AllByRecursion}
use Rattle.std.proofs.lemmas.List.{append-nil, take_more, take_all}
use Rattle.lapi_base.specs.Record.WorldView.{WorldView}
use Rattle.lapi_handlers.specs.declared.finished.Finished.{Finished}
use Rattle.lapi_turn.specs.declared.turn.Turn.{Turn}
use Rattle.lapi_turn.specs.Entries.{HasRight}
use Rattle.lapi_live.specs.declared.lane_set.OneLane.{OneLane}
use Rattle.lapi_live.specs.declared.pass.Pass.{Pass}
use Rattle.lapi_live.specs.declared.room.Room.{Room}
use Rattle.lapi_base.specs.Record.Lanes.{lane_of, lane_lines}
use Rattle.lapi_live.specs.Passes.{plan_of, seen_by, lanes_of, IsPassOf, StaysPass, TakesLine}
use Rattle.lapi_live.specs.Running.{AreHeld, IsLineOf, HasRun}
use Rattle.lapi_live.proofs.OwnLanes.{lane-more}

-- the first lines of the lane were taken
pub record IsRunning (turn : Turn Room WorldView) (one : OneLane) (i : ℕ) (held : List (Option Finished)) (old new : Pass) : Type 0 where
  pub stays : StaysPass turn old new
  pub lines : (lane : ℕ) → HasRight (lanes_of old) lane → lane_lines (plan_of turn).schedule lane (seen_by new) ≡ lane_lines (plan_of turn).schedule lane (seen_by old) ++ cond (one.lane == lane) (take i one.lines) []
  pub are_held : AreHeld (plan_of turn) (lanes_of old) (seen_by new) held

nothing : (b : Bool) (xs ys : List ℕ) → xs ≡ xs ++ cond b (take 0 ys) []
nothing true xs ys = sym (append-nil xs)
nothing false xs ys = sym (append-nil xs)

pub starts : (turn : Turn Room WorldView) (one : OneLane) (held : List (Option Finished)) (pass : Pass) → IsPassOf turn pass → AreHeld (plan_of turn) (lanes_of pass) (seen_by pass) held → IsRunning turn one 0 held pass pass
starts turn one held pass of held_ = record {
  stays = (of, refl);
  lines = λ lane has. nothing (one.lane == lane) (lane_lines (plan_of turn).schedule lane (seen_by pass)) one.lines;
  are_held = held_;
}

one-more : (b : Bool) (base all : List ℕ) (i n : ℕ) → i < length all → n ≡ get_or all i 0 → (base ++ cond b (take i all) []) ++ cond b (n ∷ []) [] ≡ base ++ cond b (take (i + 1) all) []
one-more true base all i n lt is = append_assoc base (take i all) (n ∷ []) ∙ ap (λ (l : List ℕ). base ++ l) (ap (λ (x : ℕ). take i all ++ x ∷ []) is ∙ sym (take_more all i 0 lt))
one-more false base all i n lt is = append-nil (base ++ [])

-- a line of the lane, as the loop reads it
pub line-of : (lines items : List ℕ) (i : ℕ) → items ≡ lines → i < length items → (i < length lines) × (get_or items i 0 ≡ get_or lines i 0)
line-of lines items i e lt = (subst (λ (l : List ℕ). i < length l) e lt, ap (λ (l : List ℕ). get_or l i 0) e)

all-at : (P : ℕ → Type 0) (xs : List ℕ) (i : ℕ) → i < length xs → AllByRecursion P xs → P (get_or xs i 0)
all-at P [] i lt h = absurd (omega arith)
all-at P (x ∷ xs) zero lt h = h.0
all-at P (x ∷ xs) (suc i) lt h = all-at P xs i (let q : i < length xs = omega arith in q) h.1

pub goes : (turn : Turn Room WorldView) (one : OneLane) (i n : ℕ) (held held' : List (Option Finished)) (old pass new : Pass) → i < length one.lines → n ≡ get_or one.lines i 0 → AllByRecursion (IsLineOf (plan_of turn).schedule one.lane) one.lines
    → IsRunning turn one i held old pass → StaysPass turn pass new → TakesLine turn pass new n → AreHeld (plan_of turn) (lanes_of pass) (seen_by new) held' → IsRunning turn one (i + 1) held' old new
goes turn one i n held held' old pass new lt is all r stays takes h =
    let lane_is : lane_of (plan_of turn).schedule n ≡ one.lane = ap (lane_of (plan_of turn).schedule) is ∙ (all-at (IsLineOf (plan_of turn).schedule one.lane) one.lines i lt all).1 in record {
      stays = (stays.0, stays.1 ∙ r.stays.1);
      lines = λ lane has.
          let schedule = (plan_of turn).schedule in
          lane-more schedule (lanes_of pass) lane n (seen_by pass) takes.0 (seen_by new) (subst (λ (m : ℕ). HasRight m lane) (sym r.stays.1) has) takes.1 takes.2
          ∙ ap (λ (l : List ℕ). l ++ cond (lane_of schedule n == lane) (n ∷ []) []) (r.lines lane has)
          ∙ ap (λ (k : ℕ). (lane_lines schedule lane (seen_by old) ++ cond (one.lane == lane) (take i one.lines) []) ++ cond (k == lane) (n ∷ []) []) lane_is
          ∙ one-more (one.lane == lane) (lane_lines schedule lane (seen_by old)) one.lines i n lt is;
      are_held = subst (λ (m : ℕ). AreHeld (plan_of turn) m (seen_by new) held') r.stays.1 h;
    }

pub ends : (turn : Turn Room WorldView) (one : OneLane) (i : ℕ) (held : List (Option Finished)) (old new : Pass) → i ≡ length one.lines → IsRunning turn one i held old new → HasRun turn (one ∷ []) old new
ends turn one i held old new e r = record {
  stays = r.stays;
  lines = λ lane has. r.lines lane has ∙ ap (λ (l : List ℕ). lane_lines (plan_of turn).schedule lane (seen_by old) ++ cond (one.lane == lane) l []) (take_all i one.lines (omega arith));
}
