-- What the steps of one turn tell together.
use Rattle.std.proofs.Common.{◌≡◌, ℕ, ◌%◌, ◌^◌, Bool, true, false, List, [], ◌∷◌, refl, sym, ap, ◌∙◌, subst, Option, Some, None}
use Rattle.atomic_table.specs.Table.{Me, Step, step, rest}
use mathlib.Core.Option.{none}
use Rattle.lapi_turn.specs.declared.rule.Stage.TheVariants.{Rests, Waits, HasTurn}
use Rattle.lapi_turn.specs.declared.rule.View.{View}
use Rattle.lapi_turn.specs.Entries.{Entry, Follows}
use Rattle.lapi_turn.specs.Steps.{at_stage, having_seen, seen_after, LookTells, CountTells, ServeTells}

abbrev SeatState : Type 0 → Type 0 → Type 0
SeatState X F = Me (Option X) (View F)

pub carries : {S : Type 0} (l : List (ℕ × S)) (y : S) → l ≡ (0, y) ∷ [] → l ≡ (0, y) ∷ rest l
carries {S} l y e = e ∙ ap (λ (m : List (ℕ × S)). (0, y) ∷ rest m) (sym e)

module _ {X F : Type 0} (list : X → List Entry) (fixed : X → F) where
  abbrev any_step : Step (Option X)
  any_step = step 0 0 0 0 none

  -- the seat that was at m has its turn, with the ticket k
  abbrev pub Took : SeatState X F → ℕ → SeatState X F → Type 0
  Took m k m' = (x : X) × (m' ≡ (at_stage m.0 (HasTurn k (list x) false), (0, Some x) ∷ [])) × Follows m.0.seen m.0.rights (list x) × (m.0.fixed ≡ Some (fixed x))

  pub took : (m now m' : SeatState X F) (k n : ℕ) → now ≡ (at_stage m.0 (Waits k), m.1) → m.1 ≡ [] → LookTells list fixed any_step now n m' → n ≡ k % 2 ^ 64 → Took m k m'
  took m now m' k n is bare told e =
      let told' : LookTells list fixed any_step (at_stage m.0 (Waits k), m.1) n m' = subst (λ (z : SeatState X F). LookTells list fixed any_step z n m') is told in
      let t = (told' k refl).0 e in (t.0, t.1 ∙ (λ i. (at_stage m.0 (HasTurn k (list t.0) false), (0, Some t.0) ∷ bare i)), t.2, t.3)

  pub missed : (m now m' : SeatState X F) (k n : ℕ) → now ≡ (at_stage m.0 (Waits k), m.1) → LookTells list fixed any_step now n m' → (n ≡ k % 2 ^ 64 → ⊥) → m' ≡ now
  missed m now m' k n is told ne =
      let told' : LookTells list fixed any_step (at_stage m.0 (Waits k), m.1) n m' = subst (λ (z : SeatState X F). LookTells list fixed any_step z n m') is told in
      (told' k refl).1 ne ∙ sym is

  one_slot : (y z : Option X) (l : List (ℕ × Option X)) → (0, y) ∷ [] ≡ (0, z) ∷ l → y ≡ z
  one_slot y z l e = let p : ℕ × Option X = (0, y) in let q : ℕ × Option X = (0, z) in let h : p ≡ q = cc in ap (λ (u : ℕ × Option X). u.1) h

  -- the value was taken out
  pub took_out : (m m' m'' : SeatState X F) (k : ℕ) (y z : Option X) → Took m k m' → m'.1 ≡ (0, y) ∷ rest m'.1 → m'' ≡ (m'.0, (0, z) ∷ rest m'.1)
      → (x : X) → y ≡ Some x → (m'' ≡ (at_stage m.0 (HasTurn k (list x) false), (0, z) ∷ [])) × Follows m.0.seen m.0.rights (list x) × (m.0.fixed ≡ Some (fixed x))
  took_out m m' m'' k y z t carried is x found =
      let same : Some t.0 ≡ y = one_slot (Some t.0) y (rest m'.1) (sym (ap (λ (u : SeatState X F). u.1) t.1) ∙ carried) in
      let same' : Some t.0 ≡ Some x = same ∙ found in let xs : t.0 ≡ x = cc in (
        is ∙ (ap (λ (u : SeatState X F). (u.0, (0, z) ∷ rest u.1)) t.1 ∙ (λ i. (at_stage m.0 (HasTurn k (list (xs i)) false), (0, z) ∷ []))),
        subst (λ (u : X). Follows m.0.seen m.0.rights (list u)) xs t.2,
        t.3 ∙ ap (λ (u : X). Some (fixed u)) xs,
      )

  -- the seat that was at m has the value x in the slot, and may give it back
  pub record Ready (m : SeatState X F) (x : X) (m' : SeatState X F) : Type 0 where
    pub ticket : ℕ
    pub base : List Entry
    pub counts : Bool
    pub turns : m'.0.stage ≡ HasTurn ticket base counts
    pub slot : m'.1 ≡ (0, Some x) ∷ []
    pub lists : list x ≡ seen_after counts m'.0.seen base
    pub rights : m'.0.rights ≡ m.0.rights
    pub fixes : m'.0.fixed ≡ m.0.fixed

  pub ready_still : (m m' : SeatState X F) (x : X) (k : ℕ) (base : List Entry) → m.0.stage ≡ HasTurn k base false → m.1 ≡ (0, None) ∷ [] → list x ≡ base → m' ≡ (m.0, (0, Some x) ∷ rest m.1) → Ready m x m'
  ready_still m m' x k base turns bare lists is = record {
    ticket = k;
    base = base;
    counts = false;
    turns = ap (λ (u : SeatState X F). u.0.stage) is ∙ turns;
    slot = ap (λ (u : SeatState X F). u.1) is ∙ ap (λ (l : List (ℕ × Option X)). (0, Some x) ∷ rest l) bare;
    lists = lists;
    rights = ap (λ (u : SeatState X F). u.0.rights) is;
    fixes = ap (λ (u : SeatState X F). u.0.fixed) is;
  }

  pub ready_counted : (m m' m'' : SeatState X F) (x : X) (k n : ℕ) (base : List Entry) → m.0.stage ≡ HasTurn k base false → m.1 ≡ (0, None) ∷ [] → m' ≡ (m.0, (0, Some x) ∷ rest m.1) → CountTells list any_step m' n m'' → Ready m x m''
  ready_counted m m' m'' x k n base turns bare is told =
      let turns' : m'.0.stage ≡ HasTurn k base false = ap (λ (u : SeatState X F). u.0.stage) is ∙ turns in
      let slot' : m'.1 ≡ (0, Some x) ∷ [] = ap (λ (u : SeatState X F). u.1) is ∙ ap (λ (l : List (ℕ × Option X)). (0, Some x) ∷ rest l) bare in
      let now = told k base x turns' slot' in record {
        ticket = k;
        base = base;
        counts = true;
        turns = ap (λ (u : SeatState X F). u.0.stage) now;
        slot = ap (λ (u : SeatState X F). u.1) now ∙ slot';
        lists = sym (ap (λ (u : SeatState X F). u.0.seen) now);
        rights = ap (λ (u : SeatState X F). u.0.rights) now ∙ ap (λ (u : SeatState X F). u.0.rights) is;
        fixes = ap (λ (u : SeatState X F). u.0.fixed) now ∙ ap (λ (u : SeatState X F). u.0.fixed) is;
      }

  -- the seat rests, and has seen the list
  pub rests_again : (m m' m'' : SeatState X F) (x : X) (n : ℕ) → Ready m x m' → ServeTells any_step m' n m'' → m'' ≡ (having_seen m.0 (list x) Rests, [])
  rests_again m m' m'' x n r told =
      told r.ticket r.base r.counts r.turns
      ∙ (λ i. (record { fixed = r.fixes i; seen = sym r.lists i; rights = r.rights i; stage = Rests }, rest (r.slot i)))
