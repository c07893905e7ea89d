-- What stays true of the views, the tickets and the rights where one view changes.
use Rattle.std.proofs.Common.{◌≡◌, ◌≢◌, ℕ, ◌+◌, ◌-◌, ◌<◌, ◌≤◌, List, [], ◌∷◌, ◌++◌, length, set, refl, sym, ap, ◌∙◌, subst, ⊎_elim, arith, Some}
use mathlib.Core.Option.{some}
use mathlib.Core.Logic.{dite}
use native.Mathlib.Decide.{ℕ_discrete}
use lib.ListN.{get_elem?}
use Rattle.std.specs.Int.{bit_at}
use Rattle.atomic_table.proofs.Lists.{at_set, set_else, at_longer}
use Rattle.lapi_turn.specs.declared.rule.View.{View}
use Rattle.lapi_turn.specs.TurnRule.{TicketRule, Apart, ticket_of}
use Rattle.lapi_turn.proofs.Lists.{bit_off, bit_apart, set_at, at_end, one_at}
use Rattle.lapi_turn.proofs.Pigeons.{pigeons}

abbrev pick : {P : Type 0} → Dec P → ℕ → ℕ → ℕ
pick (yes _) a b = a
pick (no _) a b = b

pub put : (ℕ → ℕ) → ℕ → ℕ → ℕ → ℕ
put f i c j = pick (ℕ_discrete j i) c (f j)

pub put_here : (f : ℕ → ℕ) (i c : ℕ) → put f i c i ≡ c
unfolding put
put_here f i c = go (ℕ_discrete i i)
  where
    go : (d : Dec (i ≡ i)) → pick d c (f i) ≡ c
    go (yes _) = refl
    go (no n) = absurd (n refl)

pub put_else : (f : ℕ → ℕ) (i c j : ℕ) → j ≢ i → put f i c j ≡ f j
unfolding put
put_else f i c j other = go (ℕ_discrete j i)
  where
    go : (d : Dec (j ≡ i)) → pick d c (f j) ≡ f j
    go (yes e) = absurd (other e)
    go (no _) = refl

module _ {F : Type 0} where
  pub each_set : (P : ℕ → View F → Type 0) (vs : List (View F)) (me : ℕ) (w : View F) → P me w → ((j : ℕ) (v : View F) → j ≢ me → get_elem? vs j ≡ some v → P j v)
      → (j : ℕ) (v : View F) → get_elem? (set vs me w) j ≡ some v → P j v
  each_set P vs me w mine others j v e = ⊎_elim
      (λ (t : (j ≡ me) × (w ≡ v)). subst (λ (x : ℕ × View F). P x.0 x.1) (λ i. (sym t.0 i, t.1 i)) mine)
      (λ (t : (j ≢ me) × (get_elem? vs j ≡ some v)). others j v t.0 t.1)
      (at_set vs me j w v e)

  -- a view that has no new right
  pub apart_set : (vs : List (View F)) (me : ℕ) (v w : View F) → get_elem? vs me ≡ some v → ((r : ℕ) → bit_at w.rights r ≡ 1 → bit_at v.rights r ≡ 1) → Apart vs → Apart (set vs me w)
  apart_set vs me v w at fewer apart i j x y other ei ej r one = ⊎_elim
      (λ (s : (i ≡ me) × (w ≡ x)). ⊎_elim
      (λ (t : (j ≡ me) × (w ≡ y)). absurd (other (s.0 ∙ sym t.0)))
      (λ (t : (j ≢ me) × (get_elem? vs j ≡ some y)). apart me j v y (λ e. t.0 (sym e)) at t.1 r (fewer r (subst (λ (u : View F). bit_at u.rights r ≡ 1) (sym s.1) one)))
      (at_set vs me j w y ej))
      (λ (s : (i ≢ me) × (get_elem? vs i ≡ some x)). ⊎_elim
      (λ (t : (j ≡ me) × (w ≡ y)). subst (λ (u : View F). bit_at u.rights r ≡ 0) t.1 (bit_off w.rights r (λ o. bit_apart v.rights r (apart i me x v s.0 s.1 at r one) (fewer r o))))
      (λ (t : (j ≢ me) × (get_elem? vs j ≡ some y)). apart i j x y other s.1 t.1 r one)
      (at_set vs me j w y ej))
      (at_set vs me i w x ei)

  -- a view at the end that has no right of another
  pub apart_end : (vs : List (View F)) (w : View F) → ((j : ℕ) (v : View F) → get_elem? vs j ≡ some v → (r : ℕ) → bit_at w.rights r ≡ 1 → bit_at v.rights r ≡ 0) → Apart vs → Apart (vs ++ w ∷ [])
  apart_end vs w new apart i j x y other ei ej r one = ⊎_elim
      (λ (s : get_elem? vs i ≡ some x). ⊎_elim
      (λ (t : get_elem? vs j ≡ some y). apart i j x y other s t r one)
      (λ (t : (j ≡ length vs) × (w ≡ y)). subst (λ (u : View F). bit_at u.rights r ≡ 0) t.1 (bit_off w.rights r (λ o. bit_apart x.rights r (new i x s r o) one)))
      (at_end vs w y j ej))
      (λ (s : (i ≡ length vs) × (w ≡ x)). ⊎_elim
      (λ (t : get_elem? vs j ≡ some y). new j y t r (subst (λ (u : View F). bit_at u.rights r ≡ 1) (sym s.1) one))
      (λ (t : (j ≡ length vs) × (w ≡ y)). absurd (other (s.0 ∙ sym t.0)))
      (at_end vs w y j ej))
      (at_end vs w x i ei)

  -- the ticket k is held as before, or by the new view
  pub ticket_set : (vs : List (View F)) (owner right : ℕ → ℕ) (k me : ℕ) (v w : View F) → get_elem? vs me ≡ some v
      → (owner k ≡ me → ticket_of v.stage ≡ Some k → bit_at v.rights (right k) ≡ 1 → (ticket_of w.stage ≡ Some k) × (bit_at w.rights (right k) ≡ 1))
      → TicketRule vs owner right k → TicketRule (set vs me w) owner right k
  ticket_set vs owner right k me v w at mine t = dite (ℕ_discrete (owner k) me)
      (λ e. let same : t.holder ≡ v = one_at vs me t.holder v (subst (λ (j : ℕ). get_elem? vs j ≡ some t.holder) e t.at) at in
      let now = mine e (ap (λ (u : View F). ticket_of u.stage) (sym same) ∙ t.ticket) (ap (λ (u : View F). bit_at u.rights (right k)) (sym same) ∙ t.has) in
      record { holder = w; at = subst (λ (j : ℕ). get_elem? (set vs me w) j ≡ some w) (sym e) (set_at vs me w v at); ticket = now.0; has = now.1 })
      (λ n. record { holder = t.holder; at = set_else vs me (owner k) w n ∙ t.at; ticket = t.ticket; has = t.has })

  pub ticket_end : (vs : List (View F)) (owner right : ℕ → ℕ) (k : ℕ) (w : View F) → TicketRule vs owner right k → TicketRule (vs ++ w ∷ []) owner right k
  ticket_end vs owner right k w t = record { holder = t.holder; at = at_longer vs (w ∷ []) (owner k) t.holder t.at; ticket = t.ticket; has = t.has }

  one_ticket : (vs : List (View F)) (owner right : ℕ → ℕ) (k l : ℕ) → Apart vs → TicketRule vs owner right k → TicketRule vs owner right l → right k ≡ right l → k ≡ l
  one_ticket vs owner right k l apart s t same = dite (ℕ_discrete (owner k) (owner l))
      (λ e. let one : s.holder ≡ t.holder = one_at vs (owner l) s.holder t.holder (subst (λ (j : ℕ). get_elem? vs j ≡ some s.holder) e s.at) t.at in
      let both : Some k ≡ Some l = sym s.ticket ∙ (ap (λ (u : View F). ticket_of u.stage) one ∙ t.ticket) in cc)
      (λ n. absurd (bit_apart t.holder.rights (right l) (apart (owner k) (owner l) s.holder t.holder n s.at t.at (right l) (subst (λ (r : ℕ). bit_at s.holder.rights r ≡ 1) same s.has)) t.has))

  -- there are no more tickets than rights
  pub few_tickets : (vs : List (View F)) (owner right : ℕ → ℕ) (served drawn : ℕ) → served ≤ drawn → Apart vs → ((j : ℕ) (v : View F) → get_elem? vs j ≡ some v → (r : ℕ) → bit_at v.rights r ≡ 1 → r < 16)
      → ((k : ℕ) → served ≤ k → k < drawn → TicketRule vs owner right k) → drawn ≤ served + 16
  few_tickets vs owner right served drawn order apart low tickets =
      let at : (i : ℕ) → i < drawn - served → TicketRule vs owner right (served + i) = λ i h. tickets (served + i) (omega arith) (omega arith) in
      let n : drawn - served ≤ 16 = pigeons (λ i. right (served + i)) (drawn - served) 16
      (λ i h. let t = at i h in low (owner (served + i)) t.holder t.at (right (served + i)) t.has)
      (λ i j lt h same. let e : served + i ≡ served + j = one_ticket vs owner right (served + i) (served + j) apart (at i (omega arith)) (at j h) same in omega arith) in
      omega arith
