-- A seat cut in two, two seats made one, and the end.
use Rattle.std.proofs.Common.{◌≡◌, ◌≢◌, ◌⊎◌, ℕ, ◌+◌, ◌%◌, ◌<◌, ◌≤◌, max, leb, Bool, true, false, true≢false, List, ◌++◌, length, set, slice_index, slice_set, refl, sym, ap, ◌∙◌, subst, inl, inr, ⊎_elim, arith, Option, Some, None}
use Rattle.std.specs.Prelude.{bit_or, bit_xor}
use Rattle.std.proofs.lemmas.Bool.Decides.{leb_tells}
use Rattle.std.proofs.lemmas.List.{append-nil}
use mathlib.Core.Option.{some, none}
use mathlib.Core.Logic.{dite}
use native.Mathlib.Decide.{ℕ_discrete}
use lib.ListN.{get_elem?}
use Rattle.std.specs.Int.{bit_at}
use Rattle.std.proofs.lemmas.Nat.Bits.{bit_at-lt, bit_at_or, bit_at_xor, bit_at-zero, bit_at_ones}
use Rattle.atomic_table.specs.Table.{State, Me, Step, step, keeps, Allows, Splits, Joins, Final, Seen}
use Rattle.atomic_table.proofs.Lists.{set_else}
use Rattle.lapi_base.proofs.BitSets.{cut_has}
use Rattle.lapi_turn.specs.declared.rule.Stage.TheVariants.{Rests, Joined}
use Rattle.lapi_turn.specs.declared.rule.View.{View}
use Rattle.lapi_turn.specs.Entries.{Entry, NoneNeeds, Begins, Follows, AllBelow16}
use Rattle.lapi_turn.specs.TurnRule.{TicketLock, StageRule, SeatRule, TicketRule, TurnRule, ticket_of, counted_of, spent_view, all_rights}
use Rattle.lapi_turn.specs.Steps.{at_stage, CheckTells, kept_part, given_part, joined_view, joined_by}
use Rattle.lapi_turn.proofs.Lists.{bit_off, bit_apart, at_end, one_at, none_zero, none_all, low_back, follows_self, follows_fewer, follows_longer, follows_both, follows_both'}
use Rattle.lapi_turn.proofs.Views.{each_set, apart_set, apart_end, ticket_set, ticket_end}

pub both_has : (a b r : ℕ) → bit_at (bit_or a b) r ≡ 1 → (bit_at a r ≡ 1) ⊎ (bit_at b r ≡ 1)
both_has a b r one = dite (ℕ_discrete (bit_at a r) 1) (λ e. inl e)
    (λ n. let z : bit_at a r ≡ 0 = bit_off a r n in inr (sym (max_zero (bit_at b r)) ∙ (sym (ap (λ k. max k (bit_at b r)) z) ∙ (sym (bit_at_or a b r) ∙ one))))
  where
    max_zero : (n : ℕ) → max 0 n ≡ n
    max_zero n = omega arith

pub neither_has : (a b r : ℕ) → bit_at a r ≡ 0 → bit_at b r ≡ 0 → bit_at (bit_or a b) r ≡ 0
neither_has a b r x y = bit_at_or a b r ∙ (λ i. max (x i) (y i))

pub left_has : (a b r : ℕ) → bit_at a r ≡ 1 → bit_at (bit_or a b) r ≡ 1
left_has a b r x = let lt = bit_at-lt b r in bit_at_or a b r ∙ (ap (λ k. max k (bit_at b r)) x ∙ top (bit_at b r) lt)
  where
    top : (n : ℕ) → n < 2 → max 1 n ≡ 1
    top n lt = omega arith

pub right_has : (a b r : ℕ) → bit_at b r ≡ 1 → bit_at (bit_or a b) r ≡ 1
right_has a b r x = let lt = bit_at-lt a r in bit_at_or a b r ∙ (ap (λ k. max (bit_at a r) k) x ∙ top (bit_at a r) lt)
  where
    top : (n : ℕ) → n < 2 → max n 1 ≡ 1
    top n lt = omega arith

module _ {X F : Type 0} (list : X → List Entry) (fixed : X → F) (f : F) where
  abbrev St : Type 0
  St = State (Option X) (View F)

  abbrev Rule : St → Type 0
  Rule = TurnRule list fixed f

  abbrev any_step : Step (Option X)
  any_step = step 0 0 0 0 none

  -- split
  pub splits : (id : ℕ) (v : View F) (m : ℕ) → v.stage ≡ Rests → v.fixed ≡ Some f → ((r : ℕ) → bit_at m r ≡ 1 → bit_at v.rights r ≡ 1) → Splits Rule id v (kept_part m v) (given_part m v)
  splits id v m rests known part s h at =
      let d = h.lock in
      let left : View F = kept_part m v in
      let right : View F = given_part m v in
      let mine = h.each_seat id v at in
      let has : (r : ℕ) → bit_at left.rights r ≡ 1 → bit_at v.rights r ≡ 1 = λ r one. (cut_has v.rights m r (part r) one).0 in
      let stage : StageRule d id v.seen left.rights v.stage = subst (StageRule d id v.seen left.rights) (sym rests) tt in
      let seats : (j : ℕ) (u : View F) → get_elem? (set s.views id left) j ≡ some u → SeatRule f d j u =
      each_set (SeatRule f d) s.views id left
      (record { known = inl known; follows = follows_fewer v.seen v.rights left.rights d.log has mine.follows; low = λ r one. mine.low r (has r one); stage = stage; early = λ _. mine.early (ap counted_of rests) })
      (λ j u other e. h.each_seat j u e) in
      let new : (j : ℕ) (u : View F) → get_elem? (set s.views id left) j ≡ some u → (r : ℕ) → bit_at m r ≡ 1 → bit_at u.rights r ≡ 0 =
      each_set (λ _ u. (r : ℕ) → bit_at m r ≡ 1 → bit_at u.rights r ≡ 0) s.views id left
      (λ r one. bit_off left.rights r (λ o. bit_apart m r (cut_has v.rights m r (part r) o).1 one))
      (λ j u other e r one. h.apart id j v u (λ z. other (sym z)) at e r (part r one)) in
      let no_ticket : (k : ℕ) → ticket_of v.stage ≡ Some k → ⊥ = λ k t. let none_is : None ≡ Some k = sym (ap ticket_of rests) ∙ t in cc in
      record {
        lock = d;
        right = h.right;
        words = h.words;
        order = h.order;
        few = h.few;
        low = h.low;
        home = h.home;
        same = h.same;
        away = h.away;
        each_ticket = λ k le lt. ticket_end (set s.views id left) d.owner h.right k right (ticket_set s.views d.owner h.right k id v left at (λ _ t _. absurd (no_ticket k t)) (h.each_ticket k le lt));
        each_seat = λ j u e. ⊎_elim
            (λ (t : get_elem? (set s.views id left) j ≡ some u). seats j u t)
            (λ (t : (j ≡ length (set s.views id left)) × (right ≡ u)). subst (SeatRule f d j) t.1
            (record { known = inl known; follows = follows_fewer v.seen v.rights m d.log part mine.follows; low = λ r one. mine.low r (part r one); stage = tt; early = λ _. mine.early (ap counted_of rests) }))
            (at_end (set s.views id left) right u j e);
        apart = apart_end (set s.views id left) right new (apart_set s.views id v left at has h.apart);
      }

  -- the view of both
  joined_ok : (d : TicketLock) (id : ℕ) (v w : View F) (b : Bool) → v.fixed ≡ Some f → ((b ≡ true) × (length v.seen ≤ length w.seen)) ⊎ ((b ≡ false) × (length w.seen < length v.seen))
      → Follows v.seen v.rights d.log → Follows w.seen w.rights d.log → ((r : ℕ) → bit_at v.rights r ≡ 1 → r < 16) → ((r : ℕ) → bit_at w.rights r ≡ 1 → r < 16) → Begins v.seen d.base → Begins w.seen d.base
      → SeatRule f d id (joined_by b v w)
  joined_ok d id v w true known tells fv fw lv lw ev ew =
      let le : length v.seen ≤ length w.seen = ⊎_elim (λ t. t.1) (λ (t : (true ≡ false) × (length w.seen < length v.seen)). absurd (true≢false t.0)) tells in record {
        known = inl known;
        follows = follows_both v.seen w.seen v.rights w.rights d.log fv fw le;
        low = λ r one. ⊎_elim (lv r) (lw r) (both_has v.rights w.rights r one);
        stage = (fv, le, left_has v.rights w.rights);
        early = λ _. ew;
      }
  joined_ok d id v w false known tells fv fw lv lw ev ew =
      let le : length w.seen ≤ length v.seen = ⊎_elim (λ (t : (false ≡ true) × (length v.seen ≤ length w.seen)). absurd (true≢false (sym t.0))) (λ t. let lt = t.1 in omega arith) tells in record {
        known = inl known;
        follows = follows_both' w.seen v.seen w.rights v.rights d.log fw fv le;
        low = λ r one. ⊎_elim (lv r) (lw r) (both_has v.rights w.rights r one);
        stage = (fw, le, right_has v.rights w.rights);
        early = λ _. ev;
      }

  rights_by : (b : Bool) (v w : View F) → (joined_by b v w).rights ≡ bit_or v.rights w.rights
  rights_by true v w = refl
  rights_by false v w = refl

  -- join
  pub joins : (id : ℕ) (v : View F) (other : ℕ) (w : View F) → v.stage ≡ Rests → w.stage ≡ Rests → v.fixed ≡ Some f → Joins Rule id v other w (joined_view v w) spent_view
  joins id v other w rests rests' known s h at away there =
      let d = h.lock in
      let both : View F = joined_view v w in
      let there' : get_elem? s.views other ≡ some w = sym (set_else s.views id other both away) ∙ there in
      let mine = h.each_seat id v at in
      let theirs = h.each_seat other w there' in
      let rights : both.rights ≡ bit_or v.rights w.rights = rights_by (leb (length v.seen) (length w.seen)) v w in
      let no_ticket : (k : ℕ) → ticket_of v.stage ≡ Some k → ⊥ = λ k t. let none_is : None ≡ Some k = sym (ap ticket_of rests) ∙ t in cc in
      let no_ticket' : (k : ℕ) → ticket_of w.stage ≡ Some k → ⊥ = λ k t. let none_is : None ≡ Some k = sym (ap ticket_of rests') ∙ t in cc in
      let old : (j : ℕ) (u : View F) → j ≢ id → j ≢ other → get_elem? s.views j ≡ some u → (r : ℕ) → bit_at both.rights r ≡ 1 → bit_at u.rights r ≡ 0 = λ j u n n' e r one.
      ⊎_elim (λ o. h.apart id j v u (λ z. n (sym z)) at e r o) (λ o. h.apart other j w u (λ z. n' (sym z)) there' e r o) (both_has v.rights w.rights r (subst (λ q. bit_at q r ≡ 1) rights one)) in
      let old' : (j : ℕ) (u : View F) → j ≢ id → j ≢ other → get_elem? s.views j ≡ some u → (r : ℕ) → bit_at u.rights r ≡ 1 → bit_at both.rights r ≡ 0 = λ j u n n' e r one.
      subst (λ q. bit_at q r ≡ 0) (sym rights) (neither_has v.rights w.rights r (h.apart j id u v n e at r one) (h.apart j other u w n' e there' r one)) in
      record {
        lock = d;
        right = h.right;
        words = h.words;
        order = h.order;
        few = h.few;
        low = h.low;
        home = h.home;
        same = h.same;
        away = h.away;
        each_ticket = λ k le lt. ticket_set (set s.views id both) d.owner h.right k other w spent_view there (λ _ t _. absurd (no_ticket' k t))
            (ticket_set s.views d.owner h.right k id v both at (λ _ t _. absurd (no_ticket k t)) (h.each_ticket k le lt));
        each_seat = each_set (SeatRule f d) (set s.views id both) other spent_view
            (record { known = inr refl; follows = (d.log, refl, none_zero d.log); low = λ r one. absurd (bit_apart 0 r (bit_at-zero r) one); stage = tt; early = λ _. (d.base, refl) })
            (λ j u n e. each_set (SeatRule f d) s.views id both
            (joined_ok d id v w (leb (length v.seen) (length w.seen)) known (leb_tells (length v.seen) (length w.seen)) mine.follows theirs.follows mine.low theirs.low (mine.early (ap counted_of rests)) (theirs.early (ap counted_of rests')))
            (λ i y _ e'. h.each_seat i y e') j u e);
        apart = λ i j x y n ei ej r one. each_set (λ k z. (k ≢ i) → bit_at z.rights r ≡ 0) (set s.views id both) other spent_view
            (λ _. bit_at-zero r)
            (λ k z far ek. each_set (λ k z. k ≢ other → k ≢ i → bit_at z.rights r ≡ 0) s.views id both
            (λ _ me. each_set (λ p q. p ≢ id → bit_at q.rights r ≡ 1 → bit_at both.rights r ≡ 0) (set s.views id both) other spent_view
            (λ _ o. absurd (bit_apart 0 r (bit_at-zero r) o))
            (λ p q pn pe. each_set (λ p q. p ≢ other → p ≢ id → bit_at q.rights r ≡ 1 → bit_at both.rights r ≡ 0) s.views id both (λ _ z _. absurd (z refl)) (λ p q a b c e o. old' p q a c b r o) p q pe pn)
            i x ei (λ z. me (sym z)) one)
            (λ k z kn ke far' ki. each_set (λ p q. p ≢ k → bit_at q.rights r ≡ 1 → bit_at z.rights r ≡ 0) (set s.views id both) other spent_view
            (λ _ o. absurd (bit_apart 0 r (bit_at-zero r) o))
            (λ p q pn pe. each_set (λ p q. p ≢ k → bit_at q.rights r ≡ 1 → bit_at z.rights r ≡ 0) s.views id both
            (λ _ o. old k z kn far' ke r o)
            (λ p q a b c o. h.apart p k q z c b ke r o) p q pe)
            i x ei (λ e. ki (sym e)) one)
            k z ek far)
            j y ej (λ e. n (sym e));
      }

  -- the look after a join
  pub checks : (slots id : ℕ) (m : Me (Option X) (View F)) (other : List Entry) (theirs : ℕ) → m.0.stage ≡ Joined other theirs → m.0.fixed ≡ Some f → Allows Rule slots id m 0 (λ n. n) (CheckTells any_step m)
  checks slots id m other theirs told known s h deep at small =
      let d = h.lock in
      let v : View F = m.0 in
      let w : View F = at_stage v Rests in
      let mine = h.each_seat id v at in
      let ok : StageRule d id v.seen v.rights (Joined other theirs) = subst (StageRule d id v.seen v.rights) told mine.stage in
      let same_words : slice_set s.words 0 (slice_index s.words 0) ≡ s.words = subst (λ (ws : List ℕ). slice_set ws 0 (slice_index ws 0) ≡ ws) (sym h.words) refl in
      let no_ticket : (k : ℕ) → ticket_of v.stage ≡ Some k → ⊥ = λ k t. let none_is : None ≡ Some k = sym (ap ticket_of told) ∙ t in cc in (
        w,
        keeps,
        tt,
        record {
          lock = d;
          right = h.right;
          words = same_words ∙ h.words;
          order = h.order;
          few = h.few;
          low = h.low;
          home = h.home;
          same = h.same;
          away = h.away;
          each_ticket = λ k le lt. ticket_set s.views d.owner h.right k id v w at (λ _ t _. absurd (no_ticket k t)) (h.each_ticket k le lt);
          each_seat = each_set (SeatRule f d) s.views id w (record { known = inl known; follows = mine.follows; low = mine.low; stage = tt; early = λ _. mine.early (ap counted_of told) }) (λ j u _ e. h.each_seat j u e);
          apart = apart_set s.views id v w at (λ r o. o) h.apart;
        },
        (λ other' theirs' is. let same : Joined other theirs ≡ Joined other' theirs' = sym told ∙ is in let os : other ≡ other' = cc in let ts : theirs ≡ theirs' = cc in
            (refl, subst (λ (z : List Entry × ℕ). Follows z.0 z.1 v.seen) (λ i. (os i, ts i)) (follows_longer other v.seen theirs v.rights d.log ok.0 mine.follows ok.1))),
      )

  -- who has all rights has seen the whole list
  pub closes : (id : ℕ) (v : View F) (ws : List ℕ) (xs : List (Option X)) → v.stage ≡ Rests → v.rights ≡ all_rights → Final (Seen Rule id v) ws xs
      → (x : X) × (get_elem? xs 0 ≡ some (Some x)) × (list x ≡ v.seen) × (fixed x ≡ f)
  closes id v ws xs rests all final =
      let s = final.0 in
      let h : Rule s = final.1.0 in
      let at : get_elem? s.views id ≡ some v = final.1.1 in
      let d = h.lock in
      let mine = h.each_seat id v at in
      let at_home : d.taken ≡ false = is_false d.taken (λ t. let lt = (h.away t).1 in nobody s h id v at rests all (h.each_ticket d.served (omega arith) lt)) in
      let x = h.home at_home in
      let f' = mine.follows in
      let bare : NoneNeeds all_rights f'.0 = subst (λ q. NoneNeeds q f'.0) all f'.2 in
      let low : AllBelow16 f'.0 = low_back v.seen f'.0 (subst AllBelow16 f'.1 h.low) in
      let whole : d.log ≡ v.seen = f'.1 ∙ (ap (λ (l : List Entry). v.seen ++ l) (none_all f'.0 low bare) ∙ append-nil v.seen) in
      (x.0, final.4 0 (Some x.0) (ap (λ hs. get_elem? hs 0) x.1), x.2 ∙ whole, x.3)
    where
      is_false : (b : Bool) → (b ≡ true → ⊥) → b ≡ false
      is_false true n = absurd (n refl)
      is_false false n = refl

      nobody : (s : St) (h : Rule s) (id : ℕ) (v : View F) → get_elem? s.views id ≡ some v → v.stage ≡ Rests → v.rights ≡ all_rights → TicketRule s.views h.lock.owner h.right h.lock.served → ⊥
      nobody s h id v at rests all t =
          let k = h.lock.owner h.lock.served in let r = h.right h.lock.served in
          let r_low : r < 16 = (h.each_seat k t.holder t.at).low r t.has in
          let have : bit_at v.rights r ≡ 1 = subst (λ q. bit_at q r ≡ 1) (sym all) (bit_at_ones 16 r r_low) in
          dite (ℕ_discrete k id)
          (λ e. let same : t.holder ≡ v = one_at s.views id t.holder v (subst (λ (j : ℕ). get_elem? s.views j ≡ some t.holder) e t.at) at in
          let both : Some h.lock.served ≡ None = sym t.ticket ∙ (ap (λ (u : View F). ticket_of u.stage) same ∙ ap ticket_of rests) in absurd (cc))
          (λ n. bit_apart t.holder.rights r (h.apart id k v t.holder (λ z. n (sym z)) at t.at r have) t.has)

-- what a join leaves to compare
module _ {F : Type 0} where
  pub record Compares (v w : View F) (both : View F) : Type 0 where
    pub other : List Entry
    pub theirs : ℕ
    pub told : both.stage ≡ Joined other theirs
    pub fixes : both.fixed ≡ v.fixed
    pub rights : both.rights ≡ bit_or v.rights w.rights
    pub one : (both.seen ≡ v.seen) ⊎ (both.seen ≡ w.seen)
    pub then : (l : List Entry) → l ≡ both.seen → Follows other theirs l → Follows v.seen v.rights l × Follows w.seen w.rights l

  compares : (b : Bool) (v w : View F) → Compares v w (joined_by b v w)
  compares true v w = record {
    other = v.seen;
    theirs = v.rights;
    told = refl;
    fixes = refl;
    rights = refl;
    one = inr refl;
    then = λ l is fits. (fits, subst (Follows w.seen w.rights) (sym is) (follows_self w.rights w.seen));
  }
  compares false v w = record {
    other = w.seen;
    theirs = w.rights;
    told = refl;
    fixes = refl;
    rights = refl;
    one = inl refl;
    then = λ l is fits. (subst (Follows v.seen v.rights) (sym is) (follows_self v.rights v.seen), fits);
  }

  pub joined_tells : (v w : View F) → Compares v w (joined_view v w)
  joined_tells v w = compares (leb (length v.seen) (length w.seen)) v w
