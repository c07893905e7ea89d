-- Each step keeps the rule.
use Rattle.std.proofs.Common.{◌≡◌, ◌≢◌, ◌⊎◌, ℕ, zero, suc, ◌+◌, ◌%◌, ◌^◌, ◌<◌, ◌≤◌, Bool, true, false, true≢false, List, [], ◌∷◌, ◌++◌, length, set, slice_index, slice_set, refl, sym, ap, ◌∙◌, subst, inl, inr, arith, length-append, Option, Some, None}
use Rattle.std.proofs.lemmas.List.{append-nil}
use mathlib.Core.Option.{some, none, some-injective, some-ne-none}
use mathlib.Core.Logic.{dite}
use native.Mathlib.Decide.{ℕ_discrete, dec_le}
use lib.ListN.{get_elem?}
use Rattle.std.specs.Int.{bit_at}
use Rattle.std.proofs.lemmas.Nat.Bits.{bit_at-zero, bit_at_ones_above}
use Rattle.atomic_table.specs.Table.{State, Me, Step, step, Act, keeps, takes, gives, stepped, Valid, carried_after, Allows, opening}
use Rattle.atomic_table.proofs.Lists.{set_again, one_turn}
use Rattle.lapi_turn.specs.declared.rule.Stage.{Stage}
use Rattle.lapi_turn.specs.declared.rule.Stage.TheVariants.{Rests, Joined, Waits, HasTurn}
use Rattle.lapi_turn.specs.declared.rule.View.{View}
use Rattle.lapi_turn.specs.Entries.{Entry, Follows}
use Rattle.lapi_turn.specs.TurnRule.{TicketLock, IsInTurn, StageRule, SeatRule, TicketRule, Apart, TurnRule, ticket_of, counted_of, spent_view, first_view}
use Rattle.lapi_turn.specs.Steps.{at_stage, having_seen, seen_after, DrawTells, LookTells, CountTells, ServeTells}
use Rattle.lapi_turn.proofs.Lists.{bit_off, bit_apart, set_at, one_at, follows_self, follows_more, low_append}
use Rattle.lapi_turn.proofs.Views.{put, put_here, put_else, each_set, apart_set, ticket_set, few_tickets}

add_mod : (n : ℕ) → (n % 18446744073709551616 + 1) % 18446744073709551616 ≡ (n + 1) % 18446744073709551616
add_mod n = omega arith

abbrev Words : TicketLock → List ℕ
Words d = (d.drawn % 2 ^ 64) ∷ (d.served % 2 ^ 64) ∷ (length d.log % 2 ^ 64) ∷ []

off : true ≡ false → ⊥
off e = true≢false e

-- a view with a right is not spent
known_of : {F : Type 0} (f : F) (v : View F) (r : ℕ) → bit_at v.rights r ≡ 1 → (v.fixed ≡ Some f) ⊎ (v ≡ spent_view) → v.fixed ≡ Some f
known_of f v r one (inl k) = k
known_of f v r one (inr k) = absurd (bit_apart 0 r (bit_at-zero r) (subst (λ (u : View _). bit_at u.rights r ≡ 1) k one))

module _ {X F : Type 0} (list : X → List Entry) (fixed : X → F) (f : F) where
  abbrev St : Type 0
  St = State (Option X) (View F)

  -- what a step tells depends on no operand of it
  abbrev any_step : Step (Option X)
  any_step = step 0 0 0 0 none

  abbrev Rule : St → Type 0
  Rule = TurnRule list fixed f

  has_no_ticket : (vs : List (View F)) (owner right : ℕ → ℕ) (k me : ℕ) (v : View F) → get_elem? vs me ≡ some v → ticket_of v.stage ≡ None → TicketRule vs owner right k → owner k ≢ me
  has_no_ticket vs owner right k me v at rests t e =
      let same : t.holder ≡ v = one_at vs me t.holder v (subst (λ (j : ℕ). get_elem? vs j ≡ some t.holder) e t.at) at in
      let both : Some k ≡ None = sym t.ticket ∙ (ap (λ (u : View F). ticket_of u.stage) same ∙ rests) in absurd (cc)

  -- draw
  pub draws : (slots id : ℕ) (v : View F) (c : List (ℕ × Option X)) (r : ℕ) → v.stage ≡ Rests → bit_at v.rights r ≡ 1
      → Allows Rule slots id (v, c) 0 (λ n. (n + 1) % 2 ^ 64) (DrawTells any_step (v, c))
  draws slots id v c r rests one s h deep at small =
      let d = h.lock in
      let d' : TicketLock = record { drawn = d.drawn + 1; served = d.served; owner = put d.owner d.drawn id; taken = d.taken; base = d.base; log = d.log } in
      let w : View F = at_stage v (Waits d.drawn) in
      let mine = h.each_seat id v at in
      let right' : ℕ → ℕ = put h.right d.drawn r in
      let order = h.order in
      let order' : d.served ≤ d.drawn + 1 = omega arith in
      let apart' : Apart (set s.views id w) = apart_set s.views id v w at (λ r o. o) h.apart in
      let tickets : (k : ℕ) → d.served ≤ k → k < d.drawn + 1 → TicketRule (set s.views id w) d'.owner right' k = λ k le lt. dite (ℕ_discrete k d.drawn)
      (λ e. record {
        holder = w;
        at = subst (λ (j : ℕ). get_elem? (set s.views id w) j ≡ some w) (sym (ap d'.owner e ∙ put_here d.owner d.drawn id)) (set_at s.views id w v at);
        ticket = ap Some (sym e);
        has = subst (λ (q : ℕ). bit_at v.rights q ≡ 1) (sym (ap right' e ∙ put_here h.right d.drawn r)) one;
      })
      (λ n. let t = h.each_ticket k le (omega arith) in
      let not_mine = has_no_ticket s.views d.owner h.right k id v at (ap ticket_of rests) t in
      let t' = ticket_set s.views d.owner h.right k id v w at (λ e _ _. absurd (not_mine e)) t in
      record { holder = t'.holder; at = subst (λ (j : ℕ). get_elem? (set s.views id w) j ≡ some t'.holder) (sym (put_else d.owner d.drawn id k n)) t'.at; ticket = t'.ticket; has = subst (λ (q : ℕ). bit_at t'.holder.rights q ≡ 1) (sym (put_else h.right d.drawn r k n)) t'.has }) in
      let lows : (j : ℕ) (u : View F) → get_elem? (set s.views id w) j ≡ some u → (r : ℕ) → bit_at u.rights r ≡ 1 → r < 16 =
      each_set (λ _ u. (r : ℕ) → bit_at u.rights r ≡ 1 → r < 16) s.views id w mine.low (λ j u _ e. (h.each_seat j u e).low) in
      let free : d.taken ≡ true → d.drawn ≢ d.served = λ t e. let lt = (h.away t).1 in omega arith in (
        w,
        keeps,
        tt,
        record {
          lock = d';
          right = right';
          words = subst (λ (ws : List ℕ). slice_set ws 0 ((slice_index ws 0 + 1) % 2 ^ 64) ≡ Words d') (sym h.words) (λ i. add_mod d.drawn i ∷ (d.served % 2 ^ 64) ∷ (length d.log % 2 ^ 64) ∷ []);
          order = order';
          few = few_tickets (set s.views id w) d'.owner right' d.served (d.drawn + 1) order' apart' lows tickets;
          low = h.low;
          home = h.home;
          same = h.same;
          away = λ t. let a = h.away t in (a.0, omega arith);
          each_ticket = tickets;
          each_seat = each_set (SeatRule f d') s.views id w
              (record { known = inl (known_of f v r one mine.known); follows = mine.follows; low = mine.low; stage = (order, omega arith, put_here d.owner d.drawn id, free); early = λ _. mine.early (ap counted_of rests) })
              (λ j u other e. let ok = h.each_seat j u e in record { known = ok.known; follows = ok.follows; low = ok.low; stage = others d id j u.seen u.rights u.stage ok.stage; early = ok.early });
          apart = apart';
        },
        (d.drawn, sym (ap (λ (ws : List ℕ). slice_index ws 0) h.words), refl),
      )
    where
      others : (d : TicketLock) (id j : ℕ) (seen : List Entry) (rights : ℕ) (stage : Stage) → StageRule d j seen rights stage
          → StageRule (record { drawn = d.drawn + 1; served = d.served; owner = put d.owner d.drawn id; taken = d.taken; base = d.base; log = d.log }) j seen rights stage
      others d id j seen rights Rests ok = tt
      others d id j seen rights (Joined other theirs) ok = ok
      others d id j seen rights (Waits k) ok = let lt = ok.1 in (ok.0, omega arith, put_else d.owner d.drawn id k (λ e. omega arith) ∙ ok.2, ok.3)
      others d id j seen rights (HasTurn k base c) ok = let lt = ok.1 in (ok.0, omega arith, put_else d.owner d.drawn id k (λ e. omega arith) ∙ ok.2, ok.3, ok.4, ok.5)

  abbrev Outcome : (St → Type 0) → St → ℕ → (ℕ → ℕ) → ℕ → Me (Option X) (View F) → (ℕ → Me (Option X) (View F) → Type 0) → Type 0
  Outcome rule s i g id me then = (w : View F) × (a : Act (Option X)) × Valid s.homes me.1 a × rule (stepped s i (g (slice_index s.words i)) id me.1 w a) × then (slice_index s.words i) (w, carried_after me.1 a)

  -- where the slot is at home the seat whose turn it is takes it
  takes_turn : (s : St) (h : Rule s) (id : ℕ) (v : View F) (c : List (ℕ × Option X)) (k r : ℕ) → get_elem? s.views id ≡ some v → v.stage ≡ Waits k → bit_at v.rights r ≡ 1
      → StageRule h.lock id v.seen v.rights (Waits k) → h.lock.served ≡ k → h.lock.taken ≡ false → Outcome Rule s 1 (λ n. n) id (v, c) (LookTells list fixed any_step (v, c))
  takes_turn s h id v c k r at waits one ok now home =
      let d = h.lock in
      let mine = h.each_seat id v at in
      let x = h.home home in
      let w : View F = at_stage v (HasTurn k (list x.0) false) in
      let d' : TicketLock = record { drawn = d.drawn; served = d.served; owner = d.owner; taken = true; base = d.base; log = d.log } in (
        w,
        takes 0 (Some x.0),
        ap (λ hs. get_elem? hs 0) x.1,
        record {
          lock = d';
          right = h.right;
          words = subst (λ (ws : List ℕ). slice_set ws 1 (slice_index ws 1) ≡ Words d') (sym h.words) refl;
          order = h.order;
          few = h.few;
          low = h.low;
          home = λ t. absurd (off t);
          same = λ t. absurd (off t);
          away = λ _. (ap (λ hs. slice_set hs 0 none) x.1, subst (λ (q : ℕ). q < d.drawn) (sym now) ok.1);
          each_ticket = λ q le lt. ticket_set s.views d.owner h.right q id v w at (λ _ t b. (sym (ap ticket_of waits) ∙ t, b)) (h.each_ticket q le lt);
          each_seat = each_set (SeatRule f d') s.views id w
              (record { known = inl (known_of f v r one mine.known); follows = mine.follows; low = mine.low; stage = (sym now, ok.1, ok.2, refl, sym x.2, x.2 ∙ sym (h.same home)); early = λ _. mine.early (ap counted_of waits) })
              (λ j u other e. let o = h.each_seat j u e in record { known = o.known; follows = o.follows; low = o.low; stage = others d k id j other now ok.2 home u.seen u.rights u.stage o.stage; early = o.early });
          apart = apart_set s.views id v w at (λ r o. o) h.apart;
        },
        (λ k' is. let same : Waits k ≡ Waits k' = sym waits ∙ is in let same' : k ≡ k' = cc in let word : slice_index s.words 1 ≡ d.served % 2 ^ 64 = ap (λ (ws : List ℕ). slice_index ws 1) h.words in (
          (λ _. (x.0, (λ i. (at_stage v (HasTurn (same' i) (list x.0) false), (0, Some x.0) ∷ c)), subst (Follows v.seen v.rights) (sym x.2) mine.follows, known_of f v r one mine.known ∙ ap Some (sym x.3))),
          (λ n. absurd (n (word ∙ ap (λ (q : ℕ). q % 2 ^ 64) (now ∙ same')))),
        )),
      )
    where
      others : (d : TicketLock) (k id j : ℕ) → j ≢ id → d.served ≡ k → d.owner k ≡ id → d.taken ≡ false → (seen : List Entry) (rights : ℕ) (stage : Stage) → StageRule d j seen rights stage
          → StageRule (record { drawn = d.drawn; served = d.served; owner = d.owner; taken = true; base = d.base; log = d.log }) j seen rights stage
      others d k id j other now own home seen rights Rests o = tt
      others d k id j other now own home seen rights (Joined a b) o = o
      others d k id j other now own home seen rights (Waits q) o = (o.0, o.1, o.2, (λ _ e. other (sym o.2 ∙ (ap d.owner (e ∙ now) ∙ own))))
      others d k id j other now own home seen rights (HasTurn q base b) o = absurd (off (sym o.3 ∙ home))

  -- a look that finds another's number changes nothing
  looks_on : (s : St) (h : Rule s) (id : ℕ) (v : View F) (c : List (ℕ × Option X)) (k : ℕ) → get_elem? s.views id ≡ some v → v.stage ≡ Waits k
      → h.lock.served % 2 ^ 64 ≢ k % 2 ^ 64 → Outcome Rule s 1 (λ n. n) id (v, c) (LookTells list fixed any_step (v, c))
  looks_on s h id v c k at waits n =
      let word : slice_index s.words 1 ≡ h.lock.served % 2 ^ 64 = ap (λ (ws : List ℕ). slice_index ws 1) h.words in
      let same_words : slice_set s.words 1 (slice_index s.words 1) ≡ s.words = subst (λ (ws : List ℕ). slice_set ws 1 (slice_index ws 1) ≡ ws) (sym h.words) refl in (
        v,
        keeps,
        tt,
        subst Rule (λ i. record { words = sym same_words i; homes = s.homes; views = sym (set_again s.views id v at) i }) h,
        (λ k' is. let same : Waits k' ≡ Waits k = sym is ∙ waits in let same' : k' ≡ k = cc in ((λ e. absurd (n (sym word ∙ (e ∙ ap (λ (q : ℕ). q % 2 ^ 64) same')))), (λ _. refl))),
      )

  -- look
  pub looks : (slots id : ℕ) (v : View F) (c : List (ℕ × Option X)) (k r : ℕ) → v.stage ≡ Waits k → bit_at v.rights r ≡ 1
      → Allows Rule slots id (v, c) 1 (λ n. n) (LookTells list fixed any_step (v, c))
  looks slots id v c k r waits one s h deep at small =
      let ok : StageRule h.lock id v.seen v.rights (Waits k) = subst (StageRule h.lock id v.seen v.rights) waits (h.each_seat id v at).stage in
      let few = h.few in
      let le = ok.0 in
      let lt = ok.1 in
      dite (ℕ_discrete (h.lock.served % 2 ^ 64) (k % 2 ^ 64))
      (λ e. let now : h.lock.served ≡ k = one_turn h.lock.served k (2 ^ 64) le (omega arith) e in
      takes_turn s h id v c k r at waits one ok now (is_false h.lock.taken (λ t. ok.3 t (sym now))))
      (looks_on s h id v c k at waits)
    where
      is_false : (b : Bool) → (b ≡ true → ⊥) → b ≡ false
      is_false true n = absurd (n refl)
      is_false false n = refl

  -- count
  pub counts : (slots id : ℕ) (v : View F) (k : ℕ) (base : List Entry) (x : X) (e : Entry) → v.stage ≡ HasTurn k base false → list x ≡ base ++ e ∷ [] → bit_at v.rights e.1 ≡ 1
      → Allows Rule slots id (v, (0, Some x) ∷ []) 2 (λ n. (n + 1) % 2 ^ 64) (CountTells list any_step (v, (0, Some x) ∷ []))
  counts slots id v k base x e turns grows one s h deep at small =
      let d = h.lock in
      let mine = h.each_seat id v at in
      let ok : StageRule d id v.seen v.rights (HasTurn k base false) = subst (StageRule d id v.seen v.rights) turns mine.stage in
      let w : View F = having_seen v (list x) (HasTurn k base true) in
      let grown : d.log ++ e ∷ [] ≡ list x = ap (λ (l : List Entry). l ++ e ∷ []) ok.4 ∙ sym grows in
      let d' : TicketLock = record { drawn = d.drawn; served = d.served; owner = d.owner; taken = d.taken; base = d.base; log = d.log ++ e ∷ [] } in
      let e_low : e.1 < 16 = mine.low e.1 one in
      let long : length (d.log ++ e ∷ []) ≡ length d.log + 1 = length-append d.log (e ∷ []) in (
        w,
        keeps,
        tt,
        record {
          lock = d';
          right = h.right;
          words = subst (λ (ws : List ℕ). slice_set ws 2 ((slice_index ws 2 + 1) % 2 ^ 64) ≡ Words d') (sym h.words)
              (λ i. (d.drawn % 2 ^ 64) ∷ (d.served % 2 ^ 64) ∷ (add_mod (length d.log) ∙ ap (λ (n : ℕ). n % 2 ^ 64) (sym long)) i ∷ []);
          order = h.order;
          few = h.few;
          low = low_append d.log (e ∷ []) h.low (e_low, tt);
          home = λ t. absurd (off (sym ok.3 ∙ t));
          same = λ t. absurd (off (sym ok.3 ∙ t));
          away = h.away;
          each_ticket = λ q le lt. ticket_set s.views d.owner h.right q id v w at (λ _ t b. (sym (ap ticket_of turns) ∙ t, b)) (h.each_ticket q le lt);
          each_seat = each_set (SeatRule f d') s.views id w
              (record {
                known = inl (known_of f v e.1 one mine.known);
                follows = subst (λ (l : List Entry). Follows l v.rights (d.log ++ e ∷ [])) grown (follows_self v.rights (d.log ++ e ∷ []));
                low = mine.low;
                stage = (ok.0, ok.1, ok.2, ok.3, (sym grown, (e, grown ∙ grows)), ok.5);
                early = λ z. absurd (off z);
              })
              (λ j u other at'. let o = h.each_seat j u at' in let bare : bit_at u.rights e.1 ≡ 0 = h.apart id j v u (λ z. other (sym z)) at at' e.1 one in
              record { known = o.known; follows = follows_more u.seen u.rights d.log e o.follows bare; low = o.low; stage = others d k id j e other ok.0 ok.2 u.seen u.rights bare u.stage o.stage; early = o.early });
          apart = apart_set s.views id v w at (λ r o. o) h.apart;
        },
        (λ k' base' x' is has. let same : HasTurn k base false ≡ HasTurn k' base' false = sym turns ∙ is in let ks : k ≡ k' = cc in let bs : base ≡ base' = cc in
            let p : ℕ × Option X = (0, Some x) in let p' : ℕ × Option X = (0, Some x') in let ps : p ≡ p' = cc in let os : Some x ≡ Some x' = ap (λ (z : ℕ × Option X). z.1) ps in let xs : x ≡ x' = cc in
            (λ i. (having_seen v (list (xs i)) (HasTurn (ks i) (bs i) true), (0, Some x) ∷ []))),
      )
    where
      others : (d : TicketLock) (k id j : ℕ) (e : Entry) → j ≢ id → k ≡ d.served → d.owner k ≡ id → (seen : List Entry) (rights : ℕ) → bit_at rights e.1 ≡ 0 → (stage : Stage) → StageRule d j seen rights stage
          → StageRule (record { drawn = d.drawn; served = d.served; owner = d.owner; taken = d.taken; base = d.base; log = d.log ++ e ∷ [] }) j seen rights stage
      others d k id j e other now own seen rights bare Rests o = tt
      others d k id j e other now own seen rights bare (Joined a b) o = (follows_more a b d.log e o.0 (bit_off b e.1 (λ z. bit_apart rights e.1 bare (o.2 e.1 z))), o.1, o.2)
      others d k id j e other now own seen rights bare (Waits q) o = o
      others d k id j e other now own seen rights bare (HasTurn q base b) o = absurd (other (sym o.2 ∙ (ap d.owner (o.0 ∙ sym now) ∙ own)))

  -- serve
  pub serves : (slots id : ℕ) (v : View F) (k r : ℕ) (base : List Entry) (c : Bool) (x : X) → v.stage ≡ HasTurn k base c → bit_at v.rights r ≡ 1 → list x ≡ seen_after c v.seen base → fixed x ≡ f
      → Allows Rule slots id (v, (0, Some x) ∷ []) 1 (λ n. (n + 1) % 2 ^ 64) (ServeTells any_step (v, (0, Some x) ∷ []))
  serves slots id v k r base c x turns one lists same_fixed s h deep at small =
      let d = h.lock in
      let mine = h.each_seat id v at in
      let ok : StageRule d id v.seen v.rights (HasTurn k base c) = subst (StageRule d id v.seen v.rights) turns mine.stage in
      let w : View F = having_seen v (seen_after c v.seen base) Rests in
      let out = h.away ok.3 in
      let whole : seen_after c v.seen base ≡ d.log = all_seen c d.log v.seen base ok.4 in
      let k_is = ok.0 in
      let k_lt = ok.1 in
      let few = h.few in
      let d' : TicketLock = record { drawn = d.drawn; served = d.served + 1; owner = d.owner; taken = false; base = d.log; log = d.log } in (
        w,
        gives,
        tt,
        record {
          lock = d';
          right = h.right;
          words = subst (λ (ws : List ℕ). slice_set ws 1 ((slice_index ws 1 + 1) % 2 ^ 64) ≡ Words d') (sym h.words) (λ i. (d.drawn % 2 ^ 64) ∷ add_mod d.served i ∷ (length d.log % 2 ^ 64) ∷ []);
          order = omega arith;
          few = omega arith;
          low = h.low;
          home = λ _. (x, ap (λ hs. slice_set hs 0 (some (Some x))) out.0, lists ∙ whole, same_fixed);
          same = λ _. refl;
          away = λ t. absurd (off (sym t));
          each_ticket = λ q le lt. ticket_set s.views d.owner h.right q id v w at
              (λ _ t b. let both : Some k ≡ Some q = sym (ap ticket_of turns) ∙ t in let same : k ≡ q = cc in absurd (omega arith))
              (h.each_ticket q (omega arith) lt);
          each_seat = each_set (SeatRule f d') s.views id w
              (record { known = inl (known_of f v r one mine.known); follows = subst (λ (l : List Entry). Follows l v.rights d.log) (sym whole) (follows_self v.rights d.log); low = mine.low; stage = tt; early = λ _. ([], sym whole ∙ sym (append-nil (seen_after c v.seen base))) })
              (λ j u other at'. let o = h.each_seat j u at' in record { known = o.known; follows = o.follows; low = o.low; stage = others d k id j other ok.0 ok.2 u.seen u.rights u.stage o.stage; early = λ _. (o.follows.0, o.follows.1) });
          apart = apart_set s.views id v w at (λ r o. o) h.apart;
        },
        (λ k' base' c' is. let same : HasTurn k base c ≡ HasTurn k' base' c' = sym turns ∙ is in let bs : base ≡ base' = cc in let cs : c ≡ c' = cc in
            (λ i. (having_seen v (seen_after (cs i) v.seen (bs i)) Rests, []))),
      )
    where
      all_seen : (c : Bool) (log seen base : List Entry) → IsInTurn log seen base c → seen_after c seen base ≡ log
      all_seen true log seen base t = t.0
      all_seen false log seen base t = sym t

      others : (d : TicketLock) (k id j : ℕ) → j ≢ id → k ≡ d.served → d.owner k ≡ id → (seen : List Entry) (rights : ℕ) (stage : Stage) → StageRule d j seen rights stage
          → StageRule (record { drawn = d.drawn; served = d.served + 1; owner = d.owner; taken = false; base = d.log; log = d.log }) j seen rights stage
      others d k id j other now own seen rights Rests o = tt
      others d k id j other now own seen rights (Joined a b) o = o
      others d k id j other now own seen rights (Waits q) o = let le = o.0 in let n : q ≢ d.served = λ e. other (sym o.2 ∙ (ap d.owner (e ∙ sym now) ∙ own)) in (omega arith, o.1, o.2, (λ t. absurd (off (sym t))))
      others d k id j other now own seen rights (HasTurn q base b) o = absurd (other (sym o.2 ∙ (ap d.owner (o.0 ∙ sym now) ∙ own)))

  -- the table at the start
  pub opens : (x : X) → list x ≡ [] → fixed x ≡ f → Rule (opening (0 ∷ 0 ∷ 0 ∷ []) (Some x ∷ []) (first_view f))
  opens x empty same =
      let d : TicketLock = record { drawn = 0; served = 0; owner = λ _. 0; taken = false; base = []; log = [] } in record {
        lock = d;
        right = λ _. 0;
        words = refl;
        order = omega arith;
        few = omega arith;
        low = tt;
        home = λ _. (x, refl, empty, same);
        same = λ _. refl;
        away = λ t. absurd (off (sym t));
        each_ticket = λ k le lt. absurd (omega arith);
        each_seat = alone;
        apart = lonely;
      }
    where
      lows : (r : ℕ) → bit_at 65535 r ≡ 1 → r < 16
      lows r one = dite (dec_le 16 r) (λ h. absurd (bit_apart 65535 r (bit_at_ones_above 16 r h) one)) (λ n. omega arith)

      alone : (j : ℕ) (v : View F) → get_elem? (first_view f ∷ []) j ≡ some v → SeatRule f (record { drawn = 0; served = 0; owner = λ _. 0; taken = false; base = []; log = [] }) j v
      alone zero v e = subst (SeatRule f (record { drawn = 0; served = 0; owner = λ _. 0; taken = false; base = []; log = [] }) 0) (some-injective (first_view f) v e)
          (record { known = inl refl; follows = follows_self 65535 []; low = lows; stage = tt; early = λ _. ([], refl) })
      alone (suc j) v e = absurd (some-ne-none v (sym e))

      lonely : Apart (first_view f ∷ [])
      lonely zero zero v w n a b r one = absurd (n refl)
      lonely zero (suc j) v w n a b r one = absurd (some-ne-none w (sym b))
      lonely (suc i) j v w n a b r one = absurd (some-ne-none v (sym a))

  -- the same at a seat that is known by parts
  pub counts_at : (slots id : ℕ) (m : Me (Option X) (View F)) (k : ℕ) (base : List Entry) (x : X) (e : Entry) → m.0.stage ≡ HasTurn k base false → m.1 ≡ (0, Some x) ∷ [] → list x ≡ base ++ e ∷ [] → bit_at m.0.rights e.1 ≡ 1
      → Allows Rule slots id m 2 (λ n. (n + 1) % 2 ^ 64) (CountTells list any_step m)
  counts_at slots id m k base x e turns slot grows one =
      subst (λ (l : List (ℕ × Option X)). Allows Rule slots id (m.0, l) 2 (λ n. (n + 1) % 2 ^ 64) (CountTells list any_step (m.0, l))) (sym slot) (counts slots id m.0 k base x e turns grows one)

  pub serves_at : (slots id : ℕ) (m : Me (Option X) (View F)) (k r : ℕ) (base : List Entry) (c : Bool) (x : X) → m.0.stage ≡ HasTurn k base c → m.1 ≡ (0, Some x) ∷ [] → bit_at m.0.rights r ≡ 1 → list x ≡ seen_after c m.0.seen base → fixed x ≡ f
      → Allows Rule slots id m 1 (λ n. (n + 1) % 2 ^ 64) (ServeTells any_step m)
  serves_at slots id m k r base c x turns slot one lists same =
      subst (λ (l : List (ℕ × Option X)). Allows Rule slots id (m.0, l) 1 (λ n. (n + 1) % 2 ^ 64) (ServeTells any_step (m.0, l))) (sym slot) (serves slots id m.0 k r base c x turns one lists same)
