-- A data packet that is handed over: its first delivery may bring the head and the landing of its message.
use Rattle.std.proofs.Common.{◌≡◌, ◌⊎◌, ℕ, ◌==◌, Bool, true, false, cond, ◌&&◌, ◌||◌, not, List, [], ◌∷◌, length, Option, Some, None, refl, sym, ap, ◌∙◌, subst, ⊎_elim, inl, inr}
use Rattle.std.specs.Prelude.{slice_get}
use Rattle.std.specs.List.{AllByRecursion, list_any}
use Rattle.std.proofs.lemmas.Bool.{true≢false, false≢true, and_parts, and_from, both_ways, cond_both, cond-true, cond-false, eqb-true, eq-eqb, cases_Bool, or_cases, or_right, or_left, or_from, or_parts, not-true, not-false, not_from_true, false_from_ne_true, and_right, and_left}
use Rattle.std.proofs.lemmas.Option.{slice_get_within}
use Rattle.lapi_base.specs.declared.script.Script.{Script}
use Rattle.lapi_base.specs.declared.statement.Statement.{Statement}
use Rattle.lapi_base.specs.declared.statement.Statement.TheVariants.{Am}
use Rattle.lapi_base.specs.declared.rule.Rules.{Rules}
use Rattle.lapi_base.specs.declared.message.Leg.{Leg}
use Rattle.lapi_base.specs.declared.message.Leg.TheVariants.{Go, Back, Note, Echo, Join}
use Rattle.lapi_base.specs.declared.message.MsgName.{MsgName}
use Rattle.lapi_base.specs.declared.event.Event.{Event}
use Rattle.lapi_base.specs.declared.event.Event.TheVariants.{Head, Land}
use Rattle.lapi_base.specs.declared.packet.Packet.TheVariants.{Data}
use Rattle.lapi_base.specs.declared.packet.DataPacket.{DataPacket}
use Rattle.lapi_base.specs.Record.Below.{every_below}
use Rattle.lapi_base.specs.Record.Names.{name_eq, leg_eq, EventKey, Issued, Entered, Copied, Headed, Landed, happened, message}
use Rattle.lapi_base.specs.Record.Operations.{statement, sender, receiver, is_am, is_gfence, has_back}
use Rattle.lapi_base.specs.Record.Wires.{numbered, is_number, has_number, is_of, all_numbers, some_number}
use Rattle.lapi_base.specs.Record.Atomic.{Atomic, Keeps, needs, copy_needs, land_needs, landed_before, has_message}
use Rattle.lapi_base.proofs.BelowLaws.{every_below-at, every_below-fails, every_below-from}
use Rattle.lapi_base.proofs.ListLaws.{some-same, all-weaker, list_all-at}
use Rattle.lapi_base.proofs.NameLaws.{happened-cases, happened-head, happened-later, leg_eq-true, name_eq-refl, name_eq-true}
use Rattle.lapi_base.proofs.TestLaws.{eqb-refl, same_tests}
use Rattle.lapi_laws.proofs.Out.{numbered-later, numbered-copied}
use Rattle.lapi_laws.proofs.Backward.{Atomic-cons, closed, there}
use Rattle.lapi_laws.proofs.Sound.{Lists, Fits, IsOf, Got, IsHeadGo, Sound, all-later, fits-more, of-later, before, landed_before-later, add_known}

-- Numbers of a message, as tests and as facts.
is_of-at : (script : Script) (m : MsgName) (o : Option (MsgName × ℕ)) → is_of script m o ≡ true → (j : ℕ) × (o ≡ Some (m, j))
is_of-at script m None h = absurd (false≢true h)
is_of-at script m (Some x) h = (x.1, ap (λ (y : MsgName). Some (y, x.1)) (sym (name_eq-true m x.0 h)))

is_of-from : (script : Script) (m : MsgName) (o : Option (MsgName × ℕ)) (j : ℕ) → o ≡ Some (m, j) → is_of script m o ≡ true
is_of-from script m o j h = subst (λ x. is_of script m x ≡ true) (sym h) (name_eq-refl m)

either-at : (x y : Bool) → (not x || y) ≡ true → x ≡ true → y ≡ true
either-at true y h p = h
either-at false y h p = absurd (false≢true p)

either-from : (x y : Bool) → (x ≡ true → y ≡ true) → (not x || y) ≡ true
either-from true y f = f refl
either-from false y f = refl

pub all_numbers-at : (script : Script) (pairs : List (MsgName × ℕ)) (m : MsgName) (set : ℕ → Bool) → all_numbers script pairs m set ≡ true → (n j : ℕ) → slice_get pairs n ≡ Some (m, j) → set n ≡ true
unfolding all_numbers
all_numbers-at script pairs m set h n j x =
    either-at (is_of script m (slice_get pairs n)) (set n) (every_below-at (length pairs) (λ k. not (is_of script m (slice_get pairs k)) || set k) n h (slice_get_within pairs n (m, j) x))
    (is_of-from script m (slice_get pairs n) j x)

pub all_numbers-from : (script : Script) (pairs : List (MsgName × ℕ)) (m : MsgName) (set : ℕ → Bool) → ((n j : ℕ) → slice_get pairs n ≡ Some (m, j) → set n ≡ true) → all_numbers script pairs m set ≡ true
unfolding all_numbers
all_numbers-from script pairs m set f =
    every_below-from (length pairs) (λ k. not (is_of script m (slice_get pairs k)) || set k)
    (λ n l. either-from (is_of script m (slice_get pairs n)) (set n) (λ e. let r = is_of-at script m (slice_get pairs n) e in f n r.0 r.1))

pub some_number-at : (script : Script) (pairs : List (MsgName × ℕ)) (m : MsgName) (set : ℕ → Bool) → some_number script pairs m set ≡ true → (n : ℕ) × ((j : ℕ) × (slice_get pairs n ≡ Some (m, j))) × (set n ≡ true)
unfolding some_number
some_number-at script pairs m set h =
    let r = every_below-fails (length pairs) (λ k. not (is_of script m (slice_get pairs k) && set k)) (not-true _ h) in
    let both = and_parts (is_of script m (slice_get pairs r.0)) (set r.0) (not-false _ r.2) in
    (r.0, is_of-at script m (slice_get pairs r.0) both.0, both.1)

pub some_number-from : (script : Script) (pairs : List (MsgName × ℕ)) (m : MsgName) (set : ℕ → Bool) (n j : ℕ) → slice_get pairs n ≡ Some (m, j) → set n ≡ true → some_number script pairs m set ≡ true
unfolding some_number
some_number-from script pairs m set n j x h =
    elim (every_below (length pairs) (λ k. not (is_of script m (slice_get pairs k) && set k))) as (λ b. every_below (length pairs) (λ k. not (is_of script m (slice_get pairs k) && set k)) ≡ b → not b ≡ true) [
      | true ↦ λ e.
          let no = every_below-at (length pairs) (λ k. not (is_of script m (slice_get pairs k) && set k)) n e (slice_get_within pairs n (m, j) x) in
          absurd (both_ways _ (not-true _ no) (and_from _ _ (is_of-from script m (slice_get pairs n) j x) h))
      | false ↦ λ e. refl
    ] refl

-- data that come back are no active message's
pub back_no_am : (s : Statement) → has_back s ≡ true → is_am s ≡ false
back_no_am (Am target handler header from len tgt org cmpl) h = absurd (false≢true h)
back_no_am _ h = refl

module _ (script : Script) (rules : Rules) where
  -- As Sound, but a message whose delivery goes on may lack its head and its landing.
  pub record SoundBut (m : MsgName) (J : List Event) (wire handed : Lists) : Type 0 where
    pub atomic : Atomic script rules J
    pub wires : (a b : ℕ) → AllByRecursion (Fits script rules J handed a b) (wire a b)
    pub hands : (a b : ℕ) → AllByRecursion (Fits script rules J handed a b) (handed a b)
    pub landed : (k : MsgName) → happened (Landed k) J ≡ true → (n : ℕ) → IsOf script rules J k n → Got script rules handed k n
    pub arrived : (k : MsgName) → (k ≡ m → ⊥) → happened (Copied k) J ≡ true → ((n : ℕ) → IsOf script rules J k n → Got script rules handed k n) → happened (Landed k) J ≡ true
    pub headed : (k : MsgName) → happened (Headed k) J ≡ true → (n : ℕ) × (IsOf script rules J k n × Got script rules handed k n)
    pub heads : (k : MsgName) → (k ≡ m → ⊥) → IsHeadGo script rules k ≡ true → (n : ℕ) → IsOf script rules J k n → Got script rules handed k n → happened (Headed k) J ≡ true
    pub fences : (a i : ℕ) → is_gfence (statement script a i) ≡ true → happened (Entered a i) J ≡ true → landed_before script rules J a i ≡ true

  numbered-head : (m : MsgName) (J : List Event) (a b : ℕ) → numbered script (Head m ∷ J) a b ≡ numbered script J a b
  unfolding numbered
  numbered-head m J a b = refl

  numbered-land : (m : MsgName) (J : List Event) (a b : ℕ) → numbered script (Land m ∷ J) a b ≡ numbered script J a b
  unfolding numbered
  numbered-land m J a b = refl

  of-head : (m : MsgName) (J : List Event) (k : MsgName) (n : ℕ) → IsOf script rules (Head m ∷ J) k n → IsOf script rules J k n
  of-head m J k n x = (x.0, subst (λ xs. slice_get xs n ≡ Some (k, x.0)) (numbered-head m J (sender script k) (receiver script k)) x.1)

  of-land : (m : MsgName) (J : List Event) (k : MsgName) (n : ℕ) → IsOf script rules (Land m ∷ J) k n → IsOf script rules J k n
  of-land m J k n x = (x.0, subst (λ xs. slice_get xs n ≡ Some (k, x.0)) (numbered-land m J (sender script k) (receiver script k)) x.1)

  -- the head comes
  but_head : (m : MsgName) (J : List Event) (wire handed : Lists) (n : ℕ) → IsOf script rules J m n → Got script rules handed m n → Keeps script rules J (Head m) → SoundBut m J wire handed → SoundBut m (Head m ∷ J) wire handed
  but_head m J wire handed n is got keeps s = record {
    atomic = Atomic-cons script rules (Head m) J keeps s.atomic;
    wires = all-later script rules (Head m) J handed wire s.wires;
    hands = all-later script rules (Head m) J handed handed s.hands;
    landed = λ k l i x. s.landed k (before script rules (Landed k) (Head m) J (λ y. cc) l) i (of-head m J k i x);
    arrived = λ k apart c all. happened-later (Landed k) (Head m) J (s.arrived k apart (before script rules (Copied k) (Head m) J (λ y. cc) c) (λ i x. all i (of-later script rules (Head m) J k i x)));
    headed = λ k h.
        ⊎_elim
        (λ (y : Headed k ≡ Headed m).
        let same : m ≡ k = cc in
        subst (λ z. (i : ℕ) × (IsOf script rules (Head m ∷ J) z i × Got script rules handed z i)) same (n, (of-later script rules (Head m) J m n is, got)))
        (λ (y : happened (Headed k) J ≡ true). let r = s.headed k y in (r.0, (of-later script rules (Head m) J k r.0 r.1.0, r.1.1)))
        (happened-cases (Headed k) (Head m) J h);
    heads = λ k apart g i x got'. happened-later (Headed k) (Head m) J (s.heads k apart g i (of-head m J k i x) got');
    fences = λ a i g h. landed_before-later script rules (Head m) J a i (λ j l x. cc) (s.fences a i g (before script rules (Entered a i) (Head m) J (λ y. cc) h));
  }

  -- the message lands
  but_land : (m : MsgName) (J : List Event) (wire handed : Lists) → ((n : ℕ) → IsOf script rules J m n → Got script rules handed m n) → Keeps script rules J (Land m) → SoundBut m J wire handed → SoundBut m (Land m ∷ J) wire handed
  but_land m J wire handed whole keeps s = record {
    atomic = Atomic-cons script rules (Land m) J keeps s.atomic;
    wires = all-later script rules (Land m) J handed wire s.wires;
    hands = all-later script rules (Land m) J handed handed s.hands;
    landed = λ k l i x.
        ⊎_elim
        (λ (y : Landed k ≡ Landed m). let same : m ≡ k = cc in subst (λ z. (i : ℕ) → IsOf script rules J z i → Got script rules handed z i) same whole i (of-land m J k i x))
        (λ (y : happened (Landed k) J ≡ true). s.landed k y i (of-land m J k i x))
        (happened-cases (Landed k) (Land m) J l);
    arrived = λ k apart c all. happened-later (Landed k) (Land m) J (s.arrived k apart (before script rules (Copied k) (Land m) J (λ y. cc) c) (λ i x. all i (of-later script rules (Land m) J k i x)));
    headed = λ k h. let r = s.headed k (before script rules (Headed k) (Land m) J (λ y. cc) h) in (r.0, (of-later script rules (Land m) J k r.0 r.1.0, r.1.1));
    heads = λ k apart g i x got'. happened-later (Headed k) (Land m) J (s.heads k apart g i (of-land m J k i x) got');
    fences = λ a i g h. landed_before-later script rules (Land m) J a i (λ j l x. cc) (s.fences a i g (before script rules (Entered a i) (Land m) J (λ y. cc) h));
  }

  -- and the message too is as far as it was delivered
  but_all : (m : MsgName) (J : List Event) (wire handed : Lists) → (((n : ℕ) → IsOf script rules J m n → Got script rules handed m n) → happened (Landed m) J ≡ true) → (IsHeadGo script rules m ≡ true → happened (Headed m) J ≡ true) → SoundBut m J wire handed → Sound script rules J wire handed
  but_all m J wire handed land head s = record {
    atomic = s.atomic;
    wires = s.wires;
    hands = s.hands;
    landed = s.landed;
    arrived = λ k c all.
        elim (name_eq k m) as (λ b. name_eq k m ≡ b → happened (Landed k) J ≡ true) [
          | true ↦ λ e. let same = sym (name_eq-true k m e) in subst (λ z. ((n : ℕ) → IsOf script rules J z n → Got script rules handed z n) → happened (Landed z) J ≡ true) same land all
          | false ↦ λ e. s.arrived k (λ same. both_ways _ e (subst (λ z. name_eq k z ≡ true) same (name_eq-refl k))) c all
        ] refl;
    headed = s.headed;
    heads = λ k g n x got.
        elim (name_eq k m) as (λ b. name_eq k m ≡ b → happened (Headed k) J ≡ true) [
          | true ↦ λ e. let same = sym (name_eq-true k m e) in subst (λ z. IsHeadGo script rules z ≡ true → happened (Headed z) J ≡ true) same head g
          | false ↦ λ e. s.heads k (λ same. both_ways _ e (subst (λ z. name_eq k z ≡ true) same (name_eq-refl k))) g n x got
        ] refl;
    fences = s.fences;
  }

  -- The packet itself: p of message m on its link, with a number that was not delivered.
  module _ (p : DataPacket) (J : List Event) (wire handed : Lists) (s : Sound script rules J wire handed) where
    abbrev m : MsgName
    m = p.name

    abbrev A : ℕ
    A = sender script p.name

    abbrev B : ℕ
    B = receiver script p.name

    -- what was handed over, with the packet
    abbrev pub now : Lists
    now = λ x y. cond (x == A && y == B) (Data p ∷ handed x y) (handed x y)

    more : (x y n : ℕ) → has_number (handed x y) n ≡ true → has_number (now x y) n ≡ true
    unfolding has_number
    more x y n h = cond_both (x == A && y == B) (Data p ∷ handed x y) (handed x y) (λ xs. list_any (is_number n) xs ≡ true) (λ _. or_right _ _ h) (λ _. h)

    it : has_number (now A B) p.seq ≡ true
    unfolding has_number
    it = subst (λ xs. list_any (is_number p.seq) xs ≡ true) (sym (cond-true (A == A && B == B) (Data p ∷ handed A B) (handed A B) (and_from _ _ (eqb-refl A) (eqb-refl B)))) (or_left _ _ (eqb-refl p.seq))

    less : (x y n : ℕ) → has_number (now x y) n ≡ true → (has_number (handed x y) n ≡ true) ⊎ ((x ≡ A) × (y ≡ B) × (p.seq ≡ n))
    unfolding has_number
    less x y n h =
        elim (x == A && y == B) as (λ b. (x == A && y == B) ≡ b → list_any (is_number n) (cond b (Data p ∷ handed x y) (handed x y)) ≡ true → (list_any (is_number n) (handed x y) ≡ true) ⊎ ((x ≡ A) × (y ≡ B) × (p.seq ≡ n))) [
          | true ↦ λ e h'.
              ⊎_elim
              (λ (z : (p.seq == n) ≡ true). let ends = and_parts _ _ e in inr (eqb-true x A ends.0, eqb-true y B ends.1, eqb-true p.seq n z))
              (λ (z : list_any (is_number n) (handed x y) ≡ true). inl z)
              (or_cases _ _ h')
          | false ↦ λ e h'. inl h'
        ] refl h

    module _ (fit : Fits script rules J handed (sender script p.name) (receiver script p.name) (Data p)) where
      mine : IsOf script rules J p.name p.seq
      mine = (p.fragment, fit)

      copied : happened (Copied p.name) J ≡ true
      copied = (numbered-copied script J A B p.seq (p.name, p.fragment) fit).0

      -- a number of another message was delivered before
      others : (k : MsgName) (n : ℕ) → (k ≡ p.name → ⊥) → IsOf script rules J k n → Got script rules now k n → Got script rules handed k n
      others k n apart x got =
          ⊎_elim
          (λ (y : has_number (handed (sender script k) (receiver script k)) n ≡ true). y)
          (λ (y : (sender script k ≡ A) × (receiver script k ≡ B) × (p.seq ≡ n)).
          let there = subst (λ i. slice_get (numbered script J A B) i ≡ Some (p.name, p.fragment)) y.2 fit in
          let here = subst (λ b. slice_get (numbered script J A b) n ≡ Some (k, x.0)) y.1 (subst (λ a. slice_get (numbered script J a (receiver script k)) n ≡ Some (k, x.0)) y.0 x.1) in
          absurd (apart (ap (λ (z : MsgName × ℕ). z.0) (some-same (k, x.0) (p.name, p.fragment) (sym here ∙ there)))))
          (less (sender script k) (receiver script k) n got)

      hands-now : (a b : ℕ) → AllByRecursion (Fits script rules J now a b) (now a b)
      hands-now a b =
          let old = all-weaker (Fits script rules J handed a b) (Fits script rules J now a b) (fits-more script rules J handed now more a b) (handed a b) (s.hands a b) in
          cond_both (a == A && b == B) (Data p ∷ handed a b) (handed a b) (AllByRecursion (Fits script rules J now a b))
          (λ e.
          let ends = and_parts _ _ e in
          let here : Fits script rules J now a b (Data p) = subst (λ y. slice_get (numbered script J a y) p.seq ≡ Some (p.name, p.fragment)) (sym (eqb-true b B ends.1)) (subst (λ x. slice_get (numbered script J x B) p.seq ≡ Some (p.name, p.fragment)) (sym (eqb-true a A ends.0)) fit) in
          (here, old))
          (λ _. old)

      but : SoundBut p.name J wire now
      but = record {
        atomic = s.atomic;
        wires = λ a b. all-weaker (Fits script rules J handed a b) (Fits script rules J now a b) (fits-more script rules J handed now more a b) (wire a b) (s.wires a b);
        hands = hands-now;
        landed = λ k l n x. more (sender script k) (receiver script k) n (s.landed k l n x);
        arrived = λ k apart c all. s.arrived k c (λ n x. others k n apart x (all n x));
        headed = λ k h. let r = s.headed k h in (r.0, (r.1.0, more (sender script k) (receiver script k) r.0 r.1.1));
        heads = λ k apart g n x got. s.heads k g n x (others k n apart x got);
        fences = s.fences;
      }

      abbrev pub head_test : Bool
      head_test = is_am (statement script p.name.origin p.name.statement) && leg_eq p.name.leg Go && not (some_number script (numbered script J A B) p.name (has_number (handed A B)))

      abbrev pub land_test : Bool
      land_test = all_numbers script (numbered script J A B) p.name (λ k. k == p.seq || has_number (handed A B) k)

      there-m : has_message script rules p.name ≡ true
      there-m = there script rules (Copied p.name) J s.atomic copied

      copy-needs : AllByRecursion (λ d. happened d J ≡ true) (copy_needs script rules p.name.origin p.name.statement p.name.leg)
      unfolding needs
      copy-needs = closed script rules (Copied p.name) J s.atomic copied

      issued-by : (leg : Leg) → leg ≡ Go → AllByRecursion (λ d. happened d J ≡ true) (copy_needs script rules p.name.origin p.name.statement leg) → happened (Issued p.name.origin p.name.statement) J ≡ true
      issued-by Go e h = h.0
      issued-by Back e h = absurd (cc)
      issued-by Note e h = absurd (cc)
      issued-by Echo e h = absurd (cc)
      issued-by (Join d) e h = absurd (cc)

      keeps-head : head_test ≡ true → Keeps script rules J (Head p.name)
      unfolding needs
      keeps-head h =
          let h1 = and_parts (is_am (statement script p.name.origin p.name.statement) && leg_eq p.name.leg Go) _ h in
          let h2 = and_parts (is_am (statement script p.name.origin p.name.statement)) (leg_eq p.name.leg Go) h1.0 in
          record {
            there = and_from _ _ there-m (and_from _ _ h2.1 h2.0);
            once = false_from_ne_true _ (λ yes.
                let r = s.headed p.name yes in
                both_ways _ (not-true _ h1.1) (some_number-from script (numbered script J A B) p.name (has_number (handed A B)) r.0 r.1.0.0 r.1.0.1 r.1.1));
            after = list_all-at (λ d. happened d J) (Issued p.name.origin p.name.statement ∷ Copied p.name ∷ []) (issued-by p.name.leg (leg_eq-true p.name.leg Go h2.1) copy-needs, (copied, tt));
            jobs = refl;
            waits = refl;
            order = tt;
          }

      land-needs : (J' : List Event) (a i : ℕ) (leg : Leg) → happened (Copied (message a i leg)) J' ≡ true → AllByRecursion (λ d. happened d J' ≡ true) (copy_needs script rules a i leg) → ((is_am (statement script a i) && leg_eq leg Go) ≡ true → happened (Headed (message a i leg)) J' ≡ true) → AllByRecursion (λ d. happened d J' ≡ true) (land_needs script rules a i leg)
      land-needs J' a i Go c n h =
          cond_both (is_am (statement script a i)) (Headed (message a i Go) ∷ []) [] (λ ds. AllByRecursion (λ d. happened d J' ≡ true) (Issued a i ∷ Copied (message a i Go) ∷ ds))
          (λ e. (n.0, (c, (h (and_from _ _ e refl), tt))))
          (λ e. (n.0, (c, tt)))
      land-needs J' a i Back c n h = (c, n)
      land-needs J' a i Note c n h = (c, n)
      land-needs J' a i Echo c n h = (c, n)
      land-needs J' a i (Join d) c n h = (c, n)

      unlanded : has_number (handed A B) p.seq ≡ false → happened (Landed p.name) J ≡ false
      unlanded fresh = false_from_ne_true _ (λ yes. both_ways _ fresh (s.landed p.name yes p.seq mine))

      -- The journal with the head, if it comes now.
      abbrev pub J1 : List Event
      J1 = cond head_test (Head p.name ∷ J) J

      pub but-1 : SoundBut p.name J1 wire now
      but-1 =
          cond_both head_test (Head p.name ∷ J) J (λ K. SoundBut p.name K wire now)
          (λ e. but_head p.name J wire now p.seq mine it (keeps-head e) but)
          (λ _. but)

      up-1 : (d : EventKey) → happened d J ≡ true → happened d J1 ≡ true
      up-1 d h = cond_both head_test (Head p.name ∷ J) J (λ K. happened d K ≡ true) (λ _. happened-later d (Head p.name) J h) (λ _. h)

      up-all : (ds : List EventKey) → AllByRecursion (λ d. happened d J ≡ true) ds → AllByRecursion (λ d. happened d J1 ≡ true) ds
      up-all ds h = all-weaker (λ d. happened d J ≡ true) (λ d. happened d J1 ≡ true) up-1 ds h

      head-1 : IsHeadGo script rules p.name ≡ true → happened (Headed p.name) J1 ≡ true
      head-1 g =
          elim head_test as (λ b. head_test ≡ b → happened (Headed p.name) (cond b (Head p.name ∷ J) J) ≡ true) [
            | true ↦ λ e. happened-head (Head p.name) J
            | false ↦ λ e.
                let no : not (some_number script (numbered script J A B) p.name (has_number (handed A B))) ≡ false = ⊎_elim (λ (x : IsHeadGo script rules p.name ≡ false). absurd (both_ways _ x g)) (λ (x : not (some_number script (numbered script J A B) p.name (has_number (handed A B))) ≡ false). x) (Rattle.std.proofs.lemmas.Bool.and_cases _ _ e) in
                let r = some_number-at script (numbered script J A B) p.name (has_number (handed A B)) (not-false _ no) in
                s.heads p.name g r.0 r.1 r.2
          ] refl

      numbered-1 : (n j : ℕ) → slice_get (numbered script J1 A B) n ≡ Some (p.name, j) → slice_get (numbered script J A B) n ≡ Some (p.name, j)
      numbered-1 n j x = cond_both head_test (Head p.name ∷ J) J (λ K. slice_get (numbered script K A B) n ≡ Some (p.name, j) → slice_get (numbered script J A B) n ≡ Some (p.name, j)) (λ _ y. subst (λ xs. slice_get xs n ≡ Some (p.name, j)) (numbered-head p.name J A B) y) (λ _ y. y) x

      pub once-1 : has_number (handed A B) p.seq ≡ false → happened (Landed p.name) J1 ≡ false
      once-1 fresh = cond_both head_test (Head p.name ∷ J) J (λ K. happened (Landed p.name) K ≡ false) (λ _. false_from_ne_true _ (λ yes. both_ways _ (unlanded fresh) (before script rules (Landed p.name) (Head p.name) J (λ y. cc) yes))) (λ _. unlanded fresh)

      keeps-land : has_number (handed A B) p.seq ≡ false → Keeps script rules J1 (Land p.name)
      unfolding needs
      keeps-land fresh = record {
        there = there-m;
        once = once-1 fresh;
        after = list_all-at (λ d. happened d J1) (land_needs script rules p.name.origin p.name.statement p.name.leg) (land-needs J1 p.name.origin p.name.statement p.name.leg (up-1 (Copied p.name) copied) (up-all (copy_needs script rules p.name.origin p.name.statement p.name.leg) copy-needs) head-1);
        jobs = refl;
        waits = refl;
        order = tt;
      }

      whole : land_test ≡ true → (n : ℕ) → IsOf script rules J1 p.name n → Got script rules now p.name n
      whole e n x =
          ⊎_elim
          (λ (y : (n == p.seq) ≡ true). subst (λ k. has_number (now A B) k ≡ true) (sym (eqb-true n p.seq y)) it)
          (λ (y : has_number (handed A B) n ≡ true). more A B n y)
          (or_cases _ _ (all_numbers-at script (numbered script J A B) p.name (λ k. k == p.seq || has_number (handed A B) k) e n x.0 (numbered-1 n x.0 x.1)))

      not_whole : land_test ≡ false → ((n : ℕ) → IsOf script rules J1 p.name n → Got script rules now p.name n) → ⊥
      not_whole e all =
          both_ways _ e (all_numbers-from script (numbered script J A B) p.name (λ k. k == p.seq || has_number (handed A B) k)
          (λ n j x.
          ⊎_elim
          (λ (y : has_number (handed A B) n ≡ true). or_right _ _ y)
          (λ (y : (A ≡ A) × (B ≡ B) × (p.seq ≡ n)). or_left _ _ (eq-eqb n p.seq (sym y.2)))
          (less A B n (all n (j, cond_both head_test (Head p.name ∷ J) J (λ K. slice_get (numbered script K A B) n ≡ Some (p.name, j)) (λ _. numbered-later script (Head p.name) J A B n (p.name, j) x) (λ _. x))))))

      pub sound-land : land_test ≡ true → has_number (handed A B) p.seq ≡ false → Sound script rules (Land p.name ∷ J1) wire now
      sound-land e fresh =
          but_all p.name (Land p.name ∷ J1) wire now
          (λ _. happened-head (Land p.name) J1)
          (λ g. happened-later (Headed p.name) (Land p.name) J1 (head-1 g))
          (but_land p.name J1 wire now (whole e) (keeps-land fresh) but-1)

      pub sound-none : land_test ≡ false → Sound script rules J1 wire now
      sound-none e = but_all p.name J1 wire now (λ all. absurd (not_whole e all)) head-1 but-1

      -- nothing is new where the number was delivered before
      pub sound-again : has_number (handed A B) p.seq ≡ true → Sound script rules J wire now
      sound-again old =
          add_known script rules J wire handed now
          (λ x y n.
          same_tests _ _
          (λ h. ⊎_elim (λ (z : has_number (handed x y) n ≡ true). z) (λ (z : (x ≡ A) × (y ≡ B) × (p.seq ≡ n)). λ i. again x y n z.0 z.1 z.2 i) (less x y n h))
          (more x y n))
          (λ a b. cond_both (a == A && b == B) (Data p ∷ handed a b) (handed a b) (AllByRecursion (Fits script rules J handed a b))
          (λ e.
          let ends = and_parts _ _ e in
          (subst (λ y. slice_get (numbered script J a y) p.seq ≡ Some (p.name, p.fragment)) (sym (eqb-true b B ends.1)) (subst (λ x. slice_get (numbered script J x B) p.seq ≡ Some (p.name, p.fragment)) (sym (eqb-true a A ends.0)) fit), s.hands a b))
          (λ _. s.hands a b))
          s
        where
          again : (x y n : ℕ) → x ≡ A → y ≡ B → p.seq ≡ n → has_number (handed x y) n ≡ true
          again x y n ex ey en = subst (λ k. has_number (handed x y) k ≡ true) en (subst (λ v. has_number (handed x v) p.seq ≡ true) (sym ey) (subst (λ u. has_number (handed u B) p.seq ≡ true) (sym ex) old))
