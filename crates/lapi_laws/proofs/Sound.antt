-- What holds of every record: its journal is atomic, its packets are what they say, and messages have landed as far as they were delivered.
use Rattle.std.proofs.Common.{◌≡◌, ℕ, ◌<◌, Bool, true, false, ◌&&◌, ◌||◌, not, List, ◌∷◌, length, Some, refl, sym, ap, ◌∙◌, subst, ⊎_elim, arith}
use Rattle.std.specs.Prelude.{slice_get}
use Rattle.std.specs.List.{AllByRecursion}
use Rattle.std.proofs.lemmas.Bool.{false≢true, both_ways, eqb-true}
use Rattle.std.proofs.lemmas.Option.{slice_get_within}
use Rattle.lapi_base.specs.declared.script.Script.{Script}
use Rattle.lapi_base.specs.declared.rule.Rules.{Rules}
use Rattle.lapi_base.specs.declared.message.Leg.{Leg}
use Rattle.lapi_base.specs.declared.message.Leg.TheVariants.{Go, Back, Note, Echo, Join}
use Rattle.lapi_base.specs.declared.message.MsgName.{MsgName}
use Rattle.lapi_base.specs.declared.event.Event.{Event}
use Rattle.lapi_base.specs.declared.event.Event.TheVariants.{Issue, Refuse, Enter, Pass, Copy, Head, Land, Begin, End}
use Rattle.lapi_base.specs.declared.packet.Packet.{Packet}
use Rattle.lapi_base.specs.declared.packet.Packet.TheVariants.{Data, Ack}
use Rattle.lapi_base.specs.Record.Names.{leg_eq, EventKey, Issued, Entered, Copied, Headed, Landed, key_of, happened, message}
use Rattle.lapi_base.specs.Record.Operations.{statement, sender, receiver, is_data, is_am, is_gfence}
use Rattle.lapi_base.specs.Record.Wires.{numbered, is_number, covers, has_number, has_ack}
use Rattle.lapi_base.specs.Record.Atomic.{Atomic, Keeps, needs, land_needs, landed_before, data_landed}
use Rattle.lapi_base.proofs.BelowLaws.{every_below-at, every_below-from}
use Rattle.lapi_base.proofs.ListLaws.{all-weaker, any-all}
use Rattle.lapi_base.proofs.NameLaws.{happened-cases, happened-later}
use Rattle.lapi_laws.proofs.Out.{numbered-later, numbered-added, numbered-new}
use Rattle.lapi_laws.proofs.Backward.{Atomic-cons, closed}

abbrev pub Lists : Type 0
Lists = ℕ → ℕ → List Packet

-- what is implied by two tests
pub implied-at : (x y z : Bool) → (not (x && y) || z) ≡ true → x ≡ true → y ≡ true → z ≡ true
implied-at true true z h p q = h
implied-at true false z h p q = absurd (false≢true q)
implied-at false y z h p q = absurd (false≢true p)

pub implied-from : (x y z : Bool) → (x ≡ true → y ≡ true → z ≡ true) → (not (x && y) || z) ≡ true
implied-from true true z f = f refl refl
implied-from true false z f = refl
implied-from false y z f = refl

module _ (script : Script) (rules : Rules) where
  -- An entry of the wire from a to b: a data packet has the pair of its number, an acknowledgement tells of what was delivered the other way.
  abbrev pub Fits : List Event → Lists → (a b : ℕ) → Packet → Type 0
  Fits J handed a b (Data p) = slice_get (numbered script J a b) p.seq ≡ Some (p.name, p.fragment)
  Fits J handed a b (Ack layout from to least bits) = (n : ℕ) → covers n (Ack layout from to least bits) ≡ true → has_number (handed b a) n ≡ true

  -- number n is of message m; number n of message m was delivered
  abbrev pub IsOf : List Event → MsgName → ℕ → Type 0
  IsOf J m n = (j : ℕ) × (slice_get (numbered script J (sender script m) (receiver script m)) n ≡ Some (m, j))

  abbrev pub Got : Lists → MsgName → ℕ → Type 0
  Got handed m n = has_number (handed (sender script m) (receiver script m)) n ≡ true

  abbrev pub IsHeadGo : MsgName → Bool
  IsHeadGo m = is_am (statement script m.origin m.statement) && leg_eq m.leg Go

  pub record Sound (J : List Event) (wire handed : Lists) : Type 0 where
    pub atomic : Atomic script rules J
    pub wires : (a b : ℕ) → AllByRecursion (Fits J handed a b) (wire a b)
    pub hands : (a b : ℕ) → AllByRecursion (Fits J handed a b) (handed a b)
    -- a message has landed exactly where all its numbers were delivered
    pub landed : (m : MsgName) → happened (Landed m) J ≡ true → (n : ℕ) → IsOf J m n → Got handed m n
    pub arrived : (m : MsgName) → happened (Copied m) J ≡ true → ((n : ℕ) → IsOf J m n → Got handed m n) → happened (Landed m) J ≡ true
    -- an active message has its head exactly where some number was delivered
    pub headed : (m : MsgName) → happened (Headed m) J ≡ true → (n : ℕ) × (IsOf J m n × Got handed m n)
    pub heads : (m : MsgName) → IsHeadGo m ≡ true → (n : ℕ) → IsOf J m n → Got handed m n → happened (Headed m) J ≡ true
    -- a fence over all tasks is entered with all earlier data landed
    pub fences : (a i : ℕ) → is_gfence (statement script a i) ≡ true → happened (Entered a i) J ≡ true → landed_before script rules J a i ≡ true

  fits-later : (e : Event) (J : List Event) (handed : Lists) (a b : ℕ) (p : Packet) → Fits J handed a b p → Fits (e ∷ J) handed a b p
  fits-later e J handed a b (Data p) h = numbered-later script e J a b p.seq (p.name, p.fragment) h
  fits-later e J handed a b (Ack layout from to least bits) h = h

  pub fits-more : (J : List Event) (old new : Lists) → ((x y n : ℕ) → has_number (old x y) n ≡ true → has_number (new x y) n ≡ true) → (a b : ℕ) (p : Packet) → Fits J old a b p → Fits J new a b p
  fits-more J old new more a b (Data p) h = h
  fits-more J old new more a b (Ack layout from to least bits) h = λ n c. more b a n (h n c)

  pub all-later : (e : Event) (J : List Event) (handed wire : Lists) → ((a b : ℕ) → AllByRecursion (Fits J handed a b) (wire a b)) → (a b : ℕ) → AllByRecursion (Fits (e ∷ J) handed a b) (wire a b)
  all-later e J handed wire h a b = all-weaker (Fits J handed a b) (Fits (e ∷ J) handed a b) (fits-later e J handed a b) (wire a b) (h a b)

  -- a number that was delivered is one of the link
  pub number-known : (J : List Event) (handed : Lists) (a b n : ℕ) (p : Packet) → Fits J handed a b p → is_number n p ≡ true → (x : MsgName × ℕ) × (slice_get (numbered script J a b) n ≡ Some x)
  number-known J handed a b n (Data p) f h = ((p.name, p.fragment), subst (λ k. slice_get (numbered script J a b) k ≡ Some (p.name, p.fragment)) (eqb-true p.seq n h) f)
  number-known J handed a b n (Ack layout from to least bits) f h = absurd (false≢true h)

  pub known : (J : List Event) (wire handed : Lists) → Sound J wire handed → (a b n : ℕ) → has_number (handed a b) n ≡ true → (x : MsgName × ℕ) × (slice_get (numbered script J a b) n ≡ Some x)
  unfolding has_number
  known J wire handed s a b n h =
      let r = any-all (is_number n) (Fits J handed a b) (handed a b) (s.hands a b) h in
      number-known J handed a b n r.0 r.1 r.2

  -- what is acknowledged was delivered
  acked-known : (J : List Event) (handed : Lists) (a b n : ℕ) (p : Packet) → Fits J handed b a p → covers n p ≡ true → has_number (handed a b) n ≡ true
  acked-known J handed a b n (Data p) f h = absurd (false≢true h)
  acked-known J handed a b n (Ack layout from to least bits) f h = f n h

  pub acked-delivered : (J : List Event) (wire handed : Lists) → Sound J wire handed → (a b n : ℕ) → has_ack (handed b a) n ≡ true → has_number (handed a b) n ≡ true
  unfolding has_ack
  acked-delivered J wire handed s a b n h =
      let r = any-all (covers n) (Fits J handed b a) (handed b a) (s.hands b a) h in
      acked-known J handed a b n r.0 r.1 r.2

  -- Data that landed before a statement.
  pub landed_before-at : (J : List Event) (a i j : ℕ) → landed_before script rules J a i ≡ true → j < i → is_data (statement script a j) ≡ true → happened (Issued a j) J ≡ true → data_landed script rules J a j ≡ true
  unfolding landed_before
  landed_before-at J a i j h l d s = implied-at (is_data (statement script a j)) (happened (Issued a j) J) (data_landed script rules J a j) (every_below-at i (λ k. not (is_data (statement script a k) && happened (Issued a k) J) || data_landed script rules J a k) j h l) d s

  pub landed_before-from : (J : List Event) (a i : ℕ) → ((j : ℕ) → j < i → is_data (statement script a j) ≡ true → happened (Issued a j) J ≡ true → data_landed script rules J a j ≡ true) → landed_before script rules J a i ≡ true
  unfolding landed_before
  landed_before-from J a i f = every_below-from i (λ k. not (is_data (statement script a k) && happened (Issued a k) J) || data_landed script rules J a k) (λ j l. implied-from (is_data (statement script a j)) (happened (Issued a j) J) (data_landed script rules J a j) (f j l))

  pub landed_before-later : (e : Event) (J : List Event) (a i : ℕ) → ((j : ℕ) → j < i → Issued a j ≡ key_of e → ⊥) → landed_before script rules J a i ≡ true → landed_before script rules (e ∷ J) a i ≡ true
  landed_before-later e J a i apart h =
      landed_before-from (e ∷ J) a i (λ j l d s.
      ⊎_elim
      (λ (x : Issued a j ≡ key_of e). absurd (apart j l x))
      (λ (x : happened (Issued a j) J ≡ true). happened-later _ e J (landed_before-at J a i j h l d x))
      (happened-cases (Issued a j) e J s))

  -- An event that is neither Copy, Head nor Land.
  abbrev pub IsSilent : Event → Type 0
  IsSilent (Copy m) = ⊥
  IsSilent (Head m) = ⊥
  IsSilent (Land m) = ⊥
  IsSilent _ = Unit {0}

  silent-out : (e : Event) (J : List Event) (a b : ℕ) → IsSilent e → numbered script (e ∷ J) a b ≡ numbered script J a b
  unfolding numbered
  silent-out (Issue t i) J a b h = refl
  silent-out (Refuse t i y) J a b h = refl
  silent-out (Enter t i) J a b h = refl
  silent-out (Pass t i) J a b h = refl
  silent-out (Copy m) J a b h = absurd h
  silent-out (Head m) J a b h = absurd h
  silent-out (Land m) J a b h = absurd h
  silent-out (Begin m t w) J a b h = refl
  silent-out (End m t w) J a b h = refl

  abbrev pub IsMessageDeed : EventKey → Type 0
  IsMessageDeed (Copied m) = Unit {0}
  IsMessageDeed (Headed m) = Unit {0}
  IsMessageDeed (Landed m) = Unit {0}
  IsMessageDeed _ = ⊥

  silent-not : (e : Event) (d : EventKey) → IsSilent e → IsMessageDeed d → d ≡ key_of e → ⊥
  silent-not (Issue t i) d h g x = subst IsMessageDeed x g
  silent-not (Refuse t i y) d h g x = subst IsMessageDeed x g
  silent-not (Enter t i) d h g x = subst IsMessageDeed x g
  silent-not (Pass t i) d h g x = subst IsMessageDeed x g
  silent-not (Copy m) d h g x = h
  silent-not (Head m) d h g x = h
  silent-not (Land m) d h g x = h
  silent-not (Begin m t w) d h g x = subst IsMessageDeed x g
  silent-not (End m t w) d h g x = subst IsMessageDeed x g

  silent-done : (e : Event) (d : EventKey) (J : List Event) → IsSilent e → IsMessageDeed d → happened d (e ∷ J) ≡ true → happened d J ≡ true
  silent-done e d J h g s = ⊎_elim (λ (x : d ≡ key_of e). absurd (silent-not e d h g x)) (λ (x : happened d J ≡ true). x) (happened-cases d e J s)

  silent-of : (e : Event) (J : List Event) (m : MsgName) (n : ℕ) → IsSilent e → IsOf (e ∷ J) m n → IsOf J m n
  silent-of e J m n h x = (x.0, subst (λ xs. slice_get xs n ≡ Some (m, x.0)) (silent-out e J (sender script m) (receiver script m) h) x.1)

  pub of-later : (e : Event) (J : List Event) (m : MsgName) (n : ℕ) → IsOf J m n → IsOf (e ∷ J) m n
  of-later e J m n x = (x.0, numbered-later script e J (sender script m) (receiver script m) n (m, x.0) x.1)

  pub add_silent : (e : Event) (J : List Event) (wire handed : Lists) → IsSilent e → Keeps script rules J e → ((a i : ℕ) → is_gfence (statement script a i) ≡ true → happened (Entered a i) (e ∷ J) ≡ true → landed_before script rules (e ∷ J) a i ≡ true) → Sound J wire handed → Sound (e ∷ J) wire handed
  add_silent e J wire handed quiet keeps fence s = record {
    atomic = Atomic-cons script rules e J keeps s.atomic;
    wires = all-later e J handed wire s.wires;
    hands = all-later e J handed handed s.hands;
    landed = λ m l n x. s.landed m (silent-done e (Landed m) J quiet tt l) n (silent-of e J m n quiet x);
    arrived = λ m c all. happened-later (Landed m) e J (s.arrived m (silent-done e (Copied m) J quiet tt c) (λ n x. all n (of-later e J m n x)));
    headed = λ m h. let r = s.headed m (silent-done e (Headed m) J quiet tt h) in (r.0, (of-later e J m r.0 r.1.0, r.1.1));
    heads = λ m g n x got. happened-later (Headed m) e J (s.heads m g n (silent-of e J m n quiet x) got);
    fences = fence;
  }

  pub before : (d : EventKey) (e : Event) (J : List Event) → (d ≡ key_of e → ⊥) → happened d (e ∷ J) ≡ true → happened d J ≡ true
  before d e J apart s = ⊎_elim (λ (x : d ≡ key_of e). absurd (apart x)) (λ (x : happened d J ≡ true). x) (happened-cases d e J s)

  -- a number of a later journal that was delivered is an earlier one
  pub of-known : (e : Event) (J : List Event) (wire handed : Lists) → Sound J wire handed → (m : MsgName) (n : ℕ) → Got handed m n → IsOf (e ∷ J) m n → IsOf J m n
  of-known e J wire handed s m n got x =
      let k = known J wire handed s (sender script m) (receiver script m) n got in
      let later = numbered-later script e J (sender script m) (receiver script m) n k.0 k.1 in
      let same : k.0 ≡ (m, x.0) = let both : Some k.0 ≡ Some (m, x.0) = sym later ∙ x.1 in cc in
      (x.0, k.1 ∙ ap Some same)

  land-copied : (J : List Event) (a i : ℕ) (leg : Leg) → AllByRecursion (λ d. happened d J ≡ true) (land_needs script rules a i leg) → happened (Copied (message a i leg)) J ≡ true
  land-copied J a i Go h = h.1.0
  land-copied J a i Back h = h.0
  land-copied J a i Note h = h.0
  land-copied J a i Echo h = h.0
  land-copied J a i (Join d) h = h.0

  -- what landed was copied
  pub landed-copied : (J : List Event) (m : MsgName) → Atomic script rules J → happened (Landed m) J ≡ true → happened (Copied m) J ≡ true
  unfolding needs
  landed-copied J m h s = land-copied J m.origin m.statement m.leg (closed script rules (Landed m) J h s)

  -- A Copy: its numbers are new.
  pub add_copy : (m : MsgName) (J : List Event) (wire handed : Lists) → Keeps script rules J (Copy m) → Sound J wire handed → Sound (Copy m ∷ J) wire handed
  add_copy m J wire handed keeps s = record {
    atomic = Atomic-cons script rules (Copy m) J keeps s.atomic;
    wires = all-later (Copy m) J handed wire s.wires;
    hands = all-later (Copy m) J handed handed s.hands;
    landed = λ n l k x.
        let old = before (Landed n) (Copy m) J (λ y. cc) l in
        ⊎_elim
        (λ (y : slice_get (numbered script J (sender script n) (receiver script n)) k ≡ Some (n, x.0)). s.landed n old k (x.0, y))
        (λ (y : m ≡ n). absurd (both_ways _ keeps.once (subst (λ z. happened (Copied z) J ≡ true) (sym y) (landed-copied J n s.atomic old))))
        (numbered-added script m J (sender script n) (receiver script n) k (n, x.0) x.1);
    arrived = λ n c all.
        ⊎_elim
        (λ (y : Copied n ≡ Copied m).
        let same : n ≡ m = cc in
        let whole = subst (λ z. (k : ℕ) → IsOf (Copy m ∷ J) z k → Got handed z k) same all in
        let new = numbered-new script m J in
        let number = length (numbered script J (sender script m) (receiver script m)) in
        let k = known J wire handed s (sender script m) (receiver script m) number (whole number new) in
        let below : number < number = slice_get_within (numbered script J (sender script m) (receiver script m)) number k.0 k.1 in
        absurd (omega (arith, below)))
        (λ (y : happened (Copied n) J ≡ true). happened-later (Landed n) (Copy m) J (s.arrived n y (λ k x. all k (of-later (Copy m) J n k x))))
        (happened-cases (Copied n) (Copy m) J c);
    headed = λ n h. let r = s.headed n (before (Headed n) (Copy m) J (λ y. cc) h) in (r.0, (of-later (Copy m) J n r.0 r.1.0, r.1.1));
    heads = λ n g k x got. happened-later (Headed n) (Copy m) J (s.heads n g k (of-known (Copy m) J wire handed s n k got x) got);
    fences = λ a i g h. landed_before-later (Copy m) J a i (λ j l x. cc) (s.fences a i g (before (Entered a i) (Copy m) J (λ y. cc) h));
  }

  -- Entries are put on wires.
  pub add_entries : (J : List Event) (wire more handed : Lists) → ((a b : ℕ) → AllByRecursion (Fits J handed a b) (more a b)) → Sound J wire handed → Sound J more handed
  add_entries J wire more handed fit s = record {
    atomic = s.atomic;
    wires = fit;
    hands = s.hands;
    landed = s.landed;
    arrived = s.arrived;
    headed = s.headed;
    heads = s.heads;
    fences = s.fences;
  }

  -- An entry is handed over that delivers no new number.
  pub add_known : (J : List Event) (wire handed new : Lists) → ((x y n : ℕ) → has_number (new x y) n ≡ has_number (handed x y) n) → ((a b : ℕ) → AllByRecursion (Fits J handed a b) (new a b)) → Sound J wire handed → Sound J wire new
  add_known J wire handed new same fit s =
      let up : (x y n : ℕ) → has_number (handed x y) n ≡ true → has_number (new x y) n ≡ true = λ x y n h. same x y n ∙ h in
      let down : (x y n : ℕ) → has_number (new x y) n ≡ true → has_number (handed x y) n ≡ true = λ x y n h. sym (same x y n) ∙ h in
      record {
        atomic = s.atomic;
        wires = λ a b. all-weaker (Fits J handed a b) (Fits J new a b) (fits-more J handed new up a b) (wire a b) (s.wires a b);
        hands = λ a b. all-weaker (Fits J handed a b) (Fits J new a b) (fits-more J handed new up a b) (new a b) (fit a b);
        landed = λ m l n x. up (sender script m) (receiver script m) n (s.landed m l n x);
        arrived = λ m c all. s.arrived m c (λ n x. down (sender script m) (receiver script m) n (all n x));
        headed = λ m h. let r = s.headed m h in (r.0, (r.1.0, up (sender script m) (receiver script m) r.0 r.1.1));
        heads = λ m g n x got. s.heads m g n x (down (sender script m) (receiver script m) n got);
        fences = s.fences;
      }
