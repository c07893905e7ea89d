-- What a task asks of the numbers delivered to it, it can ask of the packets that were handed to it.
use Rattle.std.proofs.Common.{◌≡◌, ℕ, ◌+◌, ◌<◌, ◌==◌, true, cond, ◌&&◌, ◌||◌, not, List, [], ◌∷◌, ◌++◌, length, Some, sym, ap, ◌∙◌, subst, ⊎_elim}
use Rattle.std.specs.Prelude.{slice_get}
use Rattle.std.specs.List.{list_any, AllByRecursion}
use Rattle.std.proofs.lemmas.Bool.{false≢true, and_parts, and_from, both_ways, eqb-true, eq-eqb, cond_both, cond-true, or_cases, or_left, or_right}
use Rattle.std.proofs.lemmas.Option.{slice_get_within}
use Rattle.lapi_base.specs.declared.script.Script.{Script}
use Rattle.lapi_base.specs.declared.rule.Rules.{Rules}
use Rattle.lapi_base.specs.declared.message.MsgName.{MsgName}
use Rattle.lapi_base.specs.declared.event.Event.{Event}
use Rattle.lapi_base.specs.declared.event.Event.TheVariants.{Issue, Refuse, Enter, Pass, Copy, Head, Land, Begin, End}
use Rattle.lapi_base.specs.declared.packet.Packet.{Packet}
use Rattle.lapi_base.specs.declared.packet.Packet.TheVariants.{Data, Ack}
use Rattle.lapi_base.specs.declared.packet.DataPacket.{DataPacket}
use Rattle.lapi_base.specs.declared.message.Leg.TheVariants.{Go}
use Rattle.lapi_base.specs.Packet.Layout.{window_of}
use Rattle.lapi_base.specs.Record.Below.{least_missing, bits_of}
use Rattle.lapi_base.specs.Record.Names.{name_eq, leg_eq, Copied, key_of, happened}
use Rattle.lapi_base.specs.Record.Operations.{statement, is_am, sender, receiver, fragment_count, fragments}
use Rattle.lapi_base.specs.Record.Wires.{Run, numbered, is_number, has_number, all_numbers, some_number, ack}
use Rattle.lapi_base.specs.Record.Acts.{first_delivery, after_land}
use Rattle.lapi_base.specs.Record.Atomic.{Atomic}
use Rattle.lapi_base.specs.Record.Arrived.{is_fragment, is_part_of, has_fragment, has_some, whole_by, is_whole, number_bound, least_number, ack_of}
use Rattle.lapi_base.proofs.BelowLaws.{every_below-at, every_below-from, least_missing-same}
use Rattle.lapi_base.proofs.ListLaws.{any-find, get-front, get-places, get-right, some-same}
use Rattle.lapi_base.proofs.NameLaws.{happened-cases, happened-nil, name_eq-refl, name_eq-true}
use Rattle.lapi_base.proofs.PacketNumbers.{bound-above}
use Rattle.lapi_base.proofs.TestLaws.{eqb-refl, same_tests}
use Rattle.lapi_laws.proofs.Out.{numbered-copy, numbered-copied}
use Rattle.lapi_laws.proofs.Backward.{Atomic-head, Atomic-tail}
use Rattle.lapi_laws.proofs.Sound.{Lists, Fits}
use Rattle.lapi_laws.proofs.Arrival.{all_numbers-at, all_numbers-from, some_number-at, some_number-from}
use Rattle.lapi_laws.proofs.Places.{fragments-at, fragments-get}

-- the events of a packet of message m with a new number, which comes to these
unfoldable pub arrival_of : Script → Rules → List Packet → Packet → MsgName → List Event
arrival_of script rules packets p m =
    cond (is_am (statement script m.origin m.statement) && leg_eq m.leg Go && not (has_some packets m)) (Head m ∷ []) []
    ++ cond (is_whole script (p ∷ packets) m) (Land m ∷ after_land script rules m) []

not-here : (e : Event) (J : List Event) (m : MsgName) → (Copied m ≡ key_of e → ⊥) → happened (Copied m) (e ∷ J) ≡ true → happened (Copied m) J ≡ true
not-here e J m apart d = ⊎_elim (λ (x : Copied m ≡ key_of e). absurd (apart x)) (λ (x : happened (Copied m) J ≡ true). x) (happened-cases (Copied m) e J d)

module _ (script : Script) where
  fragments-place : (m : MsgName) (i : ℕ) (x : MsgName × ℕ) → slice_get (fragments script m) i ≡ Some x → (x ≡ (m, i)) × (i < fragment_count script m)
  fragments-place m i x h =
      let r = fragments-at script m i x h in
      let name = sym r.0 in
      let place = sym r.1 in
      (λ k. (name k, place k), subst (λ (j : ℕ). j < fragment_count script m) place r.2)

  abbrev OutHas : List Event → MsgName → ℕ → Type 0
  OutHas J m j = (k : ℕ) × (slice_get (numbered script J (sender script m) (receiver script m)) k ≡ Some (m, j))

  numbered-has-later : (n : MsgName) (J : List Event) (m : MsgName) (j : ℕ) → OutHas J m j → OutHas (Copy n ∷ J) m j
  numbered-has-later n J m j h = (
    h.0,
    subst (λ xs. slice_get xs h.0 ≡ Some (m, j)) (sym (numbered-copy script n J (sender script m) (receiver script m)))
        (cond_both (sender script n == sender script m && receiver script n == receiver script m) (numbered script J (sender script m) (receiver script m) ++ fragments script n) (numbered script J (sender script m) (receiver script m)) (λ xs. slice_get xs h.0 ≡ Some (m, j)) (λ _. get-front _ (fragments script n) h.0 (m, j) h.1) (λ _. h.1)),
  )

  -- each fragment of a message that was copied has a number
  pub numbered-has : (J : List Event) (m : MsgName) (j : ℕ) → happened (Copied m) J ≡ true → j < fragment_count script m → OutHas J m j
  unfolding numbered
  numbered-has [] m j d l = absurd (both_ways _ (happened-nil (Copied m)) d)
  numbered-has (Copy n ∷ J) m j d l =
      ⊎_elim
      (λ (x : Copied m ≡ Copied n).
      let same : m ≡ n = cc in
      let a = sender script n in
      let b = receiver script n in
      let test : (a == a && b == b) ≡ true = and_from _ _ (eqb-refl a) (eqb-refl b) in
      subst (λ (k : MsgName). OutHas (Copy n ∷ J) k j) (sym same) (
        length (numbered script J a b) + j,
        subst (λ xs. slice_get xs (length (numbered script J a b) + j) ≡ Some (n, j)) (sym (cond-true (a == a && b == b) (numbered script J a b ++ fragments script n) (numbered script J a b) test))
            (get-right (numbered script J a b) (fragments script n) j (n, j) (fragments-get script n j (subst (λ (k : MsgName). j < fragment_count script k) same l))),
      ))
      (λ (x : happened (Copied m) J ≡ true). numbered-has-later n J m j (numbered-has J m j x l))
      (happened-cases (Copied m) (Copy n) J d)
  numbered-has (Issue t i ∷ J) m j d l = numbered-has J m j (not-here (Issue t i) J m (λ x. cc) d) l
  numbered-has (Refuse t i reason ∷ J) m j d l = numbered-has J m j (not-here (Refuse t i reason) J m (λ x. cc) d) l
  numbered-has (Enter t i ∷ J) m j d l = numbered-has J m j (not-here (Enter t i) J m (λ x. cc) d) l
  numbered-has (Pass t i ∷ J) m j d l = numbered-has J m j (not-here (Pass t i) J m (λ x. cc) d) l
  numbered-has (Head n ∷ J) m j d l = numbered-has J m j (not-here (Head n) J m (λ x. cc) d) l
  numbered-has (Land n ∷ J) m j d l = numbered-has J m j (not-here (Land n) J m (λ x. cc) d) l
  numbered-has (Begin n t w ∷ J) m j d l = numbered-has J m j (not-here (Begin n t w) J m (λ x. cc) d) l
  numbered-has (End n t w ∷ J) m j d l = numbered-has J m j (not-here (End n t w) J m (λ x. cc) d) l

  -- the fragment of a pair is one of its message
  pub numbered-below : (J : List Event) (a b k : ℕ) (x : MsgName × ℕ) → slice_get (numbered script J a b) k ≡ Some x → x.1 < fragment_count script x.0
  unfolding numbered
  numbered-below [] a b k x h = absurd (cc)
  numbered-below (Copy n ∷ J) a b k x h =
      cond_both (sender script n == a && receiver script n == b) (numbered script J a b ++ fragments script n) (numbered script J a b) (λ xs. slice_get xs k ≡ Some x → x.1 < fragment_count script x.0)
      (λ _ g.
      ⊎_elim
      (λ (y : slice_get (numbered script J a b) k ≡ Some x). numbered-below J a b k x y)
      (λ (y : (i : ℕ) × ((k ≡ length (numbered script J a b) + i) × (slice_get (fragments script n) i ≡ Some x))). let p = fragments-place n y.0 x y.1.1 in subst (λ (z : MsgName × ℕ). z.1 < fragment_count script z.0) (sym p.0) p.1)
      (get-places (numbered script J a b) (fragments script n) k x g))
      (λ _ g. numbered-below J a b k x g)
      h
  numbered-below (Issue t i ∷ J) a b k x h = numbered-below J a b k x h
  numbered-below (Refuse t i reason ∷ J) a b k x h = numbered-below J a b k x h
  numbered-below (Enter t i ∷ J) a b k x h = numbered-below J a b k x h
  numbered-below (Pass t i ∷ J) a b k x h = numbered-below J a b k x h
  numbered-below (Head n ∷ J) a b k x h = numbered-below J a b k x h
  numbered-below (Land n ∷ J) a b k x h = numbered-below J a b k x h
  numbered-below (Begin n t w ∷ J) a b k x h = numbered-below J a b k x h
  numbered-below (End n t w ∷ J) a b k x h = numbered-below J a b k x h

  module _ (rules : Rules) where
    -- each pair has one number
    pub numbered-unique : (J : List Event) → Atomic script rules J → (a b k l : ℕ) (x : MsgName × ℕ) → slice_get (numbered script J a b) k ≡ Some x → slice_get (numbered script J a b) l ≡ Some x → k ≡ l
    unfolding numbered
    numbered-unique [] h a b k l x p q = absurd (cc)
    numbered-unique (Copy n ∷ J) h a b k l x p q =
        cond_both (sender script n == a && receiver script n == b) (numbered script J a b ++ fragments script n) (numbered script J a b) (λ xs. slice_get xs k ≡ Some x → slice_get xs l ≡ Some x → k ≡ l)
        (λ _ p' q'.
        let old : (i : ℕ) → slice_get (numbered script J a b) i ≡ Some x → (j : ℕ) → slice_get (fragments script n) j ≡ Some x → ⊥ = λ i y j z.
        let place = fragments-place n j x z in
        both_ways _ (Atomic-head script rules (Copy n) J h).once (subst (λ (v : MsgName × ℕ). happened (Copied v.0) J ≡ true) place.0 (numbered-copied script J a b i x y).0) in
        ⊎_elim
        (λ (y : slice_get (numbered script J a b) k ≡ Some x).
        ⊎_elim
        (λ (z : slice_get (numbered script J a b) l ≡ Some x). numbered-unique J (Atomic-tail script rules (Copy n) J h) a b k l x y z)
        (λ (z : (i : ℕ) × ((l ≡ length (numbered script J a b) + i) × (slice_get (fragments script n) i ≡ Some x))). absurd (old k y z.0 z.1.1))
        (get-places (numbered script J a b) (fragments script n) l x q'))
        (λ (y : (i : ℕ) × ((k ≡ length (numbered script J a b) + i) × (slice_get (fragments script n) i ≡ Some x))).
        ⊎_elim
        (λ (z : slice_get (numbered script J a b) l ≡ Some x). absurd (old l z y.0 y.1.1))
        (λ (z : (i : ℕ) × ((l ≡ length (numbered script J a b) + i) × (slice_get (fragments script n) i ≡ Some x))).
        let one = (fragments-place n y.0 x y.1.1).0 in
        let two = (fragments-place n z.0 x z.1.1).0 in
        let pair : (n, y.0) ≡ (n, z.0) = sym one ∙ two in
        let same : y.0 ≡ z.0 = ap (λ (v : MsgName × ℕ). v.1) pair in
        y.1.0 ∙ ap (λ i. length (numbered script J a b) + i) same ∙ sym z.1.0)
        (get-places (numbered script J a b) (fragments script n) l x q'))
        (get-places (numbered script J a b) (fragments script n) k x p'))
        (λ _ p' q'. numbered-unique J (Atomic-tail script rules (Copy n) J h) a b k l x p' q')
        p q
    numbered-unique (Issue t i ∷ J) h a b k l x p q = numbered-unique J (Atomic-tail script rules (Issue t i) J h) a b k l x p q
    numbered-unique (Refuse t i reason ∷ J) h a b k l x p q = numbered-unique J (Atomic-tail script rules (Refuse t i reason) J h) a b k l x p q
    numbered-unique (Enter t i ∷ J) h a b k l x p q = numbered-unique J (Atomic-tail script rules (Enter t i) J h) a b k l x p q
    numbered-unique (Pass t i ∷ J) h a b k l x p q = numbered-unique J (Atomic-tail script rules (Pass t i) J h) a b k l x p q
    numbered-unique (Head n ∷ J) h a b k l x p q = numbered-unique J (Atomic-tail script rules (Head n) J h) a b k l x p q
    numbered-unique (Land n ∷ J) h a b k l x p q = numbered-unique J (Atomic-tail script rules (Land n) J h) a b k l x p q
    numbered-unique (Begin n t w ∷ J) h a b k l x p q = numbered-unique J (Atomic-tail script rules (Begin n t w) J h) a b k l x p q
    numbered-unique (End n t w ∷ J) h a b k l x p q = numbered-unique J (Atomic-tail script rules (End n t w) J h) a b k l x p q

module _ (script : Script) (rules : Rules) (J : List Event) (handed : Lists) (a b : ℕ) where
  abbrev Fit : Packet → Type 0
  Fit = Fits script rules J handed a b

  number-below : (packets : List Packet) → AllByRecursion Fit packets → (n : ℕ) → has_number packets n ≡ true → n < length (numbered script J a b)
  unfolding has_number
  number-below [] all n h = absurd (false≢true h)
  number-below (Data p ∷ ps) all n h =
      ⊎_elim
      (λ (x : (p.seq == n) ≡ true). subst (λ k. k < length (numbered script J a b)) (eqb-true p.seq n x) (slice_get_within (numbered script J a b) p.seq (p.name, p.fragment) all.0))
      (λ (x : list_any (is_number n) ps ≡ true). number-below ps all.1 n x)
      (or_cases (p.seq == n) (list_any (is_number n) ps) h)
  number-below (Ack layout from to base bits ∷ ps) all n h = number-below ps all.1 n h

  -- The least number not delivered is that of the packets.
  pub least-local : (packets : List Packet) → AllByRecursion Fit packets → least_missing (length (numbered script J a b)) (has_number packets) ≡ least_number packets
  unfolding least_number
  least-local packets all = least_missing-same (length (numbered script J a b)) (number_bound packets) (has_number packets) (number-below packets all) (bound-above packets)

  pub of-fit : (m : MsgName) (p : Packet) → is_part_of m p ≡ true → Fit p → (n j : ℕ) × (is_number n p ≡ true) × (slice_get (numbered script J a b) n ≡ Some (m, j))
  of-fit m (Data p) h f = (p.seq, p.fragment, eqb-refl p.seq, subst (λ (k : MsgName). slice_get (numbered script J a b) p.seq ≡ Some (k, p.fragment)) (sym (name_eq-true m p.name h)) f)
  of-fit m (Ack layout from to base bits) h f = absurd (false≢true h)

  pub fragment-fit : (m : MsgName) (j : ℕ) (p : Packet) → is_fragment m j p ≡ true → Fit p → (n : ℕ) × (is_number n p ≡ true) × (slice_get (numbered script J a b) n ≡ Some (m, j))
  fragment-fit m j (Data p) h f =
      let both = and_parts (name_eq m p.name) (p.fragment == j) h in
      (p.seq, eqb-refl p.seq, subst (λ (k : MsgName). slice_get (numbered script J a b) p.seq ≡ Some (k, j)) (sym (name_eq-true m p.name both.0)) (subst (λ i. slice_get (numbered script J a b) p.seq ≡ Some (p.name, i)) (eqb-true p.fragment j both.1) f))
  fragment-fit m j (Ack layout from to base bits) h f = absurd (false≢true h)

  pub fit-fragment : (m : MsgName) (n j : ℕ) (p : Packet) → is_number n p ≡ true → slice_get (numbered script J a b) n ≡ Some (m, j) → Fit p → (is_fragment m j p ≡ true) × (is_part_of m p ≡ true)
  fit-fragment m n j (Data p) h x f =
      let at : slice_get (numbered script J a b) n ≡ Some (p.name, p.fragment) = subst (λ k. slice_get (numbered script J a b) k ≡ Some (p.name, p.fragment)) (eqb-true p.seq n h) f in
      let both : Some (m, j) ≡ Some (p.name, p.fragment) = sym x ∙ at in
      let pair : (m, j) ≡ (p.name, p.fragment) = some-same (m, j) (p.name, p.fragment) both in
      let name = ap (λ (v : MsgName × ℕ). v.0) pair in
      let fragment = ap (λ (v : MsgName × ℕ). v.1) pair in
      let named : name_eq m p.name ≡ true = subst (λ (k : MsgName). name_eq m k ≡ true) name (name_eq-refl m) in
      (and_from (name_eq m p.name) (p.fragment == j) named (eq-eqb p.fragment j (sym fragment)), named)
  fit-fragment m n j (Ack layout from to base bits) h x f = absurd (false≢true h)

  -- Some number of m was delivered exactly where some packet of m was.
  pub some-local : (packets : List Packet) (m : MsgName) → AllByRecursion Fit packets → some_number script (numbered script J a b) m (has_number packets) ≡ has_some packets m
  unfolding has_some has_number
  some-local packets m all =
      same_tests _ _
      (λ h.
      let r = some_number-at script (numbered script J a b) m (has_number packets) h in
      let p = any-find (is_number r.0) Fit packets all r.2 in
      p.3 (is_part_of m) (fit-fragment m r.0 r.1.0 p.0 p.2 r.1.1 p.1).1)
      (λ h.
      let p = any-find (is_part_of m) Fit packets all h in
      let r = of-fit m p.0 p.2 p.1 in
      some_number-from script (numbered script J a b) m (has_number packets) r.0 r.1 r.3 (p.3 (is_number r.0) r.2))

  -- With the number of packet p, every number of its message was delivered exactly where every fragment of it was.
  pub whole-local : (packets : List Packet) (p : DataPacket) → Atomic script rules J → sender script p.name ≡ a → receiver script p.name ≡ b → Fit (Data p) → AllByRecursion Fit packets → all_numbers script (numbered script J a b) p.name (λ k. k == p.seq || has_number packets k) ≡ is_whole script (Data p ∷ packets) p.name
  unfolding is_whole whole_by has_fragment has_number
  whole-local packets p atomic from to fit all =
      let m = p.name in
      let copied = (numbered-copied script J a b p.seq (m, p.fragment) fit).0 in
      same_tests _ _
      (λ h.
      every_below-from (fragment_count script m) (has_fragment (Data p ∷ packets) m)
      (λ j l.
      let has = numbered-has script J m j copied l in
      let at : slice_get (numbered script J a b) has.0 ≡ Some (m, j) = subst (λ x. slice_get (numbered script J x b) has.0 ≡ Some (m, j)) from (subst (λ y. slice_get (numbered script J (sender script m) y) has.0 ≡ Some (m, j)) to has.1) in
      ⊎_elim
      (λ (x : (has.0 == p.seq) ≡ true). or_left _ _ (fit-fragment m has.0 j (Data p) (eq-eqb p.seq has.0 (sym (eqb-true has.0 p.seq x))) at fit).0)
      (λ (x : list_any (is_number has.0) packets ≡ true).
      let q = any-find (is_number has.0) Fit packets all x in
      or_right _ _ (q.3 (is_fragment m j) (fit-fragment m has.0 j q.0 q.2 at q.1).0))
      (or_cases _ _ (all_numbers-at script (numbered script J a b) m (λ k. k == p.seq || has_number packets k) h has.0 j at))))
      (λ h.
      all_numbers-from script (numbered script J a b) m (λ k. k == p.seq || has_number packets k)
      (λ k j at.
      let there = every_below-at (fragment_count script m) (has_fragment (Data p ∷ packets) m) j h (numbered-below script J a b k (m, j) at) in
      ⊎_elim
      (λ (x : is_fragment m j (Data p) ≡ true).
      let r = fragment-fit m j (Data p) x fit in
      or_left _ _ (eq-eqb k p.seq (numbered-unique script rules J atomic a b k r.0 (m, j) at r.2 ∙ sym (eqb-true p.seq r.0 r.1))))
      (λ (x : list_any (is_fragment m j) packets ≡ true).
      let q = any-find (is_fragment m j) Fit packets all x in
      let r = fragment-fit m j q.0 q.2 q.1 in
      or_right _ _ (subst (λ i. list_any (is_number i) packets ≡ true) (numbered-unique script rules J atomic a b r.0 k (m, j) r.2 at) (q.3 (is_number r.0) r.1)))
      (or_cases (is_fragment m j (Data p)) (list_any (is_fragment m j) packets) there)))

module _ (script : Script) (rules : Rules) where
  -- Hence the acknowledgement and the events of a packet are those that the packets handed over tell.
  pub ack-local : (r : Run) (a b : ℕ) → AllByRecursion (Fits script rules r.journal r.handed a b) (r.handed a b) → ack script rules r a b ≡ ack_of script (r.handed a b) a b
  unfolding ack ack_of
  ack-local r a b all = ap (λ n. Ack script.layout b a n (bits_of (window_of script) (λ i. has_number (r.handed a b) (n + i)))) (least-local script rules r.journal r.handed a b (r.handed a b) all)

  pub arrival-local : (r : Run) (a b : ℕ) (p : DataPacket) → Atomic script rules r.journal → Fits script rules r.journal r.handed a b (Data p) → AllByRecursion (Fits script rules r.journal r.handed a b) (r.handed a b) → first_delivery script rules r a b p.name p.seq ≡ arrival_of script rules (r.handed a b) (Data p) p.name
  unfolding first_delivery arrival_of
  arrival-local r a b p atomic fit all =
      let ends = numbered-copied script r.journal a b p.seq (p.name, p.fragment) fit in
      ap (λ x. cond (is_am (statement script p.name.origin p.name.statement) && leg_eq p.name.leg Go && not x) (Head p.name ∷ []) [] ++ cond (all_numbers script (numbered script r.journal a b) p.name (λ k. k == p.seq || has_number (r.handed a b) k)) (Land p.name ∷ after_land script rules p.name) [])
      (some-local script rules r.journal r.handed a b (r.handed a b) p.name all)
      ∙ ap (λ x. cond (is_am (statement script p.name.origin p.name.statement) && leg_eq p.name.leg Go && not (has_some (r.handed a b) p.name)) (Head p.name ∷ []) [] ++ cond x (Land p.name ∷ after_land script rules p.name) [])
      (whole-local script rules r.journal r.handed a b (r.handed a b) p atomic ends.1 ends.2 fit all)
