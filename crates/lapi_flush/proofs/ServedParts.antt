-- What a served part of a schedule leaves.
use Rattle.std.proofs.Common.{◌≡◌, ℕ, zero, suc, ◌+◌, ◌-◌, ◌<◌, ◌≤◌, ◌==◌, Bool, true, false, cond, ◌&&◌, ◌||◌, List, [], ◌∷◌, ◌++◌, length, Some, refl, sym, ap, ◌∙◌, subst, ⊎_elim, append_assoc, arith}
use Rattle.std.specs.Prelude.{nat_lt, slice_get, is_some, not}
use Rattle.std.specs.List.{AllByRecursion}
use Rattle.std.proofs.lemmas.Bool.{and_from, both_ways, cond-true, cond_both, cases_lt, lt-ltb, or_left, or_right, or_cases, eqb-true}
use Rattle.std.proofs.lemmas.List.{append-nil, length_push}
use Rattle.lapi_base.specs.declared.script.Script.{Script}
use Rattle.lapi_base.specs.declared.rule.Rules.{Rules}
use Rattle.lapi_base.specs.declared.message.MsgName.{MsgName}
use Rattle.lapi_base.specs.declared.event.Event.{Event}
use Rattle.lapi_base.specs.declared.schedule.Act.{Act}
use Rattle.lapi_base.specs.declared.schedule.Act.TheVariants.{Deliver}
use Rattle.lapi_base.specs.declared.reply.Reply.TheVariants.{Did}
use Rattle.lapi_base.specs.declared.packet.DataPacket.{DataPacket}
use Rattle.lapi_base.specs.declared.packet.Packet.{Packet}
use Rattle.lapi_base.specs.declared.packet.Packet.TheVariants.{Data, Ack}
use Rattle.lapi_base.specs.Packet.Layout.{window_of, holds_back}
use Rattle.lapi_base.specs.Record.Below.{least_missing, has_bit, bits_of}
use Rattle.lapi_base.specs.declared.event.Event.TheVariants.{Land}
use Rattle.lapi_base.specs.declared.message.Leg.TheVariants.{Go}
use Rattle.lapi_base.specs.Record.Handlers.{has_completion}
use Rattle.lapi_base.specs.Record.Names.{leg_eq, Copied, happened}
use Rattle.lapi_base.specs.Record.Operations.{statement, is_am, has_back, cmpl_counter, receiver}
use Rattle.lapi_base.specs.Packet.Spelling.{refusal}
use Rattle.lapi_base.specs.Packet.PacketBytes.{packet_size}
use Rattle.lapi_base.specs.Record.Wires.{Run, numbered, all_numbers, some_number, has_number, has_ack, covers, is_number, is_delivered, is_acked, ack, IsEntry}
use Rattle.lapi_base.specs.Record.Acts.{followed, note_of, after_land, first_delivery, with_handed, hand_over, deliver_entry, deliver, reply_with, perform, after}
use Rattle.lapi_base.specs.Record.WorldView.{HoldsOfRecords}
use Rattle.lapi_base.proofs.BelowLaws.{least_missing-not}
use Rattle.lapi_base.proofs.ListLaws.{all-append, get-front, get-back, all-get}
use Rattle.lapi_base.proofs.TestLaws.{eqb-refl}
use Rattle.lapi_laws.proofs.Out.{numbered-later}
use Rattle.lapi_laws.proofs.Sound.{Fits, known, acked-delivered}
use Rattle.lapi_laws.proofs.SentWindow.{number-append}
use Rattle.lapi_laws.proofs.Lines.{SoundRun, deliver-sound}
use Rattle.lapi_parts.proofs.Records.{record-sound}
use Rattle.lapi_parts.proofs.FirstLayout.{told-now}
use Rattle.lapi_base.proofs.NameLaws.{happened-grown}
use Rattle.lapi_parts.proofs.HandedPackets.{numbered-has, numbered-below, numbered-unique}
use Rattle.lapi_flush.specs.Served.{delivers, served, IsAck, AddsAcks, IsOfMessage, AddsEvents, IsPart, IsServed, AllNamed, PartsAreServed}

-- ---- lists

pub after-more : (script : Script) (rules : Rules) (acts : List Act) (act : Act) (r : Run) → after script rules packet_size refusal r (acts ++ act ∷ []) ≡ perform script rules packet_size refusal (after script rules packet_size refusal r acts) act
unfolding after
after-more script rules [] act r = refl
after-more script rules (x ∷ xs) act r = after-more script rules xs act _

pub adds-none : (wire : List Packet) → AddsAcks wire wire
adds-none wire = ([], sym (append-nil wire), tt)

adds-one : (old new : List Packet) (p : Packet) → IsAck p → AddsAcks old new → AddsAcks old (new ++ p ∷ [])
adds-one old new p h a = (a.0 ++ p ∷ [], ap (λ xs. xs ++ p ∷ []) a.1 ∙ append_assoc old a.0 (p ∷ []), all-append IsAck a.0 (p ∷ []) a.2 (h, tt))

-- acknowledgements have no number
pub acks-no_number : (acks : List Packet) (n : ℕ) → AllByRecursion IsAck acks → has_number acks n ≡ false
unfolding has_number
acks-no_number [] n h = refl
acks-no_number (Data p ∷ ps) n h = absurd h.0
acks-no_number (Ack layout from to base bits ∷ ps) n h = acks-no_number ps n h.1

zero-if : (c : Bool) (n : ℕ) → n ≡ n + cond c 0 0
zero-if true n = omega arith
zero-if false n = omega arith

module _ (script : Script) (rules : Rules) where
  pub adds-no_number : (old new : List Packet) (n : ℕ) → AddsAcks old new → has_number new n ≡ true → has_number old n ≡ true
  adds-no_number old new n a h =
      ⊎_elim
      (λ (x : has_number old n ≡ true). x)
      (λ (x : has_number a.0 n ≡ true). absurd (both_ways _ (acks-no_number a.0 n a.2) x))
      (number-append script rules old a.0 n (subst (λ xs. has_number xs n ≡ true) a.1 h))

  number-cons : (p : Packet) (ps : List Packet) (n : ℕ) → has_number (p ∷ ps) n ≡ (is_number n p || has_number ps n)
  unfolding has_number
  number-cons p ps n = refl

  ack-cons : (p : Packet) (ps : List Packet) (n : ℕ) → has_ack (p ∷ ps) n ≡ (covers n p || has_ack ps n)
  unfolding has_ack
  ack-cons p ps n = refl

  pub grown-out : (later J : List Event) (a b n : ℕ) (x : MsgName × ℕ) → slice_get (numbered script J a b) n ≡ Some x → slice_get (numbered script (later ++ J) a b) n ≡ Some x
  grown-out [] J a b n x h = h
  grown-out (e ∷ later) J a b n x h = numbered-later script e (later ++ J) a b n x (grown-out later J a b n x h)

  -- events of messages, one after another
  pub events-on : (old mid new : List Event) → AddsEvents old mid → AddsEvents mid new → AddsEvents old new
  events-on old mid new x y = (y.0 ++ x.0, y.1 ∙ ap (λ K. y.0 ++ K) x.1 ∙ sym (append_assoc y.0 x.0 old), all-append IsOfMessage y.0 x.0 y.2 x.2)

  events-followed : (es J : List Event) → AllByRecursion IsOfMessage es → AddsEvents J (followed J es)
  unfolding followed
  events-followed [] J h = ([], refl, tt)
  events-followed (e ∷ es) J h = events-on J (e ∷ J) (followed (e ∷ J) es) (e ∷ [], refl, (h.0, tt)) (events-followed es (e ∷ J) h.1)

  note-of_messages : (m : MsgName) → AllByRecursion IsOfMessage (note_of script rules m)
  note-of_messages m = cond_both (is_some (cmpl_counter (statement script m.origin m.statement))) _ [] (AllByRecursion IsOfMessage) (λ _. (tt, tt)) (λ _. tt)

  arrival-of_messages : (r : Run) (a b : ℕ) (m : MsgName) (n : ℕ) → AllByRecursion IsOfMessage (first_delivery script rules r a b m n)
  unfolding first_delivery
  arrival-of_messages r a b m n =
      all-append IsOfMessage _ _
      (cond_both (is_am (statement script m.origin m.statement) && leg_eq m.leg Go && not (some_number script (numbered script r.journal a b) m (is_delivered r a b))) _ [] (AllByRecursion IsOfMessage) (λ _. (tt, tt)) (λ _. tt))
      (cond_both (all_numbers script (numbered script r.journal a b) m (λ k. k == n || is_delivered r a b k)) (Land m ∷ after_land script rules m) [] (AllByRecursion IsOfMessage)
      (λ _. (
        tt,
        cond_both (leg_eq m.leg Go) _ [] (AllByRecursion IsOfMessage)
            (λ _. cond_both (has_back (statement script m.origin m.statement)) _ (cond (has_completion script rules m.origin m.statement) [] (note_of script rules m)) (AllByRecursion IsOfMessage) (λ _. (tt, tt))
            (λ _. cond_both (has_completion script rules m.origin m.statement) [] (note_of script rules m) (AllByRecursion IsOfMessage) (λ _. tt) (λ _. note-of_messages m)))
            (λ _. tt),
      ))
      (λ _. tt))

  -- an entry of one link is one number of it
  pub place-below : {X : Type 0} (xs : List X) (n : ℕ) (x : X) → slice_get xs n ≡ Some x → n < length xs
  place-below [] n x h = absurd (cc)
  place-below (y ∷ xs) zero x h = omega arith
  place-below (y ∷ xs) (suc n) x h = let l = place-below xs n x h in omega arith

  -- the first number that wasn't handed over is above all that were, where these have no gap
  pub least-above : (len top : ℕ) (p : ℕ → Bool) → ((m : ℕ) → p m ≡ true → m < len) → ((m : ℕ) → m < top → p m ≡ true) → top ≤ least_missing len p
  least-above len top p below all =
      ⊎_elim
      (λ (lt : least_missing len p < top).
      let yes = all (least_missing len p) lt in
      absurd (both_ways _ (least_missing-not len p (below (least_missing len p) yes)) yes))
      (λ (ge : top ≤ least_missing len p). ge)
      (cases_lt (least_missing len p) top)

  -- an acknowledgement that covers all numbers below top, once those were handed over
  abbrev Tells : (ℕ → Bool) → Packet → Type 0
  Tells set q = (top : ℕ) → ((m : ℕ) → m < top → set m ≡ true) → (m : ℕ) → m < top → covers m q ≡ true

  ack-tells : (t : Run) (a b : ℕ) → ((m : ℕ) → is_delivered t a b m ≡ true → m < length (numbered script t.journal a b)) → (least : ℕ) × (bits : ℕ) × (ack script rules t a b ≡ Ack script.layout b a least bits) × Tells (is_delivered t a b) (Ack script.layout b a least bits)
  unfolding ack
  ack-tells t a b below =
      let len = length (numbered script t.journal a b) in
      let least = least_missing len (is_delivered t a b) in
      let bits = bits_of (window_of script) (λ i. is_delivered t a b (least + i)) in
      (least, bits, refl, λ top all m l. or_left (nat_lt m least) (has_bit bits (m - least)) (lt-ltb m least (let up = least-above len top (is_delivered t a b) below all in omega arith)))

  pub named-append : (xs ys : List Act) (r : Run) → AllNamed script rules r xs → AllNamed script rules (after script rules packet_size refusal r xs) ys → AllNamed script rules r (xs ++ ys)
  unfolding after
  named-append [] ys r h g = g
  named-append (x ∷ xs) ys r h g = (h.0, named-append xs ys (perform script rules packet_size refusal r x) h.1 g)

  -- ---- within a part

  module _ (r : Run) (a b first last top : ℕ) (part : IsPart r a b first last top) (now : holds_back script ≡ false) where
    -- after i of its entries
    record Mid (s : Run) (i : ℕ) : Type 0 where
      sound : SoundRun script rules s
      wires : (x y : ℕ) → AddsAcks (r.wire x y) (s.wire x y)
      events : AddsEvents r.journal s.journal
      stays : (x y m : ℕ) → is_acked r x y m ≡ true → is_acked s x y m ≡ true
      handed : (m : ℕ) → is_delivered r a b m ≡ true → is_delivered s a b m ≡ true
      new : (j : ℕ) → j < i → (p : DataPacket) → IsEntry r a b (first + j) (Data p) → is_delivered s a b p.seq ≡ true
      size : length (s.wire b a) ≡ length (r.wire b a) + i
      sizes : (x y : ℕ) → length (s.wire x y) ≡ length (r.wire x y) + cond (x == b && y == a) i 0
      told : (j : ℕ) → i ≡ suc j → (least : ℕ) × (bits : ℕ) × (slice_get (s.wire b a) (length (r.wire b a) + j) ≡ Some (Ack script.layout b a least bits)) × Tells (is_delivered s a b) (Ack script.layout b a least bits)

    begins : SoundRun script rules r → Mid r 0
    begins sound = record {
      sound = sound;
      wires = λ x y. adds-none (r.wire x y);
      events = ([], refl, tt);
      stays = λ x y m h. h;
      handed = λ m h. h;
      new = λ j l. absurd (omega arith);
      size = let q : length (r.wire b a) ≡ length (r.wire b a) + 0 = omega arith in q;
      sizes = λ x y. zero-if (x == b && y == a) (length (r.wire x y));
      told = λ j e. absurd (omega arith);
    }

    -- handing over a data packet
    handed-on : Run → DataPacket → Run
    handed-on s p = reply_with script rules (hand_over script rules s a b (Data p)) Did

    delivered-is : (s : Run) (k : ℕ) (p : DataPacket) → slice_get (s.wire a b) k ≡ Some (Data p) → deliver script rules s a b k ≡ handed-on s p
    unfolding deliver handed-on
    delivered-is s k p e = ap (deliver_entry script rules s a b) e

    on-handed : (s : Run) (p : DataPacket) (x y : ℕ) → (handed-on s p).handed x y ≡ cond (x == a && y == b) (Data p ∷ s.handed x y) (s.handed x y)
    unfolding handed-on hand_over
    on-handed s p x y = refl

    on-here : (s : Run) (p : DataPacket) → (handed-on s p).handed a b ≡ Data p ∷ s.handed a b
    on-here s p = on-handed s p a b ∙ cond-true (a == a && b == b) _ (s.handed a b) (and_from _ _ (eqb-refl a) (eqb-refl b))

    on-wire : (s : Run) (p : DataPacket) (x y : ℕ) → (handed-on s p).wire x y ≡ cond (x == b && y == a) (s.wire x y ++ ack script rules (with_handed script rules s a b (Data p)) a b ∷ []) (s.wire x y)
    unfolding handed-on hand_over
    on-wire s p x y = let told = ack script rules (with_handed script rules s a b (Data p)) a b in ap (λ ps. cond (x == b && y == a) (s.wire x y ++ ps) (s.wire x y)) (told-now script rules told now)

    on-back : (s : Run) (p : DataPacket) → (handed-on s p).wire b a ≡ s.wire b a ++ ack script rules (with_handed script rules s a b (Data p)) a b ∷ []
    on-back s p = on-wire s p b a ∙ cond-true (b == b && a == a) _ (s.wire b a) (and_from _ _ (eqb-refl b) (eqb-refl a))

    on-events : (s : Run) (p : DataPacket) → AddsEvents s.journal (handed-on s p).journal
    unfolding handed-on hand_over
    on-events s p = events-followed (cond (is_delivered s a b p.seq) [] (first_delivery script rules s a b p.name p.seq)) s.journal (cond_both (is_delivered s a b p.seq) [] (first_delivery script rules s a b p.name p.seq) (AllByRecursion IsOfMessage) (λ _. tt) (λ _. arrival-of_messages s a b p.name p.seq))

    -- what is handed over is known to the link
    known-numbers : (s : Run) (p : DataPacket) (k : ℕ) → SoundRun script rules s → slice_get (s.wire a b) k ≡ Some (Data p) → (m : ℕ) → is_delivered (with_handed script rules s a b (Data p)) a b m ≡ true → m < length (numbered script s.journal a b)
    known-numbers s p k sound e m d =
        let here : is_delivered (with_handed script rules s a b (Data p)) a b m ≡ (is_number m (Data p) || has_number (s.handed a b) m) =
        ap (λ ps. has_number ps m) (cond-true (a == a && b == b) (Data p ∷ s.handed a b) (s.handed a b) (and_from _ _ (eqb-refl a) (eqb-refl b))) ∙ number-cons (Data p) (s.handed a b) m in
        ⊎_elim
        (λ (x : is_number m (Data p) ≡ true).
        let fit = all-get (Fits script rules s.journal s.handed a b) (s.wire a b) k (Data p) (sound.wires a b) e in
        let l = place-below (numbered script s.journal a b) p.seq (p.name, p.fragment) fit in
        subst (λ n. n < length (numbered script s.journal a b)) (eqb-true p.seq m x) l)
        (λ (x : has_number (s.handed a b) m ≡ true).
        let q = known script rules s.journal s.wire s.handed sound a b m x in
        place-below (numbered script s.journal a b) m q.0 q.1)
        (or_cases (is_number m (Data p)) (has_number (s.handed a b) m) (sym here ∙ d))

    same-delivered : (s : Run) (p : DataPacket) (m : ℕ) → is_delivered (with_handed script rules s a b (Data p)) a b m ≡ is_delivered (handed-on s p) a b m
    unfolding handed-on hand_over
    same-delivered s p m = refl

    more-delivered : (s : Run) (p : DataPacket) (m : ℕ) → is_delivered s a b m ≡ true → is_delivered (handed-on s p) a b m ≡ true
    more-delivered s p m d = ap (λ ps. has_number ps m) (on-here s p) ∙ number-cons (Data p) (s.handed a b) m ∙ or_right _ _ d

    now-delivered : (s : Run) (p : DataPacket) → is_delivered (handed-on s p) a b p.seq ≡ true
    now-delivered s p = ap (λ ps. has_number ps p.seq) (on-here s p) ∙ number-cons (Data p) (s.handed a b) p.seq ∙ or_left _ _ (eqb-refl p.seq)

    on-acked : (s : Run) (p : DataPacket) (x y m : ℕ) → is_acked s x y m ≡ true → is_acked (handed-on s p) x y m ≡ true
    on-acked s p x y m h = ap (λ ps. has_ack ps m) (on-handed s p y x) ∙ cond_both (y == a && x == b) (Data p ∷ s.handed y x) (s.handed y x) (λ ps. has_ack ps m ≡ true) (λ _. ack-cons (Data p) (s.handed y x) m ∙ h) (λ _. h)

    longer-if : (c : Bool) (ps : List Packet) (p : Packet) (n i : ℕ) → length ps ≡ n + cond c i 0 → length (cond c (ps ++ p ∷ []) ps) ≡ n + cond c (suc i) 0
    longer-if true ps p n i e = let len = length_push ps p in omega arith
    longer-if false ps p n i e = e

    -- one entry more
    one-more : (s : Run) (i : ℕ) → i ≤ last → Mid s i → Mid (deliver script rules s a b (first + i)) (suc i)
    one-more s i l mid =
        let entry = part.entries i l in
        let p = entry.0 in
        let k = first + i in
        let ab = mid.wires a b in
        let e : slice_get (s.wire a b) k ≡ Some (Data p) = subst (λ xs. slice_get xs k ≡ Some (Data p)) (sym ab.1) (get-front (r.wire a b) ab.0 k (Data p) entry.1) in
        let same = delivered-is s k p e in
        let q = with_handed script rules s a b (Data p) in
        let told = ack-tells q a b (known-numbers s p k mid.sound e) in
        let back = on-back s p ∙ ap (λ x. s.wire b a ++ x ∷ []) told.2 in
        let grown = on-events s p in
        subst (λ t. Mid t (suc i)) (sym same)
        (record {
          sound = subst (SoundRun script rules) same (deliver-sound script rules s a b k mid.sound);
          wires = λ x y.
              subst (AddsAcks (r.wire x y)) (sym (on-wire s p x y))
              (cond_both (x == b && y == a) (s.wire x y ++ ack script rules q a b ∷ []) (s.wire x y) (AddsAcks (r.wire x y))
              (λ _. adds-one (r.wire x y) (s.wire x y) (ack script rules q a b) (subst IsAck (sym told.2) tt) (mid.wires x y))
              (λ _. mid.wires x y));
          events = events-on r.journal s.journal (handed-on s p).journal mid.events grown;
          stays = λ x y m h. on-acked s p x y m (mid.stays x y m h);
          handed = λ m h. more-delivered s p m (mid.handed m h);
          new = λ j lj u eu.
              ⊎_elim
              (λ (lt : j < i). more-delivered s p u.seq (mid.new j lt u eu))
              (λ (ge : i ≤ j).
              let ji : j ≡ i = omega arith in
              let some : Some (Data u) ≡ Some (Data p) = sym eu ∙ ap (λ n. slice_get (r.wire a b) (first + n)) ji ∙ entry.1 in
              let up : u ≡ p = cc in
              subst (λ v. is_delivered (handed-on s p) a b v.seq ≡ true) (sym up) (now-delivered s p))
              (cases_lt j i);
          sizes = λ x y.
              ap length (on-wire s p x y) ∙ longer-if (x == b && y == a) (s.wire x y) (ack script rules q a b) (length (r.wire x y)) i (mid.sizes x y);
          size = ap length back ∙ length_push (s.wire b a) (Ack script.layout b a told.0 told.1) ∙ longer (length (s.wire b a)) (length (r.wire b a)) i mid.size;
          told = λ j ej.
              let ji : i ≡ j = omega arith in (
                told.0,
                told.1,
                subst (λ xs. slice_get xs (length (r.wire b a) + j) ≡ Some (Ack script.layout b a told.0 told.1)) (sym back)
                    (subst (λ n. slice_get (s.wire b a ++ Ack script.layout b a told.0 told.1 ∷ []) n ≡ Some (Ack script.layout b a told.0 told.1)) (mid.size ∙ ap (λ n. length (r.wire b a) + n) ji) (get-back (s.wire b a) [] (Ack script.layout b a told.0 told.1))),
                λ up all m lm. told.3 up (λ n ln. same-delivered s p n ∙ all n ln) m lm,
              );
        })
      where
        longer : (n m i : ℕ) → n ≡ m + i → n + 1 ≡ m + suc i
        longer n m i e = omega arith

    all-mid : SoundRun script rules r → (i : ℕ) → i ≤ suc last → Mid (after script rules packet_size refusal r (delivers a b first i)) i
    unfolding delivers after perform
    all-mid sound zero l = begins sound
    all-mid sound (suc i) l =
        subst (λ s. Mid s (suc i)) (sym (after-more script rules (delivers a b first i) (Deliver a b (first + i)) r))
        (one-more (after script rules packet_size refusal r (delivers a b first i)) i (omega arith) (all-mid sound i (omega arith)))

    delivers-named : a < script.tasks → b < script.tasks → SoundRun script rules r → (i : ℕ) → i ≤ suc last → AllNamed script rules r (delivers a b first i)
    unfolding delivers
    delivers-named la lb sound zero l = tt
    delivers-named la lb sound (suc i) l =
        let s = after script rules packet_size refusal r (delivers a b first i) in
        let mid = all-mid sound i (omega arith) in
        let entry = part.entries i (omega arith) in
        let ab = mid.wires a b in
        let e : slice_get (s.wire a b) (first + i) ≡ Some (Data entry.0) = subst (λ xs. slice_get xs (first + i) ≡ Some (Data entry.0)) (sym ab.1) (get-front (r.wire a b) ab.0 (first + i) (Data entry.0) entry.1) in
        named-append (delivers a b first i) (Deliver a b (first + i) ∷ []) r (delivers-named la lb sound i (omega arith)) ((la, lb, place-below (s.wire a b) (first + i) (Data entry.0) e), tt)

    pub served-named : a < script.tasks → b < script.tasks → SoundRun script rules r → AllNamed script rules r (served r a b first last)
    served-named la lb sound =
        let s = after script rules packet_size refusal r (delivers a b first (suc last)) in
        let told = (all-mid sound (suc last) (omega arith)).told last refl in
        named-append (delivers a b first (suc last)) (Deliver b a (length (r.wire b a) + last) ∷ []) r (delivers-named la lb sound (suc last) (omega arith)) ((lb, la, place-below (s.wire b a) (length (r.wire b a) + last) (Ack script.layout b a told.0 told.1) told.2), tt)

    -- ---- and the acknowledgement

    acked-run : Run → (least bits : ℕ) → Run
    acked-run s least bits = reply_with script rules (hand_over script rules s b a (Ack script.layout b a least bits)) Did

    ack-is : (s : Run) (k least bits : ℕ) → slice_get (s.wire b a) k ≡ Some (Ack script.layout b a least bits) → deliver script rules s b a k ≡ acked-run s least bits
    unfolding deliver acked-run
    ack-is s k least bits e = ap (deliver_entry script rules s b a) e

    ack-wire : (s : Run) (least bits x y : ℕ) → (acked-run s least bits).wire x y ≡ s.wire x y
    unfolding acked-run hand_over
    ack-wire s least bits x y = refl

    ack-journal : (s : Run) (least bits : ℕ) → (acked-run s least bits).journal ≡ s.journal
    unfolding acked-run hand_over
    ack-journal s least bits = refl

    ack-handed : (s : Run) (least bits x y : ℕ) → (acked-run s least bits).handed x y ≡ cond (x == b && y == a) (Ack script.layout b a least bits ∷ s.handed x y) (s.handed x y)
    unfolding acked-run hand_over
    ack-handed s least bits x y = refl

    -- what was handed over still was
    ack-delivered : (s : Run) (least bits x y m : ℕ) → is_delivered s x y m ≡ true → is_delivered (acked-run s least bits) x y m ≡ true
    ack-delivered s least bits x y m h = ap (λ ps. has_number ps m) (ack-handed s least bits x y) ∙ cond_both (x == b && y == a) (Ack script.layout b a least bits ∷ s.handed x y) (s.handed x y) (λ ps. has_number ps m ≡ true) (λ _. number-cons (Ack script.layout b a least bits) (s.handed x y) m ∙ h) (λ _. h)

    ack-acked : (s : Run) (least bits x y m : ℕ) → is_acked s x y m ≡ true → is_acked (acked-run s least bits) x y m ≡ true
    ack-acked s least bits x y m h = ap (λ ps. has_ack ps m) (ack-handed s least bits y x) ∙ cond_both (y == b && x == a) (Ack script.layout b a least bits ∷ s.handed y x) (s.handed y x) (λ ps. has_ack ps m ≡ true) (λ _. ack-cons (Ack script.layout b a least bits) (s.handed y x) m ∙ or_right _ _ h) (λ _. h)

    ack-now : (s : Run) (least bits m : ℕ) → covers m (Ack script.layout b a least bits) ≡ true → is_acked (acked-run s least bits) a b m ≡ true
    ack-now s least bits m h = ap (λ ps. has_ack ps m) (ack-handed s least bits b a ∙ cond-true (b == b && a == a) _ (s.handed b a) (and_from _ _ (eqb-refl b) (eqb-refl a))) ∙ ack-cons (Ack script.layout b a least bits) (s.handed b a) m ∙ or_left _ _ h

    -- all numbers below top were handed over by then
    all-delivered : (s : Run) → Mid s (suc last) → (m : ℕ) → m < top → is_delivered s a b m ≡ true
    all-delivered s mid m l =
        ⊎_elim
        (λ (x : is_acked r a b m ≡ true). acked-delivered script rules s.journal s.wire s.handed mid.sound a b m (mid.stays a b m x))
        (λ (x : (i : ℕ) × (i ≤ last) × (p : DataPacket) × IsEntry r a b (first + i) (Data p) × (p.seq ≡ m)). subst (λ n. is_delivered s a b n ≡ true) x.4 (mid.new x.0 (let q = x.1 in omega arith) x.2 x.3))
        (part.numbers m l)

    ends : (s : Run) → Mid s (suc last) → IsServed script rules r (deliver script rules s b a (length (r.wire b a) + last)) a b
    ends s mid =
        let told = mid.told last refl in
        let k = length (r.wire b a) + last in
        let same = ack-is s k told.0 told.1 told.2 in
        let t = acked-run s told.0 told.1 in
        let sound = subst (SoundRun script rules) same (deliver-sound script rules s b a k mid.sound) in
        let events : AddsEvents r.journal t.journal = (mid.events.0, ack-journal s told.0 told.1 ∙ mid.events.1, mid.events.2) in
        subst (λ z. IsServed script rules r z a b) (sym same)
        (record {
          acked = λ m h.
              let old = adds-no_number (r.wire a b) (s.wire a b) m (mid.wires a b) (subst (λ xs. has_number xs m ≡ true) (ack-wire s told.0 told.1 a b) h) in
              ack-now s told.0 told.1 m (told.3 top (all-delivered s mid) m (part.sent m old));
          stays = λ x y m h. ack-acked s told.0 told.1 x y m (mid.stays x y m h);
          landed = λ m from to copied sent.
              let here = subst (λ J. happened (Copied m) J ≡ true) (sym events.1) (happened-grown events.0 r.journal (Copied m) copied) in
              sound.arrived m here
              (λ n is.
              let at = is.1 in
              let ours : slice_get (numbered script t.journal a b) n ≡ Some (m, is.0) = subst (λ y. slice_get (numbered script t.journal a y) n ≡ Some (m, is.0)) to (subst (λ x. slice_get (numbered script t.journal x (receiver script m)) n ≡ Some (m, is.0)) from at) in
              let old = numbered-has script r.journal m is.0 copied (numbered-below script t.journal a b n (m, is.0) ours) in
              let first_place : slice_get (numbered script r.journal a b) old.0 ≡ Some (m, is.0) = subst (λ y. slice_get (numbered script r.journal a y) old.0 ≡ Some (m, is.0)) to (subst (λ x. slice_get (numbered script r.journal x (receiver script m)) old.0 ≡ Some (m, is.0)) from old.1) in
              let later : slice_get (numbered script t.journal a b) old.0 ≡ Some (m, is.0) = subst (λ J. slice_get (numbered script J a b) old.0 ≡ Some (m, is.0)) (sym events.1) (grown-out events.0 r.journal a b old.0 (m, is.0) first_place) in
              let number = numbered-unique script rules t.journal sound.atomic a b n old.0 (m, is.0) ours later in
              let low = part.sent old.0 (sent old.0 is.0 first_place) in
              let got = ack-delivered s told.0 told.1 a b old.0 (all-delivered s mid old.0 low) in
              let own : is_delivered t a b n ≡ true = subst (λ i. is_delivered t a b i ≡ true) (sym number) got in
              subst (λ x. is_delivered t x (receiver script m) n ≡ true) (sym from) (subst (λ y. is_delivered t a y n ≡ true) (sym to) own));
          wires = λ x y. subst (AddsAcks (r.wire x y)) (sym (ack-wire s told.0 told.1 x y)) (mid.wires x y);
          events = events;
        })

    pub all-served : SoundRun script rules r → IsServed script rules r (after script rules packet_size refusal r (served r a b first last)) a b
    unfolding after perform
    all-served sound =
        let s = after script rules packet_size refusal r (delivers a b first (suc last)) in
        subst (λ t. IsServed script rules r t a b) (sym (after-more script rules (delivers a b first (suc last)) (Deliver b a (length (r.wire b a) + last)) r)) (ends s (all-mid sound (suc last) (omega arith)))

    -- each entry of a part adds an acknowledgement to the wire back, and nothing else adds an entry
    pub all-counted : SoundRun script rules r → (x y : ℕ)
        → length ((after script rules packet_size refusal r (served r a b first last)).wire x y) ≡ length (r.wire x y) + cond (x == b && y == a) (suc last) 0
    unfolding after perform
    all-counted sound x y =
        let s = after script rules packet_size refusal r (delivers a b first (suc last)) in
        let mid = all-mid sound (suc last) (omega arith) in
        let told = mid.told last refl in
        let same = ack-is s (length (r.wire b a) + last) told.0 told.1 told.2 in
        ap (λ (t : Run). length (t.wire x y)) (after-more script rules (delivers a b first (suc last)) (Deliver b a (length (r.wire b a) + last)) r ∙ same)
        ∙ ap length (ack-wire s told.0 told.1 x y)
        ∙ mid.sizes x y

  -- a part keeps a record sound
  pub delivers-sound : (r : Run) (a b first count : ℕ) → SoundRun script rules r → SoundRun script rules (after script rules packet_size refusal r (delivers a b first count))
  unfolding delivers after perform
  delivers-sound r a b first zero h = h
  delivers-sound r a b first (suc n) h =
      subst (SoundRun script rules) (sym (after-more script rules (delivers a b first n) (Deliver a b (first + n)) r))
      (deliver-sound script rules (after script rules packet_size refusal r (delivers a b first n)) a b (first + n) (delivers-sound r a b first n h))

  pub served-sound : (r : Run) (a b first last : ℕ) → SoundRun script rules r → SoundRun script rules (after script rules packet_size refusal r (served r a b first last))
  unfolding perform
  served-sound r a b first last h =
      subst (SoundRun script rules) (sym (after-more script rules (delivers a b first (suc last)) (Deliver b a (length (r.wire b a) + last)) r))
      (deliver-sound script rules (after script rules packet_size refusal r (delivers a b first (suc last))) b a (length (r.wire b a) + last) (delivers-sound r a b first (suc last) h))

-- the law, of every record
pub parts-served : HoldsOfRecords PartsAreServed
parts-served script rules r is = λ now a b first last top part. all-served script rules r a b first last top part now (record-sound script rules r is)
