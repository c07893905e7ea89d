-- What a flush of a task leaves.
use Rattle.std.proofs.Common.{◌≡◌, ℕ, zero, suc, ◌+◌, ◌-◌, ◌*◌, ◌<◌, ◌≤◌, ◌==◌, Bool, true, false, not, ◌&&◌, List, [], ◌∷◌, ◌++◌, length, Option, Some, None, refl, sym, ap, ◌∙◌, subst, ⊎_elim, inl, inr, append_assoc, arith}
use Rattle.std.specs.Prelude.{nat_lt, slice_get}
use Rattle.std.specs.List.{AllByRecursion, list_any, flat_map}
use Rattle.std.proofs.lemmas.Bool.{false≢true, and_from, both_ways, cond-true, cond-false, cond_both, cases_lt, lt-ltb, le-ltb, and_left, or_left, or_right, or_cases, eqb-true, ne_eqb, false_from_ne_true}
use Rattle.std.proofs.lemmas.List.{append-nil, length-append, length_push}
use Rattle.std.proofs.lemmas.List.Concat.{flat_map-cons}
use Rattle.lapi_base.specs.declared.script.Script.{Script}
use Rattle.lapi_base.specs.declared.rule.Rules.{Rules}
use Rattle.lapi_base.specs.declared.message.MsgName.{MsgName}
use Rattle.lapi_base.specs.declared.event.Event.{Event}
use Rattle.lapi_base.specs.declared.schedule.Act.{Act}
use Rattle.lapi_base.specs.declared.packet.DataPacket.{DataPacket}
use Rattle.lapi_base.specs.declared.packet.Packet.{Packet}
use Rattle.lapi_base.specs.declared.packet.Packet.TheVariants.{Data, Ack}
use Rattle.lapi_base.specs.Packet.Layout.{window_of}
use Rattle.lapi_base.specs.Record.Below.{below, least_missing}
use Rattle.lapi_base.specs.Record.Names.{Copied, Landed, happened}
use Rattle.lapi_base.specs.Record.Operations.{sender, receiver}
use Rattle.lapi_base.specs.Packet.Spelling.{refusal}
use Rattle.lapi_base.specs.Packet.PacketBytes.{packet_size}
use Rattle.lapi_base.specs.Record.Wires.{Run, numbered, base, is_number, has_number, is_sent, is_acked, is_delivered, packet_of, packets, to_send}
use Rattle.lapi_base.specs.Record.Acts.{poll, perform, after}
use Rattle.lapi_base.specs.Record.Atomic.{Atomic}
use Rattle.lapi_base.specs.Record.WorldView.{HoldsOfRecords}
use Rattle.lapi_base.proofs.ListLaws.{all-append, any-all, get-front, all-get, get-right, get-some}
use Rattle.lapi_base.proofs.TestLaws.{eqb-refl}
use Rattle.lapi_laws.proofs.Sound.{Fits, known, number-known, acked-delivered}
use Rattle.lapi_laws.proofs.Lines.{SoundRun, poll-sound}
use Rattle.lapi_laws.proofs.LastAck.{IsData, packets-data}
use Rattle.lapi_parts.proofs.Records.{record-sound}
use Rattle.lapi_base.proofs.NameLaws.{happened-grown}
use Rattle.lapi_parts.proofs.SentFront.{packets-have}
use Rattle.lapi_base.proofs.PacketNumbers.{number-append}
use Rattle.lapi_base.proofs.BelowLaws.{below-has}
use Rattle.lapi_parts.proofs.HandedPackets.{numbered-has, numbered-below, numbered-unique}
use Rattle.lapi_flush.specs.Served.{delivers, served, IsAck, AddsAcks, AddsEvents, IsPart, AllNamed}
use Rattle.lapi_flush.specs.Flushed.{data_count, sum_to, all_data, IsCalm, polled, part_acts, link_acts, flush, IsFlushed, FlushesAreFlushed}
use Rattle.lapi_flush.proofs.NoneOwed.{IsPaid, none-owed, record-paid}
use Rattle.lapi_flush.proofs.ServedParts.{named-append, served-named, adds-none, events-on, adds-no_number, grown-out, place-below, least-above, all-served, served-sound}

-- ---- the packets of a list of numbers

-- what passes a test stands at some place
any-place : {X : Type 0} (t : X → Bool) (xs : List X) → list_any t xs ≡ true → (i : ℕ) × (x : X) × (i < length xs) × (slice_get xs i ≡ Some x) × (t x ≡ true)
any-place t [] h = absurd (false≢true h)
any-place t (x ∷ xs) h =
    ⊎_elim
    (λ (here : t x ≡ true). (0, x, omega arith, refl, here))
    (λ (later : list_any t xs ≡ true). let r = any-place t xs later in (suc r.0, r.1, omega (arith, r.2), r.3, r.4))
    (or_cases (t x) (list_any t xs) h)

none-there : (n : ℕ) → has_number [] n ≡ false
unfolding has_number
none-there n = refl

pub count-append : (xs ys : List Packet) → data_count (xs ++ ys) ≡ data_count xs + data_count ys
unfolding data_count
count-append [] ys = let q : data_count ys ≡ 0 + data_count ys = omega arith in q
count-append (Data p ∷ ps) ys = let h = count-append ps ys in let q : suc (data_count (ps ++ ys)) ≡ suc (data_count ps) + data_count ys = omega arith in q
count-append (Ack layout from to base bits ∷ ps) ys = count-append ps ys

count-acks : (acks : List Packet) → AllByRecursion IsAck acks → data_count acks ≡ 0
unfolding data_count
count-acks [] h = refl
count-acks (Data p ∷ ps) h = absurd h.0
count-acks (Ack layout from to base bits ∷ ps) h = count-acks ps h.1

pub count-adds : (old new : List Packet) → AddsAcks old new → data_count new ≡ data_count old
count-adds old new x = let e = ap data_count x.1 ∙ count-append old x.0 in let z = count-acks x.0 x.2 in let q : data_count new ≡ data_count old = omega arith in q

-- ---- sums

pub sum-le : (n : ℕ) (f g : ℕ → ℕ) → ((k : ℕ) → k < n → f k ≤ g k) → sum_to n f ≤ sum_to n g
unfolding sum_to
sum-le zero f g h = omega arith
sum-le (suc n) f g h = let old = sum-le n f g (λ k l. h k (omega arith)) in let now = h n (omega arith) in omega arith

-- one term alone grows by half of x at least
sum-one : (n t x : ℕ) (f g : ℕ → ℕ) → t < n → ((k : ℕ) → k < n → (k ≡ t → ⊥) → f k ≤ g k) → x + 2 * f t ≤ 2 * g t → x + 2 * sum_to n f ≤ 2 * sum_to n g
unfolding sum_to
sum-one zero t x f g l h e = absurd (omega arith)
sum-one (suc n) t x f g l h e =
    ⊎_elim
    (λ (lt : t < n).
    let old = sum-one n t x f g lt (λ k lk apart. h k (omega arith) apart) e in
    let now = h n (omega arith) (λ same. absurd (omega arith)) in
    both x (sum_to n f) (f n) (sum_to n g) (g n) old now)
    (λ (ge : n ≤ t).
    let same : t ≡ n = omega arith in
    let rest = sum-le n f g (λ k lk. h k (omega arith) (λ q. absurd (omega arith))) in
    let e' = subst (λ k. x + 2 * f k ≤ 2 * g k) same e in
    both' x (sum_to n f) (f n) (sum_to n g) (g n) rest e')
    (cases_lt t n)
  where
    both : (x a b c d : ℕ) → x + 2 * a ≤ 2 * c → b ≤ d → x + 2 * (a + b) ≤ 2 * (c + d)
    both x a b c d p q = omega arith

    both' : (x a b c d : ℕ) → a ≤ c → x + 2 * b ≤ 2 * d → x + 2 * (a + b) ≤ 2 * (c + d)
    both' x a b c d p q = omega arith

delivers-length : (a b first n : ℕ) → length (delivers a b first n) ≡ n
unfolding delivers
delivers-length a b first zero = refl
delivers-length a b first (suc n) = length_push (delivers a b first n) _ ∙ (let h = delivers-length a b first n in let q : length (delivers a b first n) + 1 ≡ suc n = omega arith in q)

pub served-length : (r : Run) (a b first last : ℕ) → length (served r a b first last) ≡ suc last + 1
served-length r a b first last = length_push (delivers a b first (suc last)) _ ∙ ap (λ n. n + 1) (delivers-length a b first (suc last))

below-few : (n top : ℕ) (p : ℕ → Bool) → ((k : ℕ) → k < top → p k ≡ false) → length (below n p) ≤ n - top
unfolding below
below-few zero top p h = omega arith
below-few (suc n) top p h =
    let old = below-few n top p h in
    cond_both (p n) (below n p ++ n ∷ []) (below n p) (λ xs. length xs ≤ suc n - top)
    (λ yes_p.
    let high : top ≤ n = ⊎_elim (λ (lt : n < top). absurd (both_ways _ (h n lt) yes_p)) (λ (ge : top ≤ n). ge) (cases_lt n top) in
    let len = length_push (below n p) n in
    one-more (length (below n p ++ n ∷ [])) (length (below n p)) n top len old high)
    (λ _. omega arith)
  where
    one-more : (m l n top : ℕ) → m ≡ l + 1 → l ≤ n - top → top ≤ n → m ≤ suc n - top
    one-more m l n top a b c = omega arith

data-of : (p : Packet) → IsData p → (d : DataPacket) × (p ≡ Data d)
data-of (Data d) h = (d, refl)
data-of (Ack layout from to base bits) h = absurd h

number-data : (p : Packet) (n : ℕ) → is_number n p ≡ true → (d : DataPacket) × (p ≡ Data d) × (d.seq ≡ n)
number-data (Data d) n h = (d, refl, eqb-true d.seq n h)
number-data (Ack layout from to base bits) n h = absurd (false≢true h)

pub count-data : (ps : List Packet) → AllByRecursion IsData ps → data_count ps ≡ length ps
unfolding data_count
count-data [] h = refl
count-data (Data p ∷ ps) h = let q : suc (data_count ps) ≡ suc (length ps) = omega (arith, count-data ps h.1) in q
count-data (Ack layout from to base bits ∷ ps) h = absurd h.0

module _ (script : Script) (rules : Rules) where
  packet-few : (J : List Event) (n : ℕ) (o : Option (MsgName × ℕ)) → length (packet_of script rules J n o) ≤ 1
  packet-few J n None = omega arith
  packet-few J n (Some pair) = omega arith

  packets-few : (J : List Event) (a b : ℕ) (numbers : List ℕ) → length (packets script rules J a b numbers) ≤ length numbers
  unfolding packets
  packets-few J a b [] = omega arith
  packets-few J a b (n ∷ ns) =
      let first = packet_of script rules J n (slice_get (numbered script J a b) n) in
      let rest = flat_map (λ m. packet_of script rules J m (slice_get (numbered script J a b) m)) ns in
      let split = ap length (flat_map-cons (λ m. packet_of script rules J m (slice_get (numbered script J a b) m)) n ns) ∙ length-append first rest in
      let one = packet-few J n (slice_get (numbered script J a b) n) in
      let more = packets-few J a b ns in
      sums (length (flat_map (λ m. packet_of script rules J m (slice_get (numbered script J a b) m)) (n ∷ ns))) (length first) (length rest) (length ns) split one more
    where
      sums : (all f r n : ℕ) → all ≡ f + r → f ≤ 1 → r ≤ n → all ≤ suc n
      sums all f r n a b c = omega arith

  -- ---- a calm link that is polled

  module _ (r : Run) (t : ℕ) (sound : SoundRun script rules r) (paid : IsPaid script rules r) where
    unfoldable pub J : List Event
    J = polled script rules r t

    unfoldable pub s0 : Run
    s0 = poll script rules r t

    unfoldable pub new : ℕ → List Packet
    new b = packets script rules J t b (to_send script rules r J t b)

    s0-sound : SoundRun script rules s0
    unfolding s0
    s0-sound = poll-sound script rules r t sound

    s0-journal : s0.journal ≡ J
    unfolding s0 J poll
    s0-journal = refl

    pub s0-wire : (b : ℕ) → s0.wire t b ≡ r.wire t b ++ new b
    unfolding s0 new J poll
    s0-wire b = cond-true (t == t) _ (r.wire t b) (eqb-refl t) ∙ ap (λ ps. r.wire t b ++ (new b ++ ps)) (none-owed script rules r b t paid) ∙ ap (λ ps. r.wire t b ++ ps) (append-nil (new b))

    pub s0-other : (a b : ℕ) → (a ≡ t → ⊥) → s0.wire a b ≡ r.wire a b
    unfolding s0 poll
    s0-other a b h = cond-false (a == t) _ (r.wire a b) (ne_eqb a t h)

    s0-handed : (a b : ℕ) → s0.handed a b ≡ r.handed a b
    unfolding s0 poll
    s0-handed a b = refl

    s0-acked : (a b m : ℕ) → is_acked r a b m ≡ true → is_acked s0 a b m ≡ true
    unfolding s0 poll
    s0-acked a b m h = h

    unfoldable pub size : ℕ → ℕ
    size b = length (numbered script J t b)

    -- what was acknowledged is a number of the link
    acked-known : (b m : ℕ) → is_acked r t b m ≡ true → m < size b
    unfolding size
    acked-known b m h =
        let d = acked-delivered script rules s0.journal s0.wire s0.handed s0-sound t b m (s0-acked t b m h) in
        let k = known script rules s0.journal s0.wire s0.handed s0-sound t b m d in
        place-below script rules (numbered script J t b) m k.0 (subst (λ K. slice_get (numbered script K t b) m ≡ Some k.0) s0-journal k.1)

    -- what is sent on its wire now is a number of the link
    sent-known : (b m : ℕ) → is_sent s0 t b m ≡ true → m < size b
    unfolding size has_number
    sent-known b m h =
        let p = any-all (is_number m) (Fits script rules s0.journal s0.handed t b) (s0.wire t b) (s0-sound.wires t b) h in
        let x = number-known script rules s0.journal s0.handed t b m p.0 p.1 p.2 in
        place-below script rules (numbered script J t b) m x.0 (subst (λ K. slice_get (numbered script K t b) m ≡ Some x.0) s0-journal x.1)

    module _ (b top : ℕ) (calm : IsCalm r t b top) (room : length (numbered script (polled script rules r t) t b) ≤ top + window_of script) where
      -- all of its numbers are in the window
      pub edge-far : (m : ℕ) → m < size b → nat_lt m (base script (record r { journal = J }) t b + window_of script) ≡ true
      unfolding base size J
      edge-far m l =
          let least = least-above script rules (length (numbered script J t b)) top (is_acked r t b) (λ k h. acked-known b k h) calm.acked in
          lt-ltb m (least_missing (length (numbered script J t b)) (is_acked r t b) + window_of script) (omega arith)

      -- those that weren't sent are new
      new-has : (m : ℕ) → m < size b → top ≤ m → has_number (new b) m ≡ true
      unfolding new to_send size
      new-has m l ge =
          packets-have script rules J t b (below (length (numbered script J t b)) (λ n. not (is_sent r t b n) && nat_lt n (base script (record r { journal = J }) t b + window_of script))) m
          (below-has (length (numbered script J t b)) (λ n. not (is_sent r t b n) && nat_lt n (base script (record r { journal = J }) t b + window_of script)) m l (and_from _ _ (ap not (calm.sent m ∙ le-ltb m top ge)) (edge-far m l)))
          l

      new-data : AllByRecursion IsData (new b)
      unfolding new
      new-data = packets-data script rules J t b (to_send script rules r J t b)

      -- no more than the link has numbers that weren't sent
      new-few : length (new b) ≤ size b - top
      unfolding new to_send size
      new-few =
          let p = λ (n : ℕ). not (is_sent r t b n) && nat_lt n (base script (record r { journal = J }) t b + window_of script) in
          let few = packets-few J t b (below (length (numbered script J t b)) p) in
          let low = below-few (length (numbered script J t b)) top p (λ k l. and_left _ _ (ap not (calm.sent k ∙ lt-ltb k top l))) in
          omega arith

      top-low : top ≤ size b
      top-low = ⊎_elim (λ (lt : size b < top). let bad = acked-known b (size b) (calm.acked (size b) lt) in absurd (omega arith)) (λ (ge : top ≤ size b). ge) (cases_lt (size b) top)

      once-more : data_count (s0.wire t b) ≤ size b
      once-more =
          let e = ap data_count (s0-wire b) ∙ count-append (r.wire t b) (new b) in
          let d = count-data (new b) new-data in
          let few = new-few in
          let low = top-low in
          let old = calm.once in
          sums (data_count (s0.wire t b)) (data_count (r.wire t b)) (data_count (new b)) (length (new b)) (size b) top e d few low old
        where
          sums : (all o n l s top : ℕ) → all ≡ o + n → n ≡ l → l ≤ s - top → top ≤ s → o ≤ top → all ≤ s
          sums all o n l s top a b c d e = omega arith

      -- all of its numbers were sent
      now-sent : (m : ℕ) → m < size b → is_sent s0 t b m ≡ true
      now-sent m l =
          ap (λ ps. has_number ps m) (s0-wire b) ∙ number-append (r.wire t b) (new b) m
          ∙ ⊎_elim
          (λ (lt : m < top). or_left (has_number (r.wire t b) m) (has_number (new b) m) (calm.sent m ∙ lt-ltb m top lt))
          (λ (ge : top ≤ m). or_right (has_number (r.wire t b) m) (has_number (new b) m) (new-has m l ge))
          (cases_lt m top)

      -- the entries that the Poll added are a part
      pub is-part : (last : ℕ) → length (new b) ≡ suc last → IsPart s0 t b (length (r.wire t b)) last (size b)
      unfolding has_number
      is-part last e = record {
        entries = λ i l.
            let x = get-some (new b) i (omega arith) in
            let d = data-of x.0 (all-get IsData (new b) i x.0 new-data x.1) in
            (d.0, subst (λ ps. slice_get ps (length (r.wire t b) + i) ≡ Some (Data d.0)) (sym (s0-wire b)) (get-right (r.wire t b) (new b) i (Data d.0) (x.1 ∙ ap (λ p. Some p) d.1)));
        numbers = λ m l.
            ⊎_elim
            (λ (lt : m < top). inl (s0-acked t b m (calm.acked m lt)))
            (λ (ge : top ≤ m).
            let y = any-place (is_number m) (new b) (new-has m l ge) in
            let d = number-data y.1 m y.4 in
            inr (y.0, omega (arith, y.2), d.0, subst (λ ps. slice_get ps (length (r.wire t b) + y.0) ≡ Some (Data d.0)) (sym (s0-wire b)) (get-right (r.wire t b) (new b) y.0 (Data d.0) (y.3 ∙ ap (λ p. Some p) d.1)), d.2))
            (cases_lt m top);
        sent = λ m h. sent-known b m h;
      }

      -- without new entries all numbers were acknowledged before
      none-new : length (new b) ≡ 0 → (m : ℕ) → m < size b → is_acked s0 t b m ≡ true
      none-new e m l =
          ⊎_elim
          (λ (lt : m < top). s0-acked t b m (calm.acked m lt))
          (λ (ge : top ≤ m). let y = any-place' (new b) m (new-has m l ge) in absurd (omega arith))
          (cases_lt m top)
        where
          any-place' : (ps : List Packet) (m : ℕ) → has_number ps m ≡ true → 0 < length ps
          any-place' [] m h = absurd (both_ways _ (none-there m) h)
          any-place' (p ∷ ps) m h = omega arith

    -- ---- link by link

    acks-on : (old mid new_wire : List Packet) → AddsAcks old mid → AddsAcks mid new_wire → AddsAcks old new_wire
    acks-on old mid new_wire x y = (x.0 ++ y.0, y.1 ∙ ap (λ ps. ps ++ y.0) x.1 ∙ append_assoc old x.0 y.0, all-append IsAck x.0 y.0 x.2 y.2)

    sent-grows : (old more : List Packet) (m : ℕ) → AddsAcks old more → has_number old m ≡ true → has_number more m ≡ true
    sent-grows old more m x h = ap (λ ps. has_number ps m) x.1 ∙ number-append old x.0 m ∙ or_left (has_number old m) (has_number x.0 m) h

    -- a part is one later too, where only acknowledgements were added
    pub part-moves : (s u : Run) (a b first last top : ℕ) → AddsAcks (s.wire a b) (u.wire a b) → ((m : ℕ) → is_acked s a b m ≡ true → is_acked u a b m ≡ true) → IsPart s a b first last top → IsPart u a b first last top
    part-moves s u a b first last top x more part =
        let moved = λ (k : ℕ) (p : Packet) (e : slice_get (s.wire a b) k ≡ Some p). subst (λ ps. slice_get ps k ≡ Some p) (sym x.1) (get-front (s.wire a b) x.0 k p e) in record {
          entries = λ i l. let q = part.entries i l in (q.0, moved (first + i) (Data q.0) q.1);
          numbers = λ m l.
              ⊎_elim
              (λ (y : is_acked s a b m ≡ true). inl (more m y))
              (λ (y : (i : ℕ) × (i ≤ last) × (p : DataPacket) × (slice_get (s.wire a b) (first + i) ≡ Some (Data p)) × (p.seq ≡ m)). inr (y.0, y.1, y.2, moved (first + y.0) (Data y.2) y.3, y.4))
              (part.numbers m l);
          sent = λ m h. part.sent m (adds-no_number script rules (s.wire a b) (u.wire a b) m x h);
        }

    -- after the first b links
    pub record Linked (u : Run) (b : ℕ) : Type 0 where
      pub is_sound : SoundRun script rules u
      pub wires : (x y : ℕ) → AddsAcks (s0.wire x y) (u.wire x y)
      pub events : AddsEvents (polled script rules r t) u.journal
      pub stays : (x y m : ℕ) → is_acked s0 x y m ≡ true → is_acked u x y m ≡ true
      pub told : (c : ℕ) → c < b → (m : ℕ) → m < size c → is_acked u t c m ≡ true

    polled-linked : Linked s0 0
    unfolding J
    polled-linked = record {
      is_sound = s0-sound;
      wires = λ x y. adds-none (s0.wire x y);
      events = ([], s0-journal, tt);
      stays = λ x y m h. h;
      told = λ c l. absurd (omega arith);
    }

    module _ (tops : ℕ → ℕ) (calms : (b : ℕ) → b < script.tasks → IsCalm r t b (tops b)) (rooms : (b : ℕ) → b < script.tasks → length (numbered script (polled script rules r t) t b) ≤ tops b + window_of script) where
      one-link : (u : Run) (b count : ℕ) → b < script.tasks → length (new b) ≡ count → Linked u b → Linked (after script rules packet_size refusal u (part_acts script rules u t b (length (r.wire t b)) count)) (suc b)
      unfolding after
      one-link u b zero l e k = record {
        is_sound = k.is_sound;
        wires = k.wires;
        events = k.events;
        stays = k.stays;
        told = λ c lc m lm.
            ⊎_elim
            (λ (lt : c < b). k.told c lt m lm)
            (λ (ge : b ≤ c). let same : b ≡ c = omega arith in k.stays t c m (subst (λ d. (n : ℕ) → n < size d → is_acked s0 t d n ≡ true) same (none-new b (tops b) (calms b l) (rooms b l) e) m lm))
            (cases_lt c b);
      }
      one-link u b (suc last) l e k =
          let first = length (r.wire t b) in
          let v = after script rules packet_size refusal u (served u t b first last) in
          let part = part-moves s0 u t b first last (size b) (k.wires t b) (λ m h. k.stays t b m h) (is-part b (tops b) (calms b l) (rooms b l) last e) in
          let done_part = all-served script rules u t b first last (size b) part paid.0 k.is_sound in
          let wires = λ (x y : ℕ). acks-on (s0.wire x y) (u.wire x y) (v.wire x y) (k.wires x y) (done_part.wires x y) in record {
            is_sound = served-sound script rules u t b first last k.is_sound;
            wires = wires;
            events = events-on script rules (polled script rules r t) u.journal v.journal k.events done_part.events;
            stays = λ x y m h. done_part.stays x y m (k.stays x y m h);
            told = λ c lc m lm.
                ⊎_elim
                (λ (lt : c < b). done_part.stays t c m (k.told c lt m lm))
                (λ (ge : b ≤ c).
                let same : b ≡ c = omega arith in
                subst (λ d. (n : ℕ) → n < size d → is_acked v t d n ≡ true) same
                (λ n ln. done_part.acked n (sent-grows (s0.wire t b) (v.wire t b) n (wires t b) (now-sent b (tops b) (calms b l) (rooms b l) n ln))) m lm)
                (cases_lt c b);
          }

      pub count-new : (b : ℕ) → length (new b) ≡ length ((poll script rules r t).wire t b) - length (r.wire t b)
      unfolding s0
      count-new b = let e = ap length (s0-wire b) ∙ length-append (r.wire t b) (new b) in omega arith

      pub links : (b : ℕ) → b ≤ script.tasks → Linked (after script rules packet_size refusal (poll script rules r t) (link_acts script rules r t b)) b
      unfolding link_acts after s0
      links zero l = polled-linked
      links (suc b) l =
          let acts = link_acts script rules r t b in
          let u = after script rules packet_size refusal (poll script rules r t) acts in
          let count = length ((poll script rules r t).wire t b) - length (r.wire t b) in
          subst (λ v. Linked v (suc b)) (sym (after-append acts (part_acts script rules u t b (length (r.wire t b)) count) (poll script rules r t)))
          (one-link u b count (omega arith) (count-new b) (links b (omega arith)))
        where
          after-append : (xs ys : List Act) (s : Run) → after script rules packet_size refusal s (xs ++ ys) ≡ after script rules packet_size refusal (after script rules packet_size refusal s xs) ys
          after-append [] ys s = refl
          after-append (x ∷ xs) ys s = after-append xs ys (perform script rules packet_size refusal s x)

      -- the lines of the links: two for each new data packet at most
      part-lines : (u : Run) (b first count : ℕ) → length (part_acts script rules u t b first count) ≤ 2 * count
      part-lines u b first zero = omega arith
      part-lines u b first (suc last) = let e = served-length u t b first last in omega arith

      link-lines : (n : ℕ) → n ≤ script.tasks → length (link_acts script rules r t n) + 2 * sum_to n (λ b. data_count (r.wire t b)) ≤ 2 * sum_to n (λ b. data_count (s0.wire t b))
      unfolding link_acts sum_to
      link-lines zero l = omega arith
      link-lines (suc b) l =
          let acts = link_acts script rules r t b in
          let u = after script rules packet_size refusal (poll script rules r t) acts in
          let count = length ((poll script rules r t).wire t b) - length (r.wire t b) in
          let part = part_acts script rules u t b (length (r.wire t b)) count in
          let old = link-lines b (omega arith) in
          let len = length-append acts part in
          let few = part-lines u b (length (r.wire t b)) count in
          let c = count-new b in
          let e = ap data_count (s0-wire b) ∙ count-append (r.wire t b) (new b) in
          let lb : b < script.tasks = omega arith in
          let d = count-data (new b) (new-data b (tops b) (calms b lb) (rooms b lb)) in
          sums (length (acts ++ part)) (length acts) (length part) count (length (new b)) (data_count (new b)) (data_count (r.wire t b)) (data_count (s0.wire t b)) (sum_to b (λ c. data_count (r.wire t c))) (sum_to b (λ c. data_count (s0.wire t c))) len few c d e old
        where
          sums : (all x y c n m o s f g : ℕ) → all ≡ x + y → y ≤ 2 * c → n ≡ c → m ≡ n → s ≡ o + m → x + 2 * f ≤ 2 * g → all + 2 * (f + o) ≤ 2 * (g + s)
          sums all x y c n m o s f g a b d e h i = omega arith

      part-named : (u : Run) (b count : ℕ) → t < script.tasks → b < script.tasks → length (new b) ≡ count → Linked u b → AllNamed script rules u (part_acts script rules u t b (length (r.wire t b)) count)
      part-named u b zero task l e k = tt
      part-named u b (suc last) task l e k =
          let part = part-moves s0 u t b (length (r.wire t b)) last (size b) (k.wires t b) (λ m h. k.stays t b m h) (is-part b (tops b) (calms b l) (rooms b l) last e) in
          served-named script rules u t b (length (r.wire t b)) last (size b) part paid.0 task l k.is_sound

      links-named : t < script.tasks → (b : ℕ) → b ≤ script.tasks → AllNamed script rules (poll script rules r t) (link_acts script rules r t b)
      unfolding link_acts
      links-named task zero l = tt
      links-named task (suc b) l =
          let acts = link_acts script rules r t b in
          let u = after script rules packet_size refusal (poll script rules r t) acts in
          let count = length ((poll script rules r t).wire t b) - length (r.wire t b) in
          named-append script rules acts (part_acts script rules u t b (length (r.wire t b)) count) (poll script rules r t) (links-named task b (omega arith)) (part-named u b count task (omega arith) (count-new b) (links b (omega arith)))

      pub flush-named : t < script.tasks → AllNamed script rules r (flush script rules r t)
      unfolding perform
      flush-named task = (task, links-named task script.tasks (omega arith))

      -- where all numbers of a message were acknowledged, it has landed
      acked-landed : (u : Run) → SoundRun script rules u → AddsEvents (polled script rules r t) u.journal → (b : ℕ) → ((n : ℕ) → n < length (numbered script (polled script rules r t) t b) → is_acked u t b n ≡ true) → (m : MsgName) → sender script m ≡ t → receiver script m ≡ b → happened (Copied m) (polled script rules r t) ≡ true → happened (Landed m) u.journal ≡ true
      acked-landed u sound_u events b acked m from to copied =
          let K = polled script rules r t in
          let here = subst (λ L. happened (Copied m) L ≡ true) (sym events.1) (happened-grown events.0 K (Copied m) copied) in
          sound_u.arrived m here
          (λ n is.
          let ours : slice_get (numbered script u.journal t b) n ≡ Some (m, is.0) = subst (λ y. slice_get (numbered script u.journal t y) n ≡ Some (m, is.0)) to (subst (λ x. slice_get (numbered script u.journal x (receiver script m)) n ≡ Some (m, is.0)) from is.1) in
          let old = numbered-has script K m is.0 copied (numbered-below script u.journal t b n (m, is.0) ours) in
          let place : slice_get (numbered script K t b) old.0 ≡ Some (m, is.0) = subst (λ y. slice_get (numbered script K t y) old.0 ≡ Some (m, is.0)) to (subst (λ x. slice_get (numbered script K x (receiver script m)) old.0 ≡ Some (m, is.0)) from old.1) in
          let later : slice_get (numbered script u.journal t b) old.0 ≡ Some (m, is.0) = subst (λ L. slice_get (numbered script L t b) old.0 ≡ Some (m, is.0)) (sym events.1) (grown-out script rules events.0 K t b old.0 (m, is.0) place) in
          let number = numbered-unique script rules u.journal sound_u.atomic t b n old.0 (m, is.0) ours later in
          let got = acked-delivered script rules u.journal u.wire u.handed sound_u t b old.0 (acked old.0 (place-below script rules (numbered script K t b) old.0 (m, is.0) place)) in
          let own : is_delivered u t b n ≡ true = subst (λ i. is_delivered u t b i ≡ true) (sym number) got in
          subst (λ x. is_delivered u x (receiver script m) n ≡ true) (sym from) (subst (λ y. is_delivered u t y n ≡ true) (sym to) own))

      pub flushed : t < script.tasks → IsFlushed script rules r (after script rules packet_size refusal r (flush script rules r t)) t
      unfolding after perform s0 size J
      flushed task =
          let k = links script.tasks (omega arith) in
          let s = after script rules packet_size refusal (poll script rules r t) (link_acts script rules r t script.tasks) in record {
            own = λ b l. record {
              sent = λ m.
                  ⊎_elim
                  (λ (lt : m < size b). sent-grows (s0.wire t b) (s.wire t b) m (k.wires t b) (now-sent b (tops b) (calms b l) (rooms b l) m lt) ∙ sym (lt-ltb m (size b) lt))
                  (λ (ge : size b ≤ m). false_from_ne_true _ (λ h. let low = sent-known b m (adds-no_number script rules (s0.wire t b) (s.wire t b) m (k.wires t b) h) in absurd (omega arith)) ∙ sym (le-ltb m (size b) ge))
                  (cases_lt m (size b));
              acked = λ m lm. k.told b l m lm;
              once = let e = count-adds (s0.wire t b) (s.wire t b) (k.wires t b) in let h = once-more b (tops b) (calms b l) (rooms b l) in omega arith;
            };
            others = λ a b top apart calm. record {
              sent = λ m.
                  let back = λ (h : is_sent s a b m ≡ true). subst (λ ps. has_number ps m ≡ true) (s0-other a b apart) (adds-no_number script rules (s0.wire a b) (s.wire a b) m (k.wires a b) h) in
                  ⊎_elim
                  (λ (lt : m < top). sent-grows (s0.wire a b) (s.wire a b) m (k.wires a b) (subst (λ ps. has_number ps m ≡ true) (sym (s0-other a b apart)) (calm.sent m ∙ lt-ltb m top lt)) ∙ sym (lt-ltb m top lt))
                  (λ (ge : top ≤ m). false_from_ne_true _ (λ h. both_ways _ (calm.sent m ∙ le-ltb m top ge) (back h)) ∙ sym (le-ltb m top ge))
                  (cases_lt m top);
              acked = λ m l. k.stays a b m (s0-acked a b m (calm.acked m l));
              once = let e = count-adds (s0.wire a b) (s.wire a b) (k.wires a b) ∙ ap data_count (s0-other a b apart) in let h = calm.once in omega arith;
            };
            landed = λ m from room_to copied. acked-landed s k.is_sound k.events (receiver script m) (λ n ln. k.told (receiver script m) room_to n ln) m from refl copied;
            events = k.events;
            lines =
                let acts = link_acts script rules r t script.tasks in
                let own = link-lines script.tasks (omega arith) in
                let same = sum-le script.tasks (λ b. data_count (s0.wire t b)) (λ b. data_count (s.wire t b)) (λ b lb. let e = count-adds (s0.wire t b) (s.wire t b) (k.wires t b) in omega arith) in
                let row = twice (length acts) (sum_to script.tasks (λ b. data_count (r.wire t b))) (sum_to script.tasks (λ b. data_count (s0.wire t b))) (sum_to script.tasks (λ b. data_count (s.wire t b))) own same in
                let whole = sum-one script.tasks t (length acts) (λ a. sum_to script.tasks (λ b. data_count (r.wire a b))) (λ a. sum_to script.tasks (λ b. data_count (s.wire a b))) task (λ a la apart. sum-le script.tasks (λ b. data_count (r.wire a b)) (λ b. data_count (s.wire a b)) (λ b lb. let e = count-adds (s0.wire a b) (s.wire a b) (k.wires a b) ∙ ap data_count (s0-other a b apart) in omega arith)) row in
                one-line (length acts) (all_data script.tasks r) (all_data script.tasks s) whole;
          }
        where
          twice : (x f g h : ℕ) → x + 2 * f ≤ 2 * g → g ≤ h → x + 2 * f ≤ 2 * h
          twice x f g h a b = omega arith

          one-line : (x f g : ℕ) → x + 2 * f ≤ 2 * g → suc x + 2 * f ≤ 1 + 2 * g
          one-line x f g a = omega arith

  -- a flush keeps a record sound, and so does its Poll
  pub poll-atomic : (r : Run) (t : ℕ) → SoundRun script rules r → Atomic script rules (polled script rules r t)
  unfolding poll
  poll-atomic r t h = (poll-sound script rules r t h).atomic

  parts-sound : (u : Run) (a b first count : ℕ) → SoundRun script rules u → SoundRun script rules (after script rules packet_size refusal u (part_acts script rules u a b first count))
  unfolding after
  parts-sound u a b first zero h = h
  parts-sound u a b first (suc last) h = served-sound script rules u a b first last h

  pub after-join : (xs ys : List Act) (s : Run) → after script rules packet_size refusal s (xs ++ ys) ≡ after script rules packet_size refusal (after script rules packet_size refusal s xs) ys
  unfolding after
  after-join [] ys s = refl
  after-join (x ∷ xs) ys s = after-join xs ys (perform script rules packet_size refusal s x)

  links-sound : (r : Run) (t n : ℕ) → SoundRun script rules r → SoundRun script rules (after script rules packet_size refusal (poll script rules r t) (link_acts script rules r t n))
  unfolding link_acts after
  links-sound r t zero h = poll-sound script rules r t h
  links-sound r t (suc b) h =
      let acts = link_acts script rules r t b in
      let u = after script rules packet_size refusal (poll script rules r t) acts in
      let count = length ((poll script rules r t).wire t b) - length (r.wire t b) in
      subst (SoundRun script rules) (sym (after-join acts (part_acts script rules u t b (length (r.wire t b)) count) (poll script rules r t))) (parts-sound u t b (length (r.wire t b)) count (links-sound r t b h))

  pub flush-sound : (r : Run) (t : ℕ) → SoundRun script rules r → SoundRun script rules (after script rules packet_size refusal r (flush script rules r t))
  unfolding after perform
  flush-sound r t h = links-sound r t script.tasks h

-- the law, of every record
pub flushes-flushed : HoldsOfRecords FlushesAreFlushed
flushes-flushed script rules r is = λ now t tops l calms rooms. flushed script rules r t (record-sound script rules r is) (record-paid script rules r is now) tops calms rooms l
