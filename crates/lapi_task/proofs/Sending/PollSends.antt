-- What a poll sends on the links of its task.
use Rattle.std.proofs.Common.{◌≡◌, ◌≢◌, ℕ, zero, suc, ◌+◌, ◌-◌, ◌<◌, ◌≤◌, ◌==◌, Bool, true, false, cond, ◌&&◌, ◌||◌, not, List, [], ◌∷◌, ◌++◌, map, length, take, drop, set, Option, Some, None, refl, sym, ap, ◌∙◌, subst, ⊎_elim, arith, append_assoc, add-one}
use Rattle.std.specs.Prelude.{slice_get, option_map, nat_lt}
use Rattle.std.specs.List.{flat_map, list_any}
use Rattle.std.proofs.lemmas.Bool.{cond-true, cond-false, cases_lt, cases_eq, lt-ltb, le-ltb, eq-eqb, ne_eqb, and_left, or_right}
use Rattle.std.proofs.lemmas.List.{length-append, length-take-le, length-drop, map-append}
use Rattle.std.proofs.lemmas.List.Folds.{list_any-append}
use Rattle.std.proofs.Math.ListN.{length-set}
use Rattle.lapi_base.specs.declared.script.Script.{Script}
use Rattle.lapi_base.specs.declared.rule.Rules.{Rules}
use Rattle.lapi_base.specs.declared.event.Event.{Event}
use Rattle.lapi_base.specs.declared.message.MsgName.{MsgName}
use Rattle.lapi_base.specs.declared.packet.Packet.{Packet}
use Rattle.lapi_base.specs.declared.wire.WireEntry.{WireEntry}
use Rattle.lapi_base.specs.Record.Below.{below, least_missing}
use Rattle.lapi_base.specs.Packet.Layout.{window_of}
use Rattle.lapi_base.specs.Record.Operations.{numbers_below}
use Rattle.lapi_base.specs.Record.Packets.{data_packet}
use Rattle.lapi_base.specs.Record.Wires.{Run, numbered, base, to_send, packets, owed_ack, is_number, has_number, is_acked}
use Rattle.lapi_base.specs.Record.Acts.{poll, copy_each, ready}
use Rattle.lapi_base.specs.Record.Wires as on_wires
use Rattle.lapi_base.specs.Laws.Locality.{copied, polled}
use Rattle.lapi_base.specs.Record.WorldView.{IsRecord}
use Rattle.lapi_base.specs.Packet.PacketBytes as written
use Rattle.lapi_link.specs.Sender.{SendingEnd, sendable}
use Rattle.lapi_parts.proofs.SentFront.{polls-next}
use Rattle.lapi_window.specs.SendWindow.{sent_count, base_of, bytes_of}
use Rattle.lapi_window.specs.SendWindow as window
use Rattle.lapi_task.specs.declared.outcome.Outcome.{Outcome}
use Rattle.lapi_task.specs.declared.state.State.{State}
use Rattle.lapi_task.specs.declared.task.Task.{Task}
use Rattle.lapi_task.specs.Copies.{AllCopied, AllSent, sent_now, packets_now}
use Rattle.lapi_task.specs.HasEffect.{HasEffect}
use Rattle.lapi_task.specs.Sends.{packet_at, spelled, SendsFor, of_end, entries_of}
use Rattle.lapi_task.specs.StandsFor.{SenderAt, ReceiverAt, HoldsFor, StandsFor}
use Rattle.lapi_task.proofs.Copying.CallsStay.{calls-kept}
use Rattle.lapi_task.specs.Acknowledging.{owed_below}
use Rattle.lapi_task.specs.Alone.{is_owed}
use Rattle.lapi_task.proofs.Sending.Paying.{IsPaid, told_bytes, bytes-paid, owed-told, owed-within}
use Rattle.lapi_task.proofs.Sending.SenderLaws.{bytes-append, bytes-of-end, entries-within}
use Rattle.lapi_task.proofs.Standing.StillLaws.{room}
use Rattle.lapi_base.proofs.ListLaws.{all-append, flat_map-push, get-after, get-before, get-set, get-set-other, get-some}
use Rattle.lapi_base.proofs.TestLaws.{eqb-refl}
use Rattle.lapi_base.proofs.UptoLaws.{numbers_below-more}
use Rattle.lapi_laws.proofs.SentWindow.{sends-number}
use Rattle.lapi_task.proofs.Standing.Tags.{tags-sent}
use Rattle.lapi_task.specs.Unfinished.{Tracks}
use Rattle.lapi_task.proofs.Acknowledging.UnfinishedLaws.{tracks-told}

-- Lists by their places.
get-take : {X : Type 0} (xs : List X) (k i : ℕ) → i < k → slice_get (take k xs) i ≡ slice_get xs i
get-take xs zero i l = absurd (omega arith)
get-take [] (suc k) i l = refl
get-take (x ∷ xs) (suc k) zero l = refl
get-take (x ∷ xs) (suc k) (suc i) l = get-take xs k i (let q : i < k = omega arith in q)

get-drop : {X : Type 0} (xs : List X) (k i : ℕ) → slice_get (drop k xs) i ≡ slice_get xs (k + i)
get-drop xs zero i = ap (slice_get xs) (let e : i ≡ 0 + i = omega arith in e)
get-drop [] (suc k) i = refl
get-drop (x ∷ xs) (suc k) i = get-drop xs k i ∙ ap (slice_get (x ∷ xs)) (let e : suc (k + i) ≡ suc k + i = omega arith in e)

take-push : {X : Type 0} (xs : List X) (k : ℕ) (x : X) → slice_get xs k ≡ Some x → take (suc k) xs ≡ take k xs ++ x ∷ []
take-push [] k x h = absurd (cc)
take-push (y ∷ ys) zero x h = (let e : y ≡ x = cc in ap (λ (z : _). z ∷ []) e)
take-push (y ∷ ys) (suc k) x h = ap (λ (zs : List _). y ∷ zs) (take-push ys k x h)

-- the numbers from one on
abbrev pub next-numbers : (low k : ℕ) → List ℕ
next-numbers low k = map (λ i. low + i) (numbers_below k)

next-more : (low k : ℕ) → next-numbers low (suc k) ≡ next-numbers low k ++ (low + k) ∷ []
next-more low k = ap (λ n. map (λ i. low + i) (numbers_below n)) (sym (add-one k)) ∙ ap (map (λ i. low + i)) (numbers_below-more k) ∙ map-append (λ i. low + i) (numbers_below k) (k ∷ [])

one-beyond : (n low k : ℕ) → (nat_lt n (low + k) || (low + k) == n) ≡ nat_lt n (low + suc k)
one-beyond n low k =
    ⊎_elim
    (λ (same : (low + k) ≡ n). or_right (nat_lt n (low + k)) _ (eq-eqb (low + k) n same) ∙ sym (lt-ltb n (low + suc k) (omega arith)))
    (λ (apart : (low + k) ≡ n → ⊥).
    ap (λ b. nat_lt n (low + k) || b) (ne_eqb (low + k) n apart) ∙ or-off (nat_lt n (low + k))
    ∙ ⊎_elim
    (λ (lt : n < low + k). lt-ltb n (low + k) lt ∙ sym (lt-ltb n (low + suc k) (omega arith)))
    (λ (ge : low + k ≤ n). le-ltb n (low + k) ge ∙ sym (le-ltb n (low + suc k) (let ne : (low + k) ≢ n = apart in omega (arith, ne))))
    (cases_lt n (low + k)))
    (cases_eq (low + k) n)
  where
    or-off : (x : Bool) → (x || false) ≡ x
    or-off true = refl
    or-off false = refl

or-three : (x y z : Bool) → (x || (y || z)) ≡ ((x || y) || z)
or-three true y z = refl
or-three false y z = refl

module _ (script : Script) (rules : Rules) (J : List Event) (a b : ℕ) where
  one-packet : (n : ℕ) (o : Option (MsgName × ℕ)) (x : List ℕ) → option_map (spelled script rules J n) o ≡ Some x → (p : Packet) × (on_wires.packet_of script rules J n o ≡ p ∷ []) × (written.packet p ≡ x) × ((k : ℕ) → is_number k p ≡ (n == k))
  unfolding data_packet
  one-packet n None x h = absurd (cc)
  one-packet n (Some pair) x h = (_, refl, (let e : spelled script rules J n pair ≡ x = cc in e), λ k. refl)

  the-packet : (n : ℕ) (x : List ℕ) → packet_at script rules J a b n ≡ Some x → (p : Packet) × (on_wires.packet_of script rules J n (slice_get (numbered script J a b) n) ≡ p ∷ []) × (written.packet p ≡ x) × ((k : ℕ) → is_number k p ≡ (n == k))
  unfolding packet_at
  the-packet n x h = one-packet n (slice_get (numbered script J a b) n) x h

  -- The packets of the numbers from one on whose bytes wait.
  module _ (low : ℕ) (waits : List (List ℕ)) (at : (i : ℕ) → slice_get waits i ≡ packet_at script rules J a b (low + i)) where
    packets-more : (k : ℕ) (p : Packet) → on_wires.packet_of script rules J (low + k) (slice_get (numbered script J a b) (low + k)) ≡ p ∷ [] → packets script rules J a b (next-numbers low (suc k)) ≡ packets script rules J a b (next-numbers low k) ++ p ∷ []
    unfolding packets
    packets-more k p is =
        let f = λ (n : ℕ). on_wires.packet_of script rules J n (slice_get (numbered script J a b) n) in
        ap (flat_map f) (next-more low k) ∙ flat_map-push f (next-numbers low k) (low + k) ∙ ap (λ ps. flat_map f (next-numbers low k) ++ ps) is

    pub packets-waiting : (k : ℕ) → k ≤ length waits → map written.packet (packets script rules J a b (next-numbers low k)) ≡ take k waits
    unfolding packets numbers_below below
    packets-waiting zero l = refl
    packets-waiting (suc k) l =
        let some = get-some waits k (let q : k < length waits = omega arith in q) in
        let p = the-packet (low + k) some.0 (sym (at k) ∙ some.1) in
        ap (map written.packet) (packets-more k p.0 p.1)
        ∙ map-append written.packet (packets script rules J a b (next-numbers low k)) (p.0 ∷ [])
        ∙ (λ i. packets-waiting k (let q : k ≤ length waits = omega arith in q) i ++ p.2 i ∷ [])
        ∙ sym (take-push waits k some.0 some.1)

    pub numbers-waiting : (k n : ℕ) → k ≤ length waits → (nat_lt n low || has_number (packets script rules J a b (next-numbers low k)) n) ≡ nat_lt n (low + k)
    unfolding packets numbers_below below has_number
    numbers-waiting zero n l = or-off (nat_lt n low) ∙ ap (nat_lt n) (let e : low ≡ low + 0 = omega arith in e)
      where
        or-off : (x : Bool) → (x || false) ≡ x
        or-off true = refl
        or-off false = refl
    numbers-waiting (suc k) n l =
        let some = get-some waits k (let q : k < length waits = omega arith in q) in
        let p = the-packet (low + k) some.0 (sym (at k) ∙ some.1) in
        let before = packets script rules J a b (next-numbers low k) in
        ap (λ (ps : List Packet). nat_lt n low || list_any (is_number n) ps) (packets-more k p.0 p.1)
        ∙ ap (λ x. nat_lt n low || x) (list_any-append (is_number n) before (p.0 ∷ []) ∙ ap (λ x. list_any (is_number n) before || (x || false)) (p.3 n) ∙ ap (λ x. list_any (is_number n) before || x) (or-off ((low + k) == n)))
        ∙ or-three (nat_lt n low) (list_any (is_number n) before) ((low + k) == n)
        ∙ ap (λ x. x || (low + k) == n) (numbers-waiting k n (let q : k ≤ length waits = omega arith in q))
        ∙ one-beyond n low k
      where
        or-off : (x : Bool) → (x || false) ≡ x
        or-off true = refl
        or-off false = refl

-- ---- one link

module _ (script : Script) (rules : Rules) (t : ℕ) (r : Run) (recorded : IsRecord script rules r) where
  abbrev pub J : List Event
  J = copied script rules r t

  abbrev pub then_ : Run
  then_ = record r { journal = J }

  wire-after : (b : ℕ) → (poll script rules r t).wire t b ≡ r.wire t b ++ polled script rules r t b
  unfolding poll
  wire-after b = cond-true (t == t) (r.wire t b ++ polled script rules r t b) (r.wire t b) (eqb-refl t)

  module _ (b : ℕ) (s : SendingEnd) (h : SendsFor script rules s then_ t b) where
    base-is : base script then_ t b ≡ base_of s.window
    unfolding base
    base-is = λ i. least_missing (sym h.numbers.numbers i) (λ n. h.numbers.acked n i)

    abbrev count : ℕ
    count = sendable s

    abbrev low : ℕ
    low = sent_count s.window

    count-fits : count ≤ length s.waiting
    count-fits = omega arith

    fresh-is : to_send script rules r J t b ≡ next-numbers low count
    fresh-is =
        polls-next script rules r recorded J t b low h.numbers.sent
        ∙ ap (λ n. map (λ i. low + i) (numbers_below n)) (room (length (numbered script J t b)) s.window.numbers (base script then_ t b) (base_of s.window) (window_of script) s.window.window low (length s.waiting) (sym h.numbers.numbers) base-is h.numbers.size h.whole)

    -- the new numbers, and then what is owed
    pub polled-spelled : map written.packet (polled script rules r t b) ≡ packets_now s ++ map written.packet (owed_ack script rules r b t)
    polled-spelled =
        map-append written.packet (packets script rules J t b (to_send script rules r J t b)) (owed_ack script rules r b t)
        ∙ ap (λ xs. xs ++ map written.packet (owed_ack script rules r b t)) (ap (λ ns. map written.packet (packets script rules J t b ns)) fresh-is ∙ packets-waiting script rules J t b low s.waiting h.waiting count count-fits)

    sent-now : (n : ℕ) → has_number (r.wire t b ++ polled script rules r t b) n ≡ nat_lt n (low + count)
    unfolding has_number
    sent-now n =
        list_any-append (is_number n) (r.wire t b) (polled script rules r t b)
        ∙ ap (λ x. list_any (is_number n) (r.wire t b) || x) (sends-number script rules r J t b n)
        ∙ (λ i. h.numbers.sent n i || list_any (is_number n) (packets script rules J t b (fresh-is i)))
        ∙ numbers-waiting script rules J t b low s.waiting h.waiting count n count-fits

    count-now : sent_count (sent_now s).window ≡ low + count
    count-now = (let l = length-append s.window.packets (take count s.waiting) in let k = length-take-le count s.waiting count-fits in omega (arith, l, k))

    bytes-now : (n : ℕ) → n < low + count → window.is_acked s.window n ≡ false → bytes_of (sent_now s).window n ≡ packet_at script rules J t b n
    unfolding bytes_of
    bytes-now n l u =
        ⊎_elim
        (λ (old : n < low).
        ⊎_elim
        (λ (under : n < s.window.acked.base). under-none n under (h.kept n old u))
        (λ (over : s.window.acked.base ≤ n).
        ap (λ o. cond (nat_lt n s.window.acked.base) None o) (get-before s.window.packets (take count s.waiting) (n - s.window.acked.base) (omega arith)) ∙ h.kept n old u)
        (cases_lt n s.window.acked.base))
        (λ (new : low ≤ n).
        let d = n - low in
        cond-false (nat_lt n s.window.acked.base) None (slice_get (s.window.packets ++ take count s.waiting) (n - s.window.acked.base)) (le-ltb n s.window.acked.base (omega arith))
        ∙ ap (slice_get (s.window.packets ++ take count s.waiting)) (let e : n - s.window.acked.base ≡ length s.window.packets + d = omega arith in e)
        ∙ get-after s.window.packets (take count s.waiting) d
        ∙ get-take s.waiting count d (omega arith)
        ∙ h.waiting d
        ∙ ap (packet_at script rules J t b) (let e : low + d ≡ n = omega arith in e))
        (cases_lt n low)
      where
        under-none : (n : ℕ) → n < s.window.acked.base → cond (nat_lt n s.window.acked.base) None (slice_get s.window.packets (n - s.window.acked.base)) ≡ packet_at script rules J t b n → cond (nat_lt n s.window.acked.base) None (slice_get (s.window.packets ++ take count s.waiting) (n - s.window.acked.base)) ≡ packet_at script rules J t b n
        under-none n l e = cond-true (nat_lt n s.window.acked.base) None _ (lt-ltb n s.window.acked.base l) ∙ sym (cond-true (nat_lt n s.window.acked.base) None _ (lt-ltb n s.window.acked.base l)) ∙ e

    pub sends-polled : SendsFor script rules (sent_now s) (poll script rules r t) t b
    unfolding poll
    sends-polled = record {
      numbers = record {
        size = h.numbers.size;
        numbers = h.numbers.numbers;
        sent = λ n. ap (λ ps. has_number ps n) (wire-after b) ∙ sent-now n ∙ ap (nat_lt n) (sym count-now);
        acked = h.numbers.acked;
      };
      whole = (let w = h.whole in let c = count-now in let d = length-drop count s.waiting in let f = count-fits in omega (arith, w, c, d, f));
      kept = λ n l u. bytes-now n (subst (λ m. n < m) count-now l) u;
      waiting = λ i. get-drop s.waiting count i ∙ h.waiting (count + i) ∙ ap (packet_at script rules J t b) (let c = count-now in omega (arith, c));
      tags = tags-sent script s count J t b h.tags;
    }

-- ---- all links of a task

pub none-sent : (ends : List SendingEnd) → AllSent 0 ends ends
none-sent ends = record { done = λ b l. absurd (omega arith); others = λ b l. refl; size = refl }

pub one-sent : (b : ℕ) (first now : List SendingEnd) (s after : SendingEnd) → AllSent b first now → slice_get now b ≡ Some s → after ≡ sent_now s → AllSent (b + 1) first (set now b after)
one-sent b first now s after h at same = record {
  done = λ k l.
      ⊎_elim
      (λ (here : k ≡ b). ap (slice_get (set now b after)) here ∙ get-set now b s after at ∙ ap Some same ∙ ap (option_map sent_now) (sym at ∙ h.others b (omega arith)) ∙ ap (λ n. option_map sent_now (slice_get first n)) (sym here))
      (λ (apart : k ≡ b → ⊥). get-set-other now b k after apart ∙ h.done k (let ne : k ≢ b = apart in omega (arith, ne)))
      (cases_eq k b);
  others = λ k l. get-set-other now b k after (λ same. absurd (omega arith)) ∙ h.others k (omega arith);
  size = length-set now b after ∙ h.size;
}

module _ (script : Script) (rules : Rules) (t : ℕ) (r : Run) (recorded : IsRecord script rules r) where
  sender-polled : (b : ℕ) (o : Option SendingEnd) → SenderAt script rules (then_ script rules t r recorded) t b o → SenderAt script rules (poll script rules r t) t b (option_map sent_now o)
  sender-polled b None h = absurd h
  sender-polled b (Some s) h = sends-polled script rules t r recorded b s h

  wire-polled : (b : ℕ) (o : Option SendingEnd) → SenderAt script rules (then_ script rules t r recorded) t b o → map written.packet ((poll script rules r t).wire t b) ≡ map written.packet (r.wire t b) ++ (of_end packets_now o ++ map written.packet (owed_ack script rules r b t))
  wire-polled b None h = absurd h
  wire-polled b (Some s) h = ap (map written.packet) (wire-after script rules t r recorded b) ∙ map-append written.packet (r.wire t b) (polled script rules r t b) ∙ ap (λ xs. map written.packet (r.wire t b) ++ xs) (polled-spelled script rules t r recorded b s h)

  -- nothing is owed after it
  paid-flag : (flags : List Bool) (a : ℕ) (before : Bool) → a < length flags → is_owed (slice_get flags a) ≡ false → slice_get flags a ≡ Some (not (t == t) && before)
  paid-flag flags a before l none =
      let own = get-some flags a l in
      own.1 ∙ ap Some (sym (ap is_owed own.1) ∙ none ∙ sym (and_left (not (t == t)) before (ap not (eqb-refl t))))

  -- What stands after a poll: all was copied, then its links sent, and then all was paid that the task owed.
  pub poll-does : (task sent after : Task) (old new : Outcome) (events : List Event) (entries : List WireEntry) → t < script.tasks → AllCopied script rules t r task old.events events → new.events ≡ events → AllSent script.tasks task.senders.items sent.senders.items → sent ≡ record task { senders = sent.senders } → entries ≡ old.entries ++ entries_of packets_now task.senders.items script.tasks → IsPaid script.tasks sent after entries new.entries → HasEffect script rules t r (poll script rules r t) after old new
  unfolding poll
  poll-does task sent after old new events entries lt h same sends links put pay =
      let stands : StandsFor script rules t task (then_ script rules t r recorded) = subst (λ (K : List Event). StandsFor script rules t task (record r { journal = K })) h.copied h.stands in
      let rest : after ≡ record task { senders = sent.senders; owed = after.owed } = pay.rest ∙ ap (λ (x : Task). record x { owed = after.owed }) links in
      let ends = ap (λ (x : Task). x.senders.items) pay.rest in
      let size : length after.owed.items ≡ script.tasks = pay.count ∙ ap (λ (x : Task). length x.owed.items) links ∙ stands.owed_count in
      let known = λ (e : WireEntry). e.to < script.tasks in
      let sending = entries_of packets_now task.senders.items script.tasks in
      let answers = owed_below sent script.tasks in
      record {
        events = h.events;
        entries = sending ++ answers;
        stands = record {
          calls = calls-kept script rules t task after (ap (λ (x : Task). x.sizes) rest) (ap (λ (x : Task). x.statements) rest) (ap (λ (x : Task). x.limits) rest) (ap (λ (x : Task). x.rounds.items) rest) stands.calls;
          holds = subst (λ (x : State). HoldsFor script rules t x (copy_each r.journal (ready script r.journal t))) (sym (ap (λ (x : Task). x.state) rest)) stands.holds;
          unfinished = subst (λ (x : Task). Tracks script rules t x.unfinished (poll script rules r t)) (sym rest) (tracks-told script rules t task.unfinished (then_ script rules t r recorded) (poll script rules r t) refl (λ b n. refl) stands.unfinished);
          sender_count = ap (λ (xs : List SendingEnd). length xs) ends ∙ sends.size ∙ stands.sender_count;
          receiver_count = ap (λ (x : Task). length x.receivers.items) rest ∙ stands.receiver_count;
          senders = λ b l. subst (SenderAt script rules (poll script rules r t) t b) (sym (ap (λ (xs : List SendingEnd). slice_get xs b) ends ∙ sends.done b l)) (sender-polled b (slice_get task.senders.items b) (stands.senders b l));
          receivers = λ a l. subst (λ (x : Task). ReceiverAt script rules (r.handed a t) (slice_get x.receivers.items a)) (sym rest) (stands.receivers a l);
          owed_count = size;
          owed = λ a l. paid-flag after.owed.items a (r.owed a t) (subst (λ n. a < n) (sym size) l) (pay.paid a);
        };
        journal = sym h.copied;
        events_added = same ∙ h.added;
        put = λ b l.
            let told = bytes-paid sent b script.tasks l ∙ ap (λ (x : Task). told_bytes x b) links ∙ owed-told script rules t r recorded (copy_each r.journal (ready script r.journal t)) task stands b l in
            wire-polled b (slice_get task.senders.items b) (stands.senders b l)
            ∙ ap (λ xs. map written.packet (r.wire t b) ++ xs) (sym (bytes-append b sending answers ∙ (λ i. bytes-of-end packets_now task.senders.items b script.tasks l i ++ told i)));
        entries_added = pay.entries ∙ ap (λ es. es ++ answers) put ∙ append_assoc old.entries sending answers;
        ends = all-append known sending answers (entries-within packets_now task.senders.items script.tasks script.tasks (omega arith)) (owed-within sent script.tasks script.tasks (omega arith));
      }
