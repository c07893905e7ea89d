-- The numbers of a link go numbered in order: those that were sent are all below some bound.
use Rattle.std.proofs.Common.{◌≡◌, ℕ, zero, suc, ◌+◌, ◌-◌, min, map, ◌<◌, ◌≤◌, ◌==◌, Bool, true, false, cond, ◌&&◌, ◌||◌, not, List, [], ◌∷◌, ◌++◌, length, Option, Some, None, refl, sym, ap, ◌∙◌, subst, ⊎_elim, arith, inl, inr}
use Rattle.std.specs.Prelude.{slice_get, nat_lt}
use Rattle.std.specs.List.{list_any, flat_map}
use Rattle.std.proofs.lemmas.Bool.{false≢true, and_parts, and_from, cond_both, eqb-true, eq-eqb, or_cases, or_left, or_right, lt-ltb, ltb-true, cases_lt, cases_Bool, cond-true, cond-false, le-ltb, ltb-false, both_ways, false_from_ne_true}
use Rattle.std.proofs.lemmas.List.Concat.{flat_map-cons}
use Rattle.std.proofs.lemmas.List.{map-append}
use Rattle.lapi_base.specs.declared.script.Script.{Script}
use Rattle.lapi_base.specs.declared.rule.Rules.{Rules}
use Rattle.lapi_base.specs.declared.message.MsgName.{MsgName}
use Rattle.lapi_base.specs.declared.event.Event.{Event}
use Rattle.lapi_base.specs.declared.schedule.Act.{Act}
use Rattle.lapi_base.specs.declared.schedule.Act.TheVariants.{Step, Poll, Tick, Deliver, Cut, Inject}
use Rattle.lapi_base.specs.declared.reply.Bad.{Bad}
use Rattle.lapi_base.specs.declared.reply.Reply.TheVariants.{Idle}
use Rattle.lapi_base.specs.declared.packet.Packet.{Packet}
use Rattle.lapi_base.specs.declared.packet.Packet.TheVariants.{Data, Ack}
use Rattle.lapi_base.specs.Packet.Layout.{window_of}
use Rattle.lapi_base.specs.Record.Below.{below, least_missing}
use Rattle.lapi_base.specs.Record.Operations.{numbers_below, statements}
use Rattle.lapi_base.specs.Record.Refusals.{next, refusal_of}
use Rattle.lapi_base.specs.Record.Jobs.{queue, runs}
use Rattle.lapi_base.specs.Record.Packets.{data_packet}
use Rattle.lapi_base.specs.Record.Wires.{Run, start, numbered, has_number, is_sent, is_acked, base, packet_of, packets, to_send, to_resend, ack, sends}
use Rattle.lapi_base.specs.Record.Acts.{ready, copy_each, at_once, with_handed, hand_over, deliver_entry, deliver, reply_with, unless_refused, add_event, step, poll, tick, begin_first, begin_at, begin, end_at, end, cut_entry, perform, run_of}
use Rattle.lapi_base.specs.Record.WorldView.{HoldsOfRecords}
use Rattle.lapi_base.specs.Laws.Sending.{SentAreFront, SentHaveBound, PollsSendNext}
use Rattle.lapi_base.proofs.BelowLaws.{below-all, below-has, least_missing-below, least_missing-not}
use Rattle.lapi_base.proofs.ListLaws.{get-some}
use Rattle.lapi_base.proofs.PacketNumbers.{number-append}
use Rattle.lapi_base.proofs.EveryRun.{after-any}
use Rattle.lapi_laws.proofs.SentWindow.{packets-number, sends-number, ack-entry}
use Rattle.lapi_parts.proofs.Records.{of-runs}
use Rattle.lapi_parts.proofs.Receivable.{sent-numbers}

-- ---- sets of numbers that packets have

module _ (script : Script) (rules : Rules) where
  pub packet-there : (J : List Event) (n : ℕ) (o : Option (MsgName × ℕ)) (x : MsgName × ℕ) → o ≡ Some x → has_number (packet_of script rules J n o) n ≡ true
  unfolding data_packet has_number
  packet-there J n None x e = absurd (cc)
  packet-there J n (Some pair) x e = or_left (n == n) false (eq-eqb n n refl)

  -- the packets of a list of numbers have these numbers, as far as the link has them
  pub packets-have : (J : List Event) (a b : ℕ) (numbers : List ℕ) (k : ℕ) → list_any (λ x. x == k) numbers ≡ true → k < length (numbered script J a b) → has_number (packets script rules J a b numbers) k ≡ true
  unfolding packets
  packets-have J a b [] k h l = absurd (false≢true h)
  packets-have J a b (n ∷ ns) k h l =
      let first = packet_of script rules J n (slice_get (numbered script J a b) n) in
      let rest = flat_map (λ m. packet_of script rules J m (slice_get (numbered script J a b) m)) ns in
      let split : has_number (flat_map (λ m. packet_of script rules J m (slice_get (numbered script J a b) m)) (n ∷ ns)) k ≡ (has_number first k || has_number rest k) = ap (λ ps. has_number ps k) (flat_map-cons (λ m. packet_of script rules J m (slice_get (numbered script J a b) m)) n ns) ∙ number-append first rest k in
      split
      ∙ ⊎_elim
      (λ (here : (n == k) ≡ true).
      let x = get-some (numbered script J a b) k l in
      let same = eqb-true n k here in
      or_left (has_number first k) (has_number rest k) (subst (λ (m : ℕ). has_number (packet_of script rules J m (slice_get (numbered script J a b) m)) k ≡ true) (sym same) (packet-there J k (slice_get (numbered script J a b) k) x.0 x.1)))
      (λ (later : list_any (λ x. x == k) ns ≡ true). or_right (has_number first k) (has_number rest k) (packets-have J a b ns k later l))
      (or_cases (n == k) (list_any (λ x. x == k) ns) h)

  -- ---- the sent numbers of a link are those below a bound

  abbrev pub IsFront : List Packet → Type 0
  IsFront ps = (n k : ℕ) → has_number ps n ≡ true → k < n → has_number ps k ≡ true

  abbrev pub FrontRun : Run → Type 0
  FrontRun r = (a b : ℕ) → IsFront (r.wire a b)

  -- with numbers below a bound that aren't there yet
  poll-front : (r : Run) (J : List Event) (a b : ℕ) → IsFront (r.wire a b) → IsFront (r.wire a b ++ packets script rules J a b (to_send script rules r J a b))
  unfolding to_send
  poll-front r J a b front n k h l =
      let old = r.wire a b in
      let count = length (numbered script J a b) in
      let edge = base script (record r { journal = J }) a b + window_of script in
      let test = λ (m : ℕ). not (is_sent r a b m) && nat_lt m edge in
      let new = packets script rules J a b (below count test) in
      number-append old new k
      ∙ ⊎_elim
      (λ (sent : has_number old n ≡ true). or_left (has_number old k) (has_number new k) (front n k sent l))
      (λ (now : has_number new n ≡ true).
      let room = packets-number script rules J a b (λ m. (m < count) × (test m ≡ true)) (below count test) (below-all count test) n now in
      let near : n < edge = ltb-true n edge (and_parts (not (is_sent r a b n)) (nat_lt n edge) room.1).1 in
      let inside : n < count = room.0 in
      elim (cases_Bool (is_sent r a b k)) [
        | inl there ↦ or_left (has_number old k) (has_number new k) there
        | inr absent ↦
            let passes : test k ≡ true = and_from (not (is_sent r a b k)) (nat_lt k edge) (ap not absent) (lt-ltb k edge (omega arith)) in
            let within : k < count = omega arith in
            or_right (has_number old k) (has_number new k) (packets-have J a b (below count test) k (below-has count test k within passes) within)
      ])
      (or_cases (has_number old n) (has_number new n) (sym (number-append old new n) ∙ h))

  -- with numbers that are there
  tick-front : (r : Run) (a b : ℕ) → IsFront (r.wire a b) → IsFront (r.wire a b ++ packets script rules r.journal a b (to_resend script rules r a b))
  unfolding to_resend
  tick-front r a b front n k h l =
      let old = r.wire a b in
      let count = length (numbered script r.journal a b) in
      let test = λ (m : ℕ). is_sent r a b m && not (is_acked r a b m) in
      let new = packets script rules r.journal a b (below count test) in
      number-append old new k
      ∙ or_left (has_number old k) (has_number new k)
      (⊎_elim
      (λ (sent : has_number old n ≡ true). front n k sent l)
      (λ (again : has_number new n ≡ true).
      let room = packets-number script rules r.journal a b (λ m. (m < count) × (test m ≡ true)) (below count test) (below-all count test) n again in
      front n k (and_parts (is_sent r a b n) (not (is_acked r a b n)) room.1).0 l)
      (or_cases (has_number old n) (has_number new n) (sym (number-append old new n) ∙ h)))

  -- with packets that add no number
  same-front : (old new : List Packet) → ((n : ℕ) → has_number new n ≡ has_number old n) → IsFront old → IsFront new
  same-front old new same front n k h l = same k ∙ front n k (sym (same n) ∙ h) l

  -- as what is owed is none
  sends-front : (r : Run) (J : List Event) (a b : ℕ) → IsFront (r.wire a b) → IsFront (r.wire a b ++ sends script rules r J a b)
  sends-front r J a b front =
      let old = r.wire a b in
      let new = packets script rules J a b (to_send script rules r J a b) in
      same-front (old ++ new) (old ++ sends script rules r J a b)
      (λ n. number-append old (sends script rules r J a b) n ∙ ap (λ x. has_number old n || x) (sends-number script rules r J a b n) ∙ sym (number-append old new n))
      (poll-front r J a b front)

  hand_over-front : (r : Run) (a b : ℕ) (p : Packet) → FrontRun r → FrontRun (hand_over script rules r a b p)
  unfolding hand_over
  hand_over-front r a b (Ack layout from to least bits) h x y = h x y
  hand_over-front r a b (Data p) h x y =
      let q = with_handed script rules r a b (Data p) in
      same-front (r.wire x y) (cond (x == b && y == a) (r.wire x y ++ at_once script rules (ack script rules q a b)) (r.wire x y)) (ack-entry script rules r.wire q a b x y) (h x y)

  module _ (size : Packet → ℕ) (refusal : List ℕ → Bad) where
    perform-front : (r : Run) (act : Act) → FrontRun r → FrontRun (perform script rules size refusal r act)
    unfolding perform step poll tick deliver begin end
    perform-front r (Step a) h =
        let i = next r.journal a in
        cond_both (nat_lt i (length (statements script a))) (add_event script rules r (unless_refused script rules r a i (refusal_of script rules r.journal a i))) (reply_with script rules r Idle) FrontRun
        (λ _. elim (unless_refused script rules r a i (refusal_of script rules r.journal a i)) as (λ o. FrontRun (add_event script rules r o)) [ None ↦ h | Some e ↦ h ])
        (λ _. h)
    perform-front r (Poll t) h = λ a b.
        let J = copy_each r.journal (ready script r.journal t) in
        cond_both (a == t) (r.wire a b ++ sends script rules r J a b) (r.wire a b) IsFront (λ _. sends-front r J a b (h a b)) (λ _. h a b)
    perform-front r (Tick t) h = λ a b. cond_both (a == t) (r.wire a b ++ packets script rules r.journal a b (to_resend script rules r a b)) (r.wire a b) IsFront (λ _. tick-front r a b (h a b)) (λ _. h a b)
    perform-front r (Deliver a b k) h = elim (slice_get (r.wire a b) k) as (λ o. FrontRun (deliver_entry script rules r a b o)) [ None ↦ h | Some p ↦ hand_over-front r a b p h ]
    perform-front r (Cut a b k n) h = elim (slice_get (r.wire a b) k) as (λ o. FrontRun (cut_entry script rules size r n o)) [ Some p ↦ h | None ↦ h ]
    perform-front r (Inject a b bytes) h = h
    perform-front r (Act.Begin t w) h =
        elim (runs r.journal t w) as (λ o. FrontRun (begin_at script rules r t w o)) [
          | Some m ↦ h
          | None ↦ elim (queue script rules r.journal t) as (λ ms. FrontRun (begin_first script rules r t w ms)) [ [] ↦ h | m ∷ ms ↦ h ]
        ]
    perform-front r (Act.End t w) h = elim (runs r.journal t w) as (λ o. FrontRun (end_at script rules r t w o)) [ None ↦ h | Some m ↦ h ]

    run-front : (acts : List Act) → FrontRun (run_of script rules size refusal acts)
    unfolding run_of has_number
    run-front acts = after-any script rules size refusal FrontRun perform-front acts start (λ a b n k h l. absurd (false≢true h))

-- the law
pub sent-front : HoldsOfRecords SentAreFront
sent-front = of-runs SentAreFront (λ script rules spells size refusal acts v. run-front script rules size refusal acts)

-- ---- the bound

module _ (script : Script) (rules : Rules) (r : Run) (a b : ℕ) (front : (n k : ℕ) → is_sent r a b n ≡ true → k < n → is_sent r a b k ≡ true) (within : (n : ℕ) → is_sent r a b n ≡ true → n < length (numbered script r.journal a b)) where
  edge : ℕ
  edge = least_missing (length (numbered script r.journal a b)) (is_sent r a b)

  sent-below : (n : ℕ) → n < edge → is_sent r a b n ≡ true
  unfolding edge
  sent-below n l = least_missing-below (length (numbered script r.journal a b)) (is_sent r a b) n l

  not-above : (n : ℕ) → edge ≤ n → is_sent r a b n ≡ true → ⊥
  unfolding edge
  not-above n l h =
      let count = length (numbered script r.journal a b) in
      let room : n < count = within n h in
      let first : is_sent r a b edge ≡ true = ⊎_elim (λ (lt : edge < n). front n edge h lt) (λ (ge : n ≤ edge). subst (λ k. is_sent r a b k ≡ true) (let q : n ≡ edge = omega arith in q) h) (cases_lt edge n) in
      both_ways _ (least_missing-not count (is_sent r a b) (let q : edge < count = omega arith in q)) first

  bound-is : (n : ℕ) → is_sent r a b n ≡ nat_lt n edge
  bound-is n =
      ⊎_elim
      (λ (lt : n < edge). sent-below n lt ∙ sym (lt-ltb n edge lt))
      (λ (ge : edge ≤ n). false_from_ne_true _ (not-above n ge) ∙ sym (le-ltb n edge ge))
      (cases_lt n edge)

pub sent-bound : HoldsOfRecords SentHaveBound
sent-bound script rules r is = λ a b. let front = sent-front script rules r is a b in let within = sent-numbers script rules r is a b in (edge script rules r a b front within, bound-is script rules r a b front within)

-- the numbers from one bound to another
below-range : (count bound limit : ℕ) (p : ℕ → Bool) → ((n : ℕ) → p n ≡ (not (nat_lt n bound) && nat_lt n limit)) → below count p ≡ map (λ i. bound + i) (numbers_below (min count limit - bound))
unfolding below numbers_below
below-range zero bound limit p h = ap (λ k. map (λ i. bound + i) (numbers_below k)) (let q : 0 ≡ min 0 limit - bound = omega arith in q)
below-range (suc count) bound limit p h =
    let old = below-range count bound limit p h in
    elim (cases_Bool (p count)) [
      | inl takes ↦
          let both = and_parts (not (nat_lt count bound)) (nat_lt count limit) (sym (h count) ∙ takes) in
          let low : bound ≤ count = ltb-false count bound (not-true (nat_lt count bound) both.0) in
          let high : count < limit = ltb-true count limit both.1 in
          let size : min (suc count) limit - bound ≡ suc (count - bound) = omega arith in
          let before : min count limit - bound ≡ count - bound = omega arith in
          let here : bound + (count - bound) ≡ count = omega arith in
          cond-true (p count) (below count p ++ count ∷ []) (below count p) takes
          ∙ ap (λ xs. xs ++ count ∷ []) (old ∙ ap (λ k. map (λ i. bound + i) (numbers_below k)) before)
          ∙ ap (λ k. map (λ i. bound + i) (numbers_below (count - bound)) ++ k ∷ []) (sym here)
          ∙ sym (map-append (λ i. bound + i) (numbers_below (count - bound)) ((count - bound) ∷ []))
          ∙ ap (λ k. map (λ i. bound + i) (numbers_below k)) (sym size)
      | inr leaves ↦
          let same : min count limit - bound ≡ min (suc count) limit - bound = outside count bound limit (sym (h count) ∙ leaves) in
          cond-false (p count) (below count p ++ count ∷ []) (below count p) leaves ∙ old ∙ ap (λ k. map (λ i. bound + i) (numbers_below k)) same
    ]
  where
    not-true : (x : Bool) → not x ≡ true → x ≡ false
    not-true false g = refl
    not-true true g = absurd (false≢true g)

    outside : (n low high : ℕ) → (not (nat_lt n low) && nat_lt n high) ≡ false → min n high - low ≡ min (suc n) high - low
    outside n low high g =
        ⊎_elim
        (λ (lt : n < low). omega arith)
        (λ (ge : low ≤ n).
        ⊎_elim
        (λ (lt : n < high). absurd (false≢true (sym g ∙ and_from (not (nat_lt n low)) (nat_lt n high) (ap not (le-ltb n low ge)) (lt-ltb n high lt))))
        (λ (far : high ≤ n). omega arith)
        (cases_lt n high))
        (cases_lt n low)

pub polls-next : HoldsOfRecords PollsSendNext
unfolding to_send
polls-next script rules r is = λ J a b bound sent.
    below-range (length (numbered script J a b)) bound (base script (record r { journal = J }) a b + window_of script) (λ n. not (is_sent r a b n) && nat_lt n (base script (record r { journal = J }) a b + window_of script))
    (λ n. ap (λ x. not x && nat_lt n (base script (record r { journal = J }) a b + window_of script)) (sent n))
