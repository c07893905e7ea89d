-- Where no acknowledgement is owed on a link, the last one on its wire tells of all that was delivered, as far as it reaches.
use Rattle.std.proofs.Common.{◌≡◌, ℕ, ◌+◌, ◌-◌, ◌<◌, ◌≤◌, ◌==◌, Bool, true, false, cond, ◌&&◌, ◌||◌, not, List, [], ◌∷◌, ◌++◌, length, Option, Some, None, refl, sym, ap, ◌∙◌, subst, ⊎_elim, arith, append_assoc}
use Rattle.std.specs.Prelude.{slice_get, nat_lt}
use Rattle.std.specs.List.{AllByRecursion, list_any}
use Rattle.std.proofs.lemmas.Bool.{true≢false, and_from, and_parts, both_ways, cond_both, cond-true, cond-false, eqb-true, or_cases, or_right, or_left, lt-ltb, cases_lt, false_from_ne_true}
use Rattle.std.proofs.lemmas.List.{append-nil}
use Rattle.std.proofs.lemmas.Option.{slice_get_within}
use Rattle.lapi_base.specs.Packet.Layout.{window_of, holds_back}
use Rattle.lapi_base.specs.declared.script.Script.{Script}
use Rattle.lapi_base.specs.declared.rule.Rules.{Rules}
use Rattle.lapi_base.specs.declared.event.Event.{Event}
use Rattle.lapi_base.specs.declared.schedule.Act.{Act}
use Rattle.lapi_base.specs.declared.schedule.Act.TheVariants.{Step, Poll, Tick, Deliver, Cut, Inject}
use Rattle.lapi_base.specs.declared.reply.Reply.TheVariants.{Idle}
use Rattle.lapi_base.specs.declared.reply.Bad.{Bad}
use Rattle.lapi_base.specs.declared.packet.Packet.{Packet}
use Rattle.lapi_base.specs.declared.packet.Packet.TheVariants.{Data, Ack}
use Rattle.lapi_base.specs.declared.packet.DataPacket.{DataPacket}
use Rattle.lapi_base.specs.Record.Below.{least_missing}
use Rattle.lapi_base.specs.Record.Operations.{statements}
use Rattle.lapi_base.specs.Record.Refusals.{next, refusal_of}
use Rattle.lapi_base.specs.Record.Jobs.{queue, runs}
use Rattle.lapi_base.specs.Record.Packets.{data_packet}
use Rattle.lapi_base.specs.Record.Wires.{Run, numbered, is_number, covers, has_number, packet_of, packets, to_send, ack, owed_ack, to_resend}
use Rattle.lapi_base.specs.Record.Acts.{ready, copy_each, poll, tick, at_once, with_handed, hand_over, deliver, deliver_entry, unless_refused, add_event, reply_with, step, begin_first, begin_at, begin, end_at, end, cut_entry, perform, after}
use Rattle.lapi_base.specs.Record.Valid.{ValidAct}
use Rattle.lapi_base.specs.Record.Final.{or_first, last_ack}
use Rattle.lapi_base.proofs.BelowLaws.{least_missing-not}
use Rattle.lapi_base.proofs.BitLaws.{has_bit-from}
use Rattle.lapi_base.proofs.ListLaws.{all-any, all-flat_map, all-get}
use Rattle.lapi_base.proofs.EveryRun.{after-keeps}
use Rattle.lapi_laws.proofs.Lines.{SoundRun}
use Rattle.lapi_laws.proofs.Sound.{Fits, known}
use Rattle.lapi_laws.proofs.Runs.{perform-sound}

abbrev pub IsData : Packet → Type 0
IsData (Data p) = Unit {0}
IsData (Ack layout from to base bits) = ⊥

last-data : (p : Packet) → IsData p → (o : Option Packet) → or_first p o ≡ o
last-data (Data p) h None = refl
last-data (Data p) h (Some q) = refl
last-data (Ack layout from to base bits) h o = absurd h

none-last : (ys : List Packet) → AllByRecursion IsData ys → last_ack ys ≡ None
unfolding last_ack
none-last [] h = refl
none-last (p ∷ ys) h = last-data p h.0 (last_ack ys) ∙ none-last ys h.1

last_ack-data : (xs ys : List Packet) → AllByRecursion IsData ys → last_ack (xs ++ ys) ≡ last_ack xs
unfolding last_ack
last_ack-data [] ys h = none-last ys h
last_ack-data (p ∷ xs) ys h = ap (or_first p) (last_ack-data xs ys h)

last_ack-push : (xs : List Packet) (layout from to base bits : ℕ) → last_ack (xs ++ Ack layout from to base bits ∷ []) ≡ Some (Ack layout from to base bits)
unfolding last_ack
last_ack-push [] layout from to base bits = refl
last_ack-push (p ∷ xs) layout from to base bits = ap (or_first p) (last_ack-push xs layout from to base bits)

module _ (script : Script) (rules : Rules) where
  -- an acknowledgement that tells of this set, as far as it reaches
  abbrev pub Tells : (ℕ → Bool) → Packet → Type 0
  Tells set (Data p) = ⊥
  Tells set (Ack layout from to least bits) = (set least ≡ false) × ((n : ℕ) → set n ≡ true → n < least + window_of script → covers n (Ack layout from to least bits) ≡ true)

  abbrev pub LastTells : List Packet → (ℕ → Bool) → Type 0
  LastTells wire set = (n : ℕ) → set n ≡ true → (p : Packet) × ((last_ack wire ≡ Some p) × Tells set p)

  -- of each link where none is owed
  abbrev pub ToldRun : Run → Type 0
  ToldRun r = (a b : ℕ) → r.owed a b ≡ false → LastTells (r.wire b a) (has_number (r.handed a b))

  pub packets-data : (J : List Event) (a b : ℕ) (numbers : List ℕ) → AllByRecursion IsData (packets script rules J a b numbers)
  unfolding packets data_packet
  packets-data J a b numbers =
      all-flat_map (λ _. Unit {0}) IsData (λ n. packet_of script rules J n (slice_get (numbered script J a b) n)) numbers (all-any numbers)
      (λ n _. elim (slice_get (numbered script J a b) n) as (λ o. AllByRecursion IsData (packet_of script rules J n o)) [ None ↦ tt | Some pair ↦ (tt, tt) ])

  -- an acknowledgement that is handed over
  ack-told : (r : Run) (a b layout from to least bits : ℕ) → ToldRun r → ToldRun (hand_over script rules r a b (Ack layout from to least bits))
  unfolding hand_over has_number
  ack-told r a b layout from to least bits h x y e =
      cond_both (x == a && y == b) (Ack layout from to least bits ∷ r.handed x y) (r.handed x y) (λ ps. LastTells (r.wire y x) (λ n. list_any (is_number n) ps))
      (λ _. h x y e)
      (λ _. h x y e)

  -- the acknowledgement of what was delivered so far tells of all, where all of it are numbers of the link
  ack-tells : (r : Run) (a b : ℕ) → ((n : ℕ) → has_number (r.handed a b) n ≡ true → n < length (numbered script r.journal a b)) → Tells (has_number (r.handed a b)) (ack script rules r a b)
  unfolding ack
  ack-tells r a b room =
      let set = has_number (r.handed a b) in
      let least = least_missing (length (numbered script r.journal a b)) set in (
        false_from_ne_true (set least) (λ h. both_ways _ (least_missing-not (length (numbered script r.journal a b)) set (room least h)) h),
        λ n h l.
            ⊎_elim
            (λ (lt : n < least). or_left _ _ (lt-ltb n least lt))
            (λ (ge : least ≤ n).
            let i : n - least < window_of script = omega arith in
            let same : n ≡ least + (n - least) = omega arith in
            or_right _ _ (has_bit-from (window_of script) (λ k. set (least + k)) (n - least) i (subst (λ k. set k ≡ true) same h)))
            (cases_lt n least),
      )

  ack-last : (r : Run) (a b : ℕ) (xs : List Packet) → last_ack (xs ++ ack script rules r a b ∷ []) ≡ Some (ack script rules r a b)
  unfolding ack
  ack-last r a b xs = last_ack-push xs script.layout b a _ _

  -- so it does at the end of a wire
  last-tells : (r : Run) (a b : ℕ) (xs : List Packet) → ((n : ℕ) → has_number (r.handed a b) n ≡ true → n < length (numbered script r.journal a b)) → LastTells (xs ++ ack script rules r a b ∷ []) (has_number (r.handed a b))
  last-tells r a b xs room n _ = (ack script rules r a b, (ack-last r a b xs, ack-tells r a b room))

  handed-room : (r : Run) → SoundRun script rules r → (a b n : ℕ) → has_number (r.handed a b) n ≡ true → n < length (numbered script r.journal a b)
  handed-room r s a b n h = let k = known script rules r.journal r.wire r.handed s a b n h in slice_get_within (numbered script r.journal a b) n k.0 k.1

  -- a Poll puts data on its wires, and then what it owes
  more-tells : (xs ys : List Packet) (set : ℕ → Bool) → AllByRecursion IsData ys → LastTells xs set → LastTells (xs ++ ys) set
  more-tells xs ys set only h n d = let r = h n d in (r.0, (last_ack-data xs ys only ∙ r.1.0, r.1.1))

  poll-told : (r : Run) (t : ℕ) → SoundRun script rules r → ToldRun r → ToldRun (poll script rules r t)
  unfolding poll owed_ack
  poll-told r t s h a b =
      let J = copy_each r.journal (ready script r.journal t) in
      let new = packets script rules J b a (to_send script rules r J b a) in
      let set = has_number (r.handed a b) in
      elim (b == t) as (λ c. (not c && r.owed a b) ≡ false → LastTells (cond c (r.wire b a ++ (new ++ owed_ack script rules r a b)) (r.wire b a)) set) [
        | true ↦ λ _.
            elim (r.owed a b) as (λ o. r.owed a b ≡ o → LastTells (r.wire b a ++ (new ++ cond o (ack script rules r a b ∷ []) [])) set) [
              | true ↦ λ _. subst (λ ps. LastTells ps set) (append_assoc (r.wire b a) new (ack script rules r a b ∷ [])) (last-tells r a b (r.wire b a ++ new) (handed-room r s a b))
              | false ↦ λ e. subst (λ ps. LastTells (r.wire b a ++ ps) set) (sym (append-nil new)) (more-tells (r.wire b a) new set (packets-data J b a (to_send script rules r J b a)) (h a b e))
            ] refl
        | false ↦ λ e. h a b e
      ]

  -- a Tick puts data on its wires
  tick-told : (r : Run) (t : ℕ) → ToldRun r → ToldRun (tick script rules r t)
  unfolding tick
  tick-told r t h a b e =
      cond_both (b == t) (r.wire b a ++ packets script rules r.journal b a (to_resend script rules r b a)) (r.wire b a) (λ ps. LastTells ps (has_number (r.handed a b)))
      (λ _. more-tells (r.wire b a) (packets script rules r.journal b a (to_resend script rules r b a)) (has_number (r.handed a b)) (packets-data r.journal b a (to_resend script rules r b a)) (h a b e))
      (λ _. h a b e)

  -- a data packet that is handed over: the acknowledgement that follows tells of all, or it is owed
  module _ (r : Run) (a b : ℕ) (p : DataPacket) (s : SoundRun script rules r) (fit : Fits script rules r.journal r.handed a b (Data p)) where
    abbrev now : Run
    now = with_handed script rules r a b (Data p)

    number-room : (x y : ℕ) → x ≡ a → y ≡ b → (n : ℕ) → has_number (now.handed x y) n ≡ true → n < length (numbered script r.journal x y)
    unfolding has_number
    number-room x y ex ey n h =
        let here : n ≡ p.seq → n < length (numbered script r.journal x y) =
        λ e. subst (λ k. k < length (numbered script r.journal x y)) (sym e) (subst (λ v. p.seq < length (numbered script r.journal x v)) (sym ey) (subst (λ u. p.seq < length (numbered script r.journal u b)) (sym ex) (slice_get_within (numbered script r.journal a b) p.seq (p.name, p.fragment) fit)))
        in
        cond_both (x == a && y == b) (Data p ∷ r.handed x y) (r.handed x y) (λ ps. list_any (is_number n) ps ≡ true → n < length (numbered script r.journal x y))
        (λ _ h'.
        ⊎_elim
        (λ (e : (p.seq == n) ≡ true). here (sym (eqb-true p.seq n e)))
        (λ (e : list_any (is_number n) (r.handed x y) ≡ true). handed-room r s x y n e)
        (or_cases _ _ h'))
        (λ _ h'. handed-room r s x y n h')
        h

    -- the wire of the link itself, and of any other
    data-told : ToldRun r → ToldRun (hand_over script rules r a b (Data p))
    unfolding hand_over at_once
    data-told h x y =
        let told = ack script rules now a b in
        elim (x == a && y == b) as (λ c. (x == a && y == b) ≡ c → ((holds_back script && c) || r.owed x y) ≡ false → LastTells (cond (y == b && x == a) (r.wire y x ++ cond (holds_back script) [] (told ∷ [])) (r.wire y x)) (has_number (cond c (Data p ∷ r.handed x y) (r.handed x y)))) [
          | true ↦ λ t.
              let ends = and_parts (x == a) (y == b) t in
              let ex = eqb-true x a ends.0 in
              let ey = eqb-true y b ends.1 in
              elim (holds_back script) as (λ k. ((k && true) || r.owed x y) ≡ false → LastTells (cond (y == b && x == a) (r.wire y x ++ cond k [] (told ∷ [])) (r.wire y x)) (has_number (Data p ∷ r.handed x y))) [
                | true ↦ λ e. absurd (true≢false e)
                | false ↦ λ _.
                    subst (λ ps. LastTells ps (has_number (Data p ∷ r.handed x y))) (sym (cond-true (y == b && x == a) (r.wire y x ++ told ∷ []) (r.wire y x) (and_from _ _ ends.1 ends.0)))
                    (subst (λ ps. LastTells (r.wire y x ++ told ∷ []) (has_number ps)) (cond-true (x == a && y == b) (Data p ∷ r.handed x y) (r.handed x y) t)
                    (subst (λ q. LastTells (r.wire y x ++ q ∷ []) (has_number (now.handed x y))) (λ i. ack script rules now (ex i) (ey i)) (last-tells now x y (r.wire y x) (number-room x y ex ey))))
              ]
          | false ↦ λ t e.
              subst (λ ps. LastTells ps (has_number (r.handed x y))) (sym (cond-false (y == b && x == a) (r.wire y x ++ cond (holds_back script) [] (told ∷ [])) (r.wire y x) (and-swap (x == a) (y == b) t)))
              (h x y (or-second _ _ e))
        ] refl
      where
        and-swap : (u v : Bool) → (u && v) ≡ false → (v && u) ≡ false
        and-swap true true e = e
        and-swap true false e = refl
        and-swap false true e = refl
        and-swap false false e = refl

        or-second : (u v : Bool) → (u || v) ≡ false → v ≡ false
        or-second true v e = absurd (true≢false e)
        or-second false v e = e

  hand_over-told : (r : Run) (a b : ℕ) (p : Packet) → SoundRun script rules r → Fits script rules r.journal r.handed a b p → ToldRun r → ToldRun (hand_over script rules r a b p)
  hand_over-told r a b (Ack layout from to least bits) s fit h = ack-told r a b layout from to least bits h
  hand_over-told r a b (Data p) s fit h = data-told r a b p s fit h

  event-told : (r : Run) (o : Option Event) → ToldRun r → ToldRun (add_event script rules r o)
  event-told r None h = h
  event-told r (Some e) h = h

  module _ (spells : List ℕ → Bool) (size : Packet → ℕ) (refusal : List ℕ → Bad) where
    pub perform-told : (r : Run) (act : Act) → SoundRun script rules r → ToldRun r → ToldRun (perform script rules size refusal r act)
    unfolding perform step deliver begin end
    perform-told r (Step a) s h =
        cond_both (nat_lt (next r.journal a) (length (statements script a))) (add_event script rules r (unless_refused script rules r a (next r.journal a) (refusal_of script rules r.journal a (next r.journal a)))) (reply_with script rules r Idle) ToldRun
        (λ _. event-told r (unless_refused script rules r a (next r.journal a) (refusal_of script rules r.journal a (next r.journal a))) h)
        (λ _. h)
    perform-told r (Poll t) s h = poll-told r t s h
    perform-told r (Tick t) s h = tick-told r t h
    perform-told r (Deliver a b k) s h =
        elim (slice_get (r.wire a b) k) as (λ o. slice_get (r.wire a b) k ≡ o → ToldRun (deliver_entry script rules r a b o)) [
          | None ↦ λ e. h
          | Some p ↦ λ e. hand_over-told r a b p s (all-get (Fits script rules r.journal r.handed a b) (r.wire a b) k p (s.wires a b) e) h
        ] refl
    perform-told r (Cut a b k n) s h = elim (slice_get (r.wire a b) k) as (λ x. ToldRun (cut_entry script rules size r n x)) [ Some p ↦ h | None ↦ h ]
    perform-told r (Inject a b bytes) s h = h
    perform-told r (Act.Begin t w) s h =
        elim (runs r.journal t w) as (λ x. ToldRun (begin_at script rules r t w x)) [
          | Some m ↦ h
          | None ↦ elim (queue script rules r.journal t) as (λ ms. ToldRun (begin_first script rules r t w ms)) [ [] ↦ h | m ∷ ms ↦ h ]
        ]
    perform-told r (Act.End t w) s h = elim (runs r.journal t w) as (λ x. ToldRun (end_at script rules r t w x)) [ None ↦ h | Some m ↦ h ]

    pub after-told : (acts : List Act) (r : Run) → AllByRecursion (ValidAct script spells) acts → SoundRun script rules r → ToldRun r → ToldRun (after script rules size refusal r acts)
    after-told acts r v s h =
        (after-keeps script rules size refusal (ValidAct script spells) (λ q. SoundRun script rules q × ToldRun q) (λ q act w k. (perform-sound script rules spells size refusal q act w k.0, perform-told q act k.0 k.1)) acts r v (s, h)).1
