-- Each schedule line keeps what holds of every record: those that move packets.
use Rattle.std.proofs.Common.{◌≡◌, ℕ, ◌+◌, ◌-◌, ◌<◌, ◌==◌, Bool, true, false, cond, ◌&&◌, not, List, [], ◌∷◌, ◌++◌, length, filter, Option, Some, None, refl, sym, subst, ⊎_elim, arith}
use Rattle.std.specs.Prelude.{slice_get, is_some, nat_lt}
use Rattle.std.specs.List.{AllByRecursion, list_any}
use Rattle.std.proofs.lemmas.Bool.{and_parts, and_from, both_ways, cond_both, eqb-true, or_cases, false_from_ne_true, and_left, and_right, not_from_false, ltb-true, ltb-false, lt-ltb}
use Rattle.lapi_base.specs.Packet.Layout.{window_of, holds_back}
use Rattle.lapi_base.specs.declared.script.Script.{Script}
use Rattle.lapi_base.specs.declared.rule.Rules.{Rules}
use Rattle.lapi_base.specs.declared.message.Leg.{Leg}
use Rattle.lapi_base.specs.declared.message.Leg.TheVariants.{Go, Back, Note, Echo, Join}
use Rattle.lapi_base.specs.declared.message.MsgName.{MsgName}
use Rattle.lapi_base.specs.declared.event.Event.{Event}
use Rattle.lapi_base.specs.declared.event.Event.TheVariants.{Copy, Head, Land}
use Rattle.lapi_base.specs.declared.packet.Packet.{Packet}
use Rattle.lapi_base.specs.declared.packet.Packet.TheVariants.{Data, Ack}
use Rattle.lapi_base.specs.declared.packet.DataPacket.{DataPacket}
use Rattle.lapi_base.specs.Record.Below.{least_missing, has_bit, bits_of}
use Rattle.lapi_base.specs.Record.Names.{Issued, Entered, Copied, Landed, Begun, Ended, happened, message}
use Rattle.lapi_base.specs.Record.Operations.{numbers_below, statements, statement, sender, receiver, is_data, has_back, has_join, cmpl_counter}
use Rattle.lapi_base.specs.Record.Handlers.{has_completion, answers}
use Rattle.lapi_base.specs.Record.Packets.{data_packet}
use Rattle.lapi_base.specs.Record.Wires.{Run, numbered, is_number, has_number, packet_of, packets, to_send, ack, owed_ack, sends, to_resend}
use Rattle.lapi_base.specs.Record.Acts.{joins, to_copy_of, ready, copy_each, followed, poll, tick, note_of, after_land, first_delivery, at_once, with_handed, hand_over, deliver, deliver_entry}
use Rattle.lapi_base.specs.Record.Atomic.{Atomic, Keeps, needs, copy_needs, only_if, to_land, to_follow, has_message, has_statement}
use Rattle.lapi_base.proofs.BelowLaws.{below-all, least_missing-below}
use Rattle.lapi_base.proofs.BitLaws.{has_bit-of}
use Rattle.lapi_base.proofs.ListLaws.{all-flat_map, all-map, all-any, all-append, all-filter, all-get, all-weaker, list_all-at}
use Rattle.lapi_base.proofs.NameLaws.{happened-all-later, happened-head}
use Rattle.lapi_laws.proofs.Out.{numbered-copied}
use Rattle.lapi_laws.proofs.Backward.{closed, there}
use Rattle.lapi_laws.proofs.Sound.{Lists, Fits, Sound, before, add_copy, add_entries, add_known}
use Rattle.lapi_laws.proofs.Arrival.{back_no_am, now, head_test, land_test, J1, but-1, once-1, sound-land, sound-none, sound-again}

all-first : {X : Type 0} (P : X → Type 0) (xs : List X) (y : X) (ys : List X) → AllByRecursion P (xs ++ y ∷ ys) → P y
all-first P [] y ys h = h.0
all-first P (x ∷ xs) y ys h = all-first P xs y ys h.1

followed-append : (J es fs : List Event) → followed J (es ++ fs) ≡ followed (followed J es) fs
unfolding followed
followed-append J [] fs = refl
followed-append J (e ∷ es) fs = followed-append (e ∷ J) es fs

module _ (script : Script) (rules : Rules) where
  abbrev pub SoundRun : Run → Type 0
  SoundRun r = Sound script rules r.journal r.wire r.handed

  -- the packets of these numbers are what they say
  pub packets-fit : (J : List Event) (handed : Lists) (a b : ℕ) (numbers : List ℕ) → AllByRecursion (Fits script rules J handed a b) (packets script rules J a b numbers)
  unfolding packets data_packet
  packets-fit J handed a b numbers =
      all-flat_map (λ _. Unit {0}) (Fits script rules J handed a b) (λ n. packet_of script rules J n (slice_get (numbered script J a b) n)) numbers (all-any numbers) (λ n _. each n (slice_get (numbered script J a b) n) refl)
    where
      each : (n : ℕ) (o : Option (MsgName × ℕ)) → slice_get (numbered script J a b) n ≡ o → AllByRecursion (Fits script rules J handed a b) (packet_of script rules J n o)
      each n None e = tt
      each n (Some pair) e = (e, tt)

  -- Tick.
  pub tick-sound : (r : Run) (t : ℕ) → SoundRun r → SoundRun (tick script rules r t)
  unfolding tick
  tick-sound r t s =
      add_entries script rules r.journal r.wire (λ a b. cond (a == t) (r.wire a b ++ packets script rules r.journal a b (to_resend script rules r a b)) (r.wire a b)) r.handed
      (λ a b. cond_both (a == t) (r.wire a b ++ packets script rules r.journal a b (to_resend script rules r a b)) (r.wire a b) (AllByRecursion (Fits script rules r.journal r.handed a b))
      (λ _. all-append (Fits script rules r.journal r.handed a b) (r.wire a b) (packets script rules r.journal a b (to_resend script rules r a b)) (s.wires a b) (packets-fit r.journal r.handed a b (to_resend script rules r a b)))
      (λ _. s.wires a b))
      s

  -- Poll.
  abbrev pub Ready : List Event → MsgName → Type 0
  Ready J m = (has_message script rules m ≡ true) × AllByRecursion (λ d. happened d J ≡ true) (copy_needs script rules m.origin m.statement m.leg)

  ready-later : (e : Event) (J : List Event) (m : MsgName) → Ready J m → Ready (e ∷ J) m
  ready-later e J m h = (h.0, happened-all-later (copy_needs script rules m.origin m.statement m.leg) e J h.1)

  pub keeps-copy : (J : List Event) (m : MsgName) → Ready J m → happened (Copied m) J ≡ false → Keeps script rules J (Copy m)
  unfolding needs
  keeps-copy J m h new = record {
    there = h.0;
    once = new;
    after = list_all-at (λ d. happened d J) (copy_needs script rules m.origin m.statement m.leg) h.1;
    jobs = refl;
    waits = refl;
    order = tt;
  }

  pub copy_each-sound : (ms : List MsgName) (J : List Event) (wire handed : Lists) → AllByRecursion (Ready J) ms → Sound script rules J wire handed → Sound script rules (copy_each J ms) wire handed
  unfolding copy_each
  copy_each-sound [] J wire handed h s = s
  copy_each-sound (m ∷ ms) J wire handed h s =
      elim (happened (Copied m) J) as (λ b. happened (Copied m) J ≡ b → Sound script rules (copy_each (cond b J (Copy m ∷ J)) ms) wire handed) [
        | true ↦ λ e. copy_each-sound ms J wire handed h.1 s
        | false ↦ λ e. copy_each-sound ms (Copy m ∷ J) wire handed (all-weaker (Ready J) (Ready (Copy m ∷ J)) (ready-later (Copy m) J) ms h.1) (add_copy script rules m J wire handed (keeps-copy J m h.0 e) s)
      ] refl

  ready-all : (J : List Event) (t : ℕ) → Atomic script rules J → AllByRecursion (Ready J) (ready script J t)
  unfolding ready numbers_below
  ready-all J t h = all-flat_map (λ _. Unit {0}) (Ready J) (to_copy_of script J t) (numbers_below (length (statements script t))) (all-any _) (λ i _. each i)
    where
      each : (i : ℕ) → AllByRecursion (Ready J) (to_copy_of script J t i)
      each i =
          cond_both (is_data (statement script t i) && happened (Issued t i) J) (message t i Go ∷ []) (cond (has_join (statement script t i) && happened (Entered t i) J) (joins script t i) []) (AllByRecursion (Ready J))
          (λ e.
          let both = and_parts (is_data (statement script t i)) (happened (Issued t i) J) e in
          ((and_from _ _ (and_parts _ _ (there script rules (Issued t i) J h both.1)).0 both.0, (both.1, tt)), tt))
          (λ _.
          cond_both (has_join (statement script t i) && happened (Entered t i) J) (joins script t i) [] (AllByRecursion (Ready J))
          (λ e.
          let both = and_parts (has_join (statement script t i)) (happened (Entered t i) J) e in
          all-map (λ d. ((d < script.tasks) × (true ≡ true)) × (not (d == t) ≡ true)) (Ready J) (λ d. message t i (Join d)) (filter (λ d. not (d == t)) (numbers_below script.tasks))
          (all-filter (λ d. (d < script.tasks) × (true ≡ true)) (λ d. not (d == t)) (numbers_below script.tasks) (below-all script.tasks (λ _. true)))
          (λ d k. (and_from _ _ (there script rules (Entered t i) J h both.1) (and_from _ _ both.0 (and_from _ _ (lt-ltb d script.tasks k.0.0) k.1)), (both.1, tt))))
          (λ _. tt))

  -- An acknowledgement tells of what was delivered.
  ack-fits : (J : List Event) (r : Run) (a b : ℕ) → Fits script rules J r.handed b a (ack script rules r a b)
  unfolding ack
  ack-fits J r a b n h =
      let set = has_number (r.handed a b) in
      let least = least_missing (length (numbered script r.journal a b)) set in
      ⊎_elim
      (λ (x : nat_lt n least ≡ true). least_missing-below (length (numbered script r.journal a b)) set n (ltb-true n least x))
      (λ (x : has_bit (bits_of (window_of script) (λ i. set (least + i))) (n - least) ≡ true).
      let y = has_bit-of (window_of script) (λ i. set (least + i)) (n - least) x in
      elim (nat_lt n least) as (λ t. nat_lt n least ≡ t → set n ≡ true) [
        | true ↦ λ e. least_missing-below (length (numbered script r.journal a b)) set n (ltb-true n least e)
        | false ↦ λ e. let ge = ltb-false n least e in let same : least + (n - least) ≡ n = omega arith in subst (λ k. set k ≡ true) same y.1
      ] refl)
      (or_cases _ _ h)

  -- so does one that is owed, and one that goes numbered at once
  owed-fits : (J : List Event) (r : Run) (a b : ℕ) → AllByRecursion (Fits script rules J r.handed b a) (owed_ack script rules r a b)
  unfolding owed_ack
  owed-fits J r a b = cond_both (r.owed a b) (ack script rules r a b ∷ []) [] (AllByRecursion (Fits script rules J r.handed b a)) (λ _. (ack-fits J r a b, tt)) (λ _. tt)

  once-fits : (J : List Event) (handed : Lists) (a b : ℕ) (p : Packet) → Fits script rules J handed a b p → AllByRecursion (Fits script rules J handed a b) (at_once script rules p)
  unfolding at_once
  once-fits J handed a b p fit = cond_both (holds_back script) [] (p ∷ []) (AllByRecursion (Fits script rules J handed a b)) (λ _. tt) (λ _. (fit, tt))

  -- all that a Poll puts on a wire is what it says
  pub sends-fit : (r : Run) (J : List Event) (a b : ℕ) → AllByRecursion (Fits script rules J r.handed a b) (sends script rules r J a b)
  sends-fit r J a b = all-append (Fits script rules J r.handed a b) (packets script rules J a b (to_send script rules r J a b)) (owed_ack script rules r b a) (packets-fit J r.handed a b (to_send script rules r J a b)) (owed-fits J r b a)

  pub poll-sound : (r : Run) (t : ℕ) → SoundRun r → SoundRun (poll script rules r t)
  unfolding poll
  poll-sound r t s =
      let J = copy_each r.journal (ready script r.journal t) in
      let s' = copy_each-sound (ready script r.journal t) r.journal r.wire r.handed (ready-all r.journal t s.atomic) s in
      add_entries script rules J r.wire (λ a b. cond (a == t) (r.wire a b ++ sends script rules r J a b) (r.wire a b)) r.handed
      (λ a b. cond_both (a == t) (r.wire a b ++ sends script rules r J a b) (r.wire a b) (AllByRecursion (Fits script rules J r.handed a b))
      (λ _. all-append (Fits script rules J r.handed a b) (r.wire a b) (sends script rules r J a b) (s'.wires a b) (sends-fit r J a b))
      (λ _. s'.wires a b))
      s'

  -- What follows the landing of data, or the end of a job.
  follows : (J : List Event) (a i : ℕ) → AllByRecursion (λ d. happened d J ≡ true) (to_follow script rules a i) → happened (Landed (message a i Go)) J ≡ true
  follows J a i h = all-first (λ d. happened d J ≡ true) (only_if (has_completion script rules a i) (Begun (message a i Go) ∷ Ended (message a i Go) ∷ [])) (Landed (message a i Go)) (to_land script rules a i) h

  pub new_back : (J : List Event) (a i : ℕ) → Atomic script rules J → happened (Landed (message a i Go)) J ≡ false → happened (Copied (message a i Back)) J ≡ false
  unfolding needs
  new_back J a i h absent = false_from_ne_true _ (λ yes. both_ways _ absent (follows J a i (closed script rules (Copied (message a i Back)) J h yes)))

  new_note : (J : List Event) (a i : ℕ) → Atomic script rules J → happened (Landed (message a i Go)) J ≡ false → happened (Copied (message a i Note)) J ≡ false
  unfolding needs
  new_note J a i h absent = false_from_ne_true _ (λ yes. both_ways _ absent (follows J a i (closed script rules (Copied (message a i Note)) J h yes)))

  pub to-land : (J : List Event) (a i : ℕ) → Atomic script rules J → happened (Landed (message a i Go)) J ≡ true → AllByRecursion (λ d. happened d J ≡ true) (to_land script rules a i)
  unfolding needs
  to-land J a i h l = closed script rules (Landed (message a i Go)) J h l

  no_completion : (a i : ℕ) → has_back (statement script a i) ≡ true → has_completion script rules a i ≡ false
  unfolding has_completion
  no_completion a i h = and_left _ _ (back_no_am (statement script a i) h)

  to-follow : (J : List Event) (a i : ℕ) → has_completion script rules a i ≡ false → Atomic script rules J → happened (Landed (message a i Go)) J ≡ true → AllByRecursion (λ d. happened d J ≡ true) (to_follow script rules a i)
  to-follow J a i absent h l =
      subst (λ b. AllByRecursion (λ d. happened d J ≡ true) (only_if b (Begun (message a i Go) ∷ Ended (message a i Go) ∷ []) ++ Landed (message a i Go) ∷ to_land script rules a i)) (sym absent) (l, to-land J a i h l)

  -- what answers has a completion
  no-answer : (a i : ℕ) → has_completion script rules a i ≡ false → answers script rules a i ≡ false
  unfolding answers
  no-answer a i h = and_left _ _ (and_left _ _ (and_right _ _ h))

  pub answer-completion : (a i : ℕ) → answers script rules a i ≡ true → has_completion script rules a i ≡ true
  unfolding answers
  answer-completion a i h = (and_parts _ _ (and_parts _ _ (and_parts _ _ h).0).0).1

  -- the Note, if there is one
  pub note-sound : (J : List Event) (wire handed : Lists) (a i : ℕ) → answers script rules a i ≡ false → has_statement script rules a i ≡ true → happened (Copied (message a i Note)) J ≡ false → AllByRecursion (λ d. happened d J ≡ true) (to_follow script rules a i) → Sound script rules J wire handed → Sound script rules (followed J (note_of script rules (message a i Go))) wire handed
  unfolding followed
  note-sound J wire handed a i silent is new needs s =
      cond_both (is_some (cmpl_counter (statement script a i))) (Copy (message a i Note) ∷ []) [] (λ es. Sound script rules (followed J es) wire handed)
      (λ e. add_copy script rules (message a i Note) J wire handed (keeps-copy J (message a i Note) (and_from _ _ is (and_from _ _ e (not_from_false _ silent)), needs) new) s)
      (λ _. s)

  -- what follows the Land of a message
  land_follow : (J : List Event) (wire handed : Lists) (a i : ℕ) (leg : Leg) → Atomic script rules J → happened (Landed (message a i leg)) J ≡ false → Sound script rules (Land (message a i leg) ∷ J) wire handed → Sound script rules (followed (Land (message a i leg) ∷ J) (after_land script rules (message a i leg))) wire handed
  unfolding followed
  land_follow J wire handed a i Go h absent s =
      let K = Land (message a i Go) ∷ J in
      let land = happened-head (Land (message a i Go)) J in
      let is = (and_parts _ _ (there script rules (Landed (message a i Go)) K s.atomic land)).0 in
      cond_both (has_back (statement script a i)) (Copy (message a i Back) ∷ []) (cond (has_completion script rules a i) [] (note_of script rules (message a i Go))) (λ es. Sound script rules (followed K es) wire handed)
      (λ e.
      add_copy script rules (message a i Back) K wire handed
      (keeps-copy K (message a i Back)
      (and_from _ _ is e, to-follow K a i (no_completion a i e) s.atomic land)
      (false_from_ne_true _ (λ yes. both_ways _ (new_back J a i h absent) (before script rules (Copied (message a i Back)) (Land (message a i Go)) J (λ y. cc) yes))))
      s)
      (λ _.
      cond_both (has_completion script rules a i) [] (note_of script rules (message a i Go)) (λ es. Sound script rules (followed K es) wire handed)
      (λ _. s)
      (λ e.
      note-sound K wire handed a i (no-answer a i e) is
      (false_from_ne_true _ (λ yes. both_ways _ (new_note J a i h absent) (before script rules (Copied (message a i Note)) (Land (message a i Go)) J (λ y. cc) yes)))
      (to-follow K a i e s.atomic land) s))
  land_follow J wire handed a i Back h absent s = s
  land_follow J wire handed a i Note h absent s = s
  land_follow J wire handed a i Echo h absent s = s
  land_follow J wire handed a i (Join d) h absent s = s

  -- Deliver.
  add_ack : (J : List Event) (wire : Lists) (r : Run) (a b : ℕ) → Sound script rules J wire r.handed → Sound script rules J (λ x y. cond (x == b && y == a) (wire x y ++ at_once script rules (ack script rules r a b)) (wire x y)) r.handed
  add_ack J wire r a b s =
      add_entries script rules J wire (λ x y. cond (x == b && y == a) (wire x y ++ at_once script rules (ack script rules r a b)) (wire x y)) r.handed
      (λ x y. cond_both (x == b && y == a) (wire x y ++ at_once script rules (ack script rules r a b)) (wire x y) (AllByRecursion (Fits script rules J r.handed x y))
      (λ e.
      let ends = and_parts _ _ e in
      let fit = subst (λ v. Fits script rules J r.handed x v (ack script rules r a b)) (sym (eqb-true y a ends.1)) (subst (λ u. Fits script rules J r.handed u a (ack script rules r a b)) (sym (eqb-true x b ends.0)) (ack-fits J r a b)) in
      all-append (Fits script rules J r.handed x y) (wire x y) (at_once script rules (ack script rules r a b)) (s.wires x y) (once-fits J r.handed x y (ack script rules r a b) fit))
      (λ _. s.wires x y))
      s

  -- an acknowledgement that is handed over
  hand_ack : (r : Run) (a b layout from to least bits : ℕ) → Fits script rules r.journal r.handed a b (Ack layout from to least bits) → SoundRun r → SoundRun (hand_over script rules r a b (Ack layout from to least bits))
  unfolding hand_over has_number
  hand_ack r a b layout from to least bits fit s =
      add_known script rules r.journal r.wire r.handed (λ x y. cond (x == a && y == b) (Ack layout from to least bits ∷ r.handed x y) (r.handed x y))
      (λ x y n. cond_both (x == a && y == b) (Ack layout from to least bits ∷ r.handed x y) (r.handed x y) (λ ps. list_any (is_number n) ps ≡ list_any (is_number n) (r.handed x y)) (λ _. refl) (λ _. refl))
      (λ x y. cond_both (x == a && y == b) (Ack layout from to least bits ∷ r.handed x y) (r.handed x y) (AllByRecursion (Fits script rules r.journal r.handed x y))
      (λ e.
      let ends = and_parts _ _ e in
      (subst (λ v. Fits script rules r.journal r.handed x v (Ack layout from to least bits)) (sym (eqb-true y b ends.1)) (subst (λ u. Fits script rules r.journal r.handed u b (Ack layout from to least bits)) (sym (eqb-true x a ends.0)) fit), s.hands x y))
      (λ _. s.hands x y))
      s

  -- The events of a data packet that is handed over.
  module _ (p : DataPacket) (J : List Event) (wire handed : Lists) (s : Sound script rules J wire handed) (fit : Fits script rules J handed (sender script p.name) (receiver script p.name) (Data p)) where
    abbrev A : ℕ
    A = sender script p.name

    abbrev B : ℕ
    B = receiver script p.name

    abbrev head : Bool
    head = head_test script rules p J wire handed s fit

    abbrev land : Bool
    land = land_test script rules p J wire handed s fit

    abbrev K : List Event
    K = J1 script rules p J wire handed s fit

    abbrev arrived : List Event
    arrived = cond head (Head p.name ∷ []) [] ++ cond land (Land p.name ∷ after_land script rules p.name) []

    head-first : followed J arrived ≡ followed K (cond land (Land p.name ∷ after_land script rules p.name) [])
    unfolding followed
    head-first = elim head as (λ b. followed J (cond b (Head p.name ∷ []) [] ++ cond land (Land p.name ∷ after_land script rules p.name) []) ≡ followed (cond b (Head p.name ∷ J) J) (cond land (Land p.name ∷ after_land script rules p.name) [])) [ true ↦ refl | false ↦ refl ]

    arrived-sound : has_number (handed A B) p.seq ≡ false → Sound script rules (followed J arrived) wire (now script rules p J wire handed s)
    unfolding followed
    arrived-sound new =
        subst (λ L. Sound script rules L wire (now script rules p J wire handed s)) (sym head-first)
        (elim land as (λ b. land ≡ b → Sound script rules (followed K (cond b (Land p.name ∷ after_land script rules p.name) [])) wire (now script rules p J wire handed s)) [
          | true ↦ λ e. land_follow K wire (now script rules p J wire handed s) p.name.origin p.name.statement p.name.leg (but-1 script rules p J wire handed s fit).atomic (once-1 script rules p J wire handed s fit new) (sound-land script rules p J wire handed s fit e new)
          | false ↦ λ e. sound-none script rules p J wire handed s fit e
        ] refl)

  hand_data : (r : Run) (p : DataPacket) → SoundRun r → Fits script rules r.journal r.handed (sender script p.name) (receiver script p.name) (Data p) → SoundRun (hand_over script rules r (sender script p.name) (receiver script p.name) (Data p))
  unfolding hand_over first_delivery followed
  hand_data r p s fit =
      let a = sender script p.name in
      let b = receiver script p.name in
      let handed = now script rules p r.journal r.wire r.handed s in
      let events = arrived p r.journal r.wire r.handed s fit in
      add_ack (followed r.journal (cond (has_number (r.handed a b) p.seq) [] events)) r.wire (with_handed script rules r a b (Data p)) a b
      (elim (has_number (r.handed a b) p.seq) as (λ t. has_number (r.handed a b) p.seq ≡ t → Sound script rules (followed r.journal (cond t [] events)) r.wire handed) [
        | true ↦ λ e. followed-nil r.journal (sound-again script rules p r.journal r.wire r.handed s fit e)
        | false ↦ λ e. arrived-sound p r.journal r.wire r.handed s fit e
      ] refl)
    where
      followed-nil : (J : List Event) → Sound script rules J r.wire (now script rules p r.journal r.wire r.handed s) → Sound script rules (followed J []) r.wire (now script rules p r.journal r.wire r.handed s)
      followed-nil J x = x

  -- the ends of a packet's message are those of its wire
  hand_over-sound : (r : Run) (a b : ℕ) (p : Packet) → SoundRun r → Fits script rules r.journal r.handed a b p → SoundRun (hand_over script rules r a b p)
  hand_over-sound r a b (Ack layout from to least bits) s fit = hand_ack r a b layout from to least bits fit s
  hand_over-sound r a b (Data p) s fit =
      let ends = numbered-copied script r.journal a b p.seq (p.name, p.fragment) fit in
      subst (λ y. SoundRun (hand_over script rules r a y (Data p))) ends.2
      (subst (λ x. SoundRun (hand_over script rules r x (receiver script p.name) (Data p))) ends.1
      (hand_data r p s (subst (λ y. slice_get (numbered script r.journal (sender script p.name) y) p.seq ≡ Some (p.name, p.fragment)) (sym ends.2) (subst (λ x. slice_get (numbered script r.journal x b) p.seq ≡ Some (p.name, p.fragment)) (sym ends.1) fit))))

  pub deliver-sound : (r : Run) (a b k : ℕ) → SoundRun r → SoundRun (deliver script rules r a b k)
  unfolding deliver
  deliver-sound r a b k s =
      elim (slice_get (r.wire a b) k) as (λ o. slice_get (r.wire a b) k ≡ o → SoundRun (deliver_entry script rules r a b o)) [
        | None ↦ λ e. s
        | Some p ↦ λ e. hand_over-sound r a b p s (all-get (Fits script rules r.journal r.handed a b) (r.wire a b) k p (s.wires a b) e)
      ] refl
