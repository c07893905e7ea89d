-- Every entry of a wire is the packet of its number, as its message's bytes are at any later time.
use Rattle.std.proofs.Common.{◌≡◌, ℕ, ◌==◌, Bool, true, false, cond, ◌&&◌, List, [], ◌∷◌, ◌++◌, Option, Some, None, refl, sym, ap, ◌∙◌, subst, append_assoc}
use Rattle.std.specs.Prelude.{slice_get, nat_lt, length}
use Rattle.std.specs.List.{AllByRecursion}
use Rattle.std.proofs.lemmas.Bool.{both_ways, cond_both, cond-false, false_from_ne_true}
use Rattle.lapi_base.specs.declared.script.Script.{Script}
use Rattle.lapi_base.specs.declared.rule.Rules.{Rules}
use Rattle.lapi_base.specs.declared.message.Leg.{Leg}
use Rattle.lapi_base.specs.declared.message.Leg.TheVariants.{Go, Back, Note, Echo, Join}
use Rattle.lapi_base.specs.declared.message.MsgName.{MsgName}
use Rattle.lapi_base.specs.declared.event.Event.{Event}
use Rattle.lapi_base.specs.declared.event.Event.TheVariants.{Issue, Refuse, Enter, Pass, Copy, Head, Land, Begin, End}
use Rattle.lapi_base.specs.declared.packet.Packet.{Packet}
use Rattle.lapi_base.specs.declared.packet.Packet.TheVariants.{Data, Ack}
use Rattle.lapi_base.specs.declared.schedule.Act.{Act}
use Rattle.lapi_base.specs.declared.schedule.Act.TheVariants.{Step, Poll, Tick, Deliver, Cut, Inject}
use Rattle.lapi_base.specs.declared.reply.Bad.{Bad}
use Rattle.lapi_base.specs.declared.reply.Reply.{Reply}
use Rattle.lapi_base.specs.declared.reply.Reply.TheVariants.{Idle}
use Rattle.lapi_base.specs.Record.Names.{name_eq, Copied, happened, message}
use Rattle.lapi_base.specs.Record.Operations.{statement, is_rmw, statements}
use Rattle.lapi_base.specs.Record.Values.{Values, values, land_bytes}
use Rattle.lapi_base.specs.Record.Refusals.{next, refusal_of}
use Rattle.lapi_base.specs.Record.Jobs.{queue, runs}
use Rattle.lapi_base.specs.Record.Packets.{data_packet}
use Rattle.lapi_base.specs.Packet.Layout.{holds_back}
use Rattle.lapi_base.specs.Record.Wires.{Run, start, numbered, has_number, packet_of, packets, to_send, to_resend, ack, owed_ack, sends}
use Rattle.lapi_base.specs.Record.Acts.{ready, copy_each, followed, first_delivery, at_once, with_handed, hand_over, deliver_entry, deliver, reply_with, unless_refused, add_event, step, poll, tick, begin_first, begin_at, begin, end_at, end, after_end, cut_entry, perform, run_of}
use Rattle.lapi_base.specs.Record.Atomic.{Atomic}
use Rattle.lapi_base.specs.Record.Valid.{ValidAct}
use Rattle.lapi_base.specs.Laws.Headline.{HoldsOfAtomic}
use Rattle.lapi_base.specs.Record.WorldView.{HoldsOfRecords}
use Rattle.lapi_base.specs.Laws.Entries.{carried, CarriedIsFixed, IsOfNumber, PutAreOfNumber, HandedAreOfNumber}
use Rattle.lapi_base.proofs.ListLaws.{all-any, all-append, all-flat_map, all-get}
use Rattle.lapi_base.proofs.NameLaws.{name_eq-true, happened-grown}
use Rattle.lapi_base.proofs.EveryRun.{after-keeps}
use Rattle.lapi_laws.proofs.Out.{numbered-copied}
use Rattle.lapi_laws.proofs.Backward.{Atomic-head, Atomic-tail}
use Rattle.lapi_laws.proofs.Sound.{Lists, Fits}
use Rattle.lapi_laws.proofs.Lines.{SoundRun, new_back}
use Rattle.lapi_laws.proofs.Runs.{start-sound, perform-sound}
use Rattle.lapi_parts.proofs.Records.{of-runs, record-sound}

other-name : (n m : MsgName) (J : List Event) → happened (Copied n) J ≡ false → happened (Copied m) J ≡ true → name_eq n m ≡ false
other-name n m K absent present = false_from_ne_true _ (λ same. both_ways _ absent (subst (λ (k : MsgName). happened (Copied k) K ≡ true) (sym (name_eq-true n m same)) present))

module _ (script : Script) (rules : Rules) where
  land-stays : (v : Values) (a i : ℕ) (leg : Leg) (J : List Event) (m : MsgName) → Atomic script rules (Land (message a i leg) ∷ J) → happened (Copied m) J ≡ true → land_bytes script rules v (message a i leg) leg (statement script a i) m ≡ v.bytes m
  land-stays v a i Go J m h d =
      cond_both (is_rmw (statement script a i)) _ v.bytes (λ f. f m ≡ v.bytes m)
      (λ _. cond-false (name_eq (message a i Back) m) _ (v.bytes m) (other-name (message a i Back) m J (new_back script rules J a i (Atomic-tail script rules (Land (message a i Go)) J h) (Atomic-head script rules (Land (message a i Go)) J h).once) d))
      (λ _. refl)
  land-stays v a i Back J m h d = refl
  land-stays v a i Note J m h d = refl
  land-stays v a i Echo J m h d = refl
  land-stays v a i (Join x) J m h d = refl

  -- What a message carries is fixed once it was copied.
  pub stays : (e : Event) (J : List Event) (m : MsgName) → Atomic script rules (e ∷ J) → happened (Copied m) J ≡ true → carried script rules (e ∷ J) m ≡ carried script rules J m
  unfolding values
  stays (Copy n) J m h d = cond-false (name_eq n m) _ (carried script rules J m) (other-name n m J (Atomic-head script rules (Copy n) J h).once d)
  stays (Land n) J m h d = land-stays (values script rules J) n.origin n.statement n.leg J m h d
  stays (Issue t i) J m h d = refl
  stays (Refuse t i reason) J m h d = refl
  stays (Enter t i) J m h d = refl
  stays (Pass t i) J m h d = refl
  stays (Head n) J m h d = refl
  stays (Begin n t w) J m h d = refl
  stays (End n t w) J m h d = refl

  -- the packet of its number
  abbrev pub Exact : List Event → Packet → Type 0
  Exact J (Data p) = Data p ≡ data_packet script p.name p.seq p.fragment (carried script rules J p.name)
  Exact J (Ack layout from to base bits) = Unit {0}

  pub stays-grown : (later J : List Event) (m : MsgName) → Atomic script rules (later ++ J) → happened (Copied m) J ≡ true → carried script rules (later ++ J) m ≡ carried script rules J m
  stays-grown [] J m h d = refl
  stays-grown (e ∷ later) J m h d = stays e (later ++ J) m h (happened-grown later J (Copied m) d) ∙ stays-grown later J m (Atomic-tail script rules e (later ++ J) h) d

  -- K has more events than J
  abbrev pub Grown : List Event → List Event → Type 0
  Grown J K = (later : List Event) × (K ≡ later ++ J)

  exact-grown : (J K : List Event) (handed : Lists) (a b : ℕ) (p : Packet) → Grown J K → Atomic script rules K → Fits script rules J handed a b p → Exact J p → Exact K p
  exact-grown J K handed a b (Data p) g h f x =
      x ∙ ap (data_packet script p.name p.seq p.fragment) (sym (ap (λ L. carried script rules L p.name) g.1 ∙ stays-grown g.0 J p.name (subst (Atomic script rules) g.1 h) (numbered-copied script J a b p.seq (p.name, p.fragment) f).0))
  exact-grown J K handed a b (Ack layout from to base bits) g h f x = x

  pub all-exact : (J K : List Event) (handed : Lists) (a b : ℕ) (ps : List Packet) → Grown J K → Atomic script rules K → AllByRecursion (Fits script rules J handed a b) ps → AllByRecursion (Exact J) ps → AllByRecursion (Exact K) ps
  all-exact J K handed a b [] g h f x = tt
  all-exact J K handed a b (p ∷ ps) g h f x = (exact-grown J K handed a b p g h f.0 x.0, all-exact J K handed a b ps g h f.1 x.1)

  pub grown-followed : (es J : List Event) → Grown J (followed J es)
  unfolding followed
  grown-followed [] J = ([], refl)
  grown-followed (e ∷ es) J = let r = grown-followed es (e ∷ J) in (r.0 ++ e ∷ [], r.1 ∙ sym (append_assoc r.0 (e ∷ []) J))

  pub grown-copied : (ms : List MsgName) (J : List Event) → Grown J (copy_each J ms)
  unfolding copy_each
  grown-copied [] J = ([], refl)
  grown-copied (m ∷ ms) J = cond_both (happened (Copied m) J) J (Copy m ∷ J) (λ L. Grown L (copy_each L ms) → Grown J (copy_each L ms)) (λ _ r. r) (λ _ r. (r.0 ++ Copy m ∷ [], r.1 ∙ sym (append_assoc r.0 (Copy m ∷ []) J))) (grown-copied ms (cond (happened (Copied m) J) J (Copy m ∷ J)))

  -- what a Poll or a Tick sends is exact
  data-exact : (J : List Event) (m : MsgName) (n j : ℕ) → Exact J (data_packet script m n j (carried script rules J m))
  unfolding data_packet
  data-exact J m n j = refl

  pub packets-exact : (J : List Event) (a b : ℕ) (numbers : List ℕ) → AllByRecursion (Exact J) (packets script rules J a b numbers)
  unfolding packets
  packets-exact J a b numbers = all-flat_map (λ _. Unit {0}) (Exact J) (λ n. packet_of script rules J n (slice_get (numbered script J a b) n)) numbers (all-any numbers) (λ n _. one n (slice_get (numbered script J a b) n))
    where
      one : (n : ℕ) (o : Option (MsgName × ℕ)) → AllByRecursion (Exact J) (packet_of script rules J n o)
      one n None = tt
      one n (Some pair) = (data-exact J pair.0 n pair.1, tt)

  pub record ExactRun (r : Run) : Type 0 where
    pub wires : (a b : ℕ) → AllByRecursion (Exact r.journal) (r.wire a b)
    pub hands : (a b : ℕ) → AllByRecursion (Exact r.journal) (r.handed a b)

  -- a line that adds events alone
  adds-exact : (r : Run) (K : List Event) → Grown r.journal K → Atomic script rules K → SoundRun script rules r → ExactRun r → (replies : List Reply) → ExactRun (record r { replies = replies; journal = K })
  adds-exact r K g h s x replies = record {
    wires = λ a b. all-exact r.journal K r.handed a b (r.wire a b) g h (s.wires a b) (x.wires a b);
    hands = λ a b. all-exact r.journal K r.handed a b (r.handed a b) g h (s.hands a b) (x.hands a b);
  }

  same-exact : (r : Run) (replies : List Reply) → ExactRun r → ExactRun (record r { replies = replies })
  same-exact r replies x = record { wires = x.wires; hands = x.hands }

  events-exact : (r : Run) (es : List Event) (replies : List Reply) → SoundRun script rules r → Atomic script rules (followed r.journal es) → ExactRun r → ExactRun (record r { replies = replies; journal = followed r.journal es })
  events-exact r es replies s h x = adds-exact r (followed r.journal es) (grown-followed es r.journal) h s x replies

  step-exact : (r : Run) (t : ℕ) → SoundRun script rules r → SoundRun script rules (step script rules r t) → ExactRun r → ExactRun (step script rules r t)
  unfolding step
  step-exact r t s s' x =
      let i = next r.journal t in
      cond_both (nat_lt i (length (statements script t))) (add_event script rules r (unless_refused script rules r t i (refusal_of script rules r.journal t i))) (reply_with script rules r Idle) (λ q. SoundRun script rules q → ExactRun q)
      (λ _. elim (unless_refused script rules r t i (refusal_of script rules r.journal t i)) as (λ o. SoundRun script rules (add_event script rules r o) → ExactRun (add_event script rules r o)) [ None ↦ λ _. same-exact r _ x | Some e ↦ λ q. events-exact r (e ∷ []) _ s q.atomic x ])
      (λ _ _. same-exact r _ x)
      s'

  begin-exact : (r : Run) (t w : ℕ) → SoundRun script rules r → SoundRun script rules (begin script rules r t w) → ExactRun r → ExactRun (begin script rules r t w)
  unfolding begin
  begin-exact r t w s s' x =
      elim (runs r.journal t w) as (λ o. SoundRun script rules (begin_at script rules r t w o) → ExactRun (begin_at script rules r t w o)) [
        | Some m ↦ λ _. same-exact r _ x
        | None ↦ elim (queue script rules r.journal t) as (λ ms. SoundRun script rules (begin_first script rules r t w ms) → ExactRun (begin_first script rules r t w ms)) [ [] ↦ λ _. same-exact r _ x | m ∷ ms ↦ λ q. events-exact r (Begin m t w ∷ []) _ s q.atomic x ]
      ] s'

  end-exact : (r : Run) (t w : ℕ) → SoundRun script rules r → SoundRun script rules (end script rules r t w) → ExactRun r → ExactRun (end script rules r t w)
  unfolding end
  end-exact r t w s s' x =
      elim (runs r.journal t w) as (λ o. SoundRun script rules (end_at script rules r t w o) → ExactRun (end_at script rules r t w o)) [ None ↦ λ _. same-exact r _ x | Some m ↦ λ q. events-exact r (End m t w ∷ after_end script rules m) _ s q.atomic x ] s'

  ack-exact : (r : Run) (J : List Event) (a b : ℕ) → Exact J (ack script rules r a b)
  unfolding ack
  ack-exact r J a b = tt

  once-exact : (J : List Event) (r : Run) (a b : ℕ) → AllByRecursion (Exact J) (at_once script rules (ack script rules r a b))
  unfolding at_once
  once-exact J r a b = cond_both (holds_back script) [] (ack script rules r a b ∷ []) (AllByRecursion (Exact J)) (λ _. tt) (λ _. (ack-exact r J a b, tt))

  sends-exact : (r : Run) (J : List Event) (a b : ℕ) → AllByRecursion (Exact J) (sends script rules r J a b)
  unfolding owed_ack
  sends-exact r J a b =
      all-append (Exact J) (packets script rules J a b (to_send script rules r J a b)) (owed_ack script rules r b a) (packets-exact J a b (to_send script rules r J a b))
      (cond_both (r.owed b a) (ack script rules r b a ∷ []) [] (AllByRecursion (Exact J)) (λ _. (ack-exact r J b a, tt)) (λ _. tt))

  pub poll-exact : (r : Run) (t : ℕ) → SoundRun script rules r → SoundRun script rules (poll script rules r t) → ExactRun r → ExactRun (poll script rules r t)
  unfolding poll
  poll-exact r t s s' x =
      let J = copy_each r.journal (ready script r.journal t) in
      let g = grown-copied (ready script r.journal t) r.journal in
      record {
        wires = λ a b. cond_both (a == t) (r.wire a b ++ sends script rules r J a b) (r.wire a b) (AllByRecursion (Exact J))
            (λ _. all-append (Exact J) (r.wire a b) (sends script rules r J a b) (all-exact r.journal J r.handed a b (r.wire a b) g s'.atomic (s.wires a b) (x.wires a b)) (sends-exact r J a b))
            (λ _. all-exact r.journal J r.handed a b (r.wire a b) g s'.atomic (s.wires a b) (x.wires a b));
        hands = λ a b. all-exact r.journal J r.handed a b (r.handed a b) g s'.atomic (s.hands a b) (x.hands a b);
      }

  tick-exact : (r : Run) (t : ℕ) → ExactRun r → ExactRun (tick script rules r t)
  unfolding tick
  tick-exact r t x = record {
    wires = λ a b. cond_both (a == t) (r.wire a b ++ packets script rules r.journal a b (to_resend script rules r a b)) (r.wire a b) (AllByRecursion (Exact r.journal))
        (λ _. all-append (Exact r.journal) (r.wire a b) (packets script rules r.journal a b (to_resend script rules r a b)) (x.wires a b) (packets-exact r.journal a b (to_resend script rules r a b)))
        (λ _. x.wires a b);
    hands = x.hands;
  }

  hands-exact : (J : List Event) (handed : Lists) (a b : ℕ) (p : Packet) → Exact J p → ((x y : ℕ) → AllByRecursion (Exact J) (handed x y)) → (x y : ℕ) → AllByRecursion (Exact J) (cond (x == a && y == b) (p ∷ handed x y) (handed x y))
  hands-exact J handed a b p e all x y = cond_both (x == a && y == b) (p ∷ handed x y) (handed x y) (AllByRecursion (Exact J)) (λ _. (e, all x y)) (λ _. all x y)

  hand_over-exact : (r : Run) (a b : ℕ) (p : Packet) → SoundRun script rules r → Atomic script rules (hand_over script rules r a b p).journal → Fits script rules r.journal r.handed a b p → Exact r.journal p → ExactRun r → ExactRun (hand_over script rules r a b p)
  unfolding hand_over
  hand_over-exact r a b (Ack layout from to least bits) s h f e x = record { wires = x.wires; hands = hands-exact r.journal r.handed a b (Ack layout from to least bits) tt x.hands }
  hand_over-exact r a b (Data p) s h f e x =
      let es = cond (has_number (r.handed a b) p.seq) [] (first_delivery script rules r a b p.name p.seq) in
      let K = followed r.journal es in
      let g = grown-followed es r.journal in
      record {
        wires = λ u v. cond_both (u == b && v == a) (r.wire u v ++ at_once script rules (ack script rules (with_handed script rules r a b (Data p)) a b)) (r.wire u v) (AllByRecursion (Exact K))
            (λ _. all-append (Exact K) (r.wire u v) (at_once script rules (ack script rules (with_handed script rules r a b (Data p)) a b)) (all-exact r.journal K r.handed u v (r.wire u v) g h (s.wires u v) (x.wires u v)) (once-exact K (with_handed script rules r a b (Data p)) a b))
            (λ _. all-exact r.journal K r.handed u v (r.wire u v) g h (s.wires u v) (x.wires u v));
        hands = hands-exact K r.handed a b (Data p) (exact-grown r.journal K r.handed a b (Data p) g h f e) (λ u v. all-exact r.journal K r.handed u v (r.handed u v) g h (s.hands u v) (x.hands u v));
      }

  deliver-exact : (r : Run) (a b k : ℕ) → SoundRun script rules r → SoundRun script rules (deliver script rules r a b k) → ExactRun r → ExactRun (deliver script rules r a b k)
  unfolding deliver
  deliver-exact r a b k s s' x =
      elim (slice_get (r.wire a b) k) as (λ o. slice_get (r.wire a b) k ≡ o → SoundRun script rules (deliver_entry script rules r a b o) → ExactRun (deliver_entry script rules r a b o)) [
        | None ↦ λ _ _. same-exact r _ x
        | Some p ↦ λ at q. same-exact (hand_over script rules r a b p) _ (hand_over-exact r a b p s q.atomic (all-get (Fits script rules r.journal r.handed a b) (r.wire a b) k p (s.wires a b) at) (all-get (Exact r.journal) (r.wire a b) k p (x.wires a b) at) x)
      ] refl s'

  module _ (spells : List ℕ → Bool) (size : Packet → ℕ) (refusal : List ℕ → Bad) where
    perform-exact : (r : Run) (act : Act) → SoundRun script rules r → SoundRun script rules (perform script rules size refusal r act) → ExactRun r → ExactRun (perform script rules size refusal r act)
    unfolding perform
    perform-exact r (Step t) s s' x = step-exact r t s s' x
    perform-exact r (Poll t) s s' x = poll-exact r t s s' x
    perform-exact r (Tick t) s s' x = tick-exact r t x
    perform-exact r (Deliver a b k) s s' x = deliver-exact r a b k s s' x
    perform-exact r (Cut a b k n) s s' x = elim (slice_get (r.wire a b) k) as (λ o. ExactRun (cut_entry script rules size r n o)) [ Some p ↦ same-exact r _ x | None ↦ same-exact r _ x ]
    perform-exact r (Inject a b bytes) s s' x = same-exact r _ x
    perform-exact r (Act.Begin t w) s s' x = begin-exact r t w s s' x
    perform-exact r (Act.End t w) s s' x = end-exact r t w s s' x

    run-exact : (acts : List Act) → AllByRecursion (ValidAct script spells) acts → ExactRun (run_of script rules size refusal acts)
    unfolding run_of
    run-exact acts v =
        (after-keeps script rules size refusal (ValidAct script spells) (λ q. SoundRun script rules q × ExactRun q)
        (λ q act w k. let s = perform-sound script rules spells size refusal q act w k.0 in (s, perform-exact q act k.0 s k.1))
        acts start v (start-sound script rules, record { wires = λ a b. tt; hands = λ a b. tt })).1

-- so it is with every record
pub record-exact : HoldsOfRecords ExactRun
record-exact = of-runs ExactRun run-exact

-- Each packet is that of its number.
of-number : (script : Script) (rules : Rules) (J : List Event) (handed : Lists) (a b : ℕ) (p : Packet) → Fits script rules J handed a b p → Exact script rules J p → IsOfNumber script rules J a b p
of-number script rules J handed a b (Data p) f x = (f, x)
of-number script rules J handed a b (Ack layout from to base bits) f x = tt

all-of-number : (script : Script) (rules : Rules) (J : List Event) (handed : Lists) (a b : ℕ) (ps : List Packet) → AllByRecursion (Fits script rules J handed a b) ps → AllByRecursion (Exact script rules J) ps → AllByRecursion (IsOfNumber script rules J a b) ps
all-of-number script rules J handed a b [] f x = tt
all-of-number script rules J handed a b (p ∷ ps) f x = (of-number script rules J handed a b p f.0 x.0, all-of-number script rules J handed a b ps f.1 x.1)

pub put-of-number : HoldsOfRecords PutAreOfNumber
put-of-number script rules r is = λ a b. all-of-number script rules r.journal r.handed a b (r.wire a b) ((record-sound script rules r is).wires a b) ((record-exact script rules r is).wires a b)

pub handed-of-number : HoldsOfRecords HandedAreOfNumber
handed-of-number script rules r is = λ a b. all-of-number script rules r.journal r.handed a b (r.handed a b) ((record-sound script rules r is).hands a b) ((record-exact script rules r is).hands a b)

pub carried-fixed : HoldsOfAtomic CarriedIsFixed
carried-fixed script rules J h = λ m later before e d. ap (λ K. carried script rules K m) e ∙ stays-grown script rules later before m (subst (Atomic script rules) e h) d
