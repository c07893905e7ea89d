-- A line adds events, entries and what was handed over at one task alone.
use Rattle.std.proofs.Common.{◌≡◌, ℕ, ◌==◌, Bool, true, false, cond, ◌&&◌, ◌||◌, not, List, [], ◌∷◌, ◌++◌, filter, Option, Some, None, refl, sym, ap, ◌∙◌, subst, append_assoc}
use Rattle.std.specs.Prelude.{slice_get, nat_lt, is_some, length}
use Rattle.std.specs.List.{AllByRecursion}
use Rattle.std.proofs.lemmas.Bool.{and_parts, cond_both, cond-false, eqb-true}
use Rattle.lapi_base.specs.declared.script.Script.{Script}
use Rattle.lapi_base.specs.declared.rule.Rules.{Rules}
use Rattle.lapi_base.specs.declared.message.Leg.TheVariants.{Go, Back, Note, Echo, Join}
use Rattle.lapi_base.specs.declared.message.MsgName.{MsgName}
use Rattle.lapi_base.specs.declared.refusal.Refusal.{Refusal}
use Rattle.lapi_base.specs.declared.event.Event.{Event}
use Rattle.lapi_base.specs.declared.event.Event.TheVariants.{Enter, Pass, Copy, Head, Land, Begin, End}
use Rattle.lapi_base.specs.declared.schedule.Act.{Act}
use Rattle.lapi_base.specs.declared.schedule.Act.TheVariants.{Step, Poll, Tick, Deliver, Cut, Inject}
use Rattle.lapi_base.specs.declared.reply.Bad.{Bad}
use Rattle.lapi_base.specs.declared.reply.Reply.{Reply}
use Rattle.lapi_base.specs.declared.reply.Reply.TheVariants.{Idle}
use Rattle.lapi_base.specs.declared.statement.Statement.{Statement}
use Rattle.lapi_base.specs.declared.statement.Statement.TheVariants.{Wait, Fence, Gfence}
use Rattle.lapi_base.specs.declared.packet.Packet.{Packet}
use Rattle.lapi_base.specs.declared.packet.Packet.TheVariants.{Data, Ack}
use Rattle.lapi_base.specs.Packet.Layout.{holds_back}
use Rattle.lapi_base.specs.Record.Names.{leg_eq, Issued, Entered, Copied, happened, message}
use Rattle.lapi_base.specs.Record.Operations.{numbers_below, statements, statement, target, sender, receiver, to_by, has_back, has_join, is_data, is_am, cmpl_counter}
use Rattle.lapi_base.specs.Record.Handlers.{has_completion, answers}
use Rattle.lapi_base.specs.Record.Refusals.{next, refusal_of, joined}
use Rattle.lapi_base.specs.Record.Jobs.{queue, runs}
use Rattle.lapi_base.specs.Record.Wires.{Run, some_number, all_numbers, numbered, is_delivered, data_clear}
use Rattle.lapi_base.specs.Record.Acts.{joins, to_copy_of, ready, copy_each, followed, note_of, after_land, after_end, first_delivery, hand_over, deliver_entry, deliver, reply_with, event_if, proposed, unless_refused, add_event, step, poll, tick, begin_first, begin_at, begin, end_at, end, cut_entry, perform}
use Rattle.lapi_base.specs.Record.TaskPart.{place_of, events_at, actor}
use Rattle.lapi_base.proofs.ListLaws.{all-any, all-append, all-flat_map, all-get, all-map}
use Rattle.lapi_base.proofs.NameLaws.{leg_eq-true}
use Rattle.lapi_base.proofs.TestLaws.{eqb-refl}
use Rattle.lapi_laws.proofs.Out.{numbered-copied}
use Rattle.lapi_laws.proofs.Workers.{begun}
use Rattle.lapi_laws.proofs.Sound.{Fits}
use Rattle.lapi_laws.proofs.Lines.{SoundRun}
use Rattle.lapi_parts.proofs.LocalEvents.{events-here, events-there}

module _ (script : Script) where
  abbrev pub At : ℕ → Event → Type 0
  At t e = place_of script e ≡ t

  -- s is r with events, entries and packets handed over at t
  pub record Frame (t : ℕ) (r s : Run) : Type 0 where
    pub added : List Event
    pub journal : s.journal ≡ added ++ r.journal
    pub here : AllByRecursion (At t) added
    pub wires : (a b : ℕ) → (a == t) ≡ false → s.wire a b ≡ r.wire a b
    pub hands : (a b : ℕ) → (b == t) ≡ false → s.handed a b ≡ r.handed a b
    pub owed : (a b : ℕ) → (b == t) ≡ false → s.owed a b ≡ r.owed a b

  -- Of the tasks' parts, the one at t gets what was added, and the others stay.
  pub events-own : (t : ℕ) (added J : List Event) → AllByRecursion (At t) added → events_at script t (added ++ J) ≡ added ++ events_at script t J
  events-own t [] J h = refl
  events-own t (e ∷ es) J h = events-here script t e (es ++ J) (subst (λ x. (x == t) ≡ true) (sym h.0) (eqb-refl t)) ∙ ap (λ xs. e ∷ xs) (events-own t es J h.1)

  pub events-other : (t u : ℕ) (added J : List Event) → (t == u) ≡ false → AllByRecursion (At t) added → events_at script u (added ++ J) ≡ events_at script u J
  events-other t u [] J apart h = refl
  events-other t u (e ∷ es) J apart h = events-there script u e (es ++ J) (subst (λ x. (x == u) ≡ false) (sym h.0) apart) ∙ events-other t u es J apart h.1

  abbrev More : ℕ → List Event → List Event → Type 0
  More t J K = (added : List Event) × (K ≡ added ++ J) × AllByRecursion (At t) added

  more-followed : (t : ℕ) (es J : List Event) → AllByRecursion (At t) es → More t J (followed J es)
  unfolding followed
  more-followed t [] J h = ([], refl, tt)
  more-followed t (e ∷ es) J h = let r = more-followed t es (e ∷ J) h.1 in (r.0 ++ e ∷ [], r.1 ∙ sym (append_assoc r.0 (e ∷ []) J), all-append (At t) r.0 (e ∷ []) r.2 (h.0, tt))

  more-copied : (t : ℕ) (ms : List MsgName) (J : List Event) → AllByRecursion (λ m. sender script m ≡ t) ms → More t J (copy_each J ms)
  unfolding copy_each
  more-copied t [] J h = ([], refl, tt)
  more-copied t (m ∷ ms) J h =
      cond_both (happened (Copied m) J) J (Copy m ∷ J) (λ L. More t L (copy_each L ms) → More t J (copy_each L ms)) (λ _ r. r)
      (λ _ r. (r.0 ++ Copy m ∷ [], r.1 ∙ sym (append_assoc r.0 (Copy m ∷ []) J), all-append (At t) r.0 (Copy m ∷ []) r.2 (h.0, tt)))
      (more-copied t ms (cond (happened (Copied m) J) J (Copy m ∷ J)) h.1)

  pub ready-own : (J : List Event) (t : ℕ) → AllByRecursion (λ m. sender script m ≡ t) (ready script J t)
  unfolding ready
  ready-own J t = all-flat_map (λ _. Unit {0}) (λ m. sender script m ≡ t) (to_copy_of script J t) (numbers_below (length (statements script t))) (all-any _) (λ i _.
      cond_both (is_data (statement script t i) && happened (Issued t i) J) (message t i Go ∷ []) (cond (has_join (statement script t i) && happened (Entered t i) J) (joins script t i) []) (AllByRecursion (λ m. sender script m ≡ t))
      (λ _. (refl, tt))
      (λ _. cond_both (has_join (statement script t i) && happened (Entered t i) J) (joins script t i) [] (AllByRecursion (λ m. sender script m ≡ t))
      (λ _. all-map (λ _. Unit {0}) (λ m. sender script m ≡ t) (λ d. message t i (Join d)) (filter (λ d. not (d == t)) (numbers_below script.tasks)) (all-any _) (λ d _. refl))
      (λ _. tt)))

  apart-left : (a b : ℕ) (y : Bool) {X : Type 0} (p q : X) → (a == b) ≡ false → cond (a == b && y) p q ≡ q
  apart-left a b y p q h = cond-false (a == b && y) p q (ap (λ x. x && y) h)

  and-false : (x : Bool) → (x && false) ≡ false
  and-false true = refl
  and-false false = refl

  apart-right : (a b : ℕ) (x : Bool) {X : Type 0} (p q : X) → (a == b) ≡ false → cond (x && (a == b)) p q ≡ q
  apart-right a b x p q h = cond-false (x && (a == b)) p q (ap (λ y. x && y) h ∙ and-false x)

  module _ (rules : Rules) where
    -- a line that adds events alone
    adds : (t : ℕ) (r : Run) (es : List Event) (replies : List Reply) → AllByRecursion (At t) es → Frame t r (record r { replies = replies; journal = followed r.journal es })
    adds t r es replies h = let m = more-followed t es r.journal h in record { added = m.0; journal = m.1; here = m.2; wires = λ a b _. refl; hands = λ a b _. refl; owed = λ a b _. refl }

    nothing : (t : ℕ) (r : Run) (replies : List Reply) → Frame t r (record r { replies = replies })
    nothing t r replies = record { added = []; journal = refl; here = tt; wires = λ a b _. refl; hands = λ a b _. refl; owed = λ a b _. refl }

    abbrev AtOption : ℕ → Option Event → Type 0
    AtOption t None = Unit {0}
    AtOption t (Some e) = At t e

    if-own : (t : ℕ) (b : Bool) (e : Event) → At t e → AtOption t (event_if script rules b e)
    if-own t true e h = h
    if-own t false e h = tt

    proposed-own : (r : Run) (t i : ℕ) (s : Statement) → AtOption t (proposed script rules r t i s)
    proposed-own r t i (Wait counter value) = if-own t _ (Pass t i) refl
    proposed-own r t i Fence = if-own t _ (Pass t i) refl
    proposed-own r t i Gfence = cond_both (happened (Entered t i) r.journal) (event_if script rules (joined script r.journal t i) (Pass t i)) (event_if script rules (data_clear script r t i) (Enter t i)) (AtOption t) (λ _. if-own t _ (Pass t i) refl) (λ _. if-own t _ (Enter t i) refl)
    proposed-own r t i (Statement.Addr at) = cond_both (happened (Entered t i) r.journal) (event_if script rules (joined script r.journal t i) (Pass t i)) (Some (Enter t i)) (AtOption t) (λ _. if-own t _ (Pass t i) refl) (λ _. refl)
    proposed-own r t i _ = refl

    unless-own : (r : Run) (t i : ℕ) (o : Option Refusal) → AtOption t (unless_refused script rules r t i o)
    unless-own r t i (Some reason) = refl
    unless-own r t i None = proposed-own r t i (statement script t i)

    add-frame : (r : Run) (t : ℕ) (o : Option Event) → AtOption t o → Frame t r (add_event script rules r o)
    add-frame r t None h = nothing t r _
    add-frame r t (Some e) h = adds t r (e ∷ []) _ (h, tt)

    step-frame : (r : Run) (t : ℕ) → Frame t r (step script rules r t)
    unfolding step
    step-frame r t =
        let i = next r.journal t in
        cond_both (nat_lt i (length (statements script t))) (add_event script rules r (unless_refused script rules r t i (refusal_of script rules r.journal t i))) (reply_with script rules r Idle) (Frame t r)
        (λ _. add-frame r t (unless_refused script rules r t i (refusal_of script rules r.journal t i)) (unless-own r t i (refusal_of script rules r.journal t i)))
        (λ _. nothing t r _)

    poll-frame : (r : Run) (t : ℕ) → Frame t r (poll script rules r t)
    unfolding poll
    poll-frame r t =
        let m = more-copied t (ready script r.journal t) r.journal (ready-own r.journal t) in
        record { added = m.0; journal = m.1; here = m.2; wires = λ a b x. cond-false (a == t) _ (r.wire a b) x; hands = λ a b _. refl; owed = λ a b x. ap (λ c. not c && r.owed a b) x }

    tick-frame : (r : Run) (t : ℕ) → Frame t r (tick script rules r t)
    unfolding tick
    tick-frame r t = record { added = []; journal = refl; here = tt; wires = λ a b x. cond-false (a == t) _ (r.wire a b) x; hands = λ a b _. refl; owed = λ a b _. refl }

    go-receiver : (m : MsgName) → leg_eq m.leg Go ≡ true → receiver script m ≡ target script m.origin m.statement
    go-receiver m h = ap (to_by m.origin (target script m.origin m.statement)) (leg_eq-true m.leg Go h)

    note-own : (t : ℕ) (m : MsgName) → target script m.origin m.statement ≡ t → AllByRecursion (At t) (note_of script rules m)
    note-own t m h = cond_both (is_some (cmpl_counter (statement script m.origin m.statement))) (Copy (message m.origin m.statement Note) ∷ []) [] (AllByRecursion (At t)) (λ _. (h, tt)) (λ _. tt)

    end-own : (t : ℕ) (m : MsgName) → target script m.origin m.statement ≡ t → AllByRecursion (At t) (after_end script rules m)
    end-own t m h = cond_both (answers script rules m.origin m.statement) (Copy (message m.origin m.statement Echo) ∷ []) (note_of script rules m) (AllByRecursion (At t)) (λ _. (h, tt)) (λ _. note-own t m h)

    after-own : (t : ℕ) (m : MsgName) → receiver script m ≡ t → AllByRecursion (At t) (after_land script rules m)
    after-own t m h =
        cond_both (leg_eq m.leg Go) _ [] (AllByRecursion (At t))
        (λ g.
        let here : target script m.origin m.statement ≡ t = sym (go-receiver m g) ∙ h in
        cond_both (has_back (statement script m.origin m.statement)) (Copy (message m.origin m.statement Back) ∷ []) _ (AllByRecursion (At t))
        (λ _. (here, tt))
        (λ _. cond_both (has_completion script rules m.origin m.statement) [] (note_of script rules m) (AllByRecursion (At t)) (λ _. tt) (λ _. note-own t m here)))
        (λ _. tt)

    arrival-own : (r : Run) (a b : ℕ) (m : MsgName) (n : ℕ) → receiver script m ≡ b → AllByRecursion (At b) (first_delivery script rules r a b m n)
    unfolding first_delivery
    arrival-own r a b m n h =
        all-append (At b) (cond (is_am (statement script m.origin m.statement) && leg_eq m.leg Go && not (some_number script (numbered script r.journal a b) m (is_delivered r a b))) (Head m ∷ []) []) (cond (all_numbers script (numbered script r.journal a b) m (λ k. k == n || is_delivered r a b k)) (Land m ∷ after_land script rules m) [])
        (cond_both _ (Head m ∷ []) [] (AllByRecursion (At b)) (λ _. (h, tt)) (λ _. tt))
        (cond_both _ (Land m ∷ after_land script rules m) [] (AllByRecursion (At b)) (λ _. (h, after-own b m h)) (λ _. tt))

    hand-frame : (r : Run) (a b : ℕ) (p : Packet) → Fits script rules r.journal r.handed a b p → Frame b r (hand_over script rules r a b p)
    unfolding hand_over
    hand-frame r a b (Ack layout from to least bits) f = record { added = []; journal = refl; here = tt; wires = λ x y _. refl; hands = λ x y h. apart-right y b (x == a) _ (r.handed x y) h; owed = λ x y _. refl }
    hand-frame r a b (Data p) f =
        let es = cond (is_delivered r a b p.seq) [] (first_delivery script rules r a b p.name p.seq) in
        let m = more-followed b es r.journal (cond_both (is_delivered r a b p.seq) [] (first_delivery script rules r a b p.name p.seq) (AllByRecursion (At b)) (λ _. tt) (λ _. arrival-own r a b p.name p.seq (numbered-copied script r.journal a b p.seq (p.name, p.fragment) f).2)) in
        record { added = m.0; journal = m.1; here = m.2; wires = λ x y h. apart-left x b (y == a) _ (r.wire x y) h; hands = λ x y h. apart-right y b (x == a) _ (r.handed x y) h; owed = λ x y h. ap (λ c. (holds_back script && (x == a && c)) || r.owed x y) h ∙ ap (λ c. (holds_back script && c) || r.owed x y) (and-false (x == a)) ∙ ap (λ c. c || r.owed x y) (and-false (holds_back script)) }

    replied : (t : ℕ) (r s : Run) (replies : List Reply) → Frame t r s → Frame t r (record s { replies = replies })
    replied t r s replies f = record { added = f.added; journal = f.journal; here = f.here; wires = f.wires; hands = f.hands; owed = f.owed }

    deliver-frame : (r : Run) (a b k : ℕ) → SoundRun script rules r → Frame b r (deliver script rules r a b k)
    unfolding deliver
    deliver-frame r a b k s =
        elim (slice_get (r.wire a b) k) as (λ o. slice_get (r.wire a b) k ≡ o → Frame b r (deliver_entry script rules r a b o)) [
          | None ↦ λ _. nothing b r _
          | Some p ↦ λ at. replied b r (hand_over script rules r a b p) _ (hand-frame r a b p (all-get (Fits script rules r.journal r.handed a b) (r.wire a b) k p (s.wires a b) at))
        ] refl

    begin-frame : (r : Run) (t w : ℕ) → Frame t r (begin script rules r t w)
    unfolding begin
    begin-frame r t w =
        elim (runs r.journal t w) as (λ o. Frame t r (begin_at script rules r t w o)) [
          | Some m ↦ nothing t r _
          | None ↦ elim (queue script rules r.journal t) as (λ ms. Frame t r (begin_first script rules r t w ms)) [ [] ↦ nothing t r _ | m ∷ ms ↦ adds t r (Begin m t w ∷ []) _ (refl, tt) ]
        ]

    end-frame : (r : Run) (t w : ℕ) → SoundRun script rules r → Frame t r (end script rules r t w)
    unfolding end
    end-frame r t w s =
        elim (runs r.journal t w) as (λ o. runs r.journal t w ≡ o → Frame t r (end_at script rules r t w o)) [
          | None ↦ λ _. nothing t r _
          | Some m ↦ λ at.
              let job = and_parts _ _ (begun script rules r.journal t w m s.atomic at).1 in
              let go = (and_parts _ _ (and_parts _ _ job.0).1).0 in
              let here : target script m.origin m.statement ≡ t = sym (go-receiver m go) ∙ eqb-true _ t (and_parts _ _ job.1).0 in
              adds t r (End m t w ∷ after_end script rules m) _ (refl, end-own t m here)
        ] refl

    module _ (size : Packet → ℕ) (refusal : List ℕ → Bad) where
      -- Every line has a frame: it changes the part of its own task alone.
      pub perform-frame : (r : Run) (act : Act) → SoundRun script rules r → Frame (actor act) r (perform script rules size refusal r act)
      unfolding perform
      perform-frame r (Step t) s = step-frame r t
      perform-frame r (Poll t) s = poll-frame r t
      perform-frame r (Tick t) s = tick-frame r t
      perform-frame r (Deliver a b k) s = deliver-frame r a b k s
      perform-frame r (Cut a b k n) s = elim (slice_get (r.wire a b) k) as (λ o. Frame b r (cut_entry script rules size r n o)) [ Some p ↦ nothing b r _ | None ↦ nothing b r _ ]
      perform-frame r (Inject a b bytes) s = nothing b r _
      perform-frame r (Act.Begin t w) s = begin-frame r t w
      perform-frame r (Act.End t w) s = end-frame r t w s
