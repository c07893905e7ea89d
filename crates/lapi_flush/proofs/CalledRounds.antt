-- A round of a script of stores, puts, gets and global fences runs to its end.
use Rattle.std.proofs.Common.{◌*◌, ◌≡◌, ◌⊎◌, ℕ, zero, suc, ◌+◌, ◌-◌, ◌<◌, ◌≤◌, ◌==◌, true, false, cond, ◌&&◌, ◌||◌, not, List, [], ◌∷◌, ◌++◌, length, Some, None, refl, sym, ap, ◌∙◌, subst, ⊎_elim, inl, inr, append_assoc, arith}
use Rattle.std.specs.Prelude.{nat_lt, is_some, slice_get, filter}
use Rattle.std.specs.List.{AllByRecursion}
use Rattle.std.proofs.lemmas.Bool.{false≢true, and_parts, and_from, both_ways, cond-true, cond-false, cond_both, cases_lt, cases_eq, lt-ltb, or_left, or_right, eq-eqb, ne_eqb, false_from_ne_true}
use Rattle.std.proofs.lemmas.List.{length-append, length_push}
use Rattle.lapi_base.specs.declared.script.Script.{Script}
use Rattle.lapi_base.specs.declared.statement.Statement.{Statement}
use Rattle.lapi_base.specs.declared.statement.Statement.TheVariants.{Store, Put, Putv, Get, Getv, Gfence}
use Rattle.lapi_base.specs.declared.rule.Rules.{Rules}
use Rattle.lapi_base.specs.declared.message.Leg.{Leg}
use Rattle.lapi_base.specs.declared.message.Leg.TheVariants.{Go, Back, Note, Echo, Join}
use Rattle.lapi_base.specs.declared.message.MsgName.{MsgName}
use Rattle.lapi_base.specs.declared.event.Event.{Event}
use Rattle.lapi_base.specs.declared.event.Event.TheVariants.{Issue, Refuse, Enter, Pass, Copy, Head, Land, Begin, End}
use Rattle.lapi_base.specs.declared.schedule.Act.{Act}
use Rattle.lapi_base.specs.declared.schedule.Act.TheVariants.{Step}
use Rattle.lapi_base.specs.Record.Handlers.{has_completion, answers}
use Rattle.lapi_base.specs.Record.Atomic.{Atomic, Keeps, needs, has_statement, is_issued}
use Rattle.lapi_base.specs.declared.reply.Reply.TheVariants.{Did, Idle}
use Rattle.lapi_base.specs.Record.Names.{message, EventKey, Issued, Refused, Entered, Passed, Copied, Landed, key_of, happened}
use Rattle.lapi_base.specs.Record.Operations.{statements, statement, receiver, is_data, is_gfence, table_rounds, has_back, has_join, has_leg, cmpl_counter}
use Rattle.lapi_base.specs.Packet.Spelling.{refusal}
use Rattle.lapi_base.specs.Packet.PacketBytes.{packet_size}
use Rattle.lapi_base.specs.Record.Refusals.{next, gfence_rounds, round_of, partner, join_landed, joined, refusal_of}
use Rattle.lapi_base.specs.Record.Below.{below}
use Rattle.lapi_base.specs.Record.Wires.{Run, is_acked, all_numbers, data_done, data_clear, numbered, has_number, has_ack}
use Rattle.lapi_base.specs.Record.Acts.{ready, event_if, note_of, followed, proposed, unless_refused, add_event, reply_with, with_events, step, perform, after}
use Rattle.lapi_base.proofs.ListLaws.{all-append, all-weaker, list_all-at}
use Rattle.lapi_base.proofs.BelowLaws.{every_below-from}
use Rattle.lapi_laws.proofs.Sound.{implied-from}
use Rattle.lapi_laws.proofs.Arrival.{all_numbers-from}
use Rattle.lapi_base.proofs.TestLaws.{eqb-refl}
use Rattle.lapi_base.proofs.NameLaws.{happened-nil, happened-cases, happened-later, happened-head, happened-grown}
use Rattle.lapi_laws.proofs.Lines.{SoundRun}
use Rattle.lapi_laws.proofs.Still.{back-data}
use Rattle.lapi_laws.proofs.Turns.{step-sound, below-place}
use Rattle.lapi_laws.proofs.Follows.{Stand, Owes, perform-owes}
use Rattle.lapi_laws.proofs.Backward.{Atomic-head, Atomic-tail, closed, there, behind}
use Rattle.lapi_base.specs.Record.WorldView.{HoldsOfRecords}
use Rattle.lapi_parts.proofs.Records.{record-sound}
use Rattle.lapi_epochs.specs.Epochs.{Has}
use Rattle.lapi_flush.specs.Flushed.{data_count, sum_to, all_data, IsCalm}
use Rattle.lapi_epochs.specs.Stages.{is_store, goes, comes}
use Rattle.lapi_flush.specs.Served.{AddsEvents, AllNamed}
use Rattle.lapi_flush.specs.Swept.{HasRoom}
use Rattle.lapi_flush.specs.Settled.{IsSettled, two_sweeps}
use Rattle.lapi_flush.specs.Rounds.{weigh, IsFenced, IsAtRound, steps_of, steps_to, calls_to, and_after, round_acts, RoundsGoOn}
use Rattle.lapi_epochs.proofs.EpochOrder.{has-of, round-epoch}
use Rattle.lapi_epochs.proofs.StagedBytes.{data-not_passed}
use Rattle.lapi_flush.proofs.SettledRecords.{record-owes, growth, grows-on, ends-there, ready-go, ready-join, needed-go, settles}
use Rattle.lapi_flush.proofs.NoneOwed.{IsPaid, after-paid, record-paid}
use Rattle.lapi_flush.proofs.ServedParts.{named-append, after-more, place-below}
use Rattle.lapi_flush.proofs.SweptTasks.{happened-before, same-next, same-entered, kept-done}
use Rattle.lapi_flush.proofs.FlushedTasks.{after-join}
use Rattle.lapi_laws.proofs.TakenStatements.{taken, kind}

-- what two stretches of events add, one after the other
pub regroup : (J K L : List Event) (ys xs : List Event) → L ≡ ys ++ K → K ≡ xs ++ J → L ≡ (ys ++ xs) ++ J
regroup J K L ys xs p q = p ∙ ap (λ M. ys ++ M) q ∙ sym (append_assoc ys xs J)

-- ---- lines that add events of statements alone

abbrev pub IsOfCall : Event → Type 0
IsOfCall (Issue a i) = Unit {0}
IsOfCall (Enter a i) = Unit {0}
IsOfCall (Pass a i) = Unit {0}
IsOfCall _ = ⊥

-- deeds of messages
IsOfMessages : EventKey → Type 0
IsOfMessages (Copied m) = Unit {0}
IsOfMessages (Landed m) = Unit {0}
IsOfMessages _ = ⊥

call-apart : (e : Event) (d : EventKey) → IsOfCall e → IsOfMessages d → d ≡ key_of e → ⊥
unfolding IsOfMessages
call-apart (Issue a i) d h g q = subst IsOfMessages q g
call-apart (Enter a i) d h g q = subst IsOfMessages q g
call-apart (Pass a i) d h g q = subst IsOfMessages q g
call-apart _ d h g q = h

module _ (script : Script) (rules : Rules) where
  -- from r to s steps were taken
  pub record Steps (r s : Run) : Type 0 where
    pub wires : (x y : ℕ) → s.wire x y ≡ r.wire x y
    pub hands : (x y : ℕ) → s.handed x y ≡ r.handed x y
    pub later : List Event
    pub journal : s.journal ≡ later ++ r.journal
    pub calls : AllByRecursion IsOfCall later

  pub no-steps : (r : Run) → Steps r r
  no-steps r = record { wires = λ x y. refl; hands = λ x y. refl; later = []; journal = refl; calls = tt }

  pub steps-done : (r s : Run) (d : EventKey) → Steps r s → happened d r.journal ≡ true → happened d s.journal ≡ true
  steps-done r s d k h = subst (λ L. happened d L ≡ true) (sym k.journal) (happened-grown k.later r.journal d h)

  pub steps-copied : (r s : Run) (m : MsgName) → Steps r s → happened (Copied m) s.journal ≡ true → happened (Copied m) r.journal ≡ true
  unfolding IsOfMessages
  steps-copied r s m k h = happened-before IsOfCall (Copied m) (λ e of. call-apart e (Copied m) of tt) k.later r.journal k.calls (subst (λ L. happened (Copied m) L ≡ true) k.journal h)

  pub steps-landed : (r s : Run) (m : MsgName) → Steps r s → happened (Landed m) s.journal ≡ true → happened (Landed m) r.journal ≡ true
  unfolding IsOfMessages
  steps-landed r s m k h = happened-before IsOfCall (Landed m) (λ e of. call-apart e (Landed m) of tt) k.later r.journal k.calls (subst (λ L. happened (Landed m) L ≡ true) k.journal h)

  numbered-on : (later J : List Event) (a b : ℕ) → AllByRecursion IsOfCall later → numbered script (later ++ J) a b ≡ numbered script J a b
  unfolding numbered
  numbered-on [] J a b h = refl
  numbered-on (Issue t i ∷ later) J a b h = numbered-on later J a b h.1
  numbered-on (Enter t i ∷ later) J a b h = numbered-on later J a b h.1
  numbered-on (Pass t i ∷ later) J a b h = numbered-on later J a b h.1
  numbered-on (_ ∷ later) J a b h = absurd h.0

  pub steps-out : (r s : Run) (a b : ℕ) → Steps r s → numbered script s.journal a b ≡ numbered script r.journal a b
  steps-out r s a b k = ap (λ L. numbered script L a b) k.journal ∙ numbered-on k.later r.journal a b k.calls

  pub steps-calm : (r s : Run) (a b top : ℕ) → Steps r s → IsCalm r a b top → IsCalm s a b top
  steps-calm r s a b top k c = record {
    sent = λ m. ap (λ ps. has_number ps m) (k.wires a b) ∙ c.sent m;
    acked = λ m l. ap (λ ps. has_ack ps m) (k.hands b a) ∙ c.acked m l;
    once = let e = ap data_count (k.wires a b) in let h = c.once in omega arith;
  }

  -- nor do steps add data packets
  pub steps-data : (r s : Run) → Steps r s → all_data script.tasks s ≡ all_data script.tasks r
  steps-data r s k = λ j. sum_to script.tasks (λ a. sum_to script.tasks (λ b. data_count (k.wires a b j)))

  -- one step more
  pub step-adds : (r : Run) (a : ℕ) (e : Event) → next r.journal a < length (statements script a) → unless_refused script rules r a (next r.journal a) (refusal_of script rules r.journal a (next r.journal a)) ≡ Some e → IsOfCall e →
      let s = step script rules r a in
      Steps r s × (s.journal ≡ e ∷ r.journal)
  unfolding step followed
  step-adds r a e room what call =
      let i = next r.journal a in
      let same : step script rules r a ≡ reply_with script rules (with_events script rules r (e ∷ [])) Did =
      cond-true (nat_lt i (length (statements script a))) (add_event script rules r (unless_refused script rules r a i (refusal_of script rules r.journal a i))) (reply_with script rules r Idle) (lt-ltb i (length (statements script a)) room)
      ∙ ap (add_event script rules r) what in
      subst (λ s. Steps r s × (s.journal ≡ e ∷ r.journal)) (sym same) (record { wires = λ x y. refl; hands = λ x y. refl; later = e ∷ []; journal = refl; calls = (call, tt) }, refl)

  pub steps-on : (r s t : Run) → Steps r s → Steps s t → Steps r t
  steps-on r s t x y = record {
    wires = λ a b. y.wires a b ∙ x.wires a b;
    hands = λ a b. y.hands a b ∙ x.hands a b;
    later = y.later ++ x.later;
    journal = regroup _ _ _ y.later x.later y.journal x.journal;
    calls = all-append IsOfCall y.later x.later y.calls x.calls;
  }

  -- a call that isn't refused is proposed
  issue-proposed : (r : Run) (a i : ℕ) (s : Statement) → (is_store s || (goes s || comes s)) ≡ true → proposed script rules r a i s ≡ Some (Issue a i)
  issue-proposed r a i (Store at bytes) h = refl
  issue-proposed r a i (Put target to from len tgt org cmpl) h = refl
  issue-proposed r a i (Putv target to from tgt org cmpl) h = refl
  issue-proposed r a i (Get target from to len tgt org) h = refl
  issue-proposed r a i (Getv target from to tgt org) h = refl
  issue-proposed r a i _ h = absurd (false≢true h)

  pub issue-step : (r : Run) (a i : ℕ) → i ≡ next r.journal a → i < length (statements script a) → refusal_of script rules r.journal a i ≡ None → (is_store (statement script a i) || (goes (statement script a i) || comes (statement script a i))) ≡ true →
      let s = step script rules r a in
      Steps r s × (s.journal ≡ Issue a i ∷ r.journal)
  issue-step r a i at room none h =
      let k = next r.journal a in
      let what : unless_refused script rules r a k (refusal_of script rules r.journal a k) ≡ Some (Issue a i) =
      subst (λ j. unless_refused script rules r a j (refusal_of script rules r.journal a j) ≡ Some (Issue a i)) at (ap (unless_refused script rules r a i) none ∙ issue-proposed r a i (statement script a i) h) in
      step-adds r a (Issue a i) (let q : k < length (statements script a) = omega arith in q) what tt

  -- ---- what stands at the beginning of a round

  joined-not-issued : (s : Statement) → has_join s ≡ true → (has_join s ≡ true) × (is_issued s ≡ false)
  joined-not-issued Gfence h = (refl, refl)
  joined-not-issued (Statement.Addr at) h = (refl, refl)
  joined-not-issued _ h = absurd (false≢true h)

  -- a fence that was passed was entered
  passed-entered : (J : List Event) (a i : ℕ) → Atomic script rules J → has_join (statement script a i) ≡ true → happened (Passed a i) J ≡ true → happened (Entered a i) J ≡ true
  passed-entered [] a i h is d = absurd (both_ways _ (happened-nil (Passed a i)) d)
  passed-entered (e ∷ J) a i h is d =
      ⊎_elim
      (λ (x : Passed a i ≡ key_of e). happened-later (Entered a i) e J (now e (Atomic-head script rules e J h) x))
      (λ (x : happened (Passed a i) J ≡ true). happened-later (Entered a i) e J (passed-entered J a i (Atomic-tail script rules e J h) is x))
      (happened-cases (Passed a i) e J d)
    where
      now : (e : Event) → Keeps script rules J e → Passed a i ≡ key_of e → happened (Entered a i) J ≡ true
      now (Pass b j) k same =
          let x : a ≡ b = cc in
          let y : i ≡ j = cc in
          let is' = subst (λ u. has_join (statement script u j) ≡ true) x (subst (λ u. has_join (statement script a u) ≡ true) y is) in
          let there = subst (λ c. cond c (happened (Entered b j) J ≡ true) (refusal_of script rules J b j ≡ None)) is' k.order.1 in
          subst (λ u. happened (Entered u i) J ≡ true) (sym x) (subst (λ u. happened (Entered b u) J ≡ true) (sym y) there)
      now (Issue b j) k same = absurd (cc)
      now (Refuse b j reason) k same = absurd (cc)
      now (Enter b j) k same = absurd (cc)
      now (Copy m) k same = absurd (cc)
      now (Head m) k same = absurd (cc)
      now (Land m) k same = absurd (cc)
      now (Begin m t w) k same = absurd (cc)
      now (End m t w) k same = absurd (cc)

  owes-step : (u : Run) (n : ℕ) → Owes script rules u.journal → Owes script rules (step script rules u n).journal
  unfolding perform
  owes-step u n o = perform-owes script rules packet_size refusal u (Step n) o

  module _ (rounds : ℕ) (begin fence : (round task : ℕ) → ℕ) (f : IsFenced script rules rounds begin fence) where
    -- what was taken was issued, or passed
    pub data-issued : (J : List Event) (a i : ℕ) → Atomic script rules J → Has script a i → is_data (statement script a i) ≡ true → i < next J a → happened (Issued a i) J ≡ true
    data-issued J a i h has d l =
        ⊎_elim
        (λ (x : happened (Issued a i) J ≡ true). x)
        (λ (y : (happened (Refused a i) J ≡ true) ⊎ (happened (Passed a i) J ≡ true)).
        ⊎_elim
        (λ (x : happened (Refused a i) J ≡ true). let k = kind script rules (Refused a i) J h x in absurd (let e : None ≡ Some k.1 = sym (f.none_refused k.0 a i has) ∙ k.2 in cc))
        (λ (x : happened (Passed a i) J ≡ true). absurd (both_ways _ (data-not_passed (statement script a i) d).0 (kind script rules (Passed a i) J h x)))
        y)
        (taken script rules J h a i l)

    join-entered : (J : List Event) (a i : ℕ) → Atomic script rules J → Has script a i → has_join (statement script a i) ≡ true → i < next J a → happened (Entered a i) J ≡ true
    join-entered J a i h has j l =
        let e = joined-not-issued (statement script a i) j in
        ⊎_elim
        (λ (x : happened (Issued a i) J ≡ true). absurd (both_ways _ e.1 (kind script rules (Issued a i) J h x)))
        (λ (y : (happened (Refused a i) J ≡ true) ⊎ (happened (Passed a i) J ≡ true)).
        ⊎_elim
        (λ (x : happened (Refused a i) J ≡ true). let k = kind script rules (Refused a i) J h x in absurd (let q : None ≡ Some k.1 = sym (f.none_refused k.0 a i has) ∙ k.2 in cc))
        (λ (x : happened (Passed a i) J ≡ true). passed-entered J a i h e.0 x)
        y)
        (taken script rules J h a i l)

    go-complete : (r : Run) → IsSettled script rules r → SoundRun script rules r → (a i : ℕ) → Has script a i → is_data (statement script a i) ≡ true → i < next r.journal a → happened (Copied (message a i Go)) r.journal ≡ true
    go-complete r s sound a i has d l = ready-go script rules r.journal (λ m. happened (Copied m) r.journal) a i (list_all-at (λ m. happened (Copied m) r.journal) (ready script r.journal a) (s.copied a has.0)) has.1 d (data-issued r.journal a i sound.atomic has d l)

    -- in a settled record every message of a statement that was taken was copied
    complete : (r : Run) → IsSettled script rules r → SoundRun script rules r → Owes script rules r.journal → (a i : ℕ) (leg : Leg) → Has script a i → has_leg script (answers script rules a i) a leg (statement script a i) ≡ true → i < next r.journal a → happened (Copied (message a i leg)) r.journal ≡ true
    complete r s sound owes a i Go has leg l = go-complete r s sound a i has leg l
    complete r s sound owes a i Back has leg l =
        let go = go-complete r s sound a i has (back-data (statement script a i) leg) l in
        let stand = owes.lands (message a i Go) (s.landed (message a i Go) go) in
        (subst (λ x. Stand r.journal (cond x (Copy (message a i Back) ∷ []) (cond (has_completion script rules a i) [] (note_of script rules (message a i Go))))) leg stand).0
    complete r s sound owes a i Note has leg l = absurd (false≢true (ap is_some (sym (f.no_notes a i has).0) ∙ (and_parts (is_some (cmpl_counter (statement script a i))) (not (answers script rules a i)) leg).0))
    complete r s sound owes a i Echo has leg l = absurd (both_ways _ (f.no_notes a i has).1 leg)
    complete r s sound owes a i (Join d) has leg l =
        let parts = and_parts (has_join (statement script a i)) _ leg in
        ready-join script rules r.journal (λ m. happened (Copied m) r.journal) a i d (list_all-at (λ m. happened (Copied m) r.journal) (ready script r.journal a) (s.copied a has.0)) has.1 leg (join-entered r.journal a i sound.atomic has parts.0 l)

    -- a message that was copied is of a statement that its task has come to
    pub come-to : (K : List Event) (a i : ℕ) (leg : Leg) → Atomic script rules K → happened (Copied (message a i leg)) K ≡ true → Has script a i × (has_leg script (answers script rules a i) a leg (statement script a i) ≡ true) × (i ≤ next K a)
    unfolding needs
    come-to K a i leg h c =
        let is = and_parts (has_statement script rules a i) (has_leg script (answers script rules a i) a leg (statement script a i)) (there script rules (Copied (message a i leg)) K h c) in
        let has = has-of script rules a i is.0 in
        (has, is.1, come leg is.1 c)
      where
        come : (g : Leg) → has_leg script (answers script rules a i) a g (statement script a i) ≡ true → happened (Copied (message a i g)) K ≡ true → i ≤ next K a
        come Go q d = let l : i < next K a = behind script rules (Issued a i) K h (needed-go script rules K a i Go h d (inl refl)) in omega arith
        come Back q d = let l : i < next K a = behind script rules (Issued a i) K h (needed-go script rules K a i Back h d (inr refl)) in omega arith
        come Note q d = absurd (false≢true (ap is_some (sym (f.no_notes a i (has-of script rules a i (and_parts (has_statement script rules a i) _ (there script rules (Copied (message a i Note)) K h d)).0)).0) ∙ (and_parts (is_some (cmpl_counter (statement script a i))) (not (answers script rules a i)) q).0))
        come Echo q d = absurd (both_ways _ (f.no_notes a i (has-of script rules a i (and_parts (has_statement script rules a i) _ (there script rules (Copied (message a i Echo)) K h d)).0)).1 q)
        come (Join x) q d = let l : i ≤ next K a = behind script rules (Entered a i) K h (closed script rules (Copied (message a i (Join x))) K h d).0 in l

    module _ (k : ℕ) (lk : k < rounds) (r : Run) (sound : SoundRun script rules r) (paid : IsPaid script rules r) (owes : Owes script rules r.journal) (at : IsAtRound script rules begin k r) where
      -- a message that was not copied before the round is one of it
      pub not-low : (m : MsgName) → Has script m.origin m.statement → has_leg script (answers script rules m.origin m.statement) m.origin m.leg (statement script m.origin m.statement) ≡ true → happened (Copied m) r.journal ≡ false → begin k m.origin ≤ m.statement
      not-low m has leg absent =
          ⊎_elim
          (λ (lt : m.statement < begin k m.origin).
          let place = at.place m.origin has.0 in
          absurd (both_ways _ absent (complete r at.settled sound owes m.origin m.statement m.leg has leg (omega arith))))
          (λ (ge : begin k m.origin ≤ m.statement). ge)
          (cases_lt m.statement (begin k m.origin))

      -- in the round no link gets more numbers than the window has
      pub room-of : (K later : List Event) → K ≡ later ++ r.journal → Atomic script rules K → ((a : ℕ) → a < script.tasks → next K a ≡ fence k a) → (a b : ℕ) → (la : a < script.tasks) → (lb : b < script.tasks) → length (numbered script K a b) ≤ length (numbered script r.journal a b) + weigh script (f.few k a b lk la lb).0
      room-of K later same h places a b la lb =
          let few = f.few k a b lk la lb in
          let whole = subst (Atomic script rules) same h in
          let up = growth script rules later r.journal a b few.0 whole (λ m c absent from to.
          let here = come-to K m.origin m.statement m.leg h (subst (λ L. happened (Copied m) L ≡ true) (sym same) c) in
          let place = places m.origin here.0.0 in
          let top = here.2 in
          few.1 m here.0 here.1 (not-low m here.0 here.1 absent) (let q : m.statement ≤ fence k m.origin = omega arith in q) from to) in
          let e = ap (λ L. length (numbered script L a b)) same in
          omega arith

      -- ---- the calls

      pub record Called (u : Run) (n j : ℕ) : Type 0 where
        pub u_sound : SoundRun script rules u
        pub u_owes : Owes script rules u.journal
        pub steps : Steps r u
        pub full : (a : ℕ) → a < script.tasks → a < n → next u.journal a ≡ fence k a
        part : n < script.tasks → next u.journal n ≡ begin k n + j
        rest : (a : ℕ) → a < script.tasks → n < a → next u.journal a ≡ begin k a
        pub same_entered : (a i : ℕ) → happened (Entered a i) u.journal ≡ true → happened (Entered a i) r.journal ≡ true

      next-issue : (J : List Event) (n i a : ℕ) → next (Issue n i ∷ J) a ≡ cond (a == n) (suc (next J a)) (next J a)
      unfolding next
      next-issue J n i a = refl

      other-next : (J : List Event) (n i a : ℕ) → (a ≡ n → ⊥) → next (Issue n i ∷ J) a ≡ next J a
      other-next J n i a h = next-issue J n i a ∙ cond-false (a == n) _ (next J a) (ne_eqb a n h)

      not-entered : (J : List Event) (n i a j : ℕ) → happened (Entered a j) (Issue n i ∷ J) ≡ true → happened (Entered a j) J ≡ true
      not-entered J n i a j d = ⊎_elim (λ (x : Entered a j ≡ Issued n i). absurd (cc)) (λ (x : happened (Entered a j) J ≡ true). x) (happened-cases (Entered a j) (Issue n i) J d)

      one-call : (u : Run) (n j : ℕ) → n < script.tasks → j < fence k n - begin k n → Called u n j → Called (step script rules u n) n (suc j)
      one-call u n j l lj c =
          let i = begin k n + j in
          let o = f.order k n lk l in
          let low = o.0 in
          let high = o.1 in
          let now = c.part l in
          let inside : i < fence k n = omega arith in
          let s = issue-step u n i (sym now) (let q : i < length (statements script n) = omega arith in q) (f.none_refused u.journal n i (l, let q : i < length (statements script n) = omega arith in q)) (f.issues k n i lk l (let q : begin k n ≤ i = omega arith in q) inside) in
          let v = step script rules u n in
          let J = u.journal in record {
            u_sound = step-sound script rules u n l c.u_sound;
            u_owes = owes-step u n c.u_owes;
            steps = steps-on r u v c.steps s.0;
            full = λ a la lt. ap (λ L. next L a) s.1 ∙ other-next J n i a (λ e. absurd (omega arith)) ∙ c.full a la lt;
            part = λ _. ap (λ L. next L n) s.1 ∙ next-issue J n i n ∙ cond-true (n == n) _ (next J n) (eqb-refl n) ∙ one-more (next J n) (begin k n) j now;
            rest = λ a la lt. ap (λ L. next L a) s.1 ∙ other-next J n i a (λ e. absurd (omega arith)) ∙ c.rest a la lt;
            same_entered = λ a x d. c.same_entered a x (not-entered J n i a x (subst (λ L. happened (Entered a x) L ≡ true) s.1 d));
          }
        where
          one-more : (n b j : ℕ) → n ≡ b + j → suc n ≡ b + suc j
          one-more n b j e = omega arith

      calls-of : (u : Run) (n j : ℕ) → n < script.tasks → j ≤ fence k n - begin k n → Called u n 0 → Called (after script rules packet_size refusal u (steps_of script rules n j)) n j
      unfolding steps_of after perform
      calls-of u n zero l lj c = c
      calls-of u n (suc j) l lj c =
          subst (λ v. Called v n (suc j)) (sym (after-more script rules (steps_of script rules n j) (Step n) u))
          (one-call (after script rules packet_size refusal u (steps_of script rules n j)) n j l (omega arith) (calls-of u n j l (omega arith) c))

      pub all-calls : (n : ℕ) → n ≤ script.tasks → Called (after script rules packet_size refusal r (calls_to script rules begin fence k n)) n 0
      unfolding calls_to after
      all-calls zero l = record {
        u_sound = sound;
        u_owes = owes;
        steps = no-steps r;
        full = λ a la lt. absurd (omega arith);
        part = λ la. at.place 0 la ∙ (let q : begin k 0 ≡ begin k 0 + 0 = omega arith in q);
        rest = λ a la lt. at.place a la;
        same_entered = λ a i d. d;
      }
      all-calls (suc n) l =
          let u = after script rules packet_size refusal r (calls_to script rules begin fence k n) in
          let j = fence k n - begin k n in
          let ln : n < script.tasks = omega arith in
          let c = calls-of u n j ln (omega arith) (all-calls n (omega arith)) in
          let v = after script rules packet_size refusal u (steps_of script rules n j) in
          let low = (f.order k n lk ln).0 in
          subst (λ w. Called w (suc n) 0) (sym (after-join script rules (calls_to script rules begin fence k n) (steps_of script rules n j) r))
          (record {
            u_sound = c.u_sound;
            u_owes = c.u_owes;
            steps = c.steps;
            full = λ a la lt.
                ⊎_elim
                (λ (old : a < n). c.full a la old)
                (λ (ge : n ≤ a). let same : n ≡ a = omega arith in let p = c.part ln in subst (λ x. next v.journal x ≡ fence k x) same (p ∙ (let q : begin k n + j ≡ fence k n = omega arith in q)))
                (cases_lt a n);
            part = λ la. c.rest (suc n) la (omega arith) ∙ (let q : begin k (suc n) ≡ begin k (suc n) + 0 = omega arith in q);
            rest = λ a la lt. c.rest a la (omega arith);
            same_entered = c.same_entered;
          })

      -- ---- sweeps within the round

      -- a record of the round in which every task has come to its fence
      pub record AtFences (u : Run) : Type 0 where
        pub f_sound : SoundRun script rules u
        pub f_paid : IsPaid script rules u
        pub f_owes : Owes script rules u.journal
        pub since : (later : List Event) × (u.journal ≡ later ++ r.journal)
        pub f_place : (a : ℕ) → a < script.tasks → next u.journal a ≡ fence k a

      pub swept-fences : (u : Run) → AtFences u → ((a b : ℕ) → a < script.tasks → b < script.tasks → IsCalm u a b (length (numbered script u.journal a b))) →
          let s = after script rules packet_size refusal u (two_sweeps script rules u) in
          IsSettled script rules s × AtFences s × AddsEvents u.journal s.journal × (length (two_sweeps script rules u) + 2 * all_data script.tasks u ≤ 2 * script.tasks + 2 * all_data script.tasks s) × AllNamed script rules u (two_sweeps script rules u)
      swept-fences u g calm =
          let tops = λ (a b : ℕ). length (numbered script u.journal a b) in
          let room : HasRoom script rules u tops = λ K h x a b la lb.
          let whole : K ≡ (x.0 ++ g.since.0) ++ r.journal = regroup _ _ _ x.0 g.since.0 x.1 g.since.1 in
          let up = room-of K (x.0 ++ g.since.0) whole h (λ c lc. same-next u.journal K c x ∙ g.f_place c lc) a b la lb in
          let low = grows-on script rules g.since.0 r.journal a b in
          let w = (f.few k a b lk la lb).2 in
          let e = ap (λ L. length (numbered script L a b)) g.since.1 in
          omega arith in
          let z = settles script rules u f.no_notes tops room g.f_sound g.f_paid g.f_owes (λ a b la lb. (calm a b la lb, let q : length (numbered script u.journal a b) ≤ length (numbered script u.journal a b) = omega arith in q)) in
          let adds = z.3 in (
            z.0,
            record {
              f_sound = z.1;
              f_paid = after-paid script rules (two_sweeps script rules u) u g.f_paid;
              f_owes = z.2;
              since = (adds.0 ++ g.since.0, regroup _ _ _ adds.0 g.since.0 adds.1 g.since.1);
              f_place = λ a la. same-next u.journal (after script rules packet_size refusal u (two_sweeps script rules u)).journal a adds ∙ g.f_place a la;
            },
            adds,
            z.4,
            z.5,
          )

      -- steps leave the links as they are
      calm-steps : (s u : Run) → Steps s u → ((a b : ℕ) → a < script.tasks → b < script.tasks → IsCalm s a b (length (numbered script s.journal a b))) → (a b : ℕ) → a < script.tasks → b < script.tasks → IsCalm u a b (length (numbered script u.journal a b))
      calm-steps s u x calm a b la lb = subst (λ xs. IsCalm u a b (length xs)) (sym (steps-out s u a b x)) (steps-calm s u a b (length (numbered script s.journal a b)) x (calm a b la lb))

      -- ---- entering

      module _ (s : Run) (settled : IsSettled script rules s) (g : AtFences s) (new : (a : ℕ) → a < script.tasks → happened (Entered a (fence k a)) s.journal ≡ false) where
        pub record Enters (u : Run) (n : ℕ) : Type 0 where
          pub e_sound : SoundRun script rules u
          pub e_owes : Owes script rules u.journal
          pub e_steps : Steps s u
          pub e_place : (a : ℕ) → a < script.tasks → next u.journal a ≡ fence k a
          pub inside : (a : ℕ) → a < script.tasks → a < n → happened (Entered a (fence k a)) u.journal ≡ true
          outside : (a : ℕ) → a < script.tasks → n ≤ a → happened (Entered a (fence k a)) u.journal ≡ false

        -- the data of all calls are happened
        clear : (u : Run) (n : ℕ) → n < script.tasks → Steps s u → data_clear script u n (fence k n) ≡ true
        unfolding data_clear data_done
        clear u n l x =
            let i = fence k n in
            let o = f.order k n lk l in
            let high = o.1 in
            let place = g.f_place n l in
            every_below-from i _ (λ j lj. implied-from (is_data (statement script n j)) (happened (Issued n j) u.journal) _ (λ d issued.
            let has : Has script n j = (l, let q : j < length (statements script n) = omega arith in q) in
            let come : j < next s.journal n = omega arith in
            let copied = go-complete s settled g.f_sound n j has d come in
            let ends = ends-there script rules f.no_notes s.journal n j Go g.f_sound.atomic copied in
            let b = receiver script (message n j Go) in
            cond_both (has_back (statement script n j)) (happened (Landed (message n j Back)) u.journal) (happened (Copied (message n j Go)) u.journal && all_numbers script (numbered script u.journal n b) (message n j Go) (is_acked u n b)) (λ y. y ≡ true)
            (λ back. steps-done s u (Landed (message n j Back)) x (settled.landed (message n j Back) (complete s settled g.f_sound g.f_owes n j Back has back come)))
            (λ _.
            and_from _ _ (steps-done s u (Copied (message n j Go)) x copied)
            (all_numbers-from script (numbered script u.journal n b) (message n j Go) (is_acked u n b) (λ m jj e.
            (calm-steps s u x settled.calm n b l ends.1).acked m (place-below script rules (numbered script u.journal n b) m (message n j Go, jj) e))))))

        entered-next : (J : List Event) (n i a : ℕ) → next (Enter n i ∷ J) a ≡ next J a
        unfolding next
        entered-next J n i a = refl

        one-enter : (u : Run) (n : ℕ) → n < script.tasks → Enters u n → Enters (step script rules u n) (suc n)
        one-enter u n l c =
            let i = fence k n in
            let o = f.order k n lk l in
            let at_place = c.e_place n l in
            let high = o.1 in
            let is = (f.fences k n lk l).0 in
            let none = f.none_refused u.journal n i (l, high) in
            let what : unless_refused script rules u n (next u.journal n) (refusal_of script rules u.journal n (next u.journal n)) ≡ Some (Enter n i) =
            subst (λ j. unless_refused script rules u n j (refusal_of script rules u.journal n j) ≡ Some (Enter n i)) (sym at_place)
            (ap (unless_refused script rules u n i) none
            ∙ ap (proposed script rules u n i) is
            ∙ cond-false (happened (Entered n i) u.journal) _ _ (c.outside n l (let q : n ≤ n = omega arith in q))
            ∙ ap (λ b. event_if script rules b (Enter n i)) (clear u n l c.e_steps)) in
            let x = step-adds u n (Enter n i) (let q : next u.journal n < length (statements script n) = omega arith in q) what tt in
            let v = step script rules u n in
            let J = u.journal in record {
              e_sound = step-sound script rules u n l c.e_sound;
              e_owes = owes-step u n c.e_owes;
              e_steps = steps-on s u v c.e_steps x.0;
              e_place = λ a la. ap (λ L. next L a) x.1 ∙ entered-next J n i a ∙ c.e_place a la;
              inside = λ a la lt.
                  ⊎_elim
                  (λ (old : a < n). steps-done u v (Entered a (fence k a)) x.0 (c.inside a la old))
                  (λ (ge : n ≤ a). let same : n ≡ a = omega arith in subst (λ y. happened (Entered y (fence k y)) v.journal ≡ true) same (subst (λ L. happened (Entered n i) L ≡ true) (sym x.1) (happened-head (Enter n i) J)))
                  (cases_lt a n);
              outside = λ a la lt.
                  false_from_ne_true _ (λ d.
                  ⊎_elim
                  (λ (y : Entered a (fence k a) ≡ Entered n i). let same : a ≡ n = cc in absurd (omega arith))
                  (λ (y : happened (Entered a (fence k a)) J ≡ true). both_ways _ (c.outside a la (omega arith)) y)
                  (happened-cases (Entered a (fence k a)) (Enter n i) J (subst (λ L. happened (Entered a (fence k a)) L ≡ true) x.1 d)));
            }

        pub all-enter : (n : ℕ) → n ≤ script.tasks → Enters (after script rules packet_size refusal s (steps_to script rules n)) n
        unfolding steps_to after perform
        all-enter zero l = record { e_sound = g.f_sound; e_owes = g.f_owes; e_steps = no-steps s; e_place = g.f_place; inside = λ a la lt. absurd (omega arith); outside = λ a la lt. new a la }
        all-enter (suc n) l =
            let u = after script rules packet_size refusal s (steps_to script rules n) in
            subst (λ v. Enters v (suc n)) (sym (after-more script rules (steps_to script rules n) (Step n) s)) (one-enter u n (omega arith) (all-enter n (omega arith)))

      -- ---- passing

      module _ (s : Run) (settled : IsSettled script rules s) (g : AtFences s) (entered : (a : ℕ) → a < script.tasks → happened (Entered a (fence k a)) s.journal ≡ true) where
        pub record Passes (u : Run) (n : ℕ) : Type 0 where
          p_sound : SoundRun script rules u
          p_owes : Owes script rules u.journal
          pub p_steps : Steps s u
          gone : (a : ℕ) → a < script.tasks → a < n → next u.journal a ≡ suc (fence k a)
          here : (a : ℕ) → a < script.tasks → n ≤ a → next u.journal a ≡ fence k a
          same_ready : (a : ℕ) → ready script u.journal a ≡ ready script s.journal a
          back : (a i : ℕ) → happened (Entered a i) u.journal ≡ true → happened (Entered a i) s.journal ≡ true

        -- the joins of a fence have landed
        join-landed : (d n : ℕ) → d < script.tasks → n < script.tasks → (d ≡ n → ⊥) → happened (Landed (message d (fence k d) (Join n))) s.journal ≡ true
        join-landed d n ld ln apart =
            let i = fence k d in
            let is = (f.fences k d lk ld).0 in
            let leg : has_leg script (answers script rules d i) d (Join n) (statement script d i) ≡ true =
            ap (has_leg script (answers script rules d i) d (Join n)) is ∙ and_from _ _ (lt-ltb n script.tasks ln) (ap not (ne_eqb n d (λ e. apart (sym e)))) in
            let copied = ready-join script rules s.journal (λ m. happened (Copied m) s.journal) d i n (list_all-at (λ m. happened (Copied m) s.journal) (ready script s.journal d) (settled.copied d ld)) (f.order k d lk ld).1 leg (entered d ld) in
            settled.landed (message d i (Join n)) copied

        own-round : (d i : ℕ) → statement script d i ≡ Gfence → round_of script d i ≡ length (filter (λ j. nat_lt j i) (gfence_rounds script d))
        unfolding round_of
        own-round d i e = ap (λ s. length (filter (λ j. nat_lt j i) (cond (is_gfence s) (gfence_rounds script d) (table_rounds script d)))) e

        -- the partner of a fence is that of the same round
        partner-fence : (a d : ℕ) → a < script.tasks → d < script.tasks → partner script a (fence k a) d ≡ Some (fence k d)
        unfolding partner gfence_rounds
        partner-fence a d la ld =
            let ia = fence k a in
            let id = fence k d in
            let fa = f.fences k a lk la in
            let fd = f.fences k d lk ld in
            let test = λ (j : ℕ). is_gfence (statement script d j) in
            let isd = ap is_gfence fd.0 in
            let place : length (filter (λ j. nat_lt j id) (below (length (statements script d)) test)) ≡ k = sym (own-round d id fd.0) ∙ round-epoch script d id (f.order k d lk ld).1 isd ∙ fd.1 in
            let ra : round_of script a ia ≡ k = round-epoch script a ia (f.order k a lk la).1 (ap is_gfence fa.0) ∙ fa.1 in
            ap (λ s. slice_get (cond (is_gfence s) (below (length (statements script d)) test) (table_rounds script d)) (round_of script a ia)) fa.0
            ∙ ap (slice_get (below (length (statements script d)) test)) (ra ∙ sym place)
            ∙ below-place (length (statements script d)) test id (f.order k d lk ld).1 isd

        all-joined : (u : Run) (n : ℕ) → n < script.tasks → Steps s u → joined script u.journal n (fence k n) ≡ true
        unfolding joined
        all-joined u n l x =
            every_below-from script.tasks _ (λ d ld.
            ⊎_elim
            (λ (same : d ≡ n). or_left (d == n) _ (eq-eqb d n same))
            (λ (apart : d ≡ n → ⊥).
            or_right (d == n) _ (ap (join_landed u.journal n d) (partner-fence n d l ld) ∙ steps-done s u (Landed (message d (fence k d) (Join n))) x (join-landed d n ld l apart)))
            (cases_eq d n))

        passed-next : (J : List Event) (n i a : ℕ) → next (Pass n i ∷ J) a ≡ cond (a == n) (suc (next J a)) (next J a)
        unfolding next
        passed-next J n i a = refl

        passed-ready : (J : List Event) (n i a : ℕ) → ready script (Pass n i ∷ J) a ≡ ready script J a
        unfolding ready happened
        passed-ready J n i a = refl

        one-pass : (u : Run) (n : ℕ) → n < script.tasks → Passes u n → Passes (step script rules u n) (suc n)
        one-pass u n l c =
            let i = fence k n in
            let at_place = c.here n l (let q : n ≤ n = omega arith in q) in
            let high = (f.order k n lk l).1 in
            let is = (f.fences k n lk l).0 in
            let none = f.none_refused u.journal n i (l, high) in
            let what : unless_refused script rules u n (next u.journal n) (refusal_of script rules u.journal n (next u.journal n)) ≡ Some (Pass n i) =
            subst (λ j. unless_refused script rules u n j (refusal_of script rules u.journal n j) ≡ Some (Pass n i)) (sym at_place)
            (ap (unless_refused script rules u n i) none
            ∙ ap (proposed script rules u n i) is
            ∙ cond-true (happened (Entered n i) u.journal) _ _ (steps-done s u (Entered n i) c.p_steps (entered n l))
            ∙ ap (λ b. event_if script rules b (Pass n i)) (all-joined u n l c.p_steps)) in
            let x = step-adds u n (Pass n i) (let q : next u.journal n < length (statements script n) = omega arith in q) what tt in
            let v = step script rules u n in
            let J = u.journal in record {
              p_sound = step-sound script rules u n l c.p_sound;
              p_owes = owes-step u n c.p_owes;
              p_steps = steps-on s u v c.p_steps x.0;
              gone = λ a la lt.
                  ⊎_elim
                  (λ (old : a < n). ap (λ L. next L a) x.1 ∙ passed-next J n i a ∙ cond-false (a == n) _ (next J a) (ne_eqb a n (λ e. absurd (omega arith))) ∙ c.gone a la old)
                  (λ (ge : n ≤ a).
                  let same : n ≡ a = omega arith in
                  subst (λ y. next v.journal y ≡ suc (fence k y)) same (ap (λ L. next L n) x.1 ∙ passed-next J n i n ∙ cond-true (n == n) _ (next J n) (eqb-refl n) ∙ ap (λ y. suc y) at_place))
                  (cases_lt a n);
              here = λ a la lt. ap (λ L. next L a) x.1 ∙ passed-next J n i a ∙ cond-false (a == n) _ (next J a) (ne_eqb a n (λ e. absurd (omega arith))) ∙ c.here a la (omega arith);
              same_ready = λ a. ap (λ L. ready script L a) x.1 ∙ passed-ready J n i a ∙ c.same_ready a;
              back = λ a j d. c.back a j (⊎_elim (λ (y : Entered a j ≡ Passed n i). absurd (cc)) (λ (y : happened (Entered a j) J ≡ true). y) (happened-cases (Entered a j) (Pass n i) J (subst (λ L. happened (Entered a j) L ≡ true) x.1 d)));
            }

        pub all-pass : (n : ℕ) → n ≤ script.tasks → Passes (after script rules packet_size refusal s (steps_to script rules n)) n
        unfolding steps_to after perform
        all-pass zero l = record { p_sound = g.f_sound; p_owes = g.f_owes; p_steps = no-steps s; gone = λ a la lt. absurd (omega arith); here = λ a la lt. g.f_place a la; same_ready = λ a. refl; back = λ a i d. d }
        all-pass (suc n) l =
            let u = after script rules packet_size refusal s (steps_to script rules n) in
            subst (λ v. Passes v (suc n)) (sym (after-more script rules (steps_to script rules n) (Step n) s)) (one-pass u n (omega arith) (all-pass n (omega arith)))

      -- ---- the whole round

      pub after-and : (u : Run) (acts : List Act) (more : Run → List Act) → after script rules packet_size refusal u (and_after script rules u acts more) ≡ after script rules packet_size refusal (after script rules packet_size refusal u acts) (more (after script rules packet_size refusal u acts))
      after-and u acts more = after-join script rules acts (more (after script rules packet_size refusal u acts)) u

      -- from the calls to the next round
      goes-on : (u1 u2 u3 u4 u5 : Run)
          → u1 ≡ after script rules packet_size refusal r (calls_to script rules begin fence k script.tasks)
          → u2 ≡ after script rules packet_size refusal u1 (two_sweeps script rules u1)
          → u3 ≡ after script rules packet_size refusal u2 (steps_to script rules script.tasks)
          → u4 ≡ after script rules packet_size refusal u3 (two_sweeps script rules u3)
          → u5 ≡ after script rules packet_size refusal u4 (steps_to script rules script.tasks)
          → IsAtRound script rules begin (suc k) u5 × SoundRun script rules u5
          × (length (two_sweeps script rules u1) + length (two_sweeps script rules u3) + 2 * all_data script.tasks r ≤ 4 * script.tasks + 2 * all_data script.tasks u5)
          × ((a b : ℕ) → (la : a < script.tasks) → (lb : b < script.tasks) → length (numbered script u5.journal a b) ≤ length (numbered script r.journal a b) + weigh script (f.few k a b lk la lb).0)
          × AllNamed script rules u1 (two_sweeps script rules u1) × AllNamed script rules u3 (two_sweeps script rules u3)
      goes-on u1 u2 u3 u4 u5 e1 e2 e3 e4 e5 =
          let c = subst (λ u. Called u script.tasks 0) (sym e1) (all-calls script.tasks (omega arith)) in
          let paid1 = subst (IsPaid script rules) (sym e1) (after-paid script rules (calls_to script rules begin fence k script.tasks) r paid) in
          let g1 : AtFences u1 = record { f_sound = c.u_sound; f_paid = paid1; f_owes = c.u_owes; since = (c.steps.later, c.steps.journal); f_place = λ a la. c.full a la la } in
          let z2 = subst (λ u. IsSettled script rules u × AtFences u × AddsEvents u1.journal u.journal × (length (two_sweeps script rules u1) + 2 * all_data script.tasks u1 ≤ 2 * script.tasks + 2 * all_data script.tasks u) × AllNamed script rules u1 (two_sweeps script rules u1)) (sym e2) (swept-fences u1 g1 (calm-steps r u1 c.steps at.settled.calm)) in
          let new = λ (a : ℕ) (la : a < script.tasks). not-yet u1 u2 a la c z2.2 in
          let n = subst (λ u. Enters u2 z2.0 z2.1 new u script.tasks) (sym e3) (all-enter u2 z2.0 z2.1 new script.tasks (omega arith)) in
          let paid3 = subst (IsPaid script rules) (sym e3) (after-paid script rules (steps_to script rules script.tasks) u2 z2.1.f_paid) in
          let g3 : AtFences u3 = record { f_sound = n.e_sound; f_paid = paid3; f_owes = n.e_owes; since = (n.e_steps.later ++ z2.1.since.0, regroup r.journal u2.journal u3.journal n.e_steps.later z2.1.since.0 n.e_steps.journal z2.1.since.1); f_place = n.e_place } in
          let z4 = subst (λ u. IsSettled script rules u × AtFences u × AddsEvents u3.journal u.journal × (length (two_sweeps script rules u3) + 2 * all_data script.tasks u3 ≤ 2 * script.tasks + 2 * all_data script.tasks u) × AllNamed script rules u3 (two_sweeps script rules u3)) (sym e4) (swept-fences u3 g3 (calm-steps u2 u3 n.e_steps z2.0.calm)) in
          let entered = λ (a : ℕ) (la : a < script.tasks). kept-done u3.journal u4.journal (Entered a (fence k a)) z4.2 (n.inside a la la) in
          let p = subst (λ u. Passes u4 z4.0 z4.1 entered u script.tasks) (sym e5) (all-pass u4 z4.0 z4.1 entered script.tasks (omega arith)) in (
            record {
              settled = record {
                copied = λ a la. subst (λ ms. AllByRecursion (λ m. happened (Copied m) u5.journal ≡ true) ms) (sym (p.same_ready a)) (all-weaker (λ m. happened (Copied m) u4.journal ≡ true) (λ m. happened (Copied m) u5.journal ≡ true) (λ m h. steps-done u4 u5 (Copied m) p.p_steps h) (ready script u4.journal a) (z4.0.copied a la));
                landed = λ m h. steps-done u4 u5 (Landed m) p.p_steps (z4.0.landed m (steps-copied u4 u5 m p.p_steps h));
                calm = calm-steps u4 u5 p.p_steps z4.0.calm;
              };
              place = λ a la. p.gone a la la ∙ sym (f.order k a lk la).2;
              passed = λ a i d.
                  let has = has-of script rules a i (there script rules (Entered a i) u5.journal p.p_sound.atomic d) in
                  let low : i ≤ next u4.journal a = behind script rules (Entered a i) u4.journal z4.1.f_sound.atomic (p.back a i d) in
                  let here = z4.1.f_place a has.0 in
                  let gone = p.gone a has.0 has.0 in
                  omega arith;
            },
            p.p_sound,
            (let d1 = steps-data r u1 c.steps in let d3 = steps-data u2 u3 n.e_steps in let d5 = steps-data u4 u5 p.p_steps in let l2 = z2.3 in let l4 = z4.3 in
                sums (length (two_sweeps script rules u1)) (length (two_sweeps script rules u3)) (all_data script.tasks r) (all_data script.tasks u1) (all_data script.tasks u2) (all_data script.tasks u3) (all_data script.tasks u4) (all_data script.tasks u5) script.tasks d1 d3 d5 l2 l4),
            λ a b la lb. subst (λ xs. length xs ≤ length (numbered script r.journal a b) + weigh script (f.few k a b lk la lb).0) (sym (steps-out u4 u5 a b p.p_steps)) (room-of u4.journal z4.1.since.0 z4.1.since.1 z4.1.f_sound.atomic z4.1.f_place a b la lb),
            z2.4,
            z4.4,
          )
        where
          sums : (x y d0 d1 d2 d3 d4 d5 t : ℕ) → d1 ≡ d0 → d3 ≡ d2 → d5 ≡ d4 → x + 2 * d1 ≤ 2 * t + 2 * d2 → y + 2 * d3 ≤ 2 * t + 2 * d4 → x + y + 2 * d0 ≤ 4 * t + 2 * d5
          sums x y d0 d1 d2 d3 d4 d5 t a b c l m = omega arith

          not-yet : (u1 u2 : Run) (a : ℕ) → a < script.tasks → Called u1 script.tasks 0 → AddsEvents u1.journal u2.journal → happened (Entered a (fence k a)) u2.journal ≡ false
          not-yet u1 u2 a la c x =
              false_from_ne_true _ (λ d.
              let old = at.passed a (fence k a) (c.same_entered a (fence k a) (sym (same-entered u1.journal u2.journal a (fence k a) x) ∙ d)) in
              let place = at.place a la in
              let low = (f.order k a lk la).0 in
              absurd (omega arith))

      steps_of-length : (a n : ℕ) → length (steps_of script rules a n) ≡ n
      unfolding steps_of
      steps_of-length a zero = refl
      steps_of-length a (suc n) = length_push (steps_of script rules a n) (Step a) ∙ (let h = steps_of-length a n in let q : length (steps_of script rules a n) + 1 ≡ suc n = omega arith in q)

      steps_to-length : (n : ℕ) → length (steps_to script rules n) ≡ n
      unfolding steps_to
      steps_to-length zero = refl
      steps_to-length (suc n) = length_push (steps_to script rules n) (Step n) ∙ (let h = steps_to-length n in let q : length (steps_to script rules n) + 1 ≡ suc n = omega arith in q)

      calls-length : (n : ℕ) → length (calls_to script rules begin fence k n) ≡ sum_to n (λ a. fence k a - begin k a)
      unfolding calls_to sum_to
      calls-length zero = refl
      calls-length (suc a) = length-append (calls_to script rules begin fence k a) (steps_of script rules a (fence k a - begin k a)) ∙ (let h = calls-length a in let g = steps_of-length a (fence k a - begin k a) in λ j. h j + g j)

      steps_of-named : (u : Run) (a n : ℕ) → a < script.tasks → AllNamed script rules u (steps_of script rules a n)
      unfolding steps_of
      steps_of-named u a zero l = tt
      steps_of-named u a (suc n) l = named-append script rules (steps_of script rules a n) (Step a ∷ []) u (steps_of-named u a n l) (l, tt)

      steps_to-named : (u : Run) (n : ℕ) → n ≤ script.tasks → AllNamed script rules u (steps_to script rules n)
      unfolding steps_to
      steps_to-named u zero l = tt
      steps_to-named u (suc n) l = let q : n < script.tasks = omega arith in named-append script rules (steps_to script rules n) (Step n ∷ []) u (steps_to-named u n (omega arith)) (q, tt)

      calls-named : (n : ℕ) → n ≤ script.tasks → AllNamed script rules r (calls_to script rules begin fence k n)
      unfolding calls_to
      calls-named zero l = tt
      calls-named (suc a) l = named-append script rules (calls_to script rules begin fence k a) (steps_of script rules a (fence k a - begin k a)) r (calls-named a (omega arith)) (steps_of-named (after script rules packet_size refusal r (calls_to script rules begin fence k a)) a (fence k a - begin k a) (omega arith))

      -- a round, with how many lines it has and how far the links grow
      pub record IsRound (s : Run) : Type 0 where
        pub begins_next : IsAtRound script rules begin (suc k) s
        pub r_sound : SoundRun script rules s
        pub lines : length (round_acts script rules begin fence k r) + 2 * all_data script.tasks r ≤ sum_to script.tasks (λ a. fence k a - begin k a) + 6 * script.tasks + 2 * all_data script.tasks s
        pub named : AllNamed script rules r (round_acts script rules begin fence k r)
        pub grown : (a b : ℕ) → (la : a < script.tasks) → (lb : b < script.tasks) → length (numbered script s.journal a b) ≤ length (numbered script r.journal a b) + weigh script (f.few k a b lk la lb).0

      pub round-done : IsRound (after script rules packet_size refusal r (round_acts script rules begin fence k r))
      round-done =
          let y1 = calls_to script rules begin fence k script.tasks in
          let y2 = and_after script rules r y1 (two_sweeps script rules) in
          let y3 = and_after script rules r y2 (λ s. steps_to script rules script.tasks) in
          let y4 = and_after script rules r y3 (two_sweeps script rules) in
          let u1 = after script rules packet_size refusal r y1 in
          let u3 = after script rules packet_size refusal r y3 in
          let u5 = after script rules packet_size refusal r (round_acts script rules begin fence k r) in
          let z = goes-on u1 (after script rules packet_size refusal r y2) u3 (after script rules packet_size refusal r y4) u5
          refl (after-and r y1 (two_sweeps script rules)) (after-and r y2 (λ s. steps_to script rules script.tasks)) (after-and r y3 (two_sweeps script rules)) (after-and r y4 (λ s. steps_to script rules script.tasks)) in
          let steps = steps_to script rules script.tasks in
          let l2 = length-append y1 (two_sweeps script rules u1) in
          let l3 = length-append y2 steps in
          let l4 = length-append y3 (two_sweeps script rules u3) in
          let l5 = length-append y4 steps in
          let l1 = calls-length script.tasks in
          let ls = steps_to-length script.tasks in
          let few = z.2 in record {
            begins_next = z.0;
            r_sound = z.1;
            lines = sums (length y1) (length y2) (length y3) (length y4) (length (round_acts script rules begin fence k r)) (length (two_sweeps script rules u1)) (length (two_sweeps script rules u3)) (length steps) (sum_to script.tasks (λ a. fence k a - begin k a)) script.tasks (all_data script.tasks r) (all_data script.tasks u5) l1 l2 l3 l4 l5 ls few;
            grown = z.3;
            named =
                named-append script rules y4 steps r
                (named-append script rules y3 (two_sweeps script rules u3) r
                (named-append script rules y2 steps r
                (named-append script rules y1 (two_sweeps script rules u1) r (calls-named script.tasks (omega arith)) z.4)
                (steps_to-named (after script rules packet_size refusal r y2) script.tasks (omega arith)))
                z.5)
                (steps_to-named (after script rules packet_size refusal r y4) script.tasks (omega arith));
          }
        where
          sums : (y1 y2 y3 y4 y5 x y s c t d e : ℕ) → y1 ≡ c → y2 ≡ y1 + x → y3 ≡ y2 + s → y4 ≡ y3 + y → y5 ≡ y4 + s → s ≡ t → x + y + 2 * d ≤ 4 * t + 2 * e → y5 + 2 * d ≤ c + 6 * t + 2 * e
          sums y1 y2 y3 y4 y5 x y s c t d e p1 p2 p3 p4 p5 ps l = omega arith

-- the law, of every record
pub rounds-go_on : HoldsOfRecords RoundsGoOn
rounds-go_on script rules r is = λ now rounds begin fence f k lk at. (round-done script rules rounds begin fence f k lk r (record-sound script rules r is) (record-paid script rules r is now) (record-owes script rules r is) at).begins_next
