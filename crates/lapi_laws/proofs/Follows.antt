-- What is owed after a landing and after the end of a job stands in the journal.
use Rattle.std.proofs.Common.{◌≡◌, ℕ, ◌==◌, Bool, true, false, cond, ◌&&◌, ◌||◌, not, List, [], ◌∷◌, ◌++◌, length, Option, Some, None, subst, ⊎_elim}
use Rattle.std.specs.Prelude.{slice_get, is_some, nat_lt, nat_le}
use Rattle.std.specs.List.{AllByRecursion}
use Rattle.std.proofs.lemmas.Bool.{both_ways, cond_both}
use Rattle.lapi_base.specs.declared.script.Script.{Script}
use Rattle.lapi_base.specs.declared.statement.Statement.{Statement}
use Rattle.lapi_base.specs.declared.statement.Statement.TheVariants.{Wait, Fence, Gfence}
use Rattle.lapi_base.specs.declared.rule.Rules.{Rules}
use Rattle.lapi_base.specs.declared.message.Leg.TheVariants.{Go}
use Rattle.lapi_base.specs.declared.message.MsgName.{MsgName}
use Rattle.lapi_base.specs.declared.refusal.Refusal.{Refusal}
use Rattle.lapi_base.specs.declared.event.Event.{Event}
use Rattle.lapi_base.specs.declared.event.Event.TheVariants.{Issue, Refuse, Enter, Pass, Copy, Head, Land, Begin, End}
use Rattle.lapi_base.specs.declared.schedule.Act.{Act}
use Rattle.lapi_base.specs.declared.schedule.Act.TheVariants.{Step, Poll, Tick, Deliver, Cut, Inject}
use Rattle.lapi_base.specs.declared.reply.Reply.TheVariants.{Idle}
use Rattle.lapi_base.specs.declared.reply.Bad.{Bad}
use Rattle.lapi_base.specs.declared.packet.Packet.{Packet}
use Rattle.lapi_base.specs.declared.packet.Packet.TheVariants.{Data, Ack}
use Rattle.lapi_base.specs.Record.Names.{leg_eq, EventKey, Copied, Landed, Ended, key_of, happened, message}
use Rattle.lapi_base.specs.Record.Operations.{statements, statement, has_back, is_am, cmpl_counter}
use Rattle.lapi_base.specs.Record.Handlers.{has_completion, answers}
use Rattle.lapi_base.specs.Record.Counters.{count}
use Rattle.lapi_base.specs.Record.Refusals.{next, joined, refusal_of}
use Rattle.lapi_base.specs.Record.Jobs.{queue, runs}
use Rattle.lapi_base.specs.Record.Wires.{Run, start, numbered, has_number, all_numbers, some_number, data_clear}
use Rattle.lapi_base.specs.Record.Acts.{ready, copy_each, followed, poll, tick, note_of, after_land, after_end, first_delivery, hand_over, deliver, deliver_entry, event_if, proposed, unless_refused, add_event, reply_with, step, begin_first, begin_at, begin, end_at, end, cut_entry, perform, after, run_of}
use Rattle.lapi_base.proofs.ListLaws.{all-weaker}
use Rattle.lapi_base.proofs.NameLaws.{happened-cases, happened-head, happened-later, happened-nil}
use Rattle.lapi_base.proofs.EveryRun.{after-any}
use Rattle.lapi_laws.proofs.Sound.{before}

abbrev pub Stand : List Event → List Event → Type 0
Stand J es = AllByRecursion (λ e. happened (key_of e) J ≡ true) es

abbrev pub IsCopy : Event → Type 0
IsCopy (Copy m) = Unit {0}
IsCopy _ = ⊥

pub happened-followed : (d : EventKey) (es J : List Event) → happened d J ≡ true → happened d (followed J es) ≡ true
unfolding followed
happened-followed d [] J h = h
happened-followed d (e ∷ es) J h = happened-followed d es (e ∷ J) (happened-later d e J h)

stand-later : (e : Event) (J es : List Event) → Stand J es → Stand (e ∷ J) es
stand-later e J es h = all-weaker (λ x. happened (key_of x) J ≡ true) (λ x. happened (key_of x) (e ∷ J) ≡ true) (λ x s. happened-later (key_of x) e J s) es h

stand-followed : (fs es J : List Event) → Stand J es → Stand (followed J fs) es
stand-followed fs es J h = all-weaker (λ x. happened (key_of x) J ≡ true) (λ x. happened (key_of x) (followed J fs) ≡ true) (λ x s. happened-followed (key_of x) fs J s) es h

-- what was added stands
followed-stand : (es J : List Event) → Stand (followed J es) es
unfolding followed
followed-stand [] J = tt
followed-stand (e ∷ es) J = (happened-followed (key_of e) es (e ∷ J) (happened-head e J), followed-stand es (e ∷ J))

module _ (script : Script) (rules : Rules) where
  pub record Owes (J : List Event) : Type 0 where
    pub lands : (m : MsgName) → happened (Landed m) J ≡ true → Stand J (after_land script rules m)
    pub ends : (m : MsgName) → happened (Ended m) J ≡ true → Stand J (after_end script rules m)

  -- an event that is neither Land nor End
  abbrev IsOther : Event → Type 0
  IsOther (Land m) = ⊥
  IsOther (End m t w) = ⊥
  IsOther _ = Unit {0}

  abbrev IsLast : EventKey → Type 0
  IsLast (Landed m) = Unit {0}
  IsLast (Ended m) = Unit {0}
  IsLast _ = ⊥

  other-not : (e : Event) (d : EventKey) → IsOther e → IsLast d → d ≡ key_of e → ⊥
  other-not (Issue t i) d h g x = subst IsLast x g
  other-not (Refuse t i y) d h g x = subst IsLast x g
  other-not (Enter t i) d h g x = subst IsLast x g
  other-not (Pass t i) d h g x = subst IsLast x g
  other-not (Copy m) d h g x = subst IsLast x g
  other-not (Head m) d h g x = subst IsLast x g
  other-not (Land m) d h g x = h
  other-not (Begin m t w) d h g x = subst IsLast x g
  other-not (End m t w) d h g x = h

  owes-other : (e : Event) (J : List Event) → IsOther e → Owes J → Owes (e ∷ J)
  owes-other e J h o = record {
    lands = λ m s. stand-later e J (after_land script rules m) (o.lands m (before script rules (Landed m) e J (other-not e (Landed m) h tt) s));
    ends = λ m s. stand-later e J (after_end script rules m) (o.ends m (before script rules (Ended m) e J (other-not e (Ended m) h tt) s));
  }

  -- Copies neither land nor end anything.
  copy-before : (es J : List Event) (d : EventKey) → IsLast d → AllByRecursion IsCopy es → happened d (followed J es) ≡ true → happened d J ≡ true
  unfolding followed
  copy-before [] J d g h s = s
  copy-before (Copy m ∷ es) J d g h s = before script rules d (Copy m) J (other-not (Copy m) d tt g) (copy-before es (Copy m ∷ J) d g h.1 s)
  copy-before (_ ∷ es) J d g h s = absurd h.0

  note-copies : (m : MsgName) → AllByRecursion IsCopy (note_of script rules m)
  note-copies m = cond_both (is_some (cmpl_counter (statement script m.origin m.statement))) _ [] (AllByRecursion IsCopy) (λ _. (tt, tt)) (λ _. tt)

  end-copies : (m : MsgName) → AllByRecursion IsCopy (after_end script rules m)
  end-copies m = cond_both (answers script rules m.origin m.statement) _ (note_of script rules m) (AllByRecursion IsCopy) (λ _. (tt, tt)) (λ _. note-copies m)

  after-copies : (m : MsgName) → AllByRecursion IsCopy (after_land script rules m)
  after-copies m =
      cond_both (leg_eq m.leg Go) _ [] (AllByRecursion IsCopy)
      (λ _. cond_both (has_back (statement script m.origin m.statement)) _ (cond (has_completion script rules m.origin m.statement) [] (note_of script rules m)) (AllByRecursion IsCopy)
      (λ _. (tt, tt))
      (λ _. cond_both (has_completion script rules m.origin m.statement) [] (note_of script rules m) (AllByRecursion IsCopy) (λ _. tt) (λ _. note-copies m)))
      (λ _. tt)

  owes-land : (m : MsgName) (J : List Event) → Owes J → Owes (followed (Land m ∷ J) (after_land script rules m))
  owes-land m J o =
      let es = after_land script rules m in
      let K = Land m ∷ J in record {
        lands = λ n s.
            ⊎_elim
            (λ (x : Landed n ≡ Landed m). let same : m ≡ n = cc in subst (λ z. Stand (followed K es) (after_land script rules z)) same (followed-stand es K))
            (λ (x : happened (Landed n) J ≡ true). stand-followed es (after_land script rules n) K (stand-later (Land m) J (after_land script rules n) (o.lands n x)))
            (happened-cases (Landed n) (Land m) J (copy-before es K (Landed n) tt (after-copies m) s));
        ends = λ n s. stand-followed es (after_end script rules n) K (stand-later (Land m) J (after_end script rules n) (o.ends n (before script rules (Ended n) (Land m) J (λ y. cc) (copy-before es K (Ended n) tt (after-copies m) s))));
      }

  owes-end : (m : MsgName) (t w : ℕ) (J : List Event) → Owes J → Owes (followed (End m t w ∷ J) (after_end script rules m))
  owes-end m t w J o =
      let es = after_end script rules m in
      let K = End m t w ∷ J in record {
        lands = λ n s. stand-followed es (after_land script rules n) K (stand-later (End m t w) J (after_land script rules n) (o.lands n (before script rules (Landed n) (End m t w) J (λ y. cc) (copy-before es K (Landed n) tt (end-copies m) s))));
        ends = λ n s.
            ⊎_elim
            (λ (x : Ended n ≡ Ended m). let same : m ≡ n = cc in subst (λ z. Stand (followed K es) (after_end script rules z)) same (followed-stand es K))
            (λ (x : happened (Ended n) J ≡ true). stand-followed es (after_end script rules n) K (stand-later (End m t w) J (after_end script rules n) (o.ends n x)))
            (happened-cases (Ended n) (End m t w) J (copy-before es K (Ended n) tt (end-copies m) s));
      }

  owes-copied : (ms : List MsgName) (J : List Event) → Owes J → Owes (copy_each J ms)
  unfolding copy_each
  owes-copied [] J o = o
  owes-copied (m ∷ ms) J o = owes-copied ms (cond (happened (Copied m) J) J (Copy m ∷ J)) (cond_both (happened (Copied m) J) J (Copy m ∷ J) Owes (λ _. o) (λ _. owes-other (Copy m) J tt o))

  owes-arrival : (r : Run) (a b : ℕ) (m : MsgName) (n : ℕ) → Owes r.journal → Owes (followed r.journal (first_delivery script rules r a b m n))
  unfolding first_delivery followed
  owes-arrival r a b m n o =
      let h = is_am (statement script m.origin m.statement) && leg_eq m.leg Go && not (some_number script (numbered script r.journal a b) m (has_number (r.handed a b))) in
      let l = all_numbers script (numbered script r.journal a b) m (λ k. k == n || has_number (r.handed a b) k) in
      elim h as (λ x. Owes (followed r.journal (cond x (Head m ∷ []) [] ++ cond l (Land m ∷ after_land script rules m) []))) [
        | true ↦ cond_both l (Land m ∷ after_land script rules m) [] (λ es. Owes (followed (Head m ∷ r.journal) es)) (λ _. owes-land m (Head m ∷ r.journal) (owes-other (Head m) r.journal tt o)) (λ _. owes-other (Head m) r.journal tt o)
        | false ↦ cond_both l (Land m ∷ after_land script rules m) [] (λ es. Owes (followed r.journal es)) (λ _. owes-land m r.journal o) (λ _. o)
      ]

  owes-handed : (r : Run) (a b : ℕ) (p : Packet) → Owes r.journal → Owes (hand_over script rules r a b p).journal
  unfolding hand_over followed
  owes-handed r a b (Ack layout from to least bits) o = o
  owes-handed r a b (Data p) o = cond_both (has_number (r.handed a b) p.seq) [] (first_delivery script rules r a b p.name p.seq) (λ es. Owes (followed r.journal es)) (λ _. o) (λ _. owes-arrival r a b p.name p.seq o)

  -- a step adds an event that is neither Land nor End
  abbrev IsStep : Option Event → Type 0
  IsStep None = Unit {0}
  IsStep (Some e) = IsOther e

  if-step : (b : Bool) (e : Event) → IsOther e → IsStep (event_if script rules b e)
  if-step true e h = h
  if-step false e h = tt

  proposed-step : (r : Run) (a i : ℕ) (s : Statement) → IsStep (proposed script rules r a i s)
  proposed-step r a i (Wait counter value) = if-step (nat_le value (count script rules r.journal a counter)) (Pass a i) tt
  proposed-step r a i Fence = if-step (data_clear script r a i) (Pass a i) tt
  proposed-step r a i Gfence = cond_both (happened (Rattle.lapi_base.specs.Record.Names.Entered a i) r.journal) _ _ IsStep (λ _. if-step (joined script r.journal a i) (Pass a i) tt) (λ _. if-step (data_clear script r a i) (Enter a i) tt)
  proposed-step r a i (Statement.Addr at) = cond_both (happened (Rattle.lapi_base.specs.Record.Names.Entered a i) r.journal) _ _ IsStep (λ _. if-step (joined script r.journal a i) (Pass a i) tt) (λ _. tt)
  proposed-step r a i _ = tt

  unless-step : (r : Run) (a i : ℕ) (o : Option Refusal) → IsStep (unless_refused script rules r a i o)
  unless-step r a i None = proposed-step r a i (statement script a i)
  unless-step r a i (Some reason) = tt

  owes-event : (r : Run) (o : Option Event) → IsStep o → Owes r.journal → Owes (add_event script rules r o).journal
  unfolding followed
  owes-event r None h o = o
  owes-event r (Some e) h o = owes-other e r.journal h o

  module _ (size : Packet → ℕ) (refusal : List ℕ → Bad) where
    pub perform-owes : (r : Run) (act : Act) → Owes r.journal → Owes (perform script rules size refusal r act).journal
    unfolding perform step poll tick deliver begin end followed
    perform-owes r (Step a) o =
        cond_both (nat_lt (next r.journal a) (length (statements script a))) (add_event script rules r (unless_refused script rules r a (next r.journal a) (refusal_of script rules r.journal a (next r.journal a)))) (reply_with script rules r Idle) (λ x. Owes x.journal)
        (λ _. owes-event r (unless_refused script rules r a (next r.journal a) (refusal_of script rules r.journal a (next r.journal a))) (unless-step r a (next r.journal a) (refusal_of script rules r.journal a (next r.journal a))) o)
        (λ _. o)
    perform-owes r (Poll t) o = owes-copied (ready script r.journal t) r.journal o
    perform-owes r (Tick t) o = o
    perform-owes r (Deliver a b k) o = elim (slice_get (r.wire a b) k) as (λ x. Owes (deliver_entry script rules r a b x).journal) [ None ↦ o | Some p ↦ owes-handed r a b p o ]
    perform-owes r (Cut a b k n) o = elim (slice_get (r.wire a b) k) as (λ x. Owes (cut_entry script rules size r n x).journal) [ Some p ↦ o | None ↦ o ]
    perform-owes r (Inject a b bytes) o = o
    perform-owes r (Act.Begin t w) o =
        elim (runs r.journal t w) as (λ x. Owes (begin_at script rules r t w x).journal) [
          | Some m ↦ o
          | None ↦ elim (queue script rules r.journal t) as (λ ms. Owes (begin_first script rules r t w ms).journal) [ [] ↦ o | m ∷ ms ↦ owes-other (Begin m t w) r.journal tt o ]
        ]
    perform-owes r (Act.End t w) o = elim (runs r.journal t w) as (λ x. Owes (end_at script rules r t w x).journal) [ None ↦ o | Some m ↦ owes-end m t w r.journal o ]

    pub after-owes : (acts : List Act) (r : Run) → Owes r.journal → Owes (after script rules size refusal r acts).journal
    after-owes acts r o = after-any script rules size refusal (λ q. Owes q.journal) perform-owes acts r o

    pub run-owes : (acts : List Act) → Owes (run_of script rules size refusal acts).journal
    unfolding run_of
    run-owes acts = after-owes acts start (record { lands = λ m h. absurd (both_ways _ (happened-nil (Landed m)) h); ends = λ m h. absurd (both_ways _ (happened-nil (Ended m)) h) })
