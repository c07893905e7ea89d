-- From a quiet record nothing happens while no task takes a step, though acknowledgements may be owed and told again.
use Rattle.std.proofs.Common.{◌≡◌, ℕ, ◌+◌, ◌<◌, ◌==◌, Bool, true, false, cond, ◌&&◌, ◌||◌, not, List, [], ◌∷◌, ◌++◌, length, Some, None, refl, sym, ap, ◌∙◌, subst, arith}
use Rattle.std.specs.Prelude.{slice_get, nat_lt, is_some}
use Rattle.std.specs.List.{AllByRecursion, list_all}
use Rattle.std.proofs.lemmas.Bool.{false≢true, and_parts, and_from, cond_both, cond-true, eq-eqb, ltb-true, lt-ltb, true_from_ne_false, and_left, and_right, not_from_true, not_from_false}
use Rattle.std.proofs.lemmas.List.{append-nil}
use Rattle.std.proofs.lemmas.List.Folds.{list_any-append}
use Rattle.lapi_base.specs.Packet.Layout.{window_of, holds_back}
use Rattle.lapi_base.specs.declared.script.Script.{Script}
use Rattle.lapi_base.specs.declared.statement.Statement.{Statement}
use Rattle.lapi_base.specs.declared.statement.Statement.TheVariants.{Put, Get, Putv, Getv, Rmw, Am}
use Rattle.lapi_base.specs.declared.rule.Rules.{Rules}
use Rattle.lapi_base.specs.declared.message.Leg.{Leg}
use Rattle.lapi_base.specs.declared.message.Leg.TheVariants.{Go, Back, Note, Echo, Join}
use Rattle.lapi_base.specs.declared.message.MsgName.{MsgName}
use Rattle.lapi_base.specs.declared.event.Event.{Event}
use Rattle.lapi_base.specs.declared.event.Event.TheVariants.{Copy}
use Rattle.lapi_base.specs.declared.schedule.Act.{Act}
use Rattle.lapi_base.specs.declared.schedule.Act.TheVariants.{Step, Poll, Tick, Deliver, Cut, Inject}
use Rattle.lapi_base.specs.declared.reply.Reply.{Reply}
use Rattle.lapi_base.specs.declared.reply.Reply.TheVariants.{Did, Idle}
use Rattle.lapi_base.specs.declared.reply.Bad.{Bad}
use Rattle.lapi_base.specs.declared.packet.Packet.{Packet}
use Rattle.lapi_base.specs.declared.packet.Packet.TheVariants.{Data, Ack}
use Rattle.lapi_base.specs.Record.Below.{least_missing}
use Rattle.lapi_base.specs.Record.Names.{EventKey, Issued, Entered, Copied, Landed, happened, message}
use Rattle.lapi_base.specs.Record.Operations.{statement, is_data, is_am, has_back, has_leg, cmpl_counter, target, from_by, to_by, sender, receiver}
use Rattle.lapi_base.specs.Record.Handlers.{has_completion, answers}
use Rattle.lapi_base.specs.Record.Wires.{Run, numbered, is_number, has_number, has_ack, is_sent, is_acked, base, packets, to_send, ack, sends, to_resend, IsEntry}
use Rattle.lapi_base.specs.Record.Acts.{ready, copy_each, followed, poll, tick, first_delivery, at_once, reply_with, with_handed, hand_over, deliver, deliver_entry, begin_first, begin_at, begin, end_at, end, cut_entry, perform, after}
use Rattle.lapi_base.specs.Record.Valid.{ValidAct, IsNoStep}
use Rattle.lapi_base.specs.Record.Atomic.{Atomic, needs, copy_needs, only_if, to_land, to_follow}
use Rattle.lapi_base.specs.Record.Final.{Quiet}
use Rattle.lapi_base.proofs.BelowLaws.{below-lacks, below-none, every_below-from, least_missing-whole}
use Rattle.lapi_base.proofs.ListLaws.{any-get}
use Rattle.lapi_laws.proofs.Out.{numbered-copied}
use Rattle.lapi_laws.proofs.Backward.{closed, there}
use Rattle.lapi_laws.proofs.Lines.{SoundRun, answer-completion}
use Rattle.lapi_laws.proofs.Sound.{Lists, acked-delivered}
use Rattle.lapi_laws.proofs.Runs.{perform-sound}
use Rattle.lapi_laws.proofs.Quiet.{Calm, calm, all-acked, target-room}
use Rattle.lapi_laws.proofs.SentWindow.{or-false, sends-number, ack-entry, handed-acks}

pub back-data : (s : Statement) → has_back s ≡ true → is_data s ≡ true
back-data (Get target from to len tgt org) h = refl
back-data (Getv target from to tgt org) h = refl
back-data (Rmw target op at in1 in2 prev org) h = refl
back-data _ h = absurd (false≢true h)

am-data : (s : Statement) → is_am s ≡ true → is_data s ≡ true
am-data (Am target handler header from len tgt org cmpl) h = refl
am-data _ h = absurd (false≢true h)

cmpl-data : (s : Statement) → is_some (cmpl_counter s) ≡ true → is_data s ≡ true
cmpl-data (Put target to from len tgt org cmpl) h = refl
cmpl-data (Putv target to from tgt org cmpl) h = refl
cmpl-data (Am target handler header from len tgt org cmpl) h = refl
cmpl-data _ h = absurd (false≢true h)

copy_each-same : (ms : List MsgName) (J : List Event) → list_all (λ m. happened (Copied m) J) ms ≡ true → copy_each J ms ≡ J
unfolding copy_each
copy_each-same [] J h = refl
copy_each-same (m ∷ ms) J h =
    let both = and_parts _ _ h in
    ap (λ K. copy_each K ms) (cond-true (happened (Copied m) J) J (Copy m ∷ J) both.0) ∙ copy_each-same ms J both.1

module _ (script : Script) (rules : Rules) where
  -- the ends of a message that was copied are there
  issued-of : (J : List Event) (a i : ℕ) → AllByRecursion (λ d. happened d J ≡ true) (to_follow script rules a i) → happened (Issued a i) J ≡ true
  issued-of J a i h = (drop-front (has_completion script rules a i) h).1.0
    where
      drop-front : (b : Bool) → AllByRecursion (λ d. happened d J ≡ true) (only_if b (Rattle.lapi_base.specs.Record.Names.Begun (message a i Go) ∷ Rattle.lapi_base.specs.Record.Names.Ended (message a i Go) ∷ []) ++ Landed (message a i Go) ∷ to_land script rules a i) → AllByRecursion (λ d. happened d J ≡ true) (Landed (message a i Go) ∷ to_land script rules a i)
      drop-front true x = x.1.1
      drop-front false x = x

  completion-data : (a i : ℕ) → has_completion script rules a i ≡ true → is_data (statement script a i) ≡ true
  unfolding has_completion
  completion-data a i h = am-data (statement script a i) (and_parts _ _ h).0

  ends-by : (J : List Event) (a i : ℕ) (leg : Leg) → Atomic script rules J → a < script.tasks → has_leg script (answers script rules a i) a leg (statement script a i) ≡ true → AllByRecursion (λ d. happened d J ≡ true) (copy_needs script rules a i leg) → (from_by a (target script a i) leg < script.tasks) × (to_by a (target script a i) leg < script.tasks)
  ends-by J a i Go h room leg n = (room, target-room script rules J a i h n.0 leg)
  ends-by J a i Back h room leg n = (target-room script rules J a i h (issued-of J a i n) (back-data (statement script a i) leg), room)
  ends-by J a i Note h room leg n = (target-room script rules J a i h (issued-of J a i n) (cmpl-data (statement script a i) (and_parts _ _ leg).0), room)
  ends-by J a i Echo h room leg n = (target-room script rules J a i h (issued-of J a i n) (completion-data a i (answer-completion script rules a i leg)), room)
  ends-by J a i (Join d) h room leg n = (room, ltb-true _ _ (and_parts _ _ (and_parts _ _ leg).1).0)

  pub copied-ends : (J : List Event) (m : MsgName) → Atomic script rules J → happened (Copied m) J ≡ true → (sender script m < script.tasks) × (receiver script m < script.tasks)
  unfolding needs
  copied-ends J m h s =
      let is = and_parts _ _ (there script rules (Copied m) J h s) in
      ends-by J m.origin m.statement m.leg h (ltb-true _ _ (and_parts _ _ is.0).0) is.1 (closed script rules (Copied m) J h s)

  -- a number of a link is between two tasks
  pub linked : (J : List Event) → Atomic script rules J → (a b n : ℕ) → n < length (numbered script J a b) → (a < script.tasks) × (b < script.tasks)
  linked J h a b n l =
      let x = first (numbered script J a b) n l in
      let c = numbered-copied script J a b 0 x.0 x.1 in
      let e = copied-ends J x.0.0 h c.0 in
      (subst (λ y. y < script.tasks) c.1 e.0, subst (λ y. y < script.tasks) c.2 e.1)
    where
      first : (xs : List (MsgName × ℕ)) (k : ℕ) → k < length xs → (x : MsgName × ℕ) × (slice_get xs 0 ≡ Some x)
      first [] k r = absurd (omega arith)
      first (x ∷ xs) k r = (x, refl)

  -- in a quiet record every number was sent
  all-sent : (r : Run) → SoundRun script rules r → Calm script rules r → (a b n : ℕ) → n < length (numbered script r.journal a b) → is_sent r a b n ≡ true
  unfolding to_send base
  all-sent r s q a b n l =
      let ends = linked r.journal s.atomic a b n l in
      let size = length (numbered script r.journal a b) in
      let acked = has_ack (r.handed b a) in
      let top : least_missing size acked ≡ size = least_missing-whole size acked (every_below-from size acked (all-acked script rules r q a b ends.0 ends.1)) in
      true_from_ne_false _ (λ unsent.
      let low : n < least_missing size acked + window_of script = omega (arith, top) in
      below-lacks size (λ k. not (is_sent r a b k) && nat_lt k (least_missing size acked + window_of script)) n (q.resting.no_entry a b ends.0 ends.1) l (and_from _ _ (not_from_false _ unsent) (lt-ltb n (least_missing size acked + window_of script) low)))

  -- a record with the same journal, the same numbers on its wires, and no acknowledgement less
  still : (r : Run) (replies : List Reply) (wire handed : Lists) (owed : (from to : ℕ) → Bool) → SoundRun script rules r → Calm script rules r → ((a b n : ℕ) → has_number (wire a b) n ≡ has_number (r.wire a b) n) → ((a b n : ℕ) → has_ack (r.handed a b) n ≡ true → has_ack (handed a b) n ≡ true) → Calm script rules (record { replies = replies; wire = wire; handed = handed; owed = owed; journal = r.journal })
  unfolding to_send
  still r replies wire handed owed s q same more = record {
    acked = λ a b n h. more b a n (q.acked a b n (sym (same a b n) ∙ h));
    resting = record {
      none_waits = q.resting.none_waits;
      none_runs = q.resting.none_runs;
      no_copy = q.resting.no_copy;
      no_entry = λ a b la lb. below-none _ _ (λ k l. and_left _ _ (not_from_true _ (same a b k ∙ all-sent r s q a b k l)));
    };
  }

  abbrev Kept : Run → Run → Type 0
  Kept r t = (t.journal ≡ r.journal) × Calm script rules t

  replied : (r : Run) (reply : Reply) → SoundRun script rules r → Calm script rules r → Kept r (reply_with script rules r reply)
  replied r reply s q = (refl, still r (r.replies ++ reply ∷ []) r.wire r.handed r.owed s q (λ a b n. refl) (λ a b n h. h))

  same-wires : (wire : Lists) (J : List Event) (t : ℕ) (numbers : (a b : ℕ) → List ℕ) → ((a b : ℕ) → numbers a b ≡ []) → (a b : ℕ) → cond (a == t) (wire a b ++ packets script rules J a b (numbers a b)) (wire a b) ≡ wire a b
  unfolding packets
  same-wires wire J t numbers none a b =
      cond_both (a == t) (wire a b ++ packets script rules J a b (numbers a b)) (wire a b) (λ xs. xs ≡ wire a b)
      (λ _. ap (λ ns. wire a b ++ packets script rules J a b ns) (none a b) ∙ append-nil (wire a b))
      (λ _. refl)

  tick-still : (r : Run) (t : ℕ) → SoundRun script rules r → Calm script rules r → Kept r (tick script rules r t)
  unfolding tick to_resend
  tick-still r t s q =
      let same = same-wires r.wire r.journal t (to_resend script rules r) (λ a b. below-none (length (numbered script r.journal a b)) (λ n. is_sent r a b n && not (is_acked r a b n)) (λ k l. and_right _ _ (not_from_true _ (q.acked a b k (all-sent r s q a b k l))))) in
      (refl, still r (r.replies ++ Did ∷ []) (λ a b. cond (a == t) (r.wire a b ++ packets script rules r.journal a b (to_resend script rules r a b)) (r.wire a b)) r.handed r.owed s q (λ a b n. ap (λ xs. has_number xs n) (same a b)) (λ a b n h. h))

  poll-still : (r : Run) (t : ℕ) → t < script.tasks → SoundRun script rules r → Calm script rules r → Kept r (poll script rules r t)
  unfolding poll to_send packets has_number
  poll-still r t room s q =
      let e = copy_each-same (ready script r.journal t) r.journal (q.resting.no_copy t room) in
      let owed = λ (a b : ℕ). not (b == t) && r.owed a b in
      let none : (a b : ℕ) → to_send script rules r r.journal a b ≡ [] = λ x y. below-none _ _ (λ k l. and_left _ _ (not_from_true _ (all-sent r s q x y k l))) in
      let same : (a b n : ℕ) → has_number (cond (a == t) (r.wire a b ++ sends script rules r r.journal a b) (r.wire a b)) n ≡ has_number (r.wire a b) n =
      λ a b n.
      cond_both (a == t) (r.wire a b ++ sends script rules r r.journal a b) (r.wire a b) (λ ps. has_number ps n ≡ has_number (r.wire a b) n)
      (λ _. list_any-append (is_number n) (r.wire a b) (sends script rules r r.journal a b) ∙ ap (λ x. has_number (r.wire a b) n || x) (sends-number script rules r r.journal a b n ∙ ap (λ ns. has_number (packets script rules r.journal a b ns) n) (none a b)) ∙ or-false _)
      (λ _. refl)
      in
      subst (λ K. Kept r (record { replies = r.replies ++ Did ∷ []; wire = λ a b. cond (a == t) (r.wire a b ++ sends script rules r K a b) (r.wire a b); handed = r.handed; owed = owed; journal = K })) (sym e)
      (refl, still r (r.replies ++ Did ∷ []) (λ a b. cond (a == t) (r.wire a b ++ sends script rules r r.journal a b) (r.wire a b)) r.handed owed s q same (λ a b n h. h))

  -- an entry that is handed over again
  more-acks : (r : Run) (a b : ℕ) (p : Packet) → (x y n : ℕ) → has_ack (r.handed x y) n ≡ true → has_ack ((with_handed script rules r a b p).handed x y) n ≡ true
  more-acks r a b p = handed-acks script rules r a b p

  hand-still : (r : Run) (a b k : ℕ) (p : Packet) → IsEntry r a b k p → SoundRun script rules r → Calm script rules r → Kept r (reply_with script rules (hand_over script rules r a b p) Did)
  unfolding hand_over followed has_number
  hand-still r a b k (Ack layout from to least bits) e s q = (refl, still r (r.replies ++ Did ∷ []) r.wire (with_handed script rules r a b (Ack layout from to least bits)).handed r.owed s q (λ x y n. refl) (more-acks r a b (Ack layout from to least bits)))
  hand-still r a b k (Data p) e s q =
      let sent : is_sent r a b p.seq ≡ true = any-get (is_number p.seq) (r.wire a b) k (Data p) e (eq-eqb p.seq p.seq refl) in
      let known = acked-delivered script rules r.journal r.wire r.handed s a b p.seq (q.acked a b p.seq sent) in
      let t = with_handed script rules r a b (Data p) in
      let wire = λ (x y : ℕ). cond (x == b && y == a) (r.wire x y ++ at_once script rules (ack script rules t a b)) (r.wire x y) in
      let owed = λ (x y : ℕ). (holds_back script && (x == a && y == b)) || r.owed x y in
      subst (λ c. Kept r (record { replies = r.replies ++ Did ∷ []; wire = wire; handed = t.handed; owed = owed; journal = followed r.journal (cond c [] (first_delivery script rules r a b p.name p.seq)) })) (sym known)
      (refl, still r (r.replies ++ Did ∷ []) wire t.handed owed s q (ack-entry script rules r.wire t a b) (more-acks r a b (Data p)))

  deliver-still : (r : Run) (a b k : ℕ) → SoundRun script rules r → Calm script rules r → Kept r (deliver script rules r a b k)
  unfolding deliver
  deliver-still r a b k s q =
      elim (slice_get (r.wire a b) k) as (λ o. slice_get (r.wire a b) k ≡ o → Kept r (deliver_entry script rules r a b o)) [
        | None ↦ λ e. replied r _ s q
        | Some p ↦ λ e. hand-still r a b k p e s q
      ] refl

  begin-still : (r : Run) (t w : ℕ) → t < script.tasks → w < script.workers → SoundRun script rules r → Calm script rules r → Kept r (begin script rules r t w)
  unfolding begin
  begin-still r t w lt lw s q =
      subst (λ o. Kept r (begin_at script rules r t w o)) (sym (q.resting.none_runs t w lt lw))
      (subst (λ ms. Kept r (begin_first script rules r t w ms)) (sym (q.resting.none_waits t lt)) (replied r Idle s q))

  end-still : (r : Run) (t w : ℕ) → t < script.tasks → w < script.workers → SoundRun script rules r → Calm script rules r → Kept r (end script rules r t w)
  unfolding end
  end-still r t w lt lw s q = subst (λ o. Kept r (end_at script rules r t w o)) (sym (q.resting.none_runs t w lt lw)) (replied r Idle s q)

  module _ (spells : List ℕ → Bool) (size : Packet → ℕ) (refusal : List ℕ → Bad) where
    perform-still : (r : Run) (act : Act) → ValidAct script spells act → IsNoStep act → SoundRun script rules r → Calm script rules r → Kept r (perform script rules size refusal r act)
    unfolding perform
    perform-still r (Step t) v n s q = absurd n
    perform-still r (Poll t) v n s q = poll-still r t v s q
    perform-still r (Tick t) v n s q = tick-still r t s q
    perform-still r (Deliver a b k) v n s q = deliver-still r a b k s q
    perform-still r (Cut a b k i) v n s q = elim (slice_get (r.wire a b) k) as (λ o. Kept r (cut_entry script rules size r i o)) [ Some p ↦ replied r _ s q | None ↦ replied r _ s q ]
    perform-still r (Inject a b bytes) v n s q = replied r _ s q
    perform-still r (Act.Begin t w) v n s q = begin-still r t w v.0 v.1 s q
    perform-still r (Act.End t w) v n s q = end-still r t w v.0 v.1 s q

    after-calm : (acts : List Act) (r : Run) → AllByRecursion (ValidAct script spells) acts → AllByRecursion IsNoStep acts → SoundRun script rules r → Calm script rules r → (after script rules size refusal r acts).journal ≡ r.journal
    unfolding after
    after-calm [] r v n s q = refl
    after-calm (act ∷ acts) r v n s q =
        let k = perform-still r act v.0 n.0 s q in
        after-calm acts (perform script rules size refusal r act) v.1 n.1 (perform-sound script rules spells size refusal r act v.0 s) k.1 ∙ k.0

    pub after-still : (acts : List Act) (r : Run) → AllByRecursion (ValidAct script spells) acts → AllByRecursion IsNoStep acts → SoundRun script rules r → Quiet script rules r → (after script rules size refusal r acts).journal ≡ r.journal
    after-still acts r v n s q = after-calm acts r v n s (calm script rules r q)
