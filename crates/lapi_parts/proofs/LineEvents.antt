-- Which lines add which events, and so what stays through the others.
use Rattle.std.proofs.Common.{◌≡◌, ℕ, ◌==◌, Bool, true, false, cond, ◌&&◌, ◌||◌, not, List, [], ◌∷◌, ◌++◌, length, Option, Some, None, refl, sym, ap, ◌∙◌, subst, append_assoc}
use Rattle.std.specs.Prelude.{slice_get, is_some, nat_lt}
use Rattle.std.specs.List.{AllByRecursion, filter}
use Rattle.std.proofs.lemmas.Bool.{cond_both, cond-false, false_from_ne_true, both_ways, not-true}
use Rattle.lapi_base.specs.declared.script.Script.{Script}
use Rattle.lapi_base.specs.declared.rule.Rules.{Rules}
use Rattle.lapi_base.specs.declared.statement.Statement.{Statement}
use Rattle.lapi_base.specs.declared.statement.Statement.TheVariants.{Wait, Fence, Gfence}
use Rattle.lapi_base.specs.declared.message.Leg.{Leg}
use Rattle.lapi_base.specs.declared.message.Leg.TheVariants.{Go, Back, Note, Echo, Join}
use Rattle.lapi_base.specs.declared.message.MsgName.{MsgName}
use Rattle.lapi_base.specs.declared.event.Event.{Event}
use Rattle.lapi_base.specs.declared.event.Event.TheVariants.{Issue, Refuse, Enter, Pass, Copy, Head, Land, Begin, End}
use Rattle.lapi_base.specs.declared.schedule.Act.{Act}
use Rattle.lapi_base.specs.declared.schedule.Act.TheVariants.{Step, Poll, Tick, Deliver, Cut, Inject}
use Rattle.lapi_base.specs.declared.refusal.Refusal.{Refusal}
use Rattle.lapi_base.specs.declared.reply.Reply.TheVariants.{Idle}
use Rattle.lapi_base.specs.declared.packet.Packet.{Packet}
use Rattle.lapi_base.specs.declared.packet.Packet.TheVariants.{Data, Ack}
use Rattle.lapi_base.specs.Packet.PacketBytes.{packet_size}
use Rattle.lapi_base.specs.Record.Names.{name_eq, message, leg_eq, Issued, Entered, Copied, Begun, happened}
use Rattle.lapi_base.specs.Record.Operations.{numbers_below, statements, statement, is_data, is_am, has_back, has_join, cmpl_counter}
use Rattle.lapi_base.specs.Record.Handlers.{has_completion, answers}
use Rattle.lapi_base.specs.Record.Values.{values}
use Rattle.lapi_base.specs.Record.Refusals.{next, refusal_of, joined}
use Rattle.lapi_base.specs.Record.Jobs.{queue, runs}
use Rattle.lapi_base.specs.Record.Wires.{Run, some_number, all_numbers, numbered, is_delivered, data_clear}
use Rattle.lapi_base.specs.Record.Acts.{joins, to_copy_of, ready, copy_each, followed, note_of, after_land, after_end, first_delivery, hand_over, deliver_entry, deliver, reply_with, event_if, proposed, unless_refused, add_event, step, poll, tick, begin_first, begin_at, begin, end_at, end, cut_entry, perform}
use Rattle.lapi_base.specs.Record.WorldView.{performed, HoldsOfRecords}
use Rattle.lapi_base.specs.Laws.Working.{works_at, WorkersStay, HeldStay}
use Rattle.lapi_base.proofs.ListLaws.{all-any, all-append, all-flat_map, all-map}
use Rattle.lapi_base.proofs.NameLaws.{name_eq-true}
use Rattle.lapi_laws.proofs.Workers.{Waiting, queue-waiting}
use Rattle.lapi_base.specs.declared.reply.Bad.{Bad}
use Rattle.lapi_base.specs.Packet.Spelling.{refusal}

-- more events, all of a kind
abbrev pub Grows : (Event → Type 0) → List Event → List Event → Type 0
Grows P J K = (added : List Event) × (K ≡ added ++ J) × AllByRecursion P added

grows-followed : (P : Event → Type 0) (es J : List Event) → AllByRecursion P es → Grows P J (followed J es)
unfolding followed
grows-followed P [] J h = ([], refl, tt)
grows-followed P (e ∷ es) J h = let r = grows-followed P es (e ∷ J) h.1 in (r.0 ++ e ∷ [], r.1 ∙ sym (append_assoc r.0 (e ∷ []) J), all-append P r.0 (e ∷ []) r.2 (h.0, tt))

grows-copied : (P : Event → Type 0) (ms : List MsgName) (J : List Event) → AllByRecursion (λ m. P (Copy m)) ms → Grows P J (copy_each J ms)
unfolding copy_each
grows-copied P [] J h = ([], refl, tt)
grows-copied P (m ∷ ms) J h =
    cond_both (happened (Copied m) J) J (Copy m ∷ J) (λ L. Grows P L (copy_each L ms) → Grows P J (copy_each L ms)) (λ _ r. r)
    (λ _ r. (r.0 ++ Copy m ∷ [], r.1 ∙ sym (append_assoc r.0 (Copy m ∷ []) J), all-append P r.0 (Copy m ∷ []) r.2 (h.0, tt)))
    (grows-copied P ms (cond (happened (Copied m) J) J (Copy m ∷ J)) h.1)

-- a message lands by a delivery alone
abbrev pub IsDelivery : Act → Type 0
IsDelivery (Deliver a b k) = Unit {0}
IsDelivery _ = ⊥

module _ (script : Script) (rules : Rules) where
  -- A Join is copied by a Poll of its origin alone,
  abbrev IsCopyBy : Act → (origin : ℕ) → Leg → Type 0
  IsCopyBy act a (Join d) = act ≡ Poll a
  IsCopyBy act a Go = Unit {0}
  IsCopyBy act a Back = Unit {0}
  IsCopyBy act a Note = Unit {0}
  IsCopyBy act a Echo = Unit {0}

  -- a statement is entered by a Step of its task, and a job begins, as one that was not begun, and ends by its worker's own lines.
  abbrev pub IsBy : Run → Act → Event → Type 0
  IsBy r act (Begin m t w) = (act ≡ Act.Begin t w) × (happened (Begun m) r.journal ≡ false)
  IsBy r act (End m t w) = act ≡ Act.End t w
  IsBy r act (Copy m) = IsCopyBy act m.origin m.leg
  IsBy r act (Issue a i) = Unit {0}
  IsBy r act (Refuse a i why) = Unit {0}
  IsBy r act (Enter a i) = act ≡ Step a
  IsBy r act (Pass a i) = Unit {0}
  IsBy r act (Head m) = Unit {0}
  IsBy r act (Land m) = IsDelivery act

  abbrev pub Adds : Run → Act → Run → Type 0
  Adds r act s = Grows (IsBy r act) r.journal s.journal

  ready-by : (r : Run) (J : List Event) (t : ℕ) → AllByRecursion (λ m. IsBy r (Poll t) (Copy m)) (ready script J t)
  unfolding ready
  ready-by r J t =
      let P = λ (m : MsgName). IsBy r (Poll t) (Copy m) in
      all-flat_map (λ _. Unit {0}) P (to_copy_of script J t) (numbers_below (length (statements script t))) (all-any _) (λ i _.
      cond_both (is_data (statement script t i) && happened (Issued t i) J) (message t i Go ∷ []) (cond (has_join (statement script t i) && happened (Entered t i) J) (joins script t i) []) (AllByRecursion P)
      (λ _. (tt, tt))
      (λ _. cond_both (has_join (statement script t i) && happened (Entered t i) J) (joins script t i) [] (AllByRecursion P)
      (λ _. all-map (λ _. Unit {0}) P (λ d. message t i (Join d)) (filter (λ d. not (d == t)) (numbers_below script.tasks)) (all-any _) (λ d _. refl))
      (λ _. tt)))

  -- a statement's line
  abbrev ByOption : Run → Act → Option Event → Type 0
  ByOption r act None = Unit {0}
  ByOption r act (Some e) = IsBy r act e

  if-by : (r : Run) (act : Act) (b : Bool) (e : Event) → IsBy r act e → ByOption r act (event_if script rules b e)
  if-by r act true e h = h
  if-by r act false e h = tt

  proposed-by : (r : Run) (t i : ℕ) (s : Statement) → ByOption r (Step t) (proposed script rules r t i s)
  proposed-by r t i (Wait counter value) = if-by r (Step t) _ (Pass t i) tt
  proposed-by r t i Fence = if-by r (Step t) _ (Pass t i) tt
  proposed-by r t i Gfence =
      cond_both (happened (Entered t i) r.journal) (event_if script rules (joined script r.journal t i) (Pass t i)) (event_if script rules (data_clear script r t i) (Enter t i)) (ByOption r (Step t))
      (λ _. if-by r (Step t) _ (Pass t i) tt)
      (λ _. if-by r (Step t) _ (Enter t i) refl)
  proposed-by r t i (Statement.Addr at) = cond_both (happened (Entered t i) r.journal) (event_if script rules (joined script r.journal t i) (Pass t i)) (Some (Enter t i)) (ByOption r (Step t)) (λ _. if-by r (Step t) _ (Pass t i) tt) (λ _. refl)
  proposed-by r t i _ = tt

  unless-by : (r : Run) (t i : ℕ) (o : Option Refusal) → ByOption r (Step t) (unless_refused script rules r t i o)
  unless-by r t i (Some reason) = tt
  unless-by r t i None = proposed-by r t i (statement script t i)

  add-by : (r : Run) (act : Act) (o : Option Event) → ByOption r act o → Adds r act (add_event script rules r o)
  add-by r act None h = ([], refl, tt)
  add-by r act (Some e) h = grows-followed (IsBy r act) (e ∷ []) r.journal (h, tt)

  step-adds : (r : Run) (t : ℕ) → Adds r (Step t) (step script rules r t)
  unfolding step
  step-adds r t =
      let i = next r.journal t in
      let o = unless_refused script rules r t i (refusal_of script rules r.journal t i) in
      cond_both (nat_lt i (length (statements script t))) (add_event script rules r o) (reply_with script rules r Idle) (Adds r (Step t))
      (λ _. add-by r (Step t) o (unless-by r t i (refusal_of script rules r.journal t i)))
      (λ _. ([], refl, tt))

  -- a delivery
  note-by : (r : Run) (act : Act) (m : MsgName) → AllByRecursion (IsBy r act) (note_of script rules m)
  note-by r act m = cond_both (is_some (cmpl_counter (statement script m.origin m.statement))) (Copy (message m.origin m.statement Note) ∷ []) [] (AllByRecursion (IsBy r act)) (λ _. (tt, tt)) (λ _. tt)

  after-by : (r : Run) (act : Act) (m : MsgName) → AllByRecursion (IsBy r act) (after_land script rules m)
  after-by r act m =
      cond_both (leg_eq m.leg Go) _ [] (AllByRecursion (IsBy r act))
      (λ _. cond_both (has_back (statement script m.origin m.statement)) (Copy (message m.origin m.statement Back) ∷ []) _ (AllByRecursion (IsBy r act))
      (λ _. (tt, tt))
      (λ _. cond_both (has_completion script rules m.origin m.statement) [] (note_of script rules m) (AllByRecursion (IsBy r act)) (λ _. tt) (λ _. note-by r act m)))
      (λ _. tt)

  arrival-by : (r : Run) (act : Act) (a b : ℕ) (m : MsgName) (n : ℕ) → IsDelivery act → AllByRecursion (IsBy r act) (first_delivery script rules r a b m n)
  unfolding first_delivery
  arrival-by r act a b m n by =
      all-append (IsBy r act) (cond (is_am (statement script m.origin m.statement) && leg_eq m.leg Go && not (some_number script (numbered script r.journal a b) m (is_delivered r a b))) (Head m ∷ []) []) (cond (all_numbers script (numbered script r.journal a b) m (λ k. k == n || is_delivered r a b k)) (Land m ∷ after_land script rules m) [])
      (cond_both _ (Head m ∷ []) [] (AllByRecursion (IsBy r act)) (λ _. (tt, tt)) (λ _. tt))
      (cond_both _ (Land m ∷ after_land script rules m) [] (AllByRecursion (IsBy r act)) (λ _. (by, after-by r act m)) (λ _. tt))

  hand-adds : (r : Run) (act : Act) (a b : ℕ) (p : Packet) → IsDelivery act → Adds r act (hand_over script rules r a b p)
  unfolding hand_over
  hand-adds r act a b (Ack layout from to least bits) by = ([], refl, tt)
  hand-adds r act a b (Data p) by =
      grows-followed (IsBy r act) (cond (is_delivered r a b p.seq) [] (first_delivery script rules r a b p.name p.seq)) r.journal
      (cond_both (is_delivered r a b p.seq) [] (first_delivery script rules r a b p.name p.seq) (AllByRecursion (IsBy r act)) (λ _. tt) (λ _. arrival-by r act a b p.name p.seq by))

  deliver-adds : (r : Run) (a b k : ℕ) → Adds r (Deliver a b k) (deliver script rules r a b k)
  unfolding deliver
  deliver-adds r a b k = elim (slice_get (r.wire a b) k) as (λ o. Adds r (Deliver a b k) (deliver_entry script rules r a b o)) [ None ↦ ([], refl, tt) | Some p ↦ hand-adds r (Deliver a b k) a b p tt ]

  -- a job's lines
  begin-adds : (r : Run) (t w : ℕ) → Adds r (Act.Begin t w) (begin script rules r t w)
  unfolding begin
  begin-adds r t w =
      elim (runs r.journal t w) as (λ o. Adds r (Act.Begin t w) (begin_at script rules r t w o)) [
        | Some m ↦ ([], refl, tt)
        | None ↦
            elim (queue script rules r.journal t) as (λ ms. AllByRecursion (λ m. Waiting script rules r.journal t m × (not (happened (Begun m) r.journal) ≡ true)) ms → Adds r (Act.Begin t w) (begin_first script rules r t w ms)) [
              | [] ↦ λ _. ([], refl, tt)
              | m ∷ ms ↦ λ wait. grows-followed (IsBy r (Act.Begin t w)) (Begin m t w ∷ []) r.journal ((refl, not-true _ wait.0.1), tt)
            ] (queue-waiting script rules r.journal t)
      ]

  end-adds : (r : Run) (t w : ℕ) → Adds r (Act.End t w) (end script rules r t w)
  unfolding end
  end-adds r t w =
      elim (runs r.journal t w) as (λ o. Adds r (Act.End t w) (end_at script rules r t w o)) [
        | None ↦ ([], refl, tt)
        | Some m ↦
            grows-followed (IsBy r (Act.End t w)) (End m t w ∷ after_end script rules m) r.journal
            (refl, cond_both (answers script rules m.origin m.statement) (Copy (message m.origin m.statement Echo) ∷ []) (note_of script rules m) (AllByRecursion (IsBy r (Act.End t w))) (λ _. (tt, tt)) (λ _. note-by r (Act.End t w) m))
      ]

  module _ (size : Packet → ℕ) (refusal : List ℕ → Bad) where
    pub line-adds : (r : Run) (act : Act) → Adds r act (perform script rules size refusal r act)
    unfolding perform poll tick
    line-adds r (Step t) = step-adds r t
    line-adds r (Poll t) = grows-copied (IsBy r (Poll t)) (ready script r.journal t) r.journal (ready-by r r.journal t)
    line-adds r (Tick t) = ([], refl, tt)
    line-adds r (Deliver a b k) = deliver-adds r a b k
    line-adds r (Cut a b k n) = elim (slice_get (r.wire a b) k) as (λ o. Adds r (Cut a b k n) (cut_entry script rules size r n o)) [ Some p ↦ ([], refl, tt) | None ↦ ([], refl, tt) ]
    line-adds r (Inject a b bytes) = ([], refl, tt)
    line-adds r (Act.Begin t w) = begin-adds r t w
    line-adds r (Act.End t w) = end-adds r t w

  -- ---- workers and buffers

  runs-stay : (r : Run) (act : Act) (t w : ℕ) → works_at t w act ≡ false → (added : List Event) → AllByRecursion (IsBy r act) added → runs (added ++ r.journal) t w ≡ runs r.journal t w
  unfolding runs
  runs-stay r act t w h [] by = refl
  runs-stay r act t w h (Begin m u v ∷ es) by = cond-false (u == t && v == w) (Some m) (runs (es ++ r.journal) t w) (subst (λ x. works_at t w x ≡ false) by.0.0 h) ∙ runs-stay r act t w h es by.1
  runs-stay r act t w h (End m u v ∷ es) by = cond-false (u == t && v == w) None (runs (es ++ r.journal) t w) (subst (λ x. works_at t w x ≡ false) by.0 h) ∙ runs-stay r act t w h es by.1
  runs-stay r act t w h (Issue a i ∷ es) by = runs-stay r act t w h es by.1
  runs-stay r act t w h (Refuse a i why ∷ es) by = runs-stay r act t w h es by.1
  runs-stay r act t w h (Enter a i ∷ es) by = runs-stay r act t w h es by.1
  runs-stay r act t w h (Pass a i ∷ es) by = runs-stay r act t w h es by.1
  runs-stay r act t w h (Copy m ∷ es) by = runs-stay r act t w h es by.1
  runs-stay r act t w h (Head m ∷ es) by = runs-stay r act t w h es by.1
  runs-stay r act t w h (Land m ∷ es) by = runs-stay r act t w h es by.1

  held-stays : (r : Run) (act : Act) (m : MsgName) → happened (Begun m) r.journal ≡ true → (added : List Event) → AllByRecursion (IsBy r act) added → (values script rules (added ++ r.journal)).held m ≡ (values script rules r.journal).held m
  unfolding values
  held-stays r act m d [] by = refl
  held-stays r act m d (Begin n u v ∷ es) by =
      cond-false (name_eq n m) _ ((values script rules (es ++ r.journal)).held m) (false_from_ne_true _ (λ same. both_ways _ by.0.1 (subst (λ (k : MsgName). happened (Begun k) r.journal ≡ true) (sym (name_eq-true n m same)) d)))
      ∙ held-stays r act m d es by.1
  held-stays r act m d (End n u v ∷ es) by = held-stays r act m d es by.1
  held-stays r act m d (Issue a i ∷ es) by = held-stays r act m d es by.1
  held-stays r act m d (Refuse a i why ∷ es) by = held-stays r act m d es by.1
  held-stays r act m d (Enter a i ∷ es) by = held-stays r act m d es by.1
  held-stays r act m d (Pass a i ∷ es) by = held-stays r act m d es by.1
  held-stays r act m d (Copy n ∷ es) by = held-stays r act m d es by.1
  held-stays r act m d (Head n ∷ es) by = held-stays r act m d es by.1
  held-stays r act m d (Land n ∷ es) by = held-stays r act m d es by.1

-- the laws
pub workers-stay : HoldsOfRecords WorkersStay
unfolding performed
workers-stay script rules r is = λ act t w h. let g = line-adds script rules packet_size refusal r act in ap (λ J. runs J t w) g.1 ∙ runs-stay script rules r act t w h g.0 g.2

pub held-stay : HoldsOfRecords HeldStay
unfolding performed
held-stay script rules r is = λ act m d. let g = line-adds script rules packet_size refusal r act in ap (λ J. (values script rules J).held m) g.1 ∙ held-stays script rules r act m d g.0 g.2
