-- A message that goes is copied by a Poll of its origin alone.
use Rattle.std.proofs.Common.{◌≡◌, ℕ, zero, suc, ◌+◌, ◌-◌, ◌≤◌, ◌==◌, true, cond, ◌&&◌, ◌||◌, not, List, [], ◌∷◌, length, Some, None, sym, ap, ◌∙◌, ⊎_elim, arith}
use Rattle.std.specs.Prelude.{slice_get, is_some}
use Rattle.std.specs.List.{AllByRecursion}
use Rattle.std.proofs.lemmas.Bool.{cond_both}
use Rattle.lapi_base.specs.declared.script.Script.{Script}
use Rattle.lapi_base.specs.declared.rule.Rules.{Rules}
use Rattle.lapi_base.specs.declared.message.Leg.TheVariants.{Go, Back, Note}
use Rattle.lapi_base.specs.declared.message.MsgName.{MsgName}
use Rattle.lapi_base.specs.declared.event.Event.{Event}
use Rattle.lapi_base.specs.declared.event.Event.TheVariants.{Copy, Head, Land}
use Rattle.lapi_base.specs.declared.schedule.Act.{Act}
use Rattle.lapi_base.specs.declared.schedule.Act.TheVariants.{Step, Poll, Tick, Deliver, Cut, Inject}
use Rattle.lapi_base.specs.declared.packet.Packet.{Packet}
use Rattle.lapi_base.specs.declared.packet.Packet.TheVariants.{Data, Ack}
use Rattle.lapi_base.specs.Packet.Spelling.{refusal}
use Rattle.lapi_base.specs.Packet.PacketBytes.{packet_size}
use Rattle.lapi_base.specs.Record.Names.{message, leg_eq, EventKey, Copied, key_of, happened}
use Rattle.lapi_base.specs.Record.Operations.{statement, sender, is_am, has_back, cmpl_counter}
use Rattle.lapi_base.specs.Record.Handlers.{has_completion}
use Rattle.lapi_base.specs.Record.Wires.{Run, numbered, some_number, all_numbers, is_delivered}
use Rattle.lapi_base.specs.Record.Acts.{ready, copy_each, followed, note_of, after_land, first_delivery, hand_over, deliver_entry, deliver, poll, perform, after}
use Rattle.lapi_base.proofs.NameLaws.{happened-cases}
use Rattle.lapi_base.proofs.ListLaws.{all-append, all-weaker}
use Rattle.lapi_parts.proofs.LineFrames.{ready-own}
use Rattle.lapi_flush.specs.Served.{delivers}
use Rattle.lapi_flush.specs.Flushed.{part_acts, link_acts, flush}
use Rattle.lapi_flush.specs.Swept.{sweep_to}

module _ (script : Script) (rules : Rules) (a i : ℕ) where
  go : EventKey
  go = Copied (message a i Go)

  -- an event that isn't its copy
  IsNone : Event → Type 0
  IsNone e = go ≡ key_of e → ⊥

  after-none : (es J : List Event) → AllByRecursion IsNone es → happened go (followed J es) ≡ true → happened go J ≡ true
  unfolding followed IsNone
  after-none [] J h d = d
  after-none (e ∷ es) J h d = ⊎_elim (λ (x : go ≡ key_of e). absurd (h.0 x)) (λ (x : happened go J ≡ true). x) (happened-cases go e J (after-none es (e ∷ J) h.1 d))

  copied-none : (ms : List MsgName) (J : List Event) → AllByRecursion (λ m. IsNone (Copy m)) ms → happened go (copy_each J ms) ≡ true → happened go J ≡ true
  unfolding copy_each IsNone
  copied-none [] J h d = d
  copied-none (m ∷ ms) J h d =
      cond_both (happened (Copied m) J) J (Copy m ∷ J) (λ L. happened go (copy_each L ms) ≡ true → happened go J ≡ true)
      (λ _ x. copied-none ms J h.1 x)
      (λ _ x. ⊎_elim (λ (y : go ≡ Copied m). absurd (h.0 y)) (λ (y : happened go J ≡ true). y) (happened-cases go (Copy m) J (copied-none ms (Copy m ∷ J) h.1 x)))
      d

  apart : (n : MsgName) → go ≡ Copied n → (Go ≡ n.leg → ⊥) → ⊥
  unfolding go
  apart n x h = let same : message a i Go ≡ n = cc in h (ap (λ (m : MsgName). m.leg) same)

  -- a delivery
  note-none : (m : MsgName) → AllByRecursion IsNone (note_of script rules m)
  unfolding IsNone go
  note-none m = cond_both (is_some (cmpl_counter (statement script m.origin m.statement))) (Copy (message m.origin m.statement Note) ∷ []) [] (AllByRecursion IsNone) (λ _. (λ x. apart (message m.origin m.statement Note) x (λ q. absurd (cc)), tt)) (λ _. tt)

  land-none : (m : MsgName) → AllByRecursion IsNone (after_land script rules m)
  unfolding IsNone go
  land-none m =
      cond_both (leg_eq m.leg Go) _ [] (AllByRecursion IsNone)
      (λ _. cond_both (has_back (statement script m.origin m.statement)) (Copy (message m.origin m.statement Back) ∷ []) _ (AllByRecursion IsNone)
      (λ _. (λ x. apart (message m.origin m.statement Back) x (λ q. absurd (cc)), tt))
      (λ _. cond_both (has_completion script rules m.origin m.statement) [] (note_of script rules m) (AllByRecursion IsNone) (λ _. tt) (λ _. note-none m)))
      (λ _. tt)

  arrival-none : (r : Run) (x y : ℕ) (m : MsgName) (n : ℕ) → AllByRecursion IsNone (first_delivery script rules r x y m n)
  unfolding first_delivery IsNone go
  arrival-none r x y m n =
      all-append IsNone (cond (is_am (statement script m.origin m.statement) && leg_eq m.leg Go && not (some_number script (numbered script r.journal x y) m (is_delivered r x y))) (Head m ∷ []) []) (cond (all_numbers script (numbered script r.journal x y) m (λ k. k == n || is_delivered r x y k)) (Land m ∷ after_land script rules m) [])
      (cond_both _ (Head m ∷ []) [] (AllByRecursion IsNone) (λ _. (λ e. absurd (cc), tt)) (λ _. tt))
      (cond_both _ (Land m ∷ after_land script rules m) [] (AllByRecursion IsNone) (λ _. (λ e. absurd (cc), land-none m)) (λ _. tt))

  hand-none : (r : Run) (x y : ℕ) (p : Packet) → happened go (hand_over script rules r x y p).journal ≡ true → happened go r.journal ≡ true
  unfolding hand_over
  hand-none r x y (Ack layout from to least bits) d = d
  hand-none r x y (Data p) d =
      after-none (cond (is_delivered r x y p.seq) [] (first_delivery script rules r x y p.name p.seq)) r.journal
      (cond_both (is_delivered r x y p.seq) [] (first_delivery script rules r x y p.name p.seq) (AllByRecursion IsNone) (λ _. tt) (λ _. arrival-none r x y p.name p.seq))
      d

  deliver-none : (r : Run) (x y k : ℕ) → happened go (deliver script rules r x y k).journal ≡ true → happened go r.journal ≡ true
  unfolding deliver
  deliver-none r x y k = elim (slice_get (r.wire x y) k) as (λ o. happened go (deliver_entry script rules r x y o).journal ≡ true → happened go r.journal ≡ true) [ None ↦ λ d. d | Some p ↦ hand-none r x y p ]

  -- a Poll of another task, or a delivery
  abbrev pub IsOther : Act → Type 0
  IsOther (Poll t) = t ≡ a → ⊥
  IsOther (Deliver x y k) = Unit {0}
  IsOther _ = ⊥

  line-none : (r : Run) (act : Act) → IsOther act → happened go (perform script rules packet_size refusal r act).journal ≡ true → happened go r.journal ≡ true
  unfolding perform poll IsNone go
  line-none r (Poll t) h d =
      copied-none (ready script r.journal t) r.journal
      (all-weaker (λ m. sender script m ≡ t) (λ m. IsNone (Copy m)) (λ m own same. let is : message a i Go ≡ m = cc in h (sym own ∙ ap (sender script) (sym is))) (ready script r.journal t) (ready-own script r.journal t))
      d
  line-none r (Deliver x y k) h d = deliver-none r x y k d
  line-none r (Step t) h d = absurd h
  line-none r (Tick t) h d = absurd h
  line-none r (Cut x y k n) h d = absurd h
  line-none r (Inject x y bytes) h d = absurd h
  line-none r (Act.Begin t w) h d = absurd h
  line-none r (Act.End t w) h d = absurd h

  pub others-none : (acts : List Act) (r : Run) → AllByRecursion IsOther acts → happened (Copied (message a i Go)) (after script rules packet_size refusal r acts).journal ≡ true → happened (Copied (message a i Go)) r.journal ≡ true
  unfolding after go
  others-none [] r h d = d
  others-none (act ∷ acts) r h d = line-none r act h.0 (others-none acts (perform script rules packet_size refusal r act) h.1 d)

  -- the lines of a flush of another task
  delivers-other : (x y first n : ℕ) → AllByRecursion IsOther (delivers x y first n)
  unfolding delivers
  delivers-other x y first zero = tt
  delivers-other x y first (suc n) = all-append IsOther (delivers x y first n) (Deliver x y (first + n) ∷ []) (delivers-other x y first n) (tt, tt)

  part-other : (u : Run) (x y first count : ℕ) → AllByRecursion IsOther (part_acts script rules u x y first count)
  part-other u x y first zero = tt
  part-other u x y first (suc last) = all-append IsOther (delivers x y first (suc last)) (Deliver y x (length (u.wire y x) + last) ∷ []) (delivers-other x y first (suc last)) (tt, tt)

  links-other : (r : Run) (t n : ℕ) → AllByRecursion IsOther (link_acts script rules r t n)
  unfolding link_acts
  links-other r t zero = tt
  links-other r t (suc b) =
      let acts = link_acts script rules r t b in
      let now = after script rules packet_size refusal (poll script rules r t) acts in
      let count = length ((poll script rules r t).wire t b) - length (r.wire t b) in
      all-append IsOther acts (part_acts script rules now t b (length (r.wire t b)) count) (links-other r t b) (part-other now t b (length (r.wire t b)) count)

  flush-other : (r : Run) (t : ℕ) → (t ≡ a → ⊥) → AllByRecursion IsOther (flush script rules r t)
  flush-other r t h = (h, links-other r t script.tasks)

  pub sweep-other : (r : Run) (n : ℕ) → n ≤ a → AllByRecursion IsOther (sweep_to script rules r n)
  unfolding sweep_to
  sweep-other r zero l = tt
  sweep-other r (suc t) l =
      let acts = sweep_to script rules r t in
      let u = after script rules packet_size refusal r acts in
      all-append IsOther acts (flush script rules u t) (sweep-other r t (omega arith)) (flush-other u t (λ e. absurd (omega arith)))
