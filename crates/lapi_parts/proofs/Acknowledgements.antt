-- Every acknowledgement on a wire goes between the wire's ends, and its numbers are small and its lowest bit clear.
use Rattle.std.proofs.Common.{◌≡◌, ℕ, ◌+◌, ◌%◌, ◌^◌, ◌<◌, ◌==◌, Bool, true, false, cond, ◌&&◌, List, [], ◌∷◌, ◌++◌, length, Option, Some, None, refl, sym, ap, ◌∙◌, subst, ⊎_elim, arith, inl, inr}
use Rattle.std.specs.Prelude.{slice_get, nat_lt}
use Rattle.std.specs.List.{AllByRecursion, list_any}
use Rattle.std.proofs.lemmas.Bool.{false≢true, and_parts, cond_both, eqb-true, false_from_ne_true, or_cases, cases_lt}
use Rattle.std.proofs.lemmas.Option.{slice_get_within}
use Rattle.lapi_base.specs.declared.script.Script.{Script}
use Rattle.lapi_base.specs.declared.rule.Rules.{Rules}
use Rattle.lapi_base.specs.declared.message.MsgName.{MsgName}
use Rattle.lapi_base.specs.declared.event.Event.{Event}
use Rattle.lapi_base.specs.declared.schedule.Act.{Act}
use Rattle.lapi_base.specs.declared.schedule.Act.TheVariants.{Step, Poll, Tick, Deliver, Cut, Inject}
use Rattle.lapi_base.specs.declared.reply.Bad.{Bad}
use Rattle.lapi_base.specs.declared.reply.Reply.TheVariants.{Idle}
use Rattle.lapi_base.specs.declared.packet.Packet.{Packet}
use Rattle.lapi_base.specs.declared.packet.Packet.TheVariants.{Data, Ack}
use Rattle.lapi_base.specs.declared.packet.DataPacket.{DataPacket}
use Rattle.lapi_base.specs.Packet.Layout.{window_of, holds_back}
use Rattle.lapi_base.specs.Record.Below.{least_missing}
use Rattle.lapi_base.specs.Record.Operations.{statements}
use Rattle.lapi_base.specs.Record.Refusals.{next, refusal_of}
use Rattle.lapi_base.specs.Record.Jobs.{queue, runs}
use Rattle.lapi_base.specs.Record.Packets.{data_packet}
use Rattle.lapi_base.specs.Record.Wires.{Run, start, numbered, is_number, has_number, is_delivered, packet_of, packets, to_send, to_resend, ack, owed_ack, sends}
use Rattle.lapi_base.specs.Record.Acts.{ready, copy_each, at_once, with_handed, hand_over, deliver_entry, deliver, reply_with, unless_refused, add_event, step, poll, tick, begin_first, begin_at, begin, end_at, end, cut_entry, perform, run_of}
use Rattle.lapi_base.specs.Record.Atomic.{Atomic}
use Rattle.lapi_base.specs.Laws.Links.{OwedAreHeldBack}
use Rattle.lapi_base.specs.Record.Valid.{ValidAct, ValidScript}
use Rattle.lapi_base.specs.Record.WorldView.{HoldsOfRecords}
use Rattle.lapi_base.proofs.BelowLaws.{least_missing-le, least_missing-not}
use Rattle.lapi_base.proofs.BitLaws.{bits_of-even, bits_of-lt}
use Rattle.lapi_base.proofs.ListLaws.{all-any, all-append, all-flat_map, all-get}
use Rattle.lapi_base.proofs.EveryRun.{after-keeps}
use Rattle.lapi_laws.proofs.Sound.{Lists, Fits, known}
use Rattle.lapi_laws.proofs.Lines.{SoundRun}
use Rattle.lapi_laws.proofs.Runs.{start-sound, perform-sound}
use Rattle.lapi_laws.proofs.Owed.{perform-owed}
use Rattle.lapi_laws.proofs.Shorts.{numbers-few, copied-few}
use Rattle.lapi_parts.proofs.Records.{of-runs}

module _ (script : Script) (rules : Rules) where
  -- an acknowledgement of the wire from a to b
  abbrev pub IsTold : (a b : ℕ) → Packet → Type 0
  IsTold a b (Data p) = Unit {0}
  IsTold a b (Ack layout from to base bits) = (layout ≡ script.layout) × (from ≡ a) × (to ≡ b) × (a < script.tasks) × (b < script.tasks) × (ValidScript script → base < 2 ^ 32) × (bits < 2 ^ window_of script) × (bits % 2 ≡ 0)

  -- the numbers that were delivered are those of the link, also with one more packet
  delivered-below : (r : Run) (a b : ℕ) (p : DataPacket) (n : ℕ) → SoundRun script rules r → Fits script rules r.journal r.handed a b (Data p) → is_delivered (with_handed script rules r a b (Data p)) a b n ≡ true → n < length (numbered script r.journal a b)
  unfolding has_number
  delivered-below r a b p n s f =
      cond_both (a == a && b == b) (Data p ∷ r.handed a b) (r.handed a b) (λ ps. list_any (is_number n) ps ≡ true → n < length (numbered script r.journal a b))
      (λ _ h.
      ⊎_elim
      (λ (e : (p.seq == n) ≡ true). subst (λ (k : ℕ). k < length (numbered script r.journal a b)) (eqb-true p.seq n e) (slice_get_within (numbered script r.journal a b) p.seq (p.name, p.fragment) f))
      (λ (e : list_any (is_number n) (r.handed a b) ≡ true). within n e)
      (or_cases _ _ h))
      (λ _ h. within n h)
    where
      within : (k : ℕ) → list_any (is_number k) (r.handed a b) ≡ true → k < length (numbered script r.journal a b)
      within k e = let x = known script rules r.journal r.wire r.handed s a b k e in slice_get_within (numbered script r.journal a b) k x.0 x.1

  -- so the least that is missing isn't delivered
  least-not : (r : Run) (a b : ℕ) → ((n : ℕ) → is_delivered r a b n ≡ true → n < length (numbered script r.journal a b)) → is_delivered r a b (least_missing (length (numbered script r.journal a b)) (is_delivered r a b)) ≡ false
  least-not r a b room =
      let count = length (numbered script r.journal a b) in
      let q = is_delivered r a b in
      elim (cases_lt (least_missing count q) count) [
        | inl l ↦ least_missing-not count q l
        | inr l ↦ false_from_ne_true (q (least_missing count q)) (λ h. let l' = room (least_missing count q) h in omega arith)
      ]

  ack-told : (r : Run) (a b : ℕ) → a < script.tasks → b < script.tasks → Atomic script rules r.journal → ((n : ℕ) → is_delivered r a b n ≡ true → n < length (numbered script r.journal a b)) → IsTold b a (ack script rules r a b)
  unfolding ack
  ack-told r a b la lb atomic room =
      let count = length (numbered script r.journal a b) in
      let q = is_delivered r a b in
      let least = least_missing count q in
      let below = least_missing-le count q in
      let first : least + 0 ≡ least = omega arith in
      (refl, refl, refl, lb, la, λ valid. let few = numbers-few script rules valid r.journal a b atomic (λ m d. copied-few script rules r.journal m atomic d) in omega arith, bits_of-lt (window_of script) (λ i. q (least + i)), bits_of-even (window_of script) (λ i. q (least + i)) (ap q first ∙ least-not r a b room))

  abbrev pub ToldRun : Run → Type 0
  ToldRun r = (a b : ℕ) → AllByRecursion (IsTold a b) (r.wire a b)

  -- what is owed is told too
  owed-told : (r : Run) (a b : ℕ) → SoundRun script rules r → OwedAreHeldBack script rules r → AllByRecursion (IsTold b a) (owed_ack script rules r a b)
  unfolding owed_ack
  owed-told r a b s o =
      cond_both (r.owed a b) (ack script rules r a b ∷ []) [] (AllByRecursion (IsTold b a))
      (λ e. let held = o a b e in (ack-told r a b held.1 held.2 s.atomic (λ n h. let x = known script rules r.journal r.wire r.handed s a b n h in slice_get_within (numbered script r.journal a b) n x.0 x.1), tt))
      (λ _. tt)

  -- what a Poll or a Tick adds are data
  packets-told : (J : List Event) (a b x y : ℕ) (numbers : List ℕ) → AllByRecursion (IsTold x y) (packets script rules J a b numbers)
  unfolding packets data_packet
  packets-told J a b x y numbers = all-flat_map (λ _. Unit {0}) (IsTold x y) (λ n. packet_of script rules J n (slice_get (numbered script J a b) n)) numbers (all-any numbers) (λ n _. one n (slice_get (numbered script J a b) n))
    where
      one : (n : ℕ) (o : Option (MsgName × ℕ)) → AllByRecursion (IsTold x y) (packet_of script rules J n o)
      one n None = tt
      one n (Some pair) = (tt, tt)

  more-told : (wire : Lists) (t : ℕ) (J : List Event) (numbers : (a b : ℕ) → List ℕ) → ((a b : ℕ) → AllByRecursion (IsTold a b) (wire a b)) → (a b : ℕ) → AllByRecursion (IsTold a b) (cond (a == t) (wire a b ++ packets script rules J a b (numbers a b)) (wire a b))
  more-told wire t J numbers h a b = cond_both (a == t) (wire a b ++ packets script rules J a b (numbers a b)) (wire a b) (AllByRecursion (IsTold a b)) (λ _. all-append (IsTold a b) (wire a b) (packets script rules J a b (numbers a b)) (h a b) (packets-told J a b a b (numbers a b))) (λ _. h a b)

  poll-told : (r : Run) (t : ℕ) → SoundRun script rules r → OwedAreHeldBack script rules r → ToldRun r → ToldRun (poll script rules r t)
  unfolding poll
  poll-told r t s o h a b =
      let J = copy_each r.journal (ready script r.journal t) in
      let numbers = to_send script rules r J a b in
      cond_both (a == t) (r.wire a b ++ sends script rules r J a b) (r.wire a b) (AllByRecursion (IsTold a b))
      (λ _. all-append (IsTold a b) (r.wire a b) (sends script rules r J a b) (h a b) (all-append (IsTold a b) (packets script rules J a b numbers) (owed_ack script rules r b a) (packets-told J a b a b numbers) (owed-told r b a s o)))
      (λ _. h a b)

  hand_over-told : (r : Run) (a b : ℕ) (p : Packet) → a < script.tasks → b < script.tasks → SoundRun script rules r → Fits script rules r.journal r.handed a b p → ToldRun r → ToldRun (hand_over script rules r a b p)
  unfolding hand_over at_once
  hand_over-told r a b (Ack layout from to least bits) la lb s f h x y = h x y
  hand_over-told r a b (Data p) la lb s f h x y =
      let now = with_handed script rules r a b (Data p) in
      let new = ack script rules now a b in
      let once = cond (holds_back script) [] (new ∷ []) in
      cond_both (x == b && y == a) (r.wire x y ++ once) (r.wire x y) (AllByRecursion (IsTold x y))
      (λ e.
      let ends = and_parts _ _ e in
      let told : IsTold x y new = subst (λ v. IsTold x v new) (sym (eqb-true y a ends.1)) (subst (λ u. IsTold u a new) (sym (eqb-true x b ends.0)) (ack-told now a b la lb s.atomic (λ n. delivered-below r a b p n s f))) in
      all-append (IsTold x y) (r.wire x y) once (h x y) (cond_both (holds_back script) [] (new ∷ []) (AllByRecursion (IsTold x y)) (λ _. tt) (λ _. (told, tt))))
      (λ _. h x y)

  module _ (spells : List ℕ → Bool) (size : Packet → ℕ) (refusal : List ℕ → Bad) where
    perform-told : (r : Run) (act : Act) → ValidAct script spells act → SoundRun script rules r → OwedAreHeldBack script rules r → ToldRun r → ToldRun (perform script rules size refusal r act)
    unfolding perform step tick deliver begin end
    perform-told r (Step a) v s o h =
        let i = next r.journal a in
        cond_both (nat_lt i (length (statements script a))) (add_event script rules r (unless_refused script rules r a i (refusal_of script rules r.journal a i))) (reply_with script rules r Idle) ToldRun
        (λ _. elim (unless_refused script rules r a i (refusal_of script rules r.journal a i)) as (λ x. ToldRun (add_event script rules r x)) [ None ↦ h | Some e ↦ h ])
        (λ _. h)
    perform-told r (Poll t) v s o h = poll-told r t s o h
    perform-told r (Tick t) v s o h = more-told r.wire t r.journal (λ a b. to_resend script rules r a b) h
    perform-told r (Deliver a b k) v s o h =
        elim (slice_get (r.wire a b) k) as (λ x. slice_get (r.wire a b) k ≡ x → ToldRun (deliver_entry script rules r a b x)) [
          | None ↦ λ e. h
          | Some p ↦ λ e. hand_over-told r a b p v.0 v.1 s (all-get (Fits script rules r.journal r.handed a b) (r.wire a b) k p (s.wires a b) e) h
        ] refl
    perform-told r (Cut a b k n) v s o h = elim (slice_get (r.wire a b) k) as (λ x. ToldRun (cut_entry script rules size r n x)) [ Some p ↦ h | None ↦ h ]
    perform-told r (Inject a b bytes) v s o h = h
    perform-told r (Act.Begin t w) v s o h =
        elim (runs r.journal t w) as (λ x. ToldRun (begin_at script rules r t w x)) [
          | Some m ↦ h
          | None ↦ elim (queue script rules r.journal t) as (λ ms. ToldRun (begin_first script rules r t w ms)) [ [] ↦ h | m ∷ ms ↦ h ]
        ]
    perform-told r (Act.End t w) v s o h = elim (runs r.journal t w) as (λ x. ToldRun (end_at script rules r t w x)) [ None ↦ h | Some m ↦ h ]

    run-told : (acts : List Act) → AllByRecursion (ValidAct script spells) acts → ToldRun (run_of script rules size refusal acts)
    unfolding run_of
    run-told acts v =
        (after-keeps script rules size refusal (ValidAct script spells) (λ q. SoundRun script rules q × OwedAreHeldBack script rules q × ToldRun q)
        (λ q act w k. (perform-sound script rules spells size refusal q act w k.0, perform-owed script rules spells size refusal q act w k.1, perform-told q act w k.0 k.1 k.2))
        acts start v (start-sound script rules, (λ a b e. absurd (false≢true e)), λ a b. tt)).2

-- so it is with every record
pub record-told : HoldsOfRecords ToldRun
record-told = of-runs ToldRun (λ script rules spells size refusal acts v. run-told script rules spells size refusal acts v)
