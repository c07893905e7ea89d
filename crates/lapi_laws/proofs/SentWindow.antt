-- Every number on a wire is below the least one that is not acknowledged, plus the window.
use Rattle.std.proofs.Common.{◌≡◌, ◌⊎◌, ℕ, ◌+◌, ◌<◌, ◌≤◌, ◌==◌, Bool, true, false, cond, ◌&&◌, ◌||◌, not, List, [], ◌∷◌, ◌++◌, length, Option, Some, None, refl, sym, ap, ◌∙◌, subst, ⊎_elim, arith, length-append}
use Rattle.std.specs.Prelude.{slice_get, nat_lt}
use Rattle.std.specs.List.{AllByRecursion, list_any}
use Rattle.std.proofs.lemmas.Bool.{false≢true, and_parts, cond_both, eqb-true, or_cases, or_right, ltb-true}
use Rattle.std.proofs.lemmas.List.Folds.{list_any-append}
use Rattle.lapi_base.specs.Packet.Layout.{window_of, holds_back}
use Rattle.lapi_base.specs.declared.script.Script.{Script}
use Rattle.lapi_base.specs.declared.rule.Rules.{Rules}
use Rattle.lapi_base.specs.declared.message.MsgName.{MsgName}
use Rattle.lapi_base.specs.declared.event.Event.{Event}
use Rattle.lapi_base.specs.declared.event.Event.TheVariants.{Issue, Refuse, Enter, Pass, Copy, Head, Land, Begin, End}
use Rattle.lapi_base.specs.declared.schedule.Act.{Act}
use Rattle.lapi_base.specs.declared.schedule.Act.TheVariants.{Step, Poll, Tick, Deliver, Cut, Inject}
use Rattle.lapi_base.specs.declared.reply.Bad.{Bad}
use Rattle.lapi_base.specs.declared.packet.Packet.{Packet}
use Rattle.lapi_base.specs.declared.packet.Packet.TheVariants.{Data, Ack}
use Rattle.lapi_base.specs.Record.Below.{least_missing}
use Rattle.lapi_base.specs.Record.Names.{Copied, happened}
use Rattle.lapi_base.specs.Record.Operations.{statements, sender, fragments}
use Rattle.lapi_base.specs.Record.Refusals.{next, refusal_of}
use Rattle.lapi_base.specs.Record.Jobs.{queue, runs}
use Rattle.lapi_base.specs.Record.Packets.{data_packet}
use Rattle.lapi_base.specs.Record.Wires.{Run, start, numbered, is_number, covers, has_number, has_ack, base, is_sent, packet_of, packets, to_send, ack, owed_ack, sends, to_resend}
use Rattle.lapi_base.specs.Record.Acts.{ready, copy_each, followed, poll, tick, first_delivery, at_once, with_handed, hand_over, deliver, deliver_entry, unless_refused, add_event, step, begin_first, begin_at, begin, end_at, end, after_end, cut_entry, perform, run_of, reply_with}
use Rattle.lapi_base.proofs.BelowLaws.{below-all, least_missing-grows}
use Rattle.lapi_base.proofs.ListLaws.{all-flat_map, all-weaker, any-all}
use Rattle.lapi_base.proofs.EveryRun.{after-any}
use Rattle.lapi_laws.proofs.Sound.{Lists}

pub or-false : (z : Bool) → (z || false) ≡ z
or-false true = refl
or-false false = refl

module _ (script : Script) (rules : Rules) where
  -- Links never shrink.
  abbrev pub Grows : List Event → List Event → Type 0
  Grows J K = (a b : ℕ) → length (numbered script J a b) ≤ length (numbered script K a b)

  pub grows-cons : (e : Event) (J : List Event) → Grows J (e ∷ J)
  unfolding numbered
  grows-cons (Copy m) J a b =
      cond_both (sender script m == a && _) (numbered script J a b ++ fragments script m) (numbered script J a b) (λ xs. length (numbered script J a b) ≤ length xs)
      (λ _. omega (arith, length-append (numbered script J a b) (fragments script m)))
      (λ _. omega arith)
  grows-cons (Issue t i) J a b = omega arith
  grows-cons (Refuse t i y) J a b = omega arith
  grows-cons (Enter t i) J a b = omega arith
  grows-cons (Pass t i) J a b = omega arith
  grows-cons (Head m) J a b = omega arith
  grows-cons (Land m) J a b = omega arith
  grows-cons (Begin m t w) J a b = omega arith
  grows-cons (End m t w) J a b = omega arith

  pub grows-followed : (es J : List Event) → Grows J (followed J es)
  unfolding followed
  grows-followed [] J a b = omega arith
  grows-followed (e ∷ es) J a b = omega (arith, grows-cons e J a b, grows-followed es (e ∷ J) a b)

  pub grows-copied : (ms : List MsgName) (J : List Event) → Grows J (copy_each J ms)
  unfolding copy_each
  grows-copied [] J a b = omega arith
  grows-copied (m ∷ ms) J a b =
      let first : length (numbered script J a b) ≤ length (numbered script (cond (happened (Copied m) J) J (Copy m ∷ J)) a b) = cond_both (happened (Copied m) J) J (Copy m ∷ J) (λ K. length (numbered script J a b) ≤ length (numbered script K a b)) (λ _. omega arith) (λ _. grows-cons (Copy m) J a b) in
      omega (arith, first, grows-copied ms (cond (happened (Copied m) J) J (Copy m ∷ J)) a b)

  abbrev pub InWindow : List Event → Lists → Lists → Type 0
  InWindow J wire handed = (a b n : ℕ) → has_number (wire a b) n ≡ true → n < least_missing (length (numbered script J a b)) (has_ack (handed b a)) + window_of script

  abbrev pub Acks : Lists → Lists → Type 0
  Acks old new = (a b n : ℕ) → has_ack (old a b) n ≡ true → has_ack (new a b) n ≡ true

  pub window-grows : (J K : List Event) (wire old new : Lists) → Grows J K → Acks old new → InWindow J wire old → InWindow K wire new
  window-grows J K wire old new more acks w a b n h =
      omega (arith, w a b n h, least_missing-grows (length (numbered script J a b)) (length (numbered script K a b)) (has_ack (old b a)) (has_ack (new b a)) (more a b) (acks b a))

  -- the numbers of packets are those that they were made for
  packet-number : (J : List Event) (n : ℕ) (P : ℕ → Type 0) → P n → (o : Option (MsgName × ℕ)) → AllByRecursion (λ p. (k : ℕ) → is_number k p ≡ true → P k) (packet_of script rules J n o)
  unfolding data_packet
  packet-number J n P h None = tt
  packet-number J n P h (Some pair) = ((λ k e. subst P (eqb-true n k e) h), tt)

  pub packets-number : (J : List Event) (a b : ℕ) (P : ℕ → Type 0) (numbers : List ℕ) → AllByRecursion P numbers → (n : ℕ) → has_number (packets script rules J a b numbers) n ≡ true → P n
  unfolding packets has_number
  packets-number J a b P numbers h n found =
      let r = any-all (is_number n) (λ p. (k : ℕ) → is_number k p ≡ true → P k) (packets script rules J a b numbers) (all-flat_map P (λ p. (k : ℕ) → is_number k p ≡ true → P k) (λ k. packet_of script rules J k (slice_get (numbered script J a b) k)) numbers h (λ k x. packet-number J k P x (slice_get (numbered script J a b) k))) found in
      r.1 n r.2

  pub number-append : (xs ys : List Packet) (n : ℕ) → has_number (xs ++ ys) n ≡ true → (has_number xs n ≡ true) ⊎ (has_number ys n ≡ true)
  unfolding has_number
  number-append xs ys n h = or_cases _ _ (sym (list_any-append (is_number n) xs ys) ∙ h)

  -- an acknowledgement has no number
  owed-none : (r : Run) (a b n : ℕ) → has_number (owed_ack script rules r a b) n ≡ false
  unfolding has_number owed_ack ack
  owed-none r a b n = cond_both (r.owed a b) (ack script rules r a b ∷ []) [] (λ ps. list_any (is_number n) ps ≡ false) (λ _. refl) (λ _. refl)

  once-none : (r : Run) (a b n : ℕ) → has_number (at_once script rules (ack script rules r a b)) n ≡ false
  unfolding has_number at_once ack
  once-none r a b n = cond_both (holds_back script) [] (ack script rules r a b ∷ []) (λ ps. list_any (is_number n) ps ≡ false) (λ _. refl) (λ _. refl)

  -- so what a Poll puts on a wire has the numbers of its data alone
  pub sends-number : (r : Run) (J : List Event) (a b n : ℕ) → has_number (sends script rules r J a b) n ≡ has_number (packets script rules J a b (to_send script rules r J a b)) n
  unfolding has_number
  sends-number r J a b n =
      list_any-append (is_number n) (packets script rules J a b (to_send script rules r J a b)) (owed_ack script rules r b a)
      ∙ ap (λ x. has_number (packets script rules J a b (to_send script rules r J a b)) n || x) (owed-none r b a n) ∙ or-false _

  abbrev pub WindowRun : Run → Type 0
  WindowRun r = InWindow r.journal r.wire r.handed

  tick-window : (r : Run) (t : ℕ) → WindowRun r → WindowRun (tick script rules r t)
  unfolding tick to_resend
  tick-window r t w a b n h =
      cond_both (a == t) (r.wire a b ++ packets script rules r.journal a b (to_resend script rules r a b)) (r.wire a b) (λ ps. has_number ps n ≡ true → n < least_missing (length (numbered script r.journal a b)) (has_ack (r.handed b a)) + window_of script)
      (λ _ found.
      ⊎_elim
      (λ (x : has_number (r.wire a b) n ≡ true). w a b n x)
      (λ (x : has_number (packets script rules r.journal a b (to_resend script rules r a b)) n ≡ true).
      packets-number r.journal a b (λ k. k < least_missing (length (numbered script r.journal a b)) (has_ack (r.handed b a)) + window_of script) (to_resend script rules r a b)
      (all-weaker (λ k. (k < length (numbered script r.journal a b)) × ((is_sent r a b k && not (has_ack (r.handed b a) k)) ≡ true)) (λ k. k < least_missing (length (numbered script r.journal a b)) (has_ack (r.handed b a)) + window_of script) (λ k x. w a b k (and_parts _ _ x.1).0) (to_resend script rules r a b) (below-all (length (numbered script r.journal a b)) (λ k. is_sent r a b k && not (has_ack (r.handed b a) k))))
      n x)
      (number-append (r.wire a b) (packets script rules r.journal a b (to_resend script rules r a b)) n found))
      (λ _ found. w a b n found)
      h

  poll-window : (r : Run) (t : ℕ) → WindowRun r → WindowRun (poll script rules r t)
  unfolding poll to_send base
  poll-window r t w a b n h =
      let J = copy_each r.journal (ready script r.journal t) in
      let w' = window-grows r.journal J r.wire r.handed r.handed (grows-copied (ready script r.journal t) r.journal) (λ x y k e. e) w in
      let top = least_missing (length (numbered script J a b)) (has_ack (r.handed b a)) + window_of script in
      cond_both (a == t) (r.wire a b ++ sends script rules r J a b) (r.wire a b) (λ ps. has_number ps n ≡ true → n < top)
      (λ _ found.
      ⊎_elim
      (λ (x : has_number (r.wire a b) n ≡ true). w' a b n x)
      (λ (x : has_number (sends script rules r J a b) n ≡ true).
      packets-number J a b (λ k. k < top) (to_send script rules r J a b)
      (all-weaker (λ k. (k < length (numbered script J a b)) × ((not (is_sent r a b k) && nat_lt k top) ≡ true)) (λ k. k < top) (λ k x. ltb-true k top (and_parts _ _ x.1).1) (to_send script rules r J a b) (below-all (length (numbered script J a b)) (λ k. not (is_sent r a b k) && nat_lt k top)))
      n (sym (sends-number r J a b n) ∙ x))
      (number-append (r.wire a b) (sends script rules r J a b) n found))
      (λ _ found. w' a b n found)
      h

  -- what is handed over stays so
  pub handed-acks : (r : Run) (a b : ℕ) (p : Packet) → Acks r.handed (with_handed script rules r a b p).handed
  unfolding has_ack
  handed-acks r a b p x y n h = cond_both (x == a && y == b) (p ∷ r.handed x y) (r.handed x y) (λ ps. list_any (covers n) ps ≡ true) (λ _. or_right _ _ h) (λ _. h)

  -- and the acknowledgement that follows at once, if it does, adds no number to a wire
  pub ack-entry : (wire : Lists) (r : Run) (a b x y n : ℕ) → has_number (cond (x == b && y == a) (wire x y ++ at_once script rules (ack script rules r a b)) (wire x y)) n ≡ has_number (wire x y) n
  unfolding has_number
  ack-entry wire r a b x y n =
      cond_both (x == b && y == a) (wire x y ++ at_once script rules (ack script rules r a b)) (wire x y) (λ ps. list_any (is_number n) ps ≡ list_any (is_number n) (wire x y))
      (λ _. list_any-append (is_number n) (wire x y) (at_once script rules (ack script rules r a b)) ∙ ap (λ t. list_any (is_number n) (wire x y) || t) (once-none r a b n) ∙ or-false _)
      (λ _. refl)

  hand_over-window : (r : Run) (a b : ℕ) (p : Packet) → WindowRun r → WindowRun (hand_over script rules r a b p)
  unfolding hand_over
  hand_over-window r a b (Ack layout from to least bits) w = window-grows r.journal r.journal r.wire r.handed (with_handed script rules r a b (Ack layout from to least bits)).handed (λ x y. omega arith) (handed-acks r a b (Ack layout from to least bits)) w
  hand_over-window r a b (Data p) w =
      let events = cond (has_number (r.handed a b) p.seq) [] (first_delivery script rules r a b p.name p.seq) in
      let w' = window-grows r.journal (followed r.journal events) r.wire r.handed (with_handed script rules r a b (Data p)).handed (grows-followed events r.journal) (handed-acks r a b (Data p)) w in
      λ x y n h. w' x y n (sym (ack-entry r.wire (with_handed script rules r a b (Data p)) a b x y n) ∙ h)

  deliver-window : (r : Run) (a b k : ℕ) → WindowRun r → WindowRun (deliver script rules r a b k)
  unfolding deliver
  deliver-window r a b k w =
      elim (slice_get (r.wire a b) k) as (λ o. WindowRun (deliver_entry script rules r a b o)) [
        | None ↦ w
        | Some p ↦ hand_over-window r a b p w
      ]

  -- Lines that only add to the journal.
  pub followed-window : (r : Run) (es : List Event) → WindowRun r → InWindow (followed r.journal es) r.wire r.handed
  followed-window r es w = window-grows r.journal (followed r.journal es) r.wire r.handed r.handed (grows-followed es r.journal) (λ x y n h. h) w

  step-window : (r : Run) (a : ℕ) → WindowRun r → WindowRun (step script rules r a)
  unfolding step
  step-window r a w =
      let i = next r.journal a in
      cond_both (nat_lt i (length (statements script a))) (add_event script rules r (unless_refused script rules r a i (refusal_of script rules r.journal a i))) (reply_with script rules r Rattle.lapi_base.specs.declared.reply.Reply.TheVariants.Idle) WindowRun
      (λ _. elim (unless_refused script rules r a i (refusal_of script rules r.journal a i)) as (λ o. WindowRun (add_event script rules r o)) [ None ↦ w | Some e ↦ followed-window r (e ∷ []) w ])
      (λ _. w)

  begin-window : (r : Run) (t w : ℕ) → WindowRun r → WindowRun (begin script rules r t w)
  unfolding begin
  begin-window r t w h =
      elim (runs r.journal t w) as (λ o. WindowRun (begin_at script rules r t w o)) [
        | Some m ↦ h
        | None ↦ elim (queue script rules r.journal t) as (λ ms. WindowRun (begin_first script rules r t w ms)) [ [] ↦ h | m ∷ ms ↦ followed-window r (Begin m t w ∷ []) h ]
      ]

  end-window : (r : Run) (t w : ℕ) → WindowRun r → WindowRun (end script rules r t w)
  unfolding end
  end-window r t w h = elim (runs r.journal t w) as (λ o. WindowRun (end_at script rules r t w o)) [ None ↦ h | Some m ↦ followed-window r (End m t w ∷ after_end script rules m) h ]

  module _ (size : Packet → ℕ) (refusal : List ℕ → Bad) where
    pub perform-window : (r : Run) (act : Act) → WindowRun r → WindowRun (perform script rules size refusal r act)
    unfolding perform
    perform-window r (Step t) w = step-window r t w
    perform-window r (Poll t) w = poll-window r t w
    perform-window r (Tick t) w = tick-window r t w
    perform-window r (Deliver a b k) w = deliver-window r a b k w
    perform-window r (Cut a b k n) w = elim (slice_get (r.wire a b) k) as (λ o. WindowRun (cut_entry script rules size r n o)) [ Some p ↦ w | None ↦ w ]
    perform-window r (Inject a b bytes) w = w
    perform-window r (Act.Begin t w) h = begin-window r t w h
    perform-window r (Act.End t w) h = end-window r t w h

    pub run-window : (acts : List Act) → WindowRun (run_of script rules size refusal acts)
    unfolding run_of has_number
    run-window acts = after-any script rules size refusal WindowRun perform-window acts start (λ a b n h. absurd (false≢true h))
