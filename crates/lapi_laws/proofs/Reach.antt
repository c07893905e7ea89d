-- What was delivered was sent, so all that was delivered or sent stays in the window.
use Rattle.std.proofs.Common.{◌≡◌, ℕ, ◌+◌, ◌<◌, ◌==◌, Bool, true, cond, ◌&&◌, List, [], ◌∷◌, ◌++◌, length, Some, None, refl, sym, ◌∙◌, subst, ⊎_elim, arith}
use Rattle.std.specs.Prelude.{slice_get, nat_lt}
use Rattle.std.specs.List.{AllByRecursion, list_any}
use Rattle.std.proofs.lemmas.Bool.{false≢true, and_parts, cond_both, eqb-true, or_cases, or_left}
use Rattle.std.proofs.lemmas.List.Folds.{list_any-append}
use Rattle.lapi_base.specs.declared.script.Script.{Script}
use Rattle.lapi_base.specs.declared.rule.Rules.{Rules}
use Rattle.lapi_base.specs.declared.schedule.Act.{Act}
use Rattle.lapi_base.specs.declared.schedule.Act.TheVariants.{Step, Poll, Tick, Deliver, Cut, Inject}
use Rattle.lapi_base.specs.declared.reply.Reply.TheVariants.{Idle}
use Rattle.lapi_base.specs.declared.reply.Bad.{Bad}
use Rattle.lapi_base.specs.declared.packet.Packet.{Packet}
use Rattle.lapi_base.specs.declared.packet.Packet.TheVariants.{Data, Ack}
use Rattle.lapi_base.specs.Record.Operations.{statements}
use Rattle.lapi_base.specs.Record.Refusals.{next, refusal_of}
use Rattle.lapi_base.specs.Record.Jobs.{queue, runs}
use Rattle.lapi_base.specs.Record.Valid.{ValidAct}
use Rattle.lapi_base.specs.Record.Wires.{Run, start, numbered, is_number, has_number, is_delivered, is_acked, packets, sends, to_resend, least_undelivered, IsEntry}
use Rattle.lapi_base.specs.Record.Acts.{ready, copy_each, poll, tick, with_handed, hand_over, deliver, deliver_entry, unless_refused, add_event, reply_with, step, begin_first, begin_at, begin, end_at, end, cut_entry, perform, run_of}
use Rattle.lapi_base.specs.Laws.Headline.{HoldsOfRuns}
use Rattle.lapi_base.specs.Packet.Layout.{window_of}
use Rattle.lapi_base.specs.Laws.Links.{StaysInWindow}
use Rattle.lapi_base.proofs.BelowLaws.{least_missing-grows}
use Rattle.lapi_base.proofs.ListLaws.{any-get}
use Rattle.lapi_base.proofs.EveryRun.{after-any}
use Rattle.lapi_laws.proofs.Sound.{Lists, acked-delivered}
use Rattle.lapi_laws.proofs.Runs.{run-sound}
use Rattle.lapi_laws.proofs.SentWindow.{ack-entry, run-window}

-- a number of a list is one of a longer list
number-front : (xs ys : List Packet) (n : ℕ) → has_number xs n ≡ true → has_number (xs ++ ys) n ≡ true
unfolding has_number
number-front xs ys n h = list_any-append (is_number n) xs ys ∙ or_left _ _ h

-- what was sent is below the least number that wasn't delivered, plus the window
pub sent-reach : HoldsOfRuns StaysInWindow
sent-reach script rules spells size refusal acts v = λ a b n h.
    let r = run_of script rules size refusal acts in
    let count = length (numbered script r.journal a b) in
    omega (arith, run-window script rules size refusal acts a b n h, least_missing-grows count count (is_acked r a b) (is_delivered r a b) (omega arith) (λ k e. acked-delivered script rules r.journal r.wire r.handed (run-sound script rules spells size refusal acts v) a b k e))

module _ (script : Script) (rules : Rules) where
  -- every number that was delivered was sent
  abbrev pub WasSent : Lists → Lists → Type 0
  WasSent wire handed = (a b n : ℕ) → has_number (handed a b) n ≡ true → has_number (wire a b) n ≡ true

  -- and so in a run
  abbrev pub SentRun : Run → Type 0
  SentRun r = WasSent r.wire r.handed

  -- more entries of a task's wires
  more-sent : (wire handed : Lists) (t : ℕ) (new : (a b : ℕ) → List Packet) → WasSent wire handed → WasSent (λ a b. cond (a == t) (wire a b ++ new a b) (wire a b)) handed
  more-sent wire handed t new h a b n d = cond_both (a == t) (wire a b ++ new a b) (wire a b) (λ ps. has_number ps n ≡ true) (λ _. number-front (wire a b) (new a b) n (h a b n d)) (λ _. h a b n d)

  -- an entry of the wire that is handed over
  handed-sent : (r : Run) (a b k : ℕ) (p : Packet) → IsEntry r a b k p → SentRun r → SentRun (with_handed script rules r a b p)
  unfolding has_number
  handed-sent r a b k p e h x y n =
      cond_both (x == a && y == b) (p ∷ r.handed x y) (r.handed x y) (λ ps. list_any (is_number n) ps ≡ true → list_any (is_number n) (r.wire x y) ≡ true)
      (λ t d.
      ⊎_elim
      (λ (is : is_number n p ≡ true).
      let ends = and_parts _ _ t in
      subst (λ v. list_any (is_number n) (r.wire x v) ≡ true) (sym (eqb-true y b ends.1)) (subst (λ u. list_any (is_number n) (r.wire u b) ≡ true) (sym (eqb-true x a ends.0)) (any-get (is_number n) (r.wire a b) k p e is)))
      (λ (old : list_any (is_number n) (r.handed x y) ≡ true). h x y n old)
      (or_cases _ _ d))
      (λ _ d. h x y n d)

  -- and the acknowledgement of it
  hand_over-sent : (r : Run) (a b k : ℕ) (p : Packet) → IsEntry r a b k p → SentRun r → SentRun (hand_over script rules r a b p)
  unfolding hand_over
  hand_over-sent r a b k (Ack layout from to base bits) e h x y n d = handed-sent r a b k (Ack layout from to base bits) e h x y n d
  hand_over-sent r a b k (Data p) e h x y n d =
      ack-entry script rules r.wire (with_handed script rules r a b (Data p)) a b x y n ∙ handed-sent r a b k (Data p) e h x y n d

  module _ (spells : List ℕ → Bool) (size : Packet → ℕ) (refusal : List ℕ → Bad) where
    -- one line of a schedule
    perform-sent : (r : Run) (act : Act) → SentRun r → SentRun (perform script rules size refusal r act)
    unfolding perform step poll tick deliver begin end
    perform-sent r (Step a) h =
        cond_both (nat_lt (next r.journal a) (length (statements script a))) (add_event script rules r (unless_refused script rules r a (next r.journal a) (refusal_of script rules r.journal a (next r.journal a)))) (reply_with script rules r Idle) SentRun
        (λ _. elim (unless_refused script rules r a (next r.journal a) (refusal_of script rules r.journal a (next r.journal a))) as (λ o. SentRun (add_event script rules r o)) [ None ↦ h | Some e ↦ h ])
        (λ _. h)
    perform-sent r (Poll t) h = let J = copy_each r.journal (ready script r.journal t) in more-sent r.wire r.handed t (λ a b. sends script rules r J a b) h
    perform-sent r (Tick t) h = more-sent r.wire r.handed t (λ a b. packets script rules r.journal a b (to_resend script rules r a b)) h
    perform-sent r (Deliver a b k) h =
        elim (slice_get (r.wire a b) k) as (λ o. slice_get (r.wire a b) k ≡ o → SentRun (deliver_entry script rules r a b o)) [
          | None ↦ λ e. h
          | Some p ↦ λ e. hand_over-sent r a b k p e h
        ] refl
    perform-sent r (Cut a b k n) h = elim (slice_get (r.wire a b) k) as (λ o. SentRun (cut_entry script rules size r n o)) [ Some p ↦ h | None ↦ h ]
    perform-sent r (Inject a b bytes) h = h
    perform-sent r (Act.Begin t w) h =
        elim (runs r.journal t w) as (λ o. SentRun (begin_at script rules r t w o)) [
          | Some m ↦ h
          | None ↦ elim (queue script rules r.journal t) as (λ ms. SentRun (begin_first script rules r t w ms)) [ [] ↦ h | m ∷ ms ↦ h ]
        ]
    perform-sent r (Act.End t w) h = elim (runs r.journal t w) as (λ o. SentRun (end_at script rules r t w o)) [ None ↦ h | Some m ↦ h ]

    -- and all of them
    pub run-sent : (acts : List Act) → SentRun (run_of script rules size refusal acts)
    unfolding run_of has_number
    run-sent acts = after-any script rules size refusal SentRun perform-sent acts start (λ a b n h. absurd (false≢true h))

    -- what was delivered is below the least number that wasn't, plus the window
    pub delivered-reach : (acts : List Act) → AllByRecursion (ValidAct script spells) acts → (a b n : ℕ) → is_delivered (run_of script rules size refusal acts) a b n ≡ true → n < least_undelivered script (run_of script rules size refusal acts) a b + window_of script
    delivered-reach acts v a b n d = sent-reach script rules spells size refusal acts v a b n (run-sent acts a b n d)
