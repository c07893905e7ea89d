-- What is not done after an acknowledgement came.
use Rattle.std.proofs.Common.{◌≡◌, ℕ, ◌+◌, ◌<◌, ◌≤◌, ◌==◌, Bool, true, false, ◌&&◌, not, List, get_or, Some, refl, sym, ap, ◌∙◌, subst, ⊎_elim, arith}
use Rattle.std.specs.Prelude.{slice_get, slice_index}
use Rattle.std.proofs.lemmas.Bool.{and_left, and_right, cases_eq, cases_lt, eq-eqb, ne_eqb}
use Rattle.lapi_base.specs.declared.script.Script.{Script}
use Rattle.lapi_base.specs.declared.rule.Rules.{Rules}
use Rattle.lapi_base.specs.declared.event.Event.{Event}
use Rattle.lapi_base.specs.declared.message.Leg.TheVariants.{Go}
use Rattle.lapi_base.specs.declared.packet.Packet.{Packet}
use Rattle.lapi_base.specs.declared.packet.Packet.TheVariants.{Ack}
use Rattle.lapi_base.specs.declared.schedule.Act.TheVariants.{Deliver}
use Rattle.lapi_base.specs.Laws.Copying.{numbers_that, unacknowledged}
use Rattle.lapi_base.specs.Record.Names.{message, happened, Issued, Copied}
use Rattle.lapi_base.specs.Record.Operations.{statement, is_data, has_back, receiver}
use Rattle.lapi_base.specs.Record.Wires.{Run, numbered, covers, is_acked, has_ack}
use Rattle.lapi_base.specs.Record.WorldView.{performed}
use Rattle.lapi_link.specs.Sender.{SendingEnd, newly_acked}
use Rattle.lapi_parts.proofs.CopiedCounts.{count_in, uncopied-count, count-is, counted-same}
use Rattle.lapi_parts.proofs.LocalQuestions.{by_points}
use Rattle.lapi_parts.proofs.UnackedCounts.{done-is, acks-lower}
use Rattle.lapi_window.specs.NumberSet.{is_covered}
use Rattle.lapi_window.specs.SendWindow as window
use Rattle.lapi_task.specs.declared.task.Task.{Task}
use Rattle.lapi_task.specs.declared.unfinished.Unfinished.{Unfinished}
use Rattle.lapi_task.specs.HasEffect.{IsAt}
use Rattle.lapi_task.specs.Unfinished.{times, is_unfinished, Tracks}
use Rattle.lapi_collect.specs.Outstanding.{is_open}
use Rattle.lapi_task.proofs.Acknowledging.ArrivingAcks.{noted, delivered, handed-other, here, covers-sent}
use Rattle.lapi_task.proofs.Receiving.ReceiveHolds.{delivers}
use Rattle.lapi_task.proofs.Acknowledging.TimesLaws.{HasTaken, still, still-none, still-some, still-last}
use Rattle.lapi_task.proofs.Acknowledging.UnfinishedAcks.{newly, counted, uncounted, elsewhere}
use Rattle.lapi_task.proofs.Acknowledging.UnfinishedLaws.{done-back}
use Rattle.lapi_task.specs.Sends.{SendsFor}

module _ (script : Script) (rules : Rules) (r : Run) (from t k l x y base bits : ℕ) (task : Task) (at : IsAt script rules t task r) (known : from < script.tasks) (entry : slice_get (r.wire from t) k ≡ Some (Ack l x y base bits)) (end : SendingEnd) (read : end ≡ get_or task.senders.items from end) where
  abbrev J : List Event
  J = r.journal

  abbrev then : Run
  then = noted script rules r from t k l x y base bits

  abbrev told : List ℕ
  told = newly_acked end base bits

  sends : SendsFor script rules end r t from
  sends = (here script rules r from t k l x y base bits task at known entry end read).1

  sent : (n : ℕ) → is_covered base bits n ≡ true → n < window.sent_count end.window
  sent = covers-sent script rules r from t k l x y base bits task at known entry end read

  abbrev first : ℕ → Bool
  first = newly script t rules from J end sends.numbers.numbers sends.tags base bits sent

  times-is : (i : ℕ) → has_back (statement script t i) ≡ false → times i told ≡ count_in script (message t i Go) (numbered script J t from) first
  times-is = counted script t rules from J end sends.numbers.numbers sends.tags base bits sent

  times-none : (i : ℕ) → has_back (statement script t i) ≡ true → times i told ≡ 0
  times-none = uncounted script t rules from J end sends.numbers.numbers sends.tags base bits sent

  count-away : (i : ℕ) → (receiver script (message t i Go) ≡ from → ⊥) → count_in script (message t i Go) (numbered script J t from) first ≡ 0
  count-away = elsewhere script t rules from J end sends.numbers.numbers sends.tags base bits sent

  performs : (b : ℕ) → b ≡ from → performed script rules r (Deliver b t k) ≡ then
  performs b same = ap (λ c. performed script rules r (Deliver c t k)) same ∙ delivers script rules t r from k ∙ delivered script rules r from t k l x y base bits entry

  counts-same : (i b : ℕ) → b ≡ from → numbers_that script rules r (message t i Go) (λ n. covers n (Ack l x y base bits) && not (is_acked r t b n)) ≡ numbers_that script rules r (message t i Go) first
  unfolding is_covered
  counts-same i b same = ap (numbers_that script rules r (message t i Go)) (by_points (λ n. covers n (Ack l x y base bits) && not (is_acked r t b n)) first (λ n. ap (λ o. is_covered base bits n && not o) (ap (λ c. is_acked r t c n) same ∙ sends.numbers.acked n)))

  that-count : (i : ℕ) → receiver script (message t i Go) ≡ from → numbers_that script rules r (message t i Go) first ≡ count_in script (message t i Go) (numbered script J t from) first
  unfolding numbers_that count_in
  that-count i same = ap (λ b. count_in script (message t i Go) (numbered script J t b) first) same

  lowered : (i : ℕ) → unacknowledged script rules then t i + count_in script (message t i Go) (numbered script J t from) first ≡ unacknowledged script rules r t i
  lowered i =
      let b = receiver script (message t i Go) in
      ⊎_elim
      (λ (same : b ≡ from).
      (λ j. unacknowledged script rules (sym (performs b same) j) t i + sym (counts-same i b same ∙ that-count i same) j)
      ∙ acks-lower script rules r at.recorded t i k l x y base bits (subst (λ c. slice_get (r.wire c t) k ≡ Some (Ack l x y base bits)) (sym same) entry))
      (λ (apart : b ≡ from → ⊥).
      (λ j. unacknowledged script rules then t i + count-away i apart j)
      ∙ (let q : unacknowledged script rules then t i + 0 ≡ unacknowledged script rules then t i = omega arith in q)
      ∙ counted-same script rules then t i (is_acked r t b) (λ n. ap (λ (ps : List Packet). has_ack ps n) (handed-other script rules r from t k l x y base bits b (ne_eqb b from apart)))
      ∙ sym (count-is script rules r t i))
      (cases_eq b from)

  uncopied : (i : ℕ) → has_back (statement script t i) ≡ false → happened (Copied (message t i Go)) J ≡ false → times i told ≡ 0
  uncopied i none new =
      let b = receiver script (message t i Go) in
      times-is i none
      ∙ ⊎_elim
      (λ (same : b ≡ from). ap (λ c. count_in script (message t i Go) (numbered script J t c) first) (sym same) ∙ uncopied-count script (message t i Go) J first new)
      (λ (apart : b ≡ from → ⊥). count-away i apart)
      (cases_eq b from)

  less : (i : ℕ) → has_back (statement script t i) ≡ false → unacknowledged script rules then t i + times i told ≡ unacknowledged script rules r t i
  less i none = ap (λ n. unacknowledged script rules then t i + n) (times-is i none) ∙ lowered i

  module _ (u : Unfinished) (h : Tracks script rules t u r) where
    module _ (after : Unfinished) (g : HasTaken u after told) where
      abbrev unfinished-by : (d i c : Bool) (n : ℕ) → Bool
      unfinished-by d i c n = d && (i && not (c && n == 0))

      by-count : (w : Run) (i : ℕ) → has_back (statement script t i) ≡ false → is_unfinished script w t i ≡ unfinished-by (is_data (statement script t i)) (happened (Issued t i) w.journal) (happened (Copied (message t i Go)) w.journal) (unacknowledged script rules w t i)
      by-count w i none = ap (λ b. is_data (statement script t i) && (happened (Issued t i) w.journal && not b)) (done-is script rules w t i none)

      open-some : (d i : Bool) (n : ℕ) → 0 < n → unfinished-by d i true n ≡ (d && (i && true))
      open-some d i n l = ap (λ b. d && (i && not b)) (ne_eqb n 0 (λ e. absurd (omega (arith, l, e))))

      open-none : (d i : Bool) (n : ℕ) → n ≡ 0 → unfinished-by d i true n ≡ false
      open-none d i n e = ap (λ b. d && (i && not b)) (eq-eqb n 0 e) ∙ and_right d _ (and_right i false refl)

      -- the flag of data that were copied
      flagged : (d i : Bool) (before left taken : ℕ) → left + taken ≡ before → still (unfinished-by d i true before) taken left ≡ unfinished-by d i true left
      flagged d i before left taken e =
          ⊎_elim
          (λ (some : 0 < left).
          still-some (unfinished-by d i true before) taken left some
          ∙ open-some d i before (omega (arith, some, e))
          ∙ sym (open-some d i left some))
          (λ (none : left ≤ 0).
          let zero_left : left ≡ 0 = omega (arith, none) in
          ⊎_elim
          (λ (some : 0 < taken). still-last (unfinished-by d i true before) taken left some zero_left ∙ sym (open-none d i left zero_left))
          (λ (less : taken ≤ 0). still-none (unfinished-by d i true before) taken left (omega (arith, less)) ∙ ap (unfinished-by d i true) (let q : before ≡ left = omega (arith, e, less) in q))
          (cases_lt 0 taken))
          (cases_lt 0 left)

      left-now : (i : ℕ) → has_back (statement script t i) ≡ false → happened (Copied (message t i Go)) J ≡ true → slice_index after.left i ≡ unacknowledged script rules then t i
      left-now i none d = let a = g.left i in let b = h.left i none d in let c = less i none in omega (arith, a, b, c)

      undone-now : (i : ℕ) → (c : Bool) → happened (Copied (message t i Go)) J ≡ c → has_back (statement script t i) ≡ false → is_open after.undone i ≡ is_unfinished script then t i
      undone-now i true d none =
          let has = is_data (statement script t i) in
          let issued = happened (Issued t i) J in
          g.undone i
          ∙ (λ j. still ((h.undone i ∙ by-count r i none ∙ ap (λ b. unfinished-by has issued b (unacknowledged script rules r t i)) d) j) (times i told) (left-now i none d j))
          ∙ flagged has issued (unacknowledged script rules r t i) (unacknowledged script rules then t i) (times i told) (less i none)
          ∙ ap (λ b. unfinished-by has issued b (unacknowledged script rules then t i)) (sym d)
          ∙ sym (by-count then i none)
      undone-now i false d none =
          let has = is_data (statement script t i) in
          let issued = happened (Issued t i) J in
          g.undone i
          ∙ still-none (is_open u.undone i) (times i told) (slice_index after.left i) (uncopied i none d)
          ∙ h.undone i
          ∙ by-count r i none
          ∙ (λ j. has && (issued && not (and_left (happened (Copied (message t i Go)) J) (unacknowledged script rules r t i == 0) d j)))
          ∙ sym (λ j. has && (issued && not (and_left (happened (Copied (message t i Go)) J) (unacknowledged script rules then t i == 0) d j)))
          ∙ sym (by-count then i none)

      undone-back : (i : ℕ) → has_back (statement script t i) ≡ true → is_open after.undone i ≡ is_unfinished script then t i
      undone-back i back =
          g.undone i
          ∙ still-none (is_open u.undone i) (times i told) (slice_index after.left i) (times-none i back)
          ∙ h.undone i
          ∙ ap (λ b. is_data (statement script t i) && (happened (Issued t i) J && not b)) (done-back script rules t r i back ∙ sym (done-back script rules t then i back))

      -- what is not done then
      pub tracks-noted : Tracks script rules t after then
      tracks-noted = record {
        size = (g.size.0 ∙ h.size.0, g.size.1 ∙ h.size.1);
        undone = λ i.
            elim (has_back (statement script t i)) as (λ b. has_back (statement script t i) ≡ b → is_open after.undone i ≡ is_unfinished script then t i) [
              | true ↦ λ e. undone-back i e
              | false ↦ λ e. undone-now i (happened (Copied (message t i Go)) J) refl e
            ] refl;
        left = λ i none d. left-now i none d;
      }
