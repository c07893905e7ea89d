-- A task is still where it has nothing to copy, what it sent is acknowledged, and it owes nothing.
use Rattle.std.proofs.Common.{◌≡◌, ℕ, zero, suc, ◌+◌, ◌-◌, ◌<◌, ◌==◌, Bool, true, false, ◌&&◌, ◌||◌, not, List, [], ◌∷◌, ◌++◌, length, map, min, Option, Some, refl, sym, ap, ◌∙◌, subst, ⊎_elim, inl, inr, arith}
use Rattle.std.specs.Prelude.{slice_get}
use Rattle.std.specs.List.{AllByRecursion, flat_map, list_all, list_any}
use Rattle.std.proofs.Math.Bool.{beq}
use Rattle.std.proofs.lemmas.Bool.{false≢true, and_left, and_right, and_cases, cases_Bool, ltb-true, eqb-true, not-true, not-false}
use Rattle.std.proofs.lemmas.List.Folds.{list_all-append}
use Rattle.std.proofs.lemmas.Option.{slice_get_within}
use Rattle.lapi_base.specs.declared.script.Script.{Script}
use Rattle.lapi_base.specs.declared.rule.Rules.{Rules}
use Rattle.lapi_base.specs.declared.event.Event.{Event}
use Rattle.lapi_base.specs.declared.message.MsgName.{MsgName}
use Rattle.lapi_base.specs.declared.packet.Packet.{Packet}
use Rattle.lapi_base.specs.declared.packet.Packet.TheVariants.{Data, Ack}
use Rattle.lapi_base.specs.Record.Below.{below, every_below, least_missing}
use Rattle.lapi_base.specs.Record.Final.{is_empty, is_idle, is_told}
use Rattle.lapi_base.specs.Packet.Layout.{window_of}
use Rattle.lapi_base.specs.Record.Names.{Copied, happened}
use Rattle.lapi_base.specs.Record.Operations.{numbers_below}
use Rattle.lapi_base.specs.Record.Operations as operations
use Rattle.lapi_base.specs.Record.Wires.{Run, numbered, base, to_send, has_number, is_number, is_acked}
use Rattle.lapi_base.specs.Record.Acts.{ready, to_copy_of}
use Rattle.lapi_base.specs.Record.WorldView.{IsRecord}
use Rattle.lapi_link.specs.Sender.{SendingEnd, sendable}
use Rattle.lapi_parts.proofs.LocalQuestions.{by_points}
use Rattle.lapi_parts.proofs.SentFront.{polls-next}
use Rattle.lapi_window.specs.SendWindow.{sent_count, base_of, unacked}
use Rattle.lapi_window.specs.SendWindow as window
use Rattle.lapi_task.specs.declared.state.State.{State}
use Rattle.lapi_task.specs.declared.task.Task.{Task}
use Rattle.lapi_task.specs.HasEffect.{IsAt}
use Rattle.lapi_jobs.specs.Jobs.{count_running}
use Rattle.lapi_task.specs.HasJobs.{is_free}
use Rattle.lapi_task.specs.Sends.{SendsFor}
use Rattle.lapi_task.specs.StandsFor.{is_uncopied, SenderAt, HoldsFor}
use Rattle.lapi_task.specs.Still.{is_heard, is_still}
use Rattle.lapi_task.proofs.Working.JobCounts.{some, none-below, jobs-none}
use Rattle.lapi_base.proofs.BelowLaws.{every_below-at, every_below-from}
use Rattle.lapi_base.proofs.ListLaws.{all-get, any-all, any-get, get-some, list_all-at, list_all-each, flat_map-push, some-same}
use Rattle.lapi_base.proofs.TestLaws.{eqb-refl, same_tests}

-- Lists and numbers below a bound.
all-from : {X : Type 0} (P : X → Type 0) (xs : List X) → ((k : ℕ) (x : X) → slice_get xs k ≡ Some x → P x) → AllByRecursion P xs
all-from P [] f = tt
all-from P (x ∷ xs) f = (f zero x refl, all-from P xs (λ k y e. f (suc k) y e))

all-at : {X : Type 0} (p : X → Bool) (q : ℕ → Bool) (xs : List X) → ((k : ℕ) (x : X) → slice_get xs k ≡ Some x → p x ≡ q k) → list_all p xs ≡ every_below (length xs) q
all-at p q xs f =
    same_tests (list_all p xs) (every_below (length xs) q)
    (λ all. every_below-from (length xs) q (λ k lt. let some = get-some xs k lt in sym (f k some.0 some.1) ∙ all-get (λ x. p x ≡ true) xs k some.0 (list_all-each p xs all) some.1))
    (λ all. list_all-at p xs (all-from (λ x. p x ≡ true) xs (λ k x at. f k x at ∙ every_below-at (length xs) q k all (slice_get_within xs k x at))))

all-over : {X : Type 0} (p : X → Bool) (f : ℕ → List X) (n : ℕ) → list_all p (flat_map f (numbers_below n)) ≡ every_below n (λ i. list_all p (f i))
unfolding numbers_below below every_below
all-over p f zero = refl
all-over p f (suc n) = ap (list_all p) (flat_map-push f (numbers_below n) n) ∙ list_all-append p (flat_map f (numbers_below n)) (f n) ∙ ap (λ b. b && list_all p (f n)) (all-over p f n)

blank-push : (f : ℕ → ℕ) (xs : List ℕ) (x : ℕ) → is_empty (map f (xs ++ x ∷ [])) ≡ false
blank-push f [] x = refl
blank-push f (y ∷ xs) x = refl

blank-upto : (f : ℕ → ℕ) (n : ℕ) → is_empty (map f (numbers_below n)) ≡ (n == 0)
unfolding numbers_below below
blank-upto f zero = refl
blank-upto f (suc n) = blank-push f (numbers_below n) n ∙ sym (some n)

pub room : (n m low low' size size' sent waits : ℕ) → n ≡ m → low ≡ low' → size' ≡ size → sent + waits ≡ m → min n (low + size) - sent ≡ min waits (low' + size' - sent)
room n m low low' size size' sent waits a b c d = omega arith

-- no flag is set where none is found
pub none-set : (flags : List Bool) → not (list_any (λ flag. beq flag true) flags) ≡ list_all not flags
none-set [] = refl
none-set (true ∷ flags) = refl
none-set (false ∷ flags) = none-set flags

-- the test that an end of a link makes
abbrev pub settled : SendingEnd → Bool
settled s = length (unacked s.window) == 0 && sendable s == 0

module _ (script : Script) (rules : Rules) (r : Run) (a b : ℕ) (s : SendingEnd) (h : SendsFor script rules s r a b) where
  left : ℕ → Bool
  left n = window.is_sent s.window n && not (window.is_acked s.window n)

  told-number : (n : ℕ) (p : Packet) → is_number n p ≡ true → is_told script rules r a b p ≡ true → is_acked r a b n ≡ true
  told-number n (Data p) e t = subst (λ k. is_acked r a b k ≡ true) (eqb-true p.seq n e) t
  told-number n (Ack layout from to least bits) e t = absurd (false≢true e)

  none-left : list_all (is_told script rules r a b) (r.wire a b) ≡ true → (n : ℕ) → not (left n) ≡ true
  unfolding has_number left
  none-left all n = elim (cases_Bool (window.is_sent s.window n)) [
    | inl sent ↦
        let found = any-all (is_number n) (λ p. is_told script rules r a b p ≡ true) (r.wire a b) (list_all-each (is_told script rules r a b) (r.wire a b) all) (h.numbers.sent n ∙ sent) in
        let acked = sym (h.numbers.acked n) ∙ told-number n found.0 found.2 found.1 in
        ap not (and_right (window.is_sent s.window n) (not (window.is_acked s.window n)) (ap not acked))
    | inr waits ↦ ap not (and_left (window.is_sent s.window n) (not (window.is_acked s.window n)) waits)
  ]

  told-each : ((n : ℕ) → n < s.window.numbers → not (left n) ≡ true) → (k : ℕ) (p : Packet) → slice_get (r.wire a b) k ≡ Some p → is_told script rules r a b p ≡ true
  unfolding has_number left
  told-each none k (Ack layout from to least bits) at = refl
  told-each none k (Data p) at =
      let sent : window.is_sent s.window p.seq ≡ true = sym (h.numbers.sent p.seq) ∙ any-get (is_number p.seq) (r.wire a b) k (Data p) at (eqb-refl p.seq) in
      let early = ltb-true p.seq (sent_count s.window) sent in
      let whole = h.whole in
      let within : p.seq < s.window.numbers = omega (arith, early, whole) in
      h.numbers.acked p.seq
      ∙ ⊎_elim
      (λ (waits : window.is_sent s.window p.seq ≡ false). absurd (false≢true (sym waits ∙ sent)))
      (λ (no : not (window.is_acked s.window p.seq) ≡ false). not-false (window.is_acked s.window p.seq) no)
      (and_cases (window.is_sent s.window p.seq) (not (window.is_acked s.window p.seq)) (not-true (left p.seq) (none p.seq within)))

  told-is : list_all (is_told script rules r a b) (r.wire a b) ≡ (length (unacked s.window) == 0)
  unfolding left
  told-is =
      same_tests (list_all (is_told script rules r a b) (r.wire a b)) (every_below s.window.numbers (λ n. not (left n)))
      (λ all. every_below-from s.window.numbers (λ n. not (left n)) (λ n lt. none-left all n))
      (λ none. list_all-at (is_told script rules r a b) (r.wire a b) (all-from (λ p. is_told script rules r a b p ≡ true) (r.wire a b) (told-each (λ n lt. every_below-at s.window.numbers (λ k. not (left k)) n none lt))))
      ∙ none-below s.window.numbers left

  base-is : base script r a b ≡ base_of s.window
  unfolding base
  base-is = λ i. least_missing (sym h.numbers.numbers i) (λ n. h.numbers.acked n i)

  fresh-is : IsRecord script rules r → is_empty (to_send script rules r r.journal a b) ≡ (sendable s == 0)
  fresh-is is =
      let sent = sent_count s.window in
      ap is_empty (polls-next script rules r is r.journal a b sent h.numbers.sent)
      ∙ blank-upto (λ i. sent + i) (min (length (numbered script r.journal a b)) (base script r a b + window_of script) - sent)
      ∙ ap (λ n. n == 0) (room (length (numbered script r.journal a b)) s.window.numbers (base script r a b) (base_of s.window) (window_of script) s.window.window sent (length s.waiting) (sym h.numbers.numbers) base-is h.numbers.size h.whole)

  pub heard-is : IsRecord script rules r → settled s ≡ is_heard script rules r a b
  heard-is is =
      ap (λ x. x && sendable s == 0) (sym told-is)
      ∙ ap (λ x. list_all (is_told script rules r a b) (r.wire a b) && x) (sym (fresh-is is))

module _ (script : Script) (rules : Rules) where
  -- All messages of a statement are copied where none of them waits.
  all-none : (f : MsgName → Bool) (ms : List MsgName) → list_all f ms ≡ not (list_any (λ m. not (f m)) ms)
  all-none f [] = refl
  all-none f (m ∷ ms) = ap (λ x. f m && x) (all-none f ms) ∙ both (f m) (list_any (λ m. not (f m)) ms)
    where
      both : (a b : Bool) → (a && not b) ≡ not (not a || b)
      both true b = refl
      both false b = refl

  copied-is : (J : List Event) (t i : ℕ) → list_all (λ m. happened (Copied m) J) (to_copy_of script J t i) ≡ not (is_uncopied script J t i)
  copied-is J t i = all-none (λ m. happened (Copied m) J) (to_copy_of script J t i)

  pub idle-is : (t : ℕ) (state : State) (r : Run) → HoldsFor script rules t state r.journal → is_idle script rules r t ≡ is_free state
  unfolding is_idle ready
  idle-is t state r h =
      let count = length (operations.statements script t) in
      let copied : list_all (λ m. happened (Copied m) r.journal) (ready script r.journal t) ≡ (length state.uncopied.items == 0) =
      all-over (λ m. happened (Copied m) r.journal) (to_copy_of script r.journal t) count
      ∙ ap (every_below count) (by_points _ _ (copied-is r.journal t))
      ∙ none-below count (is_uncopied script r.journal t)
      ∙ ap (λ (xs : List ℕ). length xs == 0) (sym h.uncopied) in
      ap (λ b. b && list_all (λ m. happened (Copied m) r.journal) (ready script r.journal t)) (jobs-none script rules t state.jobs r.journal h.jobs)
      ∙ ap (λ b. (length state.jobs.waiting == 0 && count_running state.jobs == 0) && b) copied

  sender-there : (r : Run) (t b : ℕ) (o : Option SendingEnd) (s : SendingEnd) → SenderAt script rules r t b o → o ≡ Some s → SendsFor script rules s r t b
  sender-there r t b o s h e = subst (SenderAt script rules r t b) e h

  links-heard : (t : ℕ) (task : Task) (r : Run) → IsAt script rules t task r → list_all settled task.senders.items ≡ every_below script.tasks (is_heard script rules r t)
  links-heard t task r at =
      let ends = task.senders.items in
      let stands = at.stands in
      all-at settled (is_heard script rules r t) ends (λ b s there.
      let known : b < script.tasks = subst (λ n. b < n) stands.sender_count (slice_get_within ends b s there) in
      heard-is script rules r t b s (sender-there r t b (slice_get ends b) s (stands.senders b known) there) at.recorded)
      ∙ ap (λ n. every_below n (is_heard script rules r t)) stands.sender_count

  none-owed : (t : ℕ) (task : Task) (r : Run) → IsAt script rules t task r → list_all not task.owed.items ≡ every_below script.tasks (λ a. not (r.owed a t))
  none-owed t task r at =
      let flags = task.owed.items in
      let stands = at.stands in
      all-at not (λ a. not (r.owed a t)) flags (λ a owed there.
      let known : a < script.tasks = subst (λ n. a < n) stands.owed_count (slice_get_within flags a owed there) in
      ap not (some-same owed (r.owed a t) (sym there ∙ stands.owed a known)))
      ∙ ap (λ n. every_below n (λ a. not (r.owed a t))) stands.owed_count

  pub still-is : (t : ℕ) (task : Task) (r : Run) → IsAt script rules t task r → (is_free task.state && list_all settled task.senders.items && list_all not task.owed.items) ≡ is_still script rules r t
  still-is t task r at = λ i. sym (idle-is t task.state r at.stands.holds) i && links-heard t task r at i && none-owed t task r at i
