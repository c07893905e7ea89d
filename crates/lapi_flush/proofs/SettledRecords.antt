-- Two sweeps settle a record.
use Rattle.std.proofs.Common.{◌*◌, ◌≡◌, ◌⊎◌, ℕ, ◌+◌, ◌<◌, ◌≤◌, ◌==◌, Bool, true, false, cond, ◌&&◌, not, List, [], ◌∷◌, ◌++◌, length, refl, sym, ap, ◌∙◌, subst, ⊎_elim, inl, inr, arith}
use Rattle.std.specs.Prelude.{nat_lt, is_some}
use Rattle.std.specs.List.{AllByRecursion, list_all}
use Rattle.std.proofs.lemmas.Bool.{false≢true, and_parts, and_from, and_left, both_ways, cond-true, cond-false, cond_both, cases_lt, ltb-true, eqb-true, false_from_ne_true}
use Rattle.std.proofs.lemmas.List.{length-append, length-map}
use Rattle.lapi_base.specs.declared.script.Script.{Script}
use Rattle.lapi_base.specs.declared.rule.Rules.{Rules}
use Rattle.lapi_base.specs.declared.message.Leg.{Leg}
use Rattle.lapi_base.specs.declared.message.Leg.TheVariants.{Go, Back, Note, Echo, Join}
use Rattle.lapi_base.specs.declared.message.MsgName.{MsgName}
use Rattle.lapi_base.specs.declared.event.Event.{Event}
use Rattle.lapi_base.specs.declared.event.Event.TheVariants.{Issue, Refuse, Enter, Pass, Copy, Head, Land, Begin, End}
use Rattle.lapi_base.specs.Record.Names.{message, Issued, Entered, Copied, Landed, Begun, Ended, happened}
use Rattle.lapi_base.specs.Record.Operations.{numbers_below, statements, statement, sender, receiver, fragments, fragment_count, is_data, has_back, has_join, has_leg, cmpl_counter}
use Rattle.lapi_base.specs.Record.Handlers.{has_completion, answers}
use Rattle.lapi_base.specs.Packet.Spelling.{refusal}
use Rattle.lapi_base.specs.Packet.PacketBytes.{packet_size}
use Rattle.lapi_base.specs.Record.Wires.{Run, numbered}
use Rattle.lapi_base.specs.Record.Acts.{joins, to_copy_of, ready, after, note_of}
use Rattle.lapi_base.specs.Record.Atomic.{Atomic, needs, to_land, only_if, has_statement}
use Rattle.lapi_base.specs.Record.WorldView.{record_of, IsRecord, HoldsOfRecords}
use Rattle.lapi_base.proofs.ListLaws.{list_all-at, all-weaker}
use Rattle.lapi_base.proofs.NameLaws.{happened-later, happened-head}
use Rattle.lapi_laws.proofs.Backward.{Atomic-head, Atomic-tail, closed, there}
use Rattle.lapi_laws.proofs.Shorts.{last-of}
use Rattle.lapi_base.proofs.UptoLaws.{numbers_below-length}
use Rattle.lapi_laws.proofs.Follows.{Stand, Owes, after-owes, run-owes}
use Rattle.lapi_laws.proofs.Quiet.{numbers_below-each, joins-each, join-no_data, target-room}
use Rattle.lapi_laws.proofs.Lines.{SoundRun}
use Rattle.lapi_laws.proofs.Still.{back-data}
use Rattle.lapi_laws.proofs.SentWindow.{grows-cons}
use Rattle.lapi_parts.proofs.Records.{record-sound}
use Rattle.lapi_flush.specs.Served.{AddsEvents, AllNamed}
use Rattle.lapi_flush.specs.Flushed.{all_data, IsCalm}
use Rattle.lapi_flush.specs.Swept.{sweep, HasRoom, IsSweptAt}
use Rattle.lapi_flush.specs.Rounds.{In, weigh}
use Rattle.lapi_flush.specs.Settled.{IsSettled, HasNoNotes, two_sweeps, TwoSweepsSettle}
use Rattle.lapi_epochs.proofs.EpochOrder.{has-of}
use Rattle.lapi_flush.proofs.NoneOwed.{IsPaid, after-paid, record-paid}
use Rattle.lapi_flush.proofs.ServedParts.{named-append, events-on}
use Rattle.lapi_flush.proofs.FlushedTasks.{after-join}
use Rattle.lapi_flush.proofs.SweptTasks.{kept-done, same-issued, same-entered, same-ready, swept}

-- ---- how many numbers new messages bring

module _ (script : Script) where
  -- a list without one of its messages
  take-out : (ms : List MsgName) (m : MsgName) → In ms m → (rest : List MsgName) × (weigh script ms ≡ fragment_count script m + weigh script rest) × ((n : MsgName) → In ms n → (n ≡ m → ⊥) → In rest n)
  unfolding weigh
  take-out [] m h = absurd h
  take-out (x ∷ xs) m h =
      ⊎_elim
      (λ (here : x ≡ m). (xs, ap (λ y. fragment_count script y + weigh script xs) here, λ n w apart. ⊎_elim (λ (y : x ≡ n). absurd (apart (sym y ∙ here))) (λ (y : In xs n). y) w))
      (λ (later : In xs m).
      let r = take-out xs m later in
      (x ∷ r.0, swapped (fragment_count script x) (fragment_count script m) (weigh script xs) (weigh script r.0) r.1, λ n w apart. ⊎_elim (λ (y : x ≡ n). inl y) (λ (y : In xs n). inr (r.2 n y apart)) w))
      h
    where
      swapped : (x m a b : ℕ) → a ≡ m + b → x + a ≡ m + (x + b)
      swapped x m a b e = omega arith

  pub fragments-length : (m : MsgName) → length (fragments script m) ≡ fragment_count script m
  unfolding fragments
  fragments-length m = length-map (numbers_below (fragment_count script m)) _ ∙ numbers_below-length (fragment_count script m)

module _ (script : Script) (rules : Rules) where
  -- a link grows by no more than the messages that are new on it
  pub growth : (later J : List Event) (a b : ℕ) (ms : List MsgName) → Atomic script rules (later ++ J) → ((m : MsgName) → happened (Copied m) (later ++ J) ≡ true → happened (Copied m) J ≡ false → sender script m ≡ a → receiver script m ≡ b → In ms m) →
      length (numbered script (later ++ J) a b) ≤ length (numbered script J a b) + weigh script ms
  unfolding numbered
  growth [] J a b ms h new = omega arith
  growth (Copy m ∷ later) J a b ms h new =
      let K = later ++ J in
      let once = Atomic-head script rules (Copy m) K h in
      let tail = Atomic-tail script rules (Copy m) K h in
      cond_both (sender script m == a && receiver script m == b) (numbered script K a b ++ fragments script m) (numbered script K a b) (λ xs. length xs ≤ length (numbered script J a b) + weigh script ms)
      (λ on.
      let ends = and_parts (sender script m == a) (receiver script m == b) on in
      let gone : happened (Copied m) J ≡ false = not-before later J m once.once in
      let r = take-out script ms m (new m (happened-head (Copy m) K) gone (eqb-true (sender script m) a ends.0) (eqb-true (receiver script m) b ends.1)) in
      let old = growth later J a b r.0 tail (λ n c no from to. r.2 n (new n (happened-later (Copied n) (Copy m) K c) no from to) (λ same. both_ways _ once.once (subst (λ x. happened (Copied x) K ≡ true) same c))) in
      let len = length-append (numbered script K a b) (fragments script m) in
      let size = fragments-length script m in
      let w = r.1 in
      sums (length (numbered script K a b ++ fragments script m)) (length (numbered script K a b)) (length (fragments script m)) (fragment_count script m) (length (numbered script J a b)) (weigh script ms) (weigh script r.0) len size w old)
      (λ _. growth later J a b ms tail (λ n c no from to. new n (happened-later (Copied n) (Copy m) K c) no from to))
    where
      sums : (all k f c j w v : ℕ) → all ≡ k + f → f ≡ c → w ≡ c + v → k ≤ j + v → all ≤ j + w
      sums all k f c j w v p q r l = omega arith

      not-before : (later J : List Event) (m : MsgName) → happened (Copied m) (later ++ J) ≡ false → happened (Copied m) J ≡ false
      not-before [] J m h = h
      not-before (e ∷ later) J m h = not-before later J m (false_from_ne_true _ (λ x. both_ways _ h (happened-later (Copied m) e (later ++ J) x)))
  growth (Issue t i ∷ later) J a b ms h new = growth later J a b ms (Atomic-tail script rules (Issue t i) (later ++ J) h) (λ n c no from to. new n (happened-later (Copied n) (Issue t i) (later ++ J) c) no from to)
  growth (Refuse t i y ∷ later) J a b ms h new = growth later J a b ms (Atomic-tail script rules (Refuse t i y) (later ++ J) h) (λ n c no from to. new n (happened-later (Copied n) (Refuse t i y) (later ++ J) c) no from to)
  growth (Enter t i ∷ later) J a b ms h new = growth later J a b ms (Atomic-tail script rules (Enter t i) (later ++ J) h) (λ n c no from to. new n (happened-later (Copied n) (Enter t i) (later ++ J) c) no from to)
  growth (Pass t i ∷ later) J a b ms h new = growth later J a b ms (Atomic-tail script rules (Pass t i) (later ++ J) h) (λ n c no from to. new n (happened-later (Copied n) (Pass t i) (later ++ J) c) no from to)
  growth (Head m ∷ later) J a b ms h new = growth later J a b ms (Atomic-tail script rules (Head m) (later ++ J) h) (λ n c no from to. new n (happened-later (Copied n) (Head m) (later ++ J) c) no from to)
  growth (Land m ∷ later) J a b ms h new = growth later J a b ms (Atomic-tail script rules (Land m) (later ++ J) h) (λ n c no from to. new n (happened-later (Copied n) (Land m) (later ++ J) c) no from to)
  growth (Begin m t w ∷ later) J a b ms h new = growth later J a b ms (Atomic-tail script rules (Begin m t w) (later ++ J) h) (λ n c no from to. new n (happened-later (Copied n) (Begin m t w) (later ++ J) c) no from to)
  growth (End m t w ∷ later) J a b ms h new = growth later J a b ms (Atomic-tail script rules (End m t w) (later ++ J) h) (λ n c no from to. new n (happened-later (Copied n) (End m t w) (later ++ J) c) no from to)

  pub grows-on : (later J : List Event) (a b : ℕ) → length (numbered script J a b) ≤ length (numbered script (later ++ J) a b)
  grows-on [] J a b = omega arith
  grows-on (e ∷ later) J a b = let h = grows-on later J a b in let g = grows-cons script rules e (later ++ J) a b in omega arith

  pub grows-more : (J K : List Event) (a b : ℕ) → AddsEvents J K → length (numbered script J a b) ≤ length (numbered script K a b)
  grows-more J K a b x = subst (λ L. length (numbered script J a b) ≤ length (numbered script L a b)) (sym x.1) (grows-on x.0 J a b)

  -- with no new messages it stays as it is
  same-length : (J K : List Event) (a b : ℕ) → AddsEvents J K → Atomic script rules K → ((m : MsgName) → happened (Copied m) K ≡ true → happened (Copied m) J ≡ true) → length (numbered script J a b) ≡ length (numbered script K a b)
  unfolding weigh
  same-length J K a b x h old =
      let up = growth x.0 J a b [] (subst (Atomic script rules) x.1 h) (λ m c no from to. absurd (both_ways _ no (old m (subst (λ L. happened (Copied m) L ≡ true) (sym x.1) c)))) in
      let e = ap (λ L. length (numbered script L a b)) x.1 in
      let down = grows-more J K a b x in
      omega arith

  -- ---- what a message needs

  pub ready-go : (J : List Event) (P : MsgName → Bool) (a i : ℕ) → list_all P (ready script J a) ≡ true → i < length (statements script a) → is_data (statement script a i) ≡ true → happened (Issued a i) J ≡ true → P (message a i Go) ≡ true
  unfolding ready
  ready-go J P a i all l d issued =
      let each = numbers_below-each P (to_copy_of script J a) (length (statements script a)) i all l in
      (and_parts (P (message a i Go)) true (subst (λ ms. list_all P ms ≡ true) (cond-true (is_data (statement script a i) && happened (Issued a i) J) (message a i Go ∷ []) _ (and_from _ _ d issued)) each)).0

  pub ready-join : (J : List Event) (P : MsgName → Bool) (a i d : ℕ) → list_all P (ready script J a) ≡ true → i < length (statements script a) → has_leg script (answers script rules a i) a (Join d) (statement script a i) ≡ true → happened (Entered a i) J ≡ true → P (message a i (Join d)) ≡ true
  unfolding ready
  ready-join J P a i d all l leg entered =
      let s = statement script a i in
      let parts = and_parts (has_join s) (nat_lt d script.tasks && not (d == a)) leg in
      let ends = and_parts (nat_lt d script.tasks) (not (d == a)) parts.1 in
      let each = numbers_below-each P (to_copy_of script J a) (length (statements script a)) i all l in
      let h = subst (λ ms. list_all P ms ≡ true) (cond-false (is_data s && happened (Issued a i) J) (message a i Go ∷ []) (cond (has_join s && happened (Entered a i) J) (joins script a i) []) (and_left _ _ (join-no_data s parts.0)) ∙ cond-true (has_join s && happened (Entered a i) J) (joins script a i) [] (and_from _ _ parts.0 entered)) each in
      joins-each P (λ e. message a i (Join e)) (λ e. not (e == a)) script.tasks d h (ltb-true d script.tasks ends.0) ends.1

  -- the ends of a message that was copied are tasks
  pub needed-go : (J : List Event) (a i : ℕ) (leg : Leg) → Atomic script rules J → happened (Copied (message a i leg)) J ≡ true → (leg ≡ Go) ⊎ (leg ≡ Back) → happened (Issued a i) J ≡ true
  unfolding needs
  needed-go J a i Go h c k = (closed script rules (Copied (message a i Go)) J h c).0
  needed-go J a i Back h c k = (last-of script rules (λ y. happened y J ≡ true) (only_if (has_completion script rules a i) (Begun (message a i Go) ∷ Ended (message a i Go) ∷ [])) (Landed (message a i Go) ∷ to_land script rules a i) (closed script rules (Copied (message a i Back)) J h c)).1.0
  needed-go J a i Note h c k = absurd (⊎_elim (λ (x : Note ≡ Go). absurd (cc)) (λ (x : Note ≡ Back). absurd (cc)) k)
  needed-go J a i Echo h c k = absurd (⊎_elim (λ (x : Echo ≡ Go). absurd (cc)) (λ (x : Echo ≡ Back). absurd (cc)) k)
  needed-go J a i (Join d) h c k = absurd (⊎_elim (λ (x : Join d ≡ Go). absurd (cc)) (λ (x : Join d ≡ Back). absurd (cc)) k)

  pub ends-there : HasNoNotes script rules → (J : List Event) (a i : ℕ) (leg : Leg) → Atomic script rules J → happened (Copied (message a i leg)) J ≡ true → (sender script (message a i leg) < script.tasks) × (receiver script (message a i leg) < script.tasks)
  ends-there none J a i Go h c =
      let is = and_parts (has_statement script rules a i) _ (there script rules (Copied (message a i Go)) J h c) in
      let has = has-of script rules a i is.0 in
      (has.0, target-room script rules J a i h (needed-go J a i Go h c (inl refl)) is.1)
  ends-there none J a i Back h c =
      let is = and_parts (has_statement script rules a i) _ (there script rules (Copied (message a i Back)) J h c) in
      let has = has-of script rules a i is.0 in
      (target-room script rules J a i h (needed-go J a i Back h c (inr refl)) (back-data (statement script a i) is.1), has.0)
  ends-there none J a i Note h c =
      let is = and_parts (has_statement script rules a i) (is_some (cmpl_counter (statement script a i)) && not (answers script rules a i)) (there script rules (Copied (message a i Note)) J h c) in
      absurd (false≢true (ap is_some (sym (none a i (has-of script rules a i is.0)).0) ∙ (and_parts (is_some (cmpl_counter (statement script a i))) (not (answers script rules a i)) is.1).0))
  ends-there none J a i Echo h c =
      let is = and_parts (has_statement script rules a i) (answers script rules a i) (there script rules (Copied (message a i Echo)) J h c) in
      absurd (both_ways _ (none a i (has-of script rules a i is.0)).1 is.1)
  ends-there none J a i (Join d) h c =
      let is = and_parts (has_statement script rules a i) _ (there script rules (Copied (message a i (Join d))) J h c) in
      let has = has-of script rules a i is.0 in
      let parts = and_parts (has_join (statement script a i)) (nat_lt d script.tasks && not (d == a)) is.1 in
      (has.0, ltb-true d script.tasks (and_parts (nat_lt d script.tasks) (not (d == a)) parts.1).0)

  -- ---- two sweeps

  module _ (r : Run) (none : HasNoNotes script rules) (tops : ℕ → ℕ → ℕ) (room : HasRoom script rules r tops) (sound : SoundRun script rules r) (paid : IsPaid script rules r) (owes : Owes script rules r.journal)
      (calm : (a b : ℕ) → a < script.tasks → b < script.tasks → IsCalm r a b (tops a b) × (tops a b ≤ length (numbered script r.journal a b))) where
    s1 : Run
    s1 = after script rules packet_size refusal r (sweep script rules r)

    one : SoundRun script rules s1 × AddsEvents r.journal s1.journal × ((a : ℕ) → a < script.tasks → IsSweptAt script rules r s1 a) × (length (sweep script rules r) + 2 * all_data script.tasks r ≤ script.tasks + 2 * all_data script.tasks s1) × AllNamed script rules r (sweep script rules r)
    unfolding s1
    one = swept script rules r tops room sound paid (λ a b la lb. (calm a b la lb).0)

    paid1 : IsPaid script rules s1
    unfolding s1
    paid1 = after-paid script rules (sweep script rules r) r paid

    owes1 : Owes script rules s1.journal
    unfolding s1
    owes1 = after-owes script rules packet_size refusal (sweep script rules r) r owes

    -- the mark of each task
    mark : (a : ℕ) → a < script.tasks → IsSweptAt script rules r s1 a
    mark a l = one.2 a l

    -- what was ready before was copied by the first sweep, and has landed
    atomic-of : (u : Run) → SoundRun script rules u → Atomic script rules u.journal
    atomic-of u h = h.atomic

    go-there : (a i : ℕ) (l : a < script.tasks) → i < length (statements script a) → is_data (statement script a i) ≡ true → happened (Issued a i) r.journal ≡ true → happened (Copied (message a i Go)) (mark a l).then_journal ≡ true
    go-there a i l room_i d issued = ready-go r.journal (λ m. happened (Copied m) (mark a l).then_journal) a i (list_all-at (λ m. happened (Copied m) (mark a l).then_journal) (ready script r.journal a) (mark a l).copied) room_i d issued

    go-landed : (a i : ℕ) (l : a < script.tasks) → i < length (statements script a) → is_data (statement script a i) ≡ true → happened (Issued a i) r.journal ≡ true → happened (Landed (message a i Go)) s1.journal ≡ true
    go-landed a i l room_i d issued = (mark a l).landed (message a i Go) refl (target-room script rules r.journal a i sound.atomic issued d) (go-there a i l room_i d issued)

    join-there : (a i d : ℕ) (l : a < script.tasks) → i < length (statements script a) → has_leg script (answers script rules a i) a (Join d) (statement script a i) ≡ true → happened (Entered a i) r.journal ≡ true → happened (Copied (message a i (Join d))) (mark a l).then_journal ≡ true
    join-there a i d l room_i leg entered = ready-join r.journal (λ m. happened (Copied m) (mark a l).then_journal) a i d (list_all-at (λ m. happened (Copied m) (mark a l).then_journal) (ready script r.journal a) (mark a l).copied) room_i leg entered

    -- what comes back was copied when that landed
    back-there : (a i : ℕ) (l : a < script.tasks) → i < length (statements script a) → has_back (statement script a i) ≡ true → happened (Issued a i) r.journal ≡ true → happened (Copied (message a i Back)) s1.journal ≡ true
    back-there a i l room_i b issued =
        let stand = owes1.lands (message a i Go) (go-landed a i l room_i (back-data (statement script a i) b) issued) in
        (subst (λ x. Stand s1.journal (cond x (Copy (message a i Back) ∷ []) (cond (has_completion script rules a i) [] (note_of script rules (message a i Go))))) b stand).0

    -- so whatever is copied later was copied by the first sweep
    copied-early : (K : List Event) (a i : ℕ) (leg : Leg) → AddsEvents r.journal K → Atomic script rules K → happened (Copied (message a i leg)) K ≡ true → happened (Copied (message a i leg)) s1.journal ≡ true
    unfolding needs
    copied-early K a i Go x h c =
        let is = and_parts (has_statement script rules a i) (is_data (statement script a i)) (there script rules (Copied (message a i Go)) K h c) in
        let has = has-of script rules a i is.0 in
        let issued = sym (same-issued r.journal K a i x) ∙ needed-go K a i Go h c (inl refl) in
        kept-done (mark a has.0).then_journal s1.journal (Copied (message a i Go)) (mark a has.0).until (go-there a i has.0 has.1 is.1 issued)
    copied-early K a i Back x h c =
        let is = and_parts (has_statement script rules a i) (has_back (statement script a i)) (there script rules (Copied (message a i Back)) K h c) in
        let has = has-of script rules a i is.0 in
        let issued = sym (same-issued r.journal K a i x) ∙ needed-go K a i Back h c (inr refl) in
        back-there a i has.0 has.1 is.1 issued
    copied-early K a i Note x h c =
        let is = and_parts (has_statement script rules a i) (is_some (cmpl_counter (statement script a i)) && not (answers script rules a i)) (there script rules (Copied (message a i Note)) K h c) in
        absurd (false≢true (ap is_some (sym (none a i (has-of script rules a i is.0)).0) ∙ (and_parts (is_some (cmpl_counter (statement script a i))) (not (answers script rules a i)) is.1).0))
    copied-early K a i Echo x h c =
        let is = and_parts (has_statement script rules a i) (answers script rules a i) (there script rules (Copied (message a i Echo)) K h c) in
        absurd (both_ways _ (none a i (has-of script rules a i is.0)).1 is.1)
    copied-early K a i (Join d) x h c =
        let is = and_parts (has_statement script rules a i) (has_leg script (answers script rules a i) a (Join d) (statement script a i)) (there script rules (Copied (message a i (Join d))) K h c) in
        let has = has-of script rules a i is.0 in
        let entered = sym (same-entered r.journal K a i x) ∙ (closed script rules (Copied (message a i (Join d))) K h c).0 in
        kept-done (mark a has.0).then_journal s1.journal (Copied (message a i (Join d))) (mark a has.0).until (join-there a i d has.0 has.1 is.1 entered)

    -- the second sweep
    top-of : (a b : ℕ) → (a < script.tasks) ⊎ (script.tasks ≤ a) → ℕ
    top-of a b (inl l) = length (numbered script (mark a l).then_journal a b)
    top-of a b (inr g) = 0

    tops1 : ℕ → ℕ → ℕ
    tops1 a b = top-of a b (cases_lt a script.tasks)

    top-calm : (a b : ℕ) (o : (a < script.tasks) ⊎ (script.tasks ≤ a)) → a < script.tasks → b < script.tasks → IsCalm s1 a b (top-of a b o)
    unfolding top-of
    top-calm a b (inl l) la lb = (mark a l).calm b lb
    top-calm a b (inr g) la lb = absurd (omega arith)

    top-high : (a b : ℕ) (o : (a < script.tasks) ⊎ (script.tasks ≤ a)) → a < script.tasks → b < script.tasks → tops a b ≤ top-of a b o
    unfolding top-of
    top-high a b (inl l) la lb = let low = (calm a b la lb).1 in let up = grows-more r.journal (mark a l).then_journal a b (mark a l).since in omega arith
    top-high a b (inr g) la lb = absurd (omega arith)

    calm1 : (a b : ℕ) → a < script.tasks → b < script.tasks → IsCalm s1 a b (tops1 a b)
    unfolding tops1
    calm1 a b la lb = top-calm a b (cases_lt a script.tasks) la lb

    room1 : HasRoom script rules s1 tops1
    unfolding tops1
    room1 K h x a b la lb = let m = room K h (events-on script rules r.journal s1.journal K one.1 x) a b la lb in let low = top-high a b (cases_lt a script.tasks) la lb in omega arith

    s2 : Run
    s2 = after script rules packet_size refusal s1 (sweep script rules s1)

    two : SoundRun script rules s2 × AddsEvents s1.journal s2.journal × ((a : ℕ) → a < script.tasks → IsSweptAt script rules s1 s2 a) × (length (sweep script rules s1) + 2 * all_data script.tasks s1 ≤ script.tasks + 2 * all_data script.tasks s2) × AllNamed script rules s1 (sweep script rules s1)
    unfolding s2
    two = swept script rules s1 tops1 room1 one.0 paid1 calm1

    whole : AddsEvents r.journal s2.journal
    whole = events-on script rules r.journal s1.journal s2.journal one.1 two.1

    early : (m : MsgName) → happened (Copied m) s2.journal ≡ true → happened (Copied m) s1.journal ≡ true
    early m c = copied-early s2.journal m.origin m.statement m.leg whole (atomic-of s2 two.0) c

    settled2 : IsSettled script rules s2
    settled2 = record {
      copied = λ a l. subst (λ ms. AllByRecursion (λ m. happened (Copied m) s2.journal ≡ true) ms) (sym (same-ready script rules r.journal s2.journal a whole)) (all-weaker (λ m. happened (Copied m) (mark a l).then_journal ≡ true) (λ m. happened (Copied m) s2.journal ≡ true) (λ m h. kept-done s1.journal s2.journal (Copied m) two.1 (kept-done (mark a l).then_journal s1.journal (Copied m) (mark a l).until h)) (ready script r.journal a) (mark a l).copied);
      landed = λ m c.
          let ends = ends-there none s2.journal m.origin m.statement m.leg (atomic-of s2 two.0) c in
          let second = two.2 (sender script m) ends.0 in
          second.landed m refl ends.1 (kept-done s1.journal second.then_journal (Copied m) second.since (early m c));
      calm = λ a b la lb.
          let second = two.2 a la in
          subst (IsCalm s2 a b) (same-length second.then_journal s2.journal a b second.until (atomic-of s2 two.0) (λ m c. kept-done s1.journal second.then_journal (Copied m) second.since (early m c))) (second.calm b lb);
    }

    after-two : after script rules packet_size refusal r (two_sweeps script rules r) ≡ s2
    unfolding s1 s2
    after-two = after-join script rules (sweep script rules r) (sweep script rules (after script rules packet_size refusal r (sweep script rules r))) r

    both-lines : length (two_sweeps script rules r) + 2 * all_data script.tasks r ≤ 2 * script.tasks + 2 * all_data script.tasks s2
    unfolding s1
    both-lines =
        let len = length-append (sweep script rules r) (sweep script rules (after script rules packet_size refusal r (sweep script rules r))) in
        let a = one.3 in
        let b = two.3 in
        sums (length (two_sweeps script rules r)) (length (sweep script rules r)) (length (sweep script rules s1)) (all_data script.tasks r) (all_data script.tasks s1) (all_data script.tasks s2) script.tasks len a b
      where
        sums : (all x y f g h n : ℕ) → all ≡ x + y → x + 2 * f ≤ n + 2 * g → y + 2 * g ≤ n + 2 * h → all + 2 * f ≤ 2 * n + 2 * h
        sums all x y f g h n a b c = omega arith

    both-named : AllNamed script rules r (two_sweeps script rules r)
    unfolding s1
    both-named = named-append script rules (sweep script rules r) (sweep script rules (after script rules packet_size refusal r (sweep script rules r))) r one.4 two.4

    -- all of it
    pub settles :
        let s = after script rules packet_size refusal r (two_sweeps script rules r) in
        IsSettled script rules s × SoundRun script rules s × Owes script rules s.journal × AddsEvents r.journal s.journal × (length (two_sweeps script rules r) + 2 * all_data script.tasks r ≤ 2 * script.tasks + 2 * all_data script.tasks s) × AllNamed script rules r (two_sweeps script rules r)
    settles =
        subst (λ s. IsSettled script rules s × SoundRun script rules s × Owes script rules s.journal × AddsEvents r.journal s.journal × (length (two_sweeps script rules r) + 2 * all_data script.tasks r ≤ 2 * script.tasks + 2 * all_data script.tasks s) × AllNamed script rules r (two_sweeps script rules r)) (sym after-two)
        (settled2, two.0, owes2, whole, both-lines, both-named)
      where
        owes2 : Owes script rules s2.journal
        owes2 = subst (λ s. Owes script rules s.journal) after-two (after-owes script rules packet_size refusal (two_sweeps script rules r) r owes)

pub record-owes : (script : Script) (rules : Rules) (r : Run) → IsRecord script rules r → Owes script rules r.journal
unfolding record_of
record-owes script rules r is = subst (λ s. Owes script rules s.journal) (sym is.2) (run-owes script rules packet_size refusal is.0)

-- the law, of every record
pub two-settle : HoldsOfRecords TwoSweepsSettle
two-settle script rules r is = λ now none tops calm room. (settles script rules r none tops room (record-sound script rules r is) (record-paid script rules r is now) (record-owes script rules r is) calm).0
