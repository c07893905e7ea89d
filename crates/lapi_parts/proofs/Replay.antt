-- A task's memory, the bytes of the messages that it sends and the buffers of its jobs, replayed from its own events and
-- from the bytes of the messages that came to it.
use Rattle.std.proofs.Common.{◌≡◌, ℕ, ◌+◌, ◌==◌, true, false, cond, List, [], ◌∷◌, ◌++◌, length, map, refl, sym, ap, ◌∙◌, subst, append_assoc}
use Rattle.std.specs.Prelude.{nat_le}
use Rattle.std.specs.List.{flat_map, filter}
use Rattle.std.proofs.lemmas.Bool.{both_ways, and_parts, cond_both, cond-true, cond-false, eqb-true, false_from_ne_true}
use Rattle.lapi_base.specs.declared.script.Script.{Script}
use Rattle.lapi_base.specs.declared.span.Span.{Span}
use Rattle.lapi_base.specs.declared.statement.Statement.{Statement}
use Rattle.lapi_base.specs.declared.rule.Rules.{Rules}
use Rattle.lapi_base.specs.declared.message.Leg.{Leg}
use Rattle.lapi_base.specs.declared.message.Leg.TheVariants.{Go, Back, Note, Echo, Join}
use Rattle.lapi_base.specs.declared.message.MsgName.{MsgName}
use Rattle.lapi_base.specs.declared.event.Event.{Event}
use Rattle.lapi_base.specs.declared.event.Event.TheVariants.{Issue, Refuse, Enter, Pass, Copy, Head, Land, Begin, End}
use Rattle.lapi_base.specs.Record.Names.{message, name_eq, Copied, Landed, happened}
use Rattle.lapi_base.specs.Record.Operations.{numbers_below, statement, target, from_by, to_by, sender, receiver, is_am, is_rmw, has_back, fragment_count}
use Rattle.lapi_base.specs.Record.Handlers.{number_of, word_bytes, buffer, effect_of, answer_of, answer_pieces}
use Rattle.lapi_base.specs.Record.Values.{Memories, Write, Values, gathered, scattered, byte_after, new_word, at_target, at_origin, land_writes, store_writes, writes, with_bytes, land_bytes, source_by, bytes_after, held_after, values}
use Rattle.lapi_base.specs.Record.Wires.{Run, is_number, has_number}
use Rattle.lapi_base.specs.Record.Atomic.{Atomic}
use Rattle.lapi_base.specs.Laws.Entries.{carried}
use Rattle.lapi_base.specs.Record.TaskPart.{is_at, events_at}
use Rattle.lapi_base.specs.Record.Arrived.{has_fragment, is_fragment, whole_by, is_whole, assembled}
use Rattle.lapi_base.proofs.BelowLaws.{every_below-from}
use Rattle.lapi_base.proofs.ListLaws.{any-find}
use Rattle.lapi_base.proofs.NameLaws.{happened-head, happened-later, name_eq-true, happened-grown}
use Rattle.lapi_base.proofs.TestLaws.{eqb-refl}
use Rattle.lapi_laws.proofs.Once.{atomic-end}
use Rattle.lapi_laws.proofs.Backward.{Atomic-head}
use Rattle.lapi_laws.proofs.Sound.{Fits, landed-copied, before}
use Rattle.lapi_laws.proofs.Lines.{SoundRun}
use Rattle.lapi_parts.proofs.ExactBytes.{ExactRun, stays, stays-grown}
use Rattle.lapi_parts.proofs.LocalEvents.{same-sym, folds}
use Rattle.lapi_parts.proofs.LocalQuestions.{by_points}
use Rattle.lapi_parts.proofs.HandedPackets.{numbered-has, fit-fragment}
use Rattle.lapi_parts.proofs.WholeMessages.{assembled-bytes}

-- ---- what has landed came whole

module _ (script : Script) (rules : Rules) where
  pub landed-whole : (r : Run) → SoundRun script rules r → (m : MsgName) → happened (Landed m) r.journal ≡ true → is_whole script (r.handed (sender script m) (receiver script m)) m ≡ true
  unfolding is_whole whole_by has_fragment has_number
  landed-whole r s m d =
      let a = sender script m in
      let b = receiver script m in
      every_below-from (fragment_count script m) (has_fragment (r.handed a b) m) (λ j l.
      let number = numbered-has script r.journal m j (landed-copied script rules r.journal m s.atomic d) l in
      let got = s.landed m d number.0 (j, number.1) in
      let p = any-find (is_number number.0) (Fits script rules r.journal r.handed a b) (r.handed a b) (s.hands a b) got in
      p.3 (is_fragment m j) (fit-fragment script rules r.journal r.handed a b m number.0 j p.0 p.2 number.1 p.1).0)

  -- the bytes of a message that came to task t
  abbrev pub came : Run → (t : ℕ) → MsgName → List ℕ
  came r t m = assembled (fragment_count script m) (r.handed (sender script m) t) m

  came-is : (r : Run) → SoundRun script rules r → ExactRun script rules r → (t : ℕ) (m : MsgName) → receiver script m ≡ t → happened (Landed m) r.journal ≡ true → came r t m ≡ carried script rules r.journal m
  came-is r s x t m at d =
      subst (λ (u : ℕ). came r u m ≡ carried script rules r.journal m) at
      (assembled-bytes script rules r.journal m (r.handed (sender script m) (receiver script m)) s.atomic (landed-copied script rules r.journal m s.atomic d) (x.hands (sender script m) (receiver script m)) (landed-whole r s m d))

  -- ---- the replay of a task's events

  gathered-same : (old new : Memories) (t u : ℕ) (pieces : List Span) → old t ≡ new u → gathered old t pieces ≡ gathered new u pieces
  unfolding gathered
  gathered-same old new t u pieces h = ap (λ (line : ℕ → ℕ). flat_map (λ (p : Span). map (λ k. line (p.at + k)) (numbers_below p.len)) pieces) h

  module _ (t : ℕ) (arrived : MsgName → List ℕ) where
    -- a landing writes what came
    landing : Values → Event → Values
    landing v (Land m) = record { memory = v.memory; bytes = arrived; held = v.held }
    landing v e = v

    moved : Event → Values → Values
    moved e v = record { memory = λ u x. byte_after (writes script rules (landing v e) e) x (v.memory u x); bytes = bytes_after script rules v e; held = held_after script rules v e }

    replayed-by : Event → Values → Values
    replayed-by e v = cond (is_at script t e) (moved e v) v

    pub replayed : List Event → Values
    replayed [] = record { memory = λ u x. 0; bytes = λ m. []; held = λ m. [] }
    replayed (e ∷ J) = replayed-by e (replayed J)

    replayed-steps : (e : Event) (J : List Event) → replayed (e ∷ J) ≡ replayed-by e (replayed J)
    unfolding replayed
    replayed-steps e J = refl

    replayed-others : (e : Event) (v : Values) → is_at script t e ≡ false → replayed-by e v ≡ v
    unfolding replayed-by
    replayed-others e v h = cond-false (is_at script t e) (moved e v) v h

    -- the task's own events are enough
    pub replayed-local : (J : List Event) → replayed (events_at script t J) ≡ replayed J
    replayed-local J = folds script t replayed replayed-by replayed-steps replayed-others J

    -- v, of task t alone, agrees with w there
    pub record Agrees (v w : Values) : Type 0 where
      pub memory : (u : ℕ) → v.memory u ≡ w.memory t
      pub bytes : (m : MsgName) → sender script m ≡ t → v.bytes m ≡ w.bytes m
      pub held : (m : MsgName) → receiver script m ≡ t → v.held m ≡ w.held m

    -- messages of other tasks
    other-sender : (m n : MsgName) → sender script m ≡ t → (sender script n == t) ≡ false → name_eq n m ≡ false
    other-sender m n at apart = false_from_ne_true _ (λ same. both_ways _ apart (subst (λ x. (x == t) ≡ true) (sym (ap (sender script) (name_eq-true n m same) ∙ at)) (eqb-refl t)))

    other-receiver : (m n : MsgName) → receiver script m ≡ t → (receiver script n == t) ≡ false → name_eq n m ≡ false
    other-receiver m n at apart = false_from_ne_true _ (λ same. both_ways _ apart (subst (λ x. (x == t) ≡ true) (sym (ap (receiver script) (name_eq-true n m same) ∙ at)) (eqb-refl t)))

    -- An event that isn't at the task changes nothing there.
    land-apart : (w : Values) (a i : ℕ) (leg : Leg) (m : MsgName) → sender script m ≡ t → (receiver script (message a i leg) == t) ≡ false → land_bytes script rules w (message a i leg) leg (statement script a i) m ≡ w.bytes m
    land-apart w a i Go m at apart =
        let word = gathered w.memory (target script a i) (at_target script rules a i) in
        cond_both (is_rmw (statement script a i)) (with_bytes script rules w (message a i Back) word) w.bytes (λ f. f m ≡ w.bytes m)
        (λ _. cond-false (name_eq (message a i Back) m) word (w.bytes m) (other-sender m (message a i Back) at apart))
        (λ _. refl)
    land-apart w a i Back m at apart = refl
    land-apart w a i Note m at apart = refl
    land-apart w a i Echo m at apart = refl
    land-apart w a i (Join d) m at apart = refl

    apart-bytes : (J : List Event) (e : Event) (m : MsgName) → sender script m ≡ t → is_at script t e ≡ false → (values script rules (e ∷ J)).bytes m ≡ (values script rules J).bytes m
    unfolding values
    apart-bytes J (Copy n) m at h = cond-false (name_eq n m) _ ((values script rules J).bytes m) (other-sender m n at h)
    apart-bytes J (Land n) m at h = land-apart (values script rules J) n.origin n.statement n.leg m at h
    apart-bytes J (Issue a i) m at h = refl
    apart-bytes J (Refuse a i why) m at h = refl
    apart-bytes J (Enter a i) m at h = refl
    apart-bytes J (Pass a i) m at h = refl
    apart-bytes J (Head n) m at h = refl
    apart-bytes J (Begin n a w) m at h = refl
    apart-bytes J (End n a w) m at h = refl

    apart-held : (J : List Event) (e : Event) (m : MsgName) → Atomic script rules (e ∷ J) → receiver script m ≡ t → is_at script t e ≡ false → (values script rules (e ∷ J)).held m ≡ (values script rules J).held m
    unfolding values
    apart-held J (Begin n a w) m k at h =
        let place : receiver script n ≡ a = eqb-true (receiver script n) a (and_parts _ _ (and_parts _ _ (Atomic-head script rules (Begin n a w) J k).there).1).0 in
        cond-false (name_eq n m) _ ((values script rules J).held m) (other-receiver m n at (subst (λ x. (x == t) ≡ false) (sym place) h))
    apart-held J (Copy n) m k at h = refl
    apart-held J (Land n) m k at h = refl
    apart-held J (Issue a i) m k at h = refl
    apart-held J (Refuse a i why) m k at h = refl
    apart-held J (Enter a i) m k at h = refl
    apart-held J (Pass a i) m k at h = refl
    apart-held J (Head n) m k at h = refl
    apart-held J (End n a w) m k at h = refl

    pub apart-memory : (J : List Event) (e : Event) (x : ℕ) → is_at script t e ≡ false → (values script rules (e ∷ J)).memory t x ≡ (values script rules J).memory t x
    unfolding values byte_after
    apart-memory J (Issue a i) x h = cond-false (t == a) _ ((values script rules J).memory t x) (same-sym a t h)
    apart-memory J (Land m) x h = cond-false (t == receiver script m) _ ((values script rules J).memory t x) (same-sym (receiver script m) t h)
    apart-memory J (End m a w) x h = cond-false (t == a) _ ((values script rules J).memory t x) (same-sym a t h)
    apart-memory J (Refuse a i why) x h = cond_both (t == 0) _ _ (λ n. n ≡ (values script rules J).memory t x) (λ _. refl) (λ _. refl)
    apart-memory J (Enter a i) x h = cond_both (t == 0) _ _ (λ n. n ≡ (values script rules J).memory t x) (λ _. refl) (λ _. refl)
    apart-memory J (Pass a i) x h = cond_both (t == 0) _ _ (λ n. n ≡ (values script rules J).memory t x) (λ _. refl) (λ _. refl)
    apart-memory J (Copy m) x h = cond_both (t == 0) _ _ (λ n. n ≡ (values script rules J).memory t x) (λ _. refl) (λ _. refl)
    apart-memory J (Head m) x h = cond_both (t == 0) _ _ (λ n. n ≡ (values script rules J).memory t x) (λ _. refl) (λ _. refl)
    apart-memory J (Begin m a w) x h = cond_both (t == 0) _ _ (λ n. n ≡ (values script rules J).memory t x) (λ _. refl) (λ _. refl)

    -- An event at the task changes both alike: what it writes,
    place-memory : (v w : Values) → Agrees v w → (u : ℕ) → u ≡ t → v.memory u ≡ w.memory u
    place-memory v w g u at = g.memory u ∙ ap w.memory (sym at)

    land_writes-same : (v w : Values) (a i : ℕ) (leg : Leg) (s : Statement) → Agrees v w → to_by a (target script a i) leg ≡ t → arrived (message a i leg) ≡ w.bytes (message a i leg) → land_writes script rules (landing v (Land (message a i leg))) (message a i leg) leg s ≡ land_writes script rules w (message a i leg) leg s
    unfolding landing
    land_writes-same v w a i Go s g here bytes =
        let d = target script a i in
        let at = at_target script rules a i in
        let m = message a i Go in
        ap (λ (bs : List ℕ). cond (is_am s) (scattered (buffer script rules m) bs) (cond (is_rmw s) (scattered at (word_bytes (new_word s (number_of (gathered v.memory d at))))) (cond (has_back s) [] (scattered at bs)))) bytes
        ∙ ap (λ (bs : List ℕ). cond (is_am s) (scattered (buffer script rules m) (w.bytes m)) (cond (is_rmw s) (scattered at (word_bytes (new_word s (number_of bs)))) (cond (has_back s) [] (scattered at (w.bytes m))))) (gathered-same v.memory w.memory d d at (place-memory v w g d here))
    land_writes-same v w a i Back s g here bytes = ap (scattered (at_origin script rules a i)) bytes
    land_writes-same v w a i Note s g here bytes = refl
    land_writes-same v w a i Echo s g here bytes = ap (scattered (answer_pieces script (message a i Echo))) bytes
    land_writes-same v w a i (Join d) s g here bytes = refl

    written-same : (ws us : List Write) (x before after : ℕ) → ws ≡ us → before ≡ after → byte_after ws x before ≡ byte_after us x after
    written-same ws us x before after p q = ap (λ ks. byte_after ks x before) p ∙ ap (byte_after us x) q

    turned : (a : ℕ) → (a == t) ≡ true → (t == a) ≡ true
    turned a h = subst (λ x. (t == x) ≡ true) (sym (eqb-true a t h)) (eqb-refl t)

    own-memory : (v : Values) (J : List Event) (e : Event) → Atomic script rules (e ∷ J) → is_at script t e ≡ true → Agrees v (values script rules J) → ((m : MsgName) → Land m ≡ e → arrived m ≡ carried script rules J m) → (u x : ℕ) → (moved e v).memory u x ≡ (values script rules (e ∷ J)).memory t x
    unfolding values moved landing byte_after
    own-memory v J (Issue a i) k here g fit u x =
        let w = values script rules J in
        let old = ap (λ (f : ℕ → ℕ). f x) (g.memory u) in
        ap (byte_after (store_writes script rules (statement script a i)) x) old
        ∙ sym (cond-true (t == a) (byte_after (store_writes script rules (statement script a i)) x (w.memory t x)) (w.memory t x) (turned a here))
    own-memory v J (Land m) k here g fit u x =
        let w = values script rules J in
        let s = statement script m.origin m.statement in
        let old = ap (λ (f : ℕ → ℕ). f x) (g.memory u) in
        written-same (land_writes script rules (landing v (Land m)) m m.leg s) (land_writes script rules w m m.leg s) x (v.memory u x) (w.memory t x) (land_writes-same v w m.origin m.statement m.leg s g (eqb-true (receiver script m) t here) (fit m refl)) old
        ∙ sym (cond-true (t == receiver script m) (byte_after (land_writes script rules w m m.leg s) x (w.memory t x)) (w.memory t x) (turned (receiver script m) here))
    own-memory v J (End m a j) k here g fit u x =
        let w = values script rules J in
        let old = ap (λ (f : ℕ → ℕ). f x) (g.memory u) in
        let place : receiver script m ≡ a = eqb-true (receiver script m) a (and_parts _ _ (and_parts _ _ (Atomic-head script rules (End m a j) J k).there).1).0 in
        let ends = λ (bytes : List ℕ). filter (λ (q : Write). nat_le (q.0 + length q.1) script.memory) (effect_of script rules m bytes) in
        written-same (ends (v.held m)) (ends (w.held m)) x (v.memory u x) (w.memory t x) (ap ends (g.held m (place ∙ eqb-true a t here))) old
        ∙ sym (cond-true (t == a) (byte_after (ends (w.held m)) x (w.memory t x)) (w.memory t x) (turned a here))
    own-memory v J (Refuse a i why) k here g fit u x = let old = ap (λ (f : ℕ → ℕ). f x) (g.memory u) in cond_both (t == 0) _ _ (λ n. v.memory u x ≡ n) (λ _. old) (λ _. old)
    own-memory v J (Enter a i) k here g fit u x = let old = ap (λ (f : ℕ → ℕ). f x) (g.memory u) in cond_both (t == 0) _ _ (λ n. v.memory u x ≡ n) (λ _. old) (λ _. old)
    own-memory v J (Pass a i) k here g fit u x = let old = ap (λ (f : ℕ → ℕ). f x) (g.memory u) in cond_both (t == 0) _ _ (λ n. v.memory u x ≡ n) (λ _. old) (λ _. old)
    own-memory v J (Copy m) k here g fit u x = let old = ap (λ (f : ℕ → ℕ). f x) (g.memory u) in cond_both (t == 0) _ _ (λ n. v.memory u x ≡ n) (λ _. old) (λ _. old)
    own-memory v J (Head m) k here g fit u x = let old = ap (λ (f : ℕ → ℕ). f x) (g.memory u) in cond_both (t == 0) _ _ (λ n. v.memory u x ≡ n) (λ _. old) (λ _. old)
    own-memory v J (Begin m a j) k here g fit u x = let old = ap (λ (f : ℕ → ℕ). f x) (g.memory u) in cond_both (t == 0) _ _ (λ n. v.memory u x ≡ n) (λ _. old) (λ _. old)

    -- what it copies,
    source-same : (v w : Values) (a i : ℕ) (leg : Leg) (s : Statement) → Agrees v w → from_by a (target script a i) leg ≡ t → v.bytes (message a i leg) ≡ w.bytes (message a i leg) → source_by script rules v (message a i leg) leg s ≡ source_by script rules w (message a i leg) leg s
    source-same v w a i Go s g here bytes = ap (λ (bs : List ℕ). cond (has_back s) [] bs) (gathered-same v.memory w.memory a a (at_origin script rules a i) (place-memory v w g a here))
    source-same v w a i Back s g here bytes =
        let d = target script a i in
        let at = at_target script rules a i in
        ap (λ (bs : List ℕ). cond (is_rmw s) bs (gathered v.memory d at)) bytes
        ∙ ap (λ (bs : List ℕ). cond (is_rmw s) (w.bytes (message a i Back)) bs) (gathered-same v.memory w.memory d d at (place-memory v w g d here))
    source-same v w a i Note s g here bytes = refl
    source-same v w a i Echo s g here bytes = ap (answer_of script rules (message a i Go)) (g.held (message a i Go) here)
    source-same v w a i (Join d) s g here bytes = refl

    with-same : (v w : Values) (n : MsgName) (old new : List ℕ) (m : MsgName) → old ≡ new → v.bytes m ≡ w.bytes m → with_bytes script rules v n old m ≡ with_bytes script rules w n new m
    with-same v w n old new m p q = ap (λ (bs : List ℕ). cond (name_eq n m) bs (v.bytes m)) p ∙ ap (λ (bs : List ℕ). cond (name_eq n m) new bs) q

    land_bytes-same : (v w : Values) (a i : ℕ) (leg : Leg) (m : MsgName) → Agrees v w → to_by a (target script a i) leg ≡ t → v.bytes m ≡ w.bytes m → land_bytes script rules v (message a i leg) leg (statement script a i) m ≡ land_bytes script rules w (message a i leg) leg (statement script a i) m
    land_bytes-same v w a i Go m g here bytes =
        let d = target script a i in
        let at = at_target script rules a i in
        let read = λ (u : Values). gathered u.memory d at in
        elim (is_rmw (statement script a i)) as (λ b. cond b (with_bytes script rules v (message a i Back) (read v)) v.bytes m ≡ cond b (with_bytes script rules w (message a i Back) (read w)) w.bytes m) [
          | true ↦ with-same v w (message a i Back) (read v) (read w) m (gathered-same v.memory w.memory d d at (place-memory v w g d here)) bytes
          | false ↦ bytes
        ]
    land_bytes-same v w a i Back m g here bytes = bytes
    land_bytes-same v w a i Note m g here bytes = bytes
    land_bytes-same v w a i Echo m g here bytes = bytes
    land_bytes-same v w a i (Join d) m g here bytes = bytes

    own-bytes : (v : Values) (J : List Event) (e : Event) → is_at script t e ≡ true → Agrees v (values script rules J) → (m : MsgName) → sender script m ≡ t → (moved e v).bytes m ≡ (values script rules (e ∷ J)).bytes m
    unfolding values moved
    own-bytes v J (Copy n) here g m at =
        let w = values script rules J in
        let from = eqb-true (sender script n) t here in
        let s = statement script n.origin n.statement in
        with-same v w n (source_by script rules v n n.leg s) (source_by script rules w n n.leg s) m (source-same v w n.origin n.statement n.leg s g from (g.bytes n from)) (g.bytes m at)
    own-bytes v J (Land n) here g m at = land_bytes-same v (values script rules J) n.origin n.statement n.leg m g (eqb-true (receiver script n) t here) (g.bytes m at)
    own-bytes v J (Issue a i) here g m at = g.bytes m at
    own-bytes v J (Refuse a i why) here g m at = g.bytes m at
    own-bytes v J (Enter a i) here g m at = g.bytes m at
    own-bytes v J (Pass a i) here g m at = g.bytes m at
    own-bytes v J (Head n) here g m at = g.bytes m at
    own-bytes v J (Begin n a w) here g m at = g.bytes m at
    own-bytes v J (End n a w) here g m at = g.bytes m at

    -- and what its jobs hold.
    own-held : (v : Values) (J : List Event) (e : Event) → is_at script t e ≡ true → Agrees v (values script rules J) → (m : MsgName) → receiver script m ≡ t → (moved e v).held m ≡ (values script rules (e ∷ J)).held m
    unfolding values moved
    own-held v J (Begin n a j) here g m at =
        let w = values script rules J in
        ap (λ (bs : List ℕ). cond (name_eq n m) bs (v.held m)) (gathered-same v.memory w.memory a a (buffer script rules n) (place-memory v w g a (eqb-true a t here)))
        ∙ ap (λ (bs : List ℕ). cond (name_eq n m) (gathered w.memory a (buffer script rules n)) bs) (g.held m at)
    own-held v J (Copy n) here g m at = g.held m at
    own-held v J (Land n) here g m at = g.held m at
    own-held v J (Issue a i) here g m at = g.held m at
    own-held v J (Refuse a i why) here g m at = g.held m at
    own-held v J (Enter a i) here g m at = g.held m at
    own-held v J (Pass a i) here g m at = g.held m at
    own-held v J (Head n) here g m at = g.held m at
    own-held v J (End n a w) here g m at = g.held m at

    one-agrees : (J : List Event) (e : Event) (v : Values) → Atomic script rules (e ∷ J) → ((m : MsgName) → Land m ≡ e → is_at script t e ≡ true → arrived m ≡ carried script rules J m) → Agrees v (values script rules J) → Agrees (replayed-by e v) (values script rules (e ∷ J))
    unfolding replayed-by
    one-agrees J e v k fit g =
        elim (is_at script t e) as (λ b. is_at script t e ≡ b → Agrees (cond b (moved e v) v) (values script rules (e ∷ J))) [
          | true ↦ λ here. record {
            memory = λ u. by_points _ _ (own-memory v J e k here g (λ m same. fit m same here) u);
            bytes = own-bytes v J e here g;
            held = own-held v J e here g;
          }
          | false ↦ λ there. record {
            memory = λ u. g.memory u ∙ by_points _ _ (λ x. sym (apart-memory J e x there));
            bytes = λ m at. g.bytes m at ∙ sym (apart-bytes J e m at there);
            held = λ m at. g.held m at ∙ sym (apart-held J e m k at there);
          }
        ] refl

  -- ---- in a record

  -- what came is what the message carried when it landed
  came-then : (r : Run) → SoundRun script rules r → ExactRun script rules r → (t : ℕ) (m : MsgName) (later J : List Event) → r.journal ≡ later ++ Land m ∷ J → receiver script m ≡ t → came r t m ≡ carried script rules J m
  came-then r s x t m later J e at =
      let K = Land m ∷ J in
      let all = subst (Atomic script rules) e s.atomic in
      let own = atomic-end script rules later K all in
      let landed = happened-head (Land m) J in
      let copied = before script rules (Copied m) (Land m) J (λ y. cc) (landed-copied script rules K m own landed) in
      came-is r s x t m at (subst (λ L. happened (Landed m) L ≡ true) (sym e) (happened-grown later K (Landed m) landed))
      ∙ ap (λ L. carried script rules L m) e
      ∙ stays-grown script rules later K m all (happened-later (Copied m) (Land m) J copied)
      ∙ stays script rules (Land m) J m own copied

  agrees-from : (r : Run) → SoundRun script rules r → ExactRun script rules r → (t : ℕ) (later J : List Event) → r.journal ≡ later ++ J → Agrees t (came r t) (replayed t (came r t) J) (values script rules J)
  unfolding replayed values
  agrees-from r s x t later [] e = record { memory = λ u. refl; bytes = λ m at. refl; held = λ m at. refl }
  agrees-from r s x t later (f ∷ J) e =
      one-agrees t (came r t) J f (replayed t (came r t) J) (atomic-end script rules later (f ∷ J) (subst (Atomic script rules) e s.atomic))
      (λ m same here. came-then r s x t m later J (e ∙ ap (λ g. later ++ g ∷ J) (sym same)) (eqb-true (receiver script m) t (subst (λ g. is_at script t g ≡ true) (sym same) here)))
      (agrees-from r s x t (later ++ f ∷ []) J (e ∙ sym (append_assoc later (f ∷ []) J)))

  -- The replay of the task's events is what the record says of the task.
  pub replay-agrees : (r : Run) → SoundRun script rules r → ExactRun script rules r → (t : ℕ) → Agrees t (came r t) (replayed t (came r t) (events_at script t r.journal)) (values script rules r.journal)
  replay-agrees r s x t = subst (λ v. Agrees t (came r t) v (values script rules r.journal)) (sym (replayed-local t (came r t) r.journal)) (agrees-from r s x t [] r.journal refl)
