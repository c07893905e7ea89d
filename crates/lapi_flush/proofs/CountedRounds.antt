-- The lines of a round, and what it adds to each wire, by how many numbers its messages have.
use Rattle.std.proofs.Common.{◌≡◌, ℕ, zero, suc, ◌+◌, ◌-◌, ◌<◌, ◌≤◌, Bool, true, false, cond, ◌||◌, not, List, [], ◌∷◌, ◌++◌, length, refl, sym, ap, ◌∙◌, subst, ⊎_elim, inl, inr, arith}
use Rattle.std.specs.Prelude.{nat_lt, is_some}
use Rattle.std.specs.List.{AllByRecursion, list_all}
use Rattle.std.proofs.lemmas.Bool.{false≢true, and_parts, both_ways, cond_both, cases_lt, lt-ltb, le-ltb, false_from_ne_true}
use Rattle.lapi_base.specs.declared.script.Script.{Script}
use Rattle.lapi_base.specs.declared.rule.Rules.{Rules}
use Rattle.lapi_base.specs.declared.message.Leg.{Leg}
use Rattle.lapi_base.specs.declared.message.Leg.TheVariants.{Go, Back, Note, Echo, Join}
use Rattle.lapi_base.specs.declared.message.MsgName.{MsgName}
use Rattle.lapi_base.specs.declared.event.Event.{Event}
use Rattle.lapi_base.specs.declared.event.Event.TheVariants.{Copy}
use Rattle.lapi_base.specs.declared.schedule.Act.TheVariants.{Step}
use Rattle.lapi_base.specs.declared.statement.Statement.{Statement}
use Rattle.lapi_base.specs.declared.statement.Statement.TheVariants.{Gfence}
use Rattle.lapi_base.specs.Packet.Spelling.{refusal}
use Rattle.lapi_base.specs.Packet.PacketBytes.{packet_size}
use Rattle.lapi_base.specs.Record.Names.{message, Issued, Entered, Copied, Landed, Begun, Ended, happened}
use Rattle.lapi_base.specs.Record.Operations.{statement, sender, receiver, fragment_count, is_data, has_back, has_join, has_leg, cmpl_counter}
use Rattle.lapi_base.specs.Record.Handlers.{has_completion, answers}
use Rattle.lapi_base.specs.Record.Refusals.{next}
use Rattle.lapi_base.specs.Record.Wires.{Run, numbered}
use Rattle.lapi_base.specs.Record.Acts.{ready, copy_each, note_of, after}
use Rattle.lapi_base.specs.Record.Atomic.{Atomic, needs, to_land, only_if}
use Rattle.lapi_base.proofs.CopyLaws.{all-copied}
use Rattle.lapi_base.proofs.ListLaws.{list_all-at}
use Rattle.lapi_base.proofs.NameLaws.{happened-cases}
use Rattle.lapi_laws.proofs.Backward.{closed, behind}
use Rattle.lapi_laws.proofs.Follows.{Stand, Owes, after-owes}
use Rattle.lapi_laws.proofs.Lines.{SoundRun}
use Rattle.lapi_laws.proofs.Quiet.{target-room}
use Rattle.lapi_laws.proofs.Shorts.{last-of}
use Rattle.lapi_laws.proofs.Still.{back-data}
use Rattle.lapi_epochs.specs.Epochs.{Has}
use Rattle.lapi_epochs.specs.Stages.{is_store, goes, comes}
use Rattle.lapi_flush.specs.Served.{AddsEvents}
use Rattle.lapi_flush.specs.Flushed.{IsCalm, polled}
use Rattle.lapi_flush.specs.Swept.{sweep_to, sweep, HasRoom, IsSweptAt}
use Rattle.lapi_flush.specs.Settled.{IsSettled, two_sweeps}
use Rattle.lapi_flush.specs.Rounds.{In, IsFenced, IsAtRound, steps_of, steps_to, calls_to, and_after, round_acts}
use Rattle.lapi_flush.specs.Counted.{Counts, counts_of, swept_counts, counted_sweep, sweeps_counts, some_steps, steps_each, counted_round}
use Rattle.lapi_flush.proofs.NoneOwed.{IsPaid, after-paid}
use Rattle.lapi_flush.proofs.ServedParts.{events-on}
use Rattle.lapi_flush.proofs.FlushedTasks.{after-join, poll-atomic}
use Rattle.lapi_flush.proofs.SweptTasks.{Swept, all-tasks, polled-adds, kept-done, same-next, same-entered, same-ready}
use Rattle.lapi_flush.proofs.SettledRecords.{needed-go, ready-go, ready-join}
use Rattle.lapi_flush.proofs.CalledRounds.{regroup, steps-copied, steps-out, steps-done, steps-calm, Called, AtFences, Enters, Passes, data-issued, come-to, not-low, room-of, all-calls, swept-fences, all-enter, all-pass, after-and}
use Rattle.lapi_flush.proofs.ExactLinks.{Distinct, tally, exact}
use Rattle.lapi_flush.proofs.OwnPolls.{others-none, sweep-other}
use Rattle.lapi_flush.proofs.CountedSweeps.{Agree, tallied}

-- whether a message of a round was copied by the Poll of task t in sweep s: a call's by the first, what comes back by
-- the first if its origin was flushed before, and a fence's by the third
abbrev pub stage : (s t origin : ℕ) → Leg → Bool
stage s t o Go = true
stage zero t o Back = nat_lt o t
stage (suc s) t o Back = true
stage s t o Note = false
stage s t o Echo = false
stage zero t o (Join d) = false
stage (suc zero) t o (Join d) = false
stage (suc (suc s)) t o (Join d) = true

-- a Poll adds copies alone
polled-landed : (ms : List MsgName) (J : List Event) (m : MsgName) → happened (Landed m) (copy_each J ms) ≡ true → happened (Landed m) J ≡ true
unfolding copy_each
polled-landed [] J m h = h
polled-landed (n ∷ ms) J m h =
    cond_both (happened (Copied n) J) J (Copy n ∷ J) (λ L. happened (Landed m) (copy_each L ms) ≡ true → happened (Landed m) J ≡ true)
    (λ _ x. polled-landed ms J m x)
    (λ _ x. ⊎_elim (λ (y : Landed m ≡ Copied n). absurd (cc)) (λ (y : happened (Landed m) J ≡ true). y) (happened-cases (Landed m) (Copy n) J (polled-landed ms (Copy n ∷ J) m x)))
    h

module _ (script : Script) (rules : Rules) where
  -- how many numbers those of these messages have that were copied by then
  unfoldable pub staged : (s t : ℕ) → List MsgName → ℕ
  staged s t [] = 0
  staged s t (m ∷ ms) = cond (stage s t m.origin m.leg) (fragment_count script m) 0 + staged s t ms

  tally-staged : (s t : ℕ) (K : List Event) (ms : List MsgName) → ((m : MsgName) → In ms m → happened (Copied m) K ≡ stage s t m.origin m.leg) → tally script K ms ≡ staged s t ms
  unfolding tally staged
  tally-staged s t K [] h = refl
  tally-staged s t K (m ∷ ms) h =
      let one = h m (inl refl) in
      let rest = tally-staged s t K ms (λ n w. h n (inr w)) in
      λ i. cond (one i) (fragment_count script m) 0 + rest i

  -- steps without the script
  same-steps : (a n : ℕ) → steps_of script rules a n ≡ some_steps a n
  unfolding steps_of some_steps
  same-steps a zero = refl
  same-steps a (suc n) = ap (λ acts. acts ++ Step a ∷ []) (same-steps a n)

  same-fences : (n : ℕ) → steps_to script rules n ≡ steps_each (λ a. 1) n
  unfolding steps_to steps_each some_steps
  same-fences zero = refl
  same-fences (suc n) = ap (λ acts. acts ++ Step n ∷ []) (same-fences n)

  same-calls : (begin fence : (round task : ℕ) → ℕ) (k n : ℕ) → calls_to script rules begin fence k n ≡ steps_each (λ a. fence k a - begin k a) n
  unfolding calls_to steps_each
  same-calls begin fence k zero = refl
  same-calls begin fence k (suc a) = let x = same-calls begin fence k a in let y = same-steps a (fence k a - begin k a) in λ i. x i ++ y i

  module _ (rounds : ℕ) (begin fence : (round task : ℕ) → ℕ) (f : IsFenced script rules rounds begin fence) (k : ℕ) (lk : k < rounds) where
    -- a message of the round
    pub record InRound (m : MsgName) : Type 0 where
      pub has : Has script m.origin m.statement
      pub leg : has_leg script (answers script rules m.origin m.statement) m.origin m.leg (statement script m.origin m.statement) ≡ true
      pub low : begin k m.origin ≤ m.statement
      pub high : m.statement ≤ fence k m.origin

    -- These are the messages of the round on each link; `new s a b` is how many numbers of them the Poll of a in sweep s
    -- adds to its link to b.
    pub record HasLinks (links : (a b : ℕ) → List MsgName) (new : (s a b : ℕ) → ℕ) : Type 0 where
      pub distinct : (a b : ℕ) → a < script.tasks → b < script.tasks → Distinct (links a b)
      pub each : (a b : ℕ) → a < script.tasks → b < script.tasks → (m : MsgName) → In (links a b) m → InRound m × (sender script m ≡ a) × (receiver script m ≡ b)
      pub all : (m : MsgName) → InRound m → sender script m < script.tasks → receiver script m < script.tasks → In (links (sender script m) (receiver script m)) m
      pub first : (a b : ℕ) → a < script.tasks → b < script.tasks → staged 0 a (links a b) ≡ new 0 a b
      pub more : (s a b : ℕ) → s < 3 → a < script.tasks → b < script.tasks → staged (suc s) a (links a b) ≡ staged s a (links a b) + new (suc s) a b

    -- what its legs say
    go-below : (o i : ℕ) → InRound (message o i Go) → i < fence k o
    go-below o i x =
        ⊎_elim
        (λ (lt : i < fence k o). lt)
        (λ (ge : fence k o ≤ i).
        let high = x.high in
        let same : i ≡ fence k o = omega arith in
        let leg = x.leg in
        absurd (false≢true (ap is_data (sym (f.fences k o lk x.has.0).0) ∙ ap (λ n. is_data (statement script o n)) (sym same) ∙ leg)))
        (cases_lt i (fence k o))

    back-go : (o i : ℕ) → InRound (message o i Back) → InRound (message o i Go)
    back-go o i x = record { has = x.has; leg = back-data (statement script o i) x.leg; low = x.low; high = x.high }

    no-note : (o i : ℕ) → InRound (message o i Note) → ⊥
    no-note o i x = false≢true (ap is_some (sym (f.no_notes o i x.has).0) ∙ (and_parts (is_some (cmpl_counter (statement script o i))) (not (answers script rules o i)) x.leg).0)

    no-echo : (o i : ℕ) → InRound (message o i Echo) → ⊥
    no-echo o i x = both_ways _ (f.no_notes o i x.has).1 x.leg

    join-at : (o i d : ℕ) → InRound (message o i (Join d)) → i ≡ fence k o
    join-at o i d x =
        ⊎_elim
        (λ (lt : i < fence k o). absurd (call-not (statement script o i) (f.issues k o i lk x.has.0 x.low lt) (and_parts (has_join (statement script o i)) _ x.leg).0))
        (λ (ge : fence k o ≤ i). let high = x.high in omega arith)
        (cases_lt i (fence k o))
      where
        call-not : (s : Statement) → (is_store s || (goes s || comes s)) ≡ true → has_join s ≡ true → ⊥
        call-not Gfence h j = false≢true h
        call-not (Statement.Addr at) h j = false≢true h
        call-not _ h j = false≢true j

    -- where the Go of a call was copied before a sweep's mark, what comes back is copied by the sweep's end
    back-in : (v : Run) (o i : ℕ) → Owes script rules v.journal → has_back (statement script o i) ≡ true → happened (Landed (message o i Go)) v.journal ≡ true → happened (Copied (message o i Back)) v.journal ≡ true
    back-in v o i owes b landed =
        let stand = owes.lands (message o i Go) landed in
        (subst (λ x. Stand v.journal (cond x (Copy (message o i Back) ∷ []) (cond (has_completion script rules o i) [] (note_of script rules (message o i Go))))) b stand).0

    module _ (r : Run) (sound : SoundRun script rules r) (paid : IsPaid script rules r) (owes : Owes script rules r.journal) (at : IsAtRound script rules begin k r)
        (links : (a b : ℕ) → List MsgName) (new : (s a b : ℕ) → ℕ) (has_links : HasLinks links new) where
      abbrev Fenced : Run → Type 0
      Fenced u = AtFences script rules rounds begin fence f k lk r sound paid owes at u

      -- no message of the round was copied before it
      not-begun : (o i : ℕ) (leg : Leg) → InRound (message o i leg) → happened (Copied (message o i leg)) r.journal ≡ false
      unfolding needs
      not-begun o i Go x = false_from_ne_true _ (λ c. let place = at.place o x.has.0 in let low = x.low in let l : i < next r.journal o = behind script rules (Issued o i) r.journal sound.atomic (needed-go script rules r.journal o i Go sound.atomic c (inl refl)) in absurd (omega arith))
      not-begun o i Back x = false_from_ne_true _ (λ c. let place = at.place o x.has.0 in let low = x.low in let l : i < next r.journal o = behind script rules (Issued o i) r.journal sound.atomic (needed-go script rules r.journal o i Back sound.atomic c (inr refl)) in absurd (omega arith))
      not-begun o i Note x = absurd (no-note o i x)
      not-begun o i Echo x = absurd (no-echo o i x)
      not-begun o i (Join d) x = false_from_ne_true _ (λ c. let place = at.place o x.has.0 in let low = x.low in let l = at.passed o i (closed script rules (Copied (message o i (Join d))) r.journal sound.atomic c).0 in absurd (omega arith))

      -- a journal at the Poll of t in sweep s
      record AtPoll (s t : ℕ) (K : List Event) : Type 0 where
        since_r : (later : List Event) × (K ≡ later ++ r.journal)
        is_atomic : Atomic script rules K
        places : (a : ℕ) → a < script.tasks → next K a ≡ fence k a
        copied : (o i : ℕ) (leg : Leg) → InRound (message o i leg) → sender script (message o i leg) ≡ t → receiver script (message o i leg) < script.tasks → happened (Copied (message o i leg)) K ≡ stage s t o leg

      numbers-at : (s t : ℕ) (K : List Event) → AtPoll s t K → (b : ℕ) → t < script.tasks → b < script.tasks → length (numbered script K t b) ≡ length (numbered script r.journal t b) + staged s t (links t b)
      numbers-at s t K p b lt lb =
          let same = p.since_r.1 in
          let later = p.since_r.0 in
          let whole = subst (Atomic script rules) same p.is_atomic in
          let e = exact script rules later r.journal t b (links t b) whole (has_links.distinct t b lt lb)
          (λ m w. let x = has_links.each t b lt lb m w in (not-begun m.origin m.statement m.leg x.0, x.1, x.2))
          (λ m c absent from to.
          let here = come-to script rules rounds begin fence f K m.origin m.statement m.leg p.is_atomic (subst (λ L. happened (Copied m) L ≡ true) (sym same) c) in
          let place = p.places m.origin here.0.0 in
          let top = here.2 in
          let x : InRound m = record { has = here.0; leg = here.1; low = not-low script rules rounds begin fence f k lk r sound paid owes at m here.0 here.1 absent; high = let q : m.statement ≤ fence k m.origin = omega arith in q } in
          subst (λ y. In (links t y) m) to (subst (λ y. In (links y (receiver script m)) m) from (has_links.all m x (subst (λ y. y < script.tasks) (sym from) lt) (subst (λ y. y < script.tasks) (sym to) lb)))) in
          ap (λ L. length (numbered script L t b)) same ∙ e
          ∙ ap (λ n. length (numbered script r.journal t b) + n)
          (ap (λ L. tally script L (links t b)) (sym same)
          ∙ tally-staged s t K (links t b) (λ m w. let x = has_links.each t b lt lb m w in p.copied m.origin m.statement m.leg x.0 x.1 (subst (λ y. y < script.tasks) (sym x.2) lb)))

      -- how many numbers the links have before sweep s
      before : (s a b : ℕ) → ℕ
      before zero a b = 0
      before (suc s) a b = staged s a (links a b)

      tops : (s a b : ℕ) → ℕ
      tops s a b = length (numbered script r.journal a b) + before s a b

      before-new : (s a b : ℕ) → s ≤ 3 → a < script.tasks → b < script.tasks → staged s a (links a b) ≡ before s a b + new s a b
      unfolding before
      before-new zero a b l la lb = let e = has_links.first a b la lb in omega arith
      before-new (suc s) a b l la lb = has_links.more s a b (omega arith) la lb

      tops-on : (s a b : ℕ) → s ≤ 3 → a < script.tasks → b < script.tasks → tops s a b + new s a b ≡ tops (suc s) a b
      unfolding tops before
      tops-on s a b l la lb = let e = before-new s a b l la lb in sums (length (numbered script r.journal a b)) _ _ _ e
        where
          sums : (n b w t : ℕ) → t ≡ b + w → (n + b) + w ≡ n + t
          sums n b w t e = omega arith

      -- ---- one sweep

      -- the links are calm with all numbers that they have before sweep s
      Calm : ℕ → Run → Type 0
      Calm s u = (a b : ℕ) → a < script.tasks → b < script.tasks → IsCalm u a b (tops s a b)

      module _ (s : ℕ) (u : Run) (g : Fenced u) (calm : Calm s u) where
        room : HasRoom script rules u (tops s)
        unfolding tops
        room K h x a b la lb =
            let whole : K ≡ (x.0 ++ g.since.0) ++ r.journal = regroup _ _ _ x.0 g.since.0 x.1 g.since.1 in
            let up = room-of script rules rounds begin fence f k lk r sound paid owes at K (x.0 ++ g.since.0) whole h (λ c lc. same-next u.journal K c x ∙ g.f_place c lc) a b la lb in
            let w = (f.few k a b lk la lb).2 in
            omega arith

        calms : (a b : ℕ) → a < script.tasks → b < script.tasks → IsCalm u a b (tops s a b)
        unfolding Calm
        calms a b la lb = calm a b la lb

        -- after the flushes of the tasks before t, and the journal of the Poll of t then
        mid : ℕ → Run
        mid t = after script rules packet_size refusal u (sweep_to script rules u t)

        poll_of : ℕ → List Event
        poll_of t = polled script rules (mid t) t

        swept : (t : ℕ) → t ≤ script.tasks → Swept script rules u (tops s) room (mid t) t
        unfolding mid
        swept t l = all-tasks script rules u (tops s) room g.f_sound g.f_paid calms t l

        adds : (t : ℕ) → t ≤ script.tasks → AddsEvents u.journal (poll_of t)
        unfolding poll_of
        adds t l = events-on script rules u.journal (mid t).journal (polled script rules (mid t) t) (swept t l).events (polled-adds script rules (mid t) t)

        mid-owes : (t : ℕ) → Owes script rules (mid t).journal
        unfolding mid
        mid-owes t = after-owes script rules packet_size refusal (sweep_to script rules u t) u g.f_owes

        -- all that is ready before the sweep is copied by the Poll of its task
        ready-copied : (t : ℕ) → t ≤ script.tasks → list_all (λ m. happened (Copied m) (poll_of t)) (ready script u.journal t) ≡ true
        unfolding poll_of
        ready-copied t l =
            list_all-at (λ m. happened (Copied m) (polled script rules (mid t) t)) (ready script u.journal t)
            (subst (λ ms. AllByRecursion (λ m. happened (Copied m) (polled script rules (mid t) t) ≡ true) ms) (same-ready script rules u.journal (mid t).journal t (swept t l).events) (all-copied (ready script (mid t).journal t) (mid t).journal))

        -- what the Polls of the sweep have copied
        Copies : Type 0
        Copies =
            (o i : ℕ) (leg : Leg) → InRound (message o i leg) → (t : ℕ) → t < script.tasks → sender script (message o i leg) ≡ t
            → receiver script (message o i leg) < script.tasks → happened (Copied (message o i leg)) (poll_of t) ≡ stage s t o leg

        at-poll : Copies → (t : ℕ) → t < script.tasks → AtPoll s t (poll_of t)
        unfolding poll_of Copies
        at-poll copies t l =
            let x = adds t (omega arith) in record {
              since_r = (x.0 ++ g.since.0, regroup r.journal u.journal (poll_of t) x.0 g.since.0 x.1 g.since.1);
              is_atomic = poll-atomic script rules (mid t) t (swept t (omega arith)).is_sound;
              places = λ a la. same-next u.journal (poll_of t) a x ∙ g.f_place a la;
              copied = λ o i leg y from to. copies o i leg y t l from to;
            }

        record IsOn (counts : Counts) (v : Run) : Type 0 where
          fenced : Fenced v
          calm_on : Calm (suc s) v
          lines : sweep script rules u ≡ counted_sweep script.tasks counts (new s) script.tasks
          agrees : Agree script rules (counts_of v) (swept_counts counts (new s) script.tasks)
          events : AddsEvents u.journal v.journal
          marks : (a : ℕ) → a < script.tasks → IsSweptAt script rules u v a

        -- so this is what the sweep leads to
        goes-on : s ≤ 3 → (counts : Counts) → Agree script rules (counts_of u) counts → Copies → IsOn counts (after script rules packet_size refusal u (sweep script rules u))
        unfolding poll_of mid tops Calm
        goes-on ls counts agree copies =
            let k = swept script.tasks (omega arith) in
            let v = after script rules packet_size refusal u (sweep script rules u) in
            let told = λ (t b : ℕ) (lt : t < script.tasks) (lb : b < script.tasks). numbers-at s t (poll_of t) (at-poll copies t lt) b lt lb ∙ sums (length (numbered script r.journal t b)) _ _ _ (before-new s t b ls lt lb) in
            let c = tallied script rules u (tops s) room g.f_sound g.f_paid calms counts agree (new s) told script.tasks (omega arith) in record {
              fenced = record {
                f_sound = k.is_sound;
                f_paid = k.is_paid;
                f_owes = mid-owes script.tasks;
                since = (k.events.0 ++ g.since.0, regroup r.journal u.journal v.journal k.events.0 g.since.0 k.events.1 g.since.1);
                f_place = λ a la. same-next u.journal v.journal a k.events ∙ g.f_place a la;
              };
              calm_on = λ a b la lb. subst (IsCalm v a b) (tops-on s a b ls la lb) (c.calm_now a b la la lb);
              lines = c.lines;
              agrees = c.now;
              events = k.events;
              marks = k.marks;
            }
          where
            sums : (n t b w : ℕ) → t ≡ b + w → n + t ≡ (n + b) + w
            sums n t b w e = omega arith

      -- ---- what was copied when

      -- the Go of a call is copied by the Poll of its origin in the sweep after the calls
      go-copied : (s : ℕ) (u : Run) (g : Fenced u) (calm : Calm s u) (o i : ℕ) → InRound (message o i Go) → (t : ℕ) → t < script.tasks → o ≡ t → happened (Copied (message o i Go)) (poll_of s u g calm t) ≡ true
      go-copied s u g calm o i x t lt from =
          let place = g.f_place o x.has.0 in
          let below = go-below o i x in
          let issued = data-issued script rules rounds begin fence f u.journal o i g.f_sound.atomic x.has x.leg (omega arith) in
          subst (λ y. happened (Copied (message o i Go)) (poll_of s u g calm y) ≡ true) from
          (ready-go script rules u.journal (λ m. happened (Copied m) (poll_of s u g calm o)) o i (ready-copied s u g calm o (let h = x.has.0 in omega arith)) x.has.1 x.leg issued)

      -- what was copied stays so
      still-copied : (s : ℕ) (u : Run) (g : Fenced u) (calm : Calm s u) (m : MsgName) (t : ℕ) → t < script.tasks → happened (Copied m) u.journal ≡ true → happened (Copied m) (poll_of s u g calm t) ≡ true
      still-copied s u g calm m t lt c = kept-done u.journal (poll_of s u g calm t) (Copied m) (adds s u g calm t (omega arith)) c

      -- a call's Go has landed where its origin was swept, and what comes back was copied
      marked-back : (u v : Run) → Fenced u → Owes script rules v.journal → (o i : ℕ) → InRound (message o i Back) → IsSweptAt script rules u v o → happened (Copied (message o i Back)) v.journal ≡ true
      marked-back u v g owes_v o i x mark =
          let y = back-go o i x in
          let place = g.f_place o x.has.0 in
          let below = go-below o i y in
          let issued = data-issued script rules rounds begin fence f u.journal o i g.f_sound.atomic x.has y.leg (omega arith) in
          let copied = ready-go script rules u.journal (λ m. happened (Copied m) mark.then_journal) o i (list_all-at (λ m. happened (Copied m) mark.then_journal) (ready script u.journal o) mark.copied) x.has.1 y.leg issued in
          let landed = mark.landed (message o i Go) refl (target-room script rules u.journal o i g.f_sound.atomic issued y.leg) copied in
          back-in v o i owes_v x.leg landed

      marked-go : (u v : Run) → Fenced u → (o i : ℕ) → InRound (message o i Go) → IsSweptAt script rules u v o → happened (Copied (message o i Go)) v.journal ≡ true
      marked-go u v g o i y mark =
          let place = g.f_place o y.has.0 in
          let below = go-below o i y in
          let issued = data-issued script rules rounds begin fence f u.journal o i g.f_sound.atomic y.has y.leg (omega arith) in
          kept-done mark.then_journal v.journal (Copied (message o i Go)) mark.until
          (ready-go script rules u.journal (λ m. happened (Copied m) mark.then_journal) o i (list_all-at (λ m. happened (Copied m) mark.then_journal) (ready script u.journal o) mark.copied) y.has.1 y.leg issued)

      -- no fence of the round was entered
      Unentered : Run → Type 0
      Unentered u = (o i : ℕ) → happened (Entered o i) u.journal ≡ true → i < next r.journal o

      join-uncopied : (s : ℕ) (u : Run) (g : Fenced u) (calm : Calm s u) → Unentered u → (o i d : ℕ) → InRound (message o i (Join d)) → (t : ℕ) → t < script.tasks → happened (Copied (message o i (Join d))) (poll_of s u g calm t) ≡ false
      unfolding needs Unentered poll_of
      join-uncopied s u g calm none o i d x t lt =
          let tl : t ≤ script.tasks = omega arith in
          let atomic = poll-atomic script rules (mid s u g calm t) t (swept s u g calm t tl).is_sound in
          false_from_ne_true _ (λ c.
          let entered = (closed script rules (Copied (message o i (Join d))) (poll_of s u g calm t) atomic c).0 in
          let l = none o i (sym (same-entered u.journal (poll_of s u g calm t) o i (adds s u g calm t tl)) ∙ entered) in
          let place = at.place o x.has.0 in
          let low = x.low in
          absurd (omega arith))

      polled-step : (u : Run) (g : Fenced u) (calm : Calm 0 u) (t : ℕ) → AddsEvents (mid 0 u g calm t).journal (poll_of 0 u g calm t)
      unfolding poll_of
      polled-step u g calm t = polled-adds script rules (mid 0 u g calm t) t

      -- its Go would have been copied before the sweep
      early : (u : Run) (g : Fenced u) (calm : Calm 0 u) (o i t : ℕ) → t < script.tasks → t ≤ o → happened (Copied (message o i Back)) (poll_of 0 u g calm t) ≡ true → happened (Copied (message o i Go)) u.journal ≡ true
      unfolding poll_of mid needs
      early u g calm o i t lt ge c =
          let sw = swept 0 u g calm t (omega arith) in
          let v = mid 0 u g calm t in
          let atomic = poll-atomic script rules v t sw.is_sound in
          let landed = (last-of script rules (λ y. happened y (poll_of 0 u g calm t) ≡ true) (only_if (has_completion script rules o i) (Begun (message o i Go) ∷ Ended (message o i Go) ∷ [])) (Landed (message o i Go) ∷ to_land script rules o i) (closed script rules (Copied (message o i Back)) (poll_of 0 u g calm t) atomic c)).0 in
          let before_poll = polled-landed (ready script v.journal t) v.journal (message o i Go) landed in
          let copied = (closed script rules (Landed (message o i Go)) v.journal sw.is_sound.atomic before_poll).1.0 in
          others-none script rules o i (sweep_to script rules u t) u (sweep-other script rules o i u t ge) copied

      -- the first sweep
      copies-first : (u : Run) (g : Fenced u) (calm : Calm 0 u) → Unentered u → ((m : MsgName) → happened (Copied m) u.journal ≡ true → happened (Copied m) r.journal ≡ true) → Copies 0 u g calm
      unfolding Copies
      copies-first u g calm none old o i Go x t lt from to = go-copied 0 u g calm o i x t lt from
      copies-first u g calm none old o i Back x t lt from to =
          ⊎_elim
          (λ (l : o < t).
          let tl : t ≤ script.tasks = omega arith in
          kept-done (mid 0 u g calm t).journal (poll_of 0 u g calm t) (Copied (message o i Back)) (polled-step u g calm t)
          (marked-back u (mid 0 u g calm t) g (mid-owes 0 u g calm t) o i x ((swept 0 u g calm t tl).marks o l))
          ∙ sym (lt-ltb o t l))
          (λ (ge : t ≤ o). false_from_ne_true _ (λ c. both_ways _ (not-begun o i Go (back-go o i x)) (old (message o i Go) (early u g calm o i t lt ge c))) ∙ sym (le-ltb o t ge))
          (cases_lt o t)
      copies-first u g calm none old o i Note x t lt from to = absurd (no-note o i x)
      copies-first u g calm none old o i Echo x t lt from to = absurd (no-echo o i x)
      copies-first u g calm none old o i (Join d) x t lt from to = join-uncopied 0 u g calm none o i d x t lt

      -- all that calls send was copied before
      CallsCopied : Run → Type 0
      CallsCopied u = (o i : ℕ) → (InRound (message o i Go) → happened (Copied (message o i Go)) u.journal ≡ true) × (InRound (message o i Back) → happened (Copied (message o i Back)) u.journal ≡ true)

      copies-second : (u : Run) (g : Fenced u) (calm : Calm 1 u) → Unentered u → CallsCopied u → Copies 1 u g calm
      unfolding Copies CallsCopied
      copies-second u g calm none calls o i Go x t lt from to = still-copied 1 u g calm (message o i Go) t lt ((calls o i).0 x)
      copies-second u g calm none calls o i Back x t lt from to = still-copied 1 u g calm (message o i Back) t lt ((calls o i).1 x)
      copies-second u g calm none calls o i Note x t lt from to = absurd (no-note o i x)
      copies-second u g calm none calls o i Echo x t lt from to = absurd (no-echo o i x)
      copies-second u g calm none calls o i (Join d) x t lt from to = join-uncopied 1 u g calm none o i d x t lt

      -- and all fences were entered
      AllEntered : Run → Type 0
      AllEntered u = (o : ℕ) → o < script.tasks → happened (Entered o (fence k o)) u.journal ≡ true

      copies-third : (u : Run) (g : Fenced u) (calm : Calm 2 u) → AllEntered u → CallsCopied u → Copies 2 u g calm
      unfolding Copies CallsCopied AllEntered
      copies-third u g calm entered calls o i Go x t lt from to = still-copied 2 u g calm (message o i Go) t lt ((calls o i).0 x)
      copies-third u g calm entered calls o i Back x t lt from to = still-copied 2 u g calm (message o i Back) t lt ((calls o i).1 x)
      copies-third u g calm entered calls o i Note x t lt from to = absurd (no-note o i x)
      copies-third u g calm entered calls o i Echo x t lt from to = absurd (no-echo o i x)
      copies-third u g calm entered calls o i (Join d) x t lt from to =
          let here = subst (λ n. happened (Entered o n) u.journal ≡ true) (sym (join-at o i d x)) (entered o x.has.0) in
          subst (λ y. happened (Copied (message o i (Join d))) (poll_of 2 u g calm y) ≡ true) from
          (ready-join script rules u.journal (λ m. happened (Copied m) (poll_of 2 u g calm o)) o i d (ready-copied 2 u g calm o (let h = x.has.0 in omega arith)) x.has.1 x.leg here)

      -- all of the round was copied before
      AllCopied : Run → Type 0
      AllCopied u = (o i : ℕ) (leg : Leg) → InRound (message o i leg) → happened (Copied (message o i leg)) u.journal ≡ true

      copies-fourth : (u : Run) (g : Fenced u) (calm : Calm 3 u) → AllCopied u → Copies 3 u g calm
      unfolding Copies AllCopied
      copies-fourth u g calm all o i Go x t lt from to = still-copied 3 u g calm (message o i Go) t lt (all o i Go x)
      copies-fourth u g calm all o i Back x t lt from to = still-copied 3 u g calm (message o i Back) t lt (all o i Back x)
      copies-fourth u g calm all o i Note x t lt from to = absurd (no-note o i x)
      copies-fourth u g calm all o i Echo x t lt from to = absurd (no-echo o i x)
      copies-fourth u g calm all o i (Join d) x t lt from to = still-copied 3 u g calm (message o i (Join d)) t lt (all o i (Join d) x)

      -- ---- the whole round

      sweep_after : Run → Run
      sweep_after u = after script rules packet_size refusal u (sweep script rules u)

      -- the calls, and two sweeps
      record Halfway (counts : Counts) (u v : Run) : Type 0 where
        mid_fenced : Fenced v
        mid_calm : Calm 2 v
        mid_settled : IsSettled script rules v
        mid_lines : two_sweeps script rules u ≡ counted_sweep script.tasks counts (new 0) script.tasks ++ counted_sweep script.tasks (swept_counts counts (new 0) script.tasks) (new 1) script.tasks
        mid_counts : Agree script rules (counts_of v) (swept_counts (swept_counts counts (new 0) script.tasks) (new 1) script.tasks)
        mid_calls : CallsCopied v
        mid_unentered : Unentered v

      first-half : (counts : Counts) → Agree script rules (counts_of r) counts → (u v : Run)
          → u ≡ after script rules packet_size refusal r (calls_to script rules begin fence k script.tasks)
          → v ≡ after script rules packet_size refusal u (two_sweeps script rules u)
          → Halfway counts u v
      unfolding sweep_after Calm tops before Unentered CallsCopied
      first-half counts agree u v eu ev =
          let c = subst (λ w. Called script rules rounds begin fence f k lk r sound paid owes at w script.tasks 0) (sym eu) (all-calls script rules rounds begin fence f k lk r sound paid owes at script.tasks (omega arith)) in
          let g : Fenced u = record { f_sound = c.u_sound; f_paid = subst (IsPaid script rules) (sym eu) (after-paid script rules (calls_to script rules begin fence k script.tasks) r paid); f_owes = c.u_owes; since = (c.steps.later, c.steps.journal); f_place = λ a la. c.full a la la } in
          let calm : Calm 0 u = λ a b la lb. subst (IsCalm u a b) (plus (length (numbered script r.journal a b))) (steps-calm script rules r u a b (length (numbered script r.journal a b)) c.steps (at.settled.calm a b la lb)) in
          let none : Unentered u = λ o i e. at.passed o i (c.same_entered o i e) in
          let agree0 : Agree script rules (counts_of u) counts = λ x y lx ly. ap length (c.steps.wires x y) ∙ agree x y lx ly in
          let one = goes-on 0 u g calm (omega arith) counts agree0 (copies-first u g calm none (λ m h. steps-copied script rules r u m c.steps h)) in
          let s1 = sweep_after u in
          let calls : CallsCopied s1 = λ o i. (λ x. marked-go u s1 g o i x (one.marks o x.has.0), λ x. marked-back u s1 g one.fenced.f_owes o i x (one.marks o x.has.0)) in
          let none1 : Unentered s1 = λ o i e. none o i (sym (same-entered u.journal s1.journal o i one.events) ∙ e) in
          let counts1 = swept_counts counts (new 0) script.tasks in
          let two = goes-on 1 s1 one.fenced one.calm_on (omega arith) counts1 one.agrees (copies-second s1 one.fenced one.calm_on none1 calls) in
          let s2 = sweep_after s1 in
          let is : v ≡ s2 = ev ∙ after-join script rules (sweep script rules u) (sweep script rules s1) u in
          let plain : (a b : ℕ) → a < script.tasks → b < script.tasks → IsCalm u a b (length (numbered script u.journal a b)) = λ a b la lb. subst (λ xs. IsCalm u a b (length xs)) (sym (steps-out script rules r u a b c.steps)) (steps-calm script rules r u a b (length (numbered script r.journal a b)) c.steps (at.settled.calm a b la lb)) in
          let settled = (swept-fences script rules rounds begin fence f k lk r sound paid owes at u g plain).0 in
          let l0 = one.lines in
          let l1 = two.lines in
          record {
            mid_fenced = subst Fenced (sym is) two.fenced;
            mid_calm = subst (Calm 2) (sym is) two.calm_on;
            mid_settled = subst (IsSettled script rules) (sym ev) settled;
            mid_lines = λ i. l0 i ++ l1 i;
            mid_counts = subst (λ w. Agree script rules (counts_of w) (swept_counts counts1 (new 1) script.tasks)) (sym is) two.agrees;
            mid_calls = λ o i. (λ x. subst (λ w. happened (Copied (message o i Go)) w.journal ≡ true) (sym is) (kept-done s1.journal s2.journal (Copied (message o i Go)) two.events ((calls o i).0 x)), λ x. subst (λ w. happened (Copied (message o i Back)) w.journal ≡ true) (sym is) (kept-done s1.journal s2.journal (Copied (message o i Back)) two.events ((calls o i).1 x)));
            mid_unentered = λ o i e. none1 o i (sym (same-entered s1.journal s2.journal o i two.events) ∙ subst (λ w. happened (Entered o i) w.journal ≡ true) is e);
          }
        where
          plus : (n : ℕ) → n ≡ n + 0
          plus n = omega arith

      -- the fences are entered, and two sweeps more, and they are passed
      record RoundEnd (counts : Counts) (w x : Run) : Type 0 where
        end_lines : two_sweeps script rules w ≡ counted_sweep script.tasks counts (new 2) script.tasks ++ counted_sweep script.tasks (swept_counts counts (new 2) script.tasks) (new 3) script.tasks
        end_counts : Agree script rules (counts_of x) (swept_counts (swept_counts counts (new 2) script.tasks) (new 3) script.tasks)

      second-half : (first counts : Counts) (t v w x y : Run) → Halfway first t v → Agree script rules (counts_of v) counts
          → w ≡ after script rules packet_size refusal v (steps_to script rules script.tasks)
          → x ≡ after script rules packet_size refusal w (two_sweeps script rules w)
          → y ≡ after script rules packet_size refusal x (steps_to script rules script.tasks)
          → RoundEnd counts w y
      unfolding sweep_after Calm tops before Unentered CallsCopied AllEntered AllCopied
      second-half first counts t v w x y h agree ew ex ey =
          let unentered = λ (a : ℕ) (la : a < script.tasks). false_from_ne_true _ (λ e. let l = h.mid_unentered a (fence k a) e in let place = at.place a la in let low = (f.order k a lk la).0 in absurd (omega arith)) in
          let n = subst (λ z. Enters script rules rounds begin fence f k lk r sound paid owes at v h.mid_settled h.mid_fenced unentered z script.tasks) (sym ew) (all-enter script rules rounds begin fence f k lk r sound paid owes at v h.mid_settled h.mid_fenced unentered script.tasks (omega arith)) in
          let g : Fenced w = record { f_sound = n.e_sound; f_paid = subst (IsPaid script rules) (sym ew) (after-paid script rules (steps_to script rules script.tasks) v h.mid_fenced.f_paid); f_owes = n.e_owes; since = (n.e_steps.later ++ h.mid_fenced.since.0, regroup r.journal v.journal w.journal n.e_steps.later h.mid_fenced.since.0 n.e_steps.journal h.mid_fenced.since.1); f_place = n.e_place } in
          let calm : Calm 2 w = λ a b la lb. steps-calm script rules v w a b (length (numbered script r.journal a b) + staged 1 a (links a b)) n.e_steps (h.mid_calm a b la lb) in
          let agree2 : Agree script rules (counts_of w) counts = λ a b la lb. ap length (n.e_steps.wires a b) ∙ agree a b la lb in
          let calls : CallsCopied w = λ o i. (λ z. steps-done script rules v w (Copied (message o i Go)) n.e_steps ((h.mid_calls o i).0 z), λ z. steps-done script rules v w (Copied (message o i Back)) n.e_steps ((h.mid_calls o i).1 z)) in
          let entered : AllEntered w = λ o lo. n.inside o lo lo in
          let three = goes-on 2 w g calm (omega arith) counts agree2 (copies-third w g calm entered calls) in
          let s = sweep_after w in
          let all : AllCopied s = λ o i leg z. of-leg w g entered calls three.events three.marks o i leg z in
          let counts3 = swept_counts counts (new 2) script.tasks in
          let four = goes-on 3 s three.fenced three.calm_on (omega arith) counts3 three.agrees (copies-fourth s three.fenced three.calm_on all) in
          let is : x ≡ sweep_after s = ex ∙ after-join script rules (sweep script rules w) (sweep script rules s) w in
          let plain : (a b : ℕ) → a < script.tasks → b < script.tasks → IsCalm w a b (length (numbered script w.journal a b)) = λ a b la lb. subst (λ xs. IsCalm w a b (length xs)) (sym (steps-out script rules v w a b n.e_steps)) (steps-calm script rules v w a b (length (numbered script v.journal a b)) n.e_steps (h.mid_settled.calm a b la lb)) in
          let z4 = subst (λ u. IsSettled script rules u × Fenced u × AddsEvents w.journal u.journal) (sym ex) (let z = swept-fences script rules rounds begin fence f k lk r sound paid owes at w g plain in (z.0, z.1, z.2)) in
          let entered4 = λ (a : ℕ) (la : a < script.tasks). kept-done w.journal x.journal (Entered a (fence k a)) z4.2 (entered a la) in
          let p = subst (λ u. Passes script rules rounds begin fence f k lk r sound paid owes at x z4.0 z4.1 entered4 u script.tasks) (sym ey) (all-pass script rules rounds begin fence f k lk r sound paid owes at x z4.0 z4.1 entered4 script.tasks (omega arith)) in
          let l2 = three.lines in
          let l3 = four.lines in
          record {
            end_lines = λ i. l2 i ++ l3 i;
            end_counts = λ a b la lb. ap length (p.p_steps.wires a b) ∙ subst (λ u. Agree script rules (counts_of u) (swept_counts counts3 (new 3) script.tasks)) (sym is) four.agrees a b la lb;
          }
        where
          of-leg : (w : Run) → Fenced w → AllEntered w → CallsCopied w → AddsEvents w.journal (sweep_after w).journal → ((a : ℕ) → a < script.tasks → IsSweptAt script rules w (sweep_after w) a) → (o i : ℕ) (leg : Leg) → InRound (message o i leg) → happened (Copied (message o i leg)) (sweep_after w).journal ≡ true
          of-leg w g entered calls events marks o i Go z = kept-done w.journal (sweep_after w).journal (Copied (message o i Go)) events ((calls o i).0 z)
          of-leg w g entered calls events marks o i Back z = kept-done w.journal (sweep_after w).journal (Copied (message o i Back)) events ((calls o i).1 z)
          of-leg w g entered calls events marks o i Note z = absurd (no-note o i z)
          of-leg w g entered calls events marks o i Echo z = absurd (no-echo o i z)
          of-leg w g entered calls events marks o i (Join d) z =
              let mark = marks o z.has.0 in
              let here = subst (λ n. happened (Entered o n) w.journal ≡ true) (sym (join-at o i d z)) (entered o z.has.0) in
              kept-done mark.then_journal (sweep_after w).journal (Copied (message o i (Join d))) mark.until
              (ready-join script rules w.journal (λ m. happened (Copied m) mark.then_journal) o i d (list_all-at (λ m. happened (Copied m) mark.then_journal) (ready script w.journal o) mark.copied) z.has.1 z.leg here)

      -- The lines of the round are told by the counts, and so are the counts after it.
      pub counted-round : (counts : Counts) → Agree script rules (counts_of r) counts
          → (round_acts script rules begin fence k r ≡ counted_round script.tasks counts (λ a. fence k a - begin k a) new)
          × Agree script rules (counts_of (after script rules packet_size refusal r (round_acts script rules begin fence k r))) (sweeps_counts script.tasks counts new 4)
      unfolding sweeps_counts
      counted-round counts agree =
          let y1 = calls_to script rules begin fence k script.tasks in
          let y2 = and_after script rules r y1 (two_sweeps script rules) in
          let y3 = and_after script rules r y2 (λ s. steps_to script rules script.tasks) in
          let y4 = and_after script rules r y3 (two_sweeps script rules) in
          let u1 = after script rules packet_size refusal r y1 in
          let u2 = after script rules packet_size refusal r y2 in
          let u3 = after script rules packet_size refusal r y3 in
          let u4 = after script rules packet_size refusal r y4 in
          let u5 = after script rules packet_size refusal r (round_acts script rules begin fence k r) in
          let and-on = after-and script rules rounds begin fence f k lk r sound paid owes at r in
          let h = first-half counts agree u1 u2 refl (and-on y1 (two_sweeps script rules)) in
          let e = second-half counts (swept_counts (swept_counts counts (new 0) script.tasks) (new 1) script.tasks) u1 u2 u3 u4 u5 h h.mid_counts (and-on y2 (λ s. steps_to script rules script.tasks)) (and-on y3 (two_sweeps script rules)) (and-on y4 (λ s. steps_to script rules script.tasks)) in
          let l1 = same-calls begin fence k script.tasks in
          let l2 = h.mid_lines in
          let l3 = same-fences script.tasks in
          let l4 = e.end_lines in
          (λ i. (((l1 i ++ l2 i) ++ l3 i) ++ l4 i) ++ l3 i, e.end_counts)
