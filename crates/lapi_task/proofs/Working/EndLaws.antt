-- What the end of a job makes of its task.
use Rattle.std.proofs.Common.{◌≡◌, ℕ, ◌<◌, ◌≤◌, true, List, [], ◌∷◌, ◌++◌, length, Option, Some, None, refl, sym, ap, ◌∙◌, subst, arith, append_assoc}
use Rattle.std.specs.Prelude.{slice_get, slice_index, option_map}
use Rattle.std.proofs.lemmas.Bool.{and_parts, ltb-true}
use Rattle.std.proofs.lemmas.List.{append-nil}
use Rattle.lapi_base.specs.declared.script.Script.{Script}
use Rattle.lapi_base.specs.declared.rule.Rules.{Rules}
use Rattle.lapi_base.specs.declared.statement.Statement.{Statement}
use Rattle.lapi_base.specs.declared.event.Event.{Event}
use Rattle.lapi_base.specs.declared.event.Event.TheVariants.{Copy, End}
use Rattle.lapi_base.specs.declared.layout.TheConstants.{PAYLOAD_ROOM}
use Rattle.lapi_base.specs.declared.message.Leg.TheVariants.{Go}
use Rattle.lapi_base.specs.declared.message.MsgName.{MsgName}
use Rattle.lapi_base.specs.declared.reply.Reply.TheVariants.{Did}
use Rattle.lapi_base.specs.Laws.Headline.{Happened}
use Rattle.lapi_base.specs.Laws.Receiving.{NamesCounter}
use Rattle.lapi_base.specs.Packet.Layout.{layout_of, unit_of}
use Rattle.lapi_base.specs.Record.Acts.{end, end_at, after_end, reply_with, with_events, followed}
use Rattle.lapi_base.specs.Record.Atomic.{Atomic, needs}
use Rattle.lapi_base.specs.Record.Handlers.{effect_of}
use Rattle.lapi_base.specs.Record.Handlers as handlers
use Rattle.lapi_base.specs.Record.Jobs.{is_job}
use Rattle.lapi_base.specs.Record.Names.{Begun, Copied, happened}
use Rattle.lapi_base.specs.Record.Operations.{statement, tgt_counter, cmpl_counter}
use Rattle.lapi_base.specs.Record.Values.{values}
use Rattle.lapi_base.specs.Record.Wires.{Run}
use Rattle.lapi_handlers.specs.declared.finished.Finished.{Finished}
use Rattle.lapi_jobs.specs.declared.pending.Pending.{Pending}
use Rattle.lapi_jobs.specs.Jobs.{Works, run_by, with_run}
use Rattle.lapi_base.proofs.LayoutLaws.{unit-most}
use Rattle.lapi_laws.proofs.Backward.{closed, there}
use Rattle.lapi_laws.proofs.Sound.{landed-copied}
use Rattle.lapi_laws.proofs.Turns.{end-sound}
use Rattle.lapi_link.specs.Sender.{SendingEnd}
use Rattle.lapi_parts.proofs.Accepted.{copied-accepted}
use Rattle.lapi_parts.proofs.QueuedJobs.{running-begun}
use Rattle.lapi_parts.proofs.Records.{record-sound}
use Rattle.lapi_task.specs.declared.outcome.Outcome.{Outcome}
use Rattle.lapi_task.specs.declared.state.State.{State}
use Rattle.lapi_task.specs.declared.task.Task.{Task}
use Rattle.lapi_task.specs.Counting.{announced}
use Rattle.lapi_task.specs.Effects.{all_written}
use Rattle.lapi_task.specs.Landed.{Follower, MayLeave, with_follower}
use Rattle.lapi_task.specs.HasEffect.{IsAt, HasEffect}
use Rattle.lapi_task.specs.HasJobs.{pending}
use Rattle.lapi_task.specs.StandsFor.{task_unit, SenderAt, HoldsFor, StandsFor}
use Rattle.lapi_task.specs.Working.{IsFinished, word_back, end_follower, end_events}
use Rattle.lapi_task.proofs.Copying.CopyLaws.{unit-is}
use Rattle.lapi_task.proofs.Working.EffectLaws.{memory-ended, counter-ended}
use Rattle.lapi_task.proofs.Working.EndFollowers.{IsWordBack, EndsJob, word-is, after-is, events-are, end-follows, follower-ends}
use Rattle.lapi_task.proofs.Following.FollowerParts.{copies}
use Rattle.lapi_task.proofs.Following.JobsLand.{before-followed}
use Rattle.lapi_task.proofs.Following.Leaving.{Follows, may-leave}
use Rattle.lapi_task.proofs.Receiving.ReceiveEvents.{polled-apart}
use Rattle.lapi_task.proofs.Receiving.ReceiveLinks.{ends-sent, followed-length, settled-same, stays-none}
use Rattle.lapi_task.proofs.Working.JobsStay.{jobs-stay}
use Rattle.lapi_task.proofs.Working.QueueLaws.{jobs-ended}
use Rattle.lapi_task.proofs.Receiving.ReceiveCounts.{announced-length}
use Rattle.lapi_task.proofs.Stepping.StepLaws.{stands-on}
use Rattle.lapi_task.proofs.Stepping.StepMemories.{memory-none}
use Rattle.lapi_task.proofs.Working.WorkStays.{Made, end-quiet, with_event, work-holds, work-stands}
use Rattle.lapi_task.specs.Unfinished.{Tracks}
use Rattle.lapi_task.proofs.Acknowledging.UnfinishedLaws.{tracks-followed}

module _ (script : Script) (rules : Rules) (t : ℕ) (before : Task) (r : Run) (at : IsAt script rules t before r) (f : Finished) (fin : IsFinished script rules t r f) where
  abbrev J : List Event
  J = r.journal

  abbrev m : MsgName
  m = f.name

  abbrev s : Statement
  s = statement script m.origin m.statement

  abbrev ended : Event
  ended = End m t f.worker

  atomic-now : Atomic script rules J
  atomic-now = let sound = record-sound script rules r at.recorded in sound.atomic

  begun : (is_job script rules t m ≡ true) × (f.worker < script.workers) × Happened (Begun m) J
  begun = let x = running-begun script rules J atomic-now t f.worker m fin.running in (x.0, x.1, x.2)

  copied : happened (Copied m) J ≡ true
  unfolding needs
  copied = landed-copied script rules J m atomic-now (closed script rules (Begun m) J atomic-now begun.2).0

  -- its worker is there, and runs its job
  pub worker-there : f.worker < length before.state.jobs.workers
  worker-there = let h = at.stands.holds.jobs in let n = h.workers in let l = begun.1 in omega (arith, n, l)

  pub runs-job : run_by before.state.jobs f.worker ≡ Some (pending script rules m)
  runs-job = let h = at.stands.holds.jobs in h.running f.worker begun.1 ∙ ap (λ (o : Option MsgName). option_map (pending script rules) o) fin.running

  pub job-is : (o : Option Pending) (job : Pending) → o ≡ run_by before.state.jobs f.worker → o ≡ Some job → job ≡ pending script rules m
  job-is o job made is = let q : Some job ≡ Some (pending script rules m) = sym is ∙ made ∙ runs-job in cc

  pub some-job : (o : Option Pending) → o ≡ run_by before.state.jobs f.worker → o ≡ None → ⊥
  some-job o made is = let q : None ≡ Some (pending script rules m) = sym is ∙ made ∙ runs-job in absurd (cc)

  -- What follows: the word that the effect has for the origin, and the message.
  abbrev word : Option (ℕ × ℕ)
  word = word_back before.sizes f.effect

  abbrev cmpl : Option ℕ
  cmpl = cmpl_counter s

  abbrev follower : Option Follower
  follower = end_follower script.layout t m word cmpl

  says : IsWordBack script rules t m begun.0 J word
  says = word-is script rules t m begun.0 J before.sizes at.stands.calls.sizes f fin.effect fin.buffer

  follows : (x : Follower) → follower ≡ Some x → Follows script rules (ended ∷ J) t m.origin x
  follows x e = end-follows script rules t m begun.0 J f.worker word says cmpl refl x e

  -- as the task has it
  follower-is : end_follower before.sizes.layout before.state.number m word cmpl ≡ follower
  follower-is = λ i. end_follower (at.stands.calls.sizes i).layout (at.stands.holds.number i) m word cmpl

  -- The record after it.
  then-follows : after_end script rules m ≡ copies follower
  then-follows = after-is script rules t m begun.0 J word says ∙ events-are script.layout t m word cmpl

  ends : end script rules r t f.worker ≡ reply_with script rules (with_events script rules r (ended ∷ copies follower)) Did
  unfolding end
  ends =
      ap (end_at script rules r t f.worker) fin.running
      ∙ ap (λ (es : List Event). reply_with script rules (with_events script rules r (ended ∷ es)) Did) then-follows

  atomic-then : Atomic script rules (followed (ended ∷ J) (copies follower))
  unfolding followed
  atomic-then = subst (λ (x : Run). Atomic script rules x.journal) ends (end-sound script rules r t f.worker (record-sound script rules r at.recorded)).atomic

  atomic-copied : (x : Follower) → follower ≡ Some x → Atomic script rules (Copy x.packet.name ∷ ended ∷ J)
  unfolding followed
  atomic-copied x e = subst (λ (o : Option Follower). Atomic script rules (followed (ended ∷ J) (copies o))) e atomic-then

  atomic-ended : Atomic script rules (ended ∷ J)
  atomic-ended = before-followed script rules t (copies follower) (ended ∷ J) atomic-then

  -- What it names is there.
  pub counter-there : (counter : Option ℕ) → counter ≡ tgt_counter s → (c : ℕ) → counter ≡ Some c → c < length before.state.counters
  counter-there counter is c e =
      let acc = copied-accepted script rules J m atomic-now copied in
      let known : c < script.counters = subst (λ (o : Option ℕ). NamesCounter script o) (sym is ∙ e) acc.tgt in
      let n = at.stands.holds.counter_count in
      omega (arith, n, known)

  origin-known : m.origin < script.tasks
  origin-known = ltb-true m.origin script.tasks (and_parts _ _ (and_parts _ _ (there script rules (Copied m) J atomic-now copied)).0).0

  pub link-there : (m.origin < length before.senders.items) × (task_unit before ≤ PAYLOAD_ROOM)
  link-there = (
    (let n = at.stands.sender_count in let l = origin-known in omega (arith, n, l)),
    unit-most (layout_of before.sizes.layout),
  )

  pub follower-leaves : (x : Follower) → end_follower before.sizes.layout before.state.number m word cmpl ≡ Some x → MayLeave (task_unit before) x
  follower-leaves x given =
      let e = sym follower-is ∙ given in
      subst (λ (u : ℕ). MayLeave u x) (sym (unit-is script rules t before at.stands.calls))
      (may-leave script rules at.stands.calls.valid at.stands.calls.rules_valid (ended ∷ J) t m.origin x (follows x e) (atomic-copied x e))

  -- What the task holds then.
  abbrev mid : (jobs : Works) (memory counters : List ℕ) → State
  mid jobs memory counters = record before.state { jobs = jobs; memory = memory; counters = counters }

  made : (jobs : Works) (memory counters : List ℕ) → jobs ≡ with_run before.state.jobs f.worker None → memory ≡ all_written before.state.memory (handlers.written f.effect f.buffer) → counters ≡ announced before.state.counters (tgt_counter s) → Made script rules t ended J before.state (mid jobs memory counters)
  unfolding effect_of
  made jobs memory counters free wrote told =
      let h = at.stands.holds in
      let writes : handlers.written f.effect f.buffer ≡ effect_of script rules m ((values script rules J).held m) =
      ap (λ x. handlers.written x f.buffer) fin.effect
      ∙ ap (λ (bytes : List ℕ). effect_of script rules m bytes) fin.buffer in
      record {
        memory = wrote ∙ ap (λ (bytes : List ℕ). all_written bytes (handlers.written f.effect f.buffer)) h.memory ∙ memory-ended script rules J m t f.worker (handlers.written f.effect f.buffer) atomic-ended writes;
        counter_count = ap length told ∙ announced-length before.state.counters (tgt_counter s) ∙ h.counter_count;
        counters = λ c l.
            ap (λ (cs : List ℕ). slice_index cs c) told
            ∙ counter-ended script rules J m t f.worker before.state.counters c (let n = h.counter_count in omega (arith, n, l)) (h.counters c l);
        jobs = jobs-ended script rules t J m f.worker before.state.jobs jobs h.jobs begun.1 free;
        rest = refl;
      }

  module _ (jobs : Works) (memory counters : List ℕ) (free : jobs ≡ with_run before.state.jobs f.worker None) (wrote : memory ≡ all_written before.state.memory (handlers.written f.effect f.buffer)) (told : counters ≡ announced before.state.counters (tgt_counter s)) where
    abbrev task : Task
    task = record before { state = mid jobs memory counters }

    abbrev K : Run
    K = with_event script rules t r ended

    stands-mid : StandsFor script rules t task K
    stands-mid = work-stands script rules t r ended before (mid jobs memory counters) tt (end-quiet script rules t m f.worker J) at.stands (made jobs memory counters free wrote told)

    -- and with the sending ends changed
    stands-from : (L : List Event) (after : Task) → after ≡ record task { senders = after.senders } → HoldsFor script rules t (mid jobs memory counters) L → Tracks script rules t before.unfinished (record r { journal = L }) → length after.senders.items ≡ script.tasks → ((b : ℕ) → b < script.tasks → SenderAt script rules (record r { journal = L }) t b (slice_get after.senders.items b)) → StandsFor script rules t after (record r { journal = L })
    stands-from L after same holds tracks count links =
        let h = at.stands in
        subst (λ (x : Task). StandsFor script rules t x (record r { journal = L })) (sym same) (record {
          calls = record { valid = h.calls.valid; rules_valid = h.calls.rules_valid; sizes = h.calls.sizes; statements = h.calls.statements; limits = h.calls.limits; rounds = h.calls.rounds };
          holds = holds;
          unfinished = tracks;
          sender_count = count;
          receiver_count = h.receiver_count;
          senders = links;
          receivers = h.receivers;
          owed_count = h.owed_count;
          owed = h.owed;
        })

    -- by what follows
    module _ (x : Follower) (e : follower ≡ Some x) where
      abbrev copy : Event
      copy = Copy x.packet.name

      one-of : EndsJob script rules t m begun.0 x.packet.name
      one-of = follower-ends script rules t m begun.0 word cmpl x e

      copied-made : Made script rules t copy (ended ∷ J) (mid jobs memory counters) (mid jobs memory counters)
      copied-made =
          let h = stands-mid.holds in record {
            memory = h.memory ∙ sym (memory-none script rules copy (ended ∷ J) t refl);
            counter_count = h.counter_count;
            counters = λ d l. h.counters d l ∙ sym (one-of.counts (ended ∷ J) t d);
            jobs = jobs-stay script rules t copy (ended ∷ J) jobs jobs tt refl h.jobs;
            rest = refl;
          }

      stands-copied : (then : Task) → then ≡ record task { senders = then.senders } → then.senders.items ≡ with_follower (unit_of script) (Some x) before.senders.items → StandsFor script rules t then (with_event script rules t K copy)
      stands-copied then same ends =
          stands-from (copy ∷ ended ∷ J) then same
          (work-holds script rules t copy (ended ∷ J) (mid jobs memory counters) (mid jobs memory counters) one-of.leg stands-mid.holds copied-made)
          (tracks-followed script rules t before.unfinished K x.packet.name (polled-apart Go x.packet.name.leg refl one-of.leg) (atomic-copied x e) stands-mid.unfinished)
          (ap length ends ∙ followed-length script rules (unit_of script) (Some x) before.senders.items ∙ at.stands.sender_count)
          (λ b l.
          subst (λ (xs : List SendingEnd). SenderAt script rules (with_event script rules t K copy) t b (slice_get xs b)) (sym ends)
          (ends-sent script rules K K m.origin t before.senders.items (λ y. settled-same script rules K t y) origin-known stands-mid.senders (ended ∷ J) (λ y _. stays-none script rules (ended ∷ J) t y) x (follows x e) (atomic-copied x e) b l))

    stands-then : (o : Option Follower) → follower ≡ o → (then : Task) → then ≡ record task { senders = then.senders } → then.senders.items ≡ with_follower (unit_of script) o before.senders.items → StandsFor script rules t then (record r { journal = followed (ended ∷ J) (copies o) })
    unfolding followed
    stands-then None e then same ends =
        stands-from (ended ∷ J) then same stands-mid.holds stands-mid.unfinished (ap length ends ∙ at.stands.sender_count)
        (λ b l. subst (λ (xs : List SendingEnd). SenderAt script rules K t b (slice_get xs b)) (sym ends) (stands-mid.senders b l))
    stands-then (Some x) e then same ends = stands-copied x e then same ends

    pub ends-does : (then : Task) (old out : Outcome) (mids : List Event) →
        then ≡ record task { senders = then.senders } →
        then.senders.items ≡ with_follower (task_unit before) (end_follower before.sizes.layout before.state.number m word cmpl) before.senders.items →
        mids ≡ old.events ++ End m before.state.number f.worker ∷ [] → out.events ≡ mids ++ end_events m word cmpl → out.entries ≡ old.entries →
        HasEffect script rules t r (end script rules r t f.worker) then old out
    unfolding followed
    ends-does then old out mids same senders first more entries =
        subst (λ (x : Run). HasEffect script rules t r x then old out) (sym ends) (record {
          events = ended ∷ copies follower;
          entries = [];
          stands = stands-on script rules t (record r { journal = followed (ended ∷ J) (copies follower) }) Did then
              (stands-then follower refl then same
              (senders ∙ (λ i. with_follower (unit-is script rules t before at.stands.calls i) (follower-is i) before.senders.items)));
          journal = refl;
          events_added =
              more
              ∙ ap (λ (es : List Event). mids ++ es) (events-are script.layout t m word cmpl)
              ∙ ap (λ (es : List Event). es ++ copies follower) (first ∙ (λ i. old.events ++ End m (at.stands.holds.number i) f.worker ∷ []))
              ∙ append_assoc old.events (ended ∷ []) (copies follower);
          put = λ b l. sym (append-nil _);
          entries_added = entries ∙ sym (append-nil old.entries);
          ends = tt;
        })
