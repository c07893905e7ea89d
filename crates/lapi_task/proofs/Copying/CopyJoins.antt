-- The Joins of a call that was entered: what a task has while they are copied, one after another.
use Rattle.std.proofs.Common.{◌≡◌, ℕ, zero, suc, ◌+◌, ◌<◌, ◌≤◌, ◌==◌, Bool, true, false, List, [], ◌∷◌, ◌++◌, length, Option, Some, None, refl, sym, ap, ◌∙◌, subst, ⊎_elim, arith, append_assoc, append-nil}
use Rattle.std.specs.Prelude.{slice_get, slice_index, slice_set, get_or}
use Rattle.std.specs.List.{AllByRecursion}
use Rattle.std.proofs.Math.ListN.{length-set}
use Rattle.std.proofs.lemmas.Bool.{cond-true, cond-false, cases_lt}
use Rattle.lapi_base.specs.declared.script.Script.{Script}
use Rattle.lapi_base.specs.declared.rule.Rules.{Rules}
use Rattle.lapi_base.specs.declared.statement.Statement.{Statement}
use Rattle.lapi_base.specs.declared.event.Event.{Event}
use Rattle.lapi_base.specs.declared.event.Event.TheVariants.{Copy}
use Rattle.lapi_base.specs.declared.head.Head.{Head}
use Rattle.lapi_base.specs.declared.message.Leg.TheVariants.{Go, Join}
use Rattle.lapi_base.specs.declared.packet.DataPacket.{DataPacket}
use Rattle.lapi_base.specs.declared.message.MsgName.{MsgName}
use Rattle.lapi_base.specs.Laws.Entries.{carried}
use Rattle.lapi_base.specs.Packet.Layout.{unit_of}
use Rattle.lapi_base.specs.Record.Acts.{followed, joins}
use Rattle.lapi_base.specs.Record.Atomic.{Atomic}
use Rattle.lapi_base.specs.Record.Below.{below}
use Rattle.lapi_base.specs.Record.Counters.{count, reads, tells}
use Rattle.lapi_base.specs.Record.Names.{message, name_eq, leg_eq, happened, Issued}
use Rattle.lapi_base.specs.Record.Operations.{statements, statement, has_join, message_length}
use Rattle.lapi_base.specs.Record.Packets.{head_by}
use Rattle.lapi_base.specs.Record.Refusals.{next, refusals, round_of}
use Rattle.lapi_base.specs.Record.Values.{values, memory_bytes}
use Rattle.lapi_base.specs.Record.Wires.{Run}
use Rattle.lapi_base.proofs.ListLaws.{get-some, some-same}
use Rattle.lapi_base.proofs.NameLaws.{happened-other, name_eq-refl}
use Rattle.lapi_base.proofs.UptoLaws.{length-over, over-at}
use Rattle.lapi_calls.specs.Heads.{IsJoinHead}
use Rattle.lapi_laws.proofs.Once.{atomic-end}
use Rattle.lapi_task.specs.declared.collective.Collective.{Collective}
use Rattle.lapi_task.specs.declared.state.State.{State}
use Rattle.lapi_task.specs.declared.task.Task.{Task}
use Rattle.lapi_task.specs.declared.unfinished.Unfinished.{Unfinished}
use Rattle.lapi_task.specs.Copies.{copies_of, CopiesNow, HasCopied, MayTell, join_of}
use Rattle.lapi_task.specs.HasJobs.{HasJobs}
use Rattle.lapi_task.specs.HasRounds.{HasRounds}
use Rattle.lapi_task.specs.Landed.{MayLeave, follower_packet, with_follower, with_follower_at}
use Rattle.lapi_task.specs.Outgoing.{outgoing, with_message}
use Rattle.lapi_task.specs.StandsFor.{task_unit, is_uncopied, SenderAt, ReceiverAt, HasCalls, HoldsFor, StandsFor}
use Rattle.lapi_task.specs.Unfinished.{Tracks}
use Rattle.lapi_task.proofs.Copying.CallsStay.{calls-kept}
use Rattle.lapi_task.proofs.Copying.CopyFirst.{first-is, uncopied-then, no-statement, found}
use Rattle.lapi_task.proofs.Copying.CopyLaws.{unit-is}
use Rattle.lapi_task.proofs.Copying.CopyLists.{copies, copies-append, copies-keep, copies-carry, ends-in, followed-append, followed-none, followed-one, last_join, joins-more, joins-none}
use Rattle.lapi_task.proofs.Following.Leaving.{may-leave}
use Rattle.lapi_task.proofs.Working.JobsStay.{jobs-stay}
use Rattle.lapi_task.proofs.Copying.MessageCopies.{copied-ends}
use Rattle.lapi_task.proofs.Joining.RoundsStay.{rounds-stay}
use Rattle.lapi_task.proofs.Stepping.StepMemories.{memory-none}
use Rattle.lapi_task.proofs.Copying.UncopiedLaws.{joins_to, IsJoin, joins-are, waiting-joins}
use Rattle.lapi_task.proofs.Acknowledging.UnfinishedLaws.{tracks-followed}

module _ (t i : ℕ) where
  -- the first of the Joins
  joins-front : (m n : ℕ) → n ≤ m → (more : List MsgName) × (joins_to t i m ≡ joins_to t i n ++ more)
  joins-front zero n l = let none : n ≡ 0 = omega arith in ([], ap (joins_to t i) (sym none) ∙ sym (append-nil (joins_to t i n)))
  joins-front (suc m) n l =
      ⊎_elim
      (λ (less : n < suc m).
      let some = joins-front m n (let q : n ≤ m = omega arith in q) in
      (some.0 ++ last_join t i m, joins-more t i m ∙ ap (λ ms. ms ++ last_join t i m) some.1 ∙ append_assoc (joins_to t i n) some.0 (last_join t i m)))
      (λ (all : suc m ≤ n). let same : suc m ≡ n = omega arith in ([], ap (joins_to t i) same ∙ sym (append-nil (joins_to t i n))))
      (cases_lt n (suc m))

  module _ (J : List Event) where
    -- the journal after the Joins to the tasks below n
    abbrev pub told : ℕ → List Event
    told n = followed J (copies (joins_to t i n))

    pub told-none : told 0 ≡ J
    told-none = ap (λ ms. followed J (copies ms)) (joins-none t i) ∙ followed-none J

    told-more : (n : ℕ) → told (suc n) ≡ followed (told n) (copies (last_join t i n))
    told-more n = ap (λ ms. followed J (copies ms)) (joins-more t i n) ∙ ap (followed J) (copies-append (joins_to t i n) (last_join t i n)) ∙ followed-append J (copies (joins_to t i n)) (copies (last_join t i n))

    last-is : (n : ℕ) → (n == t) ≡ false → last_join t i n ≡ message t i (Join n) ∷ []
    last-is n apart = cond-false (n == t) [] (message t i (Join n) ∷ []) apart

    last-none : (n : ℕ) → (n == t) ≡ true → last_join t i n ≡ []
    last-none n own = cond-true (n == t) [] (message t i (Join n) ∷ []) own

    pub told-next : (n : ℕ) → (n == t) ≡ false → told (suc n) ≡ Copy (message t i (Join n)) ∷ told n
    told-next n apart = told-more n ∙ ap (λ ms. followed (told n) (copies ms)) (last-is n apart) ∙ followed-one (told n) (Copy (message t i (Join n)))

    pub told-own : (n : ℕ) → (n == t) ≡ true → told (suc n) ≡ told n
    told-own n own = told-more n ∙ ap (λ ms. followed (told n) (copies ms)) (last-none n own) ∙ followed-none (told n)

    pub added-next : (n : ℕ) → (n == t) ≡ false → copies (joins_to t i (suc n)) ≡ copies (joins_to t i n) ++ Copy (message t i (Join n)) ∷ []
    added-next n apart = ap copies (joins-more t i n) ∙ copies-append (joins_to t i n) (last_join t i n) ∙ ap (λ ms. copies (joins_to t i n) ++ copies ms) (last-is n apart)

    pub added-own : (n : ℕ) → (n == t) ≡ true → copies (joins_to t i (suc n)) ≡ copies (joins_to t i n)
    added-own n own = ap copies (joins-more t i n) ∙ copies-append (joins_to t i n) (last_join t i n) ∙ ap (λ ms. copies (joins_to t i n) ++ copies ms) (last-none n own) ∙ append-nil (copies (joins_to t i n))

    told-atomic : (script : Script) (rules : Rules) (m n : ℕ) → n ≤ m → Atomic script rules (told m) → Atomic script rules (told n)
    told-atomic script rules m n l atomic =
        let front = joins-front m n l in
        let whole : told m ≡ followed (told n) (copies front.0) = ap (λ ms. followed J (copies ms)) front.1 ∙ ap (followed J) (copies-append (joins_to t i n) front.0) ∙ followed-append J (copies (joins_to t i n)) (copies front.0) in
        let ends = ends-in (copies front.0) (told n) in
        atomic-end script rules ends.0 (told n) (subst (Atomic script rules) (whole ∙ ends.1) atomic)

    pub join-atomic : (script : Script) (rules : Rules) (m n : ℕ) → n < m → (n == t) ≡ false → Atomic script rules (told m) → Atomic script rules (Copy (message t i (Join n)) ∷ told n)
    join-atomic script rules m n l apart atomic = subst (Atomic script rules) (told-next n apart) (told-atomic script rules m (suc n) l atomic)

-- ---- what the copy of a Join leaves

module _ (script : Script) (rules : Rules) (t i : ℕ) where
  abbrev Joins : MsgName → Type 0
  Joins = IsJoin t i script.tasks

  pub join-carries : (J : List Event) (d : ℕ) → let m = message t i (Join d) in [] ≡ carried script rules (Copy m ∷ J) m
  unfolding values
  join-carries J d = let m = message t i (Join d) in sym (cond-true (name_eq m m) [] (carried script rules J m) (name_eq-refl m))

  counts-same : (m : MsgName) (J : List Event) (c : ℕ) → Joins m → count script rules (Copy m ∷ J) t c ≡ count script rules J t c
  unfolding count tells
  counts-same m J c h = subst (λ (n : MsgName). count script rules (Copy n ∷ J) t c ≡ count script rules J t c) (sym h.1) (let n = count script rules J t c in let e : n + 0 ≡ n = omega arith in e)

  rounds-told : (ms : List MsgName) (J : List Event) (c : Collective) → AllByRecursion Joins ms → HasRounds script t c J → HasRounds script t c (followed J (copies ms))
  unfolding next
  rounds-told ms J c = copies-carry (HasRounds script t c) Joins (λ m K _ h. rounds-stay script t (Copy m) K (record { entered = λ _. refl; landed = λ _ _. refl }) c c refl refl h) ms J

  jobs-told : (ms : List MsgName) (J : List Event) (state : State) → AllByRecursion Joins ms → HasJobs script rules t state.jobs J → HasJobs script rules t state.jobs (followed J (copies ms))
  jobs-told ms J state = copies-carry (HasJobs script rules t state.jobs) Joins (λ m K _ h. jobs-stay script rules t (Copy m) K state.jobs state.jobs tt refl h) ms J

  tracks-told : (u : Unfinished) (r : Run) (ms : List MsgName) (J : List Event) → AllByRecursion Joins ms → Atomic script rules (followed J (copies ms)) → Tracks script rules t u (record r { journal = J }) → Tracks script rules t u (record r { journal = followed J (copies ms) })
  unfolding followed
  tracks-told u r [] J h atomic tracks = tracks
  tracks-told u r (m ∷ ms) J h atomic tracks =
      let ends = ends-in (copies ms) (Copy m ∷ J) in
      let here = atomic-end script rules ends.0 (Copy m ∷ J) (subst (Atomic script rules) ends.1 atomic) in
      tracks-told u r ms (Copy m ∷ J) h.1 atomic (tracks-followed script rules t u (record r { journal = J }) m (ap (λ (n : MsgName). leg_eq Go n.leg) h.0.1) here tracks)

  next-told : (ms : List MsgName) (J : List Event) → AllByRecursion Joins ms → next (followed J (copies ms)) t ≡ next J t
  unfolding next
  next-told ms J = copies-keep (λ K. next K t) Joins (λ m K _. refl) ms J

  reads-told : (ms : List MsgName) (J : List Event) → AllByRecursion Joins ms → reads script rules (followed J (copies ms)) t ≡ reads script rules J t
  unfolding reads
  reads-told ms J = copies-keep (λ K. reads script rules K t) Joins (λ m K _. refl) ms J

  refusals-told : (ms : List MsgName) (J : List Event) → AllByRecursion Joins ms → refusals (followed J (copies ms)) t ≡ refusals J t
  unfolding refusals
  refusals-told ms J = copies-keep (λ K. refusals K t) Joins (λ m K _. refl) ms J

  pub holds-told : (J : List Event) (before after : State) → let K = told t i J script.tasks in
      after ≡ record before { uncopied = after.uncopied } → after.uncopied.items ≡ below (length (statements script t)) (is_uncopied script K t) → HoldsFor script rules t before J → HoldsFor script rules t after K
  holds-told J before after same list h =
      let ms = joins_to t i script.tasks in
      let all = joins-are t i script.tasks in
      record {
        number = ap (λ (x : State). x.number) same ∙ h.number;
        next = ap (λ (x : State). x.next) same ∙ h.next ∙ sym (next-told ms J all);
        ahead = λ k l. copies-keep (happened (Issued t k)) Joins (λ m K _. happened-other (Issued t k) (Copy m) K refl) ms J all ∙ h.ahead k (subst (λ n. n ≤ k) (ap (λ (x : State). x.next) same) l);
        reads = ap (λ (x : State). x.reads.items) same ∙ h.reads ∙ sym (reads-told ms J all);
        refusals = ap (λ (x : State). x.refusals.items) same ∙ h.refusals ∙ sym (refusals-told ms J all);
        memory = ap (λ (x : State). x.memory) same ∙ h.memory ∙ sym (copies-keep (λ K. memory_bytes script rules K t) Joins (λ m K _. memory-none script rules (Copy m) K t refl) ms J all);
        counter_count = ap (λ (x : State). length x.counters) same ∙ h.counter_count;
        counters = λ c l. ap (λ (x : State). slice_index x.counters c) same ∙ h.counters c l ∙ sym (copies-keep (λ K. count script rules K t c) Joins (λ m K own. counts-same m K c own) ms J all);
        uncopied = list;
        jobs = subst (λ (x : State). HasJobs script rules t x.jobs (told t i J script.tasks)) (sym same) (jobs-told ms J before all h.jobs);
        rounds = subst (λ (x : State). HasRounds script t x.collective (told t i J script.tasks)) (sym same) (rounds-told ms J before.collective all h.rounds);
      }

  -- ---- the task

  -- The Joins to the tasks below n were copied.
  pub record SomeTold (r : Run) (before task : Task) (old new : List Event) (n : ℕ) : Type 0 where
    pub senders : (b : ℕ) → b < script.tasks → SenderAt script rules (record r { journal = told t i r.journal n }) t b (slice_get task.senders.items b)
    pub count : length task.senders.items ≡ script.tasks
    pub added : new ≡ old ++ copies (joins_to t i n)
    pub others : task ≡ record before { senders = task.senders }

  module _ (r : Run) (rest : List ℕ) (first : Task) (now : CopiesNow script rules t first r i rest) (join : has_join (statement script t i) ≡ true) where
    abbrev J : List Event
    J = r.journal

    abbrev stood : StandsFor script rules t now.before r
    stood = now.next.stands

    copies-are : copies_of script J t i ≡ copies (joins script t i)
    copies-are = ap copies (waiting-joins script t J i join (first-is script rules t now.before r i rest now.next).1)

    then-is : followed J (copies_of script J t i) ≡ told t i J script.tasks
    then-is = ap (followed J) copies-are

    all-atomic : Atomic script rules (told t i J script.tasks)
    all-atomic = subst (Atomic script rules) then-is now.next.atomic

    pub none-told : (events : List Event) → SomeTold r first first events events 0
    none-told events = record {
      senders = λ b l.
          subst (λ (K : List Event). SenderAt script rules (record r { journal = K }) t b (slice_get first.senders.items b)) (sym (told-none t i J))
          (subst (λ (x : Task). SenderAt script rules r t b (slice_get x.senders.items b)) (sym now.popped.others) (stood.senders b l));
      count = ap (λ (x : Task). length x.senders.items) now.popped.others ∙ stood.sender_count;
      added = sym (append-nil events) ∙ ap (λ ms. events ++ copies ms) (sym (joins-none t i));
      others = refl;
    }

    module _ (task : Task) (old new : List Event) (d : ℕ) (h : SomeTold r first task old new d) where
      calls-here : HasCalls script rules t task
      calls-here =
          calls-kept script rules t now.before task
          (ap (λ (x : Task). x.sizes) h.others ∙ ap (λ (x : Task). x.sizes) now.popped.others)
          (ap (λ (x : Task). x.statements) h.others ∙ ap (λ (x : Task). x.statements) now.popped.others)
          (ap (λ (x : Task). x.limits) h.others ∙ ap (λ (x : Task). x.limits) now.popped.others)
          (ap (λ (x : Task). x.rounds.items) h.others ∙ ap (λ (x : Task). x.rounds.items) now.popped.others)
          stood.calls

      pub number-here : task.state.number ≡ t
      number-here = ap (λ (x : Task). x.state.number) h.others ∙ ap (λ (x : Task). x.state.number) now.popped.others ∙ stood.holds.number

      pub tasks-here : task.sizes.tasks ≡ script.tasks
      tasks-here = ap (λ (x : _). x.tasks) calls-here.sizes

      -- The next task may be told,
      pub may-tell : d < script.tasks → (d == t) ≡ false → MayTell script rules t task (told t i J d) i d
      may-tell l apart = record {
        calls = calls-here;
        number = number-here;
        within = (first-is script rules t now.before r i rest now.next).0;
        join = join;
        link = subst (λ n. d < n) (sym h.count) l;
        atomic = join-atomic t i J script rules script.tasks d l apart all-atomic;
      }

      -- and was told,
      pub one-told : (after : Task) (newer : List Event) → d < script.tasks → (d == t) ≡ false → after.senders.items ≡ with_follower (unit_of script) (Some (join_of script t i d)) task.senders.items → newer ≡ new ++ Copy (message task.state.number i (Join d)) ∷ [] → after ≡ record task { senders = after.senders } → SomeTold r first after old newer (suc d)
      one-told after newer l apart ends put others =
          let m = message t i (Join d) in
          let link : d < length task.senders.items = subst (λ n. d < n) (sym h.count) l in
          let some = get-some task.senders.items d link in
          let sent = with_message (unit_of script) (outgoing script m) [] some.0 in
          let made : after.senders.items ≡ slice_set task.senders.items d sent = ends ∙ ap (λ o. with_follower_at (unit_of script) (join_of script t i d) o task.senders.items) some.1 in
          record {
            senders = λ b lb.
                subst (λ (K : List Event). SenderAt script rules (record r { journal = K }) t b (slice_get after.senders.items b)) (sym (told-next t i J d apart))
                (copied-ends script rules m (record r { journal = told t i J d }) t task.senders.items after.senders.items sent [] refl link made
                (join-atomic t i J script rules script.tasks d l apart all-atomic)
                (join-carries (told t i J d) d)
                (λ s at. ap (with_message (unit_of script) (outgoing script m) []) (some-same some.0 s (sym some.1 ∙ at)))
                h.senders b lb);
            count = ap length made ∙ length-set task.senders.items d sent ∙ h.count;
            added =
                put
                ∙ (λ k. h.added k ++ Copy (message (number-here k) i (Join d)) ∷ [])
                ∙ append_assoc old (copies (joins_to t i d)) (Copy m ∷ [])
                ∙ ap (λ es. old ++ es) (sym (added-next t i J d apart));
            others = others ∙ (λ k. record (h.others k) { senders = after.senders });
          }

      -- unless it is the task itself.
      pub own-told : (d == t) ≡ true → SomeTold r first task old new (suc d)
      own-told own = record {
        senders = λ b l. subst (λ (K : List Event). SenderAt script rules (record r { journal = K }) t b (slice_get task.senders.items b)) (sym (told-own t i J d own)) (h.senders b l);
        count = h.count;
        added = h.added ∙ ap (λ es. old ++ es) (sym (added-own t i J d own));
        others = h.others;
      }

    -- After all tasks the messages of the statement were copied.
    pub all-told : (task : Task) (old new : List Event) → SomeTold r first task old new script.tasks → HasCopied script rules t r i rest task old new
    all-told task old new h =
        let K = told t i J script.tasks in
        let state : task.state ≡ record now.before.state { uncopied = task.state.uncopied } =
        ap (λ (x : Task). x.state) h.others ∙ ap (λ (x : Task). x.state) now.popped.others
        ∙ ap (λ u. record now.before.state { uncopied = u }) (sym (ap (λ (x : Task). x.state.uncopied) h.others)) in
        let left = ap (λ (x : Task). x.state.uncopied.items) h.others ∙ now.popped.list in
        let unfinished : task.unfinished ≡ now.before.unfinished = ap (λ (x : Task). x.unfinished) h.others ∙ ap (λ (x : Task). x.unfinished) now.popped.others in
        let receivers : task.receivers.items ≡ now.before.receivers.items = ap (λ (x : Task). x.receivers.items) h.others ∙ ap (λ (x : Task). x.receivers.items) now.popped.others in
        let owed : task.owed.items ≡ now.before.owed.items = ap (λ (x : Task). x.owed.items) h.others ∙ ap (λ (x : Task). x.owed.items) now.popped.others in
        record {
          added = h.added ∙ ap (λ es. old ++ es) (sym copies-are);
          left = left;
          stands = subst (λ (L : List Event). StandsFor script rules t task (record r { journal = L })) (sym then-is) (record {
            calls = calls-here task old new script.tasks h;
            holds = holds-told J now.before.state task.state state (left ∙ sym (uncopied-then script rules t now.before r i rest now.next) ∙ ap (λ L. below (length (statements script t)) (is_uncopied script L t)) then-is) stood.holds;
            unfinished = subst (λ (u : Unfinished). Tracks script rules t u (record r { journal = K })) (sym unfinished) (tracks-told now.before.unfinished r (joins_to t i script.tasks) J (joins-are t i script.tasks) all-atomic stood.unfinished);
            sender_count = h.count;
            receiver_count = ap length receivers ∙ stood.receiver_count;
            senders = h.senders;
            receivers = λ a l. subst (λ (xs : List _). ReceiverAt script rules (r.handed a t) (slice_get xs a)) (sym receivers) (stood.receivers a l);
            owed_count = ap length owed ∙ stood.owed_count;
            owed = λ a l. ap (λ (xs : List Bool). slice_get xs a) owed ∙ stood.owed a l;
          });
        }

  -- ---- one Join

  module _ (task : Task) (J : List Event) (d : ℕ) (m : MayTell script rules t task J i d) where
    within-here : i < length task.statements
    within-here = let same = ap length m.calls.statements in let w = m.within in omega (arith, same, w)

    -- the round of the call is known,
    pub round-known : i < length task.rounds.items
    round-known =
        let same = ap length m.calls.rounds ∙ length-over (round_of script t) (length task.statements) in
        let w = within-here in
        omega (arith, same, w)

    pub round-is : (other : ℕ) → get_or task.rounds.items i other ≡ round_of script t i
    round-is other = ap (λ (xs : List ℕ). get_or xs i other) m.calls.rounds ∙ over-at (round_of script t) (length task.statements) i other within-here

    pub unit-here : task_unit task ≡ unit_of script
    unit-here = unit-is script rules t task m.calls

    layout-here : task.sizes.layout ≡ script.layout
    layout-here = ap (λ (x : _). x.layout) m.calls.sizes

    pub some-statement : (o : Option Statement) → o ≡ slice_get task.statements i → o ≡ None → ⊥
    some-statement o made is = no-statement script t i task.statements m.calls.statements m.within o made is

    module _ (s : Statement) (at : Some s ≡ slice_get task.statements i) where
      same : s ≡ statement script t i
      same = found script t i task.statements m.calls.statements m.within s at

      pub found-join : has_join s ≡ true
      found-join = ap has_join same ∙ m.join

      -- so the packet that is made is the record's,
      pub join-made : (round : ℕ) (head : Head) (packet : DataPacket) → round ≡ get_or task.rounds.items i round → IsJoinHead round s head → packet ≡ follower_packet task.sizes.layout task.state.number d (message task.state.number i (Join d)) (Join d) head 0 → packet ≡ outgoing script (message t i (Join d))
      unfolding message_length
      join-made round head packet read made is =
          let n = message t i (Join d) in
          let heads : head ≡ head_by script n (Join d) (statement script t i) = made script n d (read ∙ round-is round) ∙ ap (head_by script n (Join d)) same in
          is ∙ (λ k. record { layout = layout-here k; from = m.number k; to = d; seq = 0; name = message (m.number k) i (Join d); head = heads k; length = 0; fragment = 0; payload = [] })

    -- and may leave.
    pub join-leaves : MayLeave (unit_of script) (join_of script t i d)
    join-leaves = may-leave script rules m.calls.valid m.calls.rules_valid J t d (join_of script t i d) (record { from = refl; to = refl; is = refl; bytes = join-carries J d }) m.atomic
