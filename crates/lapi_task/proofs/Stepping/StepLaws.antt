-- What a step does, by the event that it adds.
use Rattle.std.proofs.Common.{◌≡◌, ℕ, ◌+◌, ◌<◌, ◌≤◌, ◌^◌, Bool, true, false, cond, List, [], ◌∷◌, ◌++◌, length, Option, Some, None, refl, sym, ap, ◌∙◌, subst, ⊎_elim, arith}
use Rattle.std.specs.Prelude.{slice_get, slice_index, nat_lt, nat_le}
use Rattle.std.proofs.lemmas.Bool.{cases_Bool, false≢true, cond-true, cond-false, lt-ltb, le-ltb, le-leb, lt-leb, both_ways, false_from_ne_true}
use Rattle.std.proofs.lemmas.List.{append-nil}
use Rattle.std.proofs.lemmas.Option.{slice_get_within}
use Rattle.lapi_base.specs.declared.script.Script.{Script}
use Rattle.lapi_base.specs.declared.rule.Rules.{Rules}
use Rattle.lapi_base.specs.declared.statement.Statement.{Statement}
use Rattle.lapi_base.specs.declared.statement.Statement.TheVariants as statements
use Rattle.lapi_base.specs.declared.refusal.Refusal.{Refusal}
use Rattle.lapi_base.specs.declared.event.Event.{Event}
use Rattle.lapi_base.specs.declared.event.Event.TheVariants.{Issue, Refuse, Pass}
use Rattle.lapi_base.specs.declared.message.Leg.TheVariants.{Go, Back}
use Rattle.lapi_base.specs.declared.reply.Reply.{Reply}
use Rattle.lapi_base.specs.declared.reply.Reply.TheVariants.{Did, Idle, Blocked}
use Rattle.lapi_base.specs.Record.Atomic.{Atomic, needs, to_begin}
use Rattle.lapi_base.specs.Record.Counters.{count}
use Rattle.lapi_base.specs.Record.Names.{message, happened, key_of, key_eq, Issued, Entered, Copied, Landed, Begun, Ended}
use Rattle.lapi_base.specs.Record.Operations.{statement, has_join}
use Rattle.lapi_base.specs.Record.Operations as operations
use Rattle.lapi_base.specs.Record.Wires.{Run, numbered}
use Rattle.lapi_base.specs.Record.Acts.{step, event_if, add_event, unless_refused, reply_with, with_events, followed, proposed}
use Rattle.lapi_base.specs.Record.Refusals.{next, refusal_by, refusal_of, is_known}
use Rattle.lapi_base.specs.Record.Values.{values}
use Rattle.lapi_base.proofs.ListLaws.{get-none}
use Rattle.lapi_laws.proofs.Backward.{closed}
use Rattle.lapi_link.specs.Sender.{SendingEnd}
use Rattle.lapi_parts.proofs.Records.{record-sound}
use Rattle.lapi_task.specs.declared.outcome.Outcome.{Outcome}
use Rattle.lapi_task.specs.declared.state.State.{State}
use Rattle.lapi_task.specs.declared.task.Task.{Task}
use Rattle.lapi_base.specs.Record.Valid.{ValidScript}
use Rattle.lapi_calls.specs.Calls.{IsCall, KnowsPassed}
use Rattle.lapi_calls.specs.Entries.{is_told}
use Rattle.lapi_calls.specs.Reasons.{IsRefusal, IsRefusalAfter}
use Rattle.lapi_task.specs.Sends.{packet_at, SendsFor}
use Rattle.lapi_task.specs.StandsFor.{SenderAt, HoldsFor, StandsFor}
use Rattle.lapi_task.specs.HasEffect.{IsAt, HasEffect}
use Rattle.lapi_task.specs.Steps.{MayStep, IsRefused, IsIssued, PassesWait, IsBlocked}
use Rattle.lapi_task.proofs.Stepping.Forms.{statement-is}
use Rattle.lapi_task.proofs.Stepping.ReasonForms.{suits, few-statements}
use Rattle.lapi_task.proofs.Joining.EnteredCalls.{call-reason, entered-joins, other-unentered, refused-unentered}
use Rattle.lapi_task.proofs.Joining.KnownRounds.{knows_round, address_given, are-given, knows-passed}
use Rattle.lapi_task.proofs.Stepping.StepMemories.{memory-length}
use Rattle.lapi_task.proofs.Standing.Tags.{tags-same}
use Rattle.lapi_task.proofs.Stepping.StepFields.{refused-holds, passed-holds, issued-holds}
use Rattle.lapi_task.specs.declared.unfinished.Unfinished.{Unfinished}
use Rattle.lapi_task.specs.Unfinished.{flags_issued, Tracks}
use Rattle.lapi_task.proofs.Acknowledging.UnfinishedLaws.{tracks-told, tracks-stay, tracks-issued, quiet-stays}
use Rattle.lapi_base.specs.Record.Handlers.{has_completion}
use Rattle.std.specs.List.{AllByRecursion}

-- why a task refuses a statement, if it does, by the addresses that it knows
abbrev pub FindsReason : Task → Statement → Option Refusal → Type 0
FindsReason task s x =
    (o : Option Refusal)
    × IsRefusal task.limits (knows_round task.state.collective) (address_given task.state.collective) task.state.number s o
    × IsRefusalAfter task.limits (knows_round task.state.collective) (address_given task.state.collective) task.state.number s o
    × (o ≡ x)

module _ (script : Script) (rules : Rules) where
  -- the record with an event and a reply more
  abbrev pub stepped : Run → Event → Run
  stepped r e = reply_with script rules (with_events script rules r (e ∷ [])) Did

  -- the event puts no packet onto a link, and leaves those that are there as they were
  pub record IsQuiet (e : Event) (J : List Event) : Type 0 where
    pub numbers : (a b : ℕ) → numbered script (e ∷ J) a b ≡ numbered script J a b
    pub packets : (a b n : ℕ) → packet_at script rules (e ∷ J) a b n ≡ packet_at script rules J a b n

  refuse-quiet : (t i : ℕ) (reason : Refusal) (J : List Event) → IsQuiet (Refuse t i reason) J
  unfolding numbered packet_at values
  refuse-quiet t i reason J = record { numbers = λ a b. refl; packets = λ a b n. refl }

  issue-quiet : (t i : ℕ) (J : List Event) → IsQuiet (Issue t i) J
  unfolding numbered packet_at values
  issue-quiet t i J = record { numbers = λ a b. refl; packets = λ a b n. refl }

  pub pass-quiet : (t i : ℕ) (J : List Event) → IsQuiet (Pass t i) J
  unfolding numbered packet_at values
  pass-quiet t i J = record { numbers = λ a b. refl; packets = λ a b n. refl }

  sends-on : (r : Run) (e : Event) (a b : ℕ) (s : SendingEnd) → IsQuiet e r.journal → SendsFor script rules s r a b → SendsFor script rules s (stepped r e) a b
  unfolding followed
  sends-on r e a b s q h = record {
    numbers = record { size = h.numbers.size; numbers = h.numbers.numbers ∙ sym (ap length (q.numbers a b)); sent = h.numbers.sent; acked = h.numbers.acked };
    whole = h.whole;
    kept = λ n l u. h.kept n l u ∙ sym (q.packets a b n);
    waiting = λ i. h.waiting i ∙ sym (q.packets a b _);
    tags = tags-same script s r.journal (e ∷ r.journal) a b (q.numbers a b) h.tags;
  }

  sender-on : (r : Run) (e : Event) (a b : ℕ) (o : Option SendingEnd) → IsQuiet e r.journal → SenderAt script rules r a b o → SenderAt script rules (stepped r e) a b o
  sender-on r e a b None q h = absurd h
  sender-on r e a b (Some s) q h = sends-on r e a b s q h

  -- an event that neither issues nor copies data, and lands none, leaves what is done
  pub quiet-tracks : (t : ℕ) (r : Run) (e : Event) (u : Unfinished) → IsQuiet e r.journal → ((i : ℕ) → (key_eq (Issued t i) (key_of e) ≡ false) × (key_eq (Copied (message t i Go)) (key_of e) ≡ false) × (key_eq (Landed (message t i Back)) (key_of e) ≡ false)) → Tracks script rules t u r → Tracks script rules t u (stepped r e)
  unfolding followed
  quiet-tracks t r e u q keys h =
      let w : Run = record r { journal = e ∷ r.journal } in
      tracks-told script rules t u w (stepped r e) refl (λ b n. refl)
      (tracks-stay script rules t u r w (λ i. let k = keys i in quiet-stays script rules t r e i (λ b. q.numbers t b) k.0 k.1 k.2) h)

  issue-tracks : (t : ℕ) (r : Run) (j : ℕ) (u : Unfinished) → j < length (operations.statements script t) → happened (Copied (message t j Go)) r.journal ≡ false → happened (Landed (message t j Back)) r.journal ≡ false → Tracks script rules t u r → Tracks script rules t (record u { undone = flags_issued (operations.is_data (statement script t j)) j u.undone }) (stepped r (Issue t j))
  unfolding followed
  issue-tracks t r j u within copied landed h =
      let w : Run = record r { journal = Issue t j ∷ r.journal } in
      tracks-told script rules t (record u { undone = flags_issued (operations.is_data (statement script t j)) j u.undone }) w (stepped r (Issue t j)) refl (λ b n. refl) (tracks-issued script rules t u r j within copied landed h)

  pub does-event : (t : ℕ) (r : Run) (e : Event) (before : Task) (after : State) (u : Unfinished) (old new : Outcome) → IsQuiet e r.journal → StandsFor script rules t before r → new.events ≡ old.events ++ e ∷ [] → new.entries ≡ old.entries → HoldsFor script rules t after (e ∷ r.journal) → Tracks script rules t u (stepped r e) → HasEffect script rules t r (stepped r e) (record before { state = after; unfinished = u }) old new
  unfolding followed
  does-event t r e before after u old new q h g same holds tracks = record {
    events = e ∷ [];
    entries = [];
    stands = record {
      calls = record { valid = h.calls.valid; rules_valid = h.calls.rules_valid; sizes = h.calls.sizes; statements = h.calls.statements; limits = h.calls.limits; rounds = h.calls.rounds };
      holds = holds;
      unfinished = tracks;
      sender_count = h.sender_count;
      receiver_count = h.receiver_count;
      senders = λ b l. sender-on r e t b (slice_get before.senders.items b) q (h.senders b l);
      receivers = h.receivers;
      owed_count = h.owed_count;
      owed = h.owed;
    };
    journal = refl;
    events_added = g;
    put = λ b l. sym (append-nil _);
    entries_added = same ∙ sym (append-nil old.entries);
    ends = tt;
  }

  pub stands-on : (t : ℕ) (r : Run) (reply : Reply) (task : Task) → StandsFor script rules t task r → StandsFor script rules t task (reply_with script rules r reply)
  stands-on t r reply task h = record {
    calls = h.calls;
    holds = h.holds;
    unfinished = tracks-told script rules t task.unfinished r (reply_with script rules r reply) refl (λ b n. refl) h.unfinished;
    sender_count = h.sender_count;
    receiver_count = h.receiver_count;
    senders = λ b l. sender-reply b (slice_get task.senders.items b) (h.senders b l);
    receivers = h.receivers;
    owed_count = h.owed_count;
    owed = h.owed;
  }
    where
      sender-reply : (b : ℕ) (o : Option SendingEnd) → SenderAt script rules r t b o → SenderAt script rules (reply_with script rules r reply) t b o
      sender-reply b None x = absurd x
      sender-reply b (Some s) x = record {
        numbers = record { size = x.numbers.size; numbers = x.numbers.numbers; sent = x.numbers.sent; acked = x.numbers.acked };
        whole = x.whole;
        kept = x.kept;
        waiting = x.waiting;
        tags = x.tags;
      }

  pub does-nothing : (t : ℕ) (r : Run) (reply : Reply) (task : Task) (o : Outcome) → StandsFor script rules t task r → HasEffect script rules t r (reply_with script rules r reply) task o o
  unfolding followed
  does-nothing t r reply task o h = record {
    events = [];
    entries = [];
    stands = stands-on t r reply task h;
    journal = refl;
    events_added = sym (append-nil o.events);
    put = λ b l. sym (append-nil _);
    entries_added = sym (append-nil o.entries);
    ends = tt;
  }

  module _ (p : ValidScript script) where
    -- what a step adds, by its statement
    step-some : (r : Run) (t i : ℕ) (s : Statement) → i ≡ next r.journal t → slice_get (operations.statements script t) i ≡ Some s → step script rules r t ≡ add_event script rules r (unless_refused script rules r t i (refusal_of script rules r.journal t i))
    unfolding step
    step-some r t i s e found =
        let within = slice_get_within (operations.statements script t) i s found in
        ap (λ j. cond (nat_lt j (length (operations.statements script t))) (add_event script rules r (unless_refused script rules r t j (refusal_of script rules r.journal t j))) (reply_with script rules r Idle)) (sym e)
        ∙ cond-true (nat_lt i (length (operations.statements script t))) _ _ (lt-ltb i (length (operations.statements script t)) within)

    step-none : (r : Run) (t i : ℕ) → i ≡ next r.journal t → slice_get (operations.statements script t) i ≡ None → step script rules r t ≡ reply_with script rules r Idle
    unfolding step
    step-none r t i e found =
        ap (λ j. cond (nat_lt j (length (operations.statements script t))) (add_event script rules r (unless_refused script rules r t j (refusal_of script rules r.journal t j))) (reply_with script rules r Idle)) (sym e)
        ∙ cond-false (nat_lt i (length (operations.statements script t))) _ _ (le-ltb i (length (operations.statements script t)) (get-none (operations.statements script t) i found))

    pub step-by : (r : Run) (t i : ℕ) (s : Statement) → i ≡ next r.journal t → slice_get (operations.statements script t) i ≡ Some s → refusal_of script rules r.journal t i ≡ None → step script rules r t ≡ add_event script rules r (proposed script rules r t i s)
    step-by r t i s e found h =
        step-some r t i s e found
        ∙ ap (λ o. add_event script rules r (unless_refused script rules r t i o)) h
        ∙ ap (λ x. add_event script rules r (proposed script rules r t i x)) (statement-is script t i s found)

    -- a statement that is no wait, no fence and no collective call is issued
    issues : (r : Run) (t i : ℕ) (s : Statement) → has_join s ≡ false → ((counter value : ℕ) → s ≡ statements.Wait counter value → ⊥) → (s ≡ statements.Fence → ⊥) → proposed script rules r t i s ≡ Some (Issue t i)
    issues r t i (statements.Store at bytes) alone no-wait no-fence = refl
    issues r t i (statements.Put target to from len tgt org cmpl) alone no-wait no-fence = refl
    issues r t i (statements.Get target from to len tgt org) alone no-wait no-fence = refl
    issues r t i (statements.Putv target to from tgt org cmpl) alone no-wait no-fence = refl
    issues r t i (statements.Getv target from to tgt org) alone no-wait no-fence = refl
    issues r t i (statements.Rmw target op at in1 in2 prev org) alone no-wait no-fence = refl
    issues r t i (statements.Am target handler header from len tgt org cmpl) alone no-wait no-fence = refl
    issues r t i (statements.Set counter value) alone no-wait no-fence = refl
    issues r t i (statements.Read counter) alone no-wait no-fence = refl
    issues r t i (statements.Wait counter value) alone no-wait no-fence = absurd (no-wait counter value refl)
    issues r t i statements.Fence alone no-wait no-fence = absurd (no-fence refl)
    issues r t i statements.Gfence alone no-wait no-fence = absurd (false≢true (sym alone))
    issues r t i (Statement.Addr at) alone no-wait no-fence = absurd (false≢true (sym alone))

    -- A task before one of its statements, or past them all.
    module _ (before : Task) (t : ℕ) (r : Run) (at : IsAt script rules t before r) where
      abbrev place : ℕ
      place = before.state.next

      abbrev J : List Event
      J = r.journal

      pub atomic : Atomic script rules r.journal
      atomic = (record-sound script rules r at.recorded).atomic

      own : (o : Option Statement) → slice_get before.statements place ≡ o → slice_get (operations.statements script t) place ≡ o
      own o h = ap (λ (list : List Statement). slice_get list place) (sym at.stands.calls.statements) ∙ h

      pub named : (f : ℕ → ℕ → Event) (old new : List Event) → new ≡ old ++ f before.state.number place ∷ [] → new ≡ old ++ f t place ∷ []
      named f old new = subst (λ n. new ≡ old ++ f n place ∷ []) at.stands.holds.number

      idle-step : slice_get before.statements place ≡ None → step script rules r t ≡ reply_with script rules r Idle
      idle-step found = step-none r t place at.stands.holds.next (own None found)

      pub idle-does : (o : Outcome) → slice_get before.statements place ≡ None → HasEffect script rules t r (step script rules r t) before o o
      idle-does o found = subst (λ x. HasEffect script rules t r x before o o) (sym (idle-step found)) (does-nothing t r Idle before o at.stands)

      pub idle-replies : slice_get before.statements place ≡ None → (step script rules r t).replies ≡ r.replies ++ Idle ∷ []
      idle-replies found = ap (λ (x : Run). x.replies) (idle-step found)

      module _ (s : Statement) (found : slice_get before.statements place ≡ Some s) where
        pub here : slice_get (operations.statements script t) place ≡ Some s
        here = own (Some s) found

        pub is : statement script t place ≡ s
        is = statement-is script t place s here

        within : place < length (operations.statements script t)
        within = slice_get_within (operations.statements script t) place s here

        by-told : has_join (statement script t place) ≡ true → refusal_of script rules J t place ≡ refusal_by script rules (is_told (knows_round before.state.collective)) t place
        unfolding refusal_of
        by-told joins = call-reason script rules (is_known script J t) (is_told (knows_round before.state.collective)) t place joins

        called : IsCall script (knows_round before.state.collective) (address_given before.state.collective) before.state.number place s
        called = record {
          is_statement = sym (ap (λ (a : ℕ). statement script a place) at.stands.holds.number ∙ is);
          are_given = are-given script rules p J atomic t at.known before.state.collective at.stands.holds.rounds;
        }

        -- The reason that was found is the record's: the task knows what it has passed, or has entered this call.
        pub found-reason : (o : Option Refusal) → FindsReason before s o → refusal_of script rules r.journal t place ≡ o
        found-reason o h =
            ap (λ (a : ℕ). refusal_of script rules J a place) (sym at.stands.holds.number)
            ∙ ⊎_elim
            (λ (entered : happened (Entered t place) J ≡ true).
            ap (λ (a : ℕ). refusal_of script rules J a place) at.stands.holds.number
            ∙ by-told (entered-joins script rules J atomic t place entered)
            ∙ ap (λ (a : ℕ). refusal_by script rules (is_told (knows_round before.state.collective)) a place) (sym at.stands.holds.number)
            ∙ sym (h.1 script rules place at.stands.calls.limits called))
            (λ (unentered : happened (Entered t place) J ≡ false).
            sym (h.2 script rules J place at.stands.calls.limits called
            (subst (λ (a : ℕ). KnowsPassed script J a (knows_round before.state.collective)) (sym at.stands.holds.number)
            (knows-passed script rules p J atomic t at.known before.state.collective at.stands.holds.rounds
            (subst (λ (i : ℕ). happened (Entered t i) J ≡ false) at.stands.holds.next unentered)))))
            (cases_Bool (happened (Entered t place) J))
            ∙ h.3

        pub next-fits : place + 1 < 2 ^ 32
        next-fits = let few = few-statements script p t in let l = within in omega (arith, few, l)

        pub is-suited : FindsReason before s None → MayStep s before.state.memory before.state.counters
        is-suited h = suits script rules r.journal t place (found-reason None h) s before.state.memory before.state.counters is (ap length at.stands.holds.memory ∙ memory-length script rules r.journal t) at.stands.holds.counter_count

        -- It is refused;
        refused-step : (reason : Refusal) → FindsReason before s (Some reason) → step script rules r t ≡ stepped r (Refuse t place reason)
        refused-step reason h = step-some r t place s at.stands.holds.next here ∙ ap (λ o. add_event script rules r (unless_refused script rules r t place o)) (found-reason (Some reason) h)

        pub refused-does : (reason : Refusal) (after : State) (old new : Outcome) → FindsReason before s (Some reason) → new.entries ≡ old.entries → IsRefused reason before.state after old.events new.events → HasEffect script rules t r (step script rules r t) (record before { state = after }) old new
        refused-does reason after old new h same g =
            subst (λ x. HasEffect script rules t r x (record before { state = after }) old new) (sym (refused-step reason h))
            (does-event t r (Refuse t place reason) before after before.unfinished old new (refuse-quiet t place reason r.journal) at.stands
            (named (λ n i. Refuse n i reason) old.events new.events g.past.events) same
            (refused-holds script rules t r.journal before.state after old.events new.events reason at.stands.holds g atomic (refused-unentered script rules J atomic t place J reason (found-reason (Some reason) h)))
            (quiet-tracks t r (Refuse t place reason) before.unfinished (refuse-quiet t place reason r.journal) (λ i. (refl, refl, refl)) at.stands.unfinished))

        pub refused-replies : (reason : Refusal) → FindsReason before s (Some reason) → (step script rules r t).replies ≡ r.replies ++ Did ∷ []
        refused-replies reason h = ap (λ (x : Run). x.replies) (refused-step reason h)

        -- it is issued;
        fresh : happened (Copied (message t place Go)) r.journal ≡ false
        unfolding needs
        fresh =
            false_from_ne_true _ (λ d. both_ways _ (at.stands.holds.ahead place (omega arith)) (closed script rules (Copied (message t place Go)) r.journal atomic d).0)

        issued-step : has_join s ≡ false → ((counter value : ℕ) → s ≡ statements.Wait counter value → ⊥) → (s ≡ statements.Fence → ⊥) → FindsReason before s None → step script rules r t ≡ stepped r (Issue t place)
        issued-step alone no-wait no-fence h = step-by r t place s at.stands.holds.next here (found-reason None h) ∙ ap (add_event script rules r) (issues r t place s alone no-wait no-fence)

        unlanded : happened (Landed (message t place Back)) r.journal ≡ false
        unfolding needs
        unlanded =
            false_from_ne_true _ (λ d. both_ways _ (at.stands.holds.ahead place (omega arith)) (begun-by (has_completion script rules t place) (closed script rules (Landed (message t place Back)) r.journal atomic d).1))
          where
            begun-by : (b : Bool) → AllByRecursion (λ x. happened x r.journal ≡ true) (cond b (Begun (message t place Go) ∷ Ended (message t place Go) ∷ []) [] ++ to_begin script rules t place) → happened (Issued t place) r.journal ≡ true
            begun-by true h = h.1.1.1.0
            begun-by false h = h.1.0

        abbrev pub opened : Unfinished
        opened = record before.unfinished { undone = flags_issued (operations.is_data s) place before.unfinished.undone }

        opened-tracks : Tracks script rules t opened (stepped r (Issue t place))
        opened-tracks = subst (λ (x : Statement). Tracks script rules t (record before.unfinished { undone = flags_issued (operations.is_data x) place before.unfinished.undone }) (stepped r (Issue t place))) is (issue-tracks t r place before.unfinished within fresh unlanded at.stands.unfinished)

        -- there is a flag for it
        pub has-flag : place < length before.unfinished.undone
        has-flag = let l = within in let n = at.stands.unfinished.size.0 in omega (arith, l, n)

        pub issued-does : (after : State) (old new : Outcome) → has_join s ≡ false → ((counter value : ℕ) → s ≡ statements.Wait counter value → ⊥) → (s ≡ statements.Fence → ⊥) → FindsReason before s None → new.entries ≡ old.entries → IsIssued s before.state after old.events new.events → HasEffect script rules t r (step script rules r t) (record before { state = after; unfinished = opened }) old new
        issued-does after old new alone no-wait no-fence h same g =
            subst (λ x. HasEffect script rules t r x (record before { state = after; unfinished = opened }) old new) (sym (issued-step alone no-wait no-fence h))
            (does-event t r (Issue t place) before after opened old new (issue-quiet t place r.journal) at.stands
            (named Issue old.events new.events g.past.events) same
            (issued-holds script rules t r.journal before.state at.stands.holds atomic (other-unentered script rules J atomic t place (ap has_join is ∙ alone)) after old.events new.events s is (is-suited h) within fresh g)
            opened-tracks)

        pub issued-replies : has_join s ≡ false → ((counter value : ℕ) → s ≡ statements.Wait counter value → ⊥) → (s ≡ statements.Fence → ⊥) → FindsReason before s None → (step script rules r t).replies ≡ r.replies ++ Did ∷ []
        issued-replies alone no-wait no-fence h = ap (λ (x : Run). x.replies) (issued-step alone no-wait no-fence h)

      -- or it is a wait, which passes or not.
      module _ (counter value : ℕ) (found : slice_get before.statements place ≡ Some (statements.Wait counter value)) (accepted : FindsReason before (statements.Wait counter value) None) where
        wait : Statement
        wait = statements.Wait counter value

        there : counter < length before.state.counters
        there = is-suited (statements.Wait counter value) found accepted

        has : slice_index before.state.counters counter ≡ count script rules r.journal t counter
        has = at.stands.holds.counters counter (let l = there in let n = at.stands.holds.counter_count in omega (arith, l, n))

        waited : (b : Bool) → nat_le value (count script rules r.journal t counter) ≡ b → step script rules r t ≡ add_event script rules r (event_if script rules b (Pass t place))
        waited b h =
            step-by r t place (statements.Wait counter value) at.stands.holds.next (here (statements.Wait counter value) found) (found-reason (statements.Wait counter value) found None accepted)
            ∙ ap (λ x. add_event script rules r (event_if script rules x (Pass t place))) h

        passed-step : value ≤ slice_index before.state.counters counter → step script rules r t ≡ stepped r (Pass t place)
        passed-step l = waited true (le-leb value _ (let e = has in omega (arith, l, e)))

        blocked-step : slice_index before.state.counters counter < value → step script rules r t ≡ reply_with script rules r Blocked
        blocked-step l = waited false (lt-leb value _ (let e = has in omega (arith, l, e)))

        pub passed-does : (after : State) (old new : Outcome) → new.entries ≡ old.entries → PassesWait counter value before.state after old.events new.events → HasEffect script rules t r (step script rules r t) (record before { state = after }) old new
        passed-does after old new same g =
            subst (λ x. HasEffect script rules t r x (record before { state = after }) old new) (sym (passed-step g.enough))
            (does-event t r (Pass t place) before after before.unfinished old new (pass-quiet t place r.journal) at.stands
            (named Pass old.events new.events g.past.events) same
            (passed-holds script rules t r.journal before.state after old.events new.events counter value (is (statements.Wait counter value) found) there at.stands.holds g atomic (other-unentered script rules J atomic t place (ap has_join (is (statements.Wait counter value) found))))
            (quiet-tracks t r (Pass t place) before.unfinished (pass-quiet t place r.journal) (λ i. (refl, refl, refl)) at.stands.unfinished))

        pub passed-replies : value ≤ slice_index before.state.counters counter → (step script rules r t).replies ≡ r.replies ++ Did ∷ []
        passed-replies l = ap (λ (x : Run). x.replies) (passed-step l)

        pub blocked-does : (after : State) (old new : Outcome) → new.entries ≡ old.entries → IsBlocked counter value before.state after old.events new.events → HasEffect script rules t r (step script rules r t) (record before { state = after }) old new
        blocked-does after old new same g =
            subst (λ x. HasEffect script rules t r x (record before { state = after }) old new) (sym (blocked-step g.less))
            (subst (λ (x : State). HasEffect script rules t r (reply_with script rules r Blocked) (record before { state = x }) old new) (sym g.state)
            (subst (λ (o : Outcome). HasEffect script rules t r (reply_with script rules r Blocked) before old o) (λ i. record { events = sym g.events i; entries = sym same i })
            (does-nothing t r Blocked before old at.stands)))

        pub blocked-replies : slice_index before.state.counters counter < value → (step script rules r t).replies ≡ r.replies ++ Blocked ∷ []
        blocked-replies l = ap (λ (x : Run). x.replies) (blocked-step l)
