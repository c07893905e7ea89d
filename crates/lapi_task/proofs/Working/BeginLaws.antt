-- What comes of telling a worker to begin.
use Rattle.std.proofs.Common.{◌≡◌, ◌⊎◌, ℕ, ◌+◌, ◌<◌, ◌≤◌, ◌==◌, true, false, cond, ◌&&◌, List, [], ◌∷◌, ◌++◌, length, map, Option, Some, None, refl, sym, ap, ◌∙◌, subst, ⊎_elim, inl, inr, arith, add-zero}
use Rattle.std.specs.Prelude.{slice_get, option_map, unwrap_or, is_some, nat_le, nat_lt}
use Rattle.std.specs.List.{AllByRecursion}
use Rattle.std.proofs.lemmas.Bool.{false≢true, cond-true, and_parts, leb-true, ltb-true, ltb-false}
use Rattle.std.proofs.lemmas.List.{append-nil}
use Rattle.lapi_base.specs.declared.layout.TheConstants.{LONGEST_ACTIVE}
use Rattle.lapi_base.specs.declared.script.Script.{Script}
use Rattle.lapi_base.specs.declared.rule.Rules.{Rules}
use Rattle.lapi_base.specs.declared.span.Span.{Span}
use Rattle.lapi_base.specs.declared.event.Event.{Event}
use Rattle.lapi_base.specs.declared.event.Event.TheVariants.{Begin}
use Rattle.lapi_base.specs.declared.message.Leg.{Leg}
use Rattle.lapi_base.specs.declared.message.Leg.TheVariants.{Go}
use Rattle.lapi_base.specs.declared.message.MsgName.{MsgName}
use Rattle.lapi_base.specs.declared.reply.Reply.TheVariants.{Did, Idle, Busy}
use Rattle.lapi_base.specs.declared.statement.Statement.{Statement}
use Rattle.lapi_base.specs.declared.statement.Statement.TheVariants.{Am}
use Rattle.lapi_base.specs.Laws.Working.{IsWaiting}
use Rattle.lapi_base.specs.Packet.Layout.{layout_of, longest_active, longest_active_of}
use Rattle.lapi_base.specs.Record.Acts.{begin, begin_at, begin_first, reply_with, followed}
use Rattle.lapi_base.specs.Record.Counters.{count, tells}
use Rattle.lapi_base.specs.Record.Handlers.{buffer, completion, has_completion, user, header_out, kept_place, kept_choice}
use Rattle.lapi_base.specs.Record.Jobs.{is_job, queue, runs}
use Rattle.lapi_base.specs.Record.Names.{message, leg_eq, name_eq}
use Rattle.lapi_base.specs.Record.Operations.{numbers_below, length_by, message_length, target, receiver, is_am, statement}
use Rattle.lapi_base.specs.Record.Values.{values, memory_bytes, gathered}
use Rattle.lapi_base.specs.Record.Wires.{Run}
use Rattle.lapi_base.proofs.LayoutLaws.{longest_active_by}
use Rattle.lapi_base.proofs.NameLaws.{name_eq-refl, leg_eq-true}
use Rattle.lapi_base.proofs.UptoLaws.{length-over}
use Rattle.lapi_jobs.specs.declared.pending.Pending.{Pending}
use Rattle.lapi_jobs.specs.Jobs.{Works, run_by, with_run}
use Rattle.lapi_laws.proofs.Sound.{landed-copied}
use Rattle.lapi_parts.proofs.Accepted.{Accepted, copied-accepted}
use Rattle.lapi_parts.proofs.QueuedJobs.{queued-waiting}
use Rattle.lapi_parts.proofs.Records.{record-sound}
use Rattle.lapi_task.specs.declared.outcome.Outcome.{Outcome}
use Rattle.lapi_task.specs.declared.task.Task.{Task}
use Rattle.lapi_task.specs.Effects.{bytes_held}
use Rattle.lapi_task.specs.HasEffect.{IsAt, HasEffect}
use Rattle.lapi_task.specs.HasJobs.{pending}
use Rattle.lapi_task.specs.Working.{IsFirstJob}
use Rattle.lapi_task.proofs.Working.QueueLaws.{jobs-begun}
use Rattle.lapi_task.proofs.Stepping.StepLaws.{stepped, stands-on, does-nothing}
use Rattle.lapi_task.proofs.Stepping.StepMemories.{read-over, memory-none, memory-length}
use Rattle.lapi_task.proofs.Working.WorkStays.{Made, begin-quiet, with_event, work-stands}

-- options and lists that a function was applied to
none-mapped : {X Y : Type 0} (f : X → Y) (o : Option X) → option_map f o ≡ None → o ≡ None
none-mapped f None e = refl
none-mapped f (Some x) e = absurd (cc)

some-mapped : {X Y : Type 0} (f : X → Y) (o : Option X) → is_some (option_map f o) ≡ is_some o
some-mapped f None = refl
some-mapped f (Some x) = refl

nothing-mapped : {X Y : Type 0} (f : X → Y) (xs : List X) → map f xs ≡ [] → xs ≡ []
nothing-mapped f [] e = refl
nothing-mapped f (x ∷ xs) e = absurd (cc)

some-is : (o : Option ℕ) → is_some o ≡ true → o ≡ Some (unwrap_or o 0)
some-is None e = absurd (false≢true e)
some-is (Some n) e = refl

kept-known : (count : ℕ) (o : Option ℕ) (n : ℕ) → kept_choice count o ≡ Some n → n < count
kept-known count None n e = absurd (cc)
kept-known count (Some k) n e = elim (nat_lt k count) as (λ b. nat_lt k count ≡ b → cond b (Some k) None ≡ Some n → n < count) [
  | true ↦ λ l s. let same : k ≡ n = cc in subst (λ x. x < count) same (ltb-true k count l)
  | false ↦ λ l s. absurd (cc)
] refl e

-- a buffer is nothing, or lies within the memory
abbrev IsBuffer : (memory len : ℕ) → List Span → Type 0
IsBuffer memory len spans = (spans ≡ []) ⊎ ((s : Span) × (spans ≡ s ∷ []) × (s.at + s.len ≤ memory) × (s.len ≡ len))

kept-buffer : (memory len : ℕ) (o : Option ℕ) → IsBuffer memory len (kept_place memory len o)
kept-buffer memory len None = inl refl
kept-buffer memory len (Some at) = elim (nat_le (at + len) memory) as (λ b. nat_le (at + len) memory ≡ b → IsBuffer memory len (cond b (record { at = at; len = len } ∷ []) [])) [
  | true ↦ λ l. inr (record { at = at; len = len }, refl, leb-true (at + len) memory l, refl)
  | false ↦ λ l. inl refl
] refl

module _ (script : Script) (rules : Rules) where
  is-buffer : (m : MsgName) → IsBuffer script.memory (message_length script m) (buffer script rules m)
  unfolding buffer
  is-buffer m = kept-buffer script.memory (message_length script m) (header_out script rules m).place

  -- the bytes in it are those of the memory
  bytes-gathered : (J : List Event) (t : ℕ) (m : MsgName) → bytes_held (memory_bytes script rules J t) (slice_get (buffer script rules m) 0) ≡ gathered (values script rules J).memory t (buffer script rules m)
  unfolding memory_bytes gathered
  bytes-gathered J t m =
      let f = (values script rules J).memory t in
      let M = map f (numbers_below script.memory) in
      ⊎_elim
      (λ (none : buffer script rules m ≡ []). ap (λ (ps : List Span). bytes_held M (slice_get ps 0)) none ∙ sym (ap (gathered (values script rules J).memory t) none))
      (λ (some : (s : Span) × (buffer script rules m ≡ s ∷ []) × (s.at + s.len ≤ script.memory) × (s.len ≡ message_length script m)).
      ap (λ (ps : List Span). bytes_held M (slice_get ps 0)) some.1
      ∙ read-over f script.memory some.0.at some.0.len some.2
      ∙ sym (append-nil (map (λ k. f (some.0.at + k)) (numbers_below some.0.len)))
      ∙ sym (ap (gathered (values script rules J).memory t) some.1))
      (is-buffer m)

  held-now : (J : List Event) (m : MsgName) (t w : ℕ) → (values script rules (Begin m t w ∷ J)).held m ≡ gathered (values script rules J).memory t (buffer script rules m)
  unfolding values
  held-now J m t w = cond-true (name_eq m m) (gathered (values script rules J).memory t (buffer script rules m)) ((values script rules J).held m) (name_eq-refl m)

  bytes-short : (J : List Event) (t : ℕ) (m : MsgName) (most : ℕ) → message_length script m ≤ most → length (gathered (values script rules J).memory t (buffer script rules m)) ≤ most
  unfolding gathered
  bytes-short J t m most l =
      let f = (values script rules J).memory t in
      ⊎_elim
      (λ (none : buffer script rules m ≡ []). subst (λ (ps : List Span). length (gathered (values script rules J).memory t ps) ≤ most) (sym none) (omega arith))
      (λ (some : (s : Span) × (buffer script rules m ≡ s ∷ []) × (s.at + s.len ≤ script.memory) × (s.len ≡ message_length script m)).
      subst (λ (ps : List Span). length (gathered (values script rules J).memory t ps) ≤ most) (sym some.1)
      (let n = ap length (append-nil (map (λ k. f (some.0.at + k)) (numbers_below some.0.len))) ∙ length-over (λ k. f (some.0.at + k)) some.0.len in
      let same = some.3 in
      omega (arith, n, same, l)))
      (is-buffer m)

  count-begun : (J : List Event) (m : MsgName) (t w c : ℕ) → count script rules (Begin m t w ∷ J) t c ≡ count script rules J t c
  unfolding count tells
  count-begun J m t w c = add-zero (count script rules J t c)

  completed : (t : ℕ) (m : MsgName) → is_job script rules t m ≡ true → is_some (completion script rules m) ≡ true
  unfolding is_job has_completion
  completed t m job =
      let both = and_parts (leg_eq m.leg Go) (has_completion script rules m.origin m.statement && receiver script m == t) job in
      let own = and_parts (has_completion script rules m.origin m.statement) (receiver script m == t) both.1 in
      let some = and_parts (is_am (statement script m.origin m.statement)) _ own.0 in
      let go : message m.origin m.statement Go ≡ m = λ i. record { origin = m.origin; statement = m.statement; leg = sym (leg_eq-true m.leg Go both.0) i } in
      subst (λ (k : MsgName). is_some (completion script rules k) ≡ true) go some.1

  -- the message of a job is an active one, and so is short
  active-short : (d : ℕ) (s : Statement) → is_am s ≡ true → Accepted script rules d s → length_by Go s ≤ LONGEST_ACTIVE
  unfolding longest_active_of
  active-short d (Am task handler header from len tgt org cmpl) am h =
      let l : len ≤ longest_active (layout_of script.layout) = ltb-false (longest_active (layout_of script.layout)) len h.short in
      let most = longest_active_by script.layout in
      omega (arith, l, most)
  active-short d _ am h = absurd (false≢true am)

  job-short : (t : ℕ) (m : MsgName) → is_job script rules t m ≡ true → Accepted script rules (target script m.origin m.statement) (statement script m.origin m.statement) → message_length script m ≤ LONGEST_ACTIVE
  unfolding is_job has_completion message_length
  job-short t m job h =
      let both = and_parts (leg_eq m.leg Go) (has_completion script rules m.origin m.statement && receiver script m == t) job in
      let own = and_parts (has_completion script rules m.origin m.statement) (receiver script m == t) both.1 in
      let some = and_parts (is_am (statement script m.origin m.statement)) _ own.0 in
      subst (λ (leg : Leg). length_by leg (statement script m.origin m.statement) ≤ LONGEST_ACTIVE) (sym (leg_eq-true m.leg Go both.0))
      (active-short (target script m.origin m.statement) (statement script m.origin m.statement) some.0 h)

  choice-known : (m : MsgName) (n : ℕ) → completion script rules m ≡ Some n → n < length rules.completions
  unfolding completion
  choice-known m n e = kept-known (length rules.completions) (header_out script rules m).completion n e

  module _ (t : ℕ) (before : Task) (r : Run) (at : IsAt script rules t before r) (w : ℕ) (room : w < script.workers) where
    abbrev J : List Event
    J = r.journal

    abbrev jobs : Works
    jobs = before.state.jobs

    abbrev told : Works → Task
    told new = record before { state = record before.state { jobs = new } }

    runs-is : run_by jobs w ≡ option_map (pending script rules) (runs J t w)
    runs-is = let h = at.stands.holds.jobs in h.running w room

    -- The worker is busy,
    pub busy-is : is_some (run_by jobs w) ≡ true → is_some (runs J t w) ≡ true
    busy-is b = sym (some-mapped (pending script rules) (runs J t w)) ∙ ap is_some (sym runs-is) ∙ b

    busy-begin : is_some (runs J t w) ≡ true → begin script rules r t w ≡ reply_with script rules r Busy
    unfolding begin
    busy-begin b = elim (runs J t w) as (λ o. is_some o ≡ true → begin_at script rules r t w o ≡ reply_with script rules r Busy) [
      | None ↦ λ e. absurd (false≢true e)
      | Some m ↦ λ e. refl
    ] b

    pub busy-does : (new : Works) (o : Outcome) → is_some (run_by jobs w) ≡ true → new ≡ jobs → HasEffect script rules t r (begin script rules r t w) (told new) o o
    busy-does new o b same =
        subst (λ (x : Run). HasEffect script rules t r x (told new) o o) (sym (busy-begin (busy-is b)))
        (subst (λ (x : Works). HasEffect script rules t r (reply_with script rules r Busy) (told x) o o) (sym same) (does-nothing script rules t r Busy before o at.stands))

    -- idle,
    pub free-is : run_by jobs w ≡ None → runs J t w ≡ None
    free-is n = none-mapped (pending script rules) (runs J t w) (sym runs-is ∙ n)

    pub none-is : jobs.waiting ≡ [] → queue script rules J t ≡ []
    none-is n = nothing-mapped (pending script rules) (queue script rules J t) (let h = at.stands.holds.jobs in sym h.waiting ∙ n)

    begins : (ns : List MsgName) → runs J t w ≡ None → queue script rules J t ≡ ns → begin script rules r t w ≡ begin_first script rules r t w ns
    unfolding begin
    begins ns free first = ap (begin_at script rules r t w) free ∙ ap (begin_first script rules r t w) first

    pub idle-does : (new : Works) (o : Outcome) → run_by jobs w ≡ None → jobs.waiting ≡ [] → new ≡ jobs → HasEffect script rules t r (begin script rules r t w) (told new) o o
    idle-does new o n none same =
        subst (λ (x : Run). HasEffect script rules t r x (told new) o o) (sym (begins [] (free-is n) (none-is none)))
        (subst (λ (x : Works). HasEffect script rules t r (reply_with script rules r Idle) (told x) o o) (sym same) (does-nothing script rules t r Idle before o at.stands))

    -- or begins the first job.
    module _ (job : Pending) (rest : List Pending) (waits : jobs.waiting ≡ job ∷ rest) where
      record First (ns : List MsgName) : Type 0 where
        pub m : MsgName
        pub ms : List MsgName
        pub queued : ns ≡ m ∷ ms
        pub is : job ≡ pending script rules m

      first-by : (ns : List MsgName) → job ∷ rest ≡ map (pending script rules) ns → First ns
      first-by [] e = absurd (cc)
      first-by (m ∷ ms) e = record { m = m; ms = ms; queued = refl; is = (let q : job ≡ pending script rules m = cc in q) }

      first : First (queue script rules J t)
      first = first-by (queue script rules J t) (let h = at.stands.holds.jobs in sym waits ∙ h.waiting)

      named : job.name ≡ first.m
      named = ap (λ (p : Pending). p.name) first.is

      waiting : IsWaiting script rules J t first.m
      waiting =
          let sound = record-sound script rules r at.recorded in
          (subst (λ (ns : List MsgName). AllByRecursion (IsWaiting script rules J t) ns) first.queued (queued-waiting script rules J sound.atomic t)).0

      short : message_length script first.m ≤ LONGEST_ACTIVE
      short =
          let sound = record-sound script rules r at.recorded in
          let copied = landed-copied script rules J first.m sound.atomic waiting.1 in
          job-short t first.m waiting.0 (copied-accepted script rules J first.m sound.atomic copied)

      pub buffer-there : (span : Span) → job.buffer ≡ Some span → span.at + span.len ≤ length before.state.memory
      buffer-there span e =
          let size = ap length at.stands.holds.memory ∙ memory-length script rules J t in
          let lies : slice_get (buffer script rules first.m) 0 ≡ Some span = sym (ap (λ (p : Pending). p.buffer) first.is) ∙ e in
          ⊎_elim
          (λ (none : buffer script rules first.m ≡ []). let q : None ≡ Some span = sym (ap (λ (ps : List Span). slice_get ps 0) none) ∙ lies in absurd (cc))
          (λ (some : (s : Span) × (buffer script rules first.m ≡ s ∷ []) × (s.at + s.len ≤ script.memory) × (s.len ≡ message_length script first.m)).
          let q : Some some.0 ≡ Some span = sym (ap (λ (ps : List Span). slice_get ps 0) some.1) ∙ lies in
          let same : some.0 ≡ span = cc in
          subst (λ (s : Span). s.at + s.len ≤ length before.state.memory) same (let l = some.2 in omega (arith, l, size)))
          (is-buffer first.m)

      module _ (free : run_by jobs w ≡ None) where
        begun : begin script rules r t w ≡ stepped script rules r (Begin first.m t w)
        begun = begins (first.m ∷ first.ms) (free-is free) first.queued

        pub job-is : (bytes : List ℕ) (number : ℕ) → number ≡ before.state.number → bytes ≡ bytes_held before.state.memory job.buffer → (runs J t w ≡ None) × IsFirstJob script rules t w r (record { name = job.name; task = number; worker = w; completion = job.completion; user = job.user; buffer = bytes })
        unfolding followed
        job-is bytes number own found =
            let some = completed t first.m waiting.0 in
            let chosen : completion script rules first.m ≡ Some job.completion = some-is (completion script rules first.m) some ∙ ap Some (sym (ap (λ (p : Pending). p.completion) first.is)) in
            let there : bytes ≡ gathered (values script rules J).memory t (buffer script rules first.m) =
            found
            ∙ (λ i. bytes_held (at.stands.holds.memory i) ((first.is i).buffer))
            ∙ bytes-gathered J t first.m in (
              free-is free,
              record {
                rest = first.ms;
                first = first.queued ∙ ap (λ (m : MsgName). m ∷ first.ms) (sym named);
                place = (own ∙ at.stands.holds.number, refl);
                completion = ap (completion script rules) named ∙ chosen;
                user = ap (λ (p : Pending). p.user) first.is ∙ ap (user script) (sym named);
                buffer =
                    there
                    ∙ sym (held-now J first.m t w)
                    ∙ ap (λ (x : Run). (values script rules x.journal).held first.m) (sym begun)
                    ∙ ap (values script rules (begin script rules r t w).journal).held (sym named);
                known = choice-known first.m job.completion chosen;
                short = subst (λ (bs : List ℕ). length bs ≤ LONGEST_ACTIVE) (sym there) (bytes-short J t first.m LONGEST_ACTIVE short);
              },
            )

        made : (new : Works) → rest ≡ new.waiting → new ≡ with_run (record jobs { waiting = new.waiting }) w (Some job) → Made script rules t (Begin first.m t w) J before.state (record before.state { jobs = new })
        made new left run =
            let h = at.stands.holds in
            let sound = record-sound script rules r at.recorded in record {
              memory = h.memory ∙ sym (memory-none script rules (Begin first.m t w) J t refl);
              counter_count = h.counter_count;
              counters = λ c l. h.counters c l ∙ sym (count-begun J first.m t w c);
              jobs = jobs-begun script rules t J first.m w jobs new h.jobs room first.ms job sound.atomic first.queued first.is (waits ∙ ap (λ (js : List Pending). job ∷ js) left) run;
              rest = refl;
            }

        pub job-does : (new : Works) (old out : Outcome) → rest ≡ new.waiting → new ≡ with_run (record jobs { waiting = new.waiting }) w (Some job) → out.events ≡ old.events ++ Begin job.name before.state.number w ∷ [] → out.entries ≡ old.entries → HasEffect script rules t r (begin script rules r t w) (told new) old out
        unfolding followed
        job-does new old out left run added same =
            subst (λ (x : Run). HasEffect script rules t r x (told new) old out) (sym begun) (record {
              events = Begin first.m t w ∷ [];
              entries = [];
              stands = stands-on script rules t (with_event script rules t r (Begin first.m t w)) Did (told new) (work-stands script rules t r (Begin first.m t w) before (record before.state { jobs = new }) tt (begin-quiet script rules t first.m w J) at.stands (made new left run));
              journal = refl;
              events_added = added ∙ (λ i. old.events ++ Begin (named i) (at.stands.holds.number i) w ∷ []);
              put = λ b l. sym (append-nil _);
              entries_added = same ∙ sym (append-nil old.entries);
              ends = tt;
            })
