-- What is kept of the jobs of all workers, through the lines of a schedule.
use Rattle.std.proofs.Common.{◌≡◌, ℕ, ◌+◌, ◌*◌, ◌<◌, ◌≤◌, ◌==◌, ◌&&◌, false, List, [], ◌∷◌, ◌++◌, length, set, replicate, Option, Some, None, is_some, inl, inr, ◌⊎◌, refl, sym, ap, ◌∙◌, subst, arith}
use Rattle.std.specs.Prelude.{slice_get, slice_index_or, unwrap_or, option_map}
use Rattle.std.proofs.lemmas.Bool.{and_from, and_parts, cond-true, cond_both, eq-eqb, eqb-true, false_from_ne_true}
use Rattle.std.proofs.lemmas.Grind.{get_or-set_at}
use Rattle.std.proofs.lemmas.List.{get_or-set_other, get_or-replicate, length-set}
use mathlib.Core.Logic.{dite}
use native.Mathlib.Decide.{ℕ_discrete}
use Rattle.lapi_base.specs.declared.message.MsgName.{MsgName}
use Rattle.lapi_base.specs.declared.message.Leg.TheVariants.{Note, Echo}
use Rattle.lapi_base.specs.declared.event.Event.{Event}
use Rattle.lapi_base.specs.declared.event.Event.TheVariants.{Copy, End}
use Rattle.lapi_base.specs.declared.reply.Reply.{Reply}
use Rattle.lapi_base.specs.declared.reply.Reply.TheVariants.{Did}
use Rattle.lapi_base.specs.declared.reply.Reply.TheVariants as replies
use Rattle.lapi_base.specs.declared.rule.CompletionRule.{CompletionRule}
use Rattle.lapi_base.specs.declared.rule.Rules.{Rules}
use Rattle.lapi_base.specs.declared.schedule.Act.{Act}
use Rattle.lapi_base.specs.declared.schedule.Act.TheVariants as acts
use Rattle.lapi_base.specs.declared.schedule.Line.{Line}
use Rattle.lapi_base.specs.declared.script.Script.{Script}
use Rattle.lapi_base.specs.Record.Acts.{perform, begin_first, begin_at, begin, end_at, end, followed, note_of, after_end}
use Rattle.lapi_base.specs.Record.Handlers.{answers, completion, completion_answer, completion_rule, rule_named, user}
use Rattle.lapi_base.specs.Record.Jobs.{queue, runs}
use Rattle.lapi_base.specs.Record.Names.{message}
use Rattle.lapi_base.specs.Record.Operations.{statement, cmpl_counter}
use Rattle.lapi_base.specs.Record.Valid.{ValidAct, ValidLine, ValidScript, ValidSchedule}
use Rattle.lapi_base.specs.Record.Values.{values}
use Rattle.lapi_base.specs.Record.Wires.{Run}
use Rattle.lapi_base.specs.Record.WorldView.{WorldView, IsRecord, act_at, performed, record_at, view_record}
use Rattle.lapi_base.specs.Packet.Spelling.{spells_packet}
use Rattle.lapi_base.specs.Laws.Working.{works_at}
use Rattle.lapi_base.proofs.ListLaws.{all-get, get-none}
use Rattle.lapi_handlers.specs.declared.begun.Begun.{Begun}
use Rattle.lapi_handlers.specs.declared.begun.Begun.TheVariants.{Job as IsAJob, Idle, Busy}
use Rattle.lapi_handlers.specs.declared.finished.Finished.{Finished}
use Rattle.lapi_handlers.specs.declared.job.Job.{Job}
use Rattle.lapi_parts.proofs.LineEvents.{workers-stay, held-stay}
use Rattle.lapi_parts.proofs.LinesTaken.{record-first, record-more, taken-record}
use Rattle.lapi_parts.proofs.QueuedJobs.{running-begun}
use Rattle.lapi_parts.proofs.Records.{record-sound}
use Rattle.lapi_world.specs.Jobs.{AreKept, BeginsAt, EndsAt, HandsOut, IsOfWorker, RunsJob, begun_reply, is_work}

-- The act of a line is valid, and names a worker that there may be.
line-of : (o : Option Line) (act : Act) → option_map (λ (line : Line). line.act) o ≡ Some act → (line : Line) × (o ≡ Some line) × (line.act ≡ act)
line-of None act e = absurd (cc)
line-of (Some line) act e = (line, refl, (let q : line.act ≡ act = cc in q))

some-line : (o : Option Line) → (o ≡ None → ⊥) → (act : Act) × (option_map (λ (line : Line). line.act) o ≡ Some act)
some-line None there = absurd (there refl)
some-line (Some line) there = (line.act, refl)

pub act_known : (schedule : List Line) (n : ℕ) → n < length schedule → (act : Act) × (act_at schedule n ≡ Some act)
act_known schedule n known = some-line (slice_get schedule n) (λ none. let past : length schedule ≤ n = get-none schedule n none in omega (arith, known, past))

act-valid : (w : WorldView) (n : ℕ) (act : Act) → ValidSchedule w.script spells_packet w.schedule → act_at w.schedule n ≡ Some act → ValidAct w.script spells_packet act
act-valid w n act valid at =
    let line = line-of (slice_get w.schedule n) act at in
    subst (ValidAct w.script spells_packet) line.2 (all-get (ValidLine w.script spells_packet) w.schedule n line.0 valid.lines line.1).1

few : (script : Script) (t v : ℕ) → ValidScript script → (t < script.tasks) × (v < script.workers) → (t < 8) × (v < 4)
few script t v valid at =
    let tasks : script.tasks ≤ 8 = valid.tasks.1 in
    let workers : script.workers ≤ 4 = valid.workers.1 in
    let t-known : t < script.tasks = at.0 in
    let v-known : v < script.workers = at.1 in
    (omega arith, omega arith)

pub begin_place : (w : WorldView) (n t v : ℕ) → ValidScript w.script × ValidSchedule w.script spells_packet w.schedule → BeginsAt w.schedule n t v → (t < 8) × (v < 4)
begin_place w n t v valid at = few w.script t v valid.0 (act-valid w n (acts.Begin t v) valid.1 at)

pub end_place : (w : WorldView) (n t v : ℕ) → ValidScript w.script × ValidSchedule w.script spells_packet w.schedule → EndsAt w.schedule n t v → (t < 8) × (v < 4)
end_place w n t v valid at = few w.script t v valid.0 (act-valid w n (acts.End t v) valid.1 at)

-- What is of a worker stays of it through the lines of others.
module _ (script : Script) (rules : Rules) where
  of-others : (r : Run) (act : Act) (t v : ℕ) (kept : Option Finished) → IsRecord script rules r → works_at t v act ≡ false → IsOfWorker script rules t v r kept → IsOfWorker script rules t v (performed script rules r act) kept
  of-others r act t v None is other h = workers-stay script rules r is act t v other ∙ h
  of-others r act t v (Some f) is other h =
      let begun = running-begun script rules r.journal (record-sound script rules r is).atomic t f.worker f.name h.1.running in (
        h.0,
        record {
          running = workers-stay script rules r is act t f.worker (subst (λ x. works_at t x act ≡ false) (sym h.0) other) ∙ h.1.running;
          place = h.1.place;
          buffer = h.1.buffer ∙ sym (held-stay script rules r is act f.name begun.2);
          effect = h.1.effect;
        },
      )

  -- and where nothing happens.
  of-same : (r s : Run) (t v : ℕ) (kept : Option Finished) → s.journal ≡ r.journal → IsOfWorker script rules t v r kept → IsOfWorker script rules t v s kept
  of-same r s t v None same h = ap (λ (J : List Event). runs J t v) same ∙ h
  of-same r s t v (Some f) same h = (
    h.0,
    record {
      running = ap (λ (J : List Event). runs J t f.worker) same ∙ h.1.running;
      place = h.1.place;
      buffer = h.1.buffer ∙ sym (ap (λ (J : List Event). (values script rules J).held f.name) same);
      effect = h.1.effect;
    },
  )

  -- After an End the worker runs nothing.
  freed-with : (J : List Event) (m : MsgName) (t v : ℕ) (es : List Event) → ((K : List Event) → runs K t v ≡ None → runs (followed K es) t v ≡ None) → runs (followed J (End m t v ∷ es)) t v ≡ None
  unfolding followed runs
  freed-with J m t v es later = later (End m t v ∷ J) (cond-true (t == t && v == v) None (runs J t v) (and_from (t == t) (v == v) (eq-eqb t t refl) (eq-eqb v v refl)))

  one-copy : (m : MsgName) (t v : ℕ) (K : List Event) → runs K t v ≡ None → runs (followed K (Copy m ∷ [])) t v ≡ None
  unfolding followed runs
  one-copy m t v K h = h

  no-copy : (t v : ℕ) (K : List Event) → runs K t v ≡ None → runs (followed K []) t v ≡ None
  unfolding followed
  no-copy t v K h = h

  copies : (m : MsgName) (t v : ℕ) (K : List Event) → runs K t v ≡ None → runs (followed K (after_end script rules m)) t v ≡ None
  copies m t v K h =
      cond_both (answers script rules m.origin m.statement) (Copy (message m.origin m.statement Echo) ∷ []) (note_of script rules m) (λ es. runs (followed K es) t v ≡ None)
      (λ _. one-copy (message m.origin m.statement Echo) t v K h)
      (λ _. cond_both (is_some (cmpl_counter (statement script m.origin m.statement))) (Copy (message m.origin m.statement Note) ∷ []) [] (λ es. runs (followed K es) t v ≡ None)
      (λ _. one-copy (message m.origin m.statement Note) t v K h)
      (λ _. no-copy t v K h))

  freed : (r : Run) (t v : ℕ) → runs (performed script rules r (acts.End t v)).journal t v ≡ None
  unfolding performed perform end
  freed r t v =
      elim (runs r.journal t v) as (λ o. runs r.journal t v ≡ o → runs (end_at script rules r t v o).journal t v ≡ None) [
        | None ↦ λ e. e
        | Some m ↦ λ e. freed-with r.journal m t v (after_end script rules m) (copies m t v)
      ] refl

  -- A Begin that gives no job adds no event.
  last-same : (xs : List Reply) (a b : Reply) → xs ++ a ∷ [] ≡ xs ++ b ∷ [] → a ≡ b
  last-same [] a b e = cc
  last-same (x ∷ xs) a b e = last-same xs a b (let q : xs ++ a ∷ [] ≡ xs ++ b ∷ [] = cc in q)

  no-event : (r : Run) (t v : ℕ) (told : Reply) → (Did ≡ told → ⊥) → (performed script rules r (acts.Begin t v)).replies ≡ r.replies ++ told ∷ [] → (performed script rules r (acts.Begin t v)).journal ≡ r.journal
  unfolding performed perform begin
  no-event r t v told differs is =
      elim (runs r.journal t v) as (λ o. (begin_at script rules r t v o).replies ≡ r.replies ++ told ∷ [] → (begin_at script rules r t v o).journal ≡ r.journal) [
        | Some m ↦ λ e. refl
        | None ↦ elim (queue script rules r.journal t) as (λ ms. (begin_first script rules r t v ms).replies ≡ r.replies ++ told ∷ [] → (begin_first script rules r t v ms).journal ≡ r.journal) [
          | [] ↦ λ e. refl
          | m ∷ ms ↦ λ e. absurd (differs (last-same r.replies Did told e))
        ]
      ] is

  -- What a completion handler made of a job is of the worker that runs it.
  named : (m : MsgName) (n : ℕ) → completion script rules m ≡ Some n → completion_rule rules n ≡ rule_named script rules m
  unfolding rule_named
  named m n e = sym (ap (λ (o : Option ℕ). completion_rule rules (unwrap_or o 0)) e)

  of-job : (r : Run) (job : Job) (f : Finished) → RunsJob script rules r job → f.name ≡ job.name → (f.task ≡ job.task) × (f.worker ≡ job.worker) → f.buffer ≡ job.buffer
      → f.effect ≡ completion_answer (completion_rule rules job.completion) job.user job.buffer → IsOfWorker script rules f.task f.worker r (Some f)
  of-job r job f runs-it name place buffer effect = (
    refl,
    record {
      running = ap (λ (a : ℕ). runs r.journal a f.worker) place.0 ∙ ap (λ (v : ℕ). runs r.journal job.task v) place.1 ∙ runs-it.running ∙ ap Some (sym name);
      place = refl;
      buffer = buffer ∙ runs-it.buffer ∙ ap (values script rules r.journal).held (sym name);
      effect =
          effect
          ∙ ap (λ (rule : CompletionRule). completion_answer rule job.user job.buffer) (named job.name job.completion runs-it.completion)
          ∙ ap (λ (n : ℕ). completion_answer (rule_named script rules job.name) n job.buffer) runs-it.user
          ∙ ap (λ (m : MsgName). completion_answer (rule_named script rules m) (user script m) job.buffer) (sym name)
          ∙ ap (completion_answer (rule_named script rules f.name) (user script f.name)) (sym buffer);
    },
  )

-- before the first line nothing runs
none-runs : (w : WorldView) (t v : ℕ) → w.taken ≡ [] → runs (view_record w).journal t v ≡ None
unfolding runs
none-runs w t v first = ap (λ (numbers : List ℕ). runs (record_at w.script w.rules w.schedule numbers).journal t v) first ∙ ap (λ (r : Run). runs r.journal t v) (record-first w.script w.rules w.schedule)

pub first_kept : (w : WorldView) (jobs : List (Option Finished)) → w.taken ≡ [] → jobs ≡ replicate 32 None → AreKept w jobs
first_kept w jobs first is =
    let none : Option Finished = None in
    record {
      count = ap length is;
      each = λ t v lt lv. subst (IsOfWorker w.script w.rules t v (view_record w)) (sym (ap (λ (list : List (Option Finished)). slice_index_or list (t * 4 + v) None) is ∙ get_or-replicate 32 (t * 4 + v) none none (omega arith))) (none-runs w t v first);
    }

-- One line more is taken.
module _ (w new : WorldView) (n : ℕ) (act : Act) (at : act_at w.schedule n ≡ Some act) (is : new ≡ record w { taken = w.taken ++ n ∷ [] }) where
  after : view_record new ≡ performed w.script w.rules (view_record w) act
  after = ap view_record is ∙ record-more w.script w.rules w.schedule w.taken n act at

  with-rules : (t v : ℕ) (kept : Option Finished) → IsOfWorker w.script w.rules t v (performed w.script w.rules (view_record w) act) kept → IsOfWorker new.script new.rules t v (view_record new) kept
  with-rules t v kept h =
      subst (λ (r : Run). IsOfWorker new.script new.rules t v r kept) (sym after)
      (subst (λ (x : WorldView). IsOfWorker x.script x.rules t v (performed w.script w.rules (view_record w) act) kept) (sym is) h)

  module _ (valid : ValidSchedule w.script spells_packet w.schedule) (jobs : List (Option Finished)) (h : AreKept w jobs) where
    of-other : (t v : ℕ) → t < 8 → v < 4 → works_at t v act ≡ false → IsOfWorker new.script new.rules t v (view_record new) (slice_index_or jobs (t * 4 + v) None)
    of-other t v lt lv other = with-rules t v _ (of-others w.script w.rules (view_record w) act t v _ (taken-record w.script w.rules w.schedule w.taken valid) other (h.each t v lt lv))

    pub plain_kept : ((t v : ℕ) → works_at t v act ≡ false) → AreKept new jobs
    plain_kept others = record { count = h.count; each = λ t v lt lv. of-other t v lt lv (others t v) }

    -- the line of one worker, and what is kept of it now
    module _ (t0 v0 : ℕ) (place : (t0 < 8) × (v0 < 4)) (own : (t v : ℕ) → works_at t v act ≡ (t0 == t && v0 == v)) (kept : Option Finished) (ours : IsOfWorker new.script new.rules t0 v0 (view_record new) kept) where
      here : (t v : ℕ) → t < 8 → v < 4 → t * 4 + v ≡ t0 * 4 + v0 → IsOfWorker new.script new.rules t v (view_record new) (slice_index_or (set jobs (t0 * 4 + v0) kept) (t * 4 + v) None)
      here t v lt lv e =
          let lt0 : t0 < 8 = place.0 in
          let lv0 : v0 < 4 = place.1 in
          let count : length jobs ≡ 32 = h.count in
          let et : t0 ≡ t = omega arith in
          let ev : v0 ≡ v = omega arith in
          let got : slice_index_or (set jobs (t0 * 4 + v0) kept) (t * 4 + v) None ≡ kept = get_or-set_at jobs (t0 * 4 + v0) (t * 4 + v) kept None e (omega arith) in
          subst (IsOfWorker new.script new.rules t v (view_record new)) (sym got)
          (subst (λ x. IsOfWorker new.script new.rules t x (view_record new) kept) ev (subst (λ x. IsOfWorker new.script new.rules x v0 (view_record new) kept) et ours))

      there : (t v : ℕ) → t < 8 → v < 4 → (t * 4 + v ≡ t0 * 4 + v0 → ⊥) → IsOfWorker new.script new.rules t v (view_record new) (slice_index_or (set jobs (t0 * 4 + v0) kept) (t * 4 + v) None)
      there t v lt lv differs =
          let got : slice_index_or (set jobs (t0 * 4 + v0) kept) (t * 4 + v) None ≡ slice_index_or jobs (t * 4 + v) None = get_or-set_other jobs (t0 * 4 + v0) (t * 4 + v) kept None differs in
          let other : works_at t v act ≡ false =
          false_from_ne_true (works_at t v act) (λ yes.
          let p = and_parts (t0 == t) (v0 == v) (sym (own t v) ∙ yes) in
          let et = eqb-true t0 t p.0 in
          let ev = eqb-true v0 v p.1 in
          differs (omega arith)) in
          subst (IsOfWorker new.script new.rules t v (view_record new)) (sym got) (of-other t v lt lv other)

      set-kept : AreKept new (set jobs (t0 * 4 + v0) kept)
      set-kept = record {
        count = length-set jobs (t0 * 4 + v0) kept ∙ h.count;
        each = λ t v lt lv. dite (ℕ_discrete (t * 4 + v) (t0 * 4 + v0)) (λ e. here t v lt lv e) (λ differs. there t v lt lv differs);
      }

plain-elsewhere : (act : Act) (t v : ℕ) → is_work act ≡ false → works_at t v act ≡ false
plain-elsewhere (acts.Begin a b) t v plain = absurd (cc)
plain-elsewhere (acts.End a b) t v plain = absurd (cc)
plain-elsewhere (acts.Step a) t v plain = refl
plain-elsewhere (acts.Poll a) t v plain = refl
plain-elsewhere (acts.Tick a) t v plain = refl
plain-elsewhere (acts.Deliver a b k) t v plain = refl
plain-elsewhere (acts.Cut a b k n) t v plain = refl
plain-elsewhere (acts.Inject a b bytes) t v plain = refl

-- a line that is no work
pub line_kept : (w new : WorldView) (n : ℕ) (act : Act) (jobs : List (Option Finished)) → ValidSchedule w.script spells_packet w.schedule → act_at w.schedule n ≡ Some act → is_work act ≡ false → new ≡ record w { taken = w.taken ++ n ∷ [] } → AreKept w jobs → AreKept new jobs
line_kept w new n act jobs valid at plain is h = plain_kept w new n act at is valid jobs h (λ t v. plain-elsewhere act t v plain)

-- an End
pub end_kept : (w new : WorldView) (n t v : ℕ) (jobs : List (Option Finished)) → ValidScript w.script × ValidSchedule w.script spells_packet w.schedule → EndsAt w.schedule n t v → new ≡ record w { taken = w.taken ++ n ∷ [] } → AreKept w jobs → AreKept new (set jobs (t * 4 + v) None)
end_kept w new n t v jobs valid at is h =
    set-kept w new n (acts.End t v) at is valid.1 jobs h t v (end_place w n t v valid at) (λ a b. refl) None
    (with-rules w new n (acts.End t v) at is t v None (freed w.script w.rules (view_record w) t v))

-- the job that a Begin hands out is of the line's worker
pub same_place : (w new : WorldView) (n t v : ℕ) (job : Job) → BeginsAt w.schedule n t v → new ≡ record w { taken = w.taken ++ n ∷ [] } → HandsOut new n (IsAJob job) → (job.task ≡ t) × (job.worker ≡ v)
same_place w new n t v job at is out =
    let told : BeginsAt w.schedule n job.task job.worker = subst (λ (x : WorldView). BeginsAt x.schedule n job.task job.worker) is out.0 in
    let e : Some (acts.Begin job.task job.worker) ≡ Some (acts.Begin t v) = sym told ∙ at in
    let task : job.task ≡ t = cc in
    let worker : job.worker ≡ v = cc in
    (task, worker)

-- a Begin that gives a job
pub begin_kept : (w new : WorldView) (n t v : ℕ) (jobs : List (Option Finished)) (job : Job) (f : Finished) → ValidScript w.script × ValidSchedule w.script spells_packet w.schedule → BeginsAt w.schedule n t v → new ≡ record w { taken = w.taken ++ n ∷ [] } → HandsOut new n (IsAJob job)
    → f.name ≡ job.name → (f.task ≡ job.task) × (f.worker ≡ job.worker) → f.buffer ≡ job.buffer → f.effect ≡ completion_answer (completion_rule w.rules job.completion) job.user job.buffer
    → AreKept w jobs → AreKept new (set jobs (f.task * 4 + f.worker) (Some f))
begin_kept w new n t v jobs job f valid at is out name place buffer effect h =
    let same = same_place w new n t v job at is out in
    let begins : BeginsAt w.schedule n f.task f.worker = at ∙ ap (λ (a : ℕ). Some (acts.Begin a v)) (sym (place.0 ∙ same.0)) ∙ ap (λ (b : ℕ). Some (acts.Begin f.task b)) (sym (place.1 ∙ same.1)) in
    let by-rules : f.effect ≡ completion_answer (completion_rule new.rules job.completion) job.user job.buffer = subst (λ (x : WorldView). f.effect ≡ completion_answer (completion_rule x.rules job.completion) job.user job.buffer) (sym is) effect in
    set-kept w new n (acts.Begin f.task f.worker) begins is valid.1 jobs h f.task f.worker (begin_place w n f.task f.worker valid begins) (λ a b. refl) (Some f)
    (of-job new.script new.rules (view_record new) job f out.1 name place buffer by-rules)

did-idle : Did ≡ replies.Idle → ⊥
did-idle e = absurd (cc)

did-busy : Did ≡ replies.Busy → ⊥
did-busy e = absurd (cc)

pub no-job : (begun : Begun) → (begun ≡ Idle) ⊎ (begun ≡ Busy) → Did ≡ begun_reply begun → ⊥
no-job begun (inl e) told = did-idle (told ∙ ap begun_reply e)
no-job begun (inr e) told = did-busy (told ∙ ap begun_reply e)

-- and one that gives none
pub unbegun_kept : (w new : WorldView) (n t v : ℕ) (jobs : List (Option Finished)) (begun : Begun) → (Did ≡ begun_reply begun → ⊥) → BeginsAt w.schedule n t v → new ≡ record w { taken = w.taken ++ n ∷ [] } → (view_record new).replies ≡ (view_record w).replies ++ begun_reply begun ∷ [] → AreKept w jobs → AreKept new jobs
unbegun_kept w new n t v jobs begun differs at is told h =
    let r = view_record w in
    let s = performed w.script w.rules r (acts.Begin t v) in
    let same : view_record new ≡ s = after w new n (acts.Begin t v) at is in
    let journal = no-event w.script w.rules r t v (begun_reply begun) differs (ap (λ (q : Run). q.replies) (sym same) ∙ told) in
    record {
      count = h.count;
      each = λ a b la lb. with-rules w new n (acts.Begin t v) at is a b _ (of-same w.script w.rules r s a b _ journal (h.each a b la lb));
    }
