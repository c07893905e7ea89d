-- A world, line by line.
use Rattle.std.proofs.Common.{◌≡◌, ◌↔◌, IsTrue, ℕ, ◌<◌, Bool, false, List, [], ◌∷◌, ◌++◌, length, reverse, Option, Some, None, refl, sym, ap, ◌∙◌, subst}
use Rattle.std.specs.Prelude.{slice_get, option_map}
use Rattle.std.specs.List.{AllByRecursion}
use Rattle.lapi_base.specs.declared.script.Script.{Script}
use Rattle.lapi_base.specs.declared.rule.Rules.{Rules}
use Rattle.lapi_base.specs.declared.event.Event.{Event}
use Rattle.lapi_base.specs.declared.schedule.Act.{Act}
use Rattle.lapi_base.specs.declared.schedule.Line.{Line}
use Rattle.lapi_base.specs.declared.reply.Reply.{Reply}
use Rattle.lapi_base.specs.Record.Atomic.{AtomicInTime}
use Rattle.lapi_base.specs.Laws.Headline.{HoldsOfRuns}
use Rattle.lapi_base.specs.Record.Final.{Quiet, QuietIsTested, QuietIsFinal, QuietStays, is_quiet}
use Rattle.lapi_base.specs.Record.Wires.{Run, start}
use Rattle.lapi_base.specs.Record.WorldView.{WorldView, IsRecord, act_at, acts_of, record_of, record_at, performed, view_record}
use Rattle.lapi_base.specs.Packet.Spelling.{refusal, spells_packet}
use Rattle.lapi_base.specs.Record.Valid.{ValidAct, ValidLine}
use Rattle.lapi_base.specs.Packet.PacketBytes.{packet_size}
use Rattle.lapi_base.proofs.ListLaws.{all-get}
use Rattle.lapi_parts.proofs.LinesTaken.{record-first, record-more, acts-valid}
use Rattle.lapi_task.specs.declared.task.Task.{Task}
use Rattle.lapi_handlers.specs.declared.begun.Begun.{Begun}
use Rattle.lapi_handlers.specs.declared.begun.Begun.TheVariants.{Job as IsAJob, Idle, Busy}
use Rattle.lapi_handlers.specs.declared.finished.Finished.{Finished}
use Rattle.lapi_task.specs.HasEffect.{IsAt}
use Rattle.lapi_task.specs.Working.{IsBegun}
use Rattle.lapi_world.specs.declared.network.Network.{Network}
use Rattle.lapi_world.specs.Jobs.{BeginsAt, EndsAt, HandsOut, IsEndWith, IsOfWorker, RunsJob}
use Rattle.lapi_world.specs.Settled.{IsSettled}
use Rattle.lapi_world.specs.Stands.{TaskAt, Stands, IsWorld}
use Rattle.lapi_world.proofs.JobLines.{job-runs}

-- The worker of an End.
same-end : (schedule : List Line) (n t w a v : ℕ) → EndsAt schedule n t w → EndsAt schedule n a v → (t ≡ a) × (w ≡ v)
same-end schedule n t w a v one other =
    let e : Some (Act.End t w) ≡ Some (Act.End a v) = sym one ∙ other in
    let task : t ≡ a = cc in
    let worker : w ≡ v = cc in
    (task, worker)

pub end-finished : (view : WorldView) (n t w : ℕ) (finished : Option Finished) → IsEndWith view n finished → EndsAt view.schedule n t w → IsOfWorker view.script view.rules t w (view_record view) finished
end-finished view n t w finished h at =
    let same = same-end view.schedule n h.0 h.1 t w h.2 at in
    subst (λ v. IsOfWorker view.script view.rules t v (view_record view) finished) same.1
    (subst (λ a. IsOfWorker view.script view.rules a h.1 (view_record view) finished) same.0 h.3)

-- A job that begins is handed out.
hands : (view : WorldView) (n t w : ℕ) (r : Run) (begun : Begun) → BeginsAt view.schedule n t w → view_record view ≡ performed view.script view.rules r (Act.Begin t w) → IsBegun view.script view.rules t w r begun → HandsOut view n begun
hands view n t w r Busy at after h = tt
hands view n t w r Idle at after h = tt
hands view n t w r (IsAJob job) at after h = (
  at ∙ ap (λ (a : ℕ). Some (Act.Begin a w)) (sym h.1.place.0) ∙ ap (λ (v : ℕ). Some (Act.Begin job.task v)) (sym h.1.place.1),
  subst (λ (q : Run). RunsJob view.script view.rules q job) (sym after) (job-runs view.script view.rules r t w job h),
)

pub hands-out : (view : WorldView) (taken : List ℕ) (n t w : ℕ) (begun : Begun) → BeginsAt view.schedule n t w → view.taken ≡ taken ++ n ∷ [] → IsBegun view.script view.rules t w (record_at view.script view.rules view.schedule taken) begun → HandsOut view n begun
hands-out view taken n t w begun at push h =
    hands view n t w (record_at view.script view.rules view.schedule taken) begun at
    (ap (record_at view.script view.rules view.schedule) push ∙ record-more view.script view.rules view.schedule taken n (Act.Begin t w) at) h

module _ (script : Script) (rules : Rules) where
  -- A line of the schedule.
  act-of : (o : Option Line) (act : Act) → option_map (λ (line : Line). line.act) o ≡ Some act → (line : Line) × (o ≡ Some line) × (line.act ≡ act)
  act-of None act e = absurd (cc)
  act-of (Some line) act e = (line, refl, (let q : line.act ≡ act = cc in q))

  pub act-valid : (schedule : List Line) (n : ℕ) (act : Act) → AllByRecursion (ValidLine script spells_packet) schedule → act_at schedule n ≡ Some act → ValidAct script spells_packet act
  act-valid schedule n act valid at =
      let line = act-of (slice_get schedule n) act at in
      subst (ValidAct script spells_packet) line.2 (all-get (ValidLine script spells_packet) schedule n line.0 valid line.1).1

  -- The record of the lines taken.
  pub recorded : (schedule : List Line) (network : Network) (taken : List ℕ) (replies : List Reply) (spent : Bool) → IsWorld script rules schedule network taken replies spent → IsRecord script rules (record_at script rules schedule taken)
  recorded schedule network taken replies spent w = (acts_of schedule taken, acts-valid script schedule taken w.schedule_valid, refl)

  -- A task of it.
  pub task-stands : (schedule : List Line) (network : Network) (taken : List ℕ) (replies : List Reply) (spent : Bool) (t : ℕ) (task : Task) → IsWorld script rules schedule network taken replies spent → spent ≡ false → t < script.tasks → slice_get network.tasks.items t ≡ Some task → IsAt script rules t task (record_at script rules schedule taken)
  task-stands schedule network taken replies spent t task w free l at = record {
    recorded = recorded schedule network taken replies spent w;
    known = l;
    stands = subst (TaskAt script rules (record_at script rules schedule taken) t) at ((w.stands free).tasks t l);
  }

  one-more : (schedule : List Line) (old new : List ℕ) (n : ℕ) (act : Act) → act_at schedule n ≡ Some act → new ≡ old ++ n ∷ [] → record_at script rules schedule new ≡ performed script rules (record_at script rules schedule old) act
  one-more schedule old new n act at push = ap (record_at script rules schedule) push ∙ record-more script rules schedule old n act at

  pub line-stands : (schedule : List Line) (old new : List ℕ) (n : ℕ) (act : Act) (network : Network) → act_at schedule n ≡ Some act → new ≡ old ++ n ∷ [] → Stands script rules network (performed script rules (record_at script rules schedule old) act) → Stands script rules network (record_at script rules schedule new)
  line-stands schedule old new n act network at push h = subst (Stands script rules network) (sym (one-more schedule old new n act at push)) h

  pub line-replies : (schedule : List Line) (old new : List ℕ) (n : ℕ) (act : Act) (reply : Reply) → act_at schedule n ≡ Some act → new ≡ old ++ n ∷ [] → (performed script rules (record_at script rules schedule old) act).replies ≡ (record_at script rules schedule old).replies ++ reply ∷ [] → (record_at script rules schedule new).replies ≡ (record_at script rules schedule old).replies ++ reply ∷ []
  line-replies schedule old new n act reply at push h = ap (λ (r : Run). r.replies) (one-more schedule old new n act at push) ∙ h

  -- One line more was taken, and its reply noted.
  module _ (schedule : List Line) (old new : Network) (taken more : List ℕ) (replies told : List Reply) (spent : Bool) (n : ℕ) (act : Act) (reply : Reply) where
    pub world-more : IsWorld script rules schedule old taken replies spent → spent ≡ false → act_at schedule n ≡ Some act → more ≡ taken ++ n ∷ [] → told ≡ replies ++ reply ∷ [] → length new.tasks.items ≡ length old.tasks.items
        → Stands script rules new (performed script rules (record_at script rules schedule taken) act)
        → (performed script rules (record_at script rules schedule taken) act).replies ≡ (record_at script rules schedule taken).replies ++ reply ∷ []
        → IsWorld script rules schedule new more told false
    world-more w free at push tell count h answer = record {
      script_performed = w.script_performed;
      rules_valid = w.rules_valid;
      schedule_valid = w.schedule_valid;
      task_count = count ∙ w.task_count;
      stands = λ _. line-stands schedule taken more n act new at push h;
      answers = λ _. tell ∙ ap (λ (rs : List Reply). rs ++ reply ∷ []) (w.answers free) ∙ sym (line-replies schedule taken more n act reply at push answer);
    }

  pub first-stands : (schedule : List Line) (network : Network) (taken : List ℕ) → taken ≡ [] → Stands script rules network start → Stands script rules network (record_at script rules schedule taken)
  first-stands schedule network taken e h = subst (Stands script rules network) (sym (ap (record_at script rules schedule) e ∙ record-first script rules schedule)) h

  pub first-replies : (schedule : List Line) (taken : List ℕ) → taken ≡ [] → [] ≡ (record_at script rules schedule taken).replies
  first-replies schedule taken e = sym (ap (λ (r : Run). r.replies) (ap (record_at script rules schedule) e ∙ record-first script rules schedule))

  -- What its test for quiet answers says what quiet means;
  pub is-quiet : HoldsOfRuns QuietIsTested → (schedule : List Line) (network : Network) (taken : List ℕ) (replies : List Reply) (spent answer : Bool) → IsWorld script rules schedule network taken replies spent → answer ≡ is_quiet script rules (record_at script rules schedule taken) → IsTrue answer ↔ Quiet script rules (record_at script rules schedule taken)
  unfolding record_of
  is-quiet law schedule network taken replies spent answer w told =
      subst (λ (b : Bool). IsTrue b ↔ Quiet script rules (record_at script rules schedule taken)) (sym told)
      (law script rules spells_packet packet_size refusal (acts_of schedule taken) (acts-valid script schedule taken w.schedule_valid))

  -- and where it answers yes, all is final.
  pub is-settled : HoldsOfRuns QuietIsTested → HoldsOfRuns QuietIsFinal → HoldsOfRuns QuietStays → (schedule : List Line) (network : Network) (taken : List ℕ) (replies : List Reply) (spent answer : Bool) → IsWorld script rules schedule network taken replies spent → answer ≡ is_quiet script rules (record_at script rules schedule taken) → IsTrue answer → IsSettled script rules (record_at script rules schedule taken)
  unfolding record_of
  is-settled tested final stays schedule network taken replies spent answer w told test =
      let valid = acts-valid script schedule taken w.schedule_valid in
      let quiet = (is-quiet tested schedule network taken replies spent answer w told).0 test in
      record {
        final = final script rules spells_packet packet_size refusal (acts_of schedule taken) valid quiet;
        stays = λ more ok none. stays script rules spells_packet packet_size refusal (acts_of schedule taken) valid quiet spells_packet packet_size refusal more ok none;
      }

  -- Its journal is atomic.
  pub world-atomic : HoldsOfRuns (λ script rules r. AtomicInTime script rules (reverse r.journal)) → (schedule : List Line) (network : Network) (taken : List ℕ) (replies : List Reply) (spent : Bool) (journal : List Event) → IsWorld script rules schedule network taken replies spent → spent ≡ false → journal ≡ network.journal → AtomicInTime script rules journal
  unfolding record_of
  world-atomic law schedule network taken replies spent journal w free told =
      subst (AtomicInTime script rules) (sym (told ∙ (w.stands free).journal))
      (law script rules spells_packet packet_size refusal (acts_of schedule taken) (acts-valid script schedule taken w.schedule_valid))
