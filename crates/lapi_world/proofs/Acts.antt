-- What is network, after an act.
use Rattle.std.proofs.Common.{◌≡◌, ℕ, ◌+◌, ◌*◌, ◌<◌, ◌==◌, true, false, List, [], ◌∷◌, ◌++◌, length, map, reverse, get_or, set, Option, Some, None, refl, sym, ap, ◌∙◌, subst, ⊎_elim, arith}
use Rattle.std.specs.Prelude.{slice_get}
use Rattle.std.specs.List.{AllByRecursion}
use Rattle.std.proofs.lemmas.Bool.{cases_eq, ne_eqb, false≢true}
use Rattle.std.proofs.lemmas.List.{append-nil, length-set}
use Rattle.lapi_base.specs.declared.script.Script.{Script}
use Rattle.lapi_base.specs.declared.rule.Rules.{Rules}
use Rattle.lapi_base.specs.declared.event.Event.{Event}
use Rattle.lapi_base.specs.declared.schedule.Act.{Act}
use Rattle.lapi_base.specs.declared.schedule.Act.TheVariants as acts
use Rattle.lapi_base.specs.declared.reply.Reply.{Reply}
use Rattle.lapi_base.specs.declared.reply.Reply.TheVariants.{Did}
use Rattle.lapi_base.specs.declared.wire.WireEntry.{WireEntry}
use Rattle.lapi_base.specs.Record.Wires.{Run}
use Rattle.lapi_base.specs.Record.Acts.{perform, step, poll, tick, deliver}
use Rattle.lapi_base.specs.Record.WorldView.{IsRecord, performed}
use Rattle.lapi_base.specs.Packet.Spelling.{spells_packet}
use Rattle.lapi_base.specs.Record.TaskPart.{actor}
use Rattle.lapi_base.specs.Record.Valid.{ValidAct, ValidScript}
use Rattle.lapi_base.specs.Packet.PacketBytes as written
use Rattle.lapi_base.proofs.ListLaws.{found-at, get-set, get-set-other}
use Rattle.lapi_parts.proofs.OtherTasks.{others-stay}
use Rattle.lapi_parts.proofs.SameParts.{same-part}
use Rattle.lapi_task.specs.declared.outcome.Outcome.{Outcome}
use Rattle.lapi_task.specs.declared.task.Task.{Task}
use Rattle.lapi_task.specs.Apart.{TasksStayApart}
use Rattle.lapi_task.specs.HasEffect.{IsAt, IsAtSome, HasEffect}
use Rattle.lapi_task.specs.StandsFor.{StandsFor}
use Rattle.lapi_world.specs.declared.network.Network.{Network}
use Rattle.lapi_world.specs.Grows.{bytes_at, ArePut, IsAdded}
use Rattle.lapi_world.specs.Jobs.{is_work}
use Rattle.lapi_world.specs.Stands.{TaskAt, TasksStand, WiresStand, Stands, StandsForOne}
use Rattle.lapi_world.proofs.Putting.{reverse-followed, put-length, own-bytes, other-bytes}

module _ (script : Script) (rules : Rules) where
  -- The task at its place.
  found-by : (r : Run) (t : ℕ) (o : Option Task) → TaskAt script rules r t o → (task : Task) × (o ≡ Some task) × StandsFor script rules t task r
  found-by r t None h = absurd h
  found-by r t (Some task) h = (task, refl, h)

  pub task-found : (r : Run) (t : ℕ) (network : Network) → Stands script rules network r → t < script.tasks → (task : Task) × (slice_get network.tasks.items t ≡ Some task) × StandsFor script rules t task r
  task-found r t network h l = found-by r t (slice_get network.tasks.items t) (h.tasks t l)

  -- what is read there stands for the record
  pub task-read : (r : Run) (t : ℕ) (network : Network) (task : Task) → IsRecord script rules r → Stands script rules network r → t < script.tasks → task ≡ get_or network.tasks.items t task → IsAt script rules t task r
  task-read r t network task is h l e = record {
    recorded = is;
    known = l;
    stands = subst (TaskAt script rules r t) (found-at network.tasks.items t task (omega (arith, l, h.task_count)) e) (h.tasks t l);
  }

  pub at-some : (network : Network) (t : ℕ) (task : Task) → StandsForOne script rules network → t < script.tasks → task ≡ get_or network.tasks.items t task → IsAtSome task
  at-some network t task h l e = (script, rules, t, h.0, task-read h.0 t network task h.1 h.2 l e)

  -- What an act of each form does.
  pub performed-step : (r : Run) (t : ℕ) → performed script rules r (acts.Step t) ≡ step script rules r t
  unfolding performed perform
  performed-step r t = refl

  pub performed-poll : (r : Run) (t : ℕ) → performed script rules r (acts.Poll t) ≡ poll script rules r t
  unfolding performed perform
  performed-poll r t = refl

  pub performed-tick : (r : Run) (t : ℕ) → performed script rules r (acts.Tick t) ≡ tick script rules r t
  unfolding performed perform
  performed-tick r t = refl

  pub performed-deliver : (r : Run) (a b k : ℕ) → performed script rules r (acts.Deliver a b k) ≡ deliver script rules r a b k
  unfolding performed perform
  performed-deliver r a b k = refl

  pub poll-replies : (r : Run) (t : ℕ) → (performed script rules r (acts.Poll t)).replies ≡ r.replies ++ Did ∷ []
  unfolding performed perform poll
  poll-replies r t = refl

  pub tick-replies : (r : Run) (t : ℕ) → (performed script rules r (acts.Tick t)).replies ≡ r.replies ++ Did ∷ []
  unfolding performed perform tick
  tick-replies r t = refl

  pub step-replies : (r : Run) (t : ℕ) (reply : Reply) → (step script rules r t).replies ≡ r.replies ++ reply ∷ [] → (performed script rules r (acts.Step t)).replies ≡ r.replies ++ reply ∷ []
  step-replies r t reply h = ap (λ (s : Run). s.replies) (performed-step r t) ∙ h

  -- an act that is no work is none that begins or ends a job
  pub no-work : (act other : Act) → is_work act ≡ false → is_work other ≡ true → act ≡ other → ⊥
  no-work act other plain is same = false≢true (sym plain ∙ ap is_work same ∙ is)

  moved : (r s : Run) (u : ℕ) → ((task : Task) → StandsFor script rules u task r → StandsFor script rules u task s) → (o : Option Task) → TaskAt script rules r u o → TaskAt script rules s u o
  moved r s u f None h = absurd h
  moved r s u f (Some task) h = f task h

  -- A task's outcome was added.
  module _ (apart : TasksStayApart) (perf : ValidScript script) (r : Run) (is : IsRecord script rules r) (act : Act) (valid : ValidAct script spells_packet act) (t : ℕ) (acts-at : actor act ≡ t) (known : t < script.tasks) where
    abbrev after : Run
    after = performed script rules r act

    other-actor : (u : ℕ) → (u ≡ t → ⊥) → (actor act == u) ≡ false
    other-actor u differs = ne_eqb (actor act) u (λ e. differs (sym e ∙ acts-at))

    tasks-after : (old : Network) (task : Task) → Stands script rules old r → StandsFor script rules t task after → TasksStand script rules after (set old.tasks.items t task)
    tasks-after old task h new u l =
        ⊎_elim
        (λ (same : u ≡ t). subst (λ v. TaskAt script rules after v (slice_get (set old.tasks.items t task) v)) (sym same) (let before = task-found r t old h known in subst (TaskAt script rules after t) (sym (get-set old.tasks.items t before.0 task before.1)) new))
        (λ (differs : u ≡ t → ⊥).
        subst (TaskAt script rules after u) (sym (get-set-other old.tasks.items t u task differs))
        (moved r after u (λ x s. apart script rules u x r act (record { recorded = is; known = l; stands = s }) valid (other-actor u differs)) (slice_get old.tasks.items u) (h.tasks u l)))
        (cases_eq u t)

    wires-after : (old new : Network) (task : Task) (blank out : Outcome) → Stands script rules old r → HasEffect script rules t r after task blank out → blank.entries ≡ [] → ArePut script.tasks t out.entries old.wires.items new.wires.items → WiresStand script after new.wires.items
    wires-after old new task blank out h does empty put a b la lb =
        let entries : out.entries ≡ does.entries = does.entries_added ∙ ap (λ (es : List WireEntry). es ++ does.entries) empty in
        let grown = put-length script.tasks t out.entries old.wires.items new.wires.items (a * script.tasks + b) (map written.packet (r.wire a b)) put (h.wires a b la lb) in
        grown ∙ ap (λ (es : List WireEntry). Some (map written.packet (r.wire a b) ++ bytes_at script.tasks t (a * script.tasks + b) es)) entries
        ∙ ap Some (
        ⊎_elim
        (λ (same : a ≡ t).
        subst (λ x. map written.packet (r.wire x b) ++ bytes_at script.tasks t (x * script.tasks + b) does.entries ≡ map written.packet (after.wire x b)) (sym same)
        (ap (λ (bs : List (List ℕ)). map written.packet (r.wire t b) ++ bs) (own-bytes script.tasks t b does.entries) ∙ sym (does.put b lb)))
        (λ (differs : a ≡ t → ⊥).
        ap (λ (bs : List (List ℕ)). map written.packet (r.wire a b) ++ bs) (other-bytes script.tasks t a b does.entries lb differs does.ends)
        ∙ append-nil (map written.packet (r.wire a b))
        ∙ ap (map written.packet) (sym ((same-part script rules a after r (others-stay script rules r is act a (other-actor a differs))).put b)))
        (cases_eq a t))

    stands-after : (old mid new : Network) (task : Task) (blank out : Outcome) → Stands script rules old r → HasEffect script rules t r after task blank out → IsAdded script.tasks t out mid new → (blank.events ≡ []) × (blank.entries ≡ []) → mid.journal ≡ old.journal → mid.wires ≡ old.wires → new.tasks.items ≡ set old.tasks.items t task → Stands script rules new after
    stands-after old mid new task blank out h does added empty journal wires tasks = record {
      journal =
          added.journal
          ∙ ap (λ (es : List Event). mid.journal ++ es) (does.events_added ∙ ap (λ (es : List Event). es ++ does.events) empty.0)
          ∙ ap (λ (J : List Event). J ++ does.events) (journal ∙ h.journal)
          ∙ sym (ap reverse does.journal ∙ reverse-followed r.journal does.events);
      task_count = ap length tasks ∙ length-set old.tasks.items t task ∙ h.task_count;
      wire_count = added.wire_count ∙ ap (λ w. length w.items) wires ∙ h.wire_count;
      tasks = subst (TasksStand script rules after) (sym tasks) (tasks-after old task h does.stands);
      wires = wires-after old new task blank out h does empty.1 (subst (λ w. ArePut script.tasks t out.entries w.items new.wires.items) wires added.wires);
    }

    pub act-stands : (old mid new : Network) (task : Task) (blank out : Outcome) (s : Run) → after ≡ s → Stands script rules old r → HasEffect script rules t r s task blank out → IsAdded script.tasks t out mid new → (blank.events ≡ []) × (blank.entries ≡ []) → mid.journal ≡ old.journal → mid.wires ≡ old.wires → new.tasks.items ≡ set old.tasks.items t task → Stands script rules new after
    act-stands old mid new task blank out s e h does = stands-after old mid new task blank out h (subst (λ q. HasEffect script rules t r q task blank out) (sym e) does)

-- what a task added goes to tasks that there are
pub outcome-ends : (script : Script) (rules : Rules) (t : ℕ) (r s : Run) (task : Task) (blank out : Outcome) → HasEffect script rules t r s task blank out → (blank.events ≡ []) × (blank.entries ≡ []) → AllByRecursion (λ (e : WireEntry). e.to < script.tasks) out.entries
outcome-ends script rules t r s task blank out does empty = subst (AllByRecursion (λ (e : WireEntry). e.to < script.tasks)) (sym (does.entries_added ∙ ap (λ (es : List WireEntry). es ++ does.entries) empty.1)) does.ends
