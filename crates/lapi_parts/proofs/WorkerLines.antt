-- Lines that begin and end jobs: the workers that they name, and what these run before and after.
use Rattle.std.proofs.Common.{◌≡◌, ℕ, ◌<◌, ◌≤◌, ◌==◌, ◌&&◌, List, [], ◌∷◌, ◌++◌, length, Option, Some, None, is_some, refl, ap, ◌∙◌, subst, arith}
use Rattle.std.specs.Prelude.{slice_get, option_map}
use Rattle.std.proofs.lemmas.Bool.{and_from, cond-true, cond_both, eq-eqb}
use Rattle.lapi_base.specs.declared.message.MsgName.{MsgName}
use Rattle.lapi_base.specs.declared.message.Leg.TheVariants.{Note, Echo}
use Rattle.lapi_base.specs.declared.event.Event.{Event}
use Rattle.lapi_base.specs.declared.event.Event.TheVariants.{Copy, End}
use Rattle.lapi_base.specs.declared.reply.Reply.{Reply}
use Rattle.lapi_base.specs.declared.reply.Reply.TheVariants.{Did}
use Rattle.lapi_base.specs.declared.rule.Rules.{Rules}
use Rattle.lapi_base.specs.declared.schedule.Act.{Act}
use Rattle.lapi_base.specs.declared.schedule.Act.TheVariants as acts
use Rattle.lapi_base.specs.declared.schedule.Line.{Line}
use Rattle.lapi_base.specs.declared.script.Script.{Script}
use Rattle.lapi_base.specs.Packet.Spelling.{spells_packet}
use Rattle.lapi_base.specs.Record.Acts.{perform, begin_first, begin_at, begin, end_at, end, followed, note_of, after_end}
use Rattle.lapi_base.specs.Record.Handlers.{answers}
use Rattle.lapi_base.specs.Record.Jobs.{queue, runs}
use Rattle.lapi_base.specs.Record.Names.{message}
use Rattle.lapi_base.specs.Record.Operations.{statement, cmpl_counter}
use Rattle.lapi_base.specs.Record.Valid.{ValidAct, ValidLine, ValidScript, ValidSchedule}
use Rattle.lapi_base.specs.Record.Wires.{Run}
use Rattle.lapi_base.specs.Record.WorldView.{WorldView, act_at, performed, record_at, view_record}
use Rattle.lapi_base.proofs.ListLaws.{all-get, get-none}
use Rattle.lapi_parts.proofs.LinesTaken.{record-first}

-- The act of a line is valid, and names a worker that there may be.
line-of : (o : Option Line) (act : Act) → option_map (λ (line : Line). line.act) o ≡ Some act → (line : Line) × (o ≡ Some line) × (line.act ≡ act)
line-of None act e = absurd (cc)
line-of (Some line) act e = (line, refl, (let q : line.act ≡ act = cc in q))

some-line : (o : Option Line) → (o ≡ None → ⊥) → (act : Act) × (option_map (λ (line : Line). line.act) o ≡ Some act)
some-line None there = absurd (there refl)
some-line (Some line) there = (line.act, refl)

pub act_known : (schedule : List Line) (n : ℕ) → n < length schedule → (act : Act) × (act_at schedule n ≡ Some act)
act_known schedule n known = some-line (slice_get schedule n) (λ none. let past : length schedule ≤ n = get-none schedule n none in omega (arith, known, past))

act-valid : (w : WorldView) (n : ℕ) (act : Act) → ValidSchedule w.script spells_packet w.schedule → act_at w.schedule n ≡ Some act → ValidAct w.script spells_packet act
act-valid w n act valid at =
    let line = line-of (slice_get w.schedule n) act at in
    subst (ValidAct w.script spells_packet) line.2 (all-get (ValidLine w.script spells_packet) w.schedule n line.0 valid.lines line.1).1

few : (script : Script) (t v : ℕ) → ValidScript script → (t < script.tasks) × (v < script.workers) → (t < 8) × (v < 4)
few script t v valid at =
    let tasks : script.tasks ≤ 8 = valid.tasks.1 in
    let workers : script.workers ≤ 4 = valid.workers.1 in
    let t-known : t < script.tasks = at.0 in
    let v-known : v < script.workers = at.1 in
    (omega arith, omega arith)

pub begin_place : (w : WorldView) (n t v : ℕ) → ValidScript w.script × ValidSchedule w.script spells_packet w.schedule → act_at w.schedule n ≡ Some (acts.Begin t v) → (t < 8) × (v < 4)
begin_place w n t v valid at = few w.script t v valid.0 (act-valid w n (acts.Begin t v) valid.1 at)

pub end_place : (w : WorldView) (n t v : ℕ) → ValidScript w.script × ValidSchedule w.script spells_packet w.schedule → act_at w.schedule n ≡ Some (acts.End t v) → (t < 8) × (v < 4)
end_place w n t v valid at = few w.script t v valid.0 (act-valid w n (acts.End t v) valid.1 at)

-- before the first line nothing runs
pub none-runs : (w : WorldView) (t v : ℕ) → w.taken ≡ [] → runs (view_record w).journal t v ≡ None
unfolding runs
none-runs w t v first = ap (λ (numbers : List ℕ). runs (record_at w.script w.rules w.schedule numbers).journal t v) first ∙ ap (λ (r : Run). runs r.journal t v) (record-first w.script w.rules w.schedule)

module _ (script : Script) (rules : Rules) where
  -- After an End the worker runs nothing.
  freed-with : (J : List Event) (m : MsgName) (t v : ℕ) (es : List Event) → ((K : List Event) → runs K t v ≡ None → runs (followed K es) t v ≡ None) → runs (followed J (End m t v ∷ es)) t v ≡ None
  unfolding followed runs
  freed-with J m t v es later = later (End m t v ∷ J) (cond-true (t == t && v == v) None (runs J t v) (and_from (t == t) (v == v) (eq-eqb t t refl) (eq-eqb v v refl)))

  one-copy : (m : MsgName) (t v : ℕ) (K : List Event) → runs K t v ≡ None → runs (followed K (Copy m ∷ [])) t v ≡ None
  unfolding followed runs
  one-copy m t v K h = h

  no-copy : (t v : ℕ) (K : List Event) → runs K t v ≡ None → runs (followed K []) t v ≡ None
  unfolding followed
  no-copy t v K h = h

  copies : (m : MsgName) (t v : ℕ) (K : List Event) → runs K t v ≡ None → runs (followed K (after_end script rules m)) t v ≡ None
  copies m t v K h =
      cond_both (answers script rules m.origin m.statement) (Copy (message m.origin m.statement Echo) ∷ []) (note_of script rules m) (λ es. runs (followed K es) t v ≡ None)
      (λ _. one-copy (message m.origin m.statement Echo) t v K h)
      (λ _. cond_both (is_some (cmpl_counter (statement script m.origin m.statement))) (Copy (message m.origin m.statement Note) ∷ []) [] (λ es. runs (followed K es) t v ≡ None)
      (λ _. one-copy (message m.origin m.statement Note) t v K h)
      (λ _. no-copy t v K h))

  pub freed : (r : Run) (t v : ℕ) → runs (performed script rules r (acts.End t v)).journal t v ≡ None
  unfolding performed perform end
  freed r t v =
      elim (runs r.journal t v) as (λ o. runs r.journal t v ≡ o → runs (end_at script rules r t v o).journal t v ≡ None) [
        | None ↦ λ e. e
        | Some m ↦ λ e. freed-with r.journal m t v (after_end script rules m) (copies m t v)
      ] refl

  -- A Begin that gives no job adds no event.
  last-same : (xs : List Reply) (a b : Reply) → xs ++ a ∷ [] ≡ xs ++ b ∷ [] → a ≡ b
  last-same [] a b e = cc
  last-same (x ∷ xs) a b e = last-same xs a b (let q : xs ++ a ∷ [] ≡ xs ++ b ∷ [] = cc in q)

  pub no-event : (r : Run) (t v : ℕ) (told : Reply) → (Did ≡ told → ⊥) → (performed script rules r (acts.Begin t v)).replies ≡ r.replies ++ told ∷ [] → (performed script rules r (acts.Begin t v)).journal ≡ r.journal
  unfolding performed perform begin
  no-event r t v told differs is =
      elim (runs r.journal t v) as (λ o. (begin_at script rules r t v o).replies ≡ r.replies ++ told ∷ [] → (begin_at script rules r t v o).journal ≡ r.journal) [
        | Some m ↦ λ e. refl
        | None ↦ elim (queue script rules r.journal t) as (λ ms. (begin_first script rules r t v ms).replies ≡ r.replies ++ told ∷ [] → (begin_first script rules r t v ms).journal ≡ r.journal) [
          | [] ↦ λ e. refl
          | m ∷ ms ↦ λ e. absurd (differs (last-same r.replies Did told e))
        ]
      ] is
