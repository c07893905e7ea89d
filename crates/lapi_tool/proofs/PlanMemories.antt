-- A world that has taken all lines of a plan holds what the plan's text is made of.
use Rattle.std.proofs.Common.{◌≡◌, ℕ, ◌+◌, List, false, map, length, refl, sym, ap, subst, ◌∙◌, ◌++◌, ◌∷◌, []}
use Rattle.std.proofs.lemmas.List.{map-append}
use Rattle.lapi_base.specs.declared.rule.Rules.{Rules}
use Rattle.lapi_base.specs.declared.script.Script.{Script}
use Rattle.lapi_base.specs.declared.schedule.Act.{Act}
use Rattle.lapi_base.specs.declared.schedule.Line.{Line}
use Rattle.lapi_base.specs.declared.input.Input.{Input}
use Rattle.lapi_base.specs.Laws.LinesTaken.{TakesAll}
use Rattle.lapi_base.specs.Packet.Spelling.{spells_packet}
use Rattle.lapi_base.specs.Record.Operations.{numbers_below}
use Rattle.lapi_base.specs.Record.Valid.{ValidAct, ValidLine, ValidSchedule}
use Rattle.lapi_base.specs.Record.Values.{memory_bytes}
use Rattle.lapi_base.specs.Record.Wires.{Run}
use Rattle.lapi_base.specs.Record.WorldView.{WorldView, view_record, record_of_all}
use Rattle.lapi_base.proofs.ListLaws.{all-map}
use Rattle.lapi_base.proofs.UptoLaws.{numbers_below-more, numbers_below-none}
use Rattle.lapi_blocks.specs.declared.plan.Plan.{Plan}
use Rattle.lapi_blocks.specs.Plans.{ValidPlan, compiled, tasks_of}
use Rattle.lapi_array.specs.ArrayText.{AreLeft, RunsAreLeft, memories_in}
use Rattle.lapi_array.specs.PlanEnds.{EndsPlan}

abbrev memories_at : Script → Rules → Run → List (List ℕ)
memories_at script rules r = map (memory_bytes script rules r.journal) (numbers_below script.tasks)

abbrev pub memories_of : WorldView → List (List ℕ)
memories_of w = memories_at w.script w.rules (view_record w)

abbrev all_taken : Rules → Input → WorldView
all_taken rules x = record { script = x.script; rules = rules; schedule = x.schedule; taken = numbers_below (length x.schedule); spent = false }

module _ (plan : Plan) (rules : Rules) (x : Input) where
  all_held : x.script ≡ compiled plan → TakesAll → memories_of (all_taken rules x) ≡ memories_in plan rules (record_of_all (compiled plan) rules x.schedule)
  all_held same whole =
      ap (memories_at x.script rules) (whole x.script rules x.schedule)
      ∙ ap (λ (script : Script). memories_at script rules (record_of_all script rules x.schedule)) same

  pub plan-left : ValidPlan plan → x.script ≡ compiled plan → ValidSchedule (compiled plan) spells_packet x.schedule → EndsPlan plan x.schedule → RunsAreLeft → TakesAll
      → (w : WorldView) → w ≡ all_taken rules x → (memories : List (List ℕ)) → memories ≡ memories_of w → AreLeft plan memories
  plan-left valid same lines ends left whole w all memories held =
      let acts = map (λ (line : Line). line.act) x.schedule in
      let acts_valid = all-map (ValidLine (compiled plan) spells_packet) (ValidAct (compiled plan) spells_packet) (λ (line : Line). line.act) x.schedule lines.lines (λ line h. h.1) in
      let run = record_of_all (compiled plan) rules x.schedule in
      let is = left plan valid rules run (acts, acts_valid, refl) (ends rules).0 in
      subst (λ ms. AreLeft plan ms) (sym (held ∙ ap memories_of all ∙ all_held same whole)) is

-- One memory after another is copied.
pub none_copied : (memory : ℕ → List ℕ) (made : List (List ℕ)) → made ≡ [] → made ≡ map memory (numbers_below 0)
none_copied memory made none = none ∙ sym (ap (map memory) numbers_below-none)

pub one_copied : (memory : ℕ → List ℕ) (t : ℕ) (old new : List (List ℕ)) (copy : List ℕ)
    → old ≡ map memory (numbers_below t) → copy ≡ memory t → new ≡ old ++ copy ∷ [] → new ≡ map memory (numbers_below (t + 1))
one_copied memory t old new copy before same added =
    added
    ∙ ap (λ (ms : List (List ℕ)). ms ++ copy ∷ []) before
    ∙ ap (λ (m : List ℕ). map memory (numbers_below t) ++ m ∷ []) same
    ∙ sym (ap (map memory) (numbers_below-more t) ∙ map-append memory (numbers_below t) (t ∷ []))
