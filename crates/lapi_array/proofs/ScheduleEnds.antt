-- The schedule of a plan keeps what is known of its lines.
use Rattle.std.proofs.Common.{◌≡◌, ◌*◌, ◌≤◌, List, [], ◌∷◌, length, map, sym, ap, ◌∙◌, subst, arith}
use Rattle.std.specs.List.{AllByRecursion}
use Rattle.std.proofs.lemmas.List.{length-map}
use Rattle.lapi_base.specs.declared.rule.Rules.{Rules}
use Rattle.lapi_base.specs.declared.schedule.Line.{Line}
use Rattle.lapi_base.specs.Packet.Spelling.{spells_packet}
use Rattle.lapi_base.specs.Record.Valid.{ValidAct, ValidLine, ValidSchedule}
use Rattle.lapi_base.specs.Record.WorldView.{record_of}
use Rattle.lapi_base.specs.Record.Acts.{run_of}
use Rattle.lapi_base.specs.Packet.Spelling.{refusal}
use Rattle.lapi_base.specs.Packet.PacketBytes.{packet_size}
use Rattle.lapi_blocks.specs.declared.plan.Plan.{Plan}
use Rattle.lapi_blocks.specs.Plans.{ValidPlan, compiled}
use Rattle.lapi_blocks.specs.PlanRuns.{PlansEnd}
use Rattle.lapi_blocks.specs.PlanCounts.{counted_acts}
use Rattle.lapi_blocks.proofs.PlanLines.{plans-run, plans-short, plans-valid}
use Rattle.lapi_blocks.proofs.CountedLines.{plans-counted}
use Rattle.lapi_array.specs.PlanEnds.{EndsPlan}

no_rules : Rules
no_rules = record { headers = []; completions = [] }

module _ (plan : Plan) (valid : ValidPlan plan) (schedule : List Line)
    (acts : map (λ (line : Line). line.act) schedule ≡ counted_acts plan (length plan.ops)) where
  pub schedule_ends : EndsPlan plan schedule
  unfolding record_of
  schedule_ends rules =
      subst (λ lines. PlansEnd plan rules (run_of (compiled plan) rules packet_size refusal lines))
      (plans-counted plan valid rules ∙ sym acts)
      (plans-run plan valid rules)

  pub schedule_few : length schedule ≤ 313 * length plan.ops
  unfolding no_rules
  schedule_few =
      let few = plans-short plan valid no_rules in
      let same = ap length (plans-counted plan valid no_rules ∙ sym acts) ∙ length-map schedule (λ (line : Line). line.act) in
      omega (arith, few, same)

  pub schedule_valid : AllByRecursion (λ (line : Line). line.lane ≡ 0) schedule → ValidSchedule (compiled plan) spells_packet schedule
  unfolding no_rules
  schedule_valid lanes =
      let few = schedule_few in record {
        count = omega (arith, few, valid.count);
        lines =
            each schedule lanes
            (subst (AllByRecursion (ValidAct (compiled plan) spells_packet)) (plans-counted plan valid no_rules ∙ sym acts) (plans-valid plan valid no_rules spells_packet));
      }
    where
      each : (lines : List Line) → AllByRecursion (λ (line : Line). line.lane ≡ 0) lines → AllByRecursion (ValidAct (compiled plan) spells_packet) (map (λ (line : Line). line.act) lines) → AllByRecursion (ValidLine (compiled plan) spells_packet) lines
      each [] h a = tt
      each (line ∷ lines) h a = ((omega (arith, h.0), a.0), each lines h.1 a.1)
