use Rattle.std.proofs.Common.{subst, sym, ◌∙◌}
use Rattle.lapi_base.specs.Packet.Spelling.{spells_packet}
use Rattle.lapi_base.specs.Record.Valid.{ValidSchedule, ValidScript}
use Rattle.lapi_handlers.specs.Handlers.{rules_of}
use Rattle.lapi_tool.proofs.PlanMemories.{plan-left}
use Rattle.lapi_tool.proofs.array.write_plan.Goals as goal

pub performed-requires-clause-script : goal.performed-requires-clause-script
performed-requires-clause-script g c =
    subst ValidScript (sym c.in_ok-input.ensures.script) (c.scripts_are_valid.ensures.valid c.args.plan.now c.requires)

pub performed-requires-clause-schedule : goal.performed-requires-clause-schedule
performed-requires-clause-schedule g c =
    subst (λ script. ValidSchedule script spells_packet c.in_ok-input.input.schedule) (sym c.in_ok-input.ensures.script) c.in_ok-input.ensures.valid

pub write_array-requires-clause-memories : goal.write_array-requires-clause-memories
write_array-requires-clause-memories g c =
    plan-left c.args.plan.now (rules_of c.args.handlers.now) c.in_ok-input.input c.requires c.in_ok-input.ensures.script c.in_ok-input.ensures.valid c.in_ok-input.ensures.ends c.runs_are_left.ensures c.lines_are_taken.ensures.whole c.in_ok-world.world c.in_ok-world.ensures _ (c.as_slice.ensures.value ∙ c.in_ok-memories.ensures)

pub returns : goal.returns
returns g c = record {
  text = c.write_array.ensures.text;
  cause = record { later = c.write_array.ensures.later; failed = c.write_array.ensures.failed };
  room = c.write_array.ensures.room;
}
