use Rattle.std.proofs.Common.{sym, subst}
use Rattle.lapi_base.specs.declared.script.Script.{Script}
use Rattle.lapi_base.specs.Packet.Spelling.{spells_packet}
use Rattle.lapi_base.specs.Record.Valid.{ValidScript, ValidSchedule}
use Rattle.lapi_gen.specs.Scripts.{script_of}
use Rattle.lapi_gen.proofs.ScriptLimits.{valid_script}
use Rattle.lapi_gen.proofs.ScheduleLimits.{valid_schedule}
use Rattle.lapi_gen.proofs.generating.generate.Goals as goal

pub returns-clause-valid : goal.returns-clause-valid
returns-clause-valid c =
    let n = c.in_ok-draws.draws in (
      subst ValidScript (sym c.in_ok-script.ensures) (valid_script n),
      subst (λ (s : Script). ValidSchedule s spells_packet c.in_ok-schedule.field-0) (sym c.in_ok-script.ensures)
          (subst (ValidSchedule (script_of n) spells_packet) (sym c.in_ok-schedule.ensures) (valid_schedule n)),
    )
