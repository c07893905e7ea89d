use Rattle.std.proofs.Common.{◌≡◌, ◌≤◌, ◌+◌, length}
use Rattle.lapi_base.specs.Input.Lines.{lines_of}
use Rattle.lapi_base.specs.Input.Reading.{First}
use Rattle.lapi_base.specs.Input.AuditReading.{read_audit_from, Before}
use Rattle.lapi_script.specs.States.{audit_state_of}
use Rattle.lapi_script.proofs.audit.read_lines.Given as goal

abbrev pub invariant-loop-rest : goal.invariant-loop-rest
invariant-loop-rest l = record {
  reads : read_audit_from l.line (audit_state_of l.state) (lines_of l.rest) ≡ read_audit_from 1 (Before First) (lines_of l.bytes);
  few : l.line + length l.rest ≤ 4194305;
}

abbrev pub decreases-loop-rest : goal.decreases-loop-rest
decreases-loop-rest l = length l.rest
