use Rattle.lapi_script.proofs.AuditOnward.{audit_gives_found, audit_gives_only, audit_gives_first}
use Rattle.lapi_script.proofs.audit.read_audit.Goals as goal

pub returns-clause-found : goal.returns-clause-found
returns-clause-found c = audit_gives_found c.args.bytes.now c.read_lines.result (c.audit_text_laws.ensures.found c.args.bytes.now) c.read_lines.ensures

pub returns-clause-only : goal.returns-clause-only
returns-clause-only c x few reads = audit_gives_only x c.args.bytes.now c.read_lines.result (c.audit_text_laws.ensures.only c.args.bytes.now x few reads) c.read_lines.ensures

pub returns-clause-first : goal.returns-clause-first
returns-clause-first c few = audit_gives_first c.args.bytes.now c.read_lines.result (λ why l. c.audit_text_laws.ensures.first c.args.bytes.now why l few) c.read_lines.ensures
