use Rattle.lapi_text.proofs.AuditCanon.{audit_canon}
use Rattle.lapi_text.proofs.AuditWhole.{audit_found, audit_only, audit_first, audit_long}
use Rattle.lapi_text.proofs.audits.audit_text_laws.Goals as goal

pub returns-clause-found : goal.returns-clause-found
returns-clause-found c = λ bytes x e. audit_found bytes x e

pub returns-clause-only : goal.returns-clause-only
returns-clause-only c = λ bytes x few r. audit_only bytes x few r

pub returns-clause-first : goal.returns-clause-first
returns-clause-first c = λ bytes why l few e. audit_first bytes why l few e

pub returns-clause-long : goal.returns-clause-long
returns-clause-long c = λ bytes many. audit_long bytes many

pub returns-clause-written : goal.returns-clause-written
returns-clause-written c = λ script rules events valid few there. audit_canon script rules valid events few there
