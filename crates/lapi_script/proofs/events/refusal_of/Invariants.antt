use Rattle.std.proofs.Common.{◌≡◌, drop}
use Rattle.lapi_base.specs.Input.AuditForms.{refusals, refusal_among}
use Rattle.lapi_script.proofs.events.refusal_of.Given as goal

abbrev pub invariant-loop-why : goal.invariant-loop-why
invariant-loop-why l = refusal_among (drop l.why-index refusals) l.number l.name ≡ refusal_among refusals l.number l.name
