use Rattle.std.proofs.Common.{sym, ◌∙◌}
use Rattle.lapi_base.specs.declared.refusal.Refusal.TheVariants.{BadTask}
use Rattle.lapi_base.specs.Input.AuditForms.{refusals}
use Rattle.lapi_script.proofs.RefusalWords.{not_this}
use Rattle.lapi_script.proofs.events.refusal_of.Goals as goal

pub loop-why-preserved : goal.loop-why-preserved
loop-why-preserved c =
    not_this refusals c.loop-why.why-index c.args.number c.args.name.now BadTask _ c.loop-why-test.true (sym c.is_named.ensures ∙ c.if-is_named.false) c.loop-why.invariant
