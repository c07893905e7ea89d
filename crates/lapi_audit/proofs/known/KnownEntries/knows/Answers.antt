use Rattle.std.proofs.Common.{sym, ap, ◌∙◌}
use Rattle.lapi_base.specs.Record.Names.{Passed}
use Rattle.lapi_base.specs.Record.Refusals.{option_any}
use Rattle.lapi_audit.specs.Noted.{stood}
use Rattle.lapi_audit.specs.declared.operation.Operation.{Operation}
use Rattle.lapi_audit.proofs.known.KnownEntries.knows.Goals as goal

pub returns-in-Some : goal.returns-in-Some
unfolding stood
returns-in-Some c =
    ap (λ (o : Operation). o.passed) c.get.ensures
    ∙ ap (option_any (λ i. stood c.args.self.now.seen.table.now (Passed c.args.self.now.task i))) (sym c.in-Some.is ∙ c.table_round.ensures.round)
