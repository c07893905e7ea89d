use Rattle.std.proofs.Common.{◌≡◌, map, take}
use Rattle.lapi_handlers.proofs.handlers.Handlers.header_rules.Given as goal

abbrev pub invariant-loop-handler : goal.invariant-loop-handler
invariant-loop-handler g l = l.rules ≡ map (λ f. f.rule) (take l.handler-index l.self.headers.items)
