use Rattle.std.proofs.Common.{refl, inl, inr}
use Rattle.lapi_world.proofs.Acts.{no-work}
use Rattle.lapi_handlers.specs.Handlers.{rules_of}
use Rattle.lapi_world.proofs.network.Network.perform.Goals as goal

-- an act that is no work neither begins nor ends a job
pub unreachable-requires : goal.unreachable-requires
unreachable-requires g c =
    elim c.in-Begin.is [
      | inl begin ↦ no-work c.args.script.now (rules_of c.args.handlers.now) _ _ c.requires.plain refl begin.2
      | inr end ↦ no-work c.args.script.now (rules_of c.args.handlers.now) _ _ c.requires.plain refl end.2
    ]
