use Rattle.std.proofs.Common.{◌≡◌, map}
use Rattle.lapi_base.specs.Record.Operations.{numbers_below}
use Rattle.lapi_gen.specs.Batches.{batch_of, first_draw}
use Rattle.lapi_gen.proofs.draws.batches.Given as goal

abbrev pub invariant-loop-b : goal.invariant-loop-b
invariant-loop-b l = record {
  batches : l.batches.items ≡ map (batch_of l.fn.random.number) (numbers_below l.b);
  drawn : l.random ≡ record { number = l.fn.random.number; drawn = first_draw l.b };
}
