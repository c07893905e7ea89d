use Rattle.std.proofs.Common.{◌≡◌, map}
use Rattle.lapi_base.specs.Record.Operations.{numbers_below}
use Rattle.lapi_gen.specs.declared.form.TheConstants.{BYTE}
use Rattle.lapi_gen.specs.Draws.{pick}
use Rattle.lapi_gen.proofs.draws.bytes.Given as goal

abbrev pub invariant-loop-i : goal.invariant-loop-i
invariant-loop-i l = record {
  bytes : l.bytes.items ≡ map (λ i. pick l.fn.random.number i BYTE) (numbers_below l._i);
  drawn : l.random ≡ record { number = l.fn.random.number; drawn = l._i };
}
