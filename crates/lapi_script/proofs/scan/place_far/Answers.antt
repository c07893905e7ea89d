use Rattle.std.proofs.Common.{arith, sym, ◌∙◌}
use Rattle.std.specs.Prelude.{◌==◌}
use Rattle.lapi_script.proofs.Blocks.{from_start, next_block}
use Rattle.lapi_script.proofs.scan.place_far.Goals as goal

pub loop-rest-init : goal.loop-rest-init
loop-rest-init c = record { place = from_start _; whole = omega arith }

pub loop-rest-preserved : goal.loop-rest-preserved
loop-rest-preserved c =
    let none = rw c.split_at.ensures.front at (sym c.contains.ensures ∙ c.if-contains.false) in
    record {
      place = rw c.split_at.ensures.back (next_block (λ b. b == c.args.byte) c.loop-rest.count 32 c.loop-rest.rest.now _ c.loop-rest-test.true none c.loop-rest.invariant.place);
      whole = omega (arith, c.split_at.ensures.back_len, c.loop-rest.invariant.whole);
    }
