use Rattle.std.proofs.Common.{◌≡◌, ◌+◌, length}
use Rattle.std.specs.Prelude.{◌==◌, position, option_map}
use Rattle.lapi_script.proofs.scan.place_far.Given as goal

abbrev pub invariant-loop-rest : goal.invariant-loop-rest
invariant-loop-rest l = record {
  place : position (λ b. b == l.byte) l.bytes ≡ option_map (λ i. l.count + i) (position (λ b. b == l.byte) l.rest);
  whole : l.count + length l.rest ≡ length l.bytes;
}

abbrev pub decreases-loop-rest : goal.decreases-loop-rest
decreases-loop-rest l = length l.rest
