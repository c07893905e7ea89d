-- A run of a plan's script to its end leaves the memories that the plan's text is of.
use Rattle.std.proofs.Common.{refl}
use Rattle.lapi_parts.proofs.Records.{record-sound}
use Rattle.lapi_blocks.specs.Plans.{compiled}
use Rattle.lapi_array.specs.ArrayText.{RunsAreLeft}

pub runs_left : RunsAreLeft
runs_left plan valid rules r is past = record {
  rules = rules;
  journal = r.journal;
  atomic = (record-sound (compiled plan) rules r is).atomic;
  past = past;
  all = refl;
}
