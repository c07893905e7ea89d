use Rattle.std.proofs.Common.{◌≡◌, replicate, None}
use Rattle.lapi_world.proofs.finished_jobs.FinishedJobs.new.Given as goal

abbrev pub invariant-loop-place : goal.invariant-loop-place
invariant-loop-place l = l.places.items ≡ replicate l._place None
