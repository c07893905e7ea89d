use Rattle.std.proofs.Common.{rules, refl, inl, inr}
use Rattle.lapi_io.proofs.mem_sink.MemSinkSink.write.Goals.{then-contains, else-contains+then-is_full, else-contains+else-is_full}
use Rattle.lapi_io.proofs.mem_sink.MemSinkSink.write.Goals as goal

pub returns-then-fails-clause-failed : goal.returns-then-fails-clause-failed
returns-then-fails-clause-failed c = (
  λ _. elim c.if-contains.branch [ then-contains w ↦ inl (search rules) | else-contains+then-is_full w ↦ inr (search rules) | else-contains+else-is_full w ↦ absurd (search rules) ],
  λ _. refl,
)
