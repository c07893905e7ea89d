use Rattle.std.proofs.Common.{take}
use Rattle.lapi_task.proofs.Acknowledging.TimesLaws.{HasTaken}
use Rattle.lapi_task.proofs.unfinished.Unfinished.acknowledged.Given as goal

-- those before this place were taken
abbrev pub invariant-loop-i : goal.invariant-loop-i
invariant-loop-i l = HasTaken l.fn.self l.self (take l.i l.named)
