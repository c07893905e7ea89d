use Rattle.lapi_flush.proofs.CountedFlushes.{flushes-counted}
use Rattle.lapi_flush.proofs.FlushedTasks.{flushes-flushed}
use Rattle.lapi_flush.proofs.served.flushes_are_flushed.Goals as goal

pub returns-clause-flushed : goal.returns-clause-flushed
returns-clause-flushed c = flushes-flushed

pub returns-clause-counted : goal.returns-clause-counted
returns-clause-counted c = flushes-counted
