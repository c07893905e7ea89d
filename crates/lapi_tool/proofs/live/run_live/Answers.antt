use Rattle.std.proofs.Common.{true}
use Rattle.lapi_tool.proofs.RanLanes.{live_reported}
use Rattle.lapi_handlers.specs.Handlers.{rules_of}
use Rattle.lapi_tool.proofs.live.run_live.Goals as goal

pub returns-clause-headline : goal.returns-clause-headline
returns-clause-headline g c = λ ok.
    live_reported c.text_laws.ensures.found c.journal_is_atomic.ensures.in_time c.lines_are_taken.ensures.valid (rules_of c.args.handlers.now) _ _ _ _ true c.read_and_run.result c.read_and_run.ensures.answer ok
