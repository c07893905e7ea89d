use Rattle.std.proofs.Common.{subst}
use Rattle.lapi_report.specs.SinkWrites.{WritesWithMemory}
use Rattle.lapi_tool.proofs.WorldTexts.{world_summary}
use Rattle.lapi_handlers.specs.Handlers.{rules_of}
use Rattle.lapi_tool.proofs.generated.write_performed.Goals as goal

pub returns : goal.returns
returns g c =
    subst (λ text. WritesWithMemory g.K.Sink.held g.K.Sink.faults g.K.Sink.room c.args.sink.now c.write_taken.new.sink text c.write_taken.result)
    (world_summary c.args.number (rules_of c.args.handlers.now) c.args.input c.in_ok-world.world c.in_ok-world.ensures c.lines_are_taken.ensures.whole)
    c.write_taken.ensures
