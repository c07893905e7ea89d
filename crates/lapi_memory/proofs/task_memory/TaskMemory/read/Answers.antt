use Rattle.std.proofs.Common.{rules, ◌≡◌}
use Rattle.lapi_memory.specs.TaskMemory.{bytes_at}
use Rattle.lapi_memory.proofs.Places.{gathered_piece}
use Rattle.lapi_memory.proofs.task_memory.TaskMemory.read.Goals as goal

pub returns-clause-source : goal.returns-clause-source
returns-clause-source c =
    let read : c.split_at-2.result.0.now ≡ bytes_at c.args.self.now c.args.span.now.at c.args.span.now.len = search rules in
    gathered_piece c.split_at-2.result.0.now c.args.self.now c.args.span.now read c.requires
