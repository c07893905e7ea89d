use Rattle.std.proofs.Common.{rules, ◌≡◌, length, ◌∙◌, ap}
use Rattle.std.proofs.lemmas.List.{take_at}
use Rattle.lapi_memory.specs.TaskMemory.{written}
use Rattle.lapi_base.proofs.MemoryLaws.{byte_written}
use Rattle.lapi_memory.proofs.task_memory.TaskMemory.write.Goals as goal

pub returns-clause-byte : goal.returns-clause-byte
returns-clause-byte c =
    let n = c.overwrite.new.bytes in
    let whole : length n ≡ c.self.inside.bytes.len = search rules in
    let now : c.deref_mut.result.now ≡ c.args.self.now = search rules in
    byte_written _ c.args.self.now c.args.at c.args.bytes.now (take_at n _ c.self.inside.bytes.len whole ∙ c.overwrite.ensures ∙ ap (λ m. written m c.args.at c.args.bytes.now) now) c.requires
