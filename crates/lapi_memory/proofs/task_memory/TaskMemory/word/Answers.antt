use Rattle.std.proofs.Common.{rules, ◌≡◌, ◌∙◌, sym, ap}
use Rattle.std.specs.Int.{w32, from_be_bytes}
use Rattle.lapi_base.specs.Record.Handlers.{number_of}
use Rattle.lapi_memory.specs.TaskMemory.{bytes_at}
use Rattle.lapi_memory.proofs.Words.{word_at}
use Rattle.lapi_memory.proofs.task_memory.TaskMemory.word.Goals as goal

pub returns-clause-word : goal.returns-clause-word
returns-clause-word c =
    let spelled : c.from_be_bytes.result ≡ from_be_bytes w32 (bytes_at c.args.self.now c.args.at 4) = search rules in
    spelled ∙ word_at c.args.self.now c.args.at c.requires

pub returns-clause-source : goal.returns-clause-source
returns-clause-source c = λ memories t same.
    returns-clause-word c ∙ sym (ap number_of c.read-bytes.ensures.bytes) ∙ ap number_of (c.read-bytes.ensures.source memories t same)
