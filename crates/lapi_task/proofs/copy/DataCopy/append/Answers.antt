use Rattle.std.proofs.Common.{ℕ, List, ap, ◌∙◌, subst, sym}
use Rattle.std.specs.List.{flat_map}
use Rattle.lapi_base.specs.declared.span.Span.{Span}
use Rattle.lapi_memory.specs.TaskMemory.{bytes_at}
use Rattle.lapi_vector.specs.Pieces.{Side}
use Rattle.lapi_task.specs.Outgoing.{AreSpelled}
use Rattle.lapi_task.proofs.Copying.CopyParts.{one-piece}
use Rattle.lapi_task.proofs.copy.DataCopy.append.Goals as goal

pub append_message-requires-clause-spelled : goal.append_message-requires-clause-spelled
append_message-requires-clause-spelled c =
    let all = one-piece c.args.memory.now c.as_slice.result.now c.args.self.source c.read.result.now c.as_slice.ensures.items c.in-len1.len_at_least c.in-len1.len_below c.read.ensures.bytes in
    subst (λ (bytes : List ℕ). AreSpelled c.args.unit c.args.self.message bytes) (sym all) c.requires.spelled

pub append_message-requires-2-clause-spelled : goal.append_message-requires-2-clause-spelled
append_message-requires-2-clause-spelled c =
    let all = c.as_slice-2.ensures ∙ c.in_ok-bytes.ensures.pieces ∙ ap (λ (side : Side). flat_map (λ (p : Span). bytes_at c.args.memory.now p.at p.len) side.spans) c.list.ensures.side in
    subst (λ (bytes : List ℕ). AreSpelled c.args.unit c.args.self.message bytes) (sym all) c.requires.spelled
