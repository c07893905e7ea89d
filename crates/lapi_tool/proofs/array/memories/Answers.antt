use Rattle.lapi_base.specs.Record.Values.{memory_bytes}
use Rattle.lapi_base.specs.Record.WorldView.{view_record}
use Rattle.lapi_tool.proofs.PlanMemories.{none_copied, one_copied}
use Rattle.lapi_tool.proofs.array.memories.Goals as goal

pub loop-t-init : goal.loop-t-init
loop-t-init c = none_copied (memory_bytes c.args.world.now.script c.args.world.now.rules (view_record c.args.world.now).journal) _ c.new-memories.ensures.items

pub loop-t-preserved : goal.loop-t-preserved
loop-t-preserved c =
    one_copied (memory_bytes c.args.world.now.script c.args.world.now.rules (view_record c.args.world.now).journal) c.loop-t.t _ _ _ c.loop-t.invariant c.in_ok-memory_of.ensures c.in_ok-push.ensures.items
