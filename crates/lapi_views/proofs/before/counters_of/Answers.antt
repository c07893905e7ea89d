use Rattle.std.proofs.Common.{◌<◌, ◌∷◌, [], ◌++◌, ap, ◌∙◌, rules}
use Rattle.lapi_base.specs.Record.Counters.{count}
use Rattle.lapi_base.specs.Record.WorldView.{view_record}
use Rattle.lapi_views.proofs.EachNumber.{nothing_yet, thing_added}
use Rattle.lapi_views.proofs.before.counters_of.Goals as goal

pub loop-c-init : goal.loop-c-init
loop-c-init c = c.new-counters.ensures.items ∙ nothing_yet (count c.args.world.now.script c.args.world.now.rules (view_record c.args.world.now).journal c.args.t)

pub loop-c-preserved : goal.loop-c-preserved
loop-c-preserved c =
    let lt : c.loop-c.c < c.args.world.now.script.counters = search rules in
    let told = c.counter.ensures c.args.world.now.script c.args.world.now.rules c.args.t (view_record c.args.world.now) (c.task-task.ensures c.requires.spent).stands lt in
    thing_added (count c.args.world.now.script c.args.world.now.rules (view_record c.args.world.now).journal c.args.t) c.loop-c.c _ _ c.loop-c.invariant (c.in_ok-push.ensures.items ∙ ap (λ n. c.loop-c.counters.items ++ n ∷ []) told)
