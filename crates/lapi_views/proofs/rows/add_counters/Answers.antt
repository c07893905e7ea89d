use Rattle.std.proofs.Common.{◌<◌, ◌++◌, ap, ◌∙◌, rules}
use Rattle.std.specs.Prelude.{slice_index}
use Rattle.lapi_base.specs.Record.WorldView.{view_record}
use Rattle.lapi_views.specs.Chart.{counted_row}
use Rattle.lapi_views.specs.ChartParts.{counted_after}
use Rattle.lapi_views.proofs.EachNumber.{none_yet, number_added}
use Rattle.lapi_views.proofs.rows.add_counters.Goals as goal

pub loop-c-init : goal.loop-c-init
loop-c-init c = none_yet (counted_after c.args.world.now.script c.args.world.now.rules c.args.task c.args.before.now (view_record c.args.world.now)) c.args.rows.now

pub loop-c-preserved : goal.loop-c-preserved
loop-c-preserved c =
    let lt : c.loop-c.c < c.args.world.now.script.counters = search rules in
    let told = c.counter-in-loop-c.ensures c.args.world.now.script c.args.world.now.rules c.args.task (view_record c.args.world.now) (c.task-now.ensures c.requires.spent).stands lt in
    number_added (counted_after c.args.world.now.script c.args.world.now.rules c.args.task c.args.before.now (view_record c.args.world.now)) c.loop-c.c c.args.rows.now c.loop-c.rows _ c.loop-c.invariant
    (c.in_ok-add_counter.ensures
    ∙ ap (λ n. c.loop-c.rows ++ counted_row c.args.task c.loop-c.c n c.counter-in-loop-c.result) c.counter.ensures
    ∙ ap (λ n. c.loop-c.rows ++ counted_row c.args.task c.loop-c.c (slice_index c.args.before.now.counters c.loop-c.c) n) told)
