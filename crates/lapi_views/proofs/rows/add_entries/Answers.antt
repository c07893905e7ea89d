use Rattle.std.proofs.Common.{drop, ap, ◌∙◌, ◌++◌}
use Rattle.std.specs.Prelude.{slice_index}
use Rattle.lapi_base.specs.Record.WorldView.{view_record}
use Rattle.lapi_views.specs.ChartParts.{entries_after, entry_rows}
use Rattle.lapi_views.proofs.EachNumber.{none_yet, number_added}
use Rattle.lapi_views.proofs.rows.add_entries.Goals as goal

pub loop-b-init : goal.loop-b-init
loop-b-init c = none_yet (entries_after c.args.task c.args.before.now (view_record c.args.world.now)) c.args.rows.now

pub loop-b-preserved : goal.loop-b-preserved
loop-b-preserved c =
    number_added (entries_after c.args.task c.args.before.now (view_record c.args.world.now)) c.loop-b.b c.args.rows.now c.loop-b.rows _ c.loop-b.invariant
    (c.in_ok-add_sent.ensures
    ∙ ap (λ n. c.loop-b.rows ++ entry_rows c.args.task c.loop-b.b n (drop n c.wire.result.now)) c.entries.ensures
    ∙ ap (λ entries. c.loop-b.rows ++ entry_rows c.args.task c.loop-b.b (slice_index c.args.before.now.entries c.loop-b.b) (drop (slice_index c.args.before.now.entries c.loop-b.b) entries)) (c.wire.ensures c.requires.spent))
