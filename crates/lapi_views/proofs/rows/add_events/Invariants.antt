use Rattle.std.proofs.Common.{◌≡◌, ◌++◌}
use Rattle.lapi_views.specs.ChartParts.{happened_after}
use Rattle.lapi_views.proofs.rows.add_events.Given as goal

abbrev pub invariant-loop-event : goal.invariant-loop-event
invariant-loop-event l = l.fn.rows ++ happened_after l.task 0 l.events ≡ l.rows ++ happened_after l.task l.event-index l.events
