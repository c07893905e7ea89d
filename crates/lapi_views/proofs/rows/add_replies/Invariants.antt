use Rattle.std.proofs.Common.{◌≡◌, ◌++◌}
use Rattle.lapi_views.specs.ChartParts.{replied_after}
use Rattle.lapi_views.proofs.rows.add_replies.Given as goal

abbrev pub invariant-loop-reply : goal.invariant-loop-reply
invariant-loop-reply l = l.fn.rows ++ replied_after l.n l.task l.deed 0 l.replies ≡ l.rows ++ replied_after l.n l.task l.deed l.reply-index l.replies
