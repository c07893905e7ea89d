use Rattle.std.proofs.Common.{◌∙◌}
use Rattle.lapi_live.proofs.LaneLines.{no_lines, pushed, passed}
use Rattle.lapi_live.proofs.schedule_lanes.lines_of.Goals.{then-line_at-lane+in_ok-push, else-line_at-lane}
use Rattle.lapi_live.proofs.schedule_lanes.lines_of.Goals as goal

pub loop-n-init : goal.loop-n-init
loop-n-init c = c.new-lines.ensures ∙ no_lines c.args.schedule.now c.args.lane

pub loop-n-preserved : goal.loop-n-preserved
loop-n-preserved c =
    elim c.if-line_at-lane.branch [
      | then-line_at-lane+in_ok-push w ↦ pushed c.args.schedule.now c.args.lane c.loop-n.n c.line_at.result.now c.loop-n.lines c.if-line_at-lane.lines c.line_at.ensures c.loop-n.invariant (w.lines-is ∙ w.in_ok-push.ensures.ok) w.if-line_at-lane.true
      | else-line_at-lane w ↦ passed c.args.schedule.now c.args.lane c.loop-n.n c.line_at.result.now c.loop-n.lines c.if-line_at-lane.lines c.line_at.ensures c.loop-n.invariant w.lines-is w.if-line_at-lane.false
    ]
