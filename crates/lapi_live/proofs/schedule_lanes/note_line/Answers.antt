use Rattle.std.proofs.Common.{sym, ap, ◌∙◌, subst, refl, ◌+◌}
use Rattle.lapi_live.specs.Lanes.{lane_known, AreKnown}
use Rattle.lapi_live.proofs.LaneLines.{same_lane_known, new_lane_known, clash_known}
use Rattle.lapi_live.proofs.schedule_lanes.note_line.Goals as goal

pub returns-in-Some-known_lane : goal.returns-in-Some-known_lane
returns-in-Some-known_lane c = λ schedule n at h.
    same_lane_known schedule n c.args.line.now at c.args.known.now.items h c.in-Some.task c.in-Some.worker (sym c.in-Some.ensures) c.in-Some-known_lane.before
    (sym (c.in-Some-known_lane.ensures ∙ ap (λ known. lane_known known c.in-Some.task c.in-Some.worker) c.as_slice.ensures.value))
    c.if-before-lane.true

pub returns-in-Some-2 : goal.returns-in-Some-2
returns-in-Some-2 c = λ schedule n at h.
    clash_known schedule n c.args.line.now at c.args.known.now.items h c.in-Some.task c.in-Some.worker (sym c.in-Some.ensures) c.in-Some-known_lane.before
    (sym (c.in-Some-known_lane.ensures ∙ ap (λ known. lane_known known c.in-Some.task c.in-Some.worker) c.as_slice.ensures.value))
    c.if-before-lane.false

pub returns-in_ok-push-in-None : goal.returns-in_ok-push-in-None
returns-in_ok-push-in-None c = λ schedule n at h.
    subst (AreKnown schedule (n + 1)) (sym c.in_ok-push-in-None.ensures.items)
    (new_lane_known schedule n c.args.line.now at c.args.known.now.items h c.in-Some.task c.in-Some.worker (sym c.in-Some.ensures) _ refl
    (sym (c.in-None.ensures ∙ ap (λ known. lane_known known c.in-Some.task c.in-Some.worker) c.as_slice.ensures.value)))
