use Rattle.lapi_turn.specs.Seats.{seen_of}
use Rattle.lapi_live.specs.Passes.{plan_of, seen_by, lanes_of}
use Rattle.lapi_live.proofs.OtherLines.{same_jobs}
use Rattle.lapi_live.proofs.Lined.{goes_on, lined-either}
use Rattle.lapi_live.proofs.OwnLanes.{own-same}
use Rattle.lapi_live.proofs.steps.join_passes.Goals as goal

pub returns-clause-goes_on : goal.returns-clause-goes_on
returns-clause-goes_on c =
    let schedule = (plan_of c.args.turn.now).schedule in
    let lined = lined-either schedule (seen_of c.args.pass.seat) (seen_of c.args.other.seat) (seen_of c.join.result) c.requires.pass.lined c.requires.other.lined c.join.ensures.seen in (
      goes_on schedule (lanes_of c.args.pass) (seen_of c.args.pass.seat) (seen_of c.join.result) lined c.join.ensures.follows.0,
      goes_on schedule (lanes_of c.args.other) (seen_of c.args.other.seat) (seen_of c.join.result) lined c.join.ensures.follows.1,
    )

pub returns-clause-own : goal.returns-clause-own
returns-clause-own c =
    let schedule = (plan_of c.args.turn.now).schedule in
    let on = returns-clause-goes_on c in
    (own-same schedule (lanes_of c.args.pass) (seen_by c.args.pass) _ on.0, own-same schedule (lanes_of c.args.other) (seen_by c.args.other) _ on.1)

pub returns-clause-jobs : goal.returns-clause-jobs
returns-clause-jobs c =
    let plan = plan_of c.args.turn.now in
    let on = returns-clause-goes_on c in
    (same_jobs plan (lanes_of c.args.pass) (seen_by c.args.pass) _ c.requires.pass.shareable on.0, same_jobs plan (lanes_of c.args.other) (seen_by c.args.other) _ c.requires.pass.shareable on.1)
