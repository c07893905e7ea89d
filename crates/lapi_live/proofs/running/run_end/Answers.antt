use Rattle.std.proofs.Common.{sym, subst}
use Rattle.lapi_live.specs.Histories.{IsOfWorkerAfter}
use Rattle.lapi_live.specs.Passes.{plan_of, seen_by, lanes_of}
use Rattle.lapi_live.specs.Running.{AreHeld}
use Rattle.lapi_live.proofs.Holding.{held_at, held_ended}
use Rattle.lapi_live.proofs.running.run_end.Goals as goal

pub take_end-requires-clause-line : goal.take_end-requires-clause-line
take_end-requires-clause-line g c =
    let plan = plan_of c.args.turn.now in
    let kept = held_at plan (lanes_of c.args.pass.now) c.args.n (seen_by c.args.pass.now) c.args.jobs.now c.args.task c.args.worker c.requires.pass.shareable c.requires.own c.requires.line c.requires.jobs in
    (c.args.task, c.args.worker, c.requires.line, subst (IsOfWorkerAfter plan (seen_by c.args.pass.now) c.args.task c.args.worker) (sym c.take-finished.ensures.taken) kept)

pub returns-clause-jobs : goal.returns-clause-jobs
returns-clause-jobs g c =
    let plan = plan_of c.args.turn.now in
    let lanes = lanes_of c.args.pass.now in
    subst (AreHeld plan lanes (seen_by c.take_end.new.pass)) (sym c.take-finished.ensures.left)
    (held_ended plan lanes c.args.n (seen_by c.args.pass.now) (seen_by c.take_end.new.pass) c.args.jobs.now c.args.task c.args.worker c.requires.pass.shareable c.take_end.ensures.jobs c.requires.line (c.in_ok-take_end.ensures.freed c.args.task c.args.worker c.requires.line) c.requires.jobs)
