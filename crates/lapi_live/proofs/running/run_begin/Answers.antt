use Rattle.std.proofs.Common.{◌≡◌, sym, subst}
use Rattle.lapi_base.specs.declared.rule.Rules.{Rules}
use Rattle.lapi_base.specs.Record.Handlers.{completion_answer, completion_rule}
use Rattle.lapi_world.specs.Jobs.{HandsOut}
use Rattle.lapi_live.specs.Passes.{plan_of, seen_by, lanes_of}
use Rattle.lapi_live.specs.Running.{AreHeld}
use Rattle.lapi_live.proofs.Holding.{held_begun, job_places}
use Rattle.lapi_live.proofs.running.run_begin.Goals as goal

pub returns-in-Job-clause-jobs : goal.returns-in-Job-clause-jobs
returns-in-Job-clause-jobs g c =
    let plan = plan_of c.args.turn.now in
    let lanes = lanes_of c.args.pass.now in
    let old = seen_by c.args.pass.now in
    let new = seen_by c.take_begin.new.pass in
    let job = c.in-Job.job in
    let f = c.complete.result in
    let out = subst (λ b. HandsOut (record plan { taken = new }) c.args.n b) c.in-Job.is c.in_ok-begun.ensures.job in
    let effect = subst (λ (rules : Rules). f.effect ≡ completion_answer (completion_rule rules job.completion) job.user job.buffer) c.requires.rules c.complete.ensures.effect in
    subst (AreHeld plan lanes new) (sym c.put.ensures)
    (held_begun plan lanes c.args.n old new c.args.jobs.now job f c.requires.pass.shareable c.take_begin.ensures.jobs out.0 out.1 c.complete.ensures.message c.complete.ensures.place c.complete.ensures.buffer effect c.requires.jobs)

pub put-requires : goal.put-requires
put-requires g c =
    let plan = plan_of c.args.turn.now in
    let new = seen_by c.take_begin.new.pass in
    let out = subst (λ b. HandsOut (record plan { taken = new }) c.args.n b) c.in-Job.is c.in_ok-begun.ensures.job in
    job_places plan c.args.n c.in-Job.job c.complete.result c.requires.pass.shareable out.0 c.complete.ensures.place
