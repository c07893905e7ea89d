use Rattle.lapi_views.proofs.KeptJobs.{act_known, line_kept}
use Rattle.lapi_views.proofs.performed.take_plain.Goals as goal

pub returns-clause-jobs : goal.returns-clause-jobs
returns-clause-jobs g c = λ jobs h.
    let w = c.args.world.now in
    let act = act_known w.schedule c.args.n c.requires.line.0 in
    line_kept w c.line.new.self c.args.n act.0 jobs c.requires.valid act.1 (c.requires.line.1 act.0 act.1) c.in_ok-line.ensures.ok.1 h
