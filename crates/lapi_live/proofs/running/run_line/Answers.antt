use Rattle.lapi_live.specs.Passes.{plan_of}
use Rattle.lapi_live.proofs.KindsOf as kinds
use Rattle.lapi_live.proofs.running.run_line.Goals as goal

pub take_line-requires-clause-line : goal.take_line-requires-clause-line
take_line-requires-clause-line g c = (c.requires.line, kinds.plain_line (plan_of c.args.turn.now).schedule c.args.kinds.now c.requires.kinds c.args.n c.at.result c.at.ensures c.in-Plain.is)

pub run_begin-requires-clause-line : goal.run_begin-requires-clause-line
run_begin-requires-clause-line g c = kinds.begin_line (plan_of c.args.turn.now).schedule c.args.kinds.now c.requires.kinds c.args.n c.at.result _ _ c.at.ensures c.in-Begin.is

pub run_end-requires-clause-line : goal.run_end-requires-clause-line
run_end-requires-clause-line g c = kinds.end_line (plan_of c.args.turn.now).schedule c.args.kinds.now c.requires.kinds c.args.n c.at.result c.in-End.task c.in-End.worker c.at.ensures c.in-End.is
