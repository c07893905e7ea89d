use Rattle.lapi_turn.specs.Seats.{seen_of}
use Rattle.lapi_live.specs.Passes.{plan_of, lanes_of}
use Rattle.lapi_live.proofs.Taking as taking
use Rattle.lapi_live.proofs.steps.take_line.Goals as goal

pub returns-clause-seen : goal.returns-clause-seen
returns-clause-seen g c = let a = c.with.ensures.answer in taking.on_ok (plan_of c.args.turn.now) (lanes_of c.args.pass.now) (seen_of c.args.pass.now.seat) (seen_of c.with.new.seat) c.args.n a.0 a.1 a.2.0 c.with.result a.3

pub returns-clause-err : goal.returns-clause-err
returns-clause-err g c = let a = c.with.ensures.answer in taking.on_err (plan_of c.args.turn.now) (lanes_of c.args.pass.now) (seen_of c.args.pass.now.seat) (seen_of c.with.new.seat) c.args.n a.0 a.1 a.2.0 c.with.result a.3

pub returns-clause-reply : goal.returns-clause-reply
returns-clause-reply g c = let a = c.with.ensures.answer in taking.on_reply (plan_of c.args.turn.now) (lanes_of c.args.pass.now) (seen_of c.args.pass.now.seat) (seen_of c.with.new.seat) c.args.n a.0 a.1 a.2.0 c.with.result a.3 a.2.1

pub returns-clause-jobs : goal.returns-clause-jobs
returns-clause-jobs g c = let a = c.with.ensures.answer in taking.on_plain (plan_of c.args.turn.now) (lanes_of c.args.pass.now) (seen_of c.args.pass.now.seat) (seen_of c.with.new.seat) c.args.n a.0 a.1 a.2.0 c.with.result a.3 c.requires.pass.shareable c.requires.line.1

pub returns-clause-own : goal.returns-clause-own
returns-clause-own g c = let a = c.with.ensures.answer in taking.on_own (plan_of c.args.turn.now) (lanes_of c.args.pass.now) (seen_of c.args.pass.now.seat) (seen_of c.with.new.seat) c.args.n a.0 a.1 a.2.0 c.with.result a.3 c.requires.own
