use Rattle.std.proofs.Common.{refl}
use Rattle.lapi_base.specs.declared.schedule.Act.TheVariants.{Begin}
use Rattle.lapi_base.specs.Record.Acts as records
use Rattle.lapi_world.proofs.Acts.{task-read, act-stands}
use Rattle.lapi_world.proofs.JobLines.{performed-begin, begin-replies}
use Rattle.lapi_world.proofs.network.Network.begin.Goals as goal

pub returns-clause-ok : goal.returns-clause-ok
returns-clause-ok c = λ rules r is h.
    let script = c.args.script.now in
    let at = task-read script rules r c.args.t c.args.self.now c.index_mut-task.result.now is h c.requires.place.0 c.index_mut-task.ensures.value in
    act-stands script rules c.add.ensures.apart c.requires.script r is (Begin c.args.t c.args.worker) c.requires.place c.args.t refl c.requires.place.0 c.args.self.now _ c.add.new.self c.begin.new.self c.new-out.result _ (records.begin script rules r c.args.t c.args.worker) (performed-begin script rules r c.args.t c.args.worker) h (c.in_ok-begun.ensures.effect script rules c.args.t r at) c.in_ok-add.ensures.ok c.new-out.ensures refl refl c.in_ok-add.ensures.tasks

pub returns-clause-job : goal.returns-clause-job
returns-clause-job c = λ rules r is h.
    c.in_ok-begun.ensures.begun c.args.script.now rules c.args.t r (task-read c.args.script.now rules r c.args.t c.args.self.now c.index_mut-task.result.now is h c.requires.place.0 c.index_mut-task.ensures.value)

pub returns-clause-reply : goal.returns-clause-reply
returns-clause-reply c = λ rules r is h.
    let at = task-read c.args.script.now rules r c.args.t c.args.self.now c.index_mut-task.result.now is h c.requires.place.0 c.index_mut-task.ensures.value in
    begin-replies c.args.script.now rules r c.args.t c.args.worker c.in_ok-begun.begun (c.in_ok-begun.ensures.begun c.args.script.now rules c.args.t r at)
