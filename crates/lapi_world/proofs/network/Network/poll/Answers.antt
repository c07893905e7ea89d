use Rattle.std.proofs.Common.{refl}
use Rattle.lapi_base.specs.declared.schedule.Act.TheVariants.{Poll}
use Rattle.lapi_base.specs.Record.Acts as records
use Rattle.lapi_world.proofs.Acts.{task-read, performed-poll, poll-replies, act-stands}
use Rattle.lapi_world.proofs.network.Network.poll.Goals as goal

pub returns-clause-ok : goal.returns-clause-ok
returns-clause-ok c = λ rules r is h.
    let script = c.args.script.now in
    let at = task-read script rules r c.args.t c.args.self.now c.index_mut-task.result.now is h c.requires.task c.index_mut-task.ensures.value in
    act-stands script rules c.add.ensures.apart c.requires.script r is (Poll c.args.t) c.requires.task c.args.t refl c.requires.task c.args.self.now _ c.add.new.self c.poll.new.self c.new-out.result _ (records.poll script rules r c.args.t) (performed-poll script rules r c.args.t) h (c.in_ok-poll.ensures script rules c.args.t r at) c.in_ok-add.ensures.ok c.new-out.ensures refl refl c.in_ok-add.ensures.tasks

pub returns-clause-reply : goal.returns-clause-reply
returns-clause-reply c = λ rules r is h. let script = c.args.script.now in poll-replies script rules r c.args.t
