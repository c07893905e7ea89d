use Rattle.std.proofs.Common.{refl, subst}
use Rattle.lapi_base.specs.declared.schedule.Act.TheVariants.{End}
use Rattle.lapi_base.specs.Record.Acts as records
use Rattle.lapi_world.specs.Jobs.{IsOfWorker}
use Rattle.lapi_world.proofs.Acts.{task-read, act-stands, outcome-ends}
use Rattle.lapi_world.proofs.JobLines.{performed-ended, idle-stands, idle-replies, end-replies}
use Rattle.lapi_world.proofs.network.Network.end.Goals as goal

pub returns-in_default-clause-ok : goal.returns-in_default-clause-ok
returns-in_default-clause-ok c = λ rules r h.
    idle-stands c.args.script.now rules r c.args.t c.args.worker c.args.self.now (subst (IsOfWorker c.args.script.now rules c.args.t c.args.worker r) c.in_default.is h.ended) h.stands

pub returns-in_default-clause-reply : goal.returns-in_default-clause-reply
returns-in_default-clause-reply c = λ rules r h.
    idle-replies c.args.script.now rules r c.args.t c.args.worker (subst (IsOfWorker c.args.script.now rules c.args.t c.args.worker r) c.in_default.is h.ended)

pub end-requires : goal.end-requires
end-requires c =
    let s = c.requires.finished in
    let script = c.args.script.now in
    let ended = subst (IsOfWorker script s.0 c.args.t c.args.worker s.1) c.in-Some.is s.2.ended in
    (script, s.0, c.args.t, s.1, task-read script s.0 s.1 c.args.t c.args.self.now c.index_mut-task.result.now s.2.recorded s.2.stands c.requires.place.0 c.index_mut-task.ensures.value, ended.1)

pub add-requires-clause-ends : goal.add-requires-clause-ends
add-requires-clause-ends c =
    let s = c.requires.finished in
    let script = c.args.script.now in
    let ended = subst (IsOfWorker script s.0 c.args.t c.args.worker s.1) c.in-Some.is s.2.ended in
    let at = task-read script s.0 s.1 c.args.t c.args.self.now c.index_mut-task.result.now s.2.recorded s.2.stands c.requires.place.0 c.index_mut-task.ensures.value in
    outcome-ends script s.0 c.args.t s.1 (records.end script s.0 s.1 c.args.t c.in-Some.finished.worker) c.end.new.self c.new-out.result _ (c.in_ok-end.ensures script s.0 c.args.t s.1 at ended.1) c.new-out.ensures

pub returns-clause-ok : goal.returns-clause-ok
returns-clause-ok c = λ rules r h.
    let script = c.args.script.now in
    let ended = subst (IsOfWorker script rules c.args.t c.args.worker r) c.in-Some.is h.ended in
    let at = task-read script rules r c.args.t c.args.self.now c.index_mut-task.result.now h.recorded h.stands c.requires.place.0 c.index_mut-task.ensures.value in
    act-stands script rules c.add.ensures.apart c.requires.script r h.recorded (End c.args.t c.args.worker) c.requires.place c.args.t refl c.requires.place.0 c.args.self.now _ c.add.new.self c.end.new.self c.new-out.result _ (records.end script rules r c.args.t c.in-Some.finished.worker) (performed-ended script rules r c.args.t c.args.worker c.in-Some.finished ended) h.stands (c.in_ok-end.ensures script rules c.args.t r at ended.1) c.in_ok-add.ensures.ok c.new-out.ensures refl refl c.in_ok-add.ensures.tasks

pub returns-clause-reply : goal.returns-clause-reply
returns-clause-reply c = λ rules r h.
    end-replies c.args.script.now rules r c.args.t c.args.worker c.in-Some.finished (subst (IsOfWorker c.args.script.now rules c.args.t c.args.worker r) c.in-Some.is h.ended)
