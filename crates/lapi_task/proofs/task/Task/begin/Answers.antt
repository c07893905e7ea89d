use Rattle.std.proofs.Common.{◌<◌, subst, refl}
use Rattle.lapi_base.specs.declared.sizes.Sizes.{Sizes}
use Rattle.lapi_jobs.specs.declared.began.Began.{Began}
use Rattle.lapi_jobs.specs.Jobs.{Begins}
use Rattle.lapi_task.proofs.Working.BeginLaws.{busy-does, idle-does, buffer-there, job-is, job-does}
use Rattle.lapi_task.proofs.task.Task.begin.Goals as goal

pub returns-in-Idle-clause-effect : goal.returns-in-Idle-clause-effect
returns-in-Idle-clause-effect c = λ script rules t r at.
    let g = subst (λ (x : Began). Begins c.args.self.now.state.jobs c.args.worker x c.begin.new.self) c.in-Idle.is c.begin.ensures.begins in
    let room = subst (λ (z : Sizes). c.args.worker < z.workers) at.stands.calls.sizes c.requires.worker in
    idle-does script rules t c.args.self.now r at c.args.worker room c.begin.new.self c.args.out.now g.0 g.1 g.2

pub returns-in-Busy-clause-effect : goal.returns-in-Busy-clause-effect
returns-in-Busy-clause-effect c = λ script rules t r at.
    let g = subst (λ (x : Began). Begins c.args.self.now.state.jobs c.args.worker x c.begin.new.self) c.in-Busy.is c.begin.ensures.begins in
    let room = subst (λ (z : Sizes). c.args.worker < z.workers) at.stands.calls.sizes c.requires.worker in
    busy-does script rules t c.args.self.now r at c.args.worker room c.begin.new.self c.args.out.now g.0 g.1

pub held-requires : goal.held-requires
held-requires c =
    let x = c.requires.record in
    let g = subst (λ (x : Began). Begins c.args.self.now.state.jobs c.args.worker x c.begin.new.self) c.in-Job.is c.begin.ensures.begins in
    let room = subst (λ (z : Sizes). c.args.worker < z.workers) x.4.stands.calls.sizes c.requires.worker in
    buffer-there x.0 x.1 x.2 c.args.self.now x.3 x.4 c.args.worker room c.in-Job.job c.begin.new.self.waiting g.1

pub returns-clause-effect : goal.returns-clause-effect
returns-clause-effect c = λ script rules t r at.
    let g = subst (λ (x : Began). Begins c.args.self.now.state.jobs c.args.worker x c.begin.new.self) c.in-Job.is c.begin.ensures.begins in
    let room = subst (λ (z : Sizes). c.args.worker < z.workers) at.stands.calls.sizes c.requires.worker in
    job-does script rules t c.args.self.now r at c.args.worker room c.in-Job.job c.begin.new.self.waiting g.1 g.0 c.begin.new.self c.args.out.now (record { events = c.push.new.self; entries = c.args.out.now.entries }) refl g.2 c.in_ok-push.ensures.ok refl

pub returns-clause-begun : goal.returns-clause-begun
returns-clause-begun c = λ script rules t r at.
    let g = subst (λ (x : Began). Begins c.args.self.now.state.jobs c.args.worker x c.begin.new.self) c.in-Job.is c.begin.ensures.begins in
    let room = subst (λ (z : Sizes). c.args.worker < z.workers) at.stands.calls.sizes c.requires.worker in
    job-is script rules t c.args.self.now r at c.args.worker room c.in-Job.job c.begin.new.self.waiting g.1 g.0 c.in_ok-buffer.buffer c.args.self.now.state.number refl c.in_ok-buffer.ensures
