use Rattle.std.proofs.Common.{refl}
use Rattle.lapi_calls.specs.Setting.{rules_of}
use Rattle.lapi_audit.proofs.JobLaws.{within-there}
use Rattle.lapi_audit.proofs.StepLaws.{can-search}
use Rattle.lapi_audit.proofs.checker.Checker.note.Goals as goal

pub note-requires-3-clause-workers : goal.note-requires-3-clause-workers
note-requires-3-clause-workers c =
    let shape = c.requires.shape in
    within-there c.args.setting.now.script.now (rules_of c.args.setting.now) c.args.self.now.jobs.queues.items c.args.self.now.jobs.workers.items c.args.event.now c.requires.there shape.queues shape.works shape.workers

pub first_pending-first-requires-clause-search : goal.first_pending-first-requires-clause-search
first_pending-first-requires-clause-search c =
    can-search c.args.setting.now.script.now (rules_of c.args.setting.now) c.requires.valid c.args.self.now _ c.args.event.now c.place_of-task.result.0 c.requires.shape c.requires.there c.requires.room c.note.ensures refl c.note-4.ensures refl c.place_of-task.ensures.task
