use Rattle.std.proofs.Common.{◌<◌, length, [], ◌∷◌, ◌++◌, refl, sym, ap, ◌∙◌, subst}
use Rattle.lapi_base.proofs.Results.{on-oks}
use Rattle.lapi_base.specs.declared.event.Event.TheVariants.{End}
use Rattle.lapi_jobs.specs.declared.pending.Pending.{Pending}
use Rattle.lapi_task.specs.Counting.{announced}
use Rattle.lapi_task.specs.Landed.{with_follower}
use Rattle.lapi_task.specs.Working.{word_back, end_follower, end_events}
use Rattle.lapi_task.specs.StandsFor.{task_unit}
use Rattle.lapi_task.proofs.Working.EndLaws.{worker-there, some-job, job-is, counter-there, link-there, follower-leaves, ends-does}
use Rattle.lapi_task.proofs.task.Task.end.Goals as goal

pub end-requires : goal.end-requires
end-requires c = let x = c.requires in worker-there x.0 x.1 x.2 c.args.self.now x.3 x.4 c.args.finished x.5

pub unreachable-requires : goal.unreachable-requires
unreachable-requires c = let x = c.requires in some-job x.0 x.1 x.2 c.args.self.now x.3 x.4 c.args.finished x.5 c.end.result c.end.ensures.ended c.in_default.is

pub announce-requires : goal.announce-requires
announce-requires c =
    let x = c.requires in
    let is = job-is x.0 x.1 x.2 c.args.self.now x.3 x.4 c.args.finished x.5 c.end.result c.in-Some.job c.end.ensures.ended c.in-Some.is in
    counter-there x.0 x.1 x.2 c.args.self.now x.3 x.4 c.args.finished x.5 c.in-Some.job.target_counter (ap (λ (p : Pending). p.target_counter) is)

pub follow_end-requires-clause-link : goal.follow_end-requires-clause-link
follow_end-requires-clause-link c =
    let x = c.requires in
    let is = job-is x.0 x.1 x.2 c.args.self.now x.3 x.4 c.args.finished x.5 c.end.result c.in-Some.job c.end.ensures.ended c.in-Some.is in
    let there = link-there x.0 x.1 x.2 c.args.self.now x.3 x.4 c.args.finished x.5 in
    (subst (λ (p : Pending). p.name.origin < length c.args.self.now.senders.items) (sym is) there.0, there.1)

pub follow_end-requires-clause-allowed : goal.follow_end-requires-clause-allowed
follow_end-requires-clause-allowed c = λ y e.
    let x = c.requires in
    let task = c.args.self.now in
    let f = c.args.finished in
    let is = job-is x.0 x.1 x.2 task x.3 x.4 f x.5 c.end.result c.in-Some.job c.end.ensures.ended c.in-Some.is in
    let follower = λ (p : Pending). end_follower task.sizes.layout task.state.number p.name (word_back task.sizes f.effect) p.completion_counter in
    follower-leaves x.0 x.1 x.2 task x.3 x.4 f x.5 y (sym (ap follower is) ∙ e)

pub returns : goal.returns
returns c = on-oks _ _ _ c.follow_end.result (λ senders events. λ script rules t r at fin.
    let before = c.args.self.now in
    let f = c.args.finished in
    let word = word_back before.sizes f.effect in
    let is = job-is script rules t before r at f fin c.end.result c.in-Some.job c.end.ensures.ended c.in-Some.is in
    ends-does script rules t before r at f fin c.end.new.self c.take_effect.new.memory c.announce.new.counters c.end.ensures.free c.in_ok-take_effect.ensures
    (c.in_ok-announce.ensures ∙ ap (λ (p : Pending). announced before.state.counters p.target_counter) is)
    c.follow_end.new.self c.args.out.now (record { events = c.follow_end.new.events; entries = c.args.out.now.entries }) c.push.new.self
    c.follow_end.ensures.rest
    (senders ∙ ap (λ (p : Pending). with_follower (task_unit before) (end_follower before.sizes.layout before.state.number p.name word p.completion_counter) before.senders.items) is)
    (c.in_ok-push.ensures.ok ∙ ap (λ (p : Pending). c.args.out.now.events ++ End p.name before.state.number f.worker ∷ []) is)
    (events ∙ ap (λ (p : Pending). c.push.new.self ++ end_events p.name word p.completion_counter) is)
    refl) c.follow_end.ensures.senders c.follow_end.ensures.events
