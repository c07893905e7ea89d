use Rattle.std.proofs.Common.{◌≡◌, ◌++◌, ◌∷◌, [], List, false, subst, ap, ◌∙◌}
use Rattle.lapi_base.specs.declared.schedule.Act.TheVariants.{Begin}
use Rattle.lapi_base.specs.declared.schedule.Line.{Line}
use Rattle.lapi_base.specs.declared.reply.Reply.{Reply}
use Rattle.lapi_base.specs.Record.WorldView.{WorldView, record_at, view_record}
use Rattle.lapi_world.specs.Jobs.{BeginsAt, begun_reply}
use Rattle.lapi_world.proofs.WorldLaws.{recorded, line-replies, world-more, hands-out}
use Rattle.lapi_world.proofs.world.World.begin.Goals as goal

pub begin-requires-clause-stands : goal.begin-requires-clause-stands
begin-requires-clause-stands c =
    let w = c.self.inside in
    (w.rules, (record_at w.script w.rules w.schedule w.taken, recorded w.script w.rules w.schedule w.network w.taken w.replies w.spent c.self.invariant, c.self.invariant.stands c.if-self.false))

pub invariant_of-self-2 : goal.invariant_of-self-2
invariant_of-self-2 c =
    let w = c.self.inside in
    let place = c.begin_at-task.result in
    let begun = c.in_ok-begun.begun in
    let r = record_at w.script w.rules w.schedule w.taken in
    let is = recorded w.script w.rules w.schedule w.network w.taken w.replies w.spent c.self.invariant in
    let stands = c.self.invariant.stands c.if-self.false in
    let at = subst (λ (s : List Line). BeginsAt s c.args.n place.0 place.1) c.as_slice.ensures c.begin_at-task.ensures in
    world-more w.script w.rules w.schedule w.network c.begin.new.self w.taken c.push-2.new.self w.replies c.push.new.self w.spent c.args.n (Begin place.0 place.1) (begun_reply begun) c.self.invariant c.if-self.false at c.in_ok-push-2.ensures.ok
    (c.in_ok-push.ensures.ok ∙ ap (λ (x : Reply). w.replies ++ x ∷ []) c.reply_of.ensures) c.begin.ensures.count
    (c.in_ok-begun.ensures.ok w.rules r is stands)
    (c.in_ok-begun.ensures.reply w.rules r is stands)

pub returns-clause-reply : goal.returns-clause-reply
returns-clause-reply c =
    let w = c.self.inside in
    let place = c.begin_at-task.result in
    let begun = c.in_ok-begun.begun in
    let r = record_at w.script w.rules w.schedule w.taken in
    let is = recorded w.script w.rules w.schedule w.network w.taken w.replies w.spent c.self.invariant in
    let at = subst (λ (s : List Line). BeginsAt s c.args.n place.0 place.1) c.as_slice.ensures c.begin_at-task.ensures in
    subst (λ (v : WorldView). (record_at w.script w.rules w.schedule c.push-2.new.self).replies ≡ (view_record v).replies ++ begun_reply begun ∷ []) c.self.view_is
    (line-replies w.script w.rules w.schedule w.taken c.push-2.new.self c.args.n (Begin place.0 place.1) (begun_reply begun) at c.in_ok-push-2.ensures.ok (c.in_ok-begun.ensures.reply w.rules r is (c.self.invariant.stands c.if-self.false)))

pub returns-clause-job : goal.returns-clause-job
returns-clause-job c =
    let w = c.self.inside in
    let place = c.begin_at-task.result in
    let r = record_at w.script w.rules w.schedule w.taken in
    let is = recorded w.script w.rules w.schedule w.network w.taken w.replies w.spent c.self.invariant in
    let at = subst (λ (s : List Line). BeginsAt s c.args.n place.0 place.1) c.as_slice.ensures c.begin_at-task.ensures in
    let view : WorldView = record { script = w.script; rules = w.rules; schedule = w.schedule; taken = c.push-2.new.self; spent = false } in
    hands-out view w.taken c.args.n place.0 place.1 c.in_ok-begun.begun at c.in_ok-push-2.ensures.ok (c.in_ok-begun.ensures.job w.rules r is (c.self.invariant.stands c.if-self.false))
