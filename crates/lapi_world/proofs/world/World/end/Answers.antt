use Rattle.std.proofs.Common.{◌≡◌, ◌++◌, ◌∷◌, [], List, subst, sym}
use Rattle.lapi_base.specs.declared.schedule.Act.TheVariants.{End}
use Rattle.lapi_base.specs.declared.schedule.Line.{Line}
use Rattle.lapi_base.specs.Record.WorldView.{WorldView, record_at, view_record}
use Rattle.lapi_world.specs.Ends.{HasFinished}
use Rattle.lapi_world.specs.Jobs.{EndsAt, IsEndWith}
use Rattle.lapi_world.proofs.WorldLaws.{recorded, line-replies, world-more, end-finished}
use Rattle.lapi_world.proofs.world.World.end.Goals as goal

pub end-requires-clause-finished : goal.end-requires-clause-finished
end-requires-clause-finished c =
    let w = c.self.inside in
    let place = c.end_at-task.result in
    let at = subst (λ (s : List Line). EndsAt s c.args.n place.0 place.1) c.as_slice.ensures c.end_at-task.ensures in
    let view : WorldView = record { script = w.script; rules = w.rules; schedule = w.schedule; taken = w.taken; spent = w.spent } in
    let finished = end-finished view c.args.n place.0 place.1 c.args.finished (subst (λ (v : WorldView). IsEndWith v c.args.n c.args.finished) (sym c.self.view_is) c.requires.line) at in
    (w.rules, record_at w.script w.rules w.schedule w.taken, record { recorded = recorded w.script w.rules w.schedule w.network w.taken w.replies w.spent c.self.invariant; stands = c.self.invariant.stands c.if-self.false; ended = finished })

pub invariant_of-self-2 : goal.invariant_of-self-2
invariant_of-self-2 c =
    let w = c.self.inside in
    let place = c.end_at-task.result in
    let r = record_at w.script w.rules w.schedule w.taken in
    let at = subst (λ (s : List Line). EndsAt s c.args.n place.0 place.1) c.as_slice.ensures c.end_at-task.ensures in
    let view : WorldView = record { script = w.script; rules = w.rules; schedule = w.schedule; taken = w.taken; spent = w.spent } in
    let finished = end-finished view c.args.n place.0 place.1 c.args.finished (subst (λ (v : WorldView). IsEndWith v c.args.n c.args.finished) (sym c.self.view_is) c.requires.line) at in
    let has : HasFinished w.script place.0 place.1 c.args.finished w.rules w.network r = record { recorded = recorded w.script w.rules w.schedule w.network w.taken w.replies w.spent c.self.invariant; stands = c.self.invariant.stands c.if-self.false; ended = finished } in
    world-more w.script w.rules w.schedule w.network c.end.new.self w.taken c.push-2.new.self w.replies c.push.new.self w.spent c.args.n (End place.0 place.1) c.in_ok-reply.reply c.self.invariant c.if-self.false at c.in_ok-push-2.ensures.ok c.in_ok-push.ensures.ok c.end.ensures.count
    (c.in_ok-reply.ensures.ok w.rules r has)
    (c.in_ok-reply.ensures.reply w.rules r has)

pub returns-clause-reply : goal.returns-clause-reply
returns-clause-reply c =
    let w = c.self.inside in
    let place = c.end_at-task.result in
    let r = record_at w.script w.rules w.schedule w.taken in
    let at = subst (λ (s : List Line). EndsAt s c.args.n place.0 place.1) c.as_slice.ensures c.end_at-task.ensures in
    let view : WorldView = record { script = w.script; rules = w.rules; schedule = w.schedule; taken = w.taken; spent = w.spent } in
    let finished = end-finished view c.args.n place.0 place.1 c.args.finished (subst (λ (v : WorldView). IsEndWith v c.args.n c.args.finished) (sym c.self.view_is) c.requires.line) at in
    let has : HasFinished w.script place.0 place.1 c.args.finished w.rules w.network r = record { recorded = recorded w.script w.rules w.schedule w.network w.taken w.replies w.spent c.self.invariant; stands = c.self.invariant.stands c.if-self.false; ended = finished } in
    subst (λ (v : WorldView). (record_at w.script w.rules w.schedule c.push-2.new.self).replies ≡ (view_record v).replies ++ c.in_ok-reply.reply ∷ []) c.self.view_is
    (line-replies w.script w.rules w.schedule w.taken c.push-2.new.self c.args.n (End place.0 place.1) c.in_ok-reply.reply at c.in_ok-push-2.ensures.ok (c.in_ok-reply.ensures.reply w.rules r has))
