use Rattle.std.proofs.Common.{◌≡◌, ◌++◌, ◌∷◌, [], List, subst, sym, ap, ◌∙◌}
use Rattle.lapi_base.specs.declared.schedule.Line.{Line}
use Rattle.lapi_base.specs.Record.WorldView.{WorldView, act_at, record_at, view_record}
use Rattle.lapi_base.specs.declared.rule.Rules.{Rules}
use Rattle.lapi_handlers.specs.Handlers.{rules_of}
use Rattle.lapi_world.specs.Grows.{KeepsRecord, Answers}
use Rattle.lapi_world.specs.Jobs.{IsPlainLine}
use Rattle.lapi_world.specs.Stands.{StandsForOne}
use Rattle.lapi_world.proofs.WorldLaws.{act-valid, recorded, line-replies, world-more}
use Rattle.lapi_world.proofs.world.World.line.Goals as goal

pub perform-requires : goal.perform-requires
perform-requires g c =
    let w = c.self.inside in
    let same : rules_of c.args.handlers.now ≡ w.rules = c.requires.rules ∙ sym (ap (λ (v : WorldView). v.rules) c.self.view_is) in
    let at = ap (λ (s : List Line). act_at s c.args.n) (sym c.as_slice.ensures) ∙ c.act_at-act.ensures in
    record {
      script = c.self.invariant.script_performed;
      act = act-valid w.script w.rules w.schedule c.args.n c.act_at-act.result.now c.self.invariant.schedule_valid.lines at;
      plain = subst (λ (s : List Line). IsPlainLine s c.args.n) (sym (ap (λ (v : WorldView). v.schedule) c.self.view_is)) c.requires.plain c.act_at-act.result.now at;
      stands = subst (λ (x : Rules). StandsForOne w.script x w.network) (sym same) (record_at w.script w.rules w.schedule w.taken, recorded w.script w.rules w.schedule w.network w.taken w.replies w.spent c.self.invariant, c.self.invariant.stands c.if-self.false);
    }

pub invariant_of-self-2 : goal.invariant_of-self-2
invariant_of-self-2 g c =
    let w = c.self.inside in
    let same : rules_of c.args.handlers.now ≡ w.rules = c.requires.rules ∙ sym (ap (λ (v : WorldView). v.rules) c.self.view_is) in
    let r = record_at w.script w.rules w.schedule w.taken in
    let is = recorded w.script w.rules w.schedule w.network w.taken w.replies w.spent c.self.invariant in
    let stands = c.self.invariant.stands c.if-self.false in
    let act = c.act_at-act.result.now in
    let at = ap (λ (s : List Line). act_at s c.args.n) (sym c.as_slice.ensures) ∙ c.act_at-act.ensures in
    world-more w.script w.rules w.schedule w.network c.perform.new.self w.taken c.push-2.new.self w.replies c.push.new.self w.spent c.args.n act c.in_ok-reply.reply c.self.invariant c.if-self.false at c.in_ok-push-2.ensures.ok c.in_ok-push.ensures.ok c.perform.ensures.count
    (subst (λ (x : Rules). KeepsRecord w.script x act w.network c.perform.new.self) same c.in_ok-reply.ensures.ok r is stands)
    (subst (λ (x : Rules). Answers w.script x act w.network c.in_ok-reply.reply) same c.in_ok-reply.ensures.reply r is stands)

pub returns-clause-reply : goal.returns-clause-reply
returns-clause-reply g c =
    let w = c.self.inside in
    let same : rules_of c.args.handlers.now ≡ w.rules = c.requires.rules ∙ sym (ap (λ (v : WorldView). v.rules) c.self.view_is) in
    let r = record_at w.script w.rules w.schedule w.taken in
    let is = recorded w.script w.rules w.schedule w.network w.taken w.replies w.spent c.self.invariant in
    let at = ap (λ (s : List Line). act_at s c.args.n) (sym c.as_slice.ensures) ∙ c.act_at-act.ensures in
    subst (λ (v : WorldView). (record_at w.script w.rules w.schedule c.push-2.new.self).replies ≡ (view_record v).replies ++ c.in_ok-reply.reply ∷ []) c.self.view_is
    (line-replies w.script w.rules w.schedule w.taken c.push-2.new.self c.args.n c.act_at-act.result.now c.in_ok-reply.reply at c.in_ok-push-2.ensures.ok (subst (λ (x : Rules). Answers w.script x c.act_at-act.result.now w.network c.in_ok-reply.reply) same c.in_ok-reply.ensures.reply r is (c.self.invariant.stands c.if-self.false)))
