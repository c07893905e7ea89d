use Rattle.std.proofs.Common.{refl, sym, ◌∙◌}
use Rattle.lapi_task.proofs.Joining.JoinSteps.{passes-does, passes-replies, waits-does, waits-replies, joins-may, enters-does, enters-replies, stays-does, stays-replies}
use Rattle.lapi_task.proofs.Stepping.StepLaws.{next-fits}
use Rattle.lapi_task.proofs.task.Task.join_round.Goals as goal

pub returns-then-not-is_joined-clause-effect : goal.returns-then-not-is_joined-clause-effect
returns-then-not-is_joined-clause-effect c = λ script rules t r at.
    let x = c.requires in
    waits-does script rules at.stands.calls.valid c.args.self.now t r at x.call x.there x.joins (x.accepted script rules t r at) c.if-self.true c.args.out.now (sym (c.is_joined.ensures script rules t r at) ∙ c.if-not-is_joined.true)

pub returns-then-not-is_joined-clause-reply : goal.returns-then-not-is_joined-clause-reply
returns-then-not-is_joined-clause-reply c = λ script rules t r at.
    let x = c.requires in
    waits-replies script rules at.stands.calls.valid c.args.self.now t r at x.call x.there x.joins (x.accepted script rules t r at) c.if-self.true (sym (c.is_joined.ensures script rules t r at) ∙ c.if-not-is_joined.true)

pub pass-requires : goal.pass-requires
pass-requires c = let x = c.requires in let y = x.some in next-fits y.0 y.1 y.4.stands.calls.valid c.args.self.now y.2 y.3 y.4 x.call x.there

pub returns-then-self-clause-effect : goal.returns-then-self-clause-effect
returns-then-self-clause-effect c = λ script rules t r at.
    let x = c.requires in
    passes-does script rules at.stands.calls.valid c.args.self.now t r at x.call x.there x.joins (x.accepted script rules t r at) c.if-self.true c.pass.new.self c.args.out.now (record { events = c.pass.new.events; entries = c.args.out.now.entries }) (sym (c.is_joined.ensures script rules t r at) ∙ c.if-not-is_joined.false) refl c.in_ok-pass.ensures

pub returns-then-self-clause-reply : goal.returns-then-self-clause-reply
returns-then-self-clause-reply c = λ script rules t r at.
    let x = c.requires in
    passes-replies script rules at.stands.calls.valid c.args.self.now t r at x.call x.there x.joins (x.accepted script rules t r at) c.if-self.true (sym (c.is_joined.ensures script rules t r at) ∙ c.if-not-is_joined.false)

pub returns-then-not-may_enter-clause-effect : goal.returns-then-not-may_enter-clause-effect
returns-then-not-may_enter-clause-effect c = λ script rules t r at.
    let x = c.requires in
    stays-does script rules at.stands.calls.valid c.args.self.now t r at x.call x.there x.joins (x.accepted script rules t r at) c.if-self.false c.args.out.now (sym (c.may_enter.ensures script rules t r at) ∙ c.if-not-may_enter.true)

pub returns-then-not-may_enter-clause-reply : goal.returns-then-not-may_enter-clause-reply
returns-then-not-may_enter-clause-reply c = λ script rules t r at.
    let x = c.requires in
    stays-replies script rules at.stands.calls.valid c.args.self.now t r at x.call x.there x.joins (x.accepted script rules t r at) c.if-self.false (sym (c.may_enter.ensures script rules t r at) ∙ c.if-not-may_enter.true)

pub enter-requires : goal.enter-requires
enter-requires c =
    let x = c.requires in
    let y = x.some in
    joins-may y.0 y.1 y.4.stands.calls.valid c.args.self.now y.2 y.3 y.4 x.call x.there x.joins (x.accepted y.0 y.1 y.2 y.3 y.4) c.if-self.false c.next_join-head.result (c.next_join-head.ensures y.0 y.1 y.2 y.3 y.4)

pub returns-clause-effect : goal.returns-clause-effect
returns-clause-effect c = λ script rules t r at.
    let x = c.requires in
    enters-does script rules at.stands.calls.valid c.args.self.now t r at x.call x.there x.joins (x.accepted script rules t r at) c.if-self.false c.next_join-head.result (c.next_join-head.ensures script rules t r at) c.enter.new.self c.args.out.now (record { events = c.enter.new.events; entries = c.args.out.now.entries }) (sym (c.may_enter.ensures script rules t r at) ∙ c.if-not-may_enter.false) refl c.in_ok-enter.ensures

pub returns-clause-reply : goal.returns-clause-reply
returns-clause-reply c = λ script rules t r at.
    let x = c.requires in
    enters-replies script rules at.stands.calls.valid c.args.self.now t r at x.call x.there x.joins (x.accepted script rules t r at) c.if-self.false (sym (c.may_enter.ensures script rules t r at) ∙ c.if-not-may_enter.false)
