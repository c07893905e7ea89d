use Rattle.std.proofs.Common.{refl, sym, ap, ◌∙◌, subst, Some, None}
use Rattle.lapi_base.specs.declared.statement.Statement.{Statement}
use Rattle.lapi_task.proofs.Stepping.StepLaws.{FindsReason, found-reason, next-fits, is-suited, has-flag, idle-does, idle-replies, refused-does, refused-replies, issued-does, issued-replies, passed-does, passed-replies, blocked-does, blocked-replies}
use Rattle.lapi_task.proofs.task.Task.step.Goals as goal
use Rattle.lapi_base.specs.Record.Acts.{step}
use Rattle.lapi_task.specs.declared.unfinished.Unfinished.{Unfinished}
use Rattle.lapi_task.specs.HasEffect.{HasEffect}
use Rattle.lapi_task.proofs.Stepping.FenceSteps.{fence-passes, fence-replies, fence-waits, fence-blocks}

pub returns-in_default-clause-effect : goal.returns-in_default-clause-effect
returns-in_default-clause-effect c = λ script rules t r at. idle-does script rules at.stands.calls.valid c.args.self.now t r at c.args.out.now (sym c.in_default.ensures)

pub returns-in_default-clause-reply : goal.returns-in_default-clause-reply
returns-in_default-clause-reply c = λ script rules t r at. idle-replies script rules at.stands.calls.valid c.args.self.now t r at (sym c.in_default.ensures)

pub refuse-requires : goal.refuse-requires
refuse-requires c = let x = c.requires in next-fits x.0 x.1 x.4.stands.calls.valid c.args.self.now x.2 x.3 x.4 c.in-Some.statement.now (sym c.in-Some.ensures)

pub returns-in-Some-refusal_of-clause-effect : goal.returns-in-Some-refusal_of-clause-effect
returns-in-Some-refusal_of-clause-effect c = λ script rules t r at. refused-does script rules at.stands.calls.valid c.args.self.now t r at c.in-Some.statement.now (sym c.in-Some.ensures) c.in-Some-refusal_of.why c.refuse.new.self c.args.out.now (record { events = c.refuse.new.events; entries = c.args.out.now.entries }) (c.refusal_of.result, c.refusal_of.ensures.told, c.refusal_of.ensures.after, c.in-Some-refusal_of.is) refl c.in_ok-refuse.ensures

pub returns-in-Some-refusal_of-clause-reply : goal.returns-in-Some-refusal_of-clause-reply
returns-in-Some-refusal_of-clause-reply c = λ script rules t r at. refused-replies script rules at.stands.calls.valid c.args.self.now t r at c.in-Some.statement.now (sym c.in-Some.ensures) c.in-Some-refusal_of.why (c.refusal_of.result, c.refusal_of.ensures.told, c.refusal_of.ensures.after, c.in-Some-refusal_of.is)

pub wait-requires-clause-next : goal.wait-requires-clause-next
wait-requires-clause-next c = let x = c.requires in next-fits x.0 x.1 x.4.stands.calls.valid c.args.self.now x.2 x.3 x.4 c.in-Some.statement.now (sym c.in-Some.ensures)

pub wait-requires-clause-counter : goal.wait-requires-clause-counter
wait-requires-clause-counter c = let x = c.requires in is-suited x.0 x.1 x.4.stands.calls.valid c.args.self.now x.2 x.3 x.4 _ (sym c.in-Some.ensures ∙ ap Some c.in-Wait.is) (subst (λ (s : Statement). FindsReason c.args.self.now s None) c.in-Wait.is (c.refusal_of.result, c.refusal_of.ensures.told, c.refusal_of.ensures.after, c.in_default-refusal_of.is))

pub returns-then-is_past-clause-effect : goal.returns-then-is_past-clause-effect
returns-then-is_past-clause-effect c = λ script rules t r at. passed-does script rules at.stands.calls.valid c.args.self.now t r at c.in-Wait.counter c.in-Wait.value (sym c.in-Some.ensures ∙ ap Some c.in-Wait.is) (subst (λ (s : Statement). FindsReason c.args.self.now s None) c.in-Wait.is (c.refusal_of.result, c.refusal_of.ensures.told, c.refusal_of.ensures.after, c.in_default-refusal_of.is)) c.wait.new.self c.args.out.now (record { events = c.wait.new.events; entries = c.args.out.now.entries }) refl (c.in_ok-is_past.ensures.passed c.if-is_past.true)

pub returns-then-is_past-clause-reply : goal.returns-then-is_past-clause-reply
returns-then-is_past-clause-reply c = λ script rules t r at. passed-replies script rules at.stands.calls.valid c.args.self.now t r at c.in-Wait.counter c.in-Wait.value (sym c.in-Some.ensures ∙ ap Some c.in-Wait.is) (subst (λ (s : Statement). FindsReason c.args.self.now s None) c.in-Wait.is (c.refusal_of.result, c.refusal_of.ensures.told, c.refusal_of.ensures.after, c.in_default-refusal_of.is)) (let g = c.in_ok-is_past.ensures.passed c.if-is_past.true in g.enough)

pub returns-else-is_past-clause-effect : goal.returns-else-is_past-clause-effect
returns-else-is_past-clause-effect c = λ script rules t r at. blocked-does script rules at.stands.calls.valid c.args.self.now t r at c.in-Wait.counter c.in-Wait.value (sym c.in-Some.ensures ∙ ap Some c.in-Wait.is) (subst (λ (s : Statement). FindsReason c.args.self.now s None) c.in-Wait.is (c.refusal_of.result, c.refusal_of.ensures.told, c.refusal_of.ensures.after, c.in_default-refusal_of.is)) c.wait.new.self c.args.out.now (record { events = c.wait.new.events; entries = c.args.out.now.entries }) refl (c.in_ok-is_past.ensures.blocked c.if-is_past.false)

pub returns-else-is_past-clause-reply : goal.returns-else-is_past-clause-reply
returns-else-is_past-clause-reply c = λ script rules t r at. blocked-replies script rules at.stands.calls.valid c.args.self.now t r at c.in-Wait.counter c.in-Wait.value (sym c.in-Some.ensures ∙ ap Some c.in-Wait.is) (subst (λ (s : Statement). FindsReason c.args.self.now s None) c.in-Wait.is (c.refusal_of.result, c.refusal_of.ensures.told, c.refusal_of.ensures.after, c.in_default-refusal_of.is)) (let g = c.in_ok-is_past.ensures.blocked c.if-is_past.false in g.less)

pub returns-then-not-is_clear : goal.returns-then-not-is_clear
returns-then-not-is_clear c =
    let none = subst (λ (s : Statement). FindsReason c.args.self.now s None) c.in-Fence.is (c.refusal_of.result, c.refusal_of.ensures.told, c.refusal_of.ensures.after, c.in_default-refusal_of.is) in
    let found = sym c.in-Some.ensures ∙ ap Some c.in-Fence.is in
    record {
      effect = λ script rules t r at. fence-waits script rules at.stands.calls.valid c.args.self.now t r at found none c.args.out.now (sym (c.is_clear.ensures script rules t r at.stands) ∙ c.if-not-is_clear.true);
      reply = λ script rules t r at. fence-blocks script rules at.stands.calls.valid c.args.self.now t r at found none (sym (c.is_clear.ensures script rules t r at.stands) ∙ c.if-not-is_clear.true);
    }

pub pass-requires : goal.pass-requires
pass-requires c = let x = c.requires in next-fits x.0 x.1 x.4.stands.calls.valid c.args.self.now x.2 x.3 x.4 c.in-Some.statement.now (sym c.in-Some.ensures)

pub returns-in-Fence : goal.returns-in-Fence
returns-in-Fence c =
    let none = subst (λ (s : Statement). FindsReason c.args.self.now s None) c.in-Fence.is (c.refusal_of.result, c.refusal_of.ensures.told, c.refusal_of.ensures.after, c.in_default-refusal_of.is) in
    let found = sym c.in-Some.ensures ∙ ap Some c.in-Fence.is in
    record {
      effect = λ script rules t r at. fence-passes script rules at.stands.calls.valid c.args.self.now t r at found none c.pass.new.self c.args.out.now (record { events = c.pass.new.events; entries = c.args.out.now.entries }) (sym (c.is_clear.ensures script rules t r at.stands) ∙ c.if-not-is_clear.false) refl c.in_ok-pass.ensures;
      reply = λ script rules t r at. fence-replies script rules at.stands.calls.valid c.args.self.now t r at found none (sym (c.is_clear.ensures script rules t r at.stands) ∙ c.if-not-is_clear.false);
    }

pub join_round-requires : goal.join_round-requires
join_round-requires c = record {
  some = c.requires;
  call = c.in-Some.statement.now;
  there = sym c.in-Some.ensures;
  joins = sym c.is_entered.ensures.joins ∙ c.if-is_entered.true;
  accepted = λ script rules t r at. found-reason script rules at.stands.calls.valid c.args.self.now t r at c.in-Some.statement.now (sym c.in-Some.ensures) None (c.refusal_of.result, c.refusal_of.ensures.told, c.refusal_of.ensures.after, c.in_default-refusal_of.is);
}

pub issued-requires : goal.issued-requires
issued-requires c = let x = c.requires in has-flag x.0 x.1 x.4.stands.calls.valid c.args.self.now x.2 x.3 x.4 c.in-Some.statement.now (sym c.in-Some.ensures)

pub issue-requires : goal.issue-requires
issue-requires c =
    let x = c.requires in
    record {
      next = next-fits x.0 x.1 x.4.stands.calls.valid c.args.self.now x.2 x.3 x.4 c.in-Some.statement.now (sym c.in-Some.ensures);
      allowed = is-suited x.0 x.1 x.4.stands.calls.valid c.args.self.now x.2 x.3 x.4 c.in-Some.statement.now (sym c.in-Some.ensures) (c.refusal_of.result, c.refusal_of.ensures.told, c.refusal_of.ensures.after, c.in_default-refusal_of.is);
    }

pub returns : goal.returns
returns c = record {
  effect = λ script rules t r at. subst (λ (u : Unfinished). HasEffect script rules t r (step script rules r t) (record c.args.self.now { state = c.issue.new.self; unfinished = u }) c.args.out.now (record { events = c.issue.new.events; entries = c.args.out.now.entries })) (sym c.issued.ensures) (issued-does script rules at.stands.calls.valid c.args.self.now t r at c.in-Some.statement.now (sym c.in-Some.ensures) c.issue.new.self c.args.out.now (record { events = c.issue.new.events; entries = c.args.out.now.entries }) (sym c.is_entered.ensures.joins ∙ c.if-is_entered.false) (λ counter value e. c.in_default-statement.not-Wait counter value e) (λ e. c.in_default-statement-2.not-Fence e) (c.refusal_of.result, c.refusal_of.ensures.told, c.refusal_of.ensures.after, c.in_default-refusal_of.is) refl c.in_ok-issue.ensures);
  reply = λ script rules t r at. issued-replies script rules at.stands.calls.valid c.args.self.now t r at c.in-Some.statement.now (sym c.in-Some.ensures) (sym c.is_entered.ensures.joins ∙ c.if-is_entered.false) (λ counter value e. c.in_default-statement.not-Wait counter value e) (λ e. c.in_default-statement-2.not-Fence e) (c.refusal_of.result, c.refusal_of.ensures.told, c.refusal_of.ensures.after, c.in_default-refusal_of.is);
}
