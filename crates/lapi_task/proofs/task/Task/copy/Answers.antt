use Rattle.std.proofs.Common.{ℕ, List, refl, sym, ◌∙◌, subst}
use Rattle.lapi_base.proofs.ListLaws.{at-place}
use Rattle.lapi_base.proofs.Results.{on-ok}
use Rattle.lapi_link.specs.Sender.{SendingEnd}
use Rattle.lapi_task.specs.Copies.{source}
use Rattle.lapi_task.specs.Outgoing.{AreSpelled, with_message}
use Rattle.lapi_task.proofs.task.Task.copy.Goals as goal

pub append-requires-clause-spelled : goal.append-requires-clause-spelled
append-requires-clause-spelled c = subst (λ (u : ℕ). AreSpelled u c.args.copy.message (source c.args.self.now.state.memory c.args.copy)) (sym c.unit.ensures.unit) c.requires.spelled

pub returns : goal.returns
returns c =
    let message = c.args.copy.message in
    on-ok _ _ c.announce.result (λ same. record {
      sender = c.append.new.sender;
      senders = refl {A = List SendingEnd};
      change = λ s at.
          let here = at-place c.args.self.now.senders.items message.to s c.index_mut-sender.result.now at c.index_mut-sender.ensures.value in
          c.in_ok-append.ensures ∙ (λ k. with_message (c.unit.ensures.unit k) message (source c.args.self.now.state.memory c.args.copy) (here k));
      counters = same;
      rest = refl;
    }) c.announce.ensures
