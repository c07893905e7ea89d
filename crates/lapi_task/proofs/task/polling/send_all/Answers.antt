use Rattle.std.proofs.Common.{◌≡◌, ◌++◌, List, sym, ap, ◌∙◌, subst, arith, append_assoc, append-nil, add-one}
use Rattle.lapi_base.specs.declared.wire.WireEntry.{WireEntry}
use Rattle.lapi_base.proofs.ListLaws.{at-place, get-some}
use Rattle.lapi_link.specs.Sender.{entries_to}
use Rattle.lapi_task.specs.Copies.{AllSent, sent_now, packets_now}
use Rattle.lapi_task.specs.Sends.{entries_of}
use Rattle.lapi_task.proofs.Sending.PollSends.{none-sent, one-sent}
use Rattle.lapi_task.proofs.Sending.SenderLaws.{entries-none, entries-more}
use Rattle.lapi_task.proofs.task.polling.send_all.Goals as goal

pub loop-b-init : goal.loop-b-init
loop-b-init c = record {
  sent = none-sent c.args.senders.now.items;
  entries = sym (ap (λ (xs : List WireEntry). c.args.entries.now ++ xs) (entries-none packets_now c.args.senders.now.items) ∙ append-nil c.args.entries.now);
}

pub loop-b-preserved : goal.loop-b-preserved
loop-b-preserved c =
    let first = c.args.senders.now.items in
    let now = c.loop-b.senders.items in
    let b = c.loop-b.b in
    let h = c.loop-b.invariant.sent in
    let some = get-some now b (let lt = c.loop-b-test.true in let e = h.size in let r = c.requires in omega (arith, lt, e, r)) in
    let here = at-place now b some.0 c.index_mut-sender.result.now some.1 c.index_mut-sender.ensures.value in
    let own = sym (h.others b (omega arith)) ∙ some.1 in
    record {
      sent = one-sent b first now some.0 c.send.new.self h some.1 (c.in_ok-send.ensures.sent ∙ ap sent_now here);
      entries =
          c.in_ok-send.ensures.entries
          ∙ (λ i. c.loop-b.invariant.entries i ++ entries_to b (packets_now (here i)))
          ∙ append_assoc c.args.entries.now (entries_of packets_now first b) (entries_to b (packets_now some.0))
          ∙ ap (λ (xs : List WireEntry). c.args.entries.now ++ xs) (sym (entries-more packets_now first b some.0 own) ∙ ap (entries_of packets_now first) (sym (add-one b)));
    }

pub returns-clause-sent : goal.returns-clause-sent
returns-clause-sent c =
    let e : c.loop-b.b ≡ c.args.count = omega (arith, c.loop-b-test.false, c.loop-b.auto.b-end) in
    subst (λ n. AllSent n c.args.senders.now.items c.loop-b.senders.items) e c.loop-b.invariant.sent

pub returns-clause-entries : goal.returns-clause-entries
returns-clause-entries c =
    let e : c.loop-b.b ≡ c.args.count = omega (arith, c.loop-b-test.false, c.loop-b.auto.b-end) in
    c.loop-b.invariant.entries ∙ ap (λ n. c.args.entries.now ++ entries_of packets_now c.args.senders.now.items n) e
