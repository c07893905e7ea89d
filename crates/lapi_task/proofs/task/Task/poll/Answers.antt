use Rattle.std.proofs.Common.{◌≡◌, ◌++◌, ℕ, refl, sym, ap, subst, arith}
use Rattle.lapi_base.proofs.Results.{on-oks}
use Rattle.lapi_task.specs.Copies.{AllSent, packets_now}
use Rattle.lapi_task.specs.Sends.{entries_of}
use Rattle.lapi_task.proofs.Sending.Paying.{IsPaid, may-pay, may-pay-sent}
use Rattle.lapi_task.proofs.Sending.PollSends.{poll-does}
use Rattle.lapi_task.proofs.task.Task.poll.Goals as goal

pub send_all-requires : goal.send_all-requires
send_all-requires c =
    let all = c.in_ok-copy_all.ensures c.requires.0 c.requires.1 c.requires.2 c.requires.3 c.requires.4 in
    let count = all.stands.sender_count in
    let tasks = ap (λ (z : _). z.tasks) all.stands.calls.sizes in
    omega (arith, count, tasks)

pub pay_all-requires : goal.pay_all-requires
pay_all-requires c =
    let all = c.in_ok-copy_all.ensures c.requires.0 c.requires.1 c.requires.2 c.requires.3 c.requires.4 in
    let task = c.copy_all.new.self in
    record { may = may-pay-sent task (record task { senders = c.send_all.new.senders }) refl (may-pay c.requires.0 c.requires.1 c.requires.2 _ task c.requires.4.known all.stands) }

pub returns : goal.returns
returns c = on-oks _ _ _ c.pay_all.result (λ put none. λ script rules t r at.
    let all = c.in_ok-copy_all.ensures script rules t r at in
    let tasks = ap (λ (z : _). z.tasks) all.stands.calls.sizes in
    let task = c.copy_all.new.self in
    let ends = task.senders.items in
    let sent = record task { senders = c.send_all.new.senders } in
    let pay = c.pay_all.ensures in
    poll-does script rules t r at.recorded task sent c.pay_all.new.self c.args.out.now (record { events = c.copy_all.new.events; entries = c.pay_all.new.entries }) c.copy_all.new.events c.send_all.new.entries at.known all refl
    (subst (λ (n : ℕ). AllSent n ends c.send_all.new.senders.items) tasks c.in_ok-send_all.ensures.sent) refl
    (subst (λ (n : ℕ). c.send_all.new.entries ≡ c.args.out.now.entries ++ entries_of packets_now ends n) tasks c.in_ok-send_all.ensures.entries)
    (subst (λ (n : ℕ). IsPaid n sent c.pay_all.new.self c.send_all.new.entries c.pay_all.new.entries) tasks
    (record { entries = put; paid = none; count = pay.count; rest = pay.rest }))) c.pay_all.ensures.entries c.pay_all.ensures.paid
