use Rattle.std.proofs.Common.{◌≡◌, ◌<◌, length, sym, ap, ◌∙◌, arith}
use Rattle.lapi_task.proofs.Sending.Paying.{none-paid, may-still, one-paid, all-paid}
use Rattle.lapi_task.proofs.task.Task.pay_all.Goals as goal

pub loop-to-init : goal.loop-to-init
loop-to-init c = none-paid c.args.self.now c.args.entries.now

pub pay-requires-clause-may : goal.pay-requires-clause-may
pay-requires-clause-may c =
    let same = ap (λ (x : _). x.sizes.tasks) c.loop-to.invariant.rest in
    may-still c.args.self.now c.loop-to.self c.loop-to.to c.loop-to.invariant.rest (c.requires.may.tasks c.loop-to.to (let lt = c.loop-to-test.true in omega (arith, lt, same)))

pub loop-to-preserved : goal.loop-to-preserved
loop-to-preserved c =
    let same = ap (λ (x : _). x.sizes.tasks) c.loop-to.invariant.rest in
    let there : c.loop-to.to < length c.loop-to.self.owed.items = let lt = c.loop-to-test.true in let count = c.loop-to.invariant.count in let size = c.requires.may.owed in omega (arith, lt, same, count, size) in
    let paid = c.in_ok-pay.ensures in
    one-paid c.loop-to.to c.args.self.now c.loop-to.self c.pay.new.self c.args.entries.now c.loop-to.entries c.pay.new.entries c.loop-to.invariant there paid.paid paid.count paid.rest paid.entries

pub returns-clause-paid : goal.returns-clause-paid
returns-clause-paid c =
    let last : c.loop-to.to ≡ c.args.self.now.sizes.tasks = omega (arith, c.loop-to-test.false, c.loop-to.auto.to-end) in
    all-paid c.loop-to.to c.args.self.now c.loop-to.self c.args.entries.now c.loop-to.entries c.loop-to.invariant (c.requires.may.owed ∙ sym last)
