use Rattle.std.proofs.Common.{◌≡◌, ◌<◌, true, get_or, length, sym, ap, ◌∙◌, subst, arith}
use Rattle.lapi_base.specs.Record.Below.{every_below}
use Rattle.lapi_base.proofs.BelowLaws.{every-more, every-none}
use Rattle.lapi_world.proofs.Acts.{task-read}
use Rattle.lapi_task.specs.Still.{is_still}
use Rattle.lapi_world.proofs.Quietness.{all-still, one-busy}
use Rattle.lapi_world.proofs.network.Network.is_quiet.Goals as goal

pub loop-task-init : goal.loop-task-init
loop-task-init c = λ script rules r is h. every-none (is_still script rules r)

pub loop-task-preserved : goal.loop-task-preserved
loop-task-preserved c = λ script rules r is h.
    let same = c.deref-task-items.ensures.value in
    let t = c.loop-task.task-index in
    let known : t < script.tasks = (let e = ap length same in let count = h.task_count in omega (arith, c.loop-task-test.true, e, count)) in
    let at = task-read script rules r t c.args.self.now c.task-item.result is h known (c.task-item.is ∙ ap (λ xs. get_or xs t c.task-item.result) same) in
    every-more t (is_still script rules r) (c.loop-task.invariant script rules r is h) (sym (c.still.ensures script rules t r at) ∙ c.if-not-still.false)

pub returns-then-not-still : goal.returns-then-not-still
returns-then-not-still c = λ script rules r is h.
    let same = c.deref-task-items.ensures.value in
    let t = c.loop-task.task-index in
    let known : t < script.tasks = (let e = ap length same in let count = h.task_count in omega (arith, c.loop-task-test.true, e, count)) in
    let at = task-read script rules r t c.args.self.now c.task-item.result is h known (c.task-item.is ∙ ap (λ xs. get_or xs t c.task-item.result) same) in
    one-busy script rules r t known (sym (c.still.ensures script rules t r at) ∙ c.if-not-still.true)

pub returns : goal.returns
returns c = λ script rules r is h.
    let end : c.loop-task.task-index ≡ script.tasks = (let e = ap length c.deref-task-items.ensures.value in let count = h.task_count in omega (arith, c.loop-task-test.false, c.loop-task.auto.task-index-end, e, count)) in
    all-still script rules r (subst (λ n. every_below n (is_still script rules r) ≡ true) end (c.loop-task.invariant script rules r is h))
