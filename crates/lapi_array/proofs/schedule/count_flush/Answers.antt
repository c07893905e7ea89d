use Rattle.std.proofs.Common.{◌≡◌, ◌<◌, ◌==◌, ◌&&◌, sym, ap, subst, ◌∙◌, arith}
use Rattle.lapi_blocks.specs.Plans.{tasks_of}
use Rattle.lapi_array.specs.Counting.{entries_of, sweep_number, new_of, counts_at}
use Rattle.lapi_array.proofs.ScheduleCounts.{partly, partly_none, room_to, room_back, link_counted, flush_counted}
use Rattle.lapi_array.proofs.schedule.count_flush.Goals as goal

pub loop-other-init : goal.loop-other-init
loop-other-init c =
    λ x y lx ly.
    c.requires.at.stand x y lx ly
    ∙ sym (partly_none (counts_at c.args.plan.now c.args.k (sweep_number c.args.sweep) c.args.task) c.args.task (new_of c.args.plan.now c.args.k (sweep_number c.args.sweep) c.args.task) x y)

pub add-requires-clause-room : goal.add-requires-clause-room
add-requires-clause-room c =
    room_to c.args.plan.now c.args.k (sweep_number c.args.sweep) c.args.task (entries_of c.args.entries.now) (entries_of c.loop-other.entries) c.requires.at c.requires.task
    c.loop-other.other (subst (λ n. c.loop-other.other < n) c.tasks-other-end.ensures c.loop-other-test.true) c.loop-other.invariant
    c.new_numbers-count.result c.new_numbers-count.ensures.few

pub add-requires-in-loop-other-clause-room : goal.add-requires-in-loop-other-clause-room
add-requires-in-loop-other-clause-room c =
    let lo : c.loop-other.other < tasks_of c.args.plan.now = subst (λ n. c.loop-other.other < n) c.tasks-other-end.ensures c.loop-other-test.true in
    let few = c.requires.at.valid.tasks.1 in
    room_back c.args.plan.now c.args.k (sweep_number c.args.sweep) c.args.task (entries_of c.args.entries.now) (entries_of c.loop-other.entries) c.requires.at c.requires.task
    c.loop-other.other lo c.loop-other.invariant
    c.new_numbers-count.result (c.loop-other.other == c.args.task && c.args.task == c.loop-other.other) (entries_of c.add.new.self c.loop-other.other c.args.task) c.new_numbers-count.ensures.few
    (c.add.ensures c.loop-other.other c.args.task (omega (arith, lo, few)) (omega (arith, c.requires.task, few)))

pub loop-other-preserved : goal.loop-other-preserved
loop-other-preserved c =
    link_counted c.args.plan.now c.args.k (sweep_number c.args.sweep) c.args.task (entries_of c.loop-other.entries) (entries_of c.add.new.self) (entries_of c.add-in-loop-other.new.self)
    c.loop-other.other c.new_numbers-count.result c.requires.at.valid.tasks.1 c.loop-other.invariant c.new_numbers-count.ensures.number c.add.ensures c.add-in-loop-other.ensures

pub returns : goal.returns
returns c =
    let end : c.loop-other.other ≡ tasks_of c.args.plan.now = omega (arith, c.loop-other-test.false, c.loop-other.auto.other-end, c.tasks-other-end.ensures) in
    flush_counted c.args.plan.now c.args.k (sweep_number c.args.sweep) c.args.task (entries_of c.loop-other.entries)
    (λ x y lx ly. c.loop-other.invariant x y lx ly ∙ ap (λ n. partly (counts_at c.args.plan.now c.args.k (sweep_number c.args.sweep) c.args.task) c.args.task (new_of c.args.plan.now c.args.k (sweep_number c.args.sweep) c.args.task) n x y) end)
