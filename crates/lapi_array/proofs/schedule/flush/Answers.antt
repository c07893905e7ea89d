use Rattle.std.proofs.Common.{◌≡◌, ◌+◌, ◌<◌, ◌==◌, ◌++◌, ◌∷◌, cond, ap, subst, ◌∙◌, arith}
use Rattle.lapi_base.specs.declared.schedule.Act.TheVariants.{Poll}
use Rattle.lapi_flush.specs.Counted.{counted_links}
use Rattle.lapi_blocks.specs.Plans.{tasks_of}
use Rattle.lapi_array.specs.Counting.{entries_of, sweep_number, new_of, counts_at}
use Rattle.lapi_array.proofs.ScheduleLines.{polled_first, link_added, whole_flush}
use Rattle.lapi_array.proofs.ScheduleCounts.{few_entries, only_few}
use Rattle.lapi_array.proofs.schedule.flush.Goals as goal

pub loop-other-init : goal.loop-other-init
loop-other-init c =
    c.in_ok-push.ensures
    ∙ polled_first c.args.lines.now (counts_at c.args.plan.now c.args.k (sweep_number c.args.sweep) c.args.task) c.args.task (new_of c.args.plan.now c.args.k (sweep_number c.args.sweep) c.args.task)

pub behind-back-requires-clause-room : goal.behind-back-requires-clause-room
behind-back-requires-clause-room c =
    let lo : c.loop-other.other < tasks_of c.args.plan.now = subst (λ n. c.loop-other.other < n) c.tasks-other-end.ensures c.loop-other-test.true in
    let few = few_entries c.args.plan.now c.args.k (sweep_number c.args.sweep) c.args.task c.loop-other.other c.args.task (entries_of c.args.entries.now) c.requires.at lo c.requires.task in
    omega (arith, few, c.new_numbers-count.ensures.few)

pub part-requires : goal.part-requires
part-requires c =
    let lo : c.loop-other.other < tasks_of c.args.plan.now = subst (λ n. c.loop-other.other < n) c.tasks-other-end.ensures c.loop-other-test.true in
    let there = few_entries c.args.plan.now c.args.k (sweep_number c.args.sweep) c.args.task c.args.task c.loop-other.other (entries_of c.args.entries.now) c.requires.at c.requires.task lo in
    let back = few_entries c.args.plan.now c.args.k (sweep_number c.args.sweep) c.args.task c.loop-other.other c.args.task (entries_of c.args.entries.now) c.requires.at lo c.requires.task in
    let more = only_few (c.loop-other.other == c.args.task) c.new_numbers-count.result 8 c.new_numbers-count.ensures.few in
    (omega (arith, there, c.of-first.ensures, c.new_numbers-count.ensures.few), omega (arith, back, more, c.behind-back.ensures, c.new_numbers-count.ensures.few))

pub loop-other-preserved : goal.loop-other-preserved
loop-other-preserved c =
    let lo : c.loop-other.other < tasks_of c.args.plan.now = subst (λ n. c.loop-other.other < n) c.tasks-other-end.ensures c.loop-other-test.true in
    link_added c.args.lines.now c.loop-other.lines c.part.new.lines (counts_at c.args.plan.now c.args.k (sweep_number c.args.sweep) c.args.task) c.args.task
    (new_of c.args.plan.now c.args.k (sweep_number c.args.sweep) c.args.task) c.loop-other.other c.of-first.result c.behind-back.result c.new_numbers-count.result
    c.loop-other.invariant
    (c.of-first.ensures ∙ c.requires.at.stand c.args.task c.loop-other.other c.requires.task lo)
    (c.behind-back.ensures ∙ ap (λ n. n + cond (c.loop-other.other == c.args.task) c.new_numbers-count.result 0) (c.requires.at.stand c.loop-other.other c.args.task lo c.requires.task))
    c.new_numbers-count.ensures.number
    c.in_ok-part.ensures

pub returns : goal.returns
returns c =
    let end : c.loop-other.other ≡ tasks_of c.args.plan.now = omega (arith, c.loop-other-test.false, c.loop-other.auto.other-end, c.tasks-other-end.ensures) in
    whole_flush c.args.lines.now c.loop-other.lines c.args.plan.now c.args.k (sweep_number c.args.sweep) c.args.task
    (c.loop-other.invariant ∙ ap (λ n. c.args.lines.now ++ (Poll c.args.task ∷ counted_links (counts_at c.args.plan.now c.args.k (sweep_number c.args.sweep) c.args.task) c.args.task (new_of c.args.plan.now c.args.k (sweep_number c.args.sweep) c.args.task) n)) end)
