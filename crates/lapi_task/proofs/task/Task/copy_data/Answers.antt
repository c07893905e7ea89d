use Rattle.std.proofs.Common.{[], ◌∷◌, ◌++◌, length, refl, ap, ◌∙◌, subst, sym, arith}
use Rattle.lapi_base.specs.declared.event.Event.TheVariants.{Copy}
use Rattle.lapi_base.specs.Record.Fragments.{fragments_in}
use Rattle.lapi_base.proofs.Results.{on-ok}
use Rattle.lapi_task.specs.declared.copy.DataCopy.{DataCopy}
use Rattle.lapi_task.specs.declared.task.Task.{Task}
use Rattle.lapi_task.specs.Copies.{IsCopyable, IsCopied}
use Rattle.lapi_task.specs.StandsFor.{task_unit}
use Rattle.lapi_task.proofs.Copying.CopyLaws.{popped-some, popped-asked, found-data, found-sendable, found-copy, copyable, has-count, has-copied}
use Rattle.lapi_task.proofs.task.Task.copy_data.Goals as goal

pub unreachable-requires : goal.unreachable-requires
unreachable-requires c =
    let x = c.requires in
    popped-some x.0 x.1 x.2 x.5.before x.3 c.args.i x.4 x.5.next x.6 c.args.self.now x.5.popped _ c.in_default.ensures refl

pub of-copy-requires-clause-asked : goal.of-copy-requires-clause-asked
of-copy-requires-clause-asked c =
    let x = c.requires in
    popped-asked x.0 x.1 x.2 x.5.before x.3 c.args.i x.4 x.5.next x.6 c.args.self.now x.5.popped

pub of-copy-requires-clause-statement : goal.of-copy-requires-clause-statement
of-copy-requires-clause-statement c =
    let x = c.requires in
    found-data x.0 x.1 x.2 x.5.before x.3 c.args.i x.4 x.5.next x.6 c.args.self.now x.5.popped c.in-Some.statement.now c.in-Some.ensures

pub of-copy-requires-clause-sendable : goal.of-copy-requires-clause-sendable
of-copy-requires-clause-sendable c =
    let x = c.requires in
    found-sendable x.0 x.1 x.2 x.5.before x.3 c.args.i x.4 x.5.next x.6 c.args.self.now x.5.popped c.in-Some.statement.now c.in-Some.ensures

pub copy-requires : goal.copy-requires
copy-requires c =
    let x = c.requires in
    let task = c.args.self.now in
    let is = found-copy x.0 x.1 x.2 x.5.before x.3 c.args.i x.4 x.5.next x.6 task x.5.popped c.in-Some.statement.now c.in-Some.ensures c.of-copy.result c.of-copy.ensures in
    subst (λ (d : DataCopy). IsCopyable (task_unit task) task d) (sym is) (copyable x.0 x.1 x.2 x.5.before x.3 c.args.i x.4 x.5.next x.6 task x.5.popped)

pub copied-requires : goal.copied-requires
copied-requires c =
    let x = c.requires in
    let there = has-count x.0 x.1 x.2 x.5.before x.3 c.args.i x.4 x.5.next x.6 in
    let same = ap (λ (y : Task). length y.unfinished.left) c.in_ok-copy.ensures.rest in
    let popped = ap (λ (y : Task). length y.unfinished.left) x.5.popped.others in
    omega (arith, there, same, popped)

pub returns : goal.returns
returns c = on-ok _ _ c.push.result (λ put. λ script rules t r rest now plain.
    let task = c.args.self.now in
    let is = found-copy script rules t now.before r c.args.i rest now.next plain task now.popped c.in-Some.statement.now c.in-Some.ensures c.of-copy.result c.of-copy.ensures in
    has-copied script rules t now.before r c.args.i rest now.next plain task now.popped c.copy.new.self c.copied.new.self c.args.events.now c.push.new.self
    (subst (λ (d : DataCopy). IsCopied (task_unit task) d task c.copy.new.self) is c.in_ok-copy.ensures)
    c.fragment_count-count.result
    (c.fragment_count-count.ensures ∙ (λ k. fragments_in (c.unit.ensures.unit k) (is k).message.length))
    c.copied.ensures
    (put ∙ ap (λ (d : DataCopy). c.args.events.now ++ Copy d.message.name ∷ []) is)) c.push.ensures.ok
