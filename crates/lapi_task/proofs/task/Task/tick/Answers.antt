use Rattle.std.proofs.Common.{◌≡◌, ◌++◌, Some, refl, sym, ap, ◌∙◌, arith}
use Rattle.std.specs.Prelude.{slice_get}
use Rattle.std.proofs.lemmas.Option.{slice_get_read}
use Rattle.lapi_link.specs.Sender.{kept}
use Rattle.lapi_task.specs.Sends.{entries_of}
use Rattle.lapi_task.proofs.Sending.TickLaws.{resent-none, resent-more, tick-does}
use Rattle.lapi_task.proofs.task.Task.tick.Goals as goal

pub loop-to-init : goal.loop-to-init
loop-to-init c = (resent-none c.args.self.now.senders.items c.args.out.now.entries, refl)

pub index-requires : goal.index-requires
index-requires c =
    let stands = c.requires.4.stands in
    let count = stands.sender_count in
    let tasks = ap (λ (z : _). z.tasks) stands.calls.sizes in
    let last = c.loop-to-test.true in
    let ok = c.args.self.now.senders.ok.0 in
    omega (arith, count, tasks, last, ok)

pub loop-to-preserved : goal.loop-to-preserved
loop-to-preserved c =
    let ends = c.args.self.now.senders.items in
    let stands = c.requires.4.stands in
    let count = stands.sender_count in
    let tasks = ap (λ (z : _). z.tasks) stands.calls.sizes in
    let last = c.loop-to-test.true in
    let here : slice_get ends c.loop-to.to ≡ Some c.index.result.now = slice_get_read ends _ c.loop-to.to c.index.result.now refl (omega (arith, count, tasks, last)) c.index.ensures in
    (resent-more ends c.args.out.now.entries c.loop-to.out.entries c.resend.new.entries c.loop-to.to c.loop-to.to c.index.result.now c.loop-to.invariant.0 here refl c.in_ok-resend.ensures, c.loop-to.invariant.1)

pub returns : goal.returns
returns c = λ script rules t r at.
    let ends = c.args.self.now.senders.items in
    let count = at.stands.sender_count in
    let tasks = ap (λ (z : _). z.tasks) at.stands.calls.sizes in
    let reached : c.loop-to.to ≡ c.args.self.now.sizes.tasks = omega (arith, c.loop-to-test.false, c.loop-to.auto.to-end) in
    let last = reached ∙ tasks ∙ sym count in
    tick-does script rules t r c.args.self.now c.args.out.now c.loop-to.out at.stands c.loop-to.invariant.1 (c.loop-to.invariant.0 ∙ ap (λ n. c.args.out.now.entries ++ entries_of kept ends n) last)
