use Rattle.std.proofs.Common.{arith}
use Rattle.lapi_task.proofs.Copying.PollCopies.{none-copied, one-left, copies-next, one-copied, all-copied}
use Rattle.lapi_task.proofs.task.Task.copy_all.Goals as goal

pub loop-copy-init : goal.loop-copy-init
loop-copy-init c = λ script rules t r at. none-copied script rules t r c.args.self.now c.args.events.now at

pub copy_next-requires : goal.copy_next-requires
copy_next-requires c =
    let script = c.requires.0 in
    let rules = c.requires.1 in
    let t = c.requires.2 in
    let r = c.requires.3 in
    let at = c.requires.4 in
    let first = c.args.self.now in
    let h = c.loop-copy.invariant script rules t r at in
    let size = first.state.uncopied.ok.0 in
    let left = one-left script rules t r first c.loop-copy.self c.args.events.now c.loop-copy.events c.loop-copy._copy at h (let lt = c.loop-copy-test.true in let e = c.len-copy-end.ensures in omega (arith, lt, e, size)) in
    (script, rules, t, _, left.0, left.1, copies-next script rules t r first c.loop-copy.self c.args.events.now c.loop-copy.events c.loop-copy._copy left.0 left.1 at h left.2)

pub loop-copy-preserved : goal.loop-copy-preserved
loop-copy-preserved c = λ script rules t r at.
    let first = c.args.self.now in
    let h = c.loop-copy.invariant script rules t r at in
    let size = first.state.uncopied.ok.0 in
    let left = one-left script rules t r first c.loop-copy.self c.args.events.now c.loop-copy.events c.loop-copy._copy at h (let lt = c.loop-copy-test.true in let e = c.len-copy-end.ensures in omega (arith, lt, e, size)) in
    let next = copies-next script rules t r first c.loop-copy.self c.args.events.now c.loop-copy.events c.loop-copy._copy left.0 left.1 at h left.2 in
    one-copied script rules t r c.loop-copy.self c.copy_next.new.self c.args.events.now c.loop-copy.events c.copy_next.new.events c.loop-copy._copy left.0 left.1 h left.2 (c.in_ok-copy_next.ensures script rules t _ left.0 left.1 next)

pub returns : goal.returns
returns c = λ script rules t r at.
    let first = c.args.self.now in
    let size = first.state.uncopied.ok.0 in
    all-copied script rules t r first c.loop-copy.self c.args.events.now c.loop-copy.events c.loop-copy._copy at (c.loop-copy.invariant script rules t r at)
    (let no = c.loop-copy-test.false in let e = c.len-copy-end.ensures in let bound = c.loop-copy.auto._copy-end in omega (arith, no, e, size, bound))
