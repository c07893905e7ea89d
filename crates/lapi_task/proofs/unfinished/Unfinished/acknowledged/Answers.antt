use Rattle.std.proofs.Common.{take, sym, subst}
use Rattle.std.specs.Prelude.{slice_index_or}
use Rattle.lapi_task.proofs.Acknowledging.TimesLaws.{HasTaken, taken-more, some-left, take-next, known-at}
use Rattle.lapi_task.proofs.unfinished.Unfinished.acknowledged.Goals as goal

pub one_acknowledged-requires-clause-one : goal.one_acknowledged-requires-clause-one
one_acknowledged-requires-clause-one c =
    let xs = c.args.named.now in
    some-left c.args.self.now c.loop-i.self xs c.loop-i.i (slice_index_or xs c.loop-i.i 0) c.loop-i.invariant (take-next xs c.loop-i.i c.loop-i-test.true) c.requires.enough

pub loop-i-preserved : goal.loop-i-preserved
loop-i-preserved c =
    let xs = c.args.named.now in
    let n = c.loop-i.i in
    let x = slice_index_or xs n 0 in
    let next = take-next xs n c.loop-i-test.true in
    subst (HasTaken c.args.self.now c.one_acknowledged.new.self) (sym next)
    (taken-more c.args.self.now c.loop-i.self c.one_acknowledged.new.self (take n xs) x c.loop-i.invariant
    (known-at c.args.self.now c.loop-i.self (take n xs) xs n c.loop-i.invariant c.requires.known c.loop-i-test.true)
    (some-left c.args.self.now c.loop-i.self xs n x c.loop-i.invariant next c.requires.enough)
    c.one_acknowledged.ensures.left c.one_acknowledged.ensures.last c.one_acknowledged.ensures.more)
