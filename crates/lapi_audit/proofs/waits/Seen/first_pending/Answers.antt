use Rattle.std.proofs.Common.{◌≡◌, ◌≤◌, true, sym, ◌∙◌, subst, get_or, arith}
use Rattle.lapi_base.specs.Record.Below.{every_below}
use Rattle.lapi_base.proofs.BelowLaws.{every_below-at, every-more, least_missing-is, least_missing-whole}
use Rattle.lapi_audit.specs.Noted.{stood}
use Rattle.lapi_audit.specs.Waits as waits
use Rattle.lapi_audit.proofs.waits.Seen.first_pending.Goals as goal

pub returns-then-not-is_clear : goal.returns-then-not-is_clear
returns-then-not-is_clear c =
    let seen = c.args.self.now in
    let p = waits.clear_at seen.setting.script.now (stood seen.table.now) c.args.task in
    let n = get_or seen.turns.now.next.items c.args.task 0 in
    let j = c.loop-j.j in
    let next = c.next-next.ensures in
    let l = c.loop-j-test.true in
    sym (least_missing-is n p j (λ k lt. every_below-at j p k c.loop-j.invariant lt) (sym c.is_clear.ensures ∙ c.if-not-is_clear.true) (let q : j ≤ n = omega arith in q))

pub loop-j-preserved : goal.loop-j-preserved
loop-j-preserved c = every-more c.loop-j.j (waits.clear_at c.args.self.now.setting.script.now (stood c.args.self.now.table.now) c.args.task) c.loop-j.invariant (sym c.is_clear.ensures ∙ c.if-not-is_clear.false)

pub returns : goal.returns
returns c =
    let seen = c.args.self.now in
    let p = waits.clear_at seen.setting.script.now (stood seen.table.now) c.args.task in
    let n = get_or seen.turns.now.next.items c.args.task 0 in
    let j = c.loop-j.j in
    let next = c.next-next.ensures in
    let past = c.loop-j-test.false in
    let ahead = c.requires.search.ahead in
    let first = c.first-j.ensures in
    let end = c.loop-j.auto.j-end in
    next ∙ sym (least_missing-whole n p (subst (λ m. every_below m p ≡ true) (let q : j ≡ n = omega arith in q) c.loop-j.invariant))
