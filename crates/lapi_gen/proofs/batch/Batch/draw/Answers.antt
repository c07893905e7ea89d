use Rattle.std.proofs.Common.{refl, arith}
use Rattle.lapi_gen.proofs.Drawn.{Stands, next_stands, value_at, batch_is}
use Rattle.lapi_gen.proofs.batch.Batch.draw.Goals as goal

pub returns-clause-batch : goal.returns-clause-batch
returns-clause-batch c =
    let n = c.args.random.now.number in
    let b = c.args.b in
    let s0 : Stands n b 0 c.args.random.now = record { number_is = refl; drawn_is = omega (arith, c.requires.place) } in
    let s1 = next_stands n b 0 _ c.pick-distance.new.self s0 c.pick-distance.ensures.drawn in
    let s2 = next_stands n b 1 _ c.pick.new.self s1 c.pick.ensures.drawn in
    let s3 = next_stands n b 2 _ c.pick-len.new.self s2 c.pick-len.ensures.drawn in
    let s4 = next_stands n b 3 _ c.pick-lost.new.self s3 c.pick-lost.ensures.drawn in
    let s5 = next_stands n b 4 _ c.pick-2.new.self s4 c.pick-2.ensures.drawn in
    let s6 = next_stands n b 5 _ c.pick-3.new.self s5 c.pick-3.ensures.drawn in
    let s7 = next_stands n b 6 _ c.pick-4.new.self s6 c.pick-4.ensures.drawn in
    let s8 = next_stands n b 7 _ c.pick-5.new.self s7 c.pick-5.ensures.drawn in
    batch_is n b _ _ _ _ c.requests-requests.result _ _ _ _ _ _
    (value_at n b 0 _ _ _ s0 c.pick-distance.ensures.value)
    (value_at n b 1 _ _ _ s1 c.pick.ensures.value)
    c.of-kind.ensures
    (value_at n b 2 _ _ _ s2 c.pick-len.ensures.value)
    (value_at n b 3 _ _ _ s3 c.pick-lost.ensures.value)
    c.requests-requests.ensures
    (value_at n b 4 _ _ _ s4 c.pick-2.ensures.value)
    (value_at n b 5 _ _ _ s5 c.pick-3.ensures.value)
    (value_at n b 6 _ _ _ s6 c.pick-4.ensures.value)
    (value_at n b 7 _ _ _ s7 c.pick-5.ensures.value)
    (value_at n b 8 _ _ _ s8 c.pick-6.ensures.value)
