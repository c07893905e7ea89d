use Rattle.std.proofs.Common.{[]}
use Rattle.lapi_link.proofs.ArrivalLaws.{may-take}
use Rattle.lapi_leaf_tests.proofs.FirstFragments.{script, has-window, has-unit, may-arrive}
use Rattle.lapi_leaf_tests.proofs.link.an_answer_is_kept_for_a_message_in_part.Goals as goal

pub arrive-requires : goal.arrive-requires
arrive-requires g c =
    let p = c.later_fragment-packet in
    may-take script c.in_ok-receiver.receiver [] p.result (c.in_ok-receiver.ensures script has-window has-unit) (may-arrive p.result p.ensures.number p.ensures.sizes.0 p.ensures.sizes.1 p.ensures.sizes.2)
