use Rattle.std.proofs.Common.{rules, ap, ◌∙◌}
use Rattle.lapi_turn.proofs.Shares.{joins, checks, joined_tells}
use Rattle.lapi_turn.proofs.steps.join_places.Goals as goal

pub join_seat-requires : goal.join_seat-requires
join_seat-requires g c =
    (search rules, search rules, search rules, search rules, joins g.V.Kept.list g.V.Kept.fixed _ c.args.place.now.id c.args.place.now.me.0 c.args.other.id c.args.other.me.0 c.requires.rests.0.1 c.requires.rests.1.1 c.requires.known)

pub load-requires : goal.load-requires
load-requires g c = let t = joined_tells c.args.place.now.me.0 c.args.other.me.0 in let now = c.join_seat.ensures.2 in
    (search rules, search rules, checks g.V.Kept.list g.V.Kept.fixed _ _ _ c.join_seat.new.seat.me t.other t.theirs (ap (λ m. m.0.stage) now ∙ t.told) (ap (λ m. m.0.fixed) now ∙ t.fixes ∙ c.requires.known))
