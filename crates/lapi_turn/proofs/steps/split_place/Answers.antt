use Rattle.std.proofs.Common.{rules, ◌≡◌, sym, subst}
use Rattle.std.specs.Int.{bit_at}
use Rattle.lapi_base.proofs.BitSets.{has_each}
use Rattle.lapi_turn.proofs.Shares.{splits}
use Rattle.lapi_turn.proofs.steps.split_place.Goals as goal

pub split_seat-requires : goal.split_seat-requires
split_seat-requires g c = (
  search rules,
  search rules,
  splits g.V.Kept.list g.V.Kept.fixed _ c.args.place.now.id c.args.place.now.me.0 g.K.Mask.mask c.requires.rests.1 c.requires.known
      (λ r one. has_each c.args.place.now.me.0.rights c.args.mask c.requires.part r (subst (λ m. bit_at m r ≡ 1) (sym c.requires.mask) one)),
)
