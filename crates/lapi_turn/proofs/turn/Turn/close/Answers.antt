use Rattle.std.proofs.Common.{◌≡◌, Some, refl, sym, ap, ◌∙◌, subst}
use Rattle.std.specs.Option.{IsSome}
use mathlib.Core.Option.{some-injective}
use Rattle.lapi_turn.proofs.Shares.{closes}
use Rattle.lapi_turn.proofs.turn.Turn.close.Goals as goal

pub unwrap-requires : goal.unwrap-requires
unwrap-requires g c =
    let x = closes g.V.Kept.list g.V.Kept.fixed (g.V.Kept.fixed c.args.self.table.shared.key.value) c.args.seat.place.id c.args.seat.place.me.0 _ _ c.args.seat.rests.1 c.requires.rights c.close_with-closed.ensures.values.2 in
    let is : c.take-value.result ≡ Some x.0 = some-injective _ _ (sym c.take-value.ensures.value ∙ x.1) in
    subst IsSome (sym is) refl

pub returns-clause-list : goal.returns-clause-list
returns-clause-list g c =
    let x = closes g.V.Kept.list g.V.Kept.fixed (g.V.Kept.fixed c.args.self.table.shared.key.value) c.args.seat.place.id c.args.seat.place.me.0 _ _ c.args.seat.rests.1 c.requires.rights c.close_with-closed.ensures.values.2 in
    let is : c.take-value.result ≡ Some x.0 = some-injective _ _ (sym c.take-value.ensures.value ∙ x.1) in
    let same : Some c.unwrap.result ≡ Some x.0 = sym c.unwrap.ensures ∙ is in let xs : c.unwrap.result ≡ x.0 = cc in
    ap g.V.Kept.list xs ∙ x.2

pub returns-clause-fixed : goal.returns-clause-fixed
returns-clause-fixed g c =
    let x = closes g.V.Kept.list g.V.Kept.fixed (g.V.Kept.fixed c.args.self.table.shared.key.value) c.args.seat.place.id c.args.seat.place.me.0 _ _ c.args.seat.rests.1 c.requires.rights c.close_with-closed.ensures.values.2 in
    let is : c.take-value.result ≡ Some x.0 = some-injective _ _ (sym c.take-value.ensures.value ∙ x.1) in
    let same : Some c.unwrap.result ≡ Some x.0 = sym c.unwrap.ensures ∙ is in let xs : c.unwrap.result ≡ x.0 = cc in
    ap g.V.Kept.fixed xs ∙ x.3
