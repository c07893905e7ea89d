use Rattle.std.proofs.Common.{[], ◌∷◌, ◌++◌, Some, sym, ap, ◌∙◌, subst}
use Rattle.atomic_table.specs.Table.{opening}
use Rattle.lapi_turn.specs.TurnRule.{TurnRule, first_view}
use Rattle.lapi_turn.proofs.Keeps.{opens}
use Rattle.lapi_turn.proofs.turn.Turn.new.Goals as goal

pub new-requires : goal.new-requires
new-requires g c =
    let f = g.V.Kept.fixed c.of-about.result.value in
    let items = c.in_ok-push.ensures.items ∙ ap (λ l. l ++ Some c.args.value ∷ []) c.new-slots.ensures.items in
    subst (λ l. TurnRule g.V.Kept.list g.V.Kept.fixed f (opening (0 ∷ 0 ∷ 0 ∷ []) l (first_view f))) (sym items)
    (opens g.V.Kept.list g.V.Kept.fixed f c.args.value c.requires.empty (ap g.V.Kept.fixed (sym c.of-about.ensures)))
