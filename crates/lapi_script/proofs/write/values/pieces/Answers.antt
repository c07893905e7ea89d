use Rattle.std.proofs.lemmas.Result.{on_ok_weaker}
use Rattle.lapi_script.proofs.Texts.{then_others}
use Rattle.lapi_script.proofs.write.values.pieces.Goals as goal

pub returns-in_ok-piece-in-Some : goal.returns-in_ok-piece-in-Some
returns-in_ok-piece-in-Some c =
    on_ok_weaker c.more_pieces.result
    (λ text. rw c.in-Some.ensures.cases.0 (then_others c.args.out.now.items c.piece.new.out.items c.more_pieces.new.out.items c.in-Some.first.now c.in-Some.others.now c.in_ok-piece-in-Some.ensures text))
    c.more_pieces.ensures
