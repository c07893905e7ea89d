use Rattle.std.proofs.Common.{◌++◌, ◌∷◌, []}
use Rattle.lapi_base.specs.Input.Tokens.{listed_of}
use Rattle.lapi_script.specs.Vectors.{address_by}
use Rattle.lapi_script.proofs.PieceLists.{next_piece, seen_push, seen_many, many_listed}
use Rattle.lapi_script.proofs.pieces.listed_of.Goals as goal

pub loop-part-preserved-then-as_slice-lt16 : goal.loop-part-preserved-then-as_slice-lt16
loop-part-preserved-then-as_slice-lt16 c =
    let seen = c.loop-part.invariant.0 in
    let piece = c.in_ok-piece.piece in (
      seen ++ piece ∷ [],
      next_piece (address_by c.args.side) seen c.loop-part.parts c.next.new.self c.in-Some.part.now piece _ c.in-Some.ensures c.in_ok-piece.ensures c.loop-part.invariant.1,
      rw c.push.ensures (seen_push c.loop-part.many c.loop-part.list seen piece c.loop-part.invariant.2),
    )

pub loop-part-preserved : goal.loop-part-preserved
loop-part-preserved c =
    let seen = c.loop-part.invariant.0 in
    let piece = c.in_ok-piece.piece in (
      seen ++ piece ∷ [],
      next_piece (address_by c.args.side) seen c.loop-part.parts c.next.new.self c.in-Some.part.now piece _ c.in-Some.ensures c.in_ok-piece.ensures c.loop-part.invariant.1,
      seen_many c.loop-part.many c.loop-part.list seen piece (rw c.as_slice.ensures.items at c.if-as_slice-lt16.false) c.loop-part.invariant.2,
    )

pub returns-then-many : goal.returns-then-many
unfolding listed_of
returns-then-many c =
    many_listed c.loop-part.invariant.0 _ (rw c.in_default.ensures.0 at c.loop-part.invariant.1) (rw c.if-many.true at c.loop-part.invariant.2)
