use Rattle.std.proofs.Common.{◌≡◌, List, length}
use Rattle.std.specs.Prelude.{◌==◌}
use Rattle.std.specs.List.{slice_split}
use Rattle.lapi_base.specs.declared.piece.Piece.{Piece}
use Rattle.lapi_base.specs.Input.Tokens.{pieces_of}
use Rattle.lapi_script.specs.Vectors.{address_by}
use Rattle.lapi_script.proofs.PieceLists.{with_front, IsSeen}
use Rattle.lapi_script.proofs.pieces.listed_of.Given as goal

abbrev pub invariant-loop-part : goal.invariant-loop-part
invariant-loop-part l = (seen : List Piece)
    × (with_front seen (pieces_of (address_by l.side) l.parts) ≡ pieces_of (address_by l.side) (slice_split (λ b. b == 44) l.text)) × IsSeen l.many l.list seen

abbrev pub decreases-loop-part : goal.decreases-loop-part
decreases-loop-part l = length l.parts
