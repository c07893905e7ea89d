use Rattle.std.proofs.Common.{◌≡◌, ◌++◌, ◌∷◌, take}
use Rattle.std.specs.List.{flat_map}
use Rattle.lapi_base.specs.Input.Tokens.{piece_text}
use Rattle.lapi_script.proofs.write.values.more_pieces.Given as goal

abbrev pub invariant-loop-each : goal.invariant-loop-each
invariant-loop-each l = l.out.items ≡ l.fn.out.items ++ flat_map (λ p. 44 ∷ piece_text p) (take l.each-index l.pieces)
