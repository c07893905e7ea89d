-- Lines of gets, vectors and read-modify-writes, also at tables' addresses, and which limit of several is named.
use Rattle.std.proofs.Common.{◌≡◌, ℕ, List, [], ◌∷◌, ◌++◌, Some, None, Ok, Err, refl}
use Rattle.std.specs.Prelude.{codes, replicate}
use Rattle.std.specs.List.{join_with_byte}
use Rattle.lapi_base.specs.declared.address.Addr.TheVariants.{Plain, Table}
use Rattle.lapi_base.specs.declared.vector.Vector.{Vector}
use Rattle.lapi_base.specs.declared.vector.Vector.TheVariants.{Stride}
use Rattle.lapi_base.specs.declared.statement.RmwOp.TheVariants.{Add, Or, Swap, Cas}
use Rattle.lapi_base.specs.declared.statement.Statement.TheVariants.{Get, Putv, Getv, Rmw}
use Rattle.lapi_base.specs.declared.input.Which.TheVariants as which
use Rattle.lapi_base.specs.declared.input.LineError.TheVariants.{Syntax, Limit}
use Rattle.lapi_base.specs.Input.Reading.{after}
use Rattle.lapi_text.proofs.Worked.{reading, smallest_with, with_line, filled, piece}

get_read : with_line 5 (codes "get 1 16 0 8 - 0") ≡ Ok (smallest_with (Get 1 (Plain 16) 0 8 None (Some 0)))
unfolding reading
get_read = refl

putv_read : with_line 5 (codes "putv 1 L:0:4,8:12 S:16:4:8:4 - 0 -") ≡ Ok (smallest_with (Putv 1 (Vector.List (piece (Plain 0) 4 ∷ piece (Plain 8) 12 ∷ [])) (Stride (Plain 16) 4 8 4) None (Some 0) None))
unfolding reading
putv_read = refl

getv_read : with_line 5 (codes "getv 1 S:0:4:8:2 L:16:8 1 -") ≡ Ok (smallest_with (Getv 1 (Stride (Plain 0) 4 8 2) (Vector.List (piece (Plain 16) 8 ∷ [])) (Some 1) None))
unfolding reading
getv_read = refl

one_operand_read : (with_line 5 (codes "rmw 1 add 0 1 8 -") ≡ Ok (smallest_with (Rmw 1 Add (Plain 0) 1 0 8 None)))
    × (with_line 5 (codes "rmw 1 or 0 1 8 -") ≡ Ok (smallest_with (Rmw 1 Or (Plain 0) 1 0 8 None)))
    × (with_line 5 (codes "rmw 1 swap 0 1 8 -") ≡ Ok (smallest_with (Rmw 1 Swap (Plain 0) 1 0 8 None)))
unfolding reading
one_operand_read = (refl, refl, refl)

compare_and_swap_read : with_line 5 (codes "rmw 1 cas 0 1 2 8 3") ≡ Ok (smallest_with (Rmw 1 Cas (Plain 0) 1 2 8 (Some 3)))
unfolding reading
compare_and_swap_read = refl

tables_read : (with_line 5 (codes "get 1 @0+4 0 8 - -") ≡ Ok (smallest_with (Get 1 (Table 0 4) 0 8 None None))) × (with_line 5 (codes "rmw 1 or @0 1 0 -") ≡ Ok (smallest_with (Rmw 1 Or (Table 0 0) 1 0 0 None)))
unfolding reading
tables_read = (refl, refl)

putv_at_a_table_read : with_line 5 (codes "putv 1 L:0:1,@0+4:2 S:0:3:3:1 - - -")
    ≡ Ok (smallest_with (Putv 1 (Vector.List (piece (Plain 0) 1 ∷ piece (Table 0 4) 2 ∷ [])) (Stride (Plain 0) 3 3 1) None None None))
unfolding reading
putv_at_a_table_read = refl

getv_at_a_table_read : with_line 5 (codes "getv 1 S:@0:8:8:2 L:0:16 - -") ≡ Ok (smallest_with (Getv 1 (Stride (Table 0 0) 8 8 2) (Vector.List (piece (Plain 0) 16 ∷ [])) None None))
unfolding reading
getv_at_a_table_read = refl

-- ---- 17 pieces

-- a put of 16 pieces and one more to as many
abbrev crowded : List ℕ → List ℕ
crowded last = codes "putv 1 L:" ++ join_with_byte 44 (replicate 16 (codes "0:4") ++ last ∷ []) ++ codes " S:0:4:8:17 - - -"

pieces_too_many : with_line 5 (crowded (codes "0:4")) ≡ Err (Limit which.Pieces, 5)
unfolding reading
pieces_too_many = refl

blocks_too_many : with_line 5 (codes "getv 1 S:0:4:8:17 L:0:68 - -") ≡ Err (Limit which.Pieces, 5)
unfolding reading
blocks_too_many = refl

pieces_at_tables_too_many : with_line 5 (crowded (codes "@0:4")) ≡ Err (Limit which.Pieces, 5)
unfolding reading
pieces_at_tables_too_many = refl

statements_before_pieces : (after (filled 511) (crowded (codes "0:4")) ≡ Err (Limit which.Pieces)) × (after (filled 512) (crowded (codes "0:4")) ≡ Err (Limit which.Statements))
unfolding reading
statements_before_pieces = (refl, refl)

syntax_before_pieces : with_line 5 (crowded (codes "04:4")) ≡ Err (Syntax, 5)
unfolding reading
syntax_before_pieces = refl
