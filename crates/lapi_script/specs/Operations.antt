-- The text of a read-modify-write's operation.
use Rattle.std.specs.Prelude.{ℕ, List, [], ◌∷◌, ◌++◌}
use Rattle.std.specs.Fmt.{decimal}
use Rattle.lapi_base.specs.declared.address.Addr.{Addr}
use Rattle.lapi_base.specs.declared.statement.RmwOp.{RmwOp}
use Rattle.lapi_base.specs.declared.statement.RmwOp.TheVariants.{Cas}
use Rattle.lapi_base.specs.Input.Tokens.{address_text}
use Rattle.lapi_base.specs.Input.Rows.{operation_word}

-- a second operand behind a space, with a compare-and-swap alone
abbrev pub second_text : RmwOp → ℕ → List ℕ
second_text Cas in2 = 32 ∷ decimal in2
second_text _ in2 = []

-- the operation, the address and the operands, each behind a space
abbrev pub operation_text : RmwOp → Addr → (in1 in2 : ℕ) → List ℕ
operation_text op at in1 in2 = 32 ∷ (operation_word op ++ 32 ∷ (address_text at ++ 32 ∷ (decimal in1 ++ second_text op in2)))
