-- The statements of a task, by their place.
use Rattle.std.proofs.Common.{◌≡◌, ℕ, Some}
use Rattle.std.specs.Prelude.{slice_get}
use Rattle.std.proofs.lemmas.Option.{get_or_from_slice_get}
use Rattle.lapi_base.specs.declared.statement.Statement.{Statement}
use Rattle.lapi_base.specs.declared.statement.Statement.TheVariants as statements
use Rattle.lapi_base.specs.declared.script.Script.{Script}
use Rattle.lapi_base.specs.Record.Operations.{statement}
use Rattle.lapi_base.specs.Record.Operations as operations

pub statement-is : (script : Script) (a i : ℕ) (s : Statement) → slice_get (operations.statements script a) i ≡ Some s → statement script a i ≡ s
unfolding statement
statement-is script a i s h = get_or_from_slice_get (operations.statements script a) i s statements.Fence h
