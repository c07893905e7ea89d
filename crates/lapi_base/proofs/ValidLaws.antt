-- What a valid script has is valid.
use Rattle.std.proofs.Common.{ℕ, ◌≤◌, List, [], length, arith}
use Rattle.std.specs.List.{AllByRecursion}
use Rattle.lapi_base.specs.declared.script.Script.{Script}
use Rattle.lapi_base.specs.declared.statement.Statement.{Statement}
use Rattle.lapi_base.specs.declared.statement.Statement.TheVariants.{Fence}
use Rattle.lapi_base.specs.Record.Operations.{statement, statements}
use Rattle.lapi_base.specs.Record.Valid.{ValidScript, ValidStatement}
use Rattle.lapi_base.proofs.ListLaws.{all-or}

module _ (script : Script) (valid : ValidScript script) where
  pub list-valid : (a : ℕ) → (length (statements script a) ≤ 512) × AllByRecursion ValidStatement (statements script a)
  list-valid a = all-or (λ (list : List Statement). (length list ≤ 512) × AllByRecursion ValidStatement list) script.lists a [] valid.lists (let q : 0 ≤ 512 = omega arith in q, tt)

  pub statement-valid : (a i : ℕ) → ValidStatement (statement script a i)
  unfolding statement
  statement-valid a i = all-or ValidStatement (statements script a) i Fence (list-valid a).1 tt
