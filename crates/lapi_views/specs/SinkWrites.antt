-- What a writer did to its sink, where memory may run out too.
use Rattle.std.specs.Prelude.{◌≡◌, ℕ, ◌≤◌, List, Option, Result, IsErrOf}
use Rattle.lapi_base.specs.declared.status.WriteFault.{WriteFault}
use Rattle.lapi_base.specs.declared.status.WriteFault.TheVariants.{Failed}
use Rattle.lapi_io.specs.Causes.{Rose}
use Rattle.lapi_io.specs.Writes.{Wrote}

-- the sink's count of faults didn't fall, and it rose where the sink refused
pub record HasWriteCause {T : Type 0} (before now : ℕ) (result : Result T WriteFault) : Type 0 where
  pub later : before ≤ now
  pub failed : IsErrOf result Failed → Rose before now

pub record WritesWithMemory {K T : Type 0} (held : K → Option (List ℕ)) (faults : K → ℕ) (sure : K → Option ℕ)
    (old new : K) (words : List ℕ) (result : Result T WriteFault) : Type 0 where
  pub text : Wrote (held old) (held new) words result
  pub cause : HasWriteCause (faults old) (faults new) result
  pub room : sure new ≡ sure old
