-- What completion handlers may be given.
use Rattle.std.specs.Prelude.{ℕ, ◌<◌, ◌≤◌, ◌^◌, List, length}
use Rattle.lapi_base.specs.declared.layout.TheConstants.{LONGEST_ACTIVE}

-- as many bytes of a message as there may be
pub record IsInRange (n : ℕ) (bytes : List ℕ) : Type 0 where
  pub user : n < 2 ^ 32
  pub buffer : length bytes ≤ LONGEST_ACTIVE
