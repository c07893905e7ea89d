-- What header handlers may be given.
use Rattle.std.specs.Prelude.{◌<◌, ◌≤◌, length}
use Rattle.lapi_base.specs.declared.handler.HeaderIn.{HeaderIn}
use Rattle.lapi_base.specs.declared.layout.TheConstants.{LONGEST_ACTIVE}

-- as many tasks, bytes of a user header and bytes of a message as there may be
pub record IsInRange (given : HeaderIn) : Type 0 where
  pub origin : given.origin < 8
  pub header : length given.header ≤ 64
  pub length : given.length ≤ LONGEST_ACTIVE
