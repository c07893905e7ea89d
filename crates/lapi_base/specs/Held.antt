-- What a list of bytes holds, whether it owns them alone or shares them.
use Rattle.std.specs.Prelude.{ℕ, List}
use Rattle.std.specs.Arc.{arc_value}
use Rattle.lapi_base.specs.declared.bytes.Body.{Body}
use Rattle.lapi_base.specs.declared.bytes.Body.TheVariants.{Own, Shared}

abbrev pub held : Body → List ℕ
held (Own items) = items.items
held (Shared items) = (arc_value items).items
