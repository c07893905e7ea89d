-- The payload of each fragment but the last, by a script's layout.
use Rattle.std.proofs.Common.{◌≤◌, refl, inl, inr}
use Rattle.lapi_base.specs.declared.script.Script.{Script}
use Rattle.lapi_base.specs.declared.layout.TheConstants.{PAYLOAD_ROOM}
use Rattle.lapi_base.specs.Packet.Layout.{Layout, First, Second, layout_of, unit, unit_of}
use Rattle.lapi_base.proofs.LayoutLaws.{unit-most}
use Rattle.lapi_reassembly.specs.Partial.{IsUnit}

-- it is one of two, and has room
pub unit-sizes : (script : Script) → IsUnit (unit_of script) × (unit_of script ≤ PAYLOAD_ROOM)
unfolding unit_of
unit-sizes script = (one (layout_of script.layout), unit-most (layout_of script.layout))
  where
    one : (l : Layout) → IsUnit (unit l)
    one First = inl refl
    one Second = inr refl
