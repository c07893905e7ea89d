-- How the code counts the fragments of a message, and the bytes of one.
use Rattle.std.proofs.Common.{◌≡◌, ℕ, ◌-◌, ◌*◌, ◌<◌, ◌^◌, max, min, arith}
use Rattle.std.specs.Int.{div_ceil}
use Rattle.lapi_base.specs.Packet.Layout.{Layout, First, Second, unit}
use Rattle.lapi_base.specs.Record.Fragments.{fragments_in, fragment_length}

pub ceiling : (layout : Layout) (length : ℕ) → max (div_ceil length (unit layout)) 1 ≡ fragments_in (unit layout) length
ceiling First length = omega arith
ceiling Second length = omega arith

pub size_within : (layout : Layout) (length fragment : ℕ) → length < 2 ^ 32 → min (unit layout) (length - min (fragment * unit layout) (2 ^ 32 - 1)) ≡ fragment_length (unit layout) length fragment
size_within First length fragment lt = omega arith
size_within Second length fragment lt = omega arith
