-- What a layout sets, by its number.
use Rattle.std.proofs.Common.{◌≡◌, ℕ, ◌*◌, ◌<◌, ◌≤◌, ◌⊎◌, lit<, ◌==◌, true, false, cond, refl, inl, inr, arith}
use Rattle.std.proofs.lemmas.Bool.{or_cases, eqb-true}
use Rattle.lapi_base.specs.declared.script.Script.{Script}
use Rattle.lapi_base.specs.Packet.Format.{byte_count}
use Rattle.lapi_base.specs.Packet.Layout.{Layout, First, Second, is_version, layout_of, bits_size, unit, window, window_of, longest, longest_active, has_echo, waits_for_poll, most_lines}

pub unit_by : (n : ℕ) → unit (layout_of n) ≡ cond (n == 2) 1024 256
unit_by n = elim (n == 2) as (λ b. unit (cond b Second First) ≡ cond b 1024 256) [ true ↦ refl | false ↦ refl ]

pub window_by : (n : ℕ) → window (layout_of n) ≡ cond (n == 2) 64 32
window_by n = elim (n == 2) as (λ b. window (cond b Second First) ≡ cond b 64 32) [ true ↦ refl | false ↦ refl ]

pub longest_by : (n : ℕ) → longest (layout_of n) ≡ cond (n == 2) 65536 16384
longest_by n = elim (n == 2) as (λ b. longest (cond b Second First) ≡ cond b 65536 16384) [ true ↦ refl | false ↦ refl ]

pub longest_active_by : (n : ℕ) → longest_active (layout_of n) ≡ 16384
longest_active_by n = elim (n == 2) as (λ b. longest_active (cond b Second First) ≡ 16384) [ true ↦ refl | false ↦ refl ]

pub has_echo_by : (n : ℕ) → has_echo (layout_of n) ≡ (n == 2)
has_echo_by n = elim (n == 2) as (λ b. has_echo (cond b Second First) ≡ b) [ true ↦ refl | false ↦ refl ]

pub waits_for_poll_by : (n : ℕ) → waits_for_poll (layout_of n) ≡ (n == 2)
waits_for_poll_by n = elim (n == 2) as (λ b. waits_for_poll (cond b Second First) ≡ b) [ true ↦ refl | false ↦ refl ]

pub most_lines_by : (n : ℕ) → most_lines (layout_of n) ≡ cond (n == 2) 5000 20000
most_lines_by n = elim (n == 2) as (λ b. most_lines (cond b Second First) ≡ cond b 5000 20000) [ true ↦ refl | false ↦ refl ]

-- every layout has a window
pub window-positive : (script : Script) → 0 < window_of script
unfolding window_of
window-positive script = each (layout_of script.layout)
  where
    each : (l : Layout) → 0 < window l
    each First = lit< tt
    each Second = lit< tt

-- a layout's number is one of two
pub two-layouts : (n : ℕ) → is_version n ≡ true → (n ≡ 1) ⊎ (n ≡ 2)
two-layouts n h = elim (or_cases (n == 1) (n == 2) h) [ inl one ↦ inl (eqb-true n 1 one) | inr two ↦ inr (eqb-true n 2 two) ]

-- an acknowledgement has a bit for each packet of a window
pub window-bits : (l : Layout) → window l ≡ 8 * byte_count (bits_size l)
window-bits First = refl
window-bits Second = refl

pub unit-most : (l : Layout) → unit l ≤ 1024
unit-most First = omega arith
unit-most Second = omega arith

pub unit-least : (l : Layout) → 256 ≤ unit l
unit-least First = omega arith
unit-least Second = omega arith

pub longest-most : (l : Layout) → longest l ≤ 65536
longest-most First = omega arith
longest-most Second = omega arith

-- a message of the longest length has 64 fragments
pub longest-fragments : (l : Layout) → longest l ≡ 64 * unit l
longest-fragments First = refl
longest-fragments Second = refl
