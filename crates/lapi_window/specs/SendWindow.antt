-- What a sending window stands for: how many numbers there are, how many were sent, and which are acknowledged.
use Rattle.std.specs.Prelude.{◌≡◌, ℕ, ◌+◌, ◌-◌, ◌^◌, ◌<◌, ◌≤◌, nat_lt, Bool, true, false, not, cond, ◌&&◌, List, length, Option, None, slice_get}
use Rattle.lapi_base.specs.Record.Below.{below, least_missing}
use Rattle.lapi_window.specs.NumberSet.{Members, is_in}

-- how many numbers from the base on may be sent, how many numbers there are, those that are acknowledged, and
-- the bytes of each one that was sent, from the least that is not acknowledged on
pub record Sending : Type 0 where
  pub window : ℕ
  pub numbers : ℕ
  pub acked : Members
  pub packets : List (List ℕ)

abbrev pub sent_count : Sending → ℕ
sent_count s = s.acked.base + length s.packets

-- numbers are sent in order
abbrev pub is_sent : Sending → ℕ → Bool
is_sent s n = nat_lt n (sent_count s)

abbrev pub is_acked : Sending → ℕ → Bool
is_acked s n = is_in s.acked n

-- the least number that is not acknowledged
abbrev pub base_of : Sending → ℕ
base_of s = least_missing s.numbers (is_acked s)

-- there is a number that was not sent, and it is within the window
pub record MaySend (s : Sending) : Type 0 where
  pub exists : sent_count s < s.numbers
  pub within : sent_count s < base_of s + s.window

abbrev pub is_unacked : Sending → ℕ → Bool
is_unacked s n = is_sent s n && not (is_acked s n)

-- the sent numbers that are not acknowledged, rising
abbrev pub unacked : Sending → List ℕ
unacked s = below s.numbers (is_unacked s)

-- the bytes that are kept for a number
unfoldable pub bytes_of : Sending → ℕ → Option (List ℕ)
bytes_of s n = cond (nat_lt n s.acked.base) None (slice_get s.packets (n - s.acked.base))

-- the packet of a number that was sent and is not acknowledged
abbrev pub packet_of : Sending → ℕ → Option (List ℕ)
packet_of s n = cond (is_unacked s n) (bytes_of s n) None

-- the window has its size, as many packets as it may keep, and nothing is acknowledged that was not sent
pub record IsSending (s : Sending) (capacity : ℕ) : Type 0 where
  pub size : (1 ≤ s.window) × (s.window ≤ 64)
  pub room : (capacity ≡ s.window) × (length s.packets ≤ capacity)
  pub sent : (sent_count s ≤ s.numbers) × (s.numbers < 2 ^ 32)
  pub absent : is_in s.acked s.acked.base ≡ false
  pub near : (n : ℕ) → is_in s.acked n ≡ true → n < sent_count s
