-- What the sending end of a link stands for: its window, and the packets of the numbers that were not sent yet.
use Rattle.std.specs.Prelude.{◌≡◌, ℕ, ◌+◌, ◌-◌, ◌≤◌, min, nat_lt, false, cond, ◌||◌, List, [], ◌∷◌, ◌++◌, length, map, take, drop, slice_index_or, Option, None}
use Rattle.std.specs.List.{AllByRecursion, filter_map}
use Rattle.lapi_base.specs.declared.layout.TheConstants.{FRAME_ROOM}
use Rattle.lapi_base.specs.declared.wire.WireEntry.{WireEntry}
use Rattle.lapi_window.specs.NumberSet.{is_covered}
use Rattle.lapi_window.specs.SendWindow.{Sending, sent_count, is_acked, base_of, bytes_of, is_unacked, unacked}

-- the window, the packets that wait to be sent, in the order of their numbers, and the tag of each number from the
-- least that is not acknowledged on: the statement whose data it carries, or none
pub record SendingEnd : Type 0 where
  pub window : Sending
  pub waiting : List (List ℕ)
  pub tags : List (Option ℕ)

-- every number that was not sent has its packet, each packet fits a frame, and every number that may have to be
-- acknowledged has its tag
pub record IsSendingEnd (s : SendingEnd) : Type 0 where
  pub whole : sent_count s.window + length s.waiting ≡ s.window.numbers
  pub short : AllByRecursion (λ (bytes : List ℕ). length bytes ≤ FRAME_ROOM) s.waiting
  pub tagged : s.window.acked.base + length s.tags ≡ s.window.numbers

-- nothing was sent, and nothing waits, with a window of this size
pub record IsNewSender (window : ℕ) (s : SendingEnd) : Type 0 where
  pub size : s.window.window ≡ window
  pub numbers : s.window.numbers ≡ 0
  pub sent : sent_count s.window ≡ 0
  pub acked : (n : ℕ) → is_acked s.window n ≡ false
  pub waiting : s.waiting ≡ []
  pub tags : s.tags ≡ []

-- the end with one packet more that waits, and its tag
abbrev pub appended : SendingEnd → List ℕ → (tag : Option ℕ) → SendingEnd
appended s packet tag = record s { window = record s.window { numbers = s.window.numbers + 1 }; waiting = s.waiting ++ packet ∷ []; tags = s.tags ++ tag ∷ [] }

-- how many of the packets that wait may be sent now
abbrev pub sendable : SendingEnd → ℕ
sendable s = min (length s.waiting) (base_of s.window + s.window.window - sent_count s.window)

-- the end with the first k packets that waited sent
abbrev pub sent : SendingEnd → ℕ → SendingEnd
sent s k = record s { window = record s.window { packets = s.window.packets ++ take k s.waiting }; waiting = drop k s.waiting }

-- the packets that were sent and are not acknowledged, by rising number
abbrev pub kept : SendingEnd → List (List ℕ)
kept s = filter_map (bytes_of s.window) (unacked s.window)

-- packets as entries of the wire to a task
abbrev pub entries_to : (to : ℕ) → List (List ℕ) → List WireEntry
entries_to to packets = map (λ (bytes : List ℕ). record { to = to; bytes = bytes }) packets

-- the tag of a number that is not acknowledged
unfoldable pub tag_of : SendingEnd → ℕ → Option ℕ
tag_of s n = cond (nat_lt n s.window.acked.base) None (slice_index_or s.tags (n - s.window.acked.base) None)

-- the tag of a number that an acknowledgement covers
abbrev pub covered_tag : SendingEnd → (base bits : ℕ) → ℕ → Option ℕ
covered_tag s base bits n = cond (is_covered base bits n) (tag_of s n) None

-- where it is the first to cover it
abbrev pub newly_covered_tag : SendingEnd → (base bits : ℕ) → ℕ → Option ℕ
newly_covered_tag s base bits n = cond (is_unacked s.window n) (covered_tag s base bits n) None

-- the tags of the numbers that an acknowledgement is the first to cover, by rising number
abbrev pub newly_acked : SendingEnd → (base bits : ℕ) → List ℕ
newly_acked s base bits = filter_map (covered_tag s base bits) (unacked s.window)

-- an acknowledgement came: what it covers is acknowledged too, and all else is as before; each number that may have
-- to be acknowledged has its tag
pub record IsAcked (old new : SendingEnd) (base bits : ℕ) : Type 0 where
  pub acked : (n : ℕ) → is_acked new.window n ≡ (is_acked old.window n || is_covered base bits n)
  pub bytes : (n : ℕ) → is_acked new.window n ≡ false → bytes_of new.window n ≡ bytes_of old.window n
  pub sent : sent_count new.window ≡ sent_count old.window
  pub numbers : new.window.numbers ≡ old.window.numbers
  pub size : new.window.window ≡ old.window.window
  pub waiting : new.waiting ≡ old.waiting
  pub tags : (n : ℕ) → is_acked new.window n ≡ false → tag_of new n ≡ tag_of old n
  pub tagged : new.window.acked.base + length new.tags ≡ new.window.numbers
