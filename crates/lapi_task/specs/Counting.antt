-- Counters at which an event is counted.
use Rattle.std.specs.Prelude.{ℕ, ◌+◌, List, slice_index, slice_set, Option, Some, None}

-- the counters with one event more at the one that is named
abbrev pub announced : List ℕ → Option ℕ → List ℕ
announced counters None = counters
announced counters (Some c) = slice_set counters c (slice_index counters c + 1)
