-- What callers see of a sink in memory.
use Rattle.std.specs.Prelude.{◌≡◌, ℕ, List, length}
use Rattle.lapi_io.specs.Causes.{next_count}
use Rattle.lapi_io.specs.declared.mem_sink.MemSink.{MemSink}

-- the bytes that it holds
abbrev pub held_by : MemSink → List ℕ
held_by sink = sink.bytes.items

-- how many bytes it can hold
abbrev pub room_of : MemSink → ℕ
room_of sink = sink.room

-- the most that one write takes
abbrev pub step_of : MemSink → ℕ
step_of sink = sink.step

-- the numbers of the writes that are to fail
abbrev pub fails_of : MemSink → List ℕ
fails_of sink = sink.fails.items

-- the number of the next write
abbrev pub calls_of : MemSink → ℕ
calls_of sink = sink.calls

-- how many writes failed
abbrev pub faults_of : MemSink → ℕ
faults_of sink = sink.faults

-- its whole room is held
abbrev pub IsFull : MemSink → Type 0
IsFull sink = length (held_by sink) ≡ room_of sink

-- a call was counted, and what was chosen stays
pub record CountsCall (old new : MemSink) : Type 0 where
  pub calls : calls_of new ≡ next_count (calls_of old)
  pub room : room_of new ≡ room_of old
  pub step : step_of new ≡ step_of old
  pub fails : fails_of new ≡ fails_of old
