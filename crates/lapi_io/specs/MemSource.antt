-- What callers see of a source in memory.
use Rattle.std.specs.Prelude.{◌≡◌, ℕ, List}
use Rattle.lapi_io.specs.Causes.{next_count}
use Rattle.lapi_io.specs.declared.mem_source.MemSource.{MemSource}

-- the bytes that are left
abbrev pub left_of : MemSource → List ℕ
left_of source = source.bytes

-- the most that one read gives
abbrev pub step_of : MemSource → ℕ
step_of source = source.step

-- the numbers of the reads that are to fail
abbrev pub fails_of : MemSource → List ℕ
fails_of source = source.fails.items

-- the number of the next read
abbrev pub calls_of : MemSource → ℕ
calls_of source = source.calls

-- how many reads failed
abbrev pub faults_of : MemSource → ℕ
faults_of source = source.faults

-- a call was counted, and what was chosen stays
pub record CountsCall (old new : MemSource) : Type 0 where
  pub calls : calls_of new ≡ next_count (calls_of old)
  pub step : step_of new ≡ step_of old
  pub fails : fails_of new ≡ fails_of old
