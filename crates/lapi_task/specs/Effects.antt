-- What the begin and the end of a job make of a task.
use Rattle.std.specs.Prelude.{ℕ, ◌+◌, nat_le, cond, List, [], ◌∷◌, length, Option, Some, None}
use Rattle.lapi_base.specs.declared.span.Span.{Span}
use Rattle.lapi_base.specs.Record.Values.{Write}
use Rattle.lapi_memory.specs.TaskMemory.{bytes_at, written}

-- the bytes that lie in a buffer, if there is one
abbrev pub bytes_held : (memory : List ℕ) → Option Span → List ℕ
bytes_held memory None = []
bytes_held memory (Some buffer) = bytes_at memory buffer.at buffer.len

-- a memory with the bytes from a place on, where they lie within it,
abbrev pub written_within : (memory : List ℕ) → (at : ℕ) → (bytes : List ℕ) → List ℕ
written_within memory at bytes = cond (nat_le (at + length bytes) (length memory)) (written memory at bytes) memory

-- and with these writes, one after another
abbrev pub all_written : (memory : List ℕ) → List Write → List ℕ
all_written memory [] = memory
all_written memory (w ∷ ws) = all_written (written_within memory w.0 w.1) ws
