-- A memory as a list of bytes: which places lie within it, the bytes from a place on, and the memory after a
-- write; and the same memory among those of all tasks.
use Rattle.std.specs.Prelude.{◌≡◌, ℕ, ◌+◌, ◌≤◌, List, ◌++◌, length, take, drop, slice_index}
use Rattle.lapi_base.specs.Record.Values.{Memories}

-- so many bytes from a place on lie within the memory
abbrev pub IsWithin : (memory : List ℕ) (at len : ℕ) → Type 0
IsWithin memory at len = at + len ≤ length memory

abbrev pub bytes_at : (memory : List ℕ) (at len : ℕ) → List ℕ
bytes_at memory at len = take len (drop at memory)

-- the bytes from a place on stand in place of as many old ones
abbrev pub written : (memory : List ℕ) (at : ℕ) (bytes : List ℕ) → List ℕ
written memory at bytes = take at memory ++ bytes ++ drop (at + length bytes) memory

-- among all memories, that of task t is this list, with 0 past its end
abbrev pub IsMemoryOf : Memories → (t : ℕ) → (memory : List ℕ) → Type 0
IsMemoryOf memories t memory = (x : ℕ) → memories t x ≡ slice_index memory x
