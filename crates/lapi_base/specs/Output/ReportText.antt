-- The text of a report: how far the lines taken have come, what became of each task, and whether all is quiet.
-- This is the project's own.
use Rattle.std.specs.Prelude.{ℕ, ◌*◌, ◌==◌, Bool, if◌then◌else◌, List, [], ◌++◌, length, take, drop, codes}
use Rattle.std.specs.List.{flat_map, list_all}
use Rattle.std.specs.Int.{div_ceil}
use Rattle.std.specs.Fmt.{decimal}
use Rattle.hex.specs.Hex.{encode_lower}
use Rattle.lapi_base.specs.declared.refusal.Refusal.{Refusal}
use Rattle.lapi_base.specs.declared.script.Script.{Script}
use Rattle.lapi_base.specs.declared.rule.Rules.{Rules}
use Rattle.lapi_base.specs.Record.Operations.{numbers_below, statements}
use Rattle.lapi_base.specs.Record.Refusals.{next, refusals}
use Rattle.lapi_base.specs.Record.Counters.{count, reads}
use Rattle.lapi_base.specs.Record.Values.{memory_bytes}
use Rattle.lapi_base.specs.Record.Jobs.{queue, busy}
use Rattle.lapi_base.specs.Record.Wires.{Run}
use Rattle.lapi_base.specs.Record.Final.{is_quiet}
use Rattle.lapi_base.specs.Output.TextParts.{refusal_text, four_digits}

-- lines L, events E
abbrev pub totals_text : (lines events : ℕ) → List ℕ
totals_text lines events = codes "lines " ++ decimal lines ++ codes "\nevents " ++ decimal events ++ codes "\n"

-- task T at S of K queued Q running R
abbrev pub task_line : (task at count queued running : ℕ) → List ℕ
task_line t at count queued running =
    codes "task " ++ decimal t ++ codes " at " ++ decimal at ++ codes " of " ++ decimal count ++ codes " queued " ++ decimal queued ++ codes " running " ++ decimal running ++ codes "\n"

-- refused T S N NAME
abbrev pub refused_line : (task : ℕ) → ℕ × Refusal → List ℕ
refused_line t refused = codes "refused " ++ decimal t ++ codes " " ++ decimal refused.0 ++ codes " " ++ refusal_text refused.1 ++ codes "\n"

-- read T S V
abbrev pub read_line : (task : ℕ) → ℕ × ℕ → List ℕ
read_line t read = codes "read " ++ decimal t ++ codes " " ++ decimal read.0 ++ codes " " ++ decimal read.1 ++ codes "\n"

-- What became of statement s: why it was refused, or what it read.
abbrev pub refused_if : (task statement : ℕ) → ℕ × Refusal → List ℕ
refused_if t s refused = if refused.0 == s then refused_line t refused else []

abbrev pub read_if : (task statement : ℕ) → ℕ × ℕ → List ℕ
read_if t s read = if read.0 == s then read_line t read else []

abbrev pub statement_text : (task : ℕ) → List (ℕ × Refusal) → List (ℕ × ℕ) → (statement : ℕ) → List ℕ
statement_text t refused read s = flat_map (refused_if t s) refused ++ flat_map (read_if t s) read

-- and of each of so many statements
abbrev pub statements_text : (task count : ℕ) → List (ℕ × Refusal) → List (ℕ × ℕ) → List ℕ
statements_text t count refused read = flat_map (statement_text t refused read) (numbers_below count)

-- counter T C V, where it is above 0
abbrev pub counter_text : (task counter value : ℕ) → List ℕ
counter_text t c value = if value == 0 then [] else codes "counter " ++ decimal t ++ codes " " ++ decimal c ++ codes " " ++ decimal value ++ codes "\n"

-- memory T AAAA HEX, where a byte isn't zero
abbrev pub memory_row_text : (task at : ℕ) → List ℕ → List ℕ
memory_row_text t at row =
    if list_all (λ b. b == 0) row then []
    else codes "memory " ++ decimal t ++ codes " " ++ four_digits at ++ codes " " ++ encode_lower row ++ codes "\n"

-- 16 bytes of a memory, or those to its end, the rows being counted from 0; and all rows
abbrev pub numbered_row_text : (task : ℕ) → List ℕ → (row : ℕ) → List ℕ
numbered_row_text t bytes k = memory_row_text t (16 * k) (take 16 (drop (16 * k) bytes))

abbrev pub memory_text : (task : ℕ) → List ℕ → List ℕ
memory_text t bytes = flat_map (numbered_row_text t bytes) (numbers_below (div_ceil (length bytes) 16))

abbrev pub quiet_line : Bool → List ℕ
quiet_line quiet = codes "quiet " ++ (if quiet then codes "yes" else codes "no") ++ codes "\n"

module _ (script : Script) (rules : Rules) (r : Run) where
  abbrev pub counter_text_of : (task counter : ℕ) → List ℕ
  counter_text_of t c = counter_text t c (count script rules r.journal t c)

  abbrev pub counters_text : (task : ℕ) → List ℕ
  counters_text t = flat_map (counter_text_of t) (numbers_below script.counters)

  unfoldable pub task_text : (task : ℕ) → List ℕ
  task_text t =
      task_line t (next r.journal t) (length (statements script t)) (length (queue script rules r.journal t)) (length (busy script r.journal t))
      ++ (statements_text t (length (statements script t)) (refusals r.journal t) (reads script rules r.journal t)
      ++ (counters_text t ++ memory_text t (memory_bytes script rules r.journal t)))

  -- after so many lines
  unfoldable pub report_text : (lines : ℕ) → List ℕ
  report_text lines = totals_text lines (length r.journal) ++ (flat_map task_text (numbers_below script.tasks) ++ quiet_line (is_quiet script rules r))
