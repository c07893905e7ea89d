-- An input as it is read, line by line, up to the first fault. This is the project's own.
use Rattle.std.specs.Prelude.{ℕ, ◌+◌, ◌%◌, ◌==◌, nat_lt, nat_le, Bool, true, false, not, if◌then◌else◌, ◌&&◌, List, [], ◌∷◌, ◌++◌, length, codes, Result, Ok, Err}
use Rattle.lapi_base.specs.declared.vector.Vector.{Vector}
use Rattle.lapi_base.specs.declared.vector.Vector.TheVariants.{Stride}
use Rattle.lapi_base.specs.declared.statement.Statement.{Statement}
use Rattle.lapi_base.specs.declared.statement.Statement.TheVariants.{Store, Putv, Getv, Am}
use Rattle.lapi_base.specs.declared.schedule.Act.{Act}
use Rattle.lapi_base.specs.declared.schedule.Act.TheVariants.{Step, Poll, Tick, Deliver, Cut, Inject}
use Rattle.lapi_base.specs.declared.schedule.Line.{Line}
use Rattle.lapi_base.specs.declared.script.Script.{Script}
use Rattle.lapi_base.specs.declared.input.Input.{Input}
use Rattle.lapi_base.specs.declared.input.Which.{Which}
use Rattle.lapi_base.specs.declared.input.Which.TheVariants as which
use Rattle.lapi_base.specs.declared.input.LineError.{LineError}
use Rattle.lapi_base.specs.declared.input.LineError.TheVariants.{Syntax, Limit}
use Rattle.lapi_base.specs.Packet.Layout.{is_version, layout_of, most_lines, most_injected}
use Rattle.lapi_base.specs.Packet.Spelling.{spells_packet}
use Rattle.lapi_base.specs.Input.Lines.{lines_of, words_of, is_clean, is_skipped}
use Rattle.lapi_base.specs.Input.Tokens.{same_text}
use Rattle.lapi_base.specs.Input.Forms.{run, and_then, head_form, sizes_form, task_line_form, line_form, TaskLine, Task, Schedule, StatementLine}

-- What was read so far, by which line is awaited. A script's lists are those of the tasks before the current one.
--
--   First -> Second -> Start -> Tasks (each task and its statements) -> Lines (each schedule line) -> Finished
pub data State : Type 0 where
  First : State
  Second : (layout : ℕ) → State
  Start : (script : Script) → State
  Tasks : (script : Script) (current : List Statement) → State
  Lines : (script : Script) (schedule : List Line) → State
  Finished : (x : Input) → State

-- ---- the limits that are judged in a line

abbrev pub within : {A : Type 0} → Bool → Which → Result A LineError → Result A LineError
within b w more = if b then more else Err (Limit w)

abbrev pub checked_sizes : Script → Result Script LineError
checked_sizes s =
    within (nat_le 2 s.tasks && nat_le s.tasks 8) which.Tasks
    (within (nat_le 64 s.memory && nat_le s.memory 65536 && s.memory % 4 == 0) which.Memory
    (within (nat_le s.counters 64) which.Counters
    (within (nat_le 1 s.workers && nat_le s.workers 4) which.Workers (Ok s))))

abbrev pub has_few_pieces : Vector → Bool
has_few_pieces (Vector.List pieces) = nat_le (length pieces) 16
has_few_pieces (Stride base block stride count) = nat_le count 16

unfoldable pub keeps_pieces : Statement → Bool
keeps_pieces (Putv target to from tgt org cmpl) = has_few_pieces to && has_few_pieces from
keeps_pieces (Getv target from to tgt org) = has_few_pieces from && has_few_pieces to
keeps_pieces _ = true

unfoldable pub keeps_bytes : Statement → Bool
keeps_bytes (Store at bytes) = nat_le (length bytes) 1024
keeps_bytes (Am target handler header from len tgt org cmpl) = nat_le (length header) 128
keeps_bytes _ = true

unfoldable pub keeps_injected : Act → Bool
keeps_injected (Inject a b bytes) = nat_le (length bytes) most_injected
keeps_injected _ = true

-- the tasks and the worker that a line names are there, and what it injects spells no packet
unfoldable pub names_known : Script → Act → Bool
names_known script (Step t) = nat_lt t script.tasks
names_known script (Poll t) = nat_lt t script.tasks
names_known script (Tick t) = nat_lt t script.tasks
names_known script (Deliver a b k) = nat_lt a script.tasks && nat_lt b script.tasks
names_known script (Cut a b k n) = nat_lt a script.tasks && nat_lt b script.tasks
names_known script (Inject a b bytes) = nat_lt a script.tasks && nat_lt b script.tasks && not (spells_packet bytes)
names_known script (Act.Begin t w) = nat_lt t script.tasks && nat_lt w script.workers
names_known script (Act.End t w) = nat_lt t script.tasks && nat_lt w script.workers

-- ---- what a line leads to

-- the script with the current task's statements behind the others
abbrev pub with_task : Script → List Statement → Script
with_task script current = record script { lists = script.lists ++ current ∷ [] }

abbrev pub on_first_task : Script → TaskLine → Result State LineError
on_first_task script (Task t) = if t == 0 then Ok (Tasks script []) else Err Syntax
on_first_task script Schedule = Err Syntax
on_first_task script (StatementLine s) = Err Syntax

abbrev pub on_statement : Script → List Statement → Statement → Result State LineError
on_statement script current s =
    within (nat_lt (length current) 512) which.Statements
    (within (keeps_pieces s) which.Pieces
    (within (keeps_bytes s) which.Bytes (Ok (Tasks script (current ++ s ∷ [])))))

abbrev pub on_task_line : Script → List Statement → TaskLine → Result State LineError
on_task_line script current (Task t) =
    if t == length script.lists + 1 && nat_lt t script.tasks then Ok (Tasks (with_task script current) []) else Err Syntax
on_task_line script current Schedule = if length script.lists + 1 == script.tasks then Ok (Lines (with_task script current) []) else Err Syntax
on_task_line script current (StatementLine s) = on_statement script current s

abbrev pub on_line : Script → List Line → Line → Result State LineError
on_line script schedule line =
    if names_known script line.act then
    within (nat_lt (length schedule) (most_lines (layout_of script.layout))) which.Lines
    (within (nat_le line.lane 15) which.Lane
    (within (keeps_injected line.act) which.Bytes (Ok (Lines script (schedule ++ line ∷ [])))))
    else Err Syntax

-- whether the line is this one word
abbrev pub is_word : List ℕ → List (List ℕ) → Bool
is_word text [] = false
is_word text (word ∷ []) = same_text word text
is_word text (word ∷ other ∷ words) = false

-- after a line's words
unfoldable pub step : State → List (List ℕ) → Result State LineError
step First words = and_then (run head_form words) (λ layout. if is_version layout then Ok (Second layout) else Err Syntax)
step (Second layout) words = and_then (run (sizes_form layout) words) (λ script. and_then (checked_sizes script) (λ script. Ok (Start script)))
step (Start script) words = and_then (run task_line_form words) (on_first_task script)
step (Tasks script current) words = and_then (run task_line_form words) (on_task_line script current)
step (Lines script schedule) words =
    if is_word (codes "done") words then Ok (Finished (record { script = script; schedule = schedule }))
    else and_then (run line_form words) (on_line script schedule)
step (Finished x) words = Err Syntax

-- after a line
unfoldable pub after : State → List ℕ → Result State LineError
after state line = if is_clean line then (if is_skipped (words_of line) then Ok state else step state (words_of line)) else Err Syntax

-- ---- the input, or its first fault

-- what is wrong, and the line
abbrev pub Fault : Type 0
Fault = LineError × ℕ

abbrev pub at_line : {A B : Type 0} → ℕ → Result A LineError → (A → Result B Fault) → Result B Fault
at_line l (Ok x) f = f x
at_line l (Err e) f = Err (e, l)

-- at the end, where the next line would have number l
abbrev pub input_of : ℕ → State → Result Input Fault
input_of l First = Err (Syntax, l)
input_of l (Second layout) = Err (Syntax, l)
input_of l (Start script) = Err (Syntax, l)
input_of l (Tasks script current) = Err (Syntax, l)
input_of l (Lines script schedule) = Err (Syntax, l)
input_of l (Finished x) = Ok x

-- from a state on, where the first of the lines has number l
abbrev pub read_from : ℕ → State → List (List ℕ) → Result Input Fault
read_from l state [] = input_of l state
read_from l state (line ∷ lines) = at_line l (after state line) (λ next. read_from (l + 1) next lines)

-- the most bytes of an input
abbrev pub most_input : ℕ
most_input = 4194304

abbrev pub read : List ℕ → Result Input Fault
read bytes = if nat_lt most_input (length bytes) then Err (Limit which.Input, 0) else read_from 1 First (lines_of bytes)
