-- The grammar of an input: the row of parts of each line, the order of the lines, the texts that have these rows,
-- the line of the first fault of all others, and the canonical text. This is the project's own.
use Rattle.std.specs.Prelude.{◌≡◌, ℕ, ◌+◌, List, [], ◌∷◌, ◌++◌, map, codes, Option, IsTrue}
use Rattle.std.specs.List.{AllZip, AllByRecursion, flat_map, join_with_byte}
use Rattle.lapi_base.specs.declared.address.Addr.{Addr}
use Rattle.lapi_base.specs.declared.vector.Vector.{Vector}
use Rattle.lapi_base.specs.declared.statement.RmwOp.{RmwOp}
use Rattle.lapi_base.specs.declared.statement.RmwOp.TheVariants.{Add, Or, Swap, Cas}
use Rattle.lapi_base.specs.declared.statement.Statement.{Statement}
use Rattle.lapi_base.specs.declared.statement.Statement.TheVariants.{Store, Put, Get, Putv, Getv, Rmw, Am, Wait, Set, Read, Fence, Gfence}
use Rattle.lapi_base.specs.declared.schedule.Act.{Act}
use Rattle.lapi_base.specs.declared.schedule.Act.TheVariants.{Step, Poll, Tick, Deliver, Cut, Inject}
use Rattle.lapi_base.specs.declared.schedule.Line.{Line}
use Rattle.lapi_base.specs.declared.script.Script.{Script}
use Rattle.lapi_base.specs.declared.input.Input.{Input}
use Rattle.lapi_base.specs.Input.Lines.{lines_of, is_clean, read_words}
use Rattle.lapi_base.specs.Input.FirstFaults.{BeginsBy, IsFirstFaultBy}
use Rattle.lapi_base.specs.Input.Tokens.{Kind, Number, Counter, Hex, OptionalHex, Address, PlainVector, TargetVector, Value, Stands, canonical}
use Rattle.lapi_base.specs.Packet.Spelling.{spells_packet}
use Rattle.lapi_base.specs.Record.Valid.{ValidScript, ValidSchedule}

-- a part of a line: a word as it stands, or a value of a kind
pub data Column : Type 0 where
  Word : List ℕ → Column
  Field : (kind : Kind) → Value kind → Column

abbrev pub number : ℕ → Column
number n = Field Number n

abbrev pub counter : Option ℕ → Column
counter c = Field Counter c

abbrev pub hex : List ℕ → Column
hex bytes = Field Hex bytes

abbrev pub optional_hex : List ℕ → Column
optional_hex bytes = Field OptionalHex bytes

abbrev pub address : Addr → Column
address at = Field Address at

abbrev pub plain_vector : Vector → Column
plain_vector vector = Field PlainVector vector

abbrev pub target_vector : Vector → Column
target_vector vector = Field TargetVector vector

-- ---- the rows

-- lapi LAYOUT
abbrev pub head_row : ℕ → List Column
head_row layout = Word (codes "lapi") ∷ number layout ∷ []

-- tasks N memory M counters K workers W
abbrev pub sizes_row : Script → List Column
sizes_row s =
    Word (codes "tasks") ∷ number s.tasks ∷ Word (codes "memory") ∷ number s.memory ∷ Word (codes "counters") ∷ number s.counters ∷ Word (codes "workers") ∷ number s.workers ∷ []

-- task T
abbrev pub task_row : ℕ → List Column
task_row t = Word (codes "task") ∷ number t ∷ []

abbrev pub operation_word : RmwOp → List ℕ
operation_word Add = codes "add"
operation_word Or = codes "or"
operation_word Swap = codes "swap"
operation_word Cas = codes "cas"

-- a second operand, with cas alone
abbrev pub second_operand : RmwOp → ℕ → List Column
second_operand Cas in2 = number in2 ∷ []
second_operand _ in2 = []

abbrev pub statement_row : Statement → List Column
statement_row (Store at bytes) = Word (codes "store") ∷ number at ∷ hex bytes ∷ []
statement_row (Put target to from len tgt org cmpl) =
    Word (codes "put") ∷ number target ∷ address to ∷ number from ∷ number len ∷ counter tgt ∷ counter org ∷ counter cmpl ∷ []
statement_row (Get target from to len tgt org) = Word (codes "get") ∷ number target ∷ address from ∷ number to ∷ number len ∷ counter tgt ∷ counter org ∷ []
statement_row (Putv target to from tgt org cmpl) =
    Word (codes "putv") ∷ number target ∷ target_vector to ∷ plain_vector from ∷ counter tgt ∷ counter org ∷ counter cmpl ∷ []
statement_row (Getv target from to tgt org) = Word (codes "getv") ∷ number target ∷ target_vector from ∷ plain_vector to ∷ counter tgt ∷ counter org ∷ []
statement_row (Rmw target op at in1 in2 prev org) =
    Word (codes "rmw") ∷ number target ∷ Word (operation_word op) ∷ address at ∷ number in1 ∷ (second_operand op in2 ++ number prev ∷ counter org ∷ [])
statement_row (Am target handler header from len tgt org cmpl) =
    Word (codes "amsend") ∷ number target ∷ number handler ∷ optional_hex header ∷ number from ∷ number len ∷ counter tgt ∷ counter org ∷ counter cmpl ∷ []
statement_row (Wait c value) = Word (codes "waitcntr") ∷ number c ∷ number value ∷ []
statement_row (Set c value) = Word (codes "setcntr") ∷ number c ∷ number value ∷ []
statement_row (Read c) = Word (codes "getcntr") ∷ number c ∷ []
statement_row Fence = Word (codes "fence") ∷ []
statement_row Gfence = Word (codes "gfence") ∷ []
statement_row (Statement.Addr at) = Word (codes "address_init") ∷ number at ∷ []

abbrev pub act_row : Act → List Column
act_row (Step t) = Word (codes "step") ∷ number t ∷ []
act_row (Poll t) = Word (codes "poll") ∷ number t ∷ []
act_row (Tick t) = Word (codes "tick") ∷ number t ∷ []
act_row (Deliver a b k) = Word (codes "deliver") ∷ number a ∷ number b ∷ number k ∷ []
act_row (Cut a b k n) = Word (codes "cut") ∷ number a ∷ number b ∷ number k ∷ number n ∷ []
act_row (Inject a b bytes) = Word (codes "inject") ∷ number a ∷ number b ∷ optional_hex bytes ∷ []
act_row (Act.Begin t w) = Word (codes "begin") ∷ number t ∷ number w ∷ []
act_row (Act.End t w) = Word (codes "end") ∷ number t ∷ number w ∷ []

-- LANE and what the line does
abbrev pub line_row : Line → List Column
line_row line = number line.lane ∷ act_row line.act

-- ---- the order of the lines

abbrev pub schedule_row : List Column
schedule_row = Word (codes "schedule") ∷ []

abbrev pub done_row : List Column
done_row = Word (codes "done") ∷ []

-- each task from t on, and then its statements
abbrev pub task_rows : ℕ → List (List Statement) → List (List Column)
task_rows t [] = []
task_rows t (list ∷ lists) = task_row t ∷ (map statement_row list ++ task_rows (t + 1) lists)

abbrev pub script_rows : Script → List (List Column)
script_rows s = head_row s.layout ∷ sizes_row s ∷ task_rows 0 s.lists

abbrev pub rows : Input → List (List Column)
rows x = script_rows x.script ++ (schedule_row ∷ (map line_row x.schedule ++ done_row ∷ []))

-- ---- the texts of an input

-- the word stands for the part
abbrev pub IsColumn : Column → List ℕ → Type 0
IsColumn (Word text) word = word ≡ text
IsColumn (Field kind value) word = Stands kind value word

-- the words stand for the row's parts, one by one
abbrev pub IsRow : List Column → List (List ℕ) → Type 0
IsRow row words = AllZip IsColumn row words

-- The lines that aren't skipped have the rows of the input, which keeps all limits.
pub record IsRead (x : Input) (lines : List (List ℕ)) : Type 0 where
  pub clean : AllByRecursion (λ line. IsTrue (is_clean line)) lines
  pub rows : AllZip IsRow (rows x) (read_words lines)
  pub script : ValidScript x.script
  pub schedule : ValidSchedule x.script spells_packet x.schedule

abbrev pub IsInputText : Input → List ℕ → Type 0
IsInputText x bytes = IsRead x (lines_of bytes)

-- ---- the first faulty line

-- the lines begin an input's
abbrev pub Begins : List (List ℕ) → Type 0
Begins lines = BeginsBy IsRead lines

abbrev pub IsFirstFault : List (List ℕ) → ℕ → Type 0
IsFirstFault lines l = IsFirstFaultBy IsRead lines l

-- ---- the canonical text

abbrev pub column_text : Column → List ℕ
column_text (Word text) = text
column_text (Field kind value) = canonical kind value

-- a row without its line feed
abbrev pub row_line : List Column → List ℕ
row_line row = join_with_byte 32 (map column_text row)

abbrev pub row_text : List Column → List ℕ
row_text row = row_line row ++ 10 ∷ []

abbrev pub canon : Input → List ℕ
canon x = flat_map row_text (rows x)
