-- What kind of fault a text has: of syntax where its lines have the form of no input, of a limit where they have
-- one and every input of this form passes the number of that quantity. This is the project's own.
use Rattle.std.specs.Prelude.{◌≡◌, ℕ, ◌%◌, ◌≤◌, true, List, ◌++◌, length, take, IsTrue}
use Rattle.std.specs.List.{AllZip, AllByRecursion}
use Rattle.lapi_base.specs.declared.statement.Statement.{Statement}
use Rattle.lapi_base.specs.declared.statement.Statement.TheVariants.{Rmw}
use Rattle.lapi_base.specs.declared.schedule.Line.{Line}
use Rattle.lapi_base.specs.declared.script.Script.{Script}
use Rattle.lapi_base.specs.declared.input.Input.{Input}
use Rattle.lapi_base.specs.declared.input.Which.{Which}
use Rattle.lapi_base.specs.declared.input.Which.TheVariants as which
use Rattle.lapi_base.specs.declared.input.LineError.{LineError}
use Rattle.lapi_base.specs.declared.input.LineError.TheVariants.{Syntax, Limit}
use Rattle.lapi_base.specs.Packet.Layout.{is_version, layout_of, most_lines}
use Rattle.lapi_base.specs.Record.Valid.{in2_by}
use Rattle.lapi_base.specs.Input.Lines.{is_clean, read_words}
use Rattle.lapi_base.specs.Input.Rows.{IsRow, rows}
use Rattle.lapi_base.specs.Input.Reading.{keeps_pieces, keeps_bytes, keeps_injected, names_known}

-- ---- quantities

abbrev pub SizesKeep : Which → Script → Type 0
SizesKeep which.Tasks s = (2 ≤ s.tasks) × (s.tasks ≤ 8)
SizesKeep which.Memory s = (64 ≤ s.memory) × (s.memory ≤ 65536) × (s.memory % 4 ≡ 0)
SizesKeep which.Counters s = s.counters ≤ 64
SizesKeep which.Workers s = (1 ≤ s.workers) × (s.workers ≤ 4)
SizesKeep _ s = Unit {0}

abbrev pub ListKeeps : Which → List Statement → Type 0
ListKeeps which.Statements list = length list ≤ 512
ListKeeps which.Pieces list = AllByRecursion (λ s. IsTrue (keeps_pieces s)) list
ListKeeps which.Bytes list = AllByRecursion (λ s. IsTrue (keeps_bytes s)) list
ListKeeps _ list = Unit {0}

abbrev pub LineKeeps : Which → Script → Line → Type 0
LineKeeps which.Lane script line = line.lane ≤ 15
LineKeeps which.Bytes script line = IsTrue (keeps_injected line.act)
LineKeeps _ script line = Unit {0}

abbrev pub CountKeeps : Which → Script → List Line → Type 0
CountKeeps which.Lines script schedule = length schedule ≤ most_lines (layout_of script.layout)
CountKeeps _ script schedule = Unit {0}

-- everywhere in the input the quantity keeps its number
pub record KeepsLimit (which : Which) (x : Input) : Type 0 where
  pub sizes : SizesKeep which x.script
  pub lists : AllByRecursion (ListKeeps which) x.script.lists
  pub lines : AllByRecursion (LineKeeps which x.script) x.schedule
  pub count : CountKeeps which x.script x.schedule

-- ---- forms

-- a second operand is 0 where none is written
abbrev pub HasOperand : Statement → Type 0
HasOperand (Rmw target op at in1 in2 prev org) = in2_by op in2
HasOperand _ = Unit {0}

-- an input as its lines can say it, whatever its quantities are
pub record IsFormed (x : Input) : Type 0 where
  pub layout : is_version x.script.layout ≡ true
  pub one_list_each : length x.script.lists ≡ x.script.tasks
  pub operands : AllByRecursion (AllByRecursion HasOperand) x.script.lists
  pub named : AllByRecursion (λ line. IsTrue (names_known x.script line.act)) x.schedule

pub record HasForm (x : Input) (lines : List (List ℕ)) : Type 0 where
  pub clean : AllByRecursion (λ line. IsTrue (is_clean line)) lines
  pub rows : AllZip IsRow (rows x) (read_words lines)
  pub formed : IsFormed x

-- the lines begin those of an input's form
abbrev pub BeginsForm : List (List ℕ) → Type 0
BeginsForm lines = (x : Input) × (more : List (List ℕ)) × HasForm x (lines ++ more)

-- ---- faults

-- what a fault at line l says of the lines up to there, or of them all where they end early
abbrev pub IsKind : List (List ℕ) → LineError → ℕ → Type 0
IsKind lines Syntax l = (l ≤ length lines → ¬ BeginsForm (take l lines)) × ((x : Input) → ¬ HasForm x lines)
IsKind lines (Limit which) l = BeginsForm (take l lines) × ((x : Input) (more : List (List ℕ)) → HasForm x (take l lines ++ more) → ¬ KeepsLimit which x)
