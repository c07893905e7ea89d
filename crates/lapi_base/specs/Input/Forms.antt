-- The same lines as they are read, word by word. This is the project's own.
use Rattle.std.specs.Prelude.{ℕ, if◌then◌else◌, List, [], ◌∷◌, codes, Option, Some, None, Result, Ok, Err}
use Rattle.lapi_base.specs.declared.input.LineError.{LineError}
use Rattle.lapi_base.specs.declared.input.LineError.TheVariants.{Syntax}
use Rattle.lapi_base.specs.declared.address.Addr.{Addr}
use Rattle.lapi_base.specs.declared.vector.Vector.{Vector}
use Rattle.lapi_base.specs.declared.statement.RmwOp.{RmwOp}
use Rattle.lapi_base.specs.declared.statement.RmwOp.TheVariants.{Add, Or, Swap, Cas}
use Rattle.lapi_base.specs.declared.statement.Statement.{Statement}
use Rattle.lapi_base.specs.declared.statement.Statement.TheVariants.{Store, Put, Get, Putv, Getv, Rmw, Am, Wait, Set, Read, Fence, Gfence}
use Rattle.lapi_base.specs.declared.schedule.Act.{Act}
use Rattle.lapi_base.specs.declared.schedule.Act.TheVariants.{Step, Poll, Tick, Deliver, Cut, Inject}
use Rattle.lapi_base.specs.declared.schedule.Line.{Line}
use Rattle.lapi_base.specs.declared.script.Script.{Script}
use Rattle.lapi_base.specs.Input.Tokens.{Kind, Number, Counter, Hex, OptionalHex, Address, PlainVector, TargetVector, Value, value_of, same_text}

pub data Form (A : Type 0) : Type 0 where
  -- the line ends
  End : A → Form A
  -- no line goes on so
  Wrong : Form A
  -- a word, whatever it is
  Next : (more : List ℕ → Form A) → Form A
  -- a value of a kind
  Take : (kind : Kind) (more : Value kind → Form A) → Form A

abbrev pub and_then : {A B : Type 0} → Result A LineError → (A → Result B LineError) → Result B LineError
and_then (Ok x) f = f x
and_then (Err e) f = Err e

abbrev pub well_formed : {A : Type 0} → Option A → Result A LineError
well_formed None = Err Syntax
well_formed (Some x) = Ok x

-- a word, and the words after it
abbrev pub word_at : List (List ℕ) → Result (List ℕ × List (List ℕ)) LineError
word_at [] = Err Syntax
word_at (word ∷ words) = Ok (word, words)

-- a value, and the words after it
abbrev pub value_at : (kind : Kind) → List (List ℕ) → Result (Value kind × List (List ℕ)) LineError
value_at kind words = and_then (word_at words) (λ x. and_then (well_formed (value_of kind x.0)) (λ v. Ok (v, x.1)))

-- the words after this one
abbrev pub keyword_at : List ℕ → List (List ℕ) → Result (List (List ℕ)) LineError
keyword_at text words = and_then (word_at words) (λ x. if same_text x.0 text then Ok x.1 else Err Syntax)

abbrev pub end_at : List (List ℕ) → Result (Unit {0}) LineError
end_at [] = Ok tt
end_at (word ∷ words) = Err Syntax

-- what the line's words say
abbrev pub run : {A : Type 0} → Form A → List (List ℕ) → Result A LineError
run (End a) words = and_then (end_at words) (λ _. Ok a)
run Wrong words = Err Syntax
run (Next more) words = and_then (word_at words) (λ x. run (more x.0) x.1)
run (Take kind more) words = and_then (value_at kind words) (λ x. run (more x.0) x.1)

-- this word, and then the form
abbrev pub expect : {A : Type 0} → List ℕ → Form A → Form A
expect text more = Next (λ word. if same_text word text then more else Wrong)

-- the form that the word names
abbrev pub choose : {A : Type 0} → List (List ℕ × Form A) → List ℕ → Form A
choose [] word = Wrong
choose (named ∷ others) word = if same_text word named.0 then named.1 else choose others word

infixl 10 ◌>>=◌
abbrev pub ◌>>=◌ : {A B : Type 0} → Form A → (A → Form B) → Form B
(End a) >>= f = f a
Wrong >>= f = Wrong
(Next more) >>= f = Next (λ word. more word >>= f)
(Take kind more) >>= f = Take kind (λ v. more v >>= f)

abbrev pub word : Form (List ℕ)
word = Next (λ w. End w)

abbrev pub number : Form ℕ
number = Take Number (λ n. End n)

abbrev pub counter : Form (Option ℕ)
counter = Take Counter (λ c. End c)

abbrev pub hex : Form (List ℕ)
hex = Take Hex (λ bytes. End bytes)

abbrev pub optional_hex : Form (List ℕ)
optional_hex = Take OptionalHex (λ bytes. End bytes)

abbrev pub address : Form Addr
address = Take Address (λ at. End at)

abbrev pub plain_vector : Form Vector
plain_vector = Take PlainVector (λ vector. End vector)

abbrev pub target_vector : Form Vector
target_vector = Take TargetVector (λ vector. End vector)

-- ---- the head

unfoldable pub head_form : Form ℕ
head_form = expect (codes "lapi") number

-- a script of these sizes without tasks
abbrev pub sized : (layout tasks memory counters workers : ℕ) → Script
sized layout tasks memory counters workers = record { layout = layout; tasks = tasks; memory = memory; counters = counters; workers = workers; lists = [] }

unfoldable pub sizes_form : ℕ → Form Script
sizes_form layout =
    expect (codes "tasks") (Take Number (λ tasks.
    expect (codes "memory") (Take Number (λ memory.
    expect (codes "counters") (Take Number (λ counters.
    expect (codes "workers") (Take Number (λ workers.
    End (sized layout tasks memory counters workers)))))))))

-- ---- the statements

unfoldable pub store_form : Form Statement
store_form = do
  at ← number
  bytes ← hex
  End (Store at bytes)

unfoldable pub put_form : Form Statement
put_form = do
  target ← number
  to ← address
  from ← number
  len ← number
  tgt ← counter
  org ← counter
  cmpl ← counter
  End (Put target to from len tgt org cmpl)

unfoldable pub get_form : Form Statement
get_form = do
  target ← number
  from ← address
  to ← number
  len ← number
  tgt ← counter
  org ← counter
  End (Get target from to len tgt org)

unfoldable pub putv_form : Form Statement
putv_form = do
  target ← number
  to ← target_vector
  from ← plain_vector
  tgt ← counter
  org ← counter
  cmpl ← counter
  End (Putv target to from tgt org cmpl)

unfoldable pub getv_form : Form Statement
getv_form = do
  target ← number
  from ← target_vector
  to ← plain_vector
  tgt ← counter
  org ← counter
  End (Getv target from to tgt org)

-- an operation with one operand
unfoldable pub one_operand_form : ℕ → RmwOp → Form Statement
one_operand_form target op = do
  at ← address
  in1 ← number
  prev ← number
  org ← counter
  End (Rmw target op at in1 0 prev org)

unfoldable pub cas_form : ℕ → Form Statement
cas_form target = do
  at ← address
  in1 ← number
  in2 ← number
  prev ← number
  org ← counter
  End (Rmw target Cas at in1 in2 prev org)

abbrev pub operations : ℕ → List (List ℕ × Form Statement)
operations target =
    (codes "add", one_operand_form target Add)
    ∷ (codes "or", one_operand_form target Or)
    ∷ (codes "swap", one_operand_form target Swap)
    ∷ (codes "cas", cas_form target)
    ∷ []

unfoldable pub rmw_form : Form Statement
rmw_form = do
  target ← number
  op ← word
  choose (operations target) op

unfoldable pub amsend_form : Form Statement
amsend_form = do
  target ← number
  handler ← number
  header ← optional_hex
  from ← number
  len ← number
  tgt ← counter
  org ← counter
  cmpl ← counter
  End (Am target handler header from len tgt org cmpl)

unfoldable pub wait_form : Form Statement
wait_form = do
  c ← number
  value ← number
  End (Wait c value)

unfoldable pub set_form : Form Statement
set_form = do
  c ← number
  value ← number
  End (Set c value)

unfoldable pub read_form : Form Statement
read_form = do
  c ← number
  End (Read c)

unfoldable pub address_init_form : Form Statement
address_init_form = do
  at ← number
  End (Statement.Addr at)

abbrev pub statements : List (List ℕ × Form Statement)
statements =
    (codes "store", store_form)
    ∷ (codes "put", put_form)
    ∷ (codes "get", get_form)
    ∷ (codes "putv", putv_form)
    ∷ (codes "getv", getv_form)
    ∷ (codes "rmw", rmw_form)
    ∷ (codes "amsend", amsend_form)
    ∷ (codes "waitcntr", wait_form)
    ∷ (codes "setcntr", set_form)
    ∷ (codes "getcntr", read_form)
    ∷ (codes "fence", End Fence)
    ∷ (codes "gfence", End Gfence)
    ∷ (codes "address_init", address_init_form)
    ∷ []

abbrev pub statement_form : List ℕ → Form Statement
statement_form word = choose statements word

-- a line among the tasks' statements
pub data TaskLine : Type 0 where
  Task : ℕ → TaskLine
  Schedule : TaskLine
  StatementLine : Statement → TaskLine

unfoldable pub task_line_form : Form TaskLine
task_line_form = Next (λ word.
    if same_text word (codes "task") then (number >>= λ t. End (Task t))
    else if same_text word (codes "schedule") then End Schedule
    else (statement_form word >>= λ s. End (StatementLine s)))

-- ---- the schedule

-- a line that names a task
unfoldable pub task_form : (ℕ → Act) → Form Act
task_form act = do
  t ← number
  End (act t)

unfoldable pub deliver_form : Form Act
deliver_form = do
  a ← number
  b ← number
  k ← number
  End (Deliver a b k)

unfoldable pub cut_form : Form Act
cut_form = do
  a ← number
  b ← number
  k ← number
  n ← number
  End (Cut a b k n)

unfoldable pub inject_form : Form Act
inject_form = do
  a ← number
  b ← number
  bytes ← optional_hex
  End (Inject a b bytes)

-- a line that names a task and a worker
unfoldable pub worker_form : (ℕ → ℕ → Act) → Form Act
worker_form act = do
  t ← number
  w ← number
  End (act t w)

abbrev pub acts : List (List ℕ × Form Act)
acts =
    (codes "step", task_form (λ t. Step t))
    ∷ (codes "poll", task_form (λ t. Poll t))
    ∷ (codes "tick", task_form (λ t. Tick t))
    ∷ (codes "deliver", deliver_form)
    ∷ (codes "cut", cut_form)
    ∷ (codes "inject", inject_form)
    ∷ (codes "begin", worker_form (λ t w. Act.Begin t w))
    ∷ (codes "end", worker_form (λ t w. Act.End t w))
    ∷ []

abbrev pub act_form : List ℕ → Form Act
act_form word = choose acts word

unfoldable pub line_form : Form Line
line_form = do
  lane ← number
  act ← Next act_form
  End (record { lane = lane; act = act })
