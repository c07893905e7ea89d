-- The generated script. This is the project's own.
use Rattle.std.specs.Prelude.{ℕ, ◌+◌, ◌*◌, List, ◌++◌, map, Some}
use Rattle.std.specs.Int.{to_be_bytes, w32}
use Rattle.lapi_base.specs.declared.address.Addr.TheVariants.{Plain}
use Rattle.lapi_base.specs.declared.statement.RmwOp.TheVariants.{Add}
use Rattle.lapi_base.specs.declared.statement.Statement.{Statement}
use Rattle.lapi_base.specs.declared.script.Script.{Script}
use Rattle.lapi_base.specs.Record.Operations.{numbers_below}
use Rattle.lapi_gen.specs.declared.form.TheConstants.{LAYOUT, TASKS, MEMORY, COUNTERS, WORKERS, STORES, STORED, BYTE, BATCHES, DATA, AREA, WORD, OLD_WORD, SUMS, HEADER_HANDLER, COMPLETION_HANDLER, TARGET_COUNTER, ORIGIN_COUNTER, COMPLETION_COUNTER}
use Rattle.lapi_gen.specs.declared.kind.Kind.{Kind}
use Rattle.lapi_gen.specs.declared.kind.Kind.TheVariants.{Put, Get, Rmw, Am}
use Rattle.lapi_gen.specs.Draws.{pick}
use Rattle.lapi_gen.specs.Batches.{first_draw, batch_of, target}

-- The bytes of all stores come first in the stream: task by task, store by store, byte by byte.
abbrev pub stored_bytes : (number : ℕ) → List ℕ
stored_bytes number = map (λ i. pick number i BYTE) (numbers_below (first_draw 0))

-- the bytes of store i of task a
unfoldable pub stored : (number a i : ℕ) → List ℕ
stored number a i = map (λ j. pick number (STORED * (STORES * a + i) + j) BYTE) (numbers_below STORED)

abbrev pub store : (number a i : ℕ) → Statement
store number a i = Statement.Store (STORED * i) (stored number a i)

-- where the bytes that task a moves go: a part of the memory for each task
abbrev pub area : (a : ℕ) → ℕ
area a = AREA + AREA * a

-- the words that a message of task a brings: its place, the place of the sum of its bytes, and who makes the sum
abbrev pub user_header : (a : ℕ) → List ℕ
user_header a = to_be_bytes w32 (area a) ++ to_be_bytes w32 (SUMS + 4 * a) ++ to_be_bytes w32 COMPLETION_HANDLER

-- what task a calls in batch b, by the batch's kind and length and the target t
abbrev pub call : Kind → (len t a b : ℕ) → Statement
call Put len t a b = Statement.Put t (Plain (area a)) DATA len (Some TARGET_COUNTER) (Some ORIGIN_COUNTER) (Some COMPLETION_COUNTER)
call Get len t a b = Statement.Get t (Plain DATA) (area a) len (Some TARGET_COUNTER) (Some ORIGIN_COUNTER)
call Rmw len t a b = Statement.Rmw t Add (Plain WORD) (b + 1) 0 OLD_WORD (Some ORIGIN_COUNTER)
call Am len t a b =
    Statement.Am t HEADER_HANDLER (user_header a) DATA len (Some TARGET_COUNTER) (Some ORIGIN_COUNTER) (Some COMPLETION_COUNTER)

abbrev pub called : (number a b : ℕ) → Statement
called number a b =
    let drawn = batch_of number b in
    call drawn.kind drawn.len (target drawn a) a b

abbrev pub stores_of : (number a : ℕ) → List Statement
stores_of number a = map (store number a) (numbers_below STORES)

abbrev pub calls_of : (number a : ℕ) → List Statement
calls_of number a = map (called number a) (numbers_below BATCHES)

unfoldable pub statements_of : (number a : ℕ) → List Statement
statements_of number a = stores_of number a ++ calls_of number a

unfoldable pub script_of : (number : ℕ) → Script
script_of number = record {
  layout = LAYOUT;
  tasks = TASKS;
  memory = MEMORY;
  counters = COUNTERS;
  workers = WORKERS;
  lists = map (statements_of number) (numbers_below TASKS);
}
