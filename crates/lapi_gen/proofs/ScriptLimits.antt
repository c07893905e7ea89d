-- The generated script is valid.
use Rattle.std.proofs.Common.{ℕ, ◌+◌, ◌*◌, ◌%◌, ◌<◌, ◌≤◌, List, length, map, refl, arith}
use Rattle.std.specs.List.{AllByRecursion}
use Rattle.std.proofs.lemmas.List.{length-append}
use Rattle.lapi_base.specs.declared.statement.Statement.{Statement}
use Rattle.lapi_base.specs.Record.Operations.{numbers_below}
use Rattle.lapi_base.specs.Record.Valid.{IsByte, ValidStatement, ValidScript}
use Rattle.lapi_base.proofs.ListLaws.{all-append}
use Rattle.lapi_base.proofs.UptoLaws.{length-over}
use Rattle.lapi_gen.specs.declared.form.TheConstants.{TASKS, STORES, STORED, BYTE, BATCHES, LONGEST}
use Rattle.lapi_gen.specs.declared.kind.Kind.{Kind}
use Rattle.lapi_gen.specs.declared.kind.Kind.TheVariants.{Put, Get, Rmw, Am}
use Rattle.lapi_gen.specs.Draws.{pick}
use Rattle.lapi_gen.specs.Batches.{target, batch_of}
use Rattle.lapi_gen.specs.Scripts.{stored, store, call, called, statements_of, script_of, user_header}
use Rattle.lapi_gen.proofs.Numbered.{all_map}
use Rattle.lapi_gen.proofs.Drawn.{batch_bounds}

store_valid : (number a i : ℕ) → i < STORES → ValidStatement (store number a i)
unfolding stored
store_valid number a i l =
    let size = length-over (λ j. pick number (STORED * (STORES * a + i) + j) BYTE) STORED in
    (omega arith, omega (arith, size), omega (arith, size), all_map IsByte (λ j. pick number (STORED * (STORES * a + i) + j) BYTE) STORED (λ j _. omega arith))

byte_of : (x : ℕ) → x % 256 < 256
byte_of x = omega arith

header_valid : (a : ℕ) → (length (user_header a) ≤ 128) × AllByRecursion IsByte (user_header a)
header_valid a = (
  omega arith,
  (byte_of _, (byte_of _, (byte_of _, (byte_of _, (byte_of _, (byte_of _, (byte_of _, (byte_of _, (omega arith, (omega arith, (omega arith, (omega arith, tt)))))))))))),
)

call_valid : (kind : Kind) (len t a b : ℕ) → len ≤ LONGEST → t < TASKS → a < TASKS → b < BATCHES → ValidStatement (call kind len t a b)
call_valid Put len t a b ll lt la lb = (omega arith, omega arith, omega arith, omega arith, omega arith, omega arith, omega arith)
call_valid Get len t a b ll lt la lb = (omega arith, omega arith, omega arith, omega arith, omega arith, omega arith)
call_valid Rmw len t a b ll lt la lb = (omega arith, omega arith, omega arith, omega arith, refl, omega arith, omega arith)
call_valid Am len t a b ll lt la lb = (omega arith, omega arith, (header_valid a).0, (header_valid a).1, omega arith, omega arith, omega arith, omega arith, omega arith)

list_valid : (number a : ℕ) → a < TASKS → (length (statements_of number a) ≤ 512) × AllByRecursion ValidStatement (statements_of number a)
unfolding statements_of
list_valid number a la =
    let calls : ℕ → Statement = called number a in
    let target_below : (b : ℕ) → target (batch_of number b) a < TASKS = λ b. omega arith in (
      omega (arith, length-append (map (store number a) (numbers_below STORES)) (map calls (numbers_below BATCHES)), length-over (store number a) STORES, length-over calls BATCHES),
      all-append ValidStatement (map (store number a) (numbers_below STORES)) (map calls (numbers_below BATCHES))
          (all_map ValidStatement (store number a) STORES (λ i l. store_valid number a i l))
          (all_map ValidStatement calls BATCHES
          (λ b lb. call_valid (batch_of number b).kind (batch_of number b).len (target (batch_of number b) a) a b (batch_bounds number b).len (target_below b) la lb)),
    )

pub valid_script : (number : ℕ) → ValidScript (script_of number)
unfolding script_of
valid_script number = record {
  layout = refl;
  tasks = (omega arith, omega arith);
  memory = (omega arith, omega arith, refl);
  counters = omega arith;
  workers = (omega arith, omega arith);
  one_list_each = length-over (statements_of number) TASKS;
  lists = all_map (λ (statements : List Statement). (length statements ≤ 512) × AllByRecursion ValidStatement statements) (statements_of number) TASKS (λ a la. list_valid number a la);
}
