-- A line says what its words spell, and only that.
use Rattle.std.proofs.Common.{◌≡◌, ℕ, List, [], ◌∷◌, refl, sym, ap, ◌∙◌, subst, Bool, true, false, cond, Some, None, Option, Result, Ok, Err, inl, inr}
use Rattle.std.specs.Prelude.{codes, ◌⊎◌}
use Rattle.std.specs.List.{AllByRecursion}
use Rattle.lapi_base.specs.declared.input.LineError.{LineError}
use Rattle.lapi_base.specs.declared.input.LineError.TheVariants.{Syntax}
use Rattle.lapi_base.specs.declared.statement.RmwOp.{RmwOp}
use Rattle.lapi_base.specs.declared.statement.RmwOp.TheVariants.{Add, Or, Swap, Cas}
use Rattle.lapi_base.specs.declared.statement.Statement.{Statement}
use Rattle.lapi_base.specs.declared.statement.Statement.TheVariants.{Store, Put, Get, Putv, Getv, Rmw, Am, Wait, Set, Read, Fence, Gfence}
use Rattle.lapi_base.specs.declared.schedule.Act.{Act}
use Rattle.lapi_base.specs.declared.schedule.Act.TheVariants.{Step, Poll, Tick, Deliver, Cut, Inject}
use Rattle.lapi_base.specs.declared.schedule.Line.{Line}
use Rattle.lapi_base.specs.declared.script.Script.{Script}
use Rattle.lapi_base.specs.Record.Valid.{in2_by}
use Rattle.lapi_base.specs.Input.Faults.{HasOperand}
use Rattle.lapi_base.specs.Input.Tokens.{Kind, Number, Value, Stands, value_of, same_text}
use Rattle.lapi_base.specs.Input.Forms.{Form, End, Wrong, Next, Take, run, and_then, well_formed, word_at, value_at, choose, ◌>>=◌, number, expect, head_form, sized, sizes_form, store_form, put_form, get_form, putv_form, getv_form, one_operand_form, cas_form, operations, rmw_form, amsend_form, wait_form, set_form, read_form, address_init_form, statements, statement_form, TaskLine, Task, Schedule, StatementLine, task_line_form, task_form, deliver_form, cut_form, inject_form, worker_form, acts, act_form, line_form}
use Rattle.lapi_base.proofs.Runs.{run_statement, run_line, line_with}
use Rattle.lapi_base.specs.Input.Rows.{Column, Word, Field, IsRow, head_row, sizes_row, task_row, operation_word, second_operand, statement_row, schedule_row, act_row, line_row}
use Rattle.lapi_text.proofs.Parts.{same_text_is}
use Rattle.lapi_text.proofs.Values.{value_says, value_read}

-- the words are the form's in order, and stand for x
abbrev pub Spelled : {A : Type 0} → Form A → A → List (List ℕ) → Type 0
Spelled (End a) x words = (x ≡ a) × (words ≡ [])
Spelled Wrong x words = ⊥
Spelled (Next more) x words = (word : List ℕ) × (rest : List (List ℕ)) × (words ≡ word ∷ rest) × Spelled (more word) x rest
Spelled (Take kind more) x words = (v : Value kind) × (word : List ℕ) × (rest : List (List ℕ)) × (words ≡ word ∷ rest) × Stands kind v word × Spelled (more v) x rest

-- the parts are the form's in order, and stand for x
abbrev pub Matches : {A : Type 0} → Form A → A → List Column → Type 0
Matches (End a) x parts = (x ≡ a) × (parts ≡ [])
Matches Wrong x parts = ⊥
Matches (Next more) x parts = (word : List ℕ) × (rest : List Column) × (parts ≡ Word word ∷ rest) × Matches (more word) x rest
Matches (Take kind more) x parts = (v : Value kind) × (rest : List Column) × (parts ≡ Field kind v ∷ rest) × Matches (more v) x rest

pub err_ok : {A : Type 0} (e : LineError) (x : A) → Err e ≡ Ok x → ⊥
err_ok e x h = cc

pub same_Ok : {A : Type 0} (x y : A) → ◌≡◌ {A = Result A LineError} (Ok x) (Ok y) → x ≡ y
same_Ok x y h = cc

-- what a line says, its words spell
pub spelled : {A : Type 0} (form : Form A) (x : A) (words : List (List ℕ)) → run form words ≡ Ok x → Spelled form x words
spelled (End a) x [] e = (sym (same_Ok a x e), refl)
spelled (End a) x (word ∷ words) e = absurd (err_ok Syntax x e)
spelled Wrong x words e = absurd (err_ok Syntax x e)
spelled (Next more) x [] e = absurd (err_ok Syntax x e)
spelled (Next more) x (word ∷ words) e = (word, words, refl, spelled (more word) x words e)
spelled (Take kind more) x [] e = absurd (err_ok Syntax x e)
spelled (Take kind more) x (word ∷ words) e = taken (value_of kind word) refl e (λ v. spelled (more v) x words)
  where
    taken : (o : Option (Value kind)) → value_of kind word ≡ o → and_then {A = Value kind × List (List ℕ)} (and_then {A = Value kind} {B = Value kind × List (List ℕ)} (well_formed o) (λ v. Ok (v, words))) (λ y. run (more y.0) y.1) ≡ Ok x
        → ((v : Value kind) → run (more v) words ≡ Ok x → Spelled (more v) x words) → Spelled (Take kind more) x (word ∷ words)
    taken None is h rest = absurd (err_ok Syntax x h)
    taken (Some v) is h rest = (v, word, words, refl, value_says kind word v is, rest v h)

-- what the words spell, a line says
pub said : {A : Type 0} (form : Form A) (x : A) (parts : List Column) (words : List (List ℕ)) → Matches form x parts → IsRow parts words → run form words ≡ Ok x
said (End a) x parts [] m z = ap (λ y. Ok y) (sym m.0)
said (End a) x parts (word ∷ words) m z = absurd (subst (λ ps. IsRow ps (word ∷ words)) m.1 z)
said Wrong x parts words m z = absurd m
said (Next more) x parts [] m z = absurd (subst (λ ps. IsRow ps []) m.2 z)
said (Next more) x parts (word ∷ words) m z =
    let here = subst (λ ps. IsRow ps (word ∷ words)) m.2 z in
    rw here.0 (said (more m.0) x m.1 words m.3 here.1)
said (Take kind more) x parts [] m z = absurd (subst (λ ps. IsRow ps []) m.2 z)
said (Take kind more) x parts (word ∷ words) m z =
    let here = subst (λ ps. IsRow ps (word ∷ words)) m.2 z in
    rw (value_read kind word m.0 here.0) (said (more m.0) x m.1 words m.3 here.1)

pub chosen_run : {A : Type 0} (b : Bool) (f g : Form A) (words : List (List ℕ)) (x : A) → run (cond b f g) words ≡ Ok x → ((b ≡ true) × (run f words ≡ Ok x)) ⊎ ((b ≡ false) × (run g words ≡ Ok x))
chosen_run true f g words x e = inl (refl, e)
chosen_run false f g words x e = inr (refl, e)

pub named : (P : List ℕ → Type 0) (word text : List ℕ) → same_text word text ≡ true → P text → P word
named P word text same p = subst P (sym (same_text_is word text same)) p

-- what each form of a table spells holds of what the word that names it and the words after it spell
abbrev pub Table : {A : Type 0} → (A → List (List ℕ) → Type 0) → List (List ℕ × Form A) → Type 0
Table {A = A} P forms = AllByRecursion (λ (f : List ℕ × Form A). (x : A) (words : List (List ℕ)) → Spelled f.1 x words → P x (f.0 ∷ words)) forms

pub choose_says : {A : Type 0} (P : A → List (List ℕ) → Type 0) (forms : List (List ℕ × Form A)) → Table P forms → (word : List ℕ) (words : List (List ℕ)) (x : A) → Spelled (choose forms word) x words → P x (word ∷ words)
choose_says P [] all word words x s = absurd s
choose_says P (f ∷ forms) all word words x s = at (same_text word f.0) refl s (λ t. choose_says P forms all.1 word words x t)
  where
    at : (b : Bool) → same_text word f.0 ≡ b → Spelled (cond b f.1 (choose forms word)) x words → (Spelled (choose forms word) x words → P x (word ∷ words)) → P x (word ∷ words)
    at true same t others = named (λ w. P x (w ∷ words)) word f.0 same (all.0 x words t)
    at false same t others = others t

-- ---- the statements

pub record Says (s : Statement) (words : List (List ℕ)) : Type 0 where
  pub row : IsRow (statement_row s) words
  pub operand : HasOperand s

module _ (s : Statement) (words : List (List ℕ)) where
  store_row : Spelled store_form s words → Says s (codes "store" ∷ words)
  unfolding store_form
  store_row (a, w, r, e, st, (a2, w2, r2, e2, st2, (is, end))) = rw (is, e, e2, end) (record { row = (refl, (st, (st2, tt))); operand = tt })

  put_row : Spelled put_form s words → Says s (codes "put" ∷ words)
  unfolding put_form
  put_row (a, w, r, e, st, (a2, w2, r2, e2, st2, (a3, w3, r3, e3, st3, (a4, w4, r4, e4, st4, (a5, w5, r5, e5, st5, (a6, w6, r6, e6, st6, (a7, w7, r7, e7, st7, (is, end)))))))) =
      rw (is, e, e2, e3, e4, e5, e6, e7, end) (record { row = (refl, (st, (st2, (st3, (st4, (st5, (st6, (st7, tt)))))))); operand = tt })

  get_row : Spelled get_form s words → Says s (codes "get" ∷ words)
  unfolding get_form
  get_row (a, w, r, e, st, (a2, w2, r2, e2, st2, (a3, w3, r3, e3, st3, (a4, w4, r4, e4, st4, (a5, w5, r5, e5, st5, (a6, w6, r6, e6, st6, (is, end))))))) =
      rw (is, e, e2, e3, e4, e5, e6, end) (record { row = (refl, (st, (st2, (st3, (st4, (st5, (st6, tt))))))); operand = tt })

  putv_row : Spelled putv_form s words → Says s (codes "putv" ∷ words)
  unfolding putv_form
  putv_row (a, w, r, e, st, (a2, w2, r2, e2, st2, (a3, w3, r3, e3, st3, (a4, w4, r4, e4, st4, (a5, w5, r5, e5, st5, (a6, w6, r6, e6, st6, (is, end))))))) =
      rw (is, e, e2, e3, e4, e5, e6, end) (record { row = (refl, (st, (st2, (st3, (st4, (st5, (st6, tt))))))); operand = tt })

  getv_row : Spelled getv_form s words → Says s (codes "getv" ∷ words)
  unfolding getv_form
  getv_row (a, w, r, e, st, (a2, w2, r2, e2, st2, (a3, w3, r3, e3, st3, (a4, w4, r4, e4, st4, (a5, w5, r5, e5, st5, (is, end)))))) =
      rw (is, e, e2, e3, e4, e5, end) (record { row = (refl, (st, (st2, (st3, (st4, (st5, tt)))))); operand = tt })

  amsend_row : Spelled amsend_form s words → Says s (codes "amsend" ∷ words)
  unfolding amsend_form
  amsend_row (a, w, r, e, st, (a2, w2, r2, e2, st2, (a3, w3, r3, e3, st3, (a4, w4, r4, e4, st4, (a5, w5, r5, e5, st5, (a6, w6, r6, e6, st6, (a7, w7, r7, e7, st7, (a8, w8, r8, e8, st8, (is, end))))))))) =
      rw (is, e, e2, e3, e4, e5, e6, e7, e8, end) (record { row = (refl, (st, (st2, (st3, (st4, (st5, (st6, (st7, (st8, tt))))))))); operand = tt })

  wait_row : Spelled wait_form s words → Says s (codes "waitcntr" ∷ words)
  unfolding wait_form
  wait_row (a, w, r, e, st, (a2, w2, r2, e2, st2, (is, end))) = rw (is, e, e2, end) (record { row = (refl, (st, (st2, tt))); operand = tt })

  set_row : Spelled set_form s words → Says s (codes "setcntr" ∷ words)
  unfolding set_form
  set_row (a, w, r, e, st, (a2, w2, r2, e2, st2, (is, end))) = rw (is, e, e2, end) (record { row = (refl, (st, (st2, tt))); operand = tt })

  read_row : Spelled read_form s words → Says s (codes "getcntr" ∷ words)
  unfolding read_form
  read_row (a, w, r, e, st, (is, end)) = rw (is, e, end) (record { row = (refl, (st, tt)); operand = tt })

  address_init_row : Spelled address_init_form s words → Says s (codes "address_init" ∷ words)
  unfolding address_init_form
  address_init_row (a, w, r, e, st, (is, end)) = rw (is, e, end) (record { row = (refl, (st, tt)); operand = tt })

  fence_row : Spelled (End Fence) s words → Says s (codes "fence" ∷ words)
  fence_row (is, end) = rw (is, end) (record { row = (refl, tt); operand = tt })

  gfence_row : Spelled (End Gfence) s words → Says s (codes "gfence" ∷ words)
  gfence_row (is, end) = rw (is, end) (record { row = (refl, tt); operand = tt })

module _ (target : ℕ) (tw : List ℕ) (stands : Stands Number target tw) where
  -- what an operation's words say behind the target
  abbrev OperationSays : Statement → List (List ℕ) → Type 0
  OperationSays s words = Says s (codes "rmw" ∷ tw ∷ words)

  one_operand_row : (op : RmwOp) (s : Statement) (words : List (List ℕ)) → ((n : ℕ) → second_operand op n ≡ []) → in2_by op 0 → Spelled (one_operand_form target op) s words → OperationSays s (operation_word op ∷ words)
  unfolding one_operand_form
  one_operand_row op s words none zero (a, w, r, e, st, (a2, w2, r2, e2, st2, (a3, w3, r3, e3, st3, (a4, w4, r4, e4, st4, (is, end))))) =
      rw (is, e, e2, e3, e4, end) (record { row = rw (none 0) (refl, (stands, (refl, (st, (st2, (st3, (st4, tt))))))); operand = zero })

  cas_row : (s : Statement) (words : List (List ℕ)) → Spelled (cas_form target) s words → OperationSays s (codes "cas" ∷ words)
  unfolding cas_form
  cas_row s words (a, w, r, e, st, (a2, w2, r2, e2, st2, (a3, w3, r3, e3, st3, (a4, w4, r4, e4, st4, (a5, w5, r5, e5, st5, (is, end)))))) =
      rw (is, e, e2, e3, e4, e5, end) (record { row = (refl, (stands, (refl, (st, (st2, (st3, (st4, (st5, tt)))))))); operand = tt })

  operations_say : Table OperationSays (operations target)
  operations_say = (
    λ s words sp. one_operand_row Add s words (λ n. refl) refl sp,
    (
      λ s words sp. one_operand_row Or s words (λ n. refl) refl sp,
      (
        λ s words sp. one_operand_row Swap s words (λ n. refl) refl sp,
        (λ s words sp. cas_row s words sp, tt),
      ),
    ),
  )

rmw_row : (s : Statement) (words : List (List ℕ)) → Spelled rmw_form s words → Says s (codes "rmw" ∷ words)
unfolding rmw_form
rmw_row s words (a, w, r, e, st, (op, r2, e2, chosen)) = rw (e, e2) (choose_says (OperationSays a w st) (operations a) (operations_say a w st) op r2 s chosen)

statements_say : Table Says statements
statements_say = (
  λ s words sp. store_row s words sp,
  (
    λ s words sp. put_row s words sp,
    (
      λ s words sp. get_row s words sp,
      (
        λ s words sp. putv_row s words sp,
        (
          λ s words sp. getv_row s words sp,
          (
            λ s words sp. rmw_row s words sp,
            (
              λ s words sp. amsend_row s words sp,
              (
                λ s words sp. wait_row s words sp,
                (
                  λ s words sp. set_row s words sp,
                  (
                    λ s words sp. read_row s words sp,
                    (
                      λ s words sp. fence_row s words sp,
                      (
                        λ s words sp. gfence_row s words sp,
                        (λ s words sp. address_init_row s words sp, tt),
                      ),
                    ),
                  ),
                ),
              ),
            ),
          ),
        ),
      ),
    ),
  ),
)

-- what is read as a statement is spelled as one
pub statement_says : (word : List ℕ) (words : List (List ℕ)) (s : Statement) → run (statement_form word) words ≡ Ok s → Says s (word ∷ words)
statement_says word words s e = choose_says Says statements statements_say word words s (spelled (statement_form word) s words e)

-- a statement's row is read as the statement
pub statement_matches : (s : Statement) → HasOperand s → Matches task_line_form (StatementLine s) (statement_row s)
unfolding task_line_form store_form put_form get_form putv_form getv_form one_operand_form cas_form rmw_form amsend_form wait_form set_form read_form address_init_form
statement_matches (Store at bytes) o = (codes "store", _, refl, (at, _, refl, (bytes, _, refl, (refl, refl))))
statement_matches (Put target to from len tgt org cmpl) o =
    (codes "put", _, refl, (target, _, refl, (to, _, refl, (from, _, refl, (len, _, refl, (tgt, _, refl, (org, _, refl, (cmpl, _, refl, (refl, refl)))))))))
statement_matches (Get target from to len tgt org) o = (codes "get", _, refl, (target, _, refl, (from, _, refl, (to, _, refl, (len, _, refl, (tgt, _, refl, (org, _, refl, (refl, refl))))))))
statement_matches (Putv target to from tgt org cmpl) o = (codes "putv", _, refl, (target, _, refl, (to, _, refl, (from, _, refl, (tgt, _, refl, (org, _, refl, (cmpl, _, refl, (refl, refl))))))))
statement_matches (Getv target from to tgt org) o = (codes "getv", _, refl, (target, _, refl, (from, _, refl, (to, _, refl, (tgt, _, refl, (org, _, refl, (refl, refl)))))))
statement_matches (Rmw target Add at in1 in2 prev org) o =
    (codes "rmw", _, refl, (target, _, refl, (codes "add", _, refl, (at, _, refl, (in1, _, refl, (prev, _, refl, (org, _, refl, (ap (λ n. StatementLine (Rmw target Add at in1 n prev org)) o, refl))))))))
statement_matches (Rmw target Or at in1 in2 prev org) o =
    (codes "rmw", _, refl, (target, _, refl, (codes "or", _, refl, (at, _, refl, (in1, _, refl, (prev, _, refl, (org, _, refl, (ap (λ n. StatementLine (Rmw target Or at in1 n prev org)) o, refl))))))))
statement_matches (Rmw target Swap at in1 in2 prev org) o =
    (codes "rmw", _, refl, (target, _, refl, (codes "swap", _, refl, (at, _, refl, (in1, _, refl, (prev, _, refl, (org, _, refl, (ap (λ n. StatementLine (Rmw target Swap at in1 n prev org)) o, refl))))))))
statement_matches (Rmw target Cas at in1 in2 prev org) o =
    (codes "rmw", _, refl, (target, _, refl, (codes "cas", _, refl, (at, _, refl, (in1, _, refl, (in2, _, refl, (prev, _, refl, (org, _, refl, (refl, refl)))))))))
statement_matches (Am target handler header from len tgt org cmpl) o =
    (codes "amsend", _, refl, (target, _, refl, (handler, _, refl, (header, _, refl, (from, _, refl, (len, _, refl, (tgt, _, refl, (org, _, refl, (cmpl, _, refl, (refl, refl))))))))))
statement_matches (Wait c value) o = (codes "waitcntr", _, refl, (c, _, refl, (value, _, refl, (refl, refl))))
statement_matches (Set c value) o = (codes "setcntr", _, refl, (c, _, refl, (value, _, refl, (refl, refl))))
statement_matches (Read c) o = (codes "getcntr", _, refl, (c, _, refl, (refl, refl)))
statement_matches Fence o = (codes "fence", _, refl, (refl, refl))
statement_matches Gfence o = (codes "gfence", _, refl, (refl, refl))
statement_matches (Statement.Addr at) o = (codes "address_init", _, refl, (at, _, refl, (refl, refl)))

-- ---- the other lines among the tasks

abbrev pub TaskLineSays : TaskLine → List (List ℕ) → Type 0
TaskLineSays (Task t) words = IsRow (task_row t) words
TaskLineSays Schedule words = IsRow schedule_row words
TaskLineSays (StatementLine s) words = Says s words

pub bound : {A B : Type 0} (r : Result A LineError) (f : A → Result B LineError) (y : B) → and_then r f ≡ Ok y → (x : A) × (r ≡ Ok x) × (f x ≡ Ok y)
bound (Ok x) f y e = (x, refl, e)
bound (Err w) f y e = absurd (err_ok w y e)

pub task_line_says : (words : List (List ℕ)) (line : TaskLine) → run task_line_form words ≡ Ok line → TaskLineSays line words
unfolding task_line_form
task_line_says [] line e = absurd (err_ok Syntax line e)
task_line_says (word ∷ words) line e = at_task (chosen_run _ _ _ words line e)
  where
    task : Spelled (number >>= λ t. End (Task t)) line words → TaskLineSays line (codes "task" ∷ words)
    task (t, w, r, e, stands, (is, end)) = rw (is, e, end) (refl, (stands, tt))

    schedule : Spelled (End Schedule) line words → TaskLineSays line (codes "schedule" ∷ words)
    schedule (is, end) = rw (is, end) (refl, tt)

    does : (s : Statement) × (run (statement_form word) words ≡ Ok s) × (◌≡◌ {A = Result TaskLine LineError} (Ok (StatementLine s)) (Ok line)) → TaskLineSays line (word ∷ words)
    does (s, e, is) = rw (← same_Ok _ _ is) (statement_says word words s e)

    at_schedule : ((same_text word (codes "schedule") ≡ true) × (run (End Schedule) words ≡ Ok line)) ⊎ ((same_text word (codes "schedule") ≡ false) × (run (statement_form word >>= λ s. End (StatementLine s)) words ≡ Ok line))
        → TaskLineSays line (word ∷ words)
    at_schedule (inl h) = named (λ w. TaskLineSays line (w ∷ words)) word (codes "schedule") h.0 (schedule (spelled (End Schedule) line words h.1))
    at_schedule (inr h) = does (bound (run (statement_form word) words) (λ s. Ok (StatementLine s)) line (sym (run_statement word words) ∙ h.1))

    at_task : ((same_text word (codes "task") ≡ true) × (run (number >>= λ t. End (Task t)) words ≡ Ok line))
        ⊎ ((same_text word (codes "task") ≡ false) × (run (cond (same_text word (codes "schedule")) (End Schedule) (statement_form word >>= λ s. End (StatementLine s))) words ≡ Ok line)) → TaskLineSays line (word ∷ words)
    at_task (inl h) = named (λ w. TaskLineSays line (w ∷ words)) word (codes "task") h.0 (task (spelled (number >>= λ t. End (Task t)) line words h.1))
    at_task (inr h) = at_schedule (chosen_run _ _ _ words line h.1)

-- ---- the head

pub expected : {A : Type 0} (text : List ℕ) (more : Form A) (x : A) (words : List (List ℕ)) → Spelled (expect text more) x words → (rest : List (List ℕ)) × (words ≡ text ∷ rest) × Spelled more x rest
expected text more x words (word, rest, e, s) = at (same_text word text) refl s
  where
    at : (b : Bool) → same_text word text ≡ b → Spelled (cond b more Wrong) x rest → (rest : List (List ℕ)) × (words ≡ text ∷ rest) × Spelled more x rest
    at true same t = (rest, e ∙ ap (λ w. w ∷ rest) (same_text_is word text same), t)
    at false same t = absurd t

head_chain : (layout : ℕ) (words rest : List (List ℕ)) → words ≡ codes "lapi" ∷ rest → Spelled number layout rest → IsRow (head_row layout) words
head_chain layout words rest e (n, w, r, e2, stands, (is, end)) = rw (e, e2, end, is) (refl, (stands, tt))

pub head_says : (words : List (List ℕ)) (layout : ℕ) → run head_form words ≡ Ok layout → IsRow (head_row layout) words
unfolding head_form
head_says words layout e =
    let a = expected (codes "lapi") number layout words (spelled (expect (codes "lapi") number) layout words e) in
    head_chain layout words a.0 a.1 a.2

-- a script's sizes, and no lists yet
pub record SizesSay (layout : ℕ) (s : Script) (words : List (List ℕ)) : Type 0 where
  pub row : IsRow (sizes_row s) words
  pub same_layout : s.layout ≡ layout
  pub none : s.lists ≡ []

module _ (layout : ℕ) where
  abbrev workers_part : ℕ → ℕ → ℕ → Form Script
  workers_part tasks memory counters = Take Number (λ workers. End (sized layout tasks memory counters workers))

  abbrev counters_part : ℕ → ℕ → Form Script
  counters_part tasks memory = Take Number (λ counters. expect (codes "workers") (workers_part tasks memory counters))

  abbrev memory_part : ℕ → Form Script
  memory_part tasks = Take Number (λ memory. expect (codes "counters") (counters_part tasks memory))

  abbrev tasks_part : Form Script
  tasks_part = Take Number (λ tasks. expect (codes "memory") (memory_part tasks))

  sizes_chain : (s : Script) (words r1 r2 r3 r4 r5 r6 r7 r8 : List (List ℕ)) (w1 w2 w3 w4 : List ℕ) (tasks memory counters workers : ℕ)
      → words ≡ codes "tasks" ∷ r1 → r1 ≡ w1 ∷ r2 → r2 ≡ codes "memory" ∷ r3 → r3 ≡ w2 ∷ r4 → r4 ≡ codes "counters" ∷ r5 → r5 ≡ w3 ∷ r6 → r6 ≡ codes "workers" ∷ r7 → r7 ≡ w4 ∷ r8
      → Stands Number tasks w1 → Stands Number memory w2 → Stands Number counters w3 → Stands Number workers w4
      → (s ≡ sized layout tasks memory counters workers) × (r8 ≡ []) → SizesSay layout s words
  sizes_chain s words r1 r2 r3 r4 r5 r6 r7 r8 w1 w2 w3 w4 tasks memory counters workers e1 e2 e3 e4 e5 e6 e7 e8 s1 s2 s3 s4 end =
      rw (e1, e2, e3, e4, e5, e6, e7, e8, end.1, end.0) (record { row = (refl, (s1, (refl, (s2, (refl, (s3, (refl, (s4, tt)))))))); same_layout = refl; none = refl })

  pub sizes_says : (words : List (List ℕ)) (s : Script) → run (sizes_form layout) words ≡ Ok s → SizesSay layout s words
  unfolding sizes_form
  sizes_says words s e =
      let a = expected (codes "tasks") tasks_part s words (spelled (expect (codes "tasks") tasks_part) s words e) in
      let t = a.2 in
      let b = expected (codes "memory") (memory_part t.0) s t.2 t.5 in
      let m = b.2 in
      let c = expected (codes "counters") (counters_part t.0 m.0) s m.2 m.5 in
      let k = c.2 in
      let d = expected (codes "workers") (workers_part t.0 m.0 k.0) s k.2 k.5 in
      let w = d.2 in
      sizes_chain s words a.0 t.2 b.0 m.2 c.0 k.2 d.0 w.2 t.1 m.1 k.1 w.1 t.0 m.0 k.0 w.0 a.1 t.3 b.1 m.3 c.1 k.3 d.1 w.3 t.4 m.4 k.4 w.4 w.5

-- ---- the schedule

abbrev ActSays : Act → List (List ℕ) → Type 0
ActSays a words = IsRow (act_row a) words

task_act : (text : List ℕ) (act : ℕ → Act) → ((t : ℕ) → act_row (act t) ≡ Word text ∷ Field Number t ∷ []) → (a : Act) (words : List (List ℕ)) → Spelled (task_form act) a words → ActSays a (text ∷ words)
unfolding task_form
task_act text act row a words (t, w, r, e, st, (is, end)) = rw (is, row t, e, end) (refl, (st, tt))

worker_act : (text : List ℕ) (act : ℕ → ℕ → Act) → ((t w : ℕ) → act_row (act t w) ≡ Word text ∷ Field Number t ∷ Field Number w ∷ []) → (a : Act) (words : List (List ℕ)) → Spelled (worker_form act) a words → ActSays a (text ∷ words)
unfolding worker_form
worker_act text act row a words (t, w, r, e, st, (t2, w2, r2, e2, st2, (is, end))) = rw (is, row t t2, e, e2, end) (refl, (st, (st2, tt)))

deliver_act : (a : Act) (words : List (List ℕ)) → Spelled deliver_form a words → ActSays a (codes "deliver" ∷ words)
unfolding deliver_form
deliver_act a words (x, w, r, e, st, (x2, w2, r2, e2, st2, (x3, w3, r3, e3, st3, (is, end)))) = rw (is, e, e2, e3, end) (refl, (st, (st2, (st3, tt))))

cut_act : (a : Act) (words : List (List ℕ)) → Spelled cut_form a words → ActSays a (codes "cut" ∷ words)
unfolding cut_form
cut_act a words (x, w, r, e, st, (x2, w2, r2, e2, st2, (x3, w3, r3, e3, st3, (x4, w4, r4, e4, st4, (is, end))))) = rw (is, e, e2, e3, e4, end) (refl, (st, (st2, (st3, (st4, tt)))))

inject_act : (a : Act) (words : List (List ℕ)) → Spelled inject_form a words → ActSays a (codes "inject" ∷ words)
unfolding inject_form
inject_act a words (x, w, r, e, st, (x2, w2, r2, e2, st2, (x3, w3, r3, e3, st3, (is, end)))) = rw (is, e, e2, e3, end) (refl, (st, (st2, (st3, tt))))

acts_say : Table ActSays acts
acts_say = (
  λ a words sp. task_act (codes "step") (λ t. Step t) (λ t. refl) a words sp,
  (
    λ a words sp. task_act (codes "poll") (λ t. Poll t) (λ t. refl) a words sp,
    (
      λ a words sp. task_act (codes "tick") (λ t. Tick t) (λ t. refl) a words sp,
      (
        λ a words sp. deliver_act a words sp,
        (
          λ a words sp. cut_act a words sp,
          (
            λ a words sp. inject_act a words sp,
            (
              λ a words sp. worker_act (codes "begin") (λ t w. Act.Begin t w) (λ t w. refl) a words sp,
              (λ a words sp. worker_act (codes "end") (λ t w. Act.End t w) (λ t w. refl) a words sp, tt),
            ),
          ),
        ),
      ),
    ),
  ),
)

pub act_says : (word : List ℕ) (words : List (List ℕ)) (a : Act) → run (act_form word) words ≡ Ok a → IsRow (act_row a) (word ∷ words)
act_says word words a e = choose_says ActSays acts acts_say word words a (spelled (act_form word) a words e)

value_taken : (kind : Kind) (word : List ℕ) (words rest : List (List ℕ)) (v : Value kind) (o : Option (Value kind)) → value_of kind word ≡ o
    → ◌≡◌ {A = Result (Value kind × List (List ℕ)) LineError} (and_then {A = Value kind} {B = Value kind × List (List ℕ)} (well_formed o) (λ v. Ok (v, words))) (Ok (v, rest)) → (words ≡ rest) × Stands kind v word
value_taken kind word words rest v None is e = absurd (err_ok {A = Value kind × List (List ℕ)} Syntax (v, rest) e)
value_taken kind word words rest v (Some u) is e =
    let same : ◌≡◌ {A = Value kind × List (List ℕ)} (u, words) (v, rest) = same_Ok (u, words) (v, rest) e in
    (ap (λ (p : Value kind × List (List ℕ)). p.1) same, subst (λ v. Stands kind v word) (ap (λ (p : Value kind × List (List ℕ)). p.0) same) (value_says kind word u is))

value_at_says : (kind : Kind) (words rest : List (List ℕ)) (v : Value kind) → value_at kind words ≡ Ok (v, rest) → (w : List ℕ) × (words ≡ w ∷ rest) × Stands kind v w
value_at_says kind [] rest v e = absurd (err_ok {A = Value kind × List (List ℕ)} Syntax (v, rest) e)
value_at_says kind (word ∷ words) rest v e =
    let h = value_taken kind word words rest v (value_of kind word) refl e in
    (word, ap (λ ws. word ∷ ws) h.0, h.1)

word_at_says : (words rest : List (List ℕ)) (w : List ℕ) → word_at words ≡ Ok (w, rest) → words ≡ w ∷ rest
word_at_says [] rest w e = absurd (err_ok {A = List ℕ × List (List ℕ)} Syntax (w, rest) e)
word_at_says (word ∷ words) rest w e = ap (λ (p : List ℕ × List (List ℕ)). p.0 ∷ p.1) (same_Ok {A = List ℕ × List (List ℕ)} (word, words) (w, rest) e)

line_chain : (line : Line) (words rest rest2 : List (List ℕ)) (n : ℕ) (word : List ℕ) (act : Act) → (w : List ℕ) × (words ≡ w ∷ rest) × Stands Number n w → rest ≡ word ∷ rest2
    → IsRow (act_row act) (word ∷ rest2) → line_with n act ≡ line → IsRow (line_row line) words
line_chain line words rest rest2 n word act (w, e, stands) e2 z is = subst (λ l. IsRow (line_row l) words) is (rw (e, e2) (stands, z))

pub line_says : (words : List (List ℕ)) (line : Line) → run line_form words ≡ Ok line → IsRow (line_row line) words
line_says words line e =
    let a = bound (value_at Number words) _ line (sym (run_line words) ∙ e) in
    let b = bound (word_at a.0.1) _ line a.2 in
    let c = bound (run (act_form b.0.0) b.0.1) _ line b.2 in
    line_chain line words a.0.1 b.0.1 a.0.0 b.0.0 c.0 (value_at_says Number words a.0.1 a.0.0 a.1) (word_at_says a.0.1 b.0.1 b.0.0 b.1) (act_says b.0.0 b.0.1 c.0 c.1) (same_Ok _ _ c.2)

pub task_matches : (t : ℕ) → Matches task_line_form (Task t) (task_row t)
unfolding task_line_form
task_matches t = (codes "task", _, refl, (t, _, refl, (refl, refl)))

pub schedule_matches : Matches task_line_form Schedule schedule_row
unfolding task_line_form
schedule_matches = (codes "schedule", _, refl, (refl, refl))

pub head_matches : (layout : ℕ) → Matches head_form layout (head_row layout)
unfolding head_form
head_matches layout = (codes "lapi", _, refl, (layout, _, refl, (refl, refl)))

-- a script of the same sizes, without tasks
abbrev pub without_tasks : Script → Script
without_tasks s = sized s.layout s.tasks s.memory s.counters s.workers

pub sizes_matches : (s : Script) → Matches (sizes_form s.layout) (without_tasks s) (sizes_row s)
unfolding sizes_form
sizes_matches s = (codes "tasks", _, refl, (s.tasks, _, refl, (codes "memory", _, refl, (s.memory, _, refl, (codes "counters", _, refl, (s.counters, _, refl, (codes "workers", _, refl, (s.workers, _, refl, (refl, refl)))))))))

pub line_matches : (line : Line) → Matches line_form line (line_row line)
unfolding line_form task_form deliver_form cut_form inject_form worker_form
line_matches line = (line.lane, _, refl, act line.act)
  where
    act : (a : Act) → Matches (Next (λ word. act_form word >>= λ act. End (line_with line.lane act))) (line_with line.lane a) (act_row a)
    act (Step t) = (codes "step", _, refl, (t, _, refl, (refl, refl)))
    act (Poll t) = (codes "poll", _, refl, (t, _, refl, (refl, refl)))
    act (Tick t) = (codes "tick", _, refl, (t, _, refl, (refl, refl)))
    act (Deliver a b k) = (codes "deliver", _, refl, (a, _, refl, (b, _, refl, (k, _, refl, (refl, refl)))))
    act (Cut a b k n) = (codes "cut", _, refl, (a, _, refl, (b, _, refl, (k, _, refl, (n, _, refl, (refl, refl))))))
    act (Inject a b bytes) = (codes "inject", _, refl, (a, _, refl, (b, _, refl, (bytes, _, refl, (refl, refl)))))
    act (Act.Begin t w) = (codes "begin", _, refl, (t, _, refl, (w, _, refl, (refl, refl))))
    act (Act.End t w) = (codes "end", _, refl, (t, _, refl, (w, _, refl, (refl, refl))))
