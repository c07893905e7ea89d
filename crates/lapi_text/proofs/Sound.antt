-- What is read is spelled so, within the limits.
use Rattle.std.proofs.Common.{◌≡◌, ℕ, suc, ◌+◌, ◌≤◌, ◌<◌, ◌%◌, List, [], ◌∷◌, ◌++◌, length, map, refl, sym, ap, ◌∙◌, subst, Bool, true, false, cond, Result, Ok, Err, inl, inr, arith, append_assoc, nat_lt, nat_le}
use Rattle.std.specs.Prelude.{codes, ◌⊎◌, IsTrue, ◌==◌}
use Rattle.std.specs.List.{AllZip, AllByRecursion}
use Rattle.std.proofs.lemmas.List.{append-nil, map-append, length-append}
use Rattle.std.proofs.lemmas.Bool.{ltb-true, leb-true, eqb-true, false≢true}
use Rattle.lapi_base.specs.declared.input.LineError.{LineError}
use Rattle.lapi_base.specs.declared.input.LineError.TheVariants.{Syntax, Limit}
use Rattle.lapi_base.specs.declared.input.Which.{Which}
use Rattle.lapi_base.specs.declared.input.Which.TheVariants as which
use Rattle.lapi_base.specs.declared.statement.Statement.{Statement}
use Rattle.lapi_base.specs.declared.schedule.Line.{Line}
use Rattle.lapi_base.specs.declared.script.Script.{Script}
use Rattle.lapi_base.specs.declared.input.Input.{Input}
use Rattle.lapi_base.specs.Packet.Layout.{is_version, layout_of, most_lines}
use Rattle.lapi_base.specs.Record.Valid.{ValidStatement, ValidScript, ValidSchedule, ValidLine}
use Rattle.lapi_base.specs.Packet.Spelling.{spells_packet}
use Rattle.lapi_base.specs.Input.Lines.{words_of, is_clean, is_skipped, read_words}
use Rattle.lapi_base.specs.Input.Forms.{run, and_then, head_form, sizes_form, TaskLine, Task, Schedule, StatementLine, task_line_form, line_form}
use Rattle.lapi_base.specs.Input.Rows.{Column, IsRow, head_row, sizes_row, task_row, statement_row, schedule_row, done_row, line_row, task_rows, script_rows, rows, IsRead}
use Rattle.lapi_base.specs.Input.Reading as reading
use Rattle.lapi_base.specs.Input.Reading.{State, step, after, read_from, input_of, at_line, within, checked_sizes, keeps_pieces, keeps_bytes, keeps_injected, names_known, with_task, on_first_task, on_statement, on_task_line, on_line, is_word}
use Rattle.lapi_text.proofs.Parts.{same_text_is, chosen}
use Rattle.lapi_text.proofs.Rules.{err_ok, same_Ok, bound, head_says, sizes_says, SizesSay, task_line_says, TaskLineSays, Says, line_says}
use Rattle.lapi_text.proofs.Bounds.{both_true, row_fit, valid_statement, valid_act}

pub allowed : {A : Type 0} (b : Bool) (w : Which) (r : Result A LineError) (x : A) → within b w r ≡ Ok x → (b ≡ true) × (r ≡ Ok x)
allowed true w r x e = (refl, e)
allowed false w r x e = absurd (err_ok (Limit w) x e)

pub passed : {A : Type 0} (b : Bool) (r : Result A LineError) (x : A) → cond b r (Err Syntax) ≡ Ok x → (b ≡ true) × (r ≡ Ok x)
passed true r x e = (refl, e)
passed false r x e = absurd (err_ok Syntax x e)

abbrev pub input_with : Script → List Line → Input
input_with script schedule = record { script = script; schedule = schedule }

-- ---- what a state stands for

-- the rows that led to it
abbrev pub so_far : State → List (List Column)
so_far reading.First = []
so_far (reading.Second layout) = head_row layout ∷ []
so_far (reading.Start script) = head_row script.layout ∷ sizes_row script ∷ []
so_far (reading.Tasks script current) = head_row script.layout ∷ sizes_row script ∷ task_rows 0 (script.lists ++ current ∷ [])
so_far (reading.Lines script schedule) = script_rows script ++ (schedule_row ∷ map line_row schedule)
so_far (reading.Finished x) = rows x

-- the sizes keep their limits
pub record Sized (s : Script) : Type 0 where
  pub layout : is_version s.layout ≡ true
  pub tasks : (2 ≤ s.tasks) × (s.tasks ≤ 8)
  pub memory : (64 ≤ s.memory) × (s.memory ≤ 65536) × (s.memory % 4 ≡ 0)
  pub counters : s.counters ≤ 64
  pub workers : (1 ≤ s.workers) × (s.workers ≤ 4)

abbrev pub ValidList : List Statement → Type 0
ValidList list = (length list ≤ 512) × AllByRecursion ValidStatement list

-- and the lists so far too
pub record TasksKeep (script : Script) (current : List Statement) : Type 0 where
  pub sized : Sized script
  pub room : length script.lists + 1 ≤ script.tasks
  pub lists : AllByRecursion ValidList script.lists
  pub list : ValidList current

pub record Fits (x : Input) : Type 0 where
  pub script : ValidScript x.script
  pub schedule : ValidSchedule x.script spells_packet x.schedule

-- the limits that it keeps
abbrev pub Keeps : State → Type 0
Keeps reading.First = Unit {0}
Keeps (reading.Second layout) = is_version layout ≡ true
Keeps (reading.Start script) = Sized script × (script.lists ≡ [])
Keeps (reading.Tasks script current) = TasksKeep script current
Keeps (reading.Lines script schedule) = Fits (input_with script schedule)
Keeps (reading.Finished x) = Fits x

-- one row more
pub record Adds (state next : State) (words : List (List ℕ)) : Type 0 where
  pub keeps : Keeps next
  pub row : List Column
  pub rows : so_far next ≡ so_far state ++ row ∷ []
  pub spelled : IsRow row words

pub all_push : {A : Type 0} (P : A → Type 0) (xs : List A) (x : A) → AllByRecursion P xs → P x → AllByRecursion P (xs ++ x ∷ [])
all_push P [] x all p = (p, tt)
all_push P (y ∷ xs) x all p = (all.0, all_push P xs x all.1 p)

pub task_rows_push : (k : ℕ) (lists : List (List Statement)) (list : List Statement) → task_rows k (lists ++ list ∷ []) ≡ task_rows k lists ++ task_row (k + length lists) ∷ map statement_row list
task_rows_push k [] list =
    let here : k ≡ k + 0 = omega arith in
    rw (append-nil (map statement_row list)) (ap (λ n. task_row n ∷ map statement_row list) here)
task_rows_push k (first ∷ lists) list =
    let here : k + 1 + length lists ≡ k + suc (length lists) = omega arith in
    ap (λ r. task_row k ∷ (map statement_row first ++ r)) (task_rows_push (k + 1) lists list ∙ ap (λ n. task_rows (k + 1) lists ++ task_row n ∷ map statement_row list) here)
    ∙ ap (λ r. task_row k ∷ r) (sym (append_assoc (map statement_row first) (task_rows (k + 1) lists) (task_row (k + suc (length lists)) ∷ map statement_row list)))

-- a statement more in the last task
pub task_rows_more : (lists : List (List Statement)) (current : List Statement) (s : Statement) → task_rows 0 (lists ++ (current ++ s ∷ []) ∷ []) ≡ task_rows 0 (lists ++ current ∷ []) ++ statement_row s ∷ []
task_rows_more lists current s =
    let front = task_rows 0 lists in
    let head = task_row (0 + length lists) in
    task_rows_push 0 lists (current ++ s ∷ [])
    ∙ ap (λ r. front ++ head ∷ r) (map-append statement_row current (s ∷ []))
    ∙ sym (append_assoc front (head ∷ map statement_row current) (statement_row s ∷ []))
    ∙ ap (λ r. r ++ statement_row s ∷ []) (sym (task_rows_push 0 lists current))

-- a task more
pub tasks_push : (script : Script) (current : List Statement) (t : ℕ) → t ≡ length script.lists + 1
    → so_far (reading.Tasks (with_task script current) []) ≡ so_far (reading.Tasks script current) ++ task_row t ∷ []
tasks_push script current t is =
    let lists : List (List Statement) = script.lists ++ current ∷ [] in
    let len : length lists ≡ length script.lists + 1 = length-append script.lists (current ∷ []) in
    let here : 0 + length lists ≡ t = omega (arith, is, len) in
    ap (λ r. head_row script.layout ∷ sizes_row script ∷ r) (task_rows_push 0 lists [] ∙ ap (λ n. task_rows 0 lists ++ task_row n ∷ []) here)

pub next_task_keeps : (script : Script) (current : List Statement) → TasksKeep script current → length script.lists + 1 < script.tasks → TasksKeep (with_task script current) []
next_task_keeps script current keeps lt = record {
  sized = record { layout = keeps.sized.layout; tasks = keeps.sized.tasks; memory = keeps.sized.memory; counters = keeps.sized.counters; workers = keeps.sized.workers };
  room = omega (arith, lt, length-append script.lists (current ∷ []));
  lists = all_push ValidList script.lists current keeps.lists keeps.list;
  list = (omega arith, tt);
}

pub schedule_keeps : (script : Script) (current : List Statement) → TasksKeep script current → length script.lists + 1 ≡ script.tasks → Fits (input_with (with_task script current) [])
schedule_keeps script current keeps is = record {
  script = record {
    layout = keeps.sized.layout;
    tasks = keeps.sized.tasks;
    memory = keeps.sized.memory;
    counters = keeps.sized.counters;
    workers = keeps.sized.workers;
    one_list_each = length-append script.lists (current ∷ []) ∙ is;
    lists = all_push ValidList script.lists current keeps.lists keeps.list;
  };
  schedule = record { count = omega arith; lines = tt };
}

-- ---- what a line adds

pub checked_sizes_fit : (s t : Script) → is_version s.layout ≡ true → checked_sizes s ≡ Ok t → (s ≡ t) × Sized s
checked_sizes_fit s t layout e =
    let a = allowed _ _ _ t e in
    let b = allowed _ _ _ t a.1 in
    let c = allowed _ _ _ t b.1 in
    let d = allowed _ _ _ t c.1 in
    let tasks = both_true _ _ a.0 in
    let memory = both_true _ _ b.0 in
    let range = both_true _ _ memory.0 in
    let workers = both_true _ _ d.0 in (
      same_Ok s t d.1,
      record {
        layout = layout;
        tasks = (leb-true _ _ tasks.0, leb-true _ _ tasks.1);
        memory = (leb-true _ _ range.0, leb-true _ _ range.1, eqb-true _ _ memory.1);
        counters = leb-true _ _ c.0;
        workers = (leb-true _ _ workers.0, leb-true _ _ workers.1);
      },
    )

first_adds : (script : Script) (next : State) (words : List (List ℕ)) (line : TaskLine) → Keeps (reading.Start script) → TaskLineSays line words → on_first_task script line ≡ Ok next → Adds (reading.Start script) next words
first_adds script next words (Task t) keeps z e =
    let p = passed (t == 0) (Ok (reading.Tasks script [])) next e in
    let none = keeps.1 in
    let first : task_rows 0 (script.lists ++ [] ∷ []) ≡ task_row 0 ∷ [] = rw none refl in
    let kept : TasksKeep script [] = record {
      sized = keeps.0;
      room = rw none (omega (arith, keeps.0.tasks.0));
      lists = rw none tt;
      list = (omega arith, tt);
    } in
    subst (λ n. Adds (reading.Start script) n words) (same_Ok _ _ p.1) (record {
      keeps = kept;
      row = task_row 0;
      rows = ap (λ r. head_row script.layout ∷ sizes_row script ∷ r) first;
      spelled = subst (λ n. IsRow (task_row n) words) (eqb-true t 0 p.0) z;
    })
first_adds script next words Schedule keeps z e = absurd (err_ok Syntax next e)
first_adds script next words (StatementLine s) keeps z e = absurd (err_ok Syntax next e)

statement_adds : (script : Script) (current : List Statement) (next : State) (words : List (List ℕ)) (s : Statement) → TasksKeep script current → Says s words → on_statement script current s ≡ Ok next
    → Adds (reading.Tasks script current) next words
statement_adds script current next words s keeps says e =
    let a = allowed _ which.Statements _ next e in
    let b = allowed (keeps_pieces s) which.Pieces _ next a.1 in
    let c = allowed (keeps_bytes s) which.Bytes _ next b.1 in
    let len : length (current ++ s ∷ []) ≡ length current + 1 = length-append current (s ∷ []) in
    let valid : ValidStatement s = valid_statement s (row_fit (statement_row s) words says.row) says.operand b.0 c.0 in
    let kept : TasksKeep script (current ++ s ∷ []) = record {
      sized = keeps.sized;
      room = keeps.room;
      lists = keeps.lists;
      list = (omega (arith, len, ltb-true _ _ a.0), all_push ValidStatement current s keeps.list.1 valid);
    } in
    subst (λ n. Adds (reading.Tasks script current) n words) (same_Ok _ _ c.1) (record {
      keeps = kept;
      row = statement_row s;
      rows = ap (λ r. head_row script.layout ∷ sizes_row script ∷ r) (task_rows_more script.lists current s);
      spelled = says.row;
    })

task_line_adds : (script : Script) (current : List Statement) (next : State) (words : List (List ℕ)) (line : TaskLine) → TasksKeep script current → TaskLineSays line words → on_task_line script current line ≡ Ok next
    → Adds (reading.Tasks script current) next words
task_line_adds script current next words (Task t) keeps z e =
    let p = passed _ _ next e in
    let both = both_true _ _ p.0 in
    let is : t ≡ length script.lists + 1 = eqb-true _ _ both.0 in
    subst (λ n. Adds (reading.Tasks script current) n words) (same_Ok _ _ p.1) (record {
      keeps = next_task_keeps script current keeps (omega (arith, is, ltb-true _ _ both.1));
      row = task_row t;
      rows = tasks_push script current t is;
      spelled = z;
    })
task_line_adds script current next words Schedule keeps z e =
    let p = passed _ _ next e in
    subst (λ n. Adds (reading.Tasks script current) n words) (same_Ok _ _ p.1) (record {
      keeps = schedule_keeps script current keeps (eqb-true _ _ p.0);
      row = schedule_row;
      rows = refl;
      spelled = z;
    })
task_line_adds script current next words (StatementLine s) keeps z e = statement_adds script current next words s keeps z e

pub is_one_word : (text : List ℕ) (words : List (List ℕ)) → is_word text words ≡ true → words ≡ text ∷ []
is_one_word text [] e = absurd (false≢true e)
is_one_word text (word ∷ []) e = ap (λ w. w ∷ []) (same_text_is word text e)
is_one_word text (word ∷ other ∷ words) e = absurd (false≢true e)

line_adds : (script : Script) (schedule : List Line) (next : State) (words : List (List ℕ)) (line : Line) → Fits (input_with script schedule) → IsRow (line_row line) words → on_line script schedule line ≡ Ok next
    → Adds (reading.Lines script schedule) next words
line_adds script schedule next words line keeps z e =
    let to : Result State LineError = Ok (reading.Lines script (schedule ++ line ∷ [])) in
    let injected = within (keeps_injected line.act) which.Bytes to in
    let lane = within (nat_le line.lane 15) which.Lane injected in
    let lines = within (nat_lt (length schedule) (most_lines (layout_of script.layout))) which.Lines lane in
    let p = passed (names_known script line.act) lines next e in
    let a = allowed (nat_lt (length schedule) (most_lines (layout_of script.layout))) which.Lines lane next p.1 in
    let b = allowed (nat_le line.lane 15) which.Lane injected next a.1 in
    let c = allowed (keeps_injected line.act) which.Bytes to next b.1 in
    let len : length (schedule ++ line ∷ []) ≡ length schedule + 1 = length-append schedule (line ∷ []) in
    let valid : ValidLine script spells_packet line = (leb-true _ _ b.0, valid_act script line.act (row_fit (line_row line) words z).1 p.0 c.0) in
    let kept : Fits (input_with script (schedule ++ line ∷ [])) = record {
      script = keeps.script;
      schedule = record {
        count = omega (arith, len, ltb-true _ _ a.0);
        lines = all_push (ValidLine script spells_packet) schedule line keeps.schedule.lines valid;
      };
    } in
    subst (λ n. Adds (reading.Lines script schedule) n words) (same_Ok _ _ c.1) (record {
      keeps = kept;
      row = line_row line;
      rows = ap (λ r. script_rows script ++ schedule_row ∷ r) (map-append line_row schedule (line ∷ []))
          ∙ sym (append_assoc (script_rows script) (schedule_row ∷ map line_row schedule) (line_row line ∷ []));
      spelled = z;
    })

-- a line adds its row
pub step_says : (state next : State) (words : List (List ℕ)) → Keeps state → step state words ≡ Ok next → Adds state next words
unfolding step
step_says reading.First next words keeps e =
    let h = bound (run head_form words) _ next e in
    let p = passed _ _ next h.2 in
    subst (λ n. Adds reading.First n words) (same_Ok _ _ p.1) (record { keeps = p.0; row = head_row h.0; rows = refl; spelled = head_says words h.0 h.1 })
step_says (reading.Second layout) next words keeps e =
    let h = bound (run (sizes_form layout) words) _ next e in
    let c = bound (checked_sizes h.0) _ next h.2 in
    second_adds layout h.0 c.0 next words keeps (sizes_says layout words h.0 h.1) c.1 (same_Ok _ _ c.2)
  where
    second_adds : (layout : ℕ) (s t : Script) (next : State) (words : List (List ℕ)) → is_version layout ≡ true → SizesSay layout s words → checked_sizes s ≡ Ok t → reading.Start t ≡ next → Adds (reading.Second layout) next words
    second_adds layout s t next words is says checked to =
        let fit = checked_sizes_fit s t (ap is_version says.same_layout ∙ is) checked in
        subst (λ n. Adds (reading.Second layout) n words) (ap (λ s. reading.Start s) fit.0 ∙ to) (record {
          keeps = (fit.1, says.none);
          row = sizes_row s;
          rows = ap (λ n. head_row n ∷ sizes_row s ∷ []) says.same_layout;
          spelled = says.row;
        })
step_says (reading.Start script) next words keeps e =
    let h = bound (run task_line_form words) _ next e in
    first_adds script next words h.0 keeps (task_line_says words h.0 h.1) h.2
step_says (reading.Tasks script current) next words keeps e =
    let h = bound (run task_line_form words) _ next e in
    task_line_adds script current next words h.0 keeps (task_line_says words h.0 h.1) h.2
step_says (reading.Lines script schedule) next words keeps e = at (chosen _ _ _ _ e)
  where
    at : ((is_word (codes "done") words ≡ true) × (◌≡◌ {A = Result State LineError} (Ok (reading.Finished (input_with script schedule))) (Ok next)))
        ⊎ ((is_word (codes "done") words ≡ false) × (and_then (run line_form words) (on_line script schedule) ≡ Ok next)) → Adds (reading.Lines script schedule) next words
    at (inl h) = subst (λ n. Adds (reading.Lines script schedule) n words) (same_Ok _ _ h.1) (record {
      keeps = keeps;
      row = done_row;
      rows = sym (append_assoc (script_rows script) (schedule_row ∷ map line_row schedule) (done_row ∷ []));
      spelled = rw (is_one_word (codes "done") words h.0) (refl, tt);
    })
    at (inr h) =
        let l = bound (run line_form words) (on_line script schedule) next h.1 in
        line_adds script schedule next words l.0 keeps (line_says words l.0 l.1) l.2
step_says (reading.Finished x) next words keeps e = absurd (err_ok Syntax next e)

-- all lines from a state on
pub record Goes (state : State) (x : Input) (lines : List (List ℕ)) : Type 0 where
  pub more : List (List Column)
  pub whole : rows x ≡ so_far state ++ more
  pub clean : AllByRecursion (λ line. IsTrue (is_clean line)) lines
  pub spelled : AllZip IsRow more (read_words lines)
  pub fits : Fits x

pub fault_ok : {A : Type 0} (e : LineError × ℕ) (x : A) → Err e ≡ Ok x → ⊥
fault_ok e x h = cc

pub same_read : {A : Type 0} (x y : A) → ◌≡◌ {A = Result A (LineError × ℕ)} (Ok x) (Ok y) → x ≡ y
same_read x y h = cc

at_the_end : (l : ℕ) (state : State) (x : Input) → Keeps state → input_of l state ≡ Ok x → Goes state x []
at_the_end l reading.First x keeps e = absurd (fault_ok _ x e)
at_the_end l (reading.Second layout) x keeps e = absurd (fault_ok _ x e)
at_the_end l (reading.Start script) x keeps e = absurd (fault_ok _ x e)
at_the_end l (reading.Tasks script current) x keeps e = absurd (fault_ok _ x e)
at_the_end l (reading.Lines script schedule) x keeps e = absurd (fault_ok _ x e)
at_the_end l (reading.Finished y) x keeps e =
    subst (λ x. Goes (reading.Finished y) x []) (same_read y x e) (record { more = []; whole = sym (append-nil (rows y)); clean = tt; spelled = tt; fits = keeps })

pub line_ok : (l : ℕ) (r : Result State LineError) (f : State → Result Input (LineError × ℕ)) (x : Input) → at_line l r f ≡ Ok x → (next : State) × (r ≡ Ok next) × (f next ≡ Ok x)
line_ok l (Ok next) f x e = (next, refl, e)
line_ok l (Err w) f x e = absurd (fault_ok _ x e)

-- one line before others: a skipped one, or a row
skipped_line : (state : State) (x : Input) (line : List ℕ) (lines : List (List ℕ)) → is_clean line ≡ true → is_skipped (words_of line) ≡ true → Goes state x lines → Goes state x (line ∷ lines)
skipped_line state x line lines clean skipped g = record {
  more = g.more;
  whole = g.whole;
  clean = (clean, g.clean);
  spelled = rw skipped g.spelled;
  fits = g.fits;
}

row_line : (state next : State) (x : Input) (line : List ℕ) (lines : List (List ℕ)) → is_clean line ≡ true → is_skipped (words_of line) ≡ false → Adds state next (words_of line) → Goes next x lines → Goes state x (line ∷ lines)
row_line state next x line lines clean skipped a g = record {
  more = a.row ∷ g.more;
  whole = g.whole ∙ ap (λ r. r ++ g.more) a.rows ∙ append_assoc (so_far state) (a.row ∷ []) g.more;
  clean = (clean, g.clean);
  spelled = rw skipped (a.spelled, g.spelled);
  fits = g.fits;
}

pub after_says : (state next : State) (line : List ℕ) → Keeps state → after state line ≡ Ok next
    → (is_clean line ≡ true) × (((is_skipped (words_of line) ≡ true) × (state ≡ next)) ⊎ ((is_skipped (words_of line) ≡ false) × Adds state next (words_of line)))
unfolding after
after_says state next line keeps e =
    let p = passed _ _ next e in
    (p.0, at (chosen _ _ _ _ p.1))
  where
    at : ((is_skipped (words_of line) ≡ true) × (◌≡◌ {A = Result State LineError} (Ok state) (Ok next))) ⊎ ((is_skipped (words_of line) ≡ false) × (step state (words_of line) ≡ Ok next))
        → ((is_skipped (words_of line) ≡ true) × (state ≡ next)) ⊎ ((is_skipped (words_of line) ≡ false) × Adds state next (words_of line))
    at (inl h) = inl (h.0, same_Ok _ _ h.1)
    at (inr h) = inr (h.0, step_says state next (words_of line) keeps h.1)

pub lines_say : (l : ℕ) (state : State) (lines : List (List ℕ)) (x : Input) → Keeps state → read_from l state lines ≡ Ok x → Goes state x lines
lines_say l state [] x keeps e = at_the_end l state x keeps e
lines_say l state (line ∷ lines) x keeps e =
    let n = line_ok l (after state line) _ x e in
    at n.0 (after_says state n.0 line keeps n.1) (λ k. lines_say (l + 1) n.0 lines x k n.2)
  where
    at : (next : State) → (is_clean line ≡ true) × (((is_skipped (words_of line) ≡ true) × (state ≡ next)) ⊎ ((is_skipped (words_of line) ≡ false) × Adds state next (words_of line)))
        → (Keeps next → Goes next x lines) → Goes state x (line ∷ lines)
    at next (clean, inl h) rest = skipped_line state x line lines clean h.0 (subst (λ s. Goes s x lines) (sym h.1) (rest (subst Keeps h.1 keeps)))
    at next (clean, inr h) rest = row_line state next x line lines clean h.0 h.1 (rest h.1.keeps)

-- what is read is spelled so
pub sound : (lines : List (List ℕ)) (x : Input) → read_from 1 reading.First lines ≡ Ok x → IsRead x lines
sound lines x e =
    let g = lines_say 1 reading.First lines x tt e in
    record {
      clean = g.clean;
      rows = subst (λ rs. AllZip IsRow rs (read_words lines)) (sym g.whole) g.spelled;
      script = g.fits.script;
      schedule = g.fits.schedule;
    }
